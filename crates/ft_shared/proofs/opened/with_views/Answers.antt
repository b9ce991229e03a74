use Rattle.std.proofs.Common.{subst}
use Rattle.ft_cells.specs.Plain.{PlainTree}
use Rattle.ft_shared.specs.Opening.{AreCopies}
use Rattle.ft_shared.proofs.Readable.{readable}
use Rattle.ft_shared.proofs.opened.with_views.Goals as goal

pub blank-requires : goal.blank-requires
blank-requires g c = readable c.base.result.now (g.C.Shareable.stored c.args.core).state.base.last_stamp c.base.ensures.base c.base.ensures.last c.base.ensures.bare

pub invariant_of-result : goal.invariant_of-result
invariant_of-result g c =
    let blank = c.in-Ok.blank in (
      c.requires.kept,
      subst (λ (t : PlainTree). AreCopies t blank.book blank.nothing blank.first blank.second) c.base.ensures.tree c.in-Ok.ensures,
    )
