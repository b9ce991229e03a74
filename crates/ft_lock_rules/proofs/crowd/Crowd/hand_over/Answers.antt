use Rattle.std.proofs.Common.{is_some, sym, ap, ◌∙◌}
use Rattle.std.specs.FinMap as finite
use Rattle.ft_lock_rules.proofs.HolderLists.{handed-marked}
use Rattle.ft_lock_rules.proofs.crowd.Crowd.hand_over.Goals as goal

pub returns-then-is_there-clause-after : goal.returns-then-is_there-clause-after
returns-then-is_there-clause-after c =
    c.remove.ensures ∙ ap (λ m. finite.remove m c.args.from) c.mark.ensures
    ∙ handed-marked c.args.self.now c.args.from c.args.to c.args.marks c.requires.apart
    (ap (λ o. is_some o) (sym c.get.ensures) ∙ sym c.is_some-is_there.ensures ∙ c.if-is_there.true)
