use Rattle.std.proofs.Common.{ap, sym, ◌∙◌}
use Rattle.ft_open_files.specs.Openings.{described}
use Rattle.ft_open_files.proofs.Opened.{described-forget}
use Rattle.ft_open_files.proofs.open_files.OpenFiles.forget.Goals as goal

pub invariant_of-self : goal.invariant_of-self
invariant_of-self c = λ yes i.
    ap (λ m. described m i) c.remove.ensures.after
    ∙ described-forget c.self.inside.counts c.args.file (sym c.counted.ensures ∙ c.if-counted-eq0.true) i
    ∙ c.self.invariant yes i
