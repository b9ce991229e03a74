use Rattle.std.proofs.Common.{ap, sym, ◌∙◌}
use Rattle.ft_open_files.specs.Openings.{openings, described}
use Rattle.ft_open_files.proofs.Opened.{described-empty, openings-empty}
use Rattle.ft_open_files.proofs.open_files.OpenFiles.new.Goals as goal

pub invariant_of-result : goal.invariant_of-result
invariant_of-result c = λ yes i. ap (λ m. described m i) c.new-2.ensures ∙ described-empty i ∙ sym (ap (λ m. openings m i) c.new.ensures ∙ openings-empty i)
