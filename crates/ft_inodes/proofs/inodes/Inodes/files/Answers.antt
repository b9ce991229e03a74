use Rattle.std.proofs.Common.{sym, ap, subst, ◌∙◌}
use Rattle.std.specs.FinMap as finite
use Rattle.ft_inodes.specs.Stored.{InodeCells}
use Rattle.ft_inodes.specs.Keyed.{file_in, is_file, AllLead, listed_by}
use Rattle.ft_inodes.proofs.Shown.{all-lead, entries-shown}
use Rattle.ft_inodes.proofs.inodes.Inodes.files.Goals as goal

pub invariant_of-result : goal.invariant_of-result
invariant_of-result c =
    subst (AllLead is_file c.self.inside.slab) (sym c.entries.ensures) (all-lead is_file c.self.inside.slab c.self.inside.files c.self.invariant.1)

-- the entries in the order of the index
pub returns : goal.returns
returns c =
    ap (listed_by file_in c.self.inside.slab) c.entries.ensures
    ∙ sym (entries-shown file_in c.self.inside.slab c.self.inside.files)
    ∙ ap (λ (m : InodeCells). finite.entries m.files) c.self.view_is
