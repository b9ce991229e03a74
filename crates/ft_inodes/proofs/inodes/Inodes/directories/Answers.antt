use Rattle.std.proofs.Common.{sym, ap, subst, ◌∙◌}
use Rattle.std.specs.FinMap as finite
use Rattle.ft_inodes.specs.Stored.{InodeCells}
use Rattle.ft_inodes.specs.Keyed.{dir_in, is_dir, AllLead, listed_by}
use Rattle.ft_inodes.proofs.Shown.{all-lead, entries-shown}
use Rattle.ft_inodes.proofs.inodes.Inodes.directories.Goals as goal

pub invariant_of-result : goal.invariant_of-result
invariant_of-result c =
    subst (AllLead is_dir c.self.inside.slab) (sym c.entries.ensures) (all-lead is_dir c.self.inside.slab c.self.inside.directories c.self.invariant.0)

-- the entries in the order of the index
pub returns : goal.returns
returns c =
    ap (listed_by dir_in c.self.inside.slab) c.entries.ensures
    ∙ sym (entries-shown dir_in c.self.inside.slab c.self.inside.directories)
    ∙ ap (λ (m : InodeCells). finite.entries m.directories) c.self.view_is
