use Rattle.std.proofs.Common.{ap, ◌∙◌}
use Rattle.std.specs.FinMap as finite
use Rattle.ft_inodes.specs.Stored.{InodeCells}
use Rattle.ft_inodes.specs.Keyed.{dir_in}
use Rattle.ft_inodes.proofs.Shown.{len-shown}
use Rattle.ft_inodes.proofs.inodes.Inodes.directory_count.Goals as goal

pub returns : goal.returns
returns c =
    c.len.ensures ∙ len-shown dir_in c.self.inside.slab c.self.inside.directories
    ∙ ap (λ (m : InodeCells). finite.len m.directories) c.self.view_is
