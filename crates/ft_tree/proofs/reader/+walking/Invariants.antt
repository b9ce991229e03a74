use Rattle.std.proofs.Common.{◌+◌, ◌*◌}
use Rattle.ft_tree.proofs.reader.+walking.Given as goal

-- each link that is followed leaves one less
abbrev pub decreases-walk_on : goal.decreases-walk_on
decreases-walk_on g l = l.links.left * 2

abbrev pub decreases-onward : goal.decreases-onward
decreases-onward g l = l.links.left * 2 + 1
