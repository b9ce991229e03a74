use Rattle.std.proofs.Common.{ap, ◌/◌}
use Rattle.ft_inodes.specs.Named.{short_hash}
use Rattle.ft_inodes.proofs.place.hash_of.Goals as goal

pub returns : goal.returns
unfolding short_hash
returns c = ap (λ h. h / 4294967296) c.hashed.ensures
