use Rattle.std.proofs.Common.{◌≡◌, take}
use Rattle.ft_body.proofs.spread.copy_of_blocks.Given as goal

abbrev pub invariant-loop-placed : goal.invariant-loop-placed
invariant-loop-placed l = l.copy.items ≡ take l.placed-index l.blocks
