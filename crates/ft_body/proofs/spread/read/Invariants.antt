use Rattle.std.proofs.Common.{◌≡◌, ℕ, ◌+◌, ◌*◌, ◌<◌, get_or, length}
use Prim.Native.Nat.{min, max}
use Rattle.ft_body.specs.Blocks.{byte_of}
use Rattle.ft_body.proofs.spread.read.Given as goal

abbrev pub invariant-loop-at : goal.invariant-loop-at
invariant-loop-at l = record {
  count : l.start + length l.read.items ≡ min l.end (max l.start (l.at * 2097152));
  bytes : (k : ℕ) → k < length l.read.items → get_or l.read.items k 0 ≡ byte_of l.blocks (l.start + k);
}
