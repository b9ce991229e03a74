use Rattle.std.proofs.Common.{ℕ, ◌-◌, ◌<◌, ◌≤◌, length}
use Rattle.ft_body.specs.Blocks.{placed_at}
use Rattle.ft_body.proofs.blocks.place_of.Given as goal

abbrev pub invariant-loop-low : goal.invariant-loop-low
invariant-loop-low l = record {
  order : l.low ≤ l.high;
  within : l.high ≤ length l.blocks;
  before : (k : ℕ) → k < l.low → (placed_at l.blocks k).at < l.at;
  behind : (k : ℕ) → l.high ≤ k → k < length l.blocks → l.at ≤ (placed_at l.blocks k).at;
}

abbrev pub decreases-loop-low : goal.decreases-loop-low
decreases-loop-low l = l.high - l.low
