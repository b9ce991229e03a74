use Rattle.std.proofs.Common.{ℕ, ◌<◌, ◌≤◌, get_or}
use Rattle.ft_waits.proofs.youngest.place_of_youngest.Given as goal

-- no member so far is greater than the one at `youngest`
abbrev pub invariant-loop-place : goal.invariant-loop-place
invariant-loop-place l = record {
  before : (0 < l.place → l.youngest < l.place) × (l.youngest ≤ l.place);
  youngest : (k : ℕ) → k < l.place → get_or l.members k 0 ≤ get_or l.members l.youngest 0;
}
