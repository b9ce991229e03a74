use Rattle.std.proofs.Common.{ℕ, ◌<◌, ◌≤◌, get_or}
use Rattle.ft_waits.proofs.verdict.place_of_least.Given as goal

-- no member so far is less than the one at `least`
abbrev pub invariant-loop-place : goal.invariant-loop-place
invariant-loop-place l = record {
  before : (0 < l.place → l.least < l.place) × (l.least ≤ l.place);
  least : (k : ℕ) → k < l.place → get_or l.members l.least 0 ≤ get_or l.members k 0;
}
