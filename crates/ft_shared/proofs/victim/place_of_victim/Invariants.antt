use Rattle.std.proofs.Common.{ℕ, ◌<◌, ◌≤◌, get_or}
use Rattle.ft_shared.specs.Victims.{victim_rank}
use Rattle.ft_shared.proofs.victim.place_of_victim.Given as goal

-- no member so far has a greater rank than the one at `victim`
abbrev pub invariant-loop-place : goal.invariant-loop-place
invariant-loop-place l = record {
  before : (0 < l.place → l.victim < l.place) × (l.victim ≤ l.place);
  greatest : (k : ℕ) → k < l.place → victim_rank l.edges l.members (get_or l.members k 0) ≤ victim_rank l.edges l.members (get_or l.members l.victim 0);
}
