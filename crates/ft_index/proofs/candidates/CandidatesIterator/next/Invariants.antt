use Rattle.std.proofs.Common.{◌≡◌, ◌-◌, drop, length}
use Rattle.ft_index.specs.Slots.{keys_of}
use Rattle.ft_index.proofs.candidates.CandidatesIterator.next.Given as goal

-- what was passed has other hashes
abbrev pub invariant-loop-self : goal.invariant-loop-self
invariant-loop-self l = record {
  same : keys_of l.self-inside.hash (drop l.self-inside.at l.self-inside.slots.now) ≡ l.fn.self;
}

abbrev pub decreases-loop-self : goal.decreases-loop-self
decreases-loop-self l = length l.self-inside.slots.now - l.self-inside.at
