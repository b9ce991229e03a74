use Rattle.std.proofs.Common.{◌≡◌, ℕ, ◌<◌, get_or, true}
use Rattle.std.specs.Prelude.{◌==◌}
use Rattle.ft_words.proofs.split.split_near.Given as goal

-- the byte is at no place so far
abbrev pub invariant-loop-at : goal.invariant-loop-at
invariant-loop-at l = (k : ℕ) → k < l.at → (get_or l.fn.text k 0 == l.fn.byte) ≡ true → ⊥
