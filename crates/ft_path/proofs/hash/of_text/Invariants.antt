use Rattle.std.proofs.Common.{◌≡◌, ◌-◌, ◌*◌, drop}
use Rattle.ft_path.specs.Hashed.{with_words, hashed}
use Rattle.ft_path.proofs.hash.of_text.Given as goal

-- the words left complete the hash
abbrev pub invariant-loop-word : goal.invariant-loop-word
invariant-loop-word l = with_words (l.word-end - l.word) l.hash (drop (8 * l.word) l.bytes) ≡ hashed l.fn.seed l.bytes
