-- The hash of a text under a seed, by which an index finds it.
use Rattle.std.specs.Prelude.{◌+◌, ◌/◌, ℕ, zero, suc, List, length, drop}
use Rattle.ft_path.specs.Front.{front_of}
use Rattle.ft_index.specs.Mix.{mix}

-- `count` words of a text, of eight bytes each, mixed in turn
abbrev pub with_words : ℕ → ℕ → List ℕ → ℕ
with_words zero hash bytes = hash
with_words (suc count) hash bytes = with_words count (mix hash (front_of bytes)) (drop 8 bytes)

-- the length of the text and then all its words, mixed; bytes that the last word lacks count as
-- zeros
unfoldable pub hashed : ℕ → List ℕ → ℕ
hashed seed bytes = with_words (length bytes / 8 + 1) (mix seed (length bytes)) bytes
