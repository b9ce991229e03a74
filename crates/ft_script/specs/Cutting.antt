-- Lines in bytes.
use Rattle.std.specs.Prelude.{◌≡◌, ◌⊎◌, ◌<◌, ◌≤◌, ℕ, List, ◌∷◌, ◌++◌, [], length}
use Rattle.std.specs.List.{flat_map, AllByRecursion}
use Rattle.ft_script.specs.declared.playing.TheConstants.{LONGEST_LINE}
use Rattle.ft_words.specs.Spelling.{IsFreeOf}

-- a line with the line feed after it
abbrev pub ended : List ℕ → List ℕ
ended bytes = bytes ++ 10 ∷ []

-- the line has at most `LONGEST_LINE` bytes
abbrev pub Fits : List ℕ → Type 0
Fits bytes = length bytes ≤ LONGEST_LINE

-- The bytes are these lines, each with a line feed after it, and then the rest. None of the lines
-- has a line feed in it, or is too long.
pub record Cuts (bytes : List ℕ) (lines : List (List ℕ)) (rest : List ℕ) : Type 0 where
  pub whole : bytes ≡ flat_map ended lines ++ rest
  pub each : AllByRecursion (IsFreeOf 10) lines
  pub fits : AllByRecursion Fits lines

-- The bytes begin with more than `LONGEST_LINE` bytes among which there is no line feed.
abbrev pub BeginsTooLong : List ℕ → Type 0
BeginsTooLong bytes = (front : List ℕ) × (back : List ℕ) × (bytes ≡ front ++ back) × IsFreeOf 10 front × (LONGEST_LINE < length front)

-- The bytes begin with this line, which has its line feed, or is all of them if the script ends
-- there; it is not too long.
pub record IsNext (ends : Type 0) (bytes line : List ℕ) : Type 0 where
  pub free : IsFreeOf 10 line
  pub fits : Fits line
  pub ended : ((behind : List ℕ) × (bytes ≡ line ++ 10 ∷ behind)) ⊎ (ends × (bytes ≡ line))
