-- The part of a script that is read for the line of its needs.
use Rattle.std.specs.Prelude.{◌≡◌, ◌⊎◌, ◌≤◌, ℕ, List, ◌∷◌, ◌++◌, length, Option}
use Rattle.std.specs.Io.KnownBytes.{IsAtEnd}
use Rattle.ft_needs.specs.declared.front.TheConstants.{LONGEST_NEEDS}

-- the first line of the text has its line feed
abbrev pub HasLine : List ℕ → Type 0
HasLine text = (line : List ℕ) × (behind : List ℕ) × (text ≡ line ++ 10 ∷ behind)

-- The front of a script has its first line, or so many bytes as are read for one, or there is
-- nothing after it.
abbrev pub IsFront : List ℕ → Option (List ℕ) → Type 0
IsFront front left = HasLine front ⊎ (LONGEST_NEEDS ≤ length front) ⊎ IsAtEnd left
