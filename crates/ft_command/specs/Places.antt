-- The directory of the tree that is to hold everything.
use Rattle.std.specs.Prelude.{◌≡◌, ◌&&◌, ℕ, Bool, List, codes, if◌then◌else◌, Option, None, Some, option_and_then}
use Rattle.std.specs.Result.{is_ok}
use Rattle.clap.specs.Words.{Row, Text, first_of}
use Rattle.ft_path.specs.FilePath.{begins_with_slash, parts_of}
use Rattle.ft_words.specs.Spelling.{parse_path}

-- an absolute path whose text has no fault
abbrev pub is_place : List ℕ → Bool
is_place path = begins_with_slash path && is_ok (parts_of path)

-- a path that is one, and nothing else
abbrev pub only_place : List ℕ → Option (List ℕ)
only_place path = if is_place path then Some path else None

-- the path that a word codes, as in a script, if it is one
abbrev pub place_of : Text → Option (List ℕ)
place_of word = option_and_then only_place (parse_path word)

-- the path that is asked for, if a word for it was found
abbrev pub IsPlaceIn : Option Text → Option (List ℕ) → Type 0
IsPlaceIn None at = at ≡ None
IsPlaceIn (Some word) at = (path : List ℕ) × (at ≡ Some path) × (place_of word ≡ Some path)

-- the same, by all that was found
abbrev pub TellsPlace : List Row → Option (List ℕ) → Type 0
TellsPlace found at = IsPlaceIn (first_of (codes "at") found) at

-- a word was found that is none
abbrev pub HasBadPlace : List Row → Type 0
HasBadPlace found = (word : Text) × (first_of (codes "at") found ≡ Some word) × (place_of word ≡ None)
