-- The bytes of a name as they are kept: in place with zeros after them, or in a vector. No caller
-- needs to know this: a `Name` keeps it true of its fields.
use Rattle.std.specs.Prelude.{◌≡◌, ◌<◌, ◌≤◌, ℕ, List, length, take, drop}
use Rattle.std.specs.List.{AllByRecursion}
use Rattle.ft_path.specs.declared.TheConstants.{SHORT_NAME}
use Rattle.ft_path.specs.declared.bytes.Bytes.{Bytes}
use Rattle.ft_path.specs.declared.bytes.Bytes.TheVariants.{Short, Long}

-- the bytes of the name
abbrev pub kept : Bytes → List ℕ
kept (Short len place) = take len place
kept (Long long) = long.value.items

-- each of the bytes is zero
abbrev pub AreZeros : List ℕ → Type 0
AreZeros bytes = AllByRecursion (λ byte. byte ≡ 0) bytes

-- the bytes in place are no more than there is room for, and zeros follow them
pub record IsPadded (len : ℕ) (place : List ℕ) : Type 0 where
  pub few : len ≤ SHORT_NAME
  pub whole : length place ≡ SHORT_NAME
  pub zeros : AreZeros (drop len place)

-- bytes in place are padded, and bytes in a vector are too many to be in place
abbrev pub Fits : Bytes → Type 0
Fits (Short len place) = IsPadded len place
Fits (Long long) = SHORT_NAME < length long.value.items
