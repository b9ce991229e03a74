-- How the places of a directory hold its names. A caller does not need to know this: `Places` keeps
-- it true of its fields.
use Rattle.std.specs.Prelude.{◌≡◌, ◌≢◌, ◌<◌, ◌+◌, ◌-◌, ◌/◌, ◌^◌, ℕ, Bool, List, [], map, length, Option, Some, None, slice_get, option_map}
use Rattle.std.specs.Ordering.{nat_cmp, is_lt}
use Rattle.std.specs.Cmp.Lexicographic.{slice_cmp}
use Rattle.std.specs.FinMap as finite
use Rattle.std.specs.Global.{Box}
use Rattle.std.specs.Borrow.{Bor}
use Rattle.ft_path.specs.Hashed.{hashed}
use Rattle.ft_cells.specs.declared.node.Node.{Node}
use Rattle.ft_inodes.specs.declared.place.Place.{Place}
use Rattle.ft_inodes.specs.declared.name_index.NameIndex.{NameIndex}

-- the entries of a directory, as clauses see them
abbrev pub Entries : Type 0
Entries = finite.FinMap (slice_cmp nat_cmp) (Option Node)

-- the name of a place, and the content of the place
abbrev pub pair : Place → List ℕ × Option Node
pair place = (place.name, place.child)

-- the names and contents of the places
abbrev pub pairs_in : List Place → List (List ℕ × Option Node)
pairs_in places = map pair places

-- the entries that places represent
abbrev pub entries_in : List Place → Entries
entries_in places = finite.from_entries (pairs_in places)

-- the names and contents of places that are lent to be read
abbrev pub shown : List (Bor Place) → List (List ℕ × Option Node)
shown places = map (λ place. pair place.now) places

-- the name of the first place is before the name of the second
abbrev pub is_before : Bor Place → Bor Place → Bool
is_before a b = is_lt (slice_cmp nat_cmp a.now.name b.now.name)

-- the names of places
abbrev pub names_in : List Place → List (List ℕ)
names_in places = map (λ place. place.name) places

-- no name occurs twice
abbrev pub AreApart : List (List ℕ) → Type 0
AreApart names = (i j : ℕ) (name : List ℕ) → slice_get names i ≡ Some name → slice_get names j ≡ Some name → i ≡ j

-- a name is at this index, or at none
abbrev pub IsFoundAt : List (List ℕ) → List ℕ → Option ℕ → Type 0
IsFoundAt names name None = (i : ℕ) → slice_get names i ≢ Some name
IsFoundAt names name (Some i) = slice_get names i ≡ Some name

-- the upper half of a name's hash
unfoldable pub short_hash : ℕ → List ℕ → ℕ
short_hash seed name = hashed seed name / 2 ^ 32

-- the index has the hash of the name of each place, and nothing else
abbrev pub AreIndexed : NameIndex → List (List ℕ) → Type 0
AreIndexed index names = (i : ℕ) → finite.get index.keys i ≡ option_map (short_hash index.seed) (slice_get names i)

-- an index, if there is one, has the hash of the name of each place, and nothing else
abbrev pub IsKeptBy : Option (Box NameIndex) → List (List ℕ) → Type 0
IsKeptBy None names = Unit {0}
IsKeptBy (Some index) names = AreIndexed index.value names

-- each name has one place, by which the index finds the name
pub record AreKept (index : Option (Box NameIndex)) (names : List (List ℕ)) : Type 0 where
  pub apart : AreApart names
  pub indexed : IsKeptBy index names

-- one item was removed from a list, and the last item moved to its index
pub record IsSwapped {X : Type 0} (old new : List X) (i : ℕ) : Type 0 where
  pub shorter : length new + 1 ≡ length old
  pub last : i + 1 < length old → slice_get new i ≡ slice_get old (length old - 1)
  pub others : (k : ℕ) → k ≢ i → k + 1 < length old → slice_get new k ≡ slice_get old k
