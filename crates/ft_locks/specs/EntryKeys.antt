-- The keys of the locked entries, by directory.
use Rattle.std.specs.Prelude.{◌≡◌, ◌≢◌, ℕ, Bool, false, ◌==◌, ◌&&◌, cond, List, [], Option, Some, None}
use Rattle.std.specs.List.{slice_get}
use Rattle.std.specs.Ordering.{nat_cmp}
use Rattle.std.specs.FinMap as finite
use Rattle.std.proofs.Common.{Vec, Global}
use Rattle.ft_cells.specs.declared.cell.Cell.{Cell}
use Rattle.ft_cells.specs.declared.cell.Cell.TheVariants.{Entry, Names, Parent, Links, Bytes, Fd, DirAttributes, FileAttributes}

-- for each directory that has entries in the table, their keys
abbrev pub EntryKeys : Type 0
EntryKeys = finite.FinMap nat_cmp (Vec ℕ Global)

-- the keys in a directory's list, if it has one
abbrev pub listed_keys : Option (Vec ℕ Global) → List ℕ
listed_keys None = []
listed_keys (Some keys) = keys.items

-- the key at a place of a directory's list
abbrev pub key_at : EntryKeys → ℕ → ℕ → Option ℕ
key_at m dir place = slice_get (listed_keys (finite.get m dir)) place

-- the keys at some places become this one, and no others change
abbrev pub UpdatesKeys : EntryKeys → EntryKeys → (ℕ × ℕ → Bool) → Option ℕ → Type 0
UpdatesKeys old new is_there to = (t : ℕ × ℕ) → key_at new t.0 t.1 ≡ cond (is_there t) to (key_at old t.0 t.1)

-- the directory of an entry, with a place in its list; another cell is in no list
abbrev pub spot_of : Cell → ℕ → Option (ℕ × ℕ)
spot_of (Entry entry) place = Some (entry.dir, place)
spot_of (Names d) place = None
spot_of (Parent d) place = None
spot_of (Links i) place = None
spot_of (Bytes i) place = None
spot_of (Fd f) place = None
spot_of (DirAttributes d) place = None
spot_of (FileAttributes i) place = None

-- the directory and the place in its list are the same
abbrev pub same_spot : ℕ × ℕ → ℕ × ℕ → Bool
same_spot s t = (t.0 == s.0) && (t.1 == s.1)

-- it is this place, if there is one
abbrev pub is_spot : Option (ℕ × ℕ) → ℕ × ℕ → Bool
is_spot None t = false
is_spot (Some s) t = same_spot s t

-- the last key of a list has moved to the place of one that was removed
pub record IsMoved (old new : EntryKeys) (dir place moved : ℕ) : Type 0 where
  pub last : ℕ
  pub apart : last ≢ place
  pub was : key_at old dir last ≡ Some moved
  pub keys : (t : ℕ × ℕ) → key_at new t.0 t.1 ≡ cond (same_spot (dir, place) t) (Some moved) (cond (same_spot (dir, last) t) None (key_at old t.0 t.1))
