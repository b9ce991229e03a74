-- Places on cells, found both by cell and by owner.
use Rattle.std.specs.Prelude.{◌≡◌, ◌==◌, ◌&&◌, ℕ, Bool, false, cond, is_some, IsSome, IfSome, IfNone, take, map, filter_map, Option, None, List, [], ◌∷◌, refl}
use Rattle.std.specs.List.{list_any}
use Rattle.std.specs.FinMap as finite
use Rattle.std.specs.Coded.{Coded, code_by, coded×}
use Rattle.ft_owned_lists.specs.OwnedLists.{Lists, coded_lists, list_in}
use Rattle.ft_cells.specs.declared.cell.Cell.{Cell}
use Rattle.ft_cells.specs.contracts.cell.Cell as cell
use Rattle.ft_cells.specs.CellOrder.{same_cell}
use Rattle.ft_laws.specs.Lists.{Each}
use Rattle.ft_lock_rules.specs.declared.lock_modes.LockModes.{LockModes}
use Rattle.ft_lock_rules.specs.Cells.{Cells, CellKeys, Keyed, coded_cells, marks_at, is_at}

-- for each cell its owners, and for each owner its cells
pub record Held : Type 0 where
  pub cells : Cells
  pub lists : Lists Cell

-- a code of it, which a model needs
abbrev pub coded_held : Coded Held
coded_held = code_by (Cells × Lists Cell) (coded× coded_cells (coded_lists cell.the_row.coded)) (λ h. (h.cells, h.lists)) (λ p. record { cells = p.0; lists = p.1 }) (λ _. refl)

-- no cell is in the list twice
abbrev pub AreSingle : List Cell → Type 0
AreSingle [] = Unit {0}
AreSingle (c ∷ more) = (list_any (same_cell c) more ≡ false) × AreSingle more

-- whether an owner has a place on a cell
abbrev pub has_place : Cells → Cell → ℕ → Bool
has_place m c owner = is_some (marks_at m c owner)

-- an owner's list has exactly the cells on which it has a place, each once
pub record IsJoined (has : Cell → ℕ → Bool) (lists : Lists Cell) : Type 0 where
  pub listed : (u : ℕ) (c : Cell) → list_any (same_cell c) (list_in lists u) ≡ has c u
  pub single : (u : ℕ) → AreSingle (list_in lists u)

-- the cells under these keys
abbrev pub cells_under : CellKeys → List ℕ → List Cell
cells_under at keys = filter_map (finite.get at) keys

-- each owner's list, with the cells in place of their keys
abbrev pub lists_under : CellKeys → Lists ℕ → Lists Cell
lists_under at lists = finite.from_entries (map (λ e. (e.0, cells_under at e.1)) (finite.entries lists))

-- under each of these keys there is a cell
abbrev pub AreUsed : CellKeys → List ℕ → Type 0
AreUsed at keys = Each (λ key. IsSome (finite.get at key)) keys

-- the keys in an owner's list are those of the cells on which it has a place
pub record AreJoined (k : Keyed) (chains : Lists ℕ) : Type 0 where
  pub joined : IsJoined (has_place k.cells) (lists_under k.at chains)
  pub used : (u : ℕ) → AreUsed k.at (list_in chains u)

-- the same owners are open
abbrev pub AreOpenStill : Lists Cell → Lists Cell → Type 0
AreOpenStill old new = (u : ℕ) → finite.contains_key new u ≡ finite.contains_key old u

-- the newest of an owner's list, which is this one, is removed
abbrev pub popped_of : {T : Type 0} → Lists T → ℕ → List T → Lists T
popped_of m owner [] = m
popped_of m owner (c ∷ more) = finite.insert m owner more

-- the newest of an owner's list is removed
abbrev pub popped : {T : Type 0} → Lists T → ℕ → Lists T
popped m owner = popped_of m owner (list_in m owner)

-- the newest place of an owner was removed; its cell was freed if no owner has a place there now
pub record IsDropped (old new : Held) (owner : ℕ) (freed : Option Cell) : Type 0 where
  pub cell : Cell
  pub there : IsSome (marks_at old.cells cell owner)
  pub list : list_in old.lists owner ≡ cell ∷ list_in new.lists owner
  pub lists : new.lists ≡ finite.insert old.lists owner (list_in new.lists owner)
  pub marks : (c : Cell) (u : ℕ) → marks_at new.cells c u ≡ cond (is_at cell owner c u) None (marks_at old.cells c u)
  pub free : IfSome freed (λ c. c ≡ cell)
  pub gone : IfSome freed (λ c. (u : ℕ) → marks_at new.cells c u ≡ None)
  pub more : IfNone freed ((u : ℕ) × IsSome (marks_at new.cells cell u))

-- what would be left on a cell if so many of an owner's newest places were removed
abbrev pub after_back : ℕ → ℕ → Cells → Lists Cell → Cell → ℕ → Option LockModes
after_back count owner m lists c u = cond ((u == owner) && list_any (same_cell c) (take count (list_in lists owner))) None (marks_at m c u)
