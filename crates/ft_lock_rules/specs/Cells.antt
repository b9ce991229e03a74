-- The locked cells, and the places on them.
use Rattle.std.specs.Prelude.{◌≡◌, ℕ, Bool, ◌==◌, ◌&&◌, cond, Option, Some, None, IsSome, unwrap_or, option_map, refl}
use Rattle.std.specs.Ordering.{nat_cmp}
use Rattle.std.specs.Coded.{Coded, code_by, coded×, coded_ℕ}
use Rattle.std.specs.FinMap as finite
use Rattle.ft_cells.specs.declared.cell.Cell.{Cell}
use Rattle.ft_cells.specs.contracts.cell.Cell as cell
use Rattle.ft_cells.specs.CellOrder.{cell_cmp, same_cell}
use Rattle.ft_lock_rules.specs.declared.lock_modes.LockModes.{LockModes}
use Rattle.ft_lock_rules.specs.LockModes.{no_marks, with_marks, as_retained}
use Rattle.ft_lock_rules.specs.CellLocks.{Owners, coded_owners}

-- for each cell in the table, the owners that have a place there and their locks
abbrev pub Cells : Type 0
Cells = finite.FinMap cell_cmp Owners

-- a code of them, which a model needs
abbrev pub coded_cells : Coded Cells
coded_cells = finite.code cell.the_row.coded coded_owners

-- the cell under each key
abbrev pub CellKeys : Type 0
CellKeys = finite.FinMap nat_cmp Cell

-- the cells in the table with their holders, and the key of each
pub record Keyed : Type 0 where
  pub cells : Cells
  pub at : CellKeys

-- a code of them, which a model needs
abbrev pub coded_keyed : Coded Keyed
coded_keyed = code_by (Cells × CellKeys) (coded× coded_cells (finite.code coded_ℕ cell.the_row.coded)) (λ k. (k.cells, k.at)) (λ p. record { cells = p.0; at = p.1 }) (λ _. refl)

-- the holders of a cell, if there is a cell
abbrev pub holders_of : Cells → Option Cell → Option Owners
holders_of m None = None
holders_of m (Some c) = finite.get m c

-- the holders of the cell under a key
abbrev pub holders_under : Keyed → ℕ → Option Owners
holders_under k key = holders_of k.cells (finite.get k.at key)

-- the locks of an owner on a cell, if it has a place there
abbrev pub marks_at : Cells → Cell → ℕ → Option LockModes
marks_at m c owner = finite.get (unwrap_or (finite.get m c) finite.empty) owner

-- a cell on which any owner has a place keeps its key
abbrev pub Keeps : Keyed → Keyed → Type 0
Keeps old new = (key : ℕ) (c : Cell) (u : ℕ) → finite.get old.at key ≡ Some c → IsSome (marks_at new.cells c u) → finite.get new.at key ≡ Some c

-- the owner whose places are those of the released cells: no transaction has its number
abbrev pub released_owner : ℕ
released_owner = 0

-- what the next owner gets: a parent retains the locks, and a released cell keeps none
abbrev pub passed_to : ℕ → LockModes → LockModes
passed_to to marks = cond (to == released_owner) no_marks (as_retained marks)

-- the locks of an owner that gets more, whether it had a place or gets one
abbrev pub joined_marks : Option LockModes → Option LockModes → Option LockModes
joined_marks None more = more
joined_marks (Some own) None = Some own
joined_marks (Some own) (Some more) = Some (with_marks own more)

-- the locks of each owner, after one has given its place to another
abbrev pub after_hand : ℕ → ℕ → (ℕ → Option LockModes) → ℕ → Option LockModes
after_hand from to marks owner = cond (owner == from) None (cond (owner == to) (joined_marks (marks to) (option_map (passed_to to) (marks from))) (marks owner))

-- this cell and this owner
abbrev pub is_at : Cell → ℕ → Cell → ℕ → Bool
is_at cell owner c u = same_cell c cell && (u == owner)

-- the marks of an owner on a cell change so, and no others change
abbrev pub UpdatesMark : Cells → Cells → Cell → ℕ → (Option LockModes → Option LockModes) → Type 0
UpdatesMark old new cell owner change =
    (c : Cell) (u : ℕ) → marks_at new c u ≡ cond (is_at cell owner c u) (change (marks_at old c u)) (marks_at old c u)

-- an owner gives its place on a cell to another, and no other marks change
abbrev pub HandsPlace : Cells → Cells → Cell → ℕ → ℕ → Type 0
HandsPlace old new cell from to =
    (c : Cell) (u : ℕ) → marks_at new c u ≡ cond (same_cell c cell) (after_hand from to (marks_at old c) u) (marks_at old c u)
