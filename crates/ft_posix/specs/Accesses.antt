-- The accesses of a call: the cells that it looks at and the cells that it writes (Moss, Nested
-- Transactions, MIT 1981, read and write locks; their order is a rule of this project).
-- A walk reads each entry that it looks at, found or not, including the last one. For each `..` it
-- reads the parent of a directory other than the root. A call on a descriptor reads its
-- description, whether it is open or not. The fault of a text, or of an argument of a call on a
-- path, is returned with nothing read. A call that fails reads what it looked at up to the fault,
-- and writes nothing.
use Rattle.std.specs.Prelude.{ℕ, suc, Bool, true, false, T, ◌&&◌, ◌||◌, List, [], ◌∷◌, map}
use Rattle.std.specs.List.{list_any}
use Rattle.std.specs.FinMap as finite
use Rattle.std.specs.FinMap.Entries.{by_order}
use Rattle.ft_cells.specs.declared.cell.Cell.{Cell}
use Rattle.ft_cells.specs.CellOrder.{cell_cmp, overlap}
use Rattle.ft_cells.specs.Cells.{Cells, directory_count}
use Rattle.ft_tree.specs.Views.{view_of}
use Rattle.ft_cells.specs.Looks.{Looks, Answer, Look, View}
use Rattle.ft_posix.specs.declared.call.Call.{Call}
use Rattle.ft_posix.specs.declared.call.Mode.{Mode}
use Rattle.ft_posix.specs.declared.call.Mode.TheVariants.{Read as ReadMode, Write as WriteMode}
use Rattle.ft_posix.specs.declared.call.Access.{Access}
use Rattle.ft_posix.specs.Outcomes.{Write, Outcome}
use Rattle.ft_posix.specs.Steps.{steps}

-- how each cell is accessed, as a map in the order of cells
abbrev pub Modes : Type 0
Modes = finite.FinMap cell_cmp Mode

-- each cell that is looked at is read
abbrev pub with_looks : Modes → List Cell → Modes
with_looks m [] = m
with_looks m (c ∷ cs) = with_looks (finite.insert m c ReadMode) cs

-- the cell that a write sets
abbrev pub written_cell : Write → Cell
written_cell w = w.cell

-- each written cell is written, looked at or not
abbrev pub with_writes : Modes → List Write → Modes
with_writes m [] = m
with_writes m (w ∷ ws) = with_writes (finite.insert m (written_cell w) WriteMode) ws

-- the modes with the looks added, and then the writes
abbrev pub with_accesses : Modes → Looks Outcome → View → Modes
with_accesses m (Answer o) v = with_writes m o.writes
with_accesses m (Look c next) v = with_accesses (finite.insert m c ReadMode) (next (v c)) v

-- each cell once, in order
abbrev pub listed : Modes → List Access
listed m = map (λ e. record { cell = e.0; mode = e.1 }) (finite.entries m)

-- accesses as a map's entries
abbrev pub as_entries : List Access → List (Cell × Mode)
as_entries list = map (λ a. (a.cell, a.mode)) list

-- each cell once, in the order of cells
abbrev pub AreInOrder : List Access → Type 0
AreInOrder list = T (finite.is_sorted cell_cmp (as_entries list))

-- how many accesses come before a cell's
abbrev pub place_in : Cell → List Access → ℕ
place_in c [] = 0
place_in c (a ∷ more) = by_order (cell_cmp c a.cell) 0 0 (suc (place_in c more))

-- whether the cell is among accesses in order
abbrev pub is_noted : Cell → List Access → Bool
is_noted c [] = false
is_noted c (a ∷ more) = by_order (cell_cmp c a.cell) false true (is_noted c more)

-- the accesses of the call with this stamp
abbrev pub accesses_of : Cells → ℕ → Call → List Access
accesses_of cells stamp call = listed (with_accesses finite.empty (steps cells.limits (directory_count cells) stamp call) (view_of cells))

-- whether the mode writes
abbrev pub is_write : Mode → Bool
is_write ReadMode = false
is_write WriteMode = true

-- Two accesses conflict if their cells overlap and one of them writes (Moss, the locking rules).
abbrev pub conflict : Access → Access → Bool
conflict a b = overlap a.cell b.cell && (is_write a.mode || is_write b.mode)

-- an access of the first list conflicts with an access of the second
abbrev pub some_conflict : List Access → List Access → Bool
some_conflict xs ys = list_any (λ a. list_any (conflict a) ys) xs
