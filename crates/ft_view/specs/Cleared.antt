-- The parts that are dropped from a view.
use Rattle.std.specs.Prelude.{◌≡◌, Bool, true, false, List, map, Option, Some, None}
use Rattle.std.specs.FinSet as set
use Rattle.ft_cells.specs.declared.cell.Cell.{Cell}
use Rattle.ft_cells.specs.Cells.{Cells}
use Rattle.ft_tree.specs.Sweep.{ReleasedCells, is_useless, at_place}
use Rattle.ft_posix.specs.declared.call.Access.{Access}
use Rattle.ft_posix.specs.Posix.{as_place}
use Rattle.ft_posix.specs.Leaving.{accesses_cell}

-- the cell that is still to be reported, if there is one
abbrev pub passed : Option Cell → ReleasedCells
passed None = set.empty
passed (Some c) = set.insert set.empty c

-- one of the cells of a place was accessed
abbrev pub is_met : List Access → Cell → Bool
is_met accesses c = at_place (accesses_cell (map as_place accesses)) c

-- Each cell that is useless after this was useless before, and no cell of its place was accessed.
abbrev pub DropsMet : List Access → Cells → Cells → Type 0
DropsMet accesses old new = (c : Cell) → is_useless new c ≡ true → (is_useless old c ≡ true) × (is_met accesses c ≡ false)
