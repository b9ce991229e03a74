-- The notes of cells, in the order in which they were made.
use Rattle.std.specs.Prelude.{Bool, true, cond, T, List, [], ◌∷◌}
use Rattle.std.specs.FinMap as finite
use Rattle.ft_cells.specs.CellOrder.{cell_cmp}
use Rattle.ft_posix.specs.declared.call.Access.{Access}
use Rattle.ft_posix.specs.Accesses.{Modes, as_entries}

-- each cell with its last note
abbrev pub with_notes : Modes → List Access → Modes
with_notes m [] = m
with_notes m (a ∷ more) = with_notes (finite.insert m a.cell a.mode) more

-- the cells of a list, each with its last note
abbrev pub notes_of : List Access → Modes
notes_of list = with_notes finite.empty list

-- each cell once, in the order of cells, if the flag is true
abbrev pub AreInOrderIf : Bool → List Access → Type 0
AreInOrderIf b list = T (cond b (finite.is_sorted cell_cmp (as_entries list)) true)
