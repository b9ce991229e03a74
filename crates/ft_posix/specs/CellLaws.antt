-- Laws of setting cells.
use Rattle.std.specs.Prelude.{◌≡◌, ℕ, false, List, None, Some}
use Rattle.ft_cells.specs.declared.cell.Cell.{Cell}
use Rattle.ft_cells.specs.CellOrder.{same_cell}
use Rattle.ft_cells.specs.Cells.{Cells, HasDirPlace, HasEntryPlace}
use Rattle.ft_tree.specs.Held.{Holds, held, set_cell, place_at, without_place, IsStored, CanSet}

-- setting a cell changes no other cell; every place stays, and the cell then has its place
pub record SettingLaw : Type 0 where
  pub written : (cells : Cells) (c : Cell) (to : Holds c) → held (set_cell cells c to) c ≡ to
  pub kept : (cells : Cells) (c : Cell) (to : Holds c) (other : Cell) → same_cell c other ≡ false → held (set_cell cells c to) other ≡ held cells other
  pub stays : (cells : Cells) (c : Cell) (to : Holds c) (other : Cell) → IsStored cells other → IsStored (set_cell cells c to) other
  pub stored : (cells : Cells) (c : Cell) (to : Holds c) → CanSet cells c → IsStored (set_cell cells c to) c
  -- the place of an entry is in a directory that is stored
  pub within : (cells : Cells) (d : ℕ) (name : List ℕ) → HasEntryPlace cells d name → HasDirPlace cells d

-- the earlier cells can be restored after a cell was set: the old value of its place is set again,
-- or a new place is removed
pub record RestoringLaw : Type 0 where
  pub again : (cells : Cells) (c : Cell) (to was : Holds c) → place_at cells c ≡ Some was → set_cell (set_cell cells c to) c was ≡ cells
  pub new : (cells : Cells) (c : Cell) (to : Holds c) → CanSet cells c → place_at cells c ≡ None → without_place (set_cell cells c to) c ≡ cells
