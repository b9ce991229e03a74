-- The useless cells that writes and calls leave, which a sweep may drop.
use Rattle.std.specs.Prelude.{◌≡◌, ◌⊎◌, ℕ, Bool, true, List, Some}
use Rattle.ft_laws.specs.Lists.{any}
use Rattle.ft_laws.specs.Effects.{Access as PlaceAccess, is_written}
use Rattle.ft_cells.specs.declared.cell.Cell.{Cell}
use Rattle.ft_cells.specs.declared.cell.Cell.TheVariants.{Fd}
use Rattle.ft_cells.specs.CellOrder.{same_cell}
use Rattle.ft_cells.specs.Cells.{Cells}
use Rattle.ft_tree.specs.Held.{held}
use Rattle.ft_tree.specs.Sound.{AreSoundCells, IsFree}
use Rattle.ft_tree.specs.Sweep.{is_useless, at_place}
use Rattle.ft_posix.specs.Outcomes.{Write}
use Rattle.ft_posix.specs.Stored.{put_all}
use Rattle.ft_posix.specs.Posix.{Stamped, HasSoundValues, file_of, names_file, does, posix, posix_calls}
use Rattle.ft_posix.specs.RunLaws.{writes_cell}

-- an access is to this very cell
abbrev pub accesses_cell : List (PlaceAccess Cell) → Cell → Bool
accesses_cell accesses c = any (λ a. same_cell a.place c) accesses

-- The cell belongs to a file that a descriptor has open.
pub record IsOfOpenFile (cells : Cells) (c : Cell) : Type 0 where
  pub file : ℕ
  pub descriptor : ℕ
  pub belongs : file_of c ≡ Some file
  pub opened : names_file (Fd descriptor) (held cells (Fd descriptor)) file ≡ true

-- A cell that is useless after writes was useless before, or the writes set a cell of its place, or
-- it belongs to a file that was open.
abbrev pub LeavingLaw : Type 0
LeavingLaw = (cells : Cells) (writes : List Write) (c : Cell) → is_useless (put_all cells writes) c ≡ true
    → (is_useless cells c ≡ true) ⊎ ((at_place (is_written posix writes) c ≡ true) ⊎ IsOfOpenFile cells c)

-- A cell that is useless after a call was useless before, or the call accesses a cell of its place.
abbrev pub UselessLaw : Type 0
UselessLaw = (cells : Cells) (call : Stamped) → AreSoundCells cells → IsFree cells call.stamp → (c : Cell) → is_useless (posix_calls.act cells call) c ≡ true
    → (is_useless cells c ≡ true) ⊎ (at_place (accesses_cell (does cells call).accesses) c ≡ true)

-- A call that leaves the name of the file whose number is its stamp writes a cell of this file.
abbrev pub MakingLaw : Type 0
MakingLaw = (cells : Cells) (call : Stamped) → HasSoundValues cells → IsFree cells call.stamp → (x : Cell) → names_file x (held (posix_calls.act cells call) x) call.stamp ≡ true
    → (c : Cell) × (file_of c ≡ Some call.stamp) × (writes_cell (does cells call).accesses c ≡ true)
