-- Cells, and the keys that an index has of them.
use Rattle.std.proofs.Common.{◌≡◌, ℕ, List, Option}
use Rattle.std.specs.declared.cmp.Ordering.TheVariants.{Equal}
use Rattle.std.specs.Cmp.{eq_by_cmp_equiv, Equal-is}
use Rattle.std.specs.FinMap as finite
use Rattle.std.specs.Map.{lookup}
use Rattle.ft_cells.specs.declared.cell.Cell.{Cell}
use Rattle.ft_cells.specs.CellOrder.{cell_cmp, cell_cmp_total, same_cell, same_cell-is}
use Rattle.ft_lock_rules.specs.Cells.{Cells}

-- the key of a cell
abbrev pub key_in : List (Cell × ℕ) → Cell → Option ℕ
key_in index q = lookup (same_cell q) index

pub cell_exact : (x y : Cell) → cell_cmp x y ≡ Equal → x ≡ y
cell_exact x y e = same_cell-is x y ((Equal-is (cell_cmp x y)).1 e)

pub turned_cell : (x y : Cell) → same_cell x y ≡ same_cell y x
turned_cell x y = (eq_by_cmp_equiv cell_cmp_total).symm x y

pub same_cells : (m n : Cells) → ((q : Cell) → finite.get m q ≡ finite.get n q) → m ≡ n
same_cells m n is = finite.same_map cell_cmp_total cell_exact m n is
