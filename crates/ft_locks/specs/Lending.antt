-- The value of a table of cells after the holders of one cell were lent for writing.
use Rattle.std.specs.Prelude.{ℕ, Option, Some, None}
use Rattle.std.specs.Borrow.{LendsIf, MutBor, Fml}
use Rattle.std.specs.FinMap as finite
use Rattle.ft_cells.specs.declared.cell.Cell.{Cell}
use Rattle.ft_lock_rules.specs.CellLocks.{Owners}
use Rattle.ft_lock_rules.specs.Cells.{Cells, Keyed}
use Rattle.ft_locks.specs.contracts.cells.LockedCells.{the_row}
use Rattle.ft_lock_rules.specs.contracts.cell_locks.CellLocks as holders

-- the cell, if there is one, has other holders
abbrev pub with_holders_of : Cells → Option Cell → Owners → Cells
with_holders_of m None owners = m
with_holders_of m (Some c) owners = finite.insert m c owners

-- the cell under a key has other holders
abbrev pub with_holders : Keyed → ℕ → Owners → Keyed
with_holders k key owners = record k { cells = with_holders_of k.cells (finite.get k.at key) owners }

-- t ends with the final holders in r for the cell under the key; if nothing is lent, t ends
-- unchanged
abbrev pub LendsHolders : MutBor Keyed → ℕ → Option (MutBor Owners) → Fml
LendsHolders t key r = LendsIf the_row holders.the_row t r (with_holders t.now key) t.now
