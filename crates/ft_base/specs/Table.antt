-- The end of a table if one of its values is lent to be written. All other clauses about `Table`,
-- `PagedTable` and `OwnedLists` use std's finite map at the order of numbers. It is
-- `Rattle.std.specs.FinMap` (`empty`, `get`, `contains_key`, `insert`, `remove`, `len`, `entries`).
use Rattle.std.specs.Prelude.{ℕ, Option}
use Rattle.std.specs.Borrow.{LendsIf, MutBor, Fml, RattleType}
use Rattle.std.specs.Ordering.{nat_cmp}
use Rattle.std.specs.FinMap as finite
use Rattle.ft_base.specs.contracts.table.Table.{the_row}

-- t ends with the last value of r at the key; if nothing is lent, it ends unchanged (as Rust's
-- `HashMap::get_mut`)
abbrev pub LendsValue : (V : RattleType) → MutBor (finite.FinMap nat_cmp V.Denot) → ℕ → Option (MutBor V.Denot) → Fml
LendsValue V t key r = LendsIf (the_row V) V t r (finite.insert t.now key) t.now
