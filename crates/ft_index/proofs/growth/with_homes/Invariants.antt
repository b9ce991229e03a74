use Rattle.std.proofs.Common.{take}
use Rattle.ft_index.specs.Probing.{IsTable, SameKeys}
use Rattle.ft_index.proofs.growth.with_homes.Given as goal

-- the keys so far are in the table
abbrev pub invariant-loop-slot : goal.invariant-loop-slot
invariant-loop-slot l = record {
  table : IsTable l.homes l.table.items;
  same : SameKeys (take l.slot-index l.slots) l.table.items;
}
