use Rattle.std.proofs.Common.{arith, subst, sym, take, ◌<◌, ◌+◌}
use Rattle.std.specs.Global.{Vec}
use Rattle.ft_index.specs.declared.slot.Slot.{Slot}
use Rattle.ft_index.specs.Slots.{slot_at}
use Rattle.ft_index.specs.Probing.{IsTable, SameKeys}
use Rattle.ft_index.proofs.Growths.{copied, skipped, free_table, free_same}
use Rattle.ft_index.proofs.growth.with_homes.Goals as goal
use Rattle.ft_index.proofs.growth.with_homes.Goals.{then-slot-ne0+in_ok-place, else-slot-ne0}

pub loop-slot-init : goal.loop-slot-init
loop-slot-init c = record {
  table = free_table c.args.homes c.in_ok-table.table.items c.in_ok-table.ensures c.requires.few;
  same = free_same c.args.homes c.in_ok-table.table.items c.in_ok-table.ensures;
}

pub loop-slot-preserved : goal.loop-slot-preserved
loop-slot-preserved c = elim c.if-slot-ne0.branch [
  | then-slot-ne0+in_ok-place w ↦
      let some : 0 < (slot_at c.args.slots.now c.loop-slot.slot-index).mark = omega (arith, w.if-slot-ne0.true) in
      let more = copied c.args.homes c.args.slots.now c.loop-slot.table.items w.place.new.slots.items c.loop-slot.slot-index c.requires.apart c.loop-slot-test.true some c.loop-slot.invariant.table c.loop-slot.invariant.same w.in_ok-place.ensures.ok in
      record {
        table = subst (λ (t : Vec Slot). IsTable c.args.homes t.items) (sym w.table-is) more.table;
        same = subst (λ (t : Vec Slot). SameKeys (take (c.loop-slot.slot-index + 1) c.args.slots.now) t.items) (sym w.table-is) more.same;
      }
  | else-slot-ne0 w ↦ record {
    table = subst (λ (t : Vec Slot). IsTable c.args.homes t.items) (sym w.table-is) c.loop-slot.invariant.table;
    same = subst (λ (t : Vec Slot). SameKeys (take (c.loop-slot.slot-index + 1) c.args.slots.now) t.items) (sym w.table-is)
        (skipped c.args.slots.now c.loop-slot.table.items c.loop-slot.slot-index c.loop-slot-test.true w.if-slot-ne0.false c.loop-slot.invariant.same);
  }
]
