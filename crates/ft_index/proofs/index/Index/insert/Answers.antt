use Rattle.std.proofs.Common.{arith, ap, ◌∙◌}
use Rattle.std.specs.FinMap.{len}
use Rattle.ft_index.proofs.Indexes.{inserted_map, inserted_index}
use Rattle.ft_index.proofs.index.Index.insert.Goals as goal

pub invariant_of-self-2 : goal.invariant_of-self-2
invariant_of-self-2 c =
    let seen = c.in_ok-make_room.ensures.same ∙ c.self.view_is in
    inserted_index c.make_room.new.homes c.make_room.new.slots.items c.place.new.slots.items c.args.self.now c.args.key c.args.hash seen c.in_ok-make_room.ensures.table (omega arith) c.requires c.in_ok-place.ensures.ok
    c.self.inside.count (c.self.invariant.counted ∙ ap len c.self.view_is) c.in_ok-make_room.ensures.room

pub returns-clause-ok : goal.returns-clause-ok
returns-clause-ok c =
    let seen = c.in_ok-make_room.ensures.same ∙ c.self.view_is in
    inserted_map c.make_room.new.homes c.make_room.new.slots.items c.place.new.slots.items c.args.self.now c.args.key c.args.hash seen c.in_ok-make_room.ensures.table (omega arith) c.requires c.in_ok-place.ensures.ok
