use Rattle.std.proofs.Common.{arith, subst, sym, ap, ◌≡◌, ◌+◌, ◌<◌, ◌≤◌, ◌-◌, ◌++◌, ◌∙◌, length, take, drop, set}
use Rattle.std.proofs.Math.ListN.{length-set}
use Rattle.std.proofs.Math.Seq.{take-append_seam}
use Rattle.std.specs.FinMap.{len}
use Rattle.ft_index.specs.Slots.{slot_at, free, map_of, HasMark}
use Rattle.ft_index.specs.Probing.{SameKeys, IsIndex}
use Rattle.ft_index.proofs.Changes.{sets-set}
use Rattle.ft_index.proofs.Indexes.{key_fits, has_mark, some_counted, removed_map, removed_index}
use Rattle.ft_index.proofs.index.Index.remove.Goals as goal

pub overflow_add-key : goal.overflow_add-key
overflow_add-key c = let f = key_fits c.self.inside.homes c.self.inside.slots.items c.args.self.now c.args.key c.args.hash c.self.view_is c.self.invariant.table c.requires in omega arith

pub overflow_cast-key : goal.overflow_cast-key
overflow_cast-key c = let f = key_fits c.self.inside.homes c.self.inside.slots.items c.args.self.now c.args.key c.args.hash c.self.view_is c.self.invariant.table c.requires in omega arith

pub find-at-requires : goal.find-at-requires
find-at-requires c = subst (λ xs. HasMark xs c.home.result (c.args.key + 1)) (sym c.deref.ensures.value)
    (has_mark c.self.inside.homes c.self.inside.slots.items c.args.self.now c.args.key c.args.hash c.self.view_is c.self.invariant.table c.requires c.home.result c.home.ensures.home)

pub overflow_sub-self : goal.overflow_sub-self
overflow_sub-self c = let some = some_counted c.args.self.now c.args.key c.args.hash c.requires in let n = c.self.invariant.counted ∙ ap len c.self.view_is in omega arith

-- the slots as they are when the gap is closed
whole : (c : goal.After-self-3-1) → take c.self.inside.slots.len (c.close_gap.new.slots ++ drop (length c.close_gap.new.slots) (set c.self.inside.slots.items c.find-at.result free)) ≡ c.close_gap.new.slots
whole c =
    let rest = drop (length c.close_gap.new.slots) (set c.self.inside.slots.items c.find-at.result free) in
    ap (λ n. take n (c.close_gap.new.slots ++ rest)) (sym (c.close_gap.auto.slots ∙ c.deref_mut.ensures.len)) ∙ take-append_seam c.close_gap.new.slots rest

pub invariant_of-self : goal.invariant_of-self
invariant_of-self c =
    let old = c.self.inside.slots.items in
    let at = c.find-at.result in
    let marked = ap (λ xs. (slot_at xs at).mark) (sym c.deref.ensures.value) ∙ c.find-at.ensures.marked in
    let within : at < length old = subst (λ xs. at < length xs) c.deref.ensures.value c.find-at.ensures.within in
    let same = subst (λ xs. SameKeys xs c.close_gap.new.slots) c.deref_mut.ensures.value c.close_gap.ensures.same in
    let long : length c.close_gap.new.slots ≡ length old = c.close_gap.auto.slots ∙ ap length c.deref_mut.ensures.value ∙ length-set old at free in
    let inside : c.self.inside.homes ≤ length c.close_gap.new.slots = let w = c.self.invariant.table.within in omega arith in
    subst (IsIndex c.self.inside.homes (c.self.inside.count - 1)) (sym (whole c))
    (removed_index c.self.inside.homes old (set old at free) c.close_gap.new.slots c.args.self.now at c.args.key c.args.hash c.self.view_is c.self.invariant.table marked (sets-set old at free within)
    c.self.inside.count c.requires same c.close_gap.ensures.apart c.close_gap.ensures.led inside (c.self.invariant.counted ∙ ap len c.self.view_is) c.self.invariant.few)

pub returns : goal.returns
returns c =
    let old = c.self.inside.slots.items in
    let at = c.find-at.result in
    let marked = ap (λ xs. (slot_at xs at).mark) (sym c.deref.ensures.value) ∙ c.find-at.ensures.marked in
    let within : at < length old = subst (λ xs. at < length xs) c.deref.ensures.value c.find-at.ensures.within in
    let same = subst (λ xs. SameKeys xs c.close_gap.new.slots) c.deref_mut.ensures.value c.close_gap.ensures.same in
    ap (λ xs. map_of xs) (whole c)
    ∙ removed_map c.self.inside.homes old (set old at free) c.close_gap.new.slots c.args.self.now at c.args.key c.args.hash c.self.view_is c.self.invariant.table marked (sets-set old at free within) same
