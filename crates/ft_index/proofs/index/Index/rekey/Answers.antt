use Rattle.std.proofs.Common.{arith, subst, sym, ap, ◌+◌, ◌<◌, ◌∙◌, length}
use Rattle.std.specs.FinMap.{len}
use Rattle.ft_index.specs.Slots.{slot_at, HasMark}
use Rattle.ft_index.proofs.Indexes.{key_fits, has_mark, rekeyed_map, rekeyed_index}
use Rattle.ft_index.proofs.index.Index.rekey.Goals as goal

pub overflow_add-from : goal.overflow_add-from
overflow_add-from c = let f = key_fits c.self.inside.homes c.self.inside.slots.items c.args.self.now c.args.from c.args.hash c.self.view_is c.self.invariant.table c.requires.from in omega arith

pub overflow_cast-from : goal.overflow_cast-from
overflow_cast-from c = let f = key_fits c.self.inside.homes c.self.inside.slots.items c.args.self.now c.args.from c.args.hash c.self.view_is c.self.invariant.table c.requires.from in omega arith

pub find-at-requires : goal.find-at-requires
find-at-requires c = subst (λ xs. HasMark xs c.home.result (c.args.from + 1)) (sym c.deref.ensures.value)
    (has_mark c.self.inside.homes c.self.inside.slots.items c.args.self.now c.args.from c.args.hash c.self.view_is c.self.invariant.table c.requires.from c.home.result c.home.ensures.home)

pub overflow_cast-mark : goal.overflow_cast-mark
overflow_cast-mark c =
    let f = key_fits c.self.inside.homes c.self.inside.slots.items c.args.self.now c.args.from c.args.hash c.self.view_is c.self.invariant.table c.requires.from in
    let l = c.requires.lower in omega arith

pub invariant_of-self : goal.invariant_of-self
invariant_of-self c =
    let marked = ap (λ xs. (slot_at xs c.find-at.result).mark) (sym c.deref.ensures.value) ∙ c.find-at.ensures.marked in
    let within : c.find-at.result < length c.self.inside.slots.items = subst (λ xs. c.find-at.result < length xs) c.deref.ensures.value c.find-at.ensures.within in
    rekeyed_index c.self.inside.homes c.self.inside.slots.items c.find-at.result c.args.self.now c.args.from c.args.to c.args.hash c.self.view_is c.self.invariant.table marked within c.requires.lower c.requires.from c.requires.to
    c.self.inside.count (c.self.invariant.counted ∙ ap len c.self.view_is) c.self.invariant.few

pub returns : goal.returns
returns c =
    let marked = ap (λ xs. (slot_at xs c.find-at.result).mark) (sym c.deref.ensures.value) ∙ c.find-at.ensures.marked in
    let within : c.find-at.result < length c.self.inside.slots.items = subst (λ xs. c.find-at.result < length xs) c.deref.ensures.value c.find-at.ensures.within in
    rekeyed_map c.self.inside.homes c.self.inside.slots.items c.find-at.result c.args.self.now c.args.from c.args.to c.args.hash c.self.view_is c.self.invariant.table marked within c.requires.lower c.requires.from c.requires.to
