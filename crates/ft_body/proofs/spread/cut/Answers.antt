use Rattle.std.proofs.Common.{◌≡◌, ◌≢◌, ◌∙◌, ◌/◌, ◌%◌, ◌<◌, ℕ, List, [], arith, ap, sym, subst, refl, length, take}
use Rattle.std.specs.Prelude.{slice_index}
use Rattle.ft_body.specs.declared.blocks.Placed.{Placed}
use Rattle.ft_body.specs.Blocks.{placed_at, block_in, AreBlocks, IsPlace}
use Rattle.ft_body.specs.Paging.{IsFront}
use Rattle.ft_body.proofs.PageWrites.{on_ok_both}
use Rattle.ft_body.proofs.BlockLists.{none_in, found_in, take_are}
use Rattle.ft_body.proofs.Blocked.{kept_blocks, cut_blocks, cut_front, no_front}
use Rattle.ft_body.proofs.spread.cut.Goals as goal

pub index_of-requires : goal.index_of-requires
index_of-requires c = rw (c.deref-2.ensures.value, c.in_ok-cut_behind.ensures.after) (take_are 0 c.args.blocks.now.items c.place_of-kept.result c.requires.blocks)

pub cut_found-requires-clause-blocks : goal.cut_found-requires-clause-blocks
cut_found-requires-clause-blocks c = rw c.in_ok-cut_behind.ensures.after (take_are 0 c.args.blocks.now.items c.place_of-kept.result c.requires.blocks)

pub returns-in-Ok-clause-after : goal.returns-in-Ok-clause-after
returns-in-Ok-clause-after c =
    let old : List Placed = c.args.blocks.now.items in
    let now : List Placed = c.cut_behind.new.blocks.items in
    let new : List Placed = c.cut_found.new.blocks.items in
    let is : now ≡ take c.place_of-kept.result old = c.in_ok-cut_behind.ensures.after in
    let are : AreBlocks 0 now = rw is (take_are 0 old c.place_of-kept.result c.requires.blocks) in
    let place : IsPlace old c.div_ceil.result c.place_of-kept.result = rw (← c.deref.ensures.value) c.place_of-kept.ensures in
    let inside : c.in-Ok.index < length now = omega (arith, c.in-Ok.ensures.found.0, ap length c.deref-2.ensures.value) in
    let at : (placed_at now c.in-Ok.index).at ≡ c.args.size / 2097152 = ap (λ bs. (placed_at bs c.in-Ok.index).at) (sym c.deref-2.ensures.value) ∙ c.in-Ok.ensures.found.1 in
    let found : block_in now (c.args.size / 2097152) ≡ (placed_at now c.in-Ok.index).block = found_in 0 now c.in-Ok.index (c.args.size / 2097152) are inside at in
    on_ok_both c.cut_found.result
    (λ (front : IsFront (slice_index (placed_at now c.in-Ok.index).block) (slice_index (block_in new (placed_at now c.in-Ok.index).at)) (c.args.size % 2097152))
    (others : (n : ℕ) → n ≢ (placed_at now c.in-Ok.index).at → block_in new n ≡ block_in now n).
    cut_front old now new c.args.size c.div_ceil.result (omega arith)
    (λ n h. ap (λ bs. block_in bs n) is ∙ kept_blocks old c.div_ceil.result c.place_of-kept.result place n h)
    (λ n h. ap (λ bs. block_in bs n) is ∙ cut_blocks old c.div_ceil.result c.place_of-kept.result place n h)
    (subst (λ b. IsFront (slice_index b) (slice_index (block_in new (c.args.size / 2097152))) (c.args.size % 2097152)) (sym found)
    (subst (λ n. IsFront (slice_index (placed_at now c.in-Ok.index).block) (slice_index (block_in new n)) (c.args.size % 2097152)) at front))
    (λ n d. others n (λ e. d (e ∙ at))))
    c.cut_found.ensures.there c.cut_found.ensures.others

pub returns-in-Err-clause-blocks : goal.returns-in-Err-clause-blocks
returns-in-Err-clause-blocks c = rw c.in_ok-cut_behind.ensures.after (take_are 0 c.args.blocks.now.items c.place_of-kept.result c.requires.blocks)

pub returns-in-Err-clause-after : goal.returns-in-Err-clause-after
returns-in-Err-clause-after c =
    let old : List Placed = c.args.blocks.now.items in
    let now : List Placed = c.cut_behind.new.blocks.items in
    let is : now ≡ take c.place_of-kept.result old = c.in_ok-cut_behind.ensures.after in
    let place : IsPlace old c.div_ceil.result c.place_of-kept.result = rw (← c.deref.ensures.value) c.place_of-kept.ensures in
    let absent : (i : ℕ) → i < length now → (placed_at now i).at ≢ c.args.size / 2097152 = rw (← c.deref-2.ensures.value) c.in-Err.ensures.absent in
    let none : block_in now (c.args.size / 2097152) ≡ [] = none_in now (c.args.size / 2097152) absent in
    cut_front old now now c.args.size c.div_ceil.result (omega arith)
    (λ n h. ap (λ bs. block_in bs n) is ∙ kept_blocks old c.div_ceil.result c.place_of-kept.result place n h)
    (λ n h. ap (λ bs. block_in bs n) is ∙ cut_blocks old c.div_ceil.result c.place_of-kept.result place n h)
    (subst (λ b. IsFront (slice_index b) (slice_index b) (c.args.size % 2097152)) (sym none) (no_front (slice_index []) (c.args.size % 2097152) (λ k. refl)))
    (λ n d. refl)
