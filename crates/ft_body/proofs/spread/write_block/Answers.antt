use Rattle.std.proofs.Common.{◌≡◌, ◌≢◌, ◌∙◌, ◌<◌, ℕ, List, [], arith, ap, sym, subst, length}
use Rattle.std.specs.Prelude.{slice_index}
use Rattle.std.proofs.lemmas.Result.{on_ok_weaker}
use Rattle.std.proofs.lemmas.Grind.{common_steps}
use Rattle.ft_body.specs.declared.blocks.Placed.{Placed}
use Rattle.ft_body.specs.Bytes.{written}
use Rattle.ft_body.specs.Blocks.{placed_at, block_in, IsBlock}
use Rattle.ft_body.specs.Paging.{IsWritten}
use Rattle.ft_body.proofs.PageWrites.{written_at, written_with_zeros}
use Rattle.ft_body.proofs.BlockLists.{none_in, found_in, insert_to}
use Rattle.ft_body.proofs.BlockWrites.{block_end, written_zeros}
use Rattle.ft_body.proofs.spread.write_block.Goals as goal

-- the number stands nowhere in an equal list
absent_from : (bs cs : List Placed) (at : ℕ) → cs ≡ bs → ((i : ℕ) → i < length cs → (placed_at cs i).at ≢ at) → (i : ℕ) → i < length bs → (placed_at bs i).at ≢ at
absent_from bs cs at e absent = rw (← e) absent

pub returns-then-is_empty-clause-there : goal.returns-then-is_empty-clause-there
returns-then-is_empty-clause-there c =
    let none : block_in c.args.blocks.now.items c.args.at ≡ [] =
    none_in c.args.blocks.now.items c.args.at (absent_from c.args.blocks.now.items c.deref.result.now c.args.at c.deref.ensures.value c.in-Err.ensures.absent) in
    let zero : length c.without_end_zeros-bytes.result.now ≡ 0 = grind (arith, common_steps) in
    subst (λ b. IsWritten (slice_index b) (slice_index b) c.args.start c.args.bytes.now) (sym none) (written_zeros c.args.start c.args.bytes.now (λ k. c.without_end_zeros-bytes.ensures.zeros k (omega arith)))

pub returns-in-Ok-clause-there : goal.returns-in-Ok-clause-there
returns-in-Ok-clause-there c =
    let inside : c.in-Ok.index < length c.args.blocks.now.items = omega (arith, c.in-Ok.ensures.found.0, ap length c.deref.ensures.value) in
    let at : (placed_at c.args.blocks.now.items c.in-Ok.index).at ≡ c.args.at = ap (λ bs. (placed_at bs c.in-Ok.index).at) (sym c.deref.ensures.value) ∙ c.in-Ok.ensures.found.1 in
    let is : block_in c.args.blocks.now.items c.args.at ≡ (placed_at c.args.blocks.now.items c.in-Ok.index).block = found_in 0 c.args.blocks.now.items c.in-Ok.index c.args.at c.requires.blocks inside at in
    on_ok_weaker c.write_found.result (λ w.
    subst (λ b. IsWritten (slice_index b) (slice_index (block_in c.write_found.new.blocks.items c.args.at)) c.args.start c.args.bytes.now) (sym is)
    (subst (λ n. IsWritten (slice_index (placed_at c.args.blocks.now.items c.in-Ok.index).block) (slice_index (block_in c.write_found.new.blocks.items n)) c.args.start c.args.bytes.now) at w))
    c.write_found.ensures.there

pub returns-in_ok-write_at-in-Err-clause-blocks : goal.returns-in_ok-write_at-in-Err-clause-blocks
returns-in_ok-write_at-in-Err-clause-blocks c =
    let part : List ℕ = c.without_end_zeros-bytes.result.now in
    let is : c.write_at.new.self ≡ written [] c.args.start part = c.in_ok-write_at-in-Err.ensures.after ∙ ap (λ xs. written xs c.args.start part) c.new-block.ensures in
    let some : 0 < length part = grind (arith, common_steps) in
    let made : IsBlock (written [] c.args.start part) =
    block_end [] c.args.start part some (omega (arith, c.requires.limit, c.without_end_zeros-bytes.ensures.size)) (omega arith) c.without_end_zeros-bytes.ensures.last in
    let new : Placed = record { at = c.args.at; block = c.write_at.new.self } in
    let absent = absent_from c.args.blocks.now.items c.deref.result.now c.args.at c.deref.ensures.value c.in-Err.ensures.absent in
    on_ok_weaker c.add.result (λ e. (insert_to c.args.blocks.now.items c.add.new.blocks.items c.in-Err.index new c.requires.blocks (rw (← c.deref.ensures.value) c.in-Err.ensures.place) absent (rw is made) e).0) c.add.ensures.after

pub returns-in_ok-write_at-in-Err-clause-there : goal.returns-in_ok-write_at-in-Err-clause-there
returns-in_ok-write_at-in-Err-clause-there c =
    let part : List ℕ = c.without_end_zeros-bytes.result.now in
    let is : c.write_at.new.self ≡ written [] c.args.start part = c.in_ok-write_at-in-Err.ensures.after ∙ ap (λ xs. written xs c.args.start part) c.new-block.ensures in
    let some : 0 < length part = grind (arith, common_steps) in
    let made : IsBlock (written [] c.args.start part) =
    block_end [] c.args.start part some (omega (arith, c.requires.limit, c.without_end_zeros-bytes.ensures.size)) (omega arith) c.without_end_zeros-bytes.ensures.last in
    let new : Placed = record { at = c.args.at; block = c.write_at.new.self } in
    let absent = absent_from c.args.blocks.now.items c.deref.result.now c.args.at c.deref.ensures.value c.in-Err.ensures.absent in
    let none : block_in c.args.blocks.now.items c.args.at ≡ [] = none_in c.args.blocks.now.items c.args.at absent in
    let w : IsWritten (slice_index []) (slice_index (written [] c.args.start part)) c.args.start c.args.bytes.now =
    written_with_zeros [] (slice_index (written [] c.args.start part)) c.args.start part c.args.bytes.now (omega arith) c.without_end_zeros-bytes.ensures.size
    c.without_end_zeros-bytes.ensures.front c.without_end_zeros-bytes.ensures.zeros (written_at [] c.args.start part) in
    on_ok_weaker c.add.result (λ e.
    subst (λ b. IsWritten (slice_index b) (slice_index (block_in c.add.new.blocks.items c.args.at)) c.args.start c.args.bytes.now) (sym none)
    (subst (λ b. IsWritten (slice_index []) (slice_index b) c.args.start c.args.bytes.now) (sym ((insert_to c.args.blocks.now.items c.add.new.blocks.items c.in-Err.index new c.requires.blocks (rw (← c.deref.ensures.value) c.in-Err.ensures.place) absent (rw is made) e).1.there ∙ is)) w))
    c.add.ensures.after

pub returns-in_ok-write_at-in-Err-clause-others : goal.returns-in_ok-write_at-in-Err-clause-others
returns-in_ok-write_at-in-Err-clause-others c =
    let part : List ℕ = c.without_end_zeros-bytes.result.now in
    let is : c.write_at.new.self ≡ written [] c.args.start part = c.in_ok-write_at-in-Err.ensures.after ∙ ap (λ xs. written xs c.args.start part) c.new-block.ensures in
    let some : 0 < length part = grind (arith, common_steps) in
    let made : IsBlock (written [] c.args.start part) =
    block_end [] c.args.start part some (omega (arith, c.requires.limit, c.without_end_zeros-bytes.ensures.size)) (omega arith) c.without_end_zeros-bytes.ensures.last in
    let new : Placed = record { at = c.args.at; block = c.write_at.new.self } in
    let absent = absent_from c.args.blocks.now.items c.deref.result.now c.args.at c.deref.ensures.value c.in-Err.ensures.absent in
    on_ok_weaker c.add.result (λ e. (insert_to c.args.blocks.now.items c.add.new.blocks.items c.in-Err.index new c.requires.blocks (rw (← c.deref.ensures.value) c.in-Err.ensures.place) absent (rw is made) e).1.others) c.add.ensures.after
