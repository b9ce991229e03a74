use Rattle.std.proofs.Common.{◌≡◌, ◌∙◌, ◌+◌, ◌<◌, ℕ, List, arith, ap, subst, refl, length}
use Rattle.std.specs.Prelude.{slice_index}
use Rattle.std.proofs.lemmas.Result.{on_ok_weaker}
use Rattle.std.proofs.lemmas.Grind.{common_steps}
use Rattle.ft_body.specs.declared.blocks.Placed.{Placed}
use Rattle.ft_body.specs.Bytes.{written}
use Rattle.ft_body.specs.Blocks.{placed_at, block_in, IsBlock}
use Rattle.ft_body.specs.Paging.{IsFront}
use Rattle.ft_body.proofs.PageWrites.{written_at, written_with_zeros}
use Rattle.ft_body.proofs.BlockLists.{each_block, found_at, set_at, set_to}
use Rattle.ft_body.proofs.BlockWrites.{block_inside, block_at_end, written_then_cut}
use Rattle.ft_body.proofs.spread.write_found.Goals as goal

pub returns-then-start-bytes-clause-blocks : goal.returns-then-start-bytes-clause-blocks
returns-then-start-bytes-clause-blocks c =
    let inside : c.args.index < length c.args.blocks.now.items = grind (arith, common_steps) in
    let block : Placed = placed_at c.args.blocks.now.items c.args.index in
    let is : c.index.result.now ≡ block = found_at c.args.blocks.now.items c.args.index c.index.result.now inside c.index.ensures in
    let had : IsBlock block.block = each_block 0 c.args.blocks.now.items c.args.index c.requires.blocks inside in
    let size : c.len-size.result ≡ length block.block = c.len-size.ensures.count ∙ ap (λ p. length p.block) is in
    let new : Placed = record { at = block.at; block = written block.block c.args.start c.args.bytes.now } in
    let kept : IsBlock new.block = block_inside block.block c.args.start c.args.bytes.now had (omega (arith, size, c.if-start-bytes.true)) in
    on_ok_weaker c.write_at.result (λ e. (set_to c.args.blocks.now.items c.write_at.new.blocks.items c.args.index new c.requires.blocks inside refl kept e).0) c.write_at.ensures.after

pub returns-then-start-bytes-clause-there : goal.returns-then-start-bytes-clause-there
returns-then-start-bytes-clause-there c =
    let inside : c.args.index < length c.args.blocks.now.items = grind (arith, common_steps) in
    let block : Placed = placed_at c.args.blocks.now.items c.args.index in
    let is : c.index.result.now ≡ block = found_at c.args.blocks.now.items c.args.index c.index.result.now inside c.index.ensures in
    let had : IsBlock block.block = each_block 0 c.args.blocks.now.items c.args.index c.requires.blocks inside in
    let size : c.len-size.result ≡ length block.block = c.len-size.ensures.count ∙ ap (λ p. length p.block) is in
    let new : Placed = record { at = block.at; block = written block.block c.args.start c.args.bytes.now } in
    let kept : IsBlock new.block = block_inside block.block c.args.start c.args.bytes.now had (omega (arith, size, c.if-start-bytes.true)) in
    on_ok_weaker c.write_at.result (λ e. rw (set_to c.args.blocks.now.items c.write_at.new.blocks.items c.args.index new c.requires.blocks inside refl kept e).1.there (written_at block.block c.args.start c.args.bytes.now)) c.write_at.ensures.after

pub returns-then-start-bytes-clause-others : goal.returns-then-start-bytes-clause-others
returns-then-start-bytes-clause-others c =
    let inside : c.args.index < length c.args.blocks.now.items = grind (arith, common_steps) in
    let block : Placed = placed_at c.args.blocks.now.items c.args.index in
    let is : c.index.result.now ≡ block = found_at c.args.blocks.now.items c.args.index c.index.result.now inside c.index.ensures in
    let had : IsBlock block.block = each_block 0 c.args.blocks.now.items c.args.index c.requires.blocks inside in
    let size : c.len-size.result ≡ length block.block = c.len-size.ensures.count ∙ ap (λ p. length p.block) is in
    let new : Placed = record { at = block.at; block = written block.block c.args.start c.args.bytes.now } in
    let kept : IsBlock new.block = block_inside block.block c.args.start c.args.bytes.now had (omega (arith, size, c.if-start-bytes.true)) in
    on_ok_weaker c.write_at.result (λ e. (set_to c.args.blocks.now.items c.write_at.new.blocks.items c.args.index new c.requires.blocks inside refl kept e).1.others) c.write_at.ensures.after

pub cut_found-requires-clause-blocks : goal.cut_found-requires-clause-blocks
cut_found-requires-clause-blocks c =
    let inside : c.args.index < length c.args.blocks.now.items = grind (arith, common_steps) in
    let block : Placed = placed_at c.args.blocks.now.items c.args.index in
    let is : c.index.result.now ≡ block = found_at c.args.blocks.now.items c.args.index c.index.result.now inside c.index.ensures in
    let had : IsBlock block.block = each_block 0 c.args.blocks.now.items c.args.index c.requires.blocks inside in
    let size : c.len-size.result ≡ length block.block = c.len-size.ensures.count ∙ ap (λ p. length p.block) is in
    let part : List ℕ = c.without_end_zeros-bytes.result.now in
    let mid : Placed = record { at = block.at; block = written block.block c.args.start part } in
    let kept : IsBlock mid.block = block_inside block.block c.args.start part had (omega (arith, size, c.if-start-bytes-2.true)) in
    let to = set_to c.args.blocks.now.items c.write_at-2.new.blocks.items c.args.index mid c.requires.blocks inside refl kept c.in_ok-write_at.ensures.after in
    to.0

pub returns-in_ok-cut_found-clause-there : goal.returns-in_ok-cut_found-clause-there
returns-in_ok-cut_found-clause-there c =
    let inside : c.args.index < length c.args.blocks.now.items = grind (arith, common_steps) in
    let block : Placed = placed_at c.args.blocks.now.items c.args.index in
    let is : c.index.result.now ≡ block = found_at c.args.blocks.now.items c.args.index c.index.result.now inside c.index.ensures in
    let had : IsBlock block.block = each_block 0 c.args.blocks.now.items c.args.index c.requires.blocks inside in
    let size : c.len-size.result ≡ length block.block = c.len-size.ensures.count ∙ ap (λ p. length p.block) is in
    let part : List ℕ = c.without_end_zeros-bytes.result.now in
    let mid : Placed = record { at = block.at; block = written block.block c.args.start part } in
    let kept : IsBlock mid.block = block_inside block.block c.args.start part had (omega (arith, size, c.if-start-bytes-2.true)) in
    let to = set_to c.args.blocks.now.items c.write_at-2.new.blocks.items c.args.index mid c.requires.blocks inside refl kept c.in_ok-write_at.ensures.after in
    let at : placed_at c.write_at-2.new.blocks.items c.args.index ≡ mid = set_at c.args.blocks.now.items c.write_at-2.new.blocks.items c.args.index mid inside c.in_ok-write_at.ensures.after in
    let front : IsFront (slice_index mid.block) (slice_index (block_in c.cut_found.new.blocks.items mid.at)) (c.args.start + length part) =
    subst (λ p. IsFront (slice_index p.block) (slice_index (block_in c.cut_found.new.blocks.items p.at)) (c.args.start + length part)) at c.in_ok-cut_found.ensures.there in
    written_then_cut block.block c.args.bytes.now part (slice_index mid.block) (slice_index (block_in c.cut_found.new.blocks.items block.at)) c.args.start (omega (arith, size, c.if-start-bytes.false))
    c.without_end_zeros-bytes.ensures.size c.without_end_zeros-bytes.ensures.front c.without_end_zeros-bytes.ensures.zeros (written_at block.block c.args.start part) front

pub returns-in_ok-cut_found-clause-others : goal.returns-in_ok-cut_found-clause-others
returns-in_ok-cut_found-clause-others c =
    let inside : c.args.index < length c.args.blocks.now.items = grind (arith, common_steps) in
    let block : Placed = placed_at c.args.blocks.now.items c.args.index in
    let is : c.index.result.now ≡ block = found_at c.args.blocks.now.items c.args.index c.index.result.now inside c.index.ensures in
    let had : IsBlock block.block = each_block 0 c.args.blocks.now.items c.args.index c.requires.blocks inside in
    let size : c.len-size.result ≡ length block.block = c.len-size.ensures.count ∙ ap (λ p. length p.block) is in
    let part : List ℕ = c.without_end_zeros-bytes.result.now in
    let mid : Placed = record { at = block.at; block = written block.block c.args.start part } in
    let kept : IsBlock mid.block = block_inside block.block c.args.start part had (omega (arith, size, c.if-start-bytes-2.true)) in
    let to = set_to c.args.blocks.now.items c.write_at-2.new.blocks.items c.args.index mid c.requires.blocks inside refl kept c.in_ok-write_at.ensures.after in
    let at : placed_at c.write_at-2.new.blocks.items c.args.index ≡ mid = set_at c.args.blocks.now.items c.write_at-2.new.blocks.items c.args.index mid inside c.in_ok-write_at.ensures.after in
    λ n d. c.in_ok-cut_found.ensures.others n (λ e. d (e ∙ ap (λ p. p.at) at)) ∙ to.1.others n d

pub returns-else-start-bytes-2-clause-blocks : goal.returns-else-start-bytes-2-clause-blocks
returns-else-start-bytes-2-clause-blocks c =
    let inside : c.args.index < length c.args.blocks.now.items = grind (arith, common_steps) in
    let block : Placed = placed_at c.args.blocks.now.items c.args.index in
    let is : c.index.result.now ≡ block = found_at c.args.blocks.now.items c.args.index c.index.result.now inside c.index.ensures in
    let had : IsBlock block.block = each_block 0 c.args.blocks.now.items c.args.index c.requires.blocks inside in
    let size : c.len-size.result ≡ length block.block = c.len-size.ensures.count ∙ ap (λ p. length p.block) is in
    let part : List ℕ = c.without_end_zeros-bytes.result.now in
    let new : Placed = record { at = block.at; block = written block.block c.args.start part } in
    let kept : IsBlock new.block =
    block_at_end block.block c.args.start part had (omega (arith, c.requires.limit, c.without_end_zeros-bytes.ensures.size)) (omega (arith, size, c.if-start-bytes-2.false)) c.without_end_zeros-bytes.ensures.last in
    let to = set_to c.args.blocks.now.items c.write_at-2.new.blocks.items c.args.index new c.requires.blocks inside refl kept c.in_ok-write_at.ensures.after in
    to.0

pub returns-else-start-bytes-2-clause-there : goal.returns-else-start-bytes-2-clause-there
returns-else-start-bytes-2-clause-there c =
    let inside : c.args.index < length c.args.blocks.now.items = grind (arith, common_steps) in
    let block : Placed = placed_at c.args.blocks.now.items c.args.index in
    let is : c.index.result.now ≡ block = found_at c.args.blocks.now.items c.args.index c.index.result.now inside c.index.ensures in
    let had : IsBlock block.block = each_block 0 c.args.blocks.now.items c.args.index c.requires.blocks inside in
    let size : c.len-size.result ≡ length block.block = c.len-size.ensures.count ∙ ap (λ p. length p.block) is in
    let part : List ℕ = c.without_end_zeros-bytes.result.now in
    let new : Placed = record { at = block.at; block = written block.block c.args.start part } in
    let kept : IsBlock new.block =
    block_at_end block.block c.args.start part had (omega (arith, c.requires.limit, c.without_end_zeros-bytes.ensures.size)) (omega (arith, size, c.if-start-bytes-2.false)) c.without_end_zeros-bytes.ensures.last in
    let to = set_to c.args.blocks.now.items c.write_at-2.new.blocks.items c.args.index new c.requires.blocks inside refl kept c.in_ok-write_at.ensures.after in
    rw to.1.there (written_with_zeros block.block (slice_index new.block) c.args.start part c.args.bytes.now (omega (arith, size, c.if-start-bytes-2.false))
    c.without_end_zeros-bytes.ensures.size c.without_end_zeros-bytes.ensures.front c.without_end_zeros-bytes.ensures.zeros (written_at block.block c.args.start part))

pub returns-else-start-bytes-2-clause-others : goal.returns-else-start-bytes-2-clause-others
returns-else-start-bytes-2-clause-others c =
    let inside : c.args.index < length c.args.blocks.now.items = grind (arith, common_steps) in
    let block : Placed = placed_at c.args.blocks.now.items c.args.index in
    let is : c.index.result.now ≡ block = found_at c.args.blocks.now.items c.args.index c.index.result.now inside c.index.ensures in
    let had : IsBlock block.block = each_block 0 c.args.blocks.now.items c.args.index c.requires.blocks inside in
    let size : c.len-size.result ≡ length block.block = c.len-size.ensures.count ∙ ap (λ p. length p.block) is in
    let part : List ℕ = c.without_end_zeros-bytes.result.now in
    let new : Placed = record { at = block.at; block = written block.block c.args.start part } in
    let kept : IsBlock new.block =
    block_at_end block.block c.args.start part had (omega (arith, c.requires.limit, c.without_end_zeros-bytes.ensures.size)) (omega (arith, size, c.if-start-bytes-2.false)) c.without_end_zeros-bytes.ensures.last in
    let to = set_to c.args.blocks.now.items c.write_at-2.new.blocks.items c.args.index new c.requires.blocks inside refl kept c.in_ok-write_at.ensures.after in
    to.1.others
