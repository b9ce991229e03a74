use Rattle.std.proofs.Common.{◌≡◌, ◌∙◌, ◌<◌, arith, subst, refl, length, get_or}
use Rattle.std.proofs.lemmas.Result.{on_ok_weaker}
use Rattle.std.proofs.lemmas.Grind.{common_steps}
use Rattle.ft_body.specs.declared.blocks.Placed.{Placed}
use Rattle.ft_body.specs.Bytes.{resized}
use Rattle.ft_body.specs.Blocks.{placed_at}
use Rattle.ft_body.specs.Paging.{IsFrontEnd}
use Rattle.ft_body.proofs.BlockLists.{each_block, found_in, found_at, set_to, remove_to}
use Rattle.ft_body.proofs.BlockWrites.{cut_block, cut_block_front, cut_all_front, cut_none_front}
use Rattle.ft_body.proofs.spread.cut_found.Goals as goal

pub returns-then-end-len-clause-there : goal.returns-then-end-len-clause-there
returns-then-end-len-clause-there c =
    let inside : c.args.index < length c.args.blocks.now.items = grind (arith, common_steps) in
    let block : Placed = placed_at c.args.blocks.now.items c.args.index in
    let is : c.index.result.now ≡ block = found_at c.args.blocks.now.items c.args.index c.index.result.now inside c.index.ensures in
    let end : IsFrontEnd (λ k. get_or block.block k 0) c.args.size (length block.block) =
    rw (← is) (subst (λ n. IsFrontEnd (λ k. get_or c.index.result.now.block k 0) c.args.size n) (c.if-end-len.true ∙ c.len.ensures.count) c.end_below-end.ensures) in
    rw (found_in 0 c.args.blocks.now.items c.args.index block.at c.requires.blocks inside refl) (cut_none_front block.block c.args.size end)

pub returns-then-end-eq0-clause-blocks : goal.returns-then-end-eq0-clause-blocks
returns-then-end-eq0-clause-blocks c =
    let inside : c.args.index < length c.args.blocks.now.items = grind (arith, common_steps) in
    on_ok_weaker c.take_out.result (λ e. (remove_to c.args.blocks.now.items c.take_out.new.blocks.items c.args.index c.requires.blocks inside e).0) c.take_out.ensures.after

pub returns-then-end-eq0-clause-there : goal.returns-then-end-eq0-clause-there
returns-then-end-eq0-clause-there c =
    let inside : c.args.index < length c.args.blocks.now.items = grind (arith, common_steps) in
    let block : Placed = placed_at c.args.blocks.now.items c.args.index in
    let is : c.index.result.now ≡ block = found_at c.args.blocks.now.items c.args.index c.index.result.now inside c.index.ensures in
    let end : IsFrontEnd (λ k. get_or block.block k 0) c.args.size 0 =
    rw (← is) (subst (λ n. IsFrontEnd (λ k. get_or c.index.result.now.block k 0) c.args.size n) c.if-end-eq0.true c.end_below-end.ensures) in
    on_ok_weaker c.take_out.result (λ e.
    rw (remove_to c.args.blocks.now.items c.take_out.new.blocks.items c.args.index c.requires.blocks inside e).1.there (cut_all_front block.block c.args.size end)) c.take_out.ensures.after

pub returns-then-end-eq0-clause-others : goal.returns-then-end-eq0-clause-others
returns-then-end-eq0-clause-others c =
    let inside : c.args.index < length c.args.blocks.now.items = grind (arith, common_steps) in
    on_ok_weaker c.take_out.result (λ e. (remove_to c.args.blocks.now.items c.take_out.new.blocks.items c.args.index c.requires.blocks inside e).1.others) c.take_out.ensures.after

pub cut_at-requires-clause-limit : goal.cut_at-requires-clause-limit
cut_at-requires-clause-limit c =
    let inside : c.args.index < length c.args.blocks.now.items = grind (arith, common_steps) in
    let block : Placed = placed_at c.args.blocks.now.items c.args.index in
    let is : c.index.result.now ≡ block = found_at c.args.blocks.now.items c.args.index c.index.result.now inside c.index.ensures in
    (cut_block block.block c.args.size c.end_below-end.result (each_block 0 c.args.blocks.now.items c.args.index c.requires.blocks inside) (rw (← is) c.end_below-end.ensures) (omega arith)).0

pub returns-clause-blocks : goal.returns-clause-blocks
returns-clause-blocks c =
    let inside : c.args.index < length c.args.blocks.now.items = grind (arith, common_steps) in
    let block : Placed = placed_at c.args.blocks.now.items c.args.index in
    let is : c.index.result.now ≡ block = found_at c.args.blocks.now.items c.args.index c.index.result.now inside c.index.ensures in
    let cut = cut_block block.block c.args.size c.end_below-end.result (each_block 0 c.args.blocks.now.items c.args.index c.requires.blocks inside) (rw (← is) c.end_below-end.ensures) (omega arith) in
    on_ok_weaker c.cut_at.result (λ e.
    (set_to c.args.blocks.now.items c.cut_at.new.blocks.items c.args.index record { at = block.at; block = resized block.block c.end_below-end.result } c.requires.blocks inside refl cut.1 e).0) c.cut_at.ensures.after

pub returns-clause-there : goal.returns-clause-there
returns-clause-there c =
    let inside : c.args.index < length c.args.blocks.now.items = grind (arith, common_steps) in
    let block : Placed = placed_at c.args.blocks.now.items c.args.index in
    let is : c.index.result.now ≡ block = found_at c.args.blocks.now.items c.args.index c.index.result.now inside c.index.ensures in
    let cut = cut_block block.block c.args.size c.end_below-end.result (each_block 0 c.args.blocks.now.items c.args.index c.requires.blocks inside) (rw (← is) c.end_below-end.ensures) (omega arith) in
    on_ok_weaker c.cut_at.result (λ e.
    rw (set_to c.args.blocks.now.items c.cut_at.new.blocks.items c.args.index record { at = block.at; block = resized block.block c.end_below-end.result } c.requires.blocks inside refl cut.1 e).1.there
    (cut_block_front block.block c.args.size c.end_below-end.result (rw (← is) c.end_below-end.ensures))) c.cut_at.ensures.after

pub returns-clause-others : goal.returns-clause-others
returns-clause-others c =
    let inside : c.args.index < length c.args.blocks.now.items = grind (arith, common_steps) in
    let block : Placed = placed_at c.args.blocks.now.items c.args.index in
    let is : c.index.result.now ≡ block = found_at c.args.blocks.now.items c.args.index c.index.result.now inside c.index.ensures in
    let cut = cut_block block.block c.args.size c.end_below-end.result (each_block 0 c.args.blocks.now.items c.args.index c.requires.blocks inside) (rw (← is) c.end_below-end.ensures) (omega arith) in
    on_ok_weaker c.cut_at.result (λ e. (set_to c.args.blocks.now.items c.cut_at.new.blocks.items c.args.index record { at = block.at; block = resized block.block c.end_below-end.result } c.requires.blocks inside refl cut.1 e).1.others)
    c.cut_at.ensures.after
