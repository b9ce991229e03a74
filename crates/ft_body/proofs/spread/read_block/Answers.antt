use Rattle.std.proofs.Common.{◌≡◌, ◌∙◌, ◌<◌, ◌++◌, [], ap, sym, length, take, get_or, arith}
use Rattle.std.proofs.lemmas.List.{append-nil, drop_all, take_all, get_or_default}
use Rattle.std.proofs.lemmas.Result.{on_ok_weaker}
use Rattle.ft_body.specs.Bytes.{bytes_at}
use Rattle.ft_body.specs.Blocks.{no_block, placed_at, block_in}
use Rattle.ft_body.proofs.BlockLists.{none_in, found_in}
use Rattle.ft_body.proofs.spread.read_block.Goals as goal

pub returns-in-Ok : goal.returns-in-Ok
returns-in-Ok c =
    let inside : c.in-Ok.index < length c.args.blocks.now = c.in-Ok.ensures.found.0 in
    let is : get_or c.args.blocks.now c.in-Ok.index c.index-blocks-index.result ≡ placed_at c.args.blocks.now c.in-Ok.index =
    get_or_default c.args.blocks.now c.in-Ok.index c.index-blocks-index.result no_block inside in
    let found : block_in c.args.blocks.now c.args.at ≡ (placed_at c.args.blocks.now c.in-Ok.index).block =
    found_in 0 c.args.blocks.now c.in-Ok.index c.args.at c.requires inside c.in-Ok.ensures.found.1 in
    on_ok_weaker c.read_at.result (λ e. e ∙ ap (λ b. c.args.read.now.items ++ bytes_at b c.args.start c.args.count) (ap (λ p. p.block) is ∙ sym found)) c.read_at.ensures

pub returns-in-Err : goal.returns-in-Err
returns-in-Err c =
    let none : block_in c.args.blocks.now c.args.at ≡ [] = none_in c.args.blocks.now c.args.at c.in-Err.ensures.absent in
    let nothing : bytes_at (block_in c.args.blocks.now c.args.at) c.args.start c.args.count ≡ [] =
    ap (λ b. bytes_at b c.args.start c.args.count) none ∙ ap (take c.args.count) (drop_all c.args.start [] (omega arith)) ∙ take_all c.args.count [] (omega arith) in
    sym (ap (λ zs. c.args.read.now.items ++ zs) nothing ∙ append-nil c.args.read.now.items)
