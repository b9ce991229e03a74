use Rattle.std.proofs.Common.{◌≡◌, ◌∙◌, ◌<◌, ◌++◌, ◌∷◌, [], ap, length, refl, arith}
use Rattle.std.proofs.Math.ListN.{set}
use Rattle.std.proofs.lemmas.List.{get_or_read}
use Rattle.std.proofs.lemmas.Grind.{common_steps}
use Rattle.ft_body.specs.declared.blocks.LostBlocks.TheVariants.{Changed}
use Rattle.ft_body.specs.Blocks.{no_block, placed_at}
use Rattle.ft_body.proofs.StepsBack.{changed_back, still_more}
use Rattle.ft_body.proofs.blocks.cut_at.Goals as goal

pub returns-clause-lost : goal.returns-clause-lost
returns-clause-lost c =
    let inside : c.args.index < length c.args.blocks.now.items = grind (arith, common_steps) in
    let found : c.index_mut.result.now ≡ placed_at c.args.blocks.now.items c.args.index =
    get_or_read c.args.blocks.now.items c.args.index c.index_mut.result.now inside c.index_mut.ensures.value no_block in
    let back = changed_back c.args.blocks.now.items (set c.args.blocks.now.items c.args.index record { at = c.index_mut.result.now.at; block = c.set_len.new.self }) c.args.index c.index_mut.result.now
    c.set_len.new.self c.in_ok-undo.undo inside found refl c.in_ok-undo.ensures.undo in
    still_more c.args.steps.now.items c.push_reserved.new.self.items (Changed c.args.index c.in_ok-undo.undo)
    (set c.args.blocks.now.items c.args.index record { at = c.index_mut.result.now.at; block = c.set_len.new.self }) c.args.blocks.now.items
    (c.push_reserved.ensures.items ∙ ap (λ steps. steps ++ Changed c.args.index c.in_ok-undo.undo ∷ []) c.reserve.ensures.items) back.0 back.1
