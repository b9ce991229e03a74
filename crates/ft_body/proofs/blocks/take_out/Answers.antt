use Rattle.std.proofs.Common.{◌≡◌, ◌∙◌, ◌-◌, ◌<◌, ◌++◌, ◌∷◌, [], ap, arith, length, take}
use Rattle.std.specs.List.{remove}
use Rattle.std.proofs.lemmas.List.{with_items_is}
use Rattle.std.proofs.lemmas.Result.{on_ok_weaker}
use Rattle.std.proofs.lemmas.Grind.{common_steps}
use Rattle.ft_body.specs.declared.blocks.LostBlocks.TheVariants.{Last}
use Rattle.ft_body.specs.Blocks.{no_block, placed_at}
use Rattle.ft_body.proofs.StepsBack.{last_back, last_off, still_more}
use Rattle.ft_body.proofs.blocks.take_out.Goals as goal

inside : (c : goal.After-cut_behind) → c.args.index < length c.args.blocks.now.items
inside c = grind (arith, common_steps)

moved : (c : goal.After-cut_behind) → c.move_last.new.blocks ≡ remove c.args.blocks.now.items c.args.index ++ placed_at c.args.blocks.now.items c.args.index ∷ []
moved c = c.move_last.ensures ∙ ap (λ blocks. remove blocks c.args.index ++ placed_at blocks c.args.index ∷ []) c.deref_mut.ensures.value

pub returns-clause-after : goal.returns-clause-after
returns-clause-after c =
    let whole = with_items_is c.args.blocks.now c.move_last.new.blocks (c.move_last.auto.blocks ∙ c.deref_mut.ensures.len) in
    on_ok_weaker c.cut_behind.result (λ e.
    last_off c.args.blocks.now.items c.move_last.new.blocks c.cut_behind.new.blocks.items c.args.index c.len-kept.result no_block (inside c) (moved c)
    (grind (arith, common_steps)) (e ∙ ap (take (c.len-kept.result - 1)) whole))
    c.cut_behind.ensures.after

pub returns-clause-lost : goal.returns-clause-lost
returns-clause-lost c = λ before u.
    let whole = with_items_is c.args.blocks.now c.move_last.new.blocks (c.move_last.auto.blocks ∙ c.deref_mut.ensures.len) in
    let back = last_back c.args.blocks.now.items c.move_last.new.blocks c.args.index no_block (inside c) (moved c) in
    c.cut_behind.ensures.lost before (rw whole (still_more c.args.steps.now.items c.push_reserved.new.self.items (Last c.args.index) c.move_last.new.blocks c.args.blocks.now.items
    (c.push_reserved.ensures.items ∙ ap (λ steps. steps ++ Last c.args.index ∷ []) c.reserve.ensures.items) back.0 back.1 before u))
