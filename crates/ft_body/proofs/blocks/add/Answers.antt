use Rattle.std.proofs.Common.{◌≡◌, ◌∙◌, ◌++◌, ◌∷◌, [], ap, sym, arith}
use Rattle.std.specs.List.{insert, remove}
use Rattle.std.proofs.lemmas.Grind.{common_steps}
use Rattle.ft_body.specs.declared.blocks.LostBlocks.TheVariants.{Made}
use Rattle.ft_body.proofs.StepsBack.{still_more, remove_insert}
use Rattle.ft_body.proofs.blocks.add.Goals as goal

pub returns-clause-lost : goal.returns-clause-lost
returns-clause-lost c =
    let is : c.insert.new.self.items ≡ insert c.args.blocks.now.items c.args.index c.args.placed =
    c.in_ok-insert.ensures.items ∙ ap (λ blocks. insert blocks c.args.index c.args.placed) c.make_place.ensures in
    still_more c.args.steps.now.items c.push_reserved.new.self.items (Made c.args.index) c.insert.new.self.items c.args.blocks.now.items
    (c.push_reserved.ensures.items ∙ ap (λ steps. steps ++ Made c.args.index ∷ []) c.reserve.ensures.items) (grind (arith, common_steps))
    (sym (ap (λ blocks. remove blocks c.args.index) is ∙ remove_insert c.args.blocks.now.items c.args.index c.args.placed (grind (arith, common_steps))))
