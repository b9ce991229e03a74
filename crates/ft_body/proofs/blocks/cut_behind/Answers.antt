use Rattle.std.proofs.Common.{◌≡◌, ◌∙◌, ◌++◌, ◌∷◌, [], ap, length, take, drop, arith}
use Rattle.std.proofs.lemmas.Grind.{common_steps}
use Rattle.ft_body.specs.declared.blocks.LostBlocks.TheVariants.{Tail}
use Rattle.ft_body.proofs.StepsBack.{tail_back, still_more}
use Rattle.ft_body.proofs.blocks.cut_behind.Goals as goal

pub returns-clause-lost : goal.returns-clause-lost
returns-clause-lost c =
    let long : length c.resize_with.new.self.items ≡ c.args.kept = grind (arith, common_steps) in
    let is : c.replace-blocks.new.dest.items ≡ take c.args.kept c.args.blocks.now.items ++ drop c.args.kept c.resize_with.new.self.items =
    ap (λ v. v.items) c.replace-blocks.ensures.after ∙ c.swap_fronts.ensures.some in
    let are : c.replace-blocks.result.items ≡ take c.args.kept c.resize_with.new.self.items ++ drop c.args.kept c.args.blocks.now.items =
    ap (λ v. v.items) c.replace-blocks.ensures.value ∙ c.swap_fronts.ensures.others in
    let back = tail_back c.args.blocks.now.items c.resize_with.new.self.items c.replace-blocks.new.dest.items c.replace-blocks.result.items c.args.kept (grind (arith, common_steps)) long is are in
    still_more c.args.steps.now.items c.push_reserved.new.self.items (Tail c.args.kept c.replace-blocks.result) c.replace-blocks.new.dest.items c.args.blocks.now.items
    (c.push_reserved.ensures.items ∙ ap (λ steps. steps ++ Tail c.args.kept c.replace-blocks.result ∷ []) c.reserve.ensures.items) (back.1, back.2) back.3
