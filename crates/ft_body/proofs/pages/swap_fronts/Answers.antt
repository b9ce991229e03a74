use Rattle.std.proofs.Common.{◌<◌, ◌∙◌, arith, length}
use Rattle.std.proofs.lemmas.Grind.{common_steps}
use Rattle.ft_body.proofs.PageLists.{swap_step}
use Rattle.ft_body.proofs.pages.swap_fronts.Goals as goal

pub loop-index-preserved : goal.loop-index-preserved
loop-index-preserved g c =
    let some : c.loop-index.index < length c.args.some.now.items = grind (arith, common_steps) in
    let others : c.loop-index.index < length c.args.others.now.items = grind (arith, common_steps) in
    record {
      some = swap_step c.args.some.now.items c.args.others.now.items c.loop-index.some.items c.loop-index.others.items c.loop-index.index c.swap.new.x _ some others
          c.loop-index.invariant.some c.loop-index.invariant.others (c.swap.ensures.x_after ∙ c.index_mut-in-loop-index.ensures.value);
      others = swap_step c.args.others.now.items c.args.some.now.items c.loop-index.others.items c.loop-index.some.items c.loop-index.index c.swap.new.y _ others some
          c.loop-index.invariant.others c.loop-index.invariant.some (c.swap.ensures.y_after ∙ c.index_mut.ensures.value);
    }
