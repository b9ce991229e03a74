use Rattle.std.proofs.Common.{◌≡◌, ◌∙◌, ap, take, arith, get_or}
use Rattle.std.specs.List.{sum_by}
use Rattle.std.proofs.lemmas.List.{take_all}
use Rattle.std.proofs.lemmas.List.Sums.{sum_by_more_le}
use Rattle.ft_body.specs.Paging.{made_pages}
use Rattle.ft_body.proofs.MadeBlocks.{blocks_made, made_fits}
use Rattle.ft_body.proofs.spread.made.Goals as goal

pub overflow_add-made : goal.overflow_add-made
overflow_add-made c =
    let is : c.pages-made.result ≡ made_pages (get_or c.args.blocks.now c.loop-placed.placed-index c.placed-item.result).block =
    c.pages-made.ensures ∙ ap (λ placed. made_pages placed.block) c.placed-item.is in
    omega (
      arith,
      is,
      sum_by_more_le (λ placed. made_pages placed.block) c.args.blocks.now c.loop-placed.placed-index c.placed-item.result c.loop-placed-test.true,
      made_fits c.args.size c.args.blocks.now c.requires,
      c.loop-placed.invariant,
    )

pub returns : goal.returns
returns c =
    let all : take c.loop-placed.placed-index c.args.blocks.now ≡ c.args.blocks.now = take_all c.loop-placed.placed-index c.args.blocks.now (omega arith) in
    c.loop-placed.invariant ∙ ap (sum_by (λ placed. made_pages placed.block)) all ∙ blocks_made c.args.size c.args.blocks.now c.requires
