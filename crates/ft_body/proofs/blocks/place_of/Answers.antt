use Rattle.std.proofs.Common.{◌<◌, ◌≤◌, ◌+◌, ◌-◌, ◌/◌, ◌∙◌, ℕ, ap, sym, arith, length}
use Rattle.std.proofs.lemmas.List.{get_or_default}
use Rattle.ft_body.specs.Blocks.{no_block, placed_at}
use Rattle.ft_body.proofs.BlockLists.{place_found, before_more, behind_more}
use Rattle.ft_body.proofs.blocks.place_of.Goals as goal

pub returns-then-blocks-at : goal.returns-then-blocks-at
returns-then-blocks-at c =
    place_found c.args.blocks.now c.args.at c.args.at c.requires c.if-at-blocks.true
    (ap (λ p. p.at) (sym (get_or_default c.args.blocks.now c.args.at c.index-blocks-at.result no_block c.if-at-blocks.true)) ∙ c.if-blocks-at.true)

pub loop-low-preserved-then-blocks-middle : goal.loop-low-preserved-then-blocks-middle
loop-low-preserved-then-blocks-middle c =
    let middle : ℕ = c.loop-low.low + (c.loop-low.high - c.loop-low.low) / 2 in
    let inside : middle < length c.args.blocks.now = omega (arith, c.loop-low.invariant.within) in
    let less : (placed_at c.args.blocks.now middle).at < c.args.at =
    omega (arith, ap (λ p. p.at) (get_or_default c.args.blocks.now middle c.index-blocks-middle.result no_block inside), c.if-blocks-middle.true) in
    record {
      order = omega arith;
      within = c.loop-low.invariant.within;
      before = before_more c.args.blocks.now c.args.at middle c.requires inside less;
      behind = c.loop-low.invariant.behind;
    }

pub loop-low-preserved : goal.loop-low-preserved
loop-low-preserved c =
    let middle : ℕ = c.loop-low.low + (c.loop-low.high - c.loop-low.low) / 2 in
    let inside : middle < length c.args.blocks.now = omega (arith, c.loop-low.invariant.within) in
    let most : c.args.at ≤ (placed_at c.args.blocks.now middle).at =
    omega (arith, ap (λ p. p.at) (get_or_default c.args.blocks.now middle c.index-blocks-middle.result no_block inside), c.if-blocks-middle.false) in
    record {
      order = omega arith;
      within = omega (arith, c.loop-low.invariant.within);
      before = c.loop-low.invariant.before;
      behind = behind_more c.args.blocks.now c.args.at middle c.requires most;
    }
