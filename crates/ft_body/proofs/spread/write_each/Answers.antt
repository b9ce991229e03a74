use Rattle.std.proofs.Common.{◌≡◌, ◌-◌, arith, ap, take, drop}
use Rattle.ft_body.proofs.Blocked.{written_step}
use Rattle.ft_body.proofs.spread.write_each.Goals as goal

pub loop-at-preserved : goal.loop-at-preserved
loop-at-preserved c =
    let same : c.min-to.result - c.args.offset - (c.max-from.result - c.args.offset) ≡ c.min-to.result - c.max-from.result = omega arith in record {
      blocks_are = c.in_ok-write_block.ensures.blocks;
      wrote = written_step c.args.blocks.now.items c.loop-at.blocks.items c.write_block.new.blocks.items c.loop-at.at c.args.offset c.max-from.result c.min-to.result c.args.bytes.now _
          c.max-from.ensures c.min-to.ensures (omega arith) (ap (λ n. take n (drop (c.max-from.result - c.args.offset) c.args.bytes.now)) same) c.loop-at.invariant.wrote
          c.in_ok-write_block.ensures.there c.in_ok-write_block.ensures.others;
      back = λ before u. c.in_ok-write_block.ensures.lost before (c.loop-at.invariant.back before u);
    }
