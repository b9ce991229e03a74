use Rattle.std.proofs.Common.{inl, arith}
use Rattle.ft_words.specs.Texts.{coded}
use Rattle.ft_words.proofs.PercentCoding.{put_more}
use Rattle.ft_words.proofs.coding.put_coded.Goals as goal

pub loop-place-preserved : goal.loop-place-preserved
loop-place-preserved c = record {
  text = put_more c.loop-place.place c.put_next-made.new.place _ (coded c.loop-place.rest.now) (coded c.put_next-made.result.1.now) (coded c.args.bytes.now) c.loop-place.end c.put_next-made.result.0 (omega arith) (omega arith) c.put_next-made.ensures.text c.loop-place.invariant.text;
  within = omega (arith, c.put_next-made.ensures.within);
  fewer = inl (omega (arith, c.loop-place.invariant.fewer, c.put_next-made.ensures.fewer));
}
