use borrow.Rule.Slice.PartMut.{same_len_mid}
use Rattle.std.proofs.Common.{◌∙◌, ◌-◌, length, take, arith}
use Rattle.percent_encoding.specs.Percent.{percent_decode}
use Rattle.ft_words.proofs.PercentCoding.{decode_done, none_left, put_more}
use Rattle.ft_words.proofs.coded.put_decoded.Goals as goal

pub loop-rest-preserved : goal.loop-rest-preserved
loop-rest-preserved c =
    let same = same_len_mid c.loop-rest.end (length c.loop-rest.place - c.loop-rest.end) c.loop-rest.place c.put_next-made.new.place c.put_next-made.ensures.len in
    record {
      bytes = put_more c.loop-rest.place c.put_next-made.new.place _ (percent_decode c.loop-rest.rest.now) (percent_decode c.put_next-made.result.1.now) (percent_decode c.args.word.now) c.loop-rest.end c.put_next-made.result.0 (omega arith) (omega arith) c.put_next-made.ensures.bytes c.loop-rest.invariant.bytes;
      room = omega (arith, same, c.loop-rest.invariant.room, c.put_next-made.ensures.room);
      len = same ∙ c.loop-rest.invariant.len;
    }

pub returns-clause-bytes : goal.returns-clause-bytes
returns-clause-bytes c = decode_done (take c.loop-rest.end c.loop-rest.place) c.loop-rest.rest.now (percent_decode c.args.word.now) (none_left c.loop-rest.rest.now c.loop-rest-test.ensures) c.loop-rest.invariant.bytes
