use Rattle.std.proofs.Common.{◌++◌, take, rules}
use Rattle.ft_words.proofs.Bytes.{front_gone}
use Rattle.ft_script.proofs.Running.{appends_more, part_left}
use Rattle.ft_script.proofs.writing.write_out.Goals as goal

pub loop-rest-preserved : goal.loop-rest-preserved
loop-rest-preserved g c =
    let so_far = c.loop-rest.invariant in
    let rest = c.loop-rest.rest.now in (
      so_far.0 ++ take c.in-Ok.count rest,
      front_gone c.args.bytes.now so_far.0 rest c.in-Ok.count so_far.1,
      appends_more _ _ _ so_far.0 (take c.in-Ok.count rest) so_far.2 c.in-Ok.ensures.bytes,
    )

pub returns-in-Ok-eq0-clause-err : goal.returns-in-Ok-eq0-clause-err
returns-in-Ok-eq0-clause-err g c =
    let so_far = c.loop-rest.invariant in
    part_left c.args.bytes.now so_far.0 c.loop-rest.rest.now (g.W.Write.contents c.args.writer.now) (g.W.Write.contents c.loop-rest.writer) (g.W.Write.contents c.write.new.self) so_far.1 so_far.2 (search rules) c.loop-rest-test.ensures

pub returns-in-Ok-eq0-2-clause-err : goal.returns-in-Ok-eq0-2-clause-err
returns-in-Ok-eq0-2-clause-err g c =
    let so_far = c.loop-rest.invariant in
    part_left c.args.bytes.now so_far.0 c.loop-rest.rest.now (g.W.Write.contents c.args.writer.now) (g.W.Write.contents c.loop-rest.writer) (g.W.Write.contents c.write.new.self) so_far.1 so_far.2 (search rules) c.loop-rest-test.ensures
