use Rattle.std.proofs.Common.{rules, ◌≡◌, subst}
use Rattle.ft_names.specs.Names.{Naming, no_names}
use Rattle.ft_script.specs.Runs.{StopsStrictly, WritesFront}
use Rattle.ft_script.specs.declared.strictly.StrictFault.{StrictFault}
use Rattle.ft_script.specs.declared.strictly.StrictFault.TheVariants.{Play, Line}
use Rattle.ft_run.proofs.strictly.play_strictly_status.Goals as goal

pub returns-in-Err-Play-clause-fault : goal.returns-in-Err-Play-clause-fault
returns-in-Err-Play-clause-fault g c one =
    let before = g.E.Write.contents c.args.errors.now in
    let after = g.E.Write.contents c.report_fault.new.errors in
    let is : c.in-Err-Play.field-0 ≡ Play c.in-Err-Play.fault = search rules in
    let stops = subst (λ (fault : StrictFault). (names : Naming) × StopsStrictly (g.F.DiskFiles.tells c.args.files.now) fault (g.R.Read.remaining c.args.reader.now) (g.R.Read.remaining c.play_strictly.new.reader)
    (g.W.Write.contents c.args.writer.now) (g.W.Write.contents c.play_strictly.new.writer) (c.args.core.state, no_names) (c.play_strictly.new.core.state, names)) is c.in-Err-Play.ensures.fault in
    (c.in-Err-Play.fault, (c.play_strictly.new.core.state, stops.0), stops.1, subst (WritesFront before after) c.fault_line.ensures c.report_fault.ensures.line)

pub returns-in-Ok-clause-ok : goal.returns-in-Ok-clause-ok
returns-in-Ok-clause-ok g c zero = let plays = c.in-Ok.ensures.ok in ((c.play_strictly.new.core.state, plays.0), plays.1)

pub returns-clause-failed : goal.returns-clause-failed
returns-clause-failed g c three =
    let is : c.in-Err-Line.field-0 ≡ Line c.in-Err-Line.line = search rules in
    let stops = subst (λ (fault : StrictFault). (names : Naming) × StopsStrictly (g.F.DiskFiles.tells c.args.files.now) fault (g.R.Read.remaining c.args.reader.now) (g.R.Read.remaining c.play_strictly.new.reader)
    (g.W.Write.contents c.args.writer.now) (g.W.Write.contents c.play_strictly.new.writer) (c.args.core.state, no_names) (c.play_strictly.new.core.state, names)) is c.in-Err-Line.ensures.fault in
    (c.in-Err-Line.line, (c.play_strictly.new.core.state, stops.0), stops.1, c.report_line.ensures.line)
