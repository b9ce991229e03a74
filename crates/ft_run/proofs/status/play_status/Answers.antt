use Rattle.std.proofs.Common.{subst}
use Rattle.ft_script.specs.Runs.{WritesFront}
use Rattle.ft_run.proofs.status.play_status.Goals as goal

pub returns-clause-fault : goal.returns-clause-fault
returns-clause-fault g c one =
    let before = g.E.Write.contents c.args.errors.now in
    let after = g.E.Write.contents c.report_fault.new.errors in
    let stops = c.in-Err.ensures.fault in
    (c.in-Err.fault, (c.play.new.core.state, stops.0), stops.1, subst (WritesFront before after) c.fault_line.ensures c.report_fault.ensures.line)

pub returns-in-Ok-clause-ok : goal.returns-in-Ok-clause-ok
returns-in-Ok-clause-ok g c zero = let plays = c.in-Ok.ensures.ok in ((c.play.new.core.state, plays.0), plays.1)
