use Rattle.std.proofs.Common.{sym, subst, Result, IfErr, rules}
use Rattle.ft_copy.specs.declared.copy_fault.CopyStop.{CopyStop}
use Rattle.ft_load.specs.Loads.{StopsLoad}
use Rattle.ft_run.specs.FaultLines.{TellsLine, stopped_line}
use Rattle.ft_run.proofs.status.load_status.Goals as goal
use Rattle.ft_run.proofs.status.load_status.Goals.{in-Ok, in-Err}

pub returns-clause-fault : goal.returns-clause-fault
returns-clause-fault g c = elim c.match-loaded.branch [
  | in-Ok w ↦ search rules
  | in-Err w ↦ (λ _.
      let stops = λ (source : g.row.S.Denot) (stopped : CopyStop). StopsLoad c.args.form c.args.set_id (g.S.Source.tells source) stopped (g.W.Write.contents c.args.writer) (g.W.Write.contents c.load-writer.result.0) in
      let of_source = subst (λ (source : g.row.S.Denot). IfErr c.load-writer.result.1 (stops source)) c.new-shown.ensures c.load-writer.ensures.stopped in
      let why = subst (λ (loaded : Result (Unit {0}) CopyStop). IfErr loaded (stops c.args.source.now)) w.in-Err.is of_source in
      let before = g.E.Write.contents c.args.errors.now in
      let told = subst (λ (errors : g.row.E.Denot). TellsLine before (g.E.Write.contents errors) (stopped_line w.in-Err.stopped)) (sym w.errors-is) w.report_stop-status.ensures.line in
      (w.in-Err.stopped, why, told))
]
