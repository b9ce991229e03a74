use Rattle.std.proofs.Common.{List, sym, subst}
use Rattle.ft_copy.proofs.Stopping.{at_fault}
use Rattle.ft_copy.proofs.Telling.{copies, stops_copy}
use Rattle.ft_save.specs.declared.row.Row.{Row}
use Rattle.ft_save.specs.Saves.{StopsRows}
use Rattle.ft_save.specs.Trees.{Indexes, Tells}
use Rattle.ft_save.proofs.saving.copy_rows.Goals as goal

pub returns-clause-ok : goal.returns-clause-ok
returns-clause-ok g c =
    let rows = c.args.rows.items in
    copies c.args.limits (λ told. (all : List Row) → Indexes c.in_ok-index.index all → Tells all told) (Tells rows) (λ told h. h rows c.in_ok-index.ensures) g.T.Target.does c.args.target.now c.copy.new.target c.in_ok-copy.ensures.ok

pub returns-in_err-copy-clause-fault : goal.returns-in_err-copy-clause-fault
returns-in_err-copy-clause-fault g c =
    let rows = c.args.rows.items in
    let does = g.T.Target.does in
    let fails = g.T.Target.fails in
    let old = c.args.target.now in
    let new = c.copy.new.target in
    at_fault c.from_residual-in_err-copy.result c.from_residual-in_err-copy.ensures.1
    (λ f is. subst (λ x. StopsRows c.args.limits does fails x rows old new) (sym is)
    (stops_copy c.args.limits (λ told. (all : List Row) → Indexes c.in_ok-index.index all → Tells all told) (Tells rows) (λ told h. h rows c.in_ok-index.ensures) does fails _ old new c.in_err-copy.ensures.stopped))
