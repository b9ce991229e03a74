use Rattle.std.proofs.Common.{sym, ap, ◌∙◌}
use Rattle.std.proofs.lemmas.List.{drop_all}
use Rattle.ft_job_reports.specs.Reading.{parent_behind}
use Rattle.ft_job_reports.proofs.Told.{parent_is}
use Rattle.ft_job_reports.proofs.history.parent_of.Goals as goal

pub returns : goal.returns
returns c =
    let t = c.args.txn in
    let events = c.args.events.now in
    sym (parent_is t events ∙ (sym c.loop-event.invariant ∙ ap (parent_behind t c.loop-event.parent) (drop_all c.loop-event.event-index events c.loop-event-test.false)))
