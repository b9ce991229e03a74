use Rattle.std.proofs.Common.{sym, ap, ◌∙◌}
use Rattle.std.proofs.lemmas.List.{drop_all}
use Rattle.ft_job_reports.specs.declared.history.Seen.{Seen}
use Rattle.ft_job_reports.specs.Reading.{seen_behind}
use Rattle.ft_job_reports.proofs.Begun.{had_is}
use Rattle.ft_job_reports.proofs.history.had_committed.Goals as goal

pub returns : goal.returns
returns c =
    let t = c.args.txn in
    let x = c.args.before in
    let events = c.args.events.now in
    let all = sym c.loop-event.invariant ∙ ap (seen_behind t x c.loop-event.seen) (drop_all c.loop-event.event-index events c.loop-event-test.false) in
    sym (had_is t x events ∙ ap (λ (seen : Seen). seen.had) all)
