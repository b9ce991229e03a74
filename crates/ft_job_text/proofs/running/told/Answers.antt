use Rattle.std.proofs.Common.{◌≡◌, List, ap, ◌∙◌, rules}
use Rattle.ft_cells.specs.Rows.{rows_of}
use Rattle.ft_core.specs.declared.request.Event.{Event}
use Rattle.ft_core.specs.States.{tree_of}
use Rattle.ft_job_reports.specs.declared.report.Report.{Report}
use Rattle.ft_words.specs.Texts.{tree_text}
use Rattle.ft_job_text.specs.Texts.{outcome_text}
use Rattle.ft_job_text.proofs.running.told.Goals as goal

-- part by part: the reports, the events, and the tree by its rows
pub returns : goal.returns
returns c =
    let jobs = c.args.jobs.now in
    let outcome = c.args.outcome.now in
    let rows : c.as_slice.result.now ≡ rows_of (tree_of outcome.core.state) = search rules in
    c.in_ok-format.ensures.ok
    ∙ ap (λ (reports : List Report). outcome_text jobs reports c.history.result.now c.in_ok-tree.tree) c.as_slice-2.ensures.value
    ∙ ap (λ (events : List Event). outcome_text jobs outcome.reports.items events c.in_ok-tree.tree) c.history.ensures.events
    ∙ ap (outcome_text jobs outcome.reports.items outcome.core.state.events) (c.in_ok-tree.ensures ∙ ap tree_text rows)
