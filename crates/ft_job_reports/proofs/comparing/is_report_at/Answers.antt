use Rattle.std.proofs.Common.{◌≡◌, None, Some, length, refl, sym, subst, ◌∙◌, rules}
use Rattle.std.proofs.lemmas.Bool.{false≢true, ltb-true}
use Rattle.std.proofs.lemmas.Option.{slice_get_read}
use Rattle.std.specs.List.{slice_get}
use Rattle.ft_core.specs.Histories.{told}
use Rattle.ft_job_reports.specs.Asked.{IsDone}
use Rattle.ft_job_reports.proofs.Placed.{no-job, at-job, of-job}
use Rattle.ft_job_reports.proofs.comparing.is_report_at.Goals as goal

pub returns-in_default-job_of : goal.returns-in_default-job_of
returns-in_default-job_of c =
    let there : slice_get c.args.reports.now c.args.at ≡ Some c.in-Some.report.now = slice_get_read c.args.reports.now (length c.args.reports.now) c.args.at c.in-Some.report.now refl (ltb-true c.args.at (length c.args.reports.now) (sym c.in-Some.ensures.lookup.0)) c.in-Some.ensures.lookup.1 in
    let none : slice_get c.args.jobs.now c.in-Some.report.now.job ≡ None = search rules in
    (λ e. absurd (false≢true e), λ all. absurd (no-job (told c.args.events.now) c.args.jobs.now c.args.reports.now c.args.at c.in-Some.report.now there none all))

pub returns-then-not-branch : goal.returns-then-not-branch
returns-then-not-branch c =
    let there : slice_get c.args.reports.now c.args.at ≡ Some c.in-Some.report.now = slice_get_read c.args.reports.now (length c.args.reports.now) c.args.at c.in-Some.report.now refl (ltb-true c.args.at (length c.args.reports.now) (sym c.in-Some.ensures.lookup.0)) c.in-Some.ensures.lookup.1 in
    let known : slice_get c.args.jobs.now c.in-Some.report.now.job ≡ Some c.in-Some-job_of.job.now = sym c.in-Some-job_of.ensures in (
      λ e. absurd (false≢true e),
      λ all. let is = at-job (told c.args.events.now) c.args.jobs.now c.args.reports.now c.args.at c.in-Some.report.now there c.in-Some-job_of.job.now known all in
          absurd (false≢true (sym c.if-not-branch.true ∙ c.in_ok-is_done.ensures.1 (subst (λ s. IsDone s c.in-Some.report.now.end c.in-Some.report.now.calls) (sym c.as_slice.ensures) is.done))),
    )

pub returns-then-is_placed : goal.returns-then-is_placed
returns-then-is_placed c =
    let there : slice_get c.args.reports.now c.args.at ≡ Some c.in-Some.report.now = slice_get_read c.args.reports.now (length c.args.reports.now) c.args.at c.in-Some.report.now refl (ltb-true c.args.at (length c.args.reports.now) (sym c.in-Some.ensures.lookup.0)) c.in-Some.ensures.lookup.1 in
    let known : slice_get c.args.jobs.now c.in-Some.report.now.job ≡ Some c.in-Some-job_of.job.now = sym c.in-Some-job_of.ensures in
    let done = subst (λ s. IsDone s c.in-Some.report.now.end c.in-Some.report.now.calls) c.as_slice.ensures (c.in_ok-is_done.ensures.0 c.if-not-branch.false) in
    let is = c.is_report_of.ensures c.args.at done (sym c.is_placed.ensures ∙ c.if-is_placed.true) in (
      λ so. of-job (told c.args.events.now) c.args.jobs.now c.args.reports.now c.args.at c.in-Some.report.now there c.in-Some-job_of.job.now known (is.0 so),
      λ all. is.1 (at-job (told c.args.events.now) c.args.jobs.now c.args.reports.now c.args.at c.in-Some.report.now there c.in-Some-job_of.job.now known all),
    )

pub returns-else-is_placed : goal.returns-else-is_placed
returns-else-is_placed c =
    let there : slice_get c.args.reports.now c.args.at ≡ Some c.in-Some.report.now = slice_get_read c.args.reports.now (length c.args.reports.now) c.args.at c.in-Some.report.now refl (ltb-true c.args.at (length c.args.reports.now) (sym c.in-Some.ensures.lookup.0)) c.in-Some.ensures.lookup.1 in
    let known : slice_get c.args.jobs.now c.in-Some.report.now.job ≡ Some c.in-Some-job_of.job.now = sym c.in-Some-job_of.ensures in (
      λ e. absurd (false≢true (sym c.if-is_placed.false ∙ e)),
      λ all. c.is_placed.ensures ∙ (at-job (told c.args.events.now) c.args.jobs.now c.args.reports.now c.args.at c.in-Some.report.now there c.in-Some-job_of.job.now known all).place,
    )
