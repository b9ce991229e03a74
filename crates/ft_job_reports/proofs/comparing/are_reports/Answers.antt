use Rattle.std.proofs.Common.{rules, ◌≡◌, ℕ, true, List, sym, ◌∙◌, subst}
use Rattle.std.specs.Prelude.{All}
use Rattle.std.proofs.lemmas.Bool.{false≢true}
use Rattle.ft_core.specs.declared.request.Event.{Event}
use Rattle.ft_core.specs.Histories.{told}
use Rattle.ft_plan.specs.declared.job.Job.{Job}
use Rattle.ft_job_reports.specs.Reports.{AreKept, IsReportAt}
use Rattle.ft_job_reports.proofs.Accounts.{AreAccounted, accounted_all, all_accounted, all_kept}
use Rattle.ft_job_reports.proofs.comparing.are_reports.Goals as goal

pub returns : goal.returns
returns c =
    let plan = c.args.plan.now in
    let reports = c.args.reports.now in
    let events = c.history-events.result.now in
    let each =
    subst (λ (es : List Event). (at : ℕ) → IsReportAt (told es) plan reports at) c.history-events.ensures.events
    (subst (λ (js : List Job). (at : ℕ) → IsReportAt (told events) js reports at) c.jobs-jobs.ensures.jobs (c.in_ok-are_each.ensures.0 c.if-not-branch.false)) in
    let all_of : List Event → Type 0 = λ (es : List Event). AreAccounted reports (told es) in
    let kept_of : List Event → Type 0 = λ (es : List Event). All (AreKept (told es)) reports in (
      λ are. record {
        count = (search rules);
        each = each;
        fates = c.have_their_fates.ensures.0 c.if-not-have_their_fates.false;
        distinct = sym c.have_own_txns.ensures ∙ c.if-not-have_own_txns.false;
        all = subst all_of c.history-events.ensures.events (all_accounted reports events (sym c.are_accounted.ensures ∙ are));
        kept = subst kept_of c.history-events.ensures.events (all_kept reports events (sym c.are_accounted.ensures ∙ are));
      },
      λ are. c.are_accounted.ensures ∙ accounted_all reports events (subst all_of (sym c.history-events.ensures.events) are.all) (subst kept_of (sym c.history-events.ensures.events) are.kept),
    )

pub returns-then-not-branch : goal.returns-then-not-branch
returns-then-not-branch c =
    let plan = c.args.plan.now in
    let reports = c.args.reports.now in
    let events = c.history-events.result.now in (
      λ are. absurd (false≢true are),
      λ are.
          let each =
          subst (λ (js : List Job). (at : ℕ) → IsReportAt (told events) js reports at) (sym c.jobs-jobs.ensures.jobs)
          (subst (λ (es : List Event). (at : ℕ) → IsReportAt (told es) plan reports at) (sym c.history-events.ensures.events) are.each) in
          absurd (false≢true (sym c.if-not-branch.true ∙ c.in_ok-are_each.ensures.1 each)),
    )
