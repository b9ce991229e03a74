use Rattle.std.proofs.Common.{ℕ, ◌<◌, true, IsTrue, refl, sym, ◌∙◌, arith}
use Rattle.std.proofs.lemmas.Bool.{false≢true}
use Rattle.std.proofs.lemmas.Option.{slice_get_within}
use borrow.Author.Count.{below_more}
use Rattle.ft_core.specs.Histories.{told}
use Rattle.ft_job_reports.specs.Reports.{IsReportAt}
use Rattle.ft_job_reports.proofs.comparing.are_each.Goals as goal

pub loop-at-preserved : goal.loop-at-preserved
loop-at-preserved c = below_more (IsReportAt (told c.args.events.now) c.args.jobs.now c.args.reports.now) c.loop-at.at c.loop-at.invariant (c.in_ok-is_report_at.ensures.0 c.if-not-branch.false)

pub returns : goal.returns
returns c = (are, λ each. refl)
  where
    are : IsTrue true → (at : ℕ) → IsReportAt (told c.args.events.now) c.args.jobs.now c.args.reports.now at
    are is at r there =
        let within = slice_get_within c.args.reports.now at r there in
        let so_far : at < c.loop-at.at = omega arith in
        c.loop-at.invariant at so_far r there

pub returns-then-not-branch : goal.returns-then-not-branch
returns-then-not-branch c = (
  λ are. absurd (false≢true are),
  λ each. absurd (false≢true (sym c.if-not-branch.true ∙ c.in_ok-is_report_at.ensures.1 (each c.loop-at.at))),
)
