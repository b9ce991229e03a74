use Rattle.std.proofs.Common.{List, refl, subst}
use Rattle.std.specs.Prelude.{All}
use Rattle.std.proofs.lemmas.List.{take_all}
use Rattle.std.proofs.lemmas.List.Elements.{All-more}
use Rattle.ft_job_reports.specs.declared.report.Report.{Report}
use Rattle.ft_job_reports.specs.Reports.{HasItsFate}
use Rattle.ft_job_reports.proofs.comparing.have_their_fates.Goals as goal

pub loop-report-preserved : goal.loop-report-preserved
loop-report-preserved c =
    let s = c.args.core.now.state in
    All-more (HasItsFate s c.args.victims.now) c.args.reports.now c.loop-report.report-index c.report-item.result c.loop-report-test.true c.loop-report.invariant
    (subst (λ (r : Report). HasItsFate s c.args.victims.now r) c.report-item.is (c.has_its_fate.ensures.0 c.if-not-has_its_fate.false))

pub returns : goal.returns
returns c = (
  λ are. subst (λ (rs : List Report). All (HasItsFate c.args.core.now.state c.args.victims.now) rs) (take_all c.loop-report.report-index c.args.reports.now c.loop-report-test.false) c.loop-report.invariant,
  λ all. refl,
)
