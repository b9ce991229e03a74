use Rattle.std.proofs.Common.{List, subst, rules}
use Rattle.std.proofs.lemmas.Iterator.{YieldsList-from_slice, YieldsList-from_zip}
use Rattle.std.proofs.lemmas.Iterator.Consumers.{YieldsList-end}
use Rattle.std.specs.Fmt.{HasWritten}
use Rattle.std.specs.List.{flat_map}
use Rattle.ft_plan.specs.declared.job.Job.{Job}
use Rattle.ft_job_reports.specs.declared.report.Report.{Report}
use Rattle.ft_job_text.proofs.Pairs.{job_line}
use Rattle.ft_job_text.proofs.text.JobLinesDisplay.fmt.Goals as goal

pub returns-clause-writes : goal.returns-clause-writes
returns-clause-writes g c =
    let jobs = c.args.self.now.jobs.now in
    let reports = c.args.self.now.reports.now in
    let all =
    YieldsList-end (YieldsList-from_zip (YieldsList-from_slice jobs (search rules)) (YieldsList-from_slice reports (search rules)))
    c.loop-job.yielded _ c.loop-job.yielded_by _ c.next.new.self c.in-None.is c.next.ensures.steps in
    λ plain ok. subst (λ (pairs : List (Job × Report)). HasWritten g.W.Write.write_str_gives c.args.f.now (flat_map job_line pairs) c.loop-job.f) all.0 (c.loop-job.invariant plain)
