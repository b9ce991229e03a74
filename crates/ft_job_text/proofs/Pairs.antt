-- Jobs with their reports, as a loop over both has them.
use Rattle.std.proofs.Common.{ℕ, List, [], ◌∷◌, ◌++◌, map}
use Rattle.std.specs.Borrow.{Bor}
use Rattle.ft_plan.specs.declared.job.Job.{Job}
use Rattle.ft_job_reports.specs.declared.report.Report.{Report}
use Rattle.ft_job_text.specs.Texts.{job_text}

abbrev pub pairs : List (Bor Job × Bor Report) → List (Job × Report)
pairs = map (λ pair. (pair.0.now, pair.1.now))

abbrev pub job_line : Job × Report → List ℕ
job_line pair = job_text pair.0 pair.1 ++ 10 ∷ []
