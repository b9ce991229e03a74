-- Whether a job and all jobs around it have committed, job by job.
use Rattle.std.proofs.Common.{◌≡◌, ℕ, suc, true, false, cond, ◌&&◌, List, Option, Some, ap, ◌∙◌}
use Rattle.std.specs.List.{slice_get}
use Rattle.std.specs.Option.{option_map_or}
use Rattle.ft_plan.specs.declared.job.Job.{Job}
use Rattle.ft_job_reports.specs.declared.report.Report.{Report}
use Rattle.ft_job_reports.specs.Reports.{is_named}
use Rattle.ft_job_text.specs.Gets.{has_committed_at, has_committed_whole}

module _ (jobs : List Job) (reports : List Report) (before : ℕ) (name : List ℕ) (job : Job) (there : slice_get jobs before ≡ Some job) where
  -- what the job of this name has done decides, and then the jobs around it
  by_job : has_committed_whole jobs reports (suc before) name ≡ cond (is_named name job) (has_committed_at reports before && option_map_or (has_committed_whole jobs reports before) job.parent true) (has_committed_whole jobs reports before name)
  by_job =
      ap
      (λ (o : Option Job). option_map_or (λ (j : Job). cond (is_named name j) (has_committed_at reports before && option_map_or (has_committed_whole jobs reports before) j.parent true) (has_committed_whole jobs reports before name)) o false)
      there

  by_name : is_named name job ≡ true → has_committed_whole jobs reports (suc before) name ≡ (has_committed_at reports before && option_map_or (has_committed_whole jobs reports before) job.parent true)
  by_name named =
      by_job ∙ ap (λ b. cond b (has_committed_at reports before && option_map_or (has_committed_whole jobs reports before) job.parent true) (has_committed_whole jobs reports before name)) named

  -- it has not committed
  pub not_committed : is_named name job ≡ true → has_committed_at reports before ≡ false → has_committed_whole jobs reports (suc before) name ≡ false
  not_committed named fails = by_name named ∙ ap (λ b. b && option_map_or (has_committed_whole jobs reports before) job.parent true) fails

  -- it has, and this is left of the jobs around it
  pub around_left : is_named name job ≡ true → has_committed_at reports before ≡ true → (parent : Option (List ℕ)) → job.parent ≡ parent → has_committed_whole jobs reports (suc before) name ≡ option_map_or (has_committed_whole jobs reports before) parent true
  around_left named committed parent is =
      by_name named
      ∙ ap (λ b. b && option_map_or (has_committed_whole jobs reports before) job.parent true) committed
      ∙ ap (λ (p : Option (List ℕ)). option_map_or (has_committed_whole jobs reports before) p true) is

  -- it is another job
  pub other_job : is_named name job ≡ false → has_committed_whole jobs reports (suc before) name ≡ has_committed_whole jobs reports before name
  other_job named =
      by_job ∙ ap (λ b. cond b (has_committed_at reports before && option_map_or (has_committed_whole jobs reports before) job.parent true) (has_committed_whole jobs reports before name)) named
