-- What the `get`s of a plan got. (The rules for them are this project's own: docs/SCRIPT.md, Plans.)
use Rattle.std.specs.Prelude.{ℕ, zero, suc, ◌-◌, ◌&&◌, Bool, true, false, List, length, take, if◌then◌else◌, Option, None, Some, option_and_then, option_map}
use Rattle.std.specs.List.{count_by, slice_get}
use Rattle.std.specs.Option.{option_map_or}
use Rattle.ft_posix.specs.declared.call.Reply.{Reply}
use Rattle.ft_posix.specs.declared.call.Reply.TheVariants.{Bytes}
use Rattle.ft_plan.specs.declared.job.Job.{Job}
use Rattle.ft_plan.specs.declared.job.Step.{Step}
use Rattle.ft_plan_files.specs.declared.places.GetPlace.{GetPlace}
use Rattle.ft_job_reports.specs.declared.report.CallReport.{CallReport}
use Rattle.ft_job_reports.specs.declared.report.Report.{Report}
use Rattle.ft_job_reports.specs.Asked.{is_call}
use Rattle.ft_job_reports.specs.Reports.{ends_committed, is_named}

-- the job at this place has committed
abbrev pub has_committed_at : List Report → ℕ → Bool
has_committed_at reports at = option_map_or (λ (r : Report). ends_committed r.end) (slice_get reports at) false

-- Among the first so many jobs is the one of this name. It has committed, and so have all jobs around
-- it, which come before it.
abbrev pub has_committed_whole : List Job → List Report → ℕ → List ℕ → Bool
has_committed_whole jobs reports zero name = false
has_committed_whole jobs reports (suc before) name =
    option_map_or
    (λ (job : Job). if is_named name job then has_committed_at reports before && option_map_or (has_committed_whole jobs reports before) job.parent true else has_committed_whole jobs reports before name)
    (slice_get jobs before) false

-- The reply to the step of this number, which is a call, if it was granted. As many calls of the
-- report come before it as steps before it are calls.
abbrev pub reply_to : List Step → List CallReport → ℕ → Option Reply
reply_to steps calls number = option_map (λ (c : CallReport). c.reply) (slice_get calls (count_by is_call (take (number - 1) steps)))

-- the bytes in a reply
abbrev pub bytes_in : Reply → Option (List ℕ)
bytes_in (Bytes bytes) = Some bytes
bytes_in other = None

-- the bytes that the read of a `get` of this job was answered
abbrev pub bytes_read : GetPlace → Job → Report → Option (List ℕ)
bytes_read get job report = option_and_then bytes_in (reply_to job.steps report.calls get.step)

-- the same, if the job and all jobs around it have committed
abbrev pub bytes_got : List Job → List Report → GetPlace → Option (List ℕ)
bytes_got jobs reports get =
    option_and_then
    (λ (job : Job). if has_committed_whole jobs reports (length jobs) job.name then option_and_then (bytes_read get job) (slice_get reports get.job) else None)
    (slice_get jobs get.job)
