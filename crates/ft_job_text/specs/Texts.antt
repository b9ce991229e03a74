-- The text of the outcome of jobs. (The format is this project's own: docs/SCRIPT.md, Plans.)
use Rattle.std.specs.Prelude.{ℕ, Bool, true, false, List, [], ◌∷◌, ◌++◌, codes, drop, length, Option, None, Some}
use Rattle.std.specs.Fmt.{decimal}
use Rattle.std.specs.List.{flat_map, count_by, slice_get, zip}
use Rattle.std.specs.Option.{option_map_or}
use Rattle.ft_core.specs.declared.request.Event.{Event}
use Rattle.ft_core.specs.declared.request.Event.TheVariants.{Call}
use Rattle.ft_plan.specs.declared.job.Job.{Job}
use Rattle.ft_job_reports.specs.declared.report.End.{End}
use Rattle.ft_job_reports.specs.declared.report.End.TheVariants.{Committed, Aborted, Waited, Refused, Failed, Deadlock, NotStarted}
use Rattle.ft_job_reports.specs.declared.report.Report.{Report}
use Rattle.ft_line.specs.Texts.{fault_name}
use Rattle.ft_words.specs.CallTexts.{call_text}
use Rattle.ft_words.specs.Texts.{reply_text}

-- ---- jobs

-- the number of a transaction, or `-` if there is none
abbrev pub txn_text : Option ℕ → List ℕ
txn_text None = codes "-"
txn_text (Some txn) = decimal txn

-- how a job ended; after `refused` the name of the refusal, and after `failed` the number of the
-- step
abbrev pub end_text : End → List ℕ
end_text Committed = codes "committed"
end_text Aborted = codes "aborted"
end_text Waited = codes "waited"
end_text (Refused fault) = codes "refused " ++ fault_name fault
end_text (Failed number) = codes "failed " ++ decimal number
end_text Deadlock = codes "deadlock"
end_text NotStarted = codes "notstarted"

-- what became of a job: `job NAME T END`
abbrev pub job_text : Job → Report → List ℕ
job_text job report = codes "job " ++ job.name ++ codes " " ++ txn_text report.txn ++ codes " " ++ end_text report.end

-- the jobs of the plan with their reports, in the order of the plan, each with a line feed
abbrev pub jobs_text : List Job → List Report → List ℕ
jobs_text jobs reports = flat_map (λ pair. job_text pair.0 pair.1 ++ 10 ∷ []) (zip jobs reports)

-- an earlier try of a job: `try NAME T deadlock`, with a line feed
abbrev pub try_text : List Job → Report → List ℕ
try_text jobs r = option_map_or (λ (job : Job). codes "try " ++ job.name ++ codes " " ++ txn_text r.txn ++ codes " " ++ end_text r.end ++ 10 ∷ []) (slice_get jobs r.job) []

-- those of the reports after the reports of all jobs
abbrev pub tries_text : List Job → List Report → List ℕ
tries_text jobs reports = flat_map (try_text jobs) (drop (length jobs) reports)

-- ---- granted calls

-- the event is a granted call
abbrev pub is_call : Event → Bool
is_call (Call stamp txn call reply accesses) = true
is_call event = false

-- `call S T WORDS = REPLY` after a line feed for a granted call, and nothing for another event
abbrev pub event_text : Event → List ℕ
event_text (Call stamp txn call reply accesses) =
    10 ∷ codes "call " ++ decimal stamp ++ codes " " ++ decimal txn ++ codes " " ++ call_text call ++ codes " = " ++ reply_text reply
event_text event = []

-- `history N`, N being how many calls were granted, and each of them
abbrev pub history_text : List Event → List ℕ
history_text events = codes "history " ++ decimal (count_by is_call events) ++ flat_map event_text events

-- ---- the whole

-- the jobs, their earlier tries, the history, and the text of the tree
abbrev pub outcome_text : List Job → List Report → List Event → List ℕ → List ℕ
outcome_text jobs reports events tree = jobs_text jobs reports ++ tries_text jobs reports ++ history_text events ++ 10 ∷ tree ++ 10 ∷ []
