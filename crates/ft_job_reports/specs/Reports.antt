-- The reports of jobs are what happened. (The rules for jobs are this project's own:
-- docs/SCRIPT.md, Plans. Transactions, their parents and what becomes of them are Moss's, as
-- ft_history defines them.)
use Rattle.std.specs.Prelude.{◌≡◌, ◌==◌, ◌≤◌, ◌&&◌, ◌||◌, not, ℕ, Bool, true, false, cond, nat_le, nat_lt, List, [], ◌∷◌, length, Option, None, Some, IsSome, IfSome, MatchOption, option_and_then, map, take, if◌then◌else◌, All}
use Rattle.std.specs.List.{list_all, list_any, position, slice_get, zip}
use Rattle.std.specs.Option.{option_map_or}
use Rattle.std.specs.Str.{bytes_eq}
use Rattle.ft_laws.specs.Lists.{In}
use Rattle.ft_posix.specs.Posix.{posix_calls}
use Rattle.ft_history.specs.History.{Fate, parent, grants, is_committed, is_undone}
use Rattle.ft_history.specs.History.Event.{Begin as WasBegun, Call as WasGranted, Undo as WasUndone, Commit as CommitOf, Abort as AbortOf}
use Rattle.ft_history.specs.History.Fate.{Committed as WasCommitted, Aborted as WasAborted}
use Rattle.ft_history.specs.Logs.{passing}
use Rattle.ft_core.specs.Histories.{History, Granted}
use Rattle.ft_core.specs.States.{State, history, fate_of}
use Rattle.ft_plan.specs.declared.job.Job.{Job}
use Rattle.ft_plan.specs.declared.job.Step.{Step}
use Rattle.ft_plan.specs.declared.job.JobKind.{JobKind}
use Rattle.ft_plan.specs.declared.job.JobKind.TheVariants.{Free, Strict, Must}
use Rattle.ft_plan.specs.Plans.{is_subjob_of, is_subs, step_at}
use Rattle.ft_job_reports.specs.declared.report.CallReport.{CallReport}
use Rattle.ft_job_reports.specs.declared.report.Report.{Report}
use Rattle.ft_job_reports.specs.declared.report.End.{End}
use Rattle.ft_job_reports.specs.declared.report.End.TheVariants.{Committed, Aborted, Waited, Refused, Failed, Deadlock, NotStarted}
use Rattle.ft_job_reports.specs.Asked.{IsDone, is_of_kind, is_strict}

-- ---- the calls of a transaction

-- a granted call, with the reply that its asker got
abbrev pub as_told : Granted → CallReport
as_told c = record { stamp = c.call.stamp; call = c.call.call; reply = c.reply }

-- the calls that a transaction was granted, in the order of the history
abbrev pub calls_of : History → ℕ → List CallReport
calls_of h t = map as_told (passing (λ (c : Granted). c.asker == t) (grants posix_calls h))

-- each stamp is greater than the one before
abbrev pub stamps_rise : ℕ → List CallReport → Bool
stamps_rise before [] = true
stamps_rise before (c ∷ calls) = nat_lt before c.stamp && stamps_rise c.stamp calls

-- ---- the transactions of reports

-- t is the transaction of the report
abbrev pub has_txn : ℕ → Report → Bool
has_txn t r = option_map_or (λ u. u == t) r.txn false

-- the report has a transaction up to t
abbrev pub has_txn_up_to : ℕ → Report → Bool
has_txn_up_to t r = option_map_or (λ u. nat_le u t) r.txn false

-- t is the transaction of a report
abbrev pub is_reported : List Report → ℕ → Bool
is_reported reports t = list_any (has_txn t) reports

-- t is not below the least transaction of a report: some report has one up to t
abbrev pub is_from_least_on : List Report → ℕ → Bool
is_from_least_on reports t = list_any (has_txn_up_to t) reports

-- the report has a call, and its first has a stamp up to k
abbrev pub has_first_up_to : ℕ → Report → Bool
has_first_up_to k r = option_map_or (λ (c : CallReport). nat_le c.stamp k) (slice_get r.calls 0) false

-- k is not below the least stamp of a report: the first call of some report has one up to k
abbrev pub is_from_first_on : List Report → ℕ → Bool
is_from_first_on reports k = list_any (has_first_up_to k) reports

-- A call of t with the stamp k is not before the jobs: t is not before their transactions, or k
-- not before their calls.
abbrev pub is_amid : List Report → ℕ → ℕ → Bool
is_amid reports t k = is_from_least_on reports t || is_from_first_on reports k

-- No transaction is that of two reports.
abbrev pub have_own_txns : List Report → Bool
have_own_txns [] = true
have_own_txns (r ∷ reports) = not (option_map_or (is_reported reports) r.txn false) && have_own_txns reports

-- ---- jobs under jobs

-- the job has this name
abbrev pub is_named : List ℕ → Job → Bool
is_named name job = bytes_eq job.name name

-- the report of the job of this name, which is at its place
abbrev pub report_of : List Job → List Report → List ℕ → Option Report
report_of jobs reports name = option_and_then (slice_get reports) (position (is_named name) jobs)

-- the transaction of the job of this name
abbrev pub txn_of : List Job → List Report → List ℕ → Option ℕ
txn_of jobs reports name = option_and_then (λ (r : Report). r.txn) (report_of jobs reports name)

-- A top job's transaction t has no parent; a subjob's has the transaction of its parent.
abbrev pub IsNested : History → List Job → List Report → Option (List ℕ) → ℕ → Type 0
IsNested h jobs reports None t = parent posix_calls h t ≡ None
IsNested h jobs reports (Some name) t = (parent posix_calls h t ≡ txn_of jobs reports name) × IsSome (parent posix_calls h t)

-- ---- how jobs end

-- the job ended as Committed
abbrev pub ends_committed : End → Bool
ends_committed Committed = true
ends_committed Aborted = false
ends_committed Waited = false
ends_committed (Refused fault) = false
ends_committed (Failed number) = false
ends_committed Deadlock = false
ends_committed NotStarted = false

-- its transaction was aborted to break a deadlock
abbrev pub ends_deadlocked : End → Bool
ends_deadlocked Committed = false
ends_deadlocked Aborted = false
ends_deadlocked Waited = false
ends_deadlocked (Refused fault) = false
ends_deadlocked (Failed number) = false
ends_deadlocked Deadlock = true
ends_deadlocked NotStarted = false

-- t is one of those that were aborted to break a deadlock
abbrev pub is_victim : List ℕ → ℕ → Bool
is_victim victims t = list_any (λ u. u == t) victims

-- what has become of the transaction of a job that ended so: committed, or else aborted
abbrev pub fate_at : End → Fate
fate_at end = cond (ends_committed end) WasCommitted WasAborted

-- a job that ended so, as Refused or NotStarted, may have had no transaction
abbrev pub may_lack_txn : End → Bool
may_lack_txn Committed = false
may_lack_txn Aborted = false
may_lack_txn Waited = false
may_lack_txn (Refused fault) = true
may_lack_txn (Failed number) = false
may_lack_txn Deadlock = false
may_lack_txn NotStarted = true

-- a job with these steps that ended so, as Waited, Refused, Deadlock or NotStarted, or failed before
-- it reached its subjobs, may have left these unstarted
abbrev pub may_leave_subjobs : List Step → End → Bool
may_leave_subjobs steps Committed = false
may_leave_subjobs steps Aborted = false
may_leave_subjobs steps Waited = true
may_leave_subjobs steps (Refused fault) = true
may_leave_subjobs steps (Failed number) = not (list_any is_subs (take number steps))
may_leave_subjobs steps Deadlock = true
may_leave_subjobs steps NotStarted = true

-- the job of this report and these steps may have left its subjobs unstarted
abbrev pub has_left_subjobs : List Step → Report → Bool
has_left_subjobs steps r = may_leave_subjobs steps r.end

-- the steps of the job of this name
abbrev pub steps_of : List Job → List ℕ → List Step
steps_of jobs name = option_map_or (λ (job : Job). job.steps) (option_and_then (slice_get jobs) (position (is_named name) jobs)) []

-- the job of this name may have left its subjobs unstarted
abbrev pub leaves_subjobs : List Job → List Report → List ℕ → Bool
leaves_subjobs jobs reports name = option_map_or (has_left_subjobs (steps_of jobs name)) (report_of jobs reports name) false

-- The job is a subjob, and its parent may have left it unstarted.
abbrev pub may_be_left : List Job → List Report → Job → Bool
may_be_left jobs reports job = option_map_or (leaves_subjobs jobs reports) job.parent false

-- ---- whether the jobs did what the plan means

-- a job that ended so was ended by its last step
abbrev pub ends_as_meant : End → Bool
ends_as_meant Committed = true
ends_as_meant Aborted = true
ends_as_meant Waited = false
ends_as_meant (Refused fault) = false
ends_as_meant (Failed number) = false
ends_as_meant Deadlock = false
ends_as_meant NotStarted = false

-- the job of this report was
abbrev pub ended_as_meant : Report → Bool
ended_as_meant r = ends_as_meant r.end

-- a job is strict
abbrev pub is_strict_job : Job → Bool
is_strict_job job = is_strict job.kind

-- Each job was, or none is strict. (The first reports are those of the jobs; earlier tries come
-- after them.)
abbrev pub are_met : List Job → List Report → Bool
are_met jobs reports = not (list_any is_strict_job jobs) || list_all ended_as_meant (take (length jobs) reports)

-- ---- jobs that take the one around them along

-- such a job
abbrev pub is_must : JobKind → Bool
is_must Free = false
is_must Strict = false
is_must Must = true

-- the job is one that takes the job of this name along
abbrev pub is_must_of : List ℕ → Job → Bool
is_must_of name job = is_must job.kind && is_subjob_of name job

-- it is none of these, or ended as the plan means
abbrev pub spares : List ℕ → Job × Report → Bool
spares name pair = not (is_must_of name pair.0) || ended_as_meant pair.1

-- None of the jobs takes the one of this name along.
abbrev pub is_spared : List Job → List Report → List ℕ → Bool
is_spared jobs reports name = list_all (spares name) (zip jobs reports)

-- the step of this number starts the subjobs
abbrev pub is_subs_at : List Step → ℕ → Bool
is_subs_at steps number = option_map_or is_subs (step_at steps number) false

-- A job with these steps that ended so may be spared, or not: it fails at the step that starts its
-- subjobs exactly if it is not, and comes past that step only if it is.
abbrev pub may_end : List Step → End → Bool → Bool
may_end steps Committed spared = spared
may_end steps Aborted spared = spared
may_end steps Waited spared = true
may_end steps (Refused fault) spared = true
may_end steps (Failed number) spared = if is_subs_at steps number then not spared else (spared || not (list_any is_subs (take number steps)))
may_end steps Deadlock spared = true
may_end steps NotStarted spared = true

-- ---- jobs after others

-- x had committed when t was begun
abbrev pub had_committed : History → ℕ → ℕ → Bool
had_committed [] t x = false
had_committed (WasBegun u p ∷ h) t x = cond (t == u) (is_committed posix_calls h x) (had_committed h t x)
had_committed (WasGranted c ∷ h) t x = had_committed h t x
had_committed (WasUndone k ∷ h) t x = had_committed h t x
had_committed (CommitOf u ∷ h) t x = had_committed h t x
had_committed (AbortOf u ∷ h) t x = had_committed h t x

-- the job of this name has committed
abbrev pub has_committed : List Job → List Report → List ℕ → Bool
has_committed jobs reports name = option_map_or (λ (r : Report). ends_committed r.end) (report_of jobs reports name) false

-- each job that this one comes after has
abbrev pub may_start : List Job → List Report → Job → Bool
may_start jobs reports job = list_all (has_committed jobs reports) job.after

-- the job of this name had committed when t was begun
abbrev pub is_behind : History → List Job → List Report → ℕ → List ℕ → Bool
is_behind h jobs reports t name = option_map_or (had_committed h t) (txn_of jobs reports name) false

-- each job that this one comes after had, if it began a transaction
abbrev pub began_behind : History → List Job → List Report → Job → Option ℕ → Bool
began_behind h jobs reports job None = true
began_behind h jobs reports job (Some t) = list_all (is_behind h jobs reports t) job.after

-- The parent may have left it unstarted, or one that it comes after has not committed.
abbrev pub may_be_unstarted : List Job → List Report → Job → Bool
may_be_unstarted jobs reports job = may_be_left jobs reports job || not (may_start jobs reports job)

-- the job was not started
abbrev pub is_unstarted : End → Bool
is_unstarted Committed = false
is_unstarted Aborted = false
is_unstarted Waited = false
is_unstarted (Refused fault) = false
is_unstarted (Failed number) = false
is_unstarted Deadlock = false
is_unstarted NotStarted = true

-- A job that was started comes after those that it must: they have committed, before it began.
abbrev pub comes_last : History → List Job → List Report → Job → Report → Bool
comes_last h jobs reports job r = is_unstarted r.end || (may_start jobs reports job && began_behind h jobs reports job r.txn)

-- ---- undone calls

-- No call of the report is undone.
abbrev pub AreKept : History → Report → Type 0
AreKept h r = All (λ (c : CallReport). is_undone posix_calls h c.stamp ≡ false) r.calls

-- ---- all together

-- The report has the calls that its transaction t was granted, stamp, call and reply, in order; t
-- is nested as the job is.
abbrev pub IsOfTxn : History → List Job → List Report → Job → Report → ℕ → Type 0
IsOfTxn h jobs reports job r t = (calls_of h t ≡ r.calls) × IsNested h jobs reports job.parent t

-- The job may have had no transaction: it was not started or was refused something, and it has no
-- calls.
abbrev pub MayLackTxn : Report → Type 0
MayLackTxn r = (may_lack_txn r.end ≡ true) × (r.calls ≡ [])

-- The report at a place is that of the job of this place, or, after those of all jobs, of an earlier
-- try of a job, which was aborted to break a deadlock.
abbrev pub is_placed : List Job → ℕ → Report → Bool
is_placed jobs at r = if nat_lt at (length jobs) then r.job == at else ends_deadlocked r.end

-- The report of a job is what happened to it.
pub record IsReport (h : History) (jobs : List Job) (reports : List Report) (at : ℕ) (job : Job) (r : Report) : Type 0 where
  -- It is that of the job of this place, or of an earlier try.
  pub place : is_placed jobs at r ≡ true
  -- Its calls are those of its transaction, which is nested as the job is; or it may lack one.
  pub txn : MatchOption r.txn (MayLackTxn r) (IsOfTxn h jobs reports job r)
  -- They are in the order of their stamps.
  pub rising : stamps_rise 0 r.calls ≡ true
  -- They are those of its steps, as far as its end says.
  pub done : IsDone job.steps r.end r.calls
  -- A strict job went on after each of them but that of a step that failed; only such a job fails.
  pub kind : is_of_kind job.kind job.steps r.end r.calls ≡ true
  -- A job is not started only if it is a subjob whose parent was not started, was refused
  -- something, waited too long, was aborted to break a deadlock, or failed before it reached its
  -- subjobs, or if one that it comes after has not committed.
  pub unstarted : r.end ≡ NotStarted → may_be_unstarted jobs reports job ≡ true
  -- One that was started comes after those that it must.
  pub after : comes_last h jobs reports job r ≡ true
  -- It fails at its `subs` if a job takes it along, and goes on after it if none does.
  pub spared : may_end job.steps r.end (is_spared jobs reports job.name) ≡ true

-- This holds of the report at this place, and its job.
abbrev pub IsReportAt : History → List Job → List Report → ℕ → Type 0
IsReportAt h jobs reports at = (r : Report) → slice_get reports at ≡ Some r → MatchOption (slice_get jobs r.job) ⊥ (λ job. IsReport h jobs reports at job r)

-- Its transaction t is committed if the job ended so, and else aborted; and t was aborted to break a
-- deadlock exactly if the job ended so.
abbrev pub IsItsFate : State → List ℕ → Report → ℕ → Type 0
IsItsFate s victims r t = (fate_of s t ≡ Some (fate_at r.end)) × (ends_deadlocked r.end ≡ is_victim victims t)

-- This holds of its transaction, if it has one.
abbrev pub HasItsFate : State → List ℕ → Report → Type 0
HasItsFate s victims r = IfSome r.txn (IsItsFate s victims r)

-- The reports of the jobs of a plan are what happened, in the state that they left, in which these
-- transactions were aborted to break deadlocks.
pub record AreReports (s : State) (jobs : List Job) (victims : List ℕ) (reports : List Report) : Type 0 where
  -- There is one for each job, in the order of the plan, and then one for each earlier try.
  pub count : length jobs ≤ length reports
  pub each : (at : ℕ) → IsReportAt (history s) jobs reports at
  pub fates : All (HasItsFate s victims) reports
  pub distinct : have_own_txns reports ≡ true
  -- From the least of their transactions and the first of their calls on, each call of the
  -- history is of one of them.
  pub all : (c : Granted) → In c (grants posix_calls (history s)) → is_amid reports c.asker c.call.stamp ≡ true → is_reported reports c.asker ≡ true
  pub kept : All (AreKept (history s)) reports
