-- The calls that the steps of a job request. (The rules for jobs are this project's own:
-- docs/SCRIPT.md, Plans.)
use Rattle.std.specs.Prelude.{◌≡◌, ◌≢◌, ◌⊎◌, ℕ, zero, suc, ◌+◌, ◌-◌, Bool, true, false, not, ◌&&◌, ◌||◌, List, [], ◌∷◌, ◌++◌, length, drop, take, if◌then◌else◌, MatchOption, Option, None, Some, map, option_and_then}
use Rattle.std.specs.Option.{unwrap_or}
use Rattle.std.specs.List.{filter_map, slice_get}
use Rattle.ft_posix.specs.declared.call.Call.{Call}
use Rattle.ft_posix.specs.declared.call.Call.TheVariants as posix
use Rattle.ft_posix.specs.declared.call.Reply.{Reply}
use Rattle.ft_posix.specs.declared.call.Reply.TheVariants as answer
use Rattle.ft_core.specs.declared.request.Answer.TheVariants.{Granted}
use Rattle.ft_line.specs.Wells.{is_well}
use Rattle.ft_plan.specs.declared.job.JobKind.{JobKind}
use Rattle.ft_plan.specs.declared.job.JobKind.TheVariants.{Free, Strict, Must}
use Rattle.ft_plan.specs.Plans.{is_subs}
use Rattle.ft_plan.specs.declared.job.Step.{Step}
use Rattle.ft_plan.specs.declared.job.Step.TheVariants as does
use Rattle.ft_job_reports.specs.declared.report.CallReport.{CallReport}
use Rattle.ft_job_reports.specs.declared.report.End.{End}
use Rattle.ft_job_reports.specs.declared.report.End.TheVariants.{Committed, Aborted, Waited, Refused, Failed, Deadlock, NotStarted}
use Rattle.ft_job_reports.specs.declared.steps.Extent.{Extent}
use Rattle.ft_job_reports.specs.declared.steps.Extent.TheVariants.{Whole, Other}

-- ---- what steps opened

-- the step is a call
abbrev pub is_call : Step → Bool
is_call (does.Call call) = true
is_call (does.CallOn call) = true
is_call (does.Try call) = true
is_call (does.TryOn call) = true
is_call does.Subs = false
is_call does.Commit = false
is_call does.Abort = false

-- the descriptor that an open returned, or 0, which is none, if it failed
abbrev pub opened_descriptor : Reply → ℕ
opened_descriptor (answer.Number n) = n
opened_descriptor reply = 0

-- that of the first of these calls
abbrev pub first_descriptor : List CallReport → ℕ
first_descriptor [] = 0
first_descriptor (c ∷ calls) = opened_descriptor c.reply

-- what a step opened, if these are the calls from it on
abbrev pub opened_by : Step → List CallReport → ℕ
opened_by step calls = if is_call step then first_descriptor calls else 0

-- and the calls from the next step on
abbrev pub calls_behind : Step → List CallReport → List CallReport
calls_behind step calls = if is_call step then drop 1 calls else calls

-- For each step what it opened, if these are the calls of the steps: a descriptor, or 0. The
-- first call is that of the first step that is one, and so on.
abbrev pub opened : List Step → List CallReport → List ℕ
opened [] calls = []
opened (step ∷ steps) calls = opened_by step calls ∷ opened steps (calls_behind step calls)

-- ---- the calls

-- what the step of this number opened; the first step has the number 1
abbrev pub opened_at : List ℕ → ℕ → ℕ
opened_at descriptors zero = 0
opened_at descriptors (suc before) = unwrap_or (slice_get descriptors before) 0

-- The call with the descriptor that a step opened in the place of its number.
abbrev pub on_opened : List ℕ → Call → Call
on_opened ds (posix.Close k) = posix.Close (opened_at ds k)
on_opened ds (posix.Read k len) = posix.Read (opened_at ds k) len
on_opened ds (posix.Write k bytes) = posix.Write (opened_at ds k) bytes
on_opened ds (posix.Pread k off len) = posix.Pread (opened_at ds k) off len
on_opened ds (posix.Pwrite k off bytes) = posix.Pwrite (opened_at ds k) off bytes
on_opened ds (posix.Lseek k whence off) = posix.Lseek (opened_at ds k) whence off
on_opened ds (posix.Ftruncate k len) = posix.Ftruncate (opened_at ds k) len
on_opened ds (posix.Fstat k) = posix.Fstat (opened_at ds k)
on_opened ds (posix.Fchmod k mode) = posix.Fchmod (opened_at ds k) mode
on_opened ds (posix.Fchown k owner group) = posix.Fchown (opened_at ds k) owner group
on_opened ds (posix.Futime k time) = posix.Futime (opened_at ds k) time
on_opened ds call = call

-- the call that a step requests, if the steps opened these descriptors
abbrev pub asked_by : List ℕ → Step → Option Call
asked_by ds (does.Call call) = Some call
asked_by ds (does.CallOn call) = Some (on_opened ds call)
asked_by ds (does.Try call) = Some call
asked_by ds (does.TryOn call) = Some (on_opened ds call)
asked_by ds does.Subs = None
asked_by ds does.Commit = None
asked_by ds does.Abort = None

-- The calls that the steps request, in order.
abbrev pub all_asked : List ℕ → List Step → List Call
all_asked ds steps = filter_map (asked_by ds) steps

-- the calls of a report, without stamps and replies
abbrev pub calls_told : List CallReport → List Call
calls_told calls = map (λ (c : CallReport). c.call) calls

-- ---- how far a job came

-- These are all of what was asked for.
abbrev pub AreAllOf : List Call → List CallReport → Type 0
AreAllOf asked calls = asked ≡ calls_told calls

-- These are the first of what was asked for.
abbrev pub AreFirstOf : List Call → List CallReport → Type 0
AreFirstOf asked calls = (later : List Call) × (asked ≡ calls_told calls ++ later)

-- The last step is this one.
abbrev pub EndsWith : List Step → Step → Type 0
EndsWith steps last = slice_get steps (length steps - 1) ≡ Some last

-- A job with calls to this extent (all that was asked for, the first of it, or other calls) may
-- have ended so: if the end names a step, that is the last one, and all calls were made; else they
-- are the first.
abbrev pub IsAtEnd : List Step → End → Extent → Type 0
IsAtEnd steps Committed extent = (extent ≡ Whole) × EndsWith steps does.Commit
IsAtEnd steps Aborted extent = (extent ≡ Whole) × EndsWith steps does.Abort
IsAtEnd steps Waited extent = extent ≢ Other
IsAtEnd steps (Refused fault) extent = extent ≢ Other
IsAtEnd steps Deadlock extent = extent ≢ Other
IsAtEnd steps NotStarted extent = extent ≢ Other
IsAtEnd steps (Failed number) extent = ⊥

-- what the steps ask for, if these are their calls
abbrev pub asked_with : List Step → List CallReport → List Call
asked_with steps calls = all_asked (opened steps calls) steps

-- ---- strict jobs

-- each call of a job of this kind must do what it requests, if it is not tried
abbrev pub is_strict : JobKind → Bool
is_strict Free = false
is_strict Strict = true
is_strict Must = true

-- a call that is tried may fail
abbrev pub may_fail : Step → Bool
may_fail (does.Try call) = true
may_fail (does.TryOn call) = true
may_fail step = false

-- a strict job goes on after this call of a step: it did what it requests, as a line of a strict
-- script does, or may fail
abbrev pub goes_on : Step → CallReport → Bool
goes_on step c = may_fail step || is_well (Granted c.stamp c.reply)

-- after the first of these calls, if the step requests one
abbrev pub first_goes_on : Step → List CallReport → Bool
first_goes_on step [] = true
first_goes_on step (c ∷ calls) = not (is_call step) || goes_on step c

-- after all of them, if they are the calls of the steps
abbrev pub all_go_on : List Step → List CallReport → Bool
all_go_on [] calls = true
all_go_on (step ∷ steps) calls = first_goes_on step calls && all_go_on steps (calls_behind step calls)

-- the end names a step that failed
abbrev pub names_step : End → Bool
names_step (Failed number) = true
names_step end = false

-- a step that may fail: a call, or the one that starts the subjobs
abbrev pub is_failing : Step → Bool
is_failing step = is_call step || is_subs step

-- the step is before so many steps, if it may fail
abbrev pub place_if_failing : ℕ → Step → Option ℕ
place_if_failing before step = if is_failing step then Some before else None

-- the number of steps that the one of this number is before, if it may fail; the first has the
-- number 1
abbrev pub failing_place : List Step → ℕ → Option ℕ
failing_place steps zero = None
failing_place steps (suc before) = option_and_then (place_if_failing before) (slice_get steps before)

-- The step after so many has a call that was not granted, or failed and may not, or has no call:
-- these are the calls up to there.
abbrev pub StopsBehind : List Step → List CallReport → ℕ → Type 0
StopsBehind steps calls before =
    AreAllOf (asked_with (take before steps) calls) calls
    ⊎ (AreAllOf (asked_with (take (before + 1) steps) calls) calls × (all_go_on (take (before + 1) steps) calls ≡ false))

-- the same of the step of this number, which may fail
abbrev pub StopsAt : List Step → ℕ → List CallReport → Type 0
StopsAt steps number calls = MatchOption (failing_place steps number) ⊥ (StopsBehind steps calls)

-- A strict job that ended so went on after each call before the step that failed; it waited for
-- nothing in vain.
abbrev pub goes_strictly : List Step → End → List CallReport → Bool
goes_strictly steps (Failed number) calls = all_go_on (take (number - 1) steps) calls
goes_strictly steps Waited calls = false
goes_strictly steps Committed calls = all_go_on steps calls
goes_strictly steps Aborted calls = all_go_on steps calls
goes_strictly steps (Refused fault) calls = all_go_on steps calls
goes_strictly steps Deadlock calls = all_go_on steps calls
goes_strictly steps NotStarted calls = all_go_on steps calls

-- the end and the calls of a job of this kind: only a strict one fails
abbrev pub is_of_kind : JobKind → List Step → End → List CallReport → Bool
is_of_kind kind steps end calls = if is_strict kind then goes_strictly steps end calls else not (names_step end)

-- ---- how far a job came, all in all

-- A job that ended so has made these calls of its steps. If it ended as Committed or Aborted, they
-- are all of them, and its last step is that commit or abort. If a step failed, they are those up
-- to it; else the first of them.
abbrev pub IsDone : List Step → End → List CallReport → Type 0
IsDone steps Committed calls = AreAllOf (asked_with steps calls) calls × EndsWith steps does.Commit
IsDone steps Aborted calls = AreAllOf (asked_with steps calls) calls × EndsWith steps does.Abort
IsDone steps Waited calls = AreFirstOf (asked_with steps calls) calls
IsDone steps (Refused fault) calls = AreFirstOf (asked_with steps calls) calls
IsDone steps Deadlock calls = AreFirstOf (asked_with steps calls) calls
IsDone steps NotStarted calls = AreFirstOf (asked_with steps calls) calls
IsDone steps (Failed number) calls = StopsAt steps number calls
