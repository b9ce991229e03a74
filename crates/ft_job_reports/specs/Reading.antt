-- How the events of a history are read, oldest first. No public clause cites it.
use Rattle.std.specs.Prelude.{◌==◌, ◌||◌, not, ℕ, Bool, true, cond, List, [], ◌∷◌, Option, None, Some}
use Rattle.std.specs.List.{list_any}
use Rattle.ft_core.specs.declared.request.Event.{Event}
use Rattle.ft_core.specs.declared.request.Event.TheVariants.{Begin, Call as CallEvent, Undo, Commit, Abort}
use Rattle.ft_job_reports.specs.declared.report.CallReport.{CallReport}
use Rattle.ft_job_reports.specs.declared.report.Report.{Report}
use Rattle.ft_job_reports.specs.declared.history.Seen.{Seen}
use Rattle.ft_job_reports.specs.Reports.{is_amid, is_reported}

-- what t was granted by the event, if it is a call of t
abbrev pub granted_by : ℕ → Event → Option CallReport
granted_by t (CallEvent stamp asker call reply accesses) = cond (asker == t) (Some (record { stamp = stamp; call = call; reply = reply })) None
granted_by t (Begin u p) = None
granted_by t (Undo stamp) = None
granted_by t (Commit u) = None
granted_by t (Abort u) = None

-- the parent of t, if it was the one given before the event
abbrev pub parent_after : ℕ → Option ℕ → Event → Option ℕ
parent_after t before (Begin u p) = cond (t == u) p before
parent_after t before (CallEvent stamp asker call reply accesses) = before
parent_after t before (Undo stamp) = before
parent_after t before (Commit u) = before
parent_after t before (Abort u) = before

-- the same after all these events
abbrev pub parent_behind : ℕ → Option ℕ → List Event → Option ℕ
parent_behind t before [] = before
parent_behind t before (e ∷ events) = parent_behind t (parent_after t before e) events

-- what is seen of x with t after the event, if this was seen before
abbrev pub seen_after : ℕ → ℕ → Seen → Event → Seen
seen_after t x seen (Begin u p) = cond (t == u) (record { committed = seen.committed; had = seen.committed }) seen
seen_after t x seen (CallEvent stamp asker call reply accesses) = seen
seen_after t x seen (Undo stamp) = seen
seen_after t x seen (Commit u) = cond (x == u) (record { committed = true; had = seen.had }) seen
seen_after t x seen (Abort u) = seen

-- the same after all these events
abbrev pub seen_behind : ℕ → ℕ → Seen → List Event → Seen
seen_behind t x seen [] = seen
seen_behind t x seen (e ∷ events) = seen_behind t x (seen_after t x seen e) events

-- the report has a call with this stamp
abbrev pub has_stamp : ℕ → Report → Bool
has_stamp k r = list_any (λ (c : CallReport). c.stamp == k) r.calls

-- a report has one
abbrev pub is_stamp_reported : List Report → ℕ → Bool
is_stamp_reported reports k = list_any (has_stamp k) reports

-- The event is no call amid the jobs but one of theirs, and undoes no call that is reported.
abbrev pub is_accounted : List Report → Event → Bool
is_accounted reports (CallEvent stamp asker call reply accesses) = not (is_amid reports asker stamp) || is_reported reports asker
is_accounted reports (Begin u p) = true
is_accounted reports (Undo stamp) = not (is_stamp_reported reports stamp)
is_accounted reports (Commit u) = true
is_accounted reports (Abort u) = true
