-- The events, as a history of the calls on a tree. By the definitions of ft_history, four things
-- follow from the history alone: which transactions are live, which calls are standing, which
-- transactions own which locks, and which call an undo undoes.
use Rattle.std.specs.Prelude.{ℕ, List, [], ◌∷◌, map}
use Rattle.ft_laws.specs.Calls.{Done}
use Rattle.ft_history.specs.History.{Event as Happening, parent}
use Rattle.ft_history.specs.History.Event.{Begin as WasBegun, Call as WasGranted, Undo as WasUndone, Commit as WasCommitted, Abort as WasAborted}
use Rattle.ft_posix.specs.declared.call.Call.{Call}
use Rattle.ft_posix.specs.declared.call.Reply.{Reply}
use Rattle.ft_posix.specs.declared.call.Access.{Access}
use Rattle.ft_posix.specs.Posix.{as_place, posix_calls}
use Rattle.ft_forest.specs.Transactions.{depth_within}
use Rattle.ft_core.specs.declared.request.Event.{Event}
use Rattle.ft_core.specs.declared.request.Event.TheVariants.{Begin, Call as CallEvent, Undo, Commit, Abort}

-- A history of calls on a tree: what has happened, newest first, as events of
-- ft_history at the twenty-eight calls.
abbrev pub History : Type 0
History = List (Happening posix_calls)

-- a granted call, with its stamp, its asker, its accesses and its reply
abbrev pub Granted : Type 0
Granted = Done posix_calls

-- a granted call: its stamp, its asker, the call, its reply and its accesses
abbrev pub granted : ℕ → ℕ → Call → Reply → List Access → Granted
granted k t call reply accesses = record { asker = t; call = record { stamp = k; call = call }; accesses = map as_place accesses; reply = reply }

-- a public event as one of a history
abbrev pub as_happening : Event → Happening posix_calls
as_happening (Begin t parent) = WasBegun t parent
as_happening (CallEvent k t call reply accesses) = WasGranted (granted k t call reply accesses)
as_happening (Undo k) = WasUndone k
as_happening (Commit t) = WasCommitted t
as_happening (Abort t) = WasAborted t

-- a history with these public events after it
abbrev pub told_after : History → List Event → History
told_after h [] = h
told_after h (e ∷ events) = told_after (as_happening e ∷ h) events

-- the events, the oldest first, as a history
abbrev pub told : List Event → History
told events = told_after [] events

-- A top-level transaction has depth 1, and a subtransaction one more than its parent
-- (Moss, the transaction tree).
abbrev pub depth_of : History → ℕ → ℕ
depth_of h t = depth_within (parent posix_calls h) t t
