-- The notes of events.
use Rattle.std.specs.Prelude.{List, [], ◌∷◌, ◌++◌}
use Rattle.ft_core.specs.declared.request.Event.{Event}
use Rattle.ft_core.specs.declared.request.Event.TheVariants.{Begin, Call as CallEvent, Undo, Commit, Abort}
use Rattle.ft_core.specs.declared.past.Turn.{Turn}
use Rattle.ft_core.specs.declared.past.Turn.TheVariants as turn
use Rattle.ft_core.specs.declared.past.Grant.{Grant}
use Rattle.ft_core.specs.declared.past.Question.{Question}
use Rattle.ft_posix.specs.declared.call.Access.{Access}
use Rattle.ft_posix.specs.Accesses.{accesses_of}

-- as an event
abbrev pub event_of : Turn → Event
event_of (turn.Begin t parent) = Begin t parent
event_of (turn.Undo k) = Undo k
event_of (turn.Commit t) = Commit t
event_of (turn.Abort t) = Abort t

-- the events with this one after them
abbrev pub turned : List Event → Turn → List Event
turned events t = events ++ event_of t ∷ []

-- the events with this call after them
abbrev pub granted_too : List Event → Grant → List Event
granted_too events g = events ++ CallEvent g.stamp g.txn g.call.now g.reply.now g.seen.now.accesses ∷ []

-- what the call accesses on the tree
abbrev pub seen_by : Question → List Access
seen_by q = accesses_of q.tree.now q.stamp q.call.now
