-- The calls of a core's history in the serial order (Moss, Nested Transactions, MIT 1981, serial
-- execution).
use Rattle.std.specs.Prelude.{◌≡◌, ◌≢◌, ◌<◌, ◌↔◌, List, map}
use mathlib.Core.List.{IsPrefix}
use Rattle.ft_laws.specs.Lists.{Each, Pairs, In}
use Rattle.ft_posix.specs.declared.stamped.StampedCall.{StampedCall}
use Rattle.ft_posix.specs.Posix.{posix_calls}
use Rattle.ft_posix.specs.RunLaws.{GiveReplies, tree_after}
use Rattle.ft_history.specs.Serial.{committed_part, serial_list}
use Rattle.ft_core.specs.declared.request.Event.{Event}
use Rattle.ft_core.specs.Histories.{Granted, told}
use Rattle.ft_core.specs.declared.request.Request.{Request}
use Rattle.ft_core.specs.declared.request.Request.TheVariants.{Checkpoint}
use Rattle.ft_core.specs.declared.request.Answer.{Answer}
use Rattle.ft_core.specs.States.{StoredState, State, history, standing_calls, tree_of}
use Rattle.ft_core.specs.Reached.{IsReached}
use Rattle.ft_core.specs.Steps.{IsStep, exact_rule}
use Rattle.ft_record.specs.Going.{GoesOn}

-- a granted call with only its stamp
abbrev pub stamped : Granted → StampedCall
stamped c = record { stamp = c.call.stamp; call = c.call.call }

-- the standing calls of the top-level transactions whose commits are among these events, in the
-- order of the commits
abbrev pub committed_in : List Event → List StampedCall
committed_in events = map stamped (committed_part posix_calls (told events))

-- The same of all events of a state.
abbrev pub committed_calls : State → List StampedCall
committed_calls s = committed_in s.events

-- All standing calls in the serial order: the committed ones, and after them the others in the
-- order of their stamps.
abbrev pub serial_calls : State → List StampedCall
serial_calls s = map stamped (serial_list posix_calls (history s))

-- Made one after another from the base, the calls of the serial list leave the tree of the state,
-- each with the reply that was recorded.
pub record RunsSerially (s : State) : Type 0 where
  pub tree : tree_after s.base.tree (serial_list posix_calls (history s)) ≡ tree_of s
  pub replies : GiveReplies s.base.tree (serial_list posix_calls (history s))
  -- It has the standing calls and no others, and no stamp twice,
  pub all : (c : Granted) → In c (serial_list posix_calls (history s)) ↔ In c (standing_calls s)
  pub distinct : Pairs (λ a b. a.call.stamp ≢ b.call.stamp) (serial_list posix_calls (history s))
  -- and their stamps are above the base's last one.
  pub since : Each (λ c. s.base.last_stamp < c.call.stamp) (serial_list posix_calls (history s))
  -- If only the committed calls are made, they give their replies too.
  pub committed : GiveReplies s.base.tree (committed_part posix_calls (history s))

-- The base, the rule and the limits are the same, and the events and the committed calls from
-- before come first.
pub record Grows (old new : State) : Type 0 where
  pub goes_on : GoesOn old new
  pub committed : IsPrefix (committed_calls old) (committed_calls new)

-- This holds after each request except a checkpoint, which makes the tree the base and forgets the
-- events.
abbrev pub CommittedStays : Type 0
CommittedStays = (old : State) (new : StoredState) (request : Request) (answer : Answer) → IsReached new → request ≢ Checkpoint → IsStep exact_rule old request answer new.state → Grows old new.state
