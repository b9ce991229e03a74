-- The core's events that have been gone over.
use Rattle.std.specs.Prelude.{ℕ, ◌-◌, ◌+◌, List, Option, length, reverse, take}
use Rattle.std.specs.declared.snapshot.Snapshot.{Snapshot}
use Rattle.ft_posix.specs.declared.stamped.StampedCall.{StampedCall}
use Rattle.ft_history.specs.Logs.{joined}
use Rattle.ft_core.specs.declared.request.Event.{Event}
use Rattle.ft_core.specs.Histories.{told}
use Rattle.ft_core.specs.States.{StoredState}
use Rattle.ft_record.specs.Recent.{events_then, forgotten_by}
use Rattle.ft_serial.specs.declared.walk.Walk.{Walk}
use Rattle.ft_serial.specs.Serials.{committed_in}
use Rattle.ft_serial.specs.Walks.{standing_call}

-- the events that were gone over, oldest first, how many of them are not counted any more, and the
-- calls that were given out
pub record GoneOver : Type 0 where
  pub events : List Event
  pub forgotten : ℕ
  pub given : List StampedCall

-- all but so many at the end
abbrev pub but_last : List StampedCall → ℕ → List StampedCall
but_last calls n = take (length calls - n) calls

-- the committed calls among these events without those that a walk is still to give out
abbrev pub given_by : Walk → List Event → List StampedCall
given_by walk events = but_last (committed_in events) (length (joined (standing_call (told events)) (reverse walk.closing.items)))

-- The events and calls that a walk has gone over and given out, if it forgot the events of a first
-- core, and saw those of a second one.
abbrev pub passed_by : Walk → Option (Snapshot StoredState) → Option (Snapshot StoredState) → List Event
passed_by walk since seen = take (forgotten_by since + walk.passed) (events_then seen)

abbrev pub gone_over : Walk → Option (Snapshot StoredState) → Option (Snapshot StoredState) → GoneOver
gone_over walk since seen = record { events = passed_by walk since seen; forgotten = forgotten_by since; given = given_by walk (passed_by walk since seen) }
