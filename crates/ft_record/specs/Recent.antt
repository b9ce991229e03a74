-- A core that keeps the events since it last forgot: its view, and its invariant.
use Rattle.std.specs.Prelude.{◌≡◌, ◌≤◌, ◌+◌, ℕ, Bool, ◌&&◌, List, [], length, drop, is_some, Option, Some, None, refl}
use Rattle.std.specs.Coded.{Coded, code_by, coded×, coded_ℕ}
use Rattle.std.specs.declared.snapshot.Snapshot.{Snapshot}
use Rattle.ft_posix.specs.Posix.{posix_calls}
use Rattle.ft_history.specs.History.{fate, is_live, begun, grants, is_standing, owner_of, parent}
use Rattle.ft_history.specs.Logs.{passing}
use Rattle.ft_core.specs.declared.request.Event.{Event}
use Rattle.ft_core.specs.Histories.{History, Granted}
use Rattle.ft_core.specs.Reached.{IsLegalAt}
use Rattle.ft_core.specs.States.{State, StoredState, coded_stored, history, count_owned}
use Rattle.ft_record.specs.Recording.{Recording}

-- the core, and how many events since its base are forgotten
pub record Remembered : Type 0 where
  pub core : StoredState
  pub forgotten : ℕ

-- a code of it, which a model needs
abbrev pub coded_remembered : Coded Remembered
coded_remembered = code_by (StoredState × ℕ) (coded× coded_stored coded_ℕ) (λ r. (r.core, r.forgotten)) (λ p. record { core = p.0; forgotten = p.1 }) (λ _. refl)

-- what had happened on a core, nothing if there was none
abbrev pub events_then : Option (Snapshot StoredState) → List Event
events_then None = []
events_then (Some core) = core.value.state.events

-- the events that had happened when the core last forgot are forgotten
abbrev pub forgotten_by : Option (Snapshot StoredState) → ℕ
forgotten_by since = length (events_then since)

-- a standing call that has an owner
abbrev pub is_owned : History → Granted → Bool
is_owned h c = is_standing posix_calls h c && is_some (owner_of posix_calls h c.asker)

-- an event for the end of each live transaction, and one for the undo of each standing call that
-- has an owner; the base's last transaction is first
abbrev pub events_kept : ℕ → History → ℕ
events_kept first h = length (passing (λ t. is_live (fate posix_calls first h t)) (begun posix_calls h)) + length (passing (is_owned h) (grants posix_calls h))

-- how many calls can no longer be undone once a transaction with this parent has committed, which
-- owns so many: at the top level all of them, and else none, since its parent owns them then (Moss:
-- at a commit the parent inherits)
abbrev pub freed_below : Option ℕ → ℕ → ℕ
freed_below None owned = owned
freed_below (Some p) owned = 0

-- the same of a transaction in a state
abbrev pub freed_by_commit : State → ℕ → ℕ
freed_by_commit s t = freed_below (parent posix_calls (history s) t) (count_owned s t)

-- The events that are kept are those of the state except the forgotten ones; the state was reached
-- by legal ones; and there are just as many places as events that may still end or undo something.
pub record IsRecent (s : State) (r : Recording) (forgotten : ℕ) : Type 0 where
  pub events : r.events ≡ drop forgotten s.events
  pub within : forgotten ≤ length s.events
  pub legal : IsLegalAt s
  pub spare : r.spare ≡ events_kept s.base.last_txn (history s)
