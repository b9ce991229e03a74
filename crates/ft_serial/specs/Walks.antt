-- The state of a walk along the events of a core, inside the crate.
use Rattle.std.specs.Prelude.{◌≡◌, ◌<◌, ◌+◌, ℕ, Bool, true, false, not, cond, ◌&&◌, List, [], ◌∷◌, ◌++◌, Option, Some, None, Result, Ok, Err, map, length, reverse, take, drop}
use Rattle.std.specs.Ordering.{nat_cmp}
use Rattle.std.specs.FinMap as finite
use Rattle.ft_base.specs.declared.memory.Memory.{Memory}
use Rattle.ft_laws.specs.Lists.{Each, Pairs, In}
use Rattle.ft_posix.specs.declared.call.Call.{Call as CallOf}
use Rattle.ft_posix.specs.declared.stamped.StampedCall.{StampedCall}
use Rattle.ft_posix.specs.Posix.{posix_calls}
use Rattle.ft_history.specs.Forest.{root}
use Rattle.ft_history.specs.Logs.{joined}
use Rattle.ft_history.specs.History.{Fate, parent, is_committed, is_gone, is_undone, grants}
use Rattle.ft_history.specs.History.Fate.{Live as IsLive, Committed as IsCommitted, Aborted as IsAborted}
use Rattle.ft_history.specs.Serial.{root_of, committed_part}
use Rattle.ft_core.specs.declared.request.Event.{Event}
use Rattle.ft_core.specs.declared.request.Event.TheVariants.{Begin, Call, Undo, Commit, Abort}
use Rattle.ft_core.specs.Histories.{History, Granted, told}
use Rattle.ft_core.specs.States.{State}
use Rattle.ft_serial.specs.declared.asked.Asked.{Asked}
use Rattle.ft_serial.specs.declared.walk.Walk.{Walk}
use Rattle.ft_serial.specs.Serials.{stamped, committed_in}
use Rattle.ft_serial.specs.Asked.{asked, calls_in, granted_under}

-- the stamps of calls that were undone
abbrev pub Stamps : Type 0
Stamps = finite.FinMap nat_cmp (Unit {0})

-- the fate is that of an abort
abbrev pub is_aborted : Option Fate → Bool
is_aborted None = false
is_aborted (Some IsLive) = false
is_aborted (Some IsCommitted) = false
is_aborted (Some IsAborted) = true

-- what is made of the stamp, the asker and the call, if an event grants a call
abbrev pub by_call : {A : Type 0} → A → (ℕ → ℕ → CallOf → A) → Option Event → A
by_call other made None = other
by_call other made (Some (Begin txn parent)) = other
by_call other made (Some (Call stamp txn call reply accesses)) = made stamp txn call
by_call other made (Some (Undo stamp)) = other
by_call other made (Some (Commit txn)) = other
by_call other made (Some (Abort txn)) = other

-- the call that an event grants
abbrev pub call_of : Option Event → Option StampedCall
call_of = by_call None (λ stamp txn call. Some (record { stamp = stamp; call = call }))

-- the stamps without those of these calls
abbrev pub without_calls : Stamps → List Asked → Stamps
without_calls undone [] = undone
without_calls undone (call ∷ calls) = without_calls (finite.remove undone call.call.stamp) calls

-- a call is not undone, and nobody at or above its asker is aborted
abbrev pub stands : (ℕ → Bool) → History → ℕ → ℕ → Bool
stands undone h stamp txn = not (undone stamp) && not (is_gone posix_calls h txn)

-- the call that an event grants is standing, and its top-level transaction has not committed
abbrev pub is_open_call : (ℕ → Bool) → History → Option Event → Bool
is_open_call undone h = by_call false (λ stamp txn call. stands undone h stamp txn && not (is_committed posix_calls h (root (parent posix_calls h) txn)))

-- a call as a list, empty if there is none
abbrev pub option_list : Option StampedCall → List StampedCall
option_list None = []
option_list (Some call) = call ∷ []

-- a call, if it is standing in the history
abbrev pub standing_call : History → Asked → List StampedCall
standing_call h a = cond (stands (is_undone posix_calls h) h a.call.stamp a.txn) (a.call ∷ []) []

-- the top-level transaction has neither committed nor been aborted
pub record IsOpen (h : History) (top : ℕ) : Type 0 where
  pub uncommitted : is_committed posix_calls h top ≡ false
  pub there : is_gone posix_calls h top ≡ false

-- this call was granted, its top-level transaction has committed, and it is known whether the call
-- was undone
pub record HasCommitted (undone : Stamps) (h : History) (a : Asked) : Type 0 where
  pub granted : (c : Granted) × In c (grants posix_calls h) × (a ≡ asked c)
  pub committed : is_committed posix_calls h (root (parent posix_calls h) a.txn) ≡ true
  pub known : finite.contains_key undone a.call.stamp ≡ is_undone posix_calls h a.call.stamp

-- The walk has gone over these events, which are the history, and given these calls out; so many
-- events are not counted any more.
pub record IsWalkBy (forgotten : ℕ) (walk : Walk) (h : History) (events : List Event) (given : List StampedCall) : Type 0 where
  pub passed : forgotten + walk.passed ≡ length events
  -- It knows no stamp that was not undone,
  pub undone : (stamp : ℕ) → finite.contains_key walk.undone stamp ≡ true → is_undone posix_calls h stamp ≡ true
  -- which calls were undone of the top-level transactions that have not ended,
  pub known : (c : Granted) → In c (grants posix_calls h) → IsOpen h (root_of posix_calls h c) → finite.contains_key walk.undone c.call.stamp ≡ is_undone posix_calls h c.call.stamp
  -- the calls of each of them,
  pub under : (top : ℕ) → IsOpen h top → calls_in walk.under top ≡ granted_under h top
  -- and those of the one that committed last, the newest first,
  pub closing : Each (HasCommitted walk.undone h) walk.closing.items
  pub falling : Pairs (λ x y. y.call.stamp < x.call.stamp) walk.closing.items
  -- of which are all committed calls that were not given out.
  pub split : map stamped (committed_part posix_calls h) ≡ given ++ joined (standing_call h) (reverse walk.closing.items)

-- The same, if the history is that of the events.
abbrev pub IsWalk : ℕ → Walk → List Event → List StampedCall → Type 0
IsWalk forgotten walk events given = IsWalkBy forgotten walk (told events) events given

-- This holds if these are the first events of the state.
abbrev pub IsWalkOf : ℕ → Walk → State → List StampedCall → Type 0
IsWalkOf forgotten walk s given = IsWalk forgotten walk (take (forgotten + walk.passed) s.events) given

-- The next call of the transaction that committed last: it is given out, or there is none.
abbrev pub IsTaken : ℕ → Walk → State → List StampedCall → Option StampedCall → Type 0
IsTaken forgotten walk s given (Some call) = IsWalkOf forgotten walk s (given ++ call ∷ [])
IsTaken forgotten walk s given None = IsWalkOf forgotten walk s given × (walk.closing.items ≡ [])

-- The next committed call: it is given out, or all were.
abbrev pub IsNext : ℕ → Walk → State → List StampedCall → Result (Option StampedCall) Memory → Type 0
IsNext forgotten walk s given (Ok (Some call)) = IsWalkOf forgotten walk s (given ++ call ∷ [])
IsNext forgotten walk s given (Ok None) = IsWalk forgotten walk s.events given × (given ≡ committed_in s.events)
IsNext forgotten walk s given (Err memory) = IsWalkOf forgotten walk s given

-- What becomes of a walk, whichever calls it has given out, and however many events are not counted
-- any more.

-- These are the events that are counted, and the walk gives out the next committed call, or all
-- were.
abbrev pub GivesNext : Walk → Walk → State → List Event → Result (Option StampedCall) Memory → Type 0
GivesNext old new s events result = (given : List StampedCall) (n : ℕ) → events ≡ drop n s.events → IsWalkOf n old s given → IsNext n new s given result

-- It gives out the next call of the transaction that committed last, if there is one.
abbrev pub TakesNext : Walk → Walk → State → Option StampedCall → Type 0
TakesNext old new s next = (given : List StampedCall) (n : ℕ) → IsWalkOf n old s given → IsTaken n new s given next

-- These are the events that are counted, and the walk goes over one more, and gives out no call.
abbrev pub PassesEvent : Walk → Walk → State → List Event → Type 0
PassesEvent old new s events = (given : List StampedCall) (n : ℕ) → events ≡ drop n s.events → IsWalkOf n old s given → old.closing.items ≡ [] → IsWalkOf n new s given

-- It has gone over the same events, and given the same calls out.
abbrev pub KeepsPlace : Walk → Walk → State → Type 0
KeepsPlace old new s = (given : List StampedCall) (n : ℕ) → IsWalkOf n old s given → IsWalkOf n new s given
