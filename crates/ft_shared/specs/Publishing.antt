-- The published list, and the calls that the writer of the views was given.
use Rattle.std.specs.Prelude.{◌≡◌, ◌⊎◌, ℕ, Bool, true, false, List, [], ◌∷◌, ◌++◌, drop, fold, refl, Option, Some, None, Result, OnOk, OnErr, All}
use mathlib.Core.List.{IsPrefix}
use Rattle.std.specs.Coded.{Coded, code_by, coded×, coded_ℕ, coded_list, coded_option}
use Rattle.logbook.specs.Pages.{Book}
use Rattle.ft_base.specs.declared.memory.Memory.{Memory}
use Rattle.ft_posix.specs.declared.stamped.StampedCall.{StampedCall}
use Rattle.ft_posix.specs.contracts.stamped.StampedCall as stamped
use Rattle.ft_core.specs.declared.fault.Fault.{Fault}
use Rattle.ft_core.specs.declared.fault.Fault.TheVariants.{Memory as MemoryFault, NoViews}
use Rattle.ft_core.specs.States.{State, StoredState, coded_stored}
use Rattle.ft_view.specs.ViewNames.{Views, SeenPrefix, coded_calls}
use Rattle.ft_view.specs.declared.view.Published.{Published}
use Rattle.ft_view.specs.Shown.{Shown, IsReplayOf, IsViewOf, advanced}
use Rattle.ft_core.specs.declared.request.Event.{Event}
use Rattle.ft_core.specs.contracts.request.Event as event
use Rattle.ft_serial.specs.CommittedCalls.{GoneOver}
use Rattle.ft_serial.specs.Serials.{committed_in}
use Rattle.ft_shared.specs.Guarded.{IsOfCoreFrom}
use Rattle.ft_shared.specs.Origins.{Origin}
use Rattle.ft_shared.specs.Victims.{WasVictim}

-- a list of calls
abbrev pub Calls : Type 0
Calls = List StampedCall

-- what a publisher has: the list that readers see, the one that the writer was given, that of the
-- book, a call that was taken from the core and not yet given to the writer, and what was taken
-- from the core
pub record Publishing : Type 0 where
  pub published : Calls
  pub fed : Calls
  pub told : Calls
  pub held : Option StampedCall
  pub commits : GoneOver

-- the held call as a list, empty if there is none
abbrev pub listed : Option StampedCall → Calls
listed None = []
listed (Some call) = call ∷ []

-- a view with one call more
abbrev pub step : Shown → Published → Shown
step v p = advanced v p.call p.front

-- what readers take once what is pending is shown
abbrev pub ahead : Shown → ℕ → List Published → Shown
ahead shown behind log = fold step shown (drop behind log)

-- The pending calls make a view of these whose list is whole, so that it may be shown.
pub record IsPublishable (opened : Views) (shows : Calls → Type 0) (shown : Shown) (behind : ℕ) (log : List Published) : Type 0 where
  pub next : IsViewOf opened shows (ahead shown behind log)

-- The view with what was pending is shown, and nothing is pending; or nothing has changed.
pub record IsPublished (shown : Shown) (behind : ℕ) (log : List Published) (shown' : Shown) (behind' : ℕ) (log' : List Published) (result : Result (Unit {0}) Memory) : Type 0 where
  pub ok : OnOk result ((shown' ≡ ahead shown behind log) × (drop behind' log' ≡ []))
  pub err : OnErr result ((shown' ≡ shown) × (drop behind' log' ≡ drop behind log))

-- The shown list is a view of these. With the pending calls it is a replay, of the list that the
-- writer was given; the book has the same list, or the held call too; and all that was taken from
-- the core was given or is held, and has committed there.
pub record IsPublishing (opened : Views) (shows : Calls → Type 0) (book : Book) (shown : Shown) (behind : ℕ) (log : List Published) (fed told : SeenPrefix) (held : Option StampedCall) (commits : GoneOver) : Type 0 where
  pub of_book : book ≡ opened.book
  pub fed_of : fed.book ≡ opened.book
  pub told_of : told.book ≡ opened.book
  pub view : IsViewOf opened shows shown
  pub next : IsReplayOf opened (ahead shown behind log)
  pub pending : (ahead shown behind log).front.calls ≡ fed.calls
  pub shorter : IsPrefix shown.front.calls fed.calls
  pub more : (told.calls ≡ fed.calls) ⊎ (told.calls ≡ fed.calls ++ listed held)
  pub given : commits.given ≡ fed.calls ++ listed held
  pub stands : IsPrefix commits.given (committed_in commits.events)

-- behind the lock: a core, how many events it has forgotten if it keeps any, and the list that is
-- published if it has views
pub record Backed : Type 0 where
  pub core : StoredState
  pub forgotten : Option ℕ
  pub published : Option Calls

-- the list that readers see, if there are views
abbrev pub published_in : Option Publishing → Option Calls
published_in None = None
published_in (Some p) = Some p.published

-- The events that the publisher has gone over are a beginning of the core's, and it knows which ones
-- are forgotten.
pub record IsPublisherOf (core : State) (forgotten : Option ℕ) (p : Publishing) : Type 0 where
  pub passed : IsPrefix p.commits.events core.events
  pub forgotten_is : forgotten ≡ Some p.commits.forgotten

-- A core that was shared with views has such a publisher, and one that was shared without has none.
abbrev pub HasPublisher : Bool → State → Option ℕ → Option Publishing → Type 0
HasPublisher shown core forgotten None = shown ≡ false
HasPublisher shown core forgotten (Some p) = (shown ≡ true) × IsPublisherOf core forgotten p

-- The value behind the lock is a core that goes on from what was shared.
pub record IsBehind (origin : Origin) (core : State) (forgotten : Option ℕ) (publisher : Option Publishing) (victims : List ℕ) : Type 0 where
  pub from : IsOfCoreFrom origin.from core
  pub views : HasPublisher origin.shown core forgotten publisher
  -- each of these was aborted to break a deadlock
  pub victims_are : All (WasVictim core) victims

-- why nothing was published: NoViews if there are no views, else Memory
abbrev pub fault_of_publish : Bool → Fault
fault_of_publish false = NoViews
fault_of_publish true = MemoryFault

-- how what was gone over is coded
abbrev pub coded_gone_over : Coded GoneOver
coded_gone_over = code_by (List Event × (ℕ × Calls)) (coded× (coded_list event.the_row.coded) (coded× coded_ℕ coded_calls)) (λ g. (g.events, (g.forgotten, g.given))) (λ p. record { events = p.0; forgotten = p.1.0; given = p.1.1 }) (λ _. refl)

-- how what a publisher has is coded
abbrev pub coded_publishing : Coded Publishing
coded_publishing = code_by (Calls × (Calls × (Calls × (Option StampedCall × GoneOver)))) (coded× coded_calls (coded× coded_calls (coded× coded_calls (coded× (coded_option stamped.the_row.coded) coded_gone_over)))) (λ l. (l.published, (l.fed, (l.told, (l.held, l.commits))))) (λ p. record { published = p.0; fed = p.1.0; told = p.1.1.0; held = p.1.1.1.0; commits = p.1.1.1.1 }) (λ _. refl)

-- the code of the value behind the lock
abbrev pub coded_backed : Coded Backed
coded_backed = code_by (StoredState × (Option ℕ × Option Calls)) (coded× coded_stored (coded× (coded_option coded_ℕ) (coded_option coded_calls))) (λ b. (b.core, (b.forgotten, b.published))) (λ p. record { core = p.0; forgotten = p.1.0; published = p.1.1 }) (λ _. refl)
