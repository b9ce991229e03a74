-- What the end of a transaction, or an undo, leaves of what a core keeps.
use Rattle.std.proofs.Common.{◌≡◌, ◌+◌, ℕ, true, false, List, ◌∷◌, Option, Some, None, length, refl, sym, ap, ◌∙◌}
use Rattle.std.proofs.lemmas.Bool.{false≢true}
use Rattle.ft_laws.proofs.Tests.{by_test}
use Rattle.ft_cells.specs.Cells.{Cells}
use Rattle.ft_posix.specs.Posix.{posix_calls}
use Rattle.ft_posix.specs.RunLaws.{HasNamedPlaces}
use Rattle.ft_history.specs.History.{Base as HistoryBase, Event as Happening, Fate, last_transaction, last_stamp, begun, is_live, grants}
use Rattle.ft_history.specs.History.Fate.{Live, Committed, Aborted}
use Rattle.ft_history.specs.Core.{IsCore}
use Rattle.ft_history.proofs.History.{Sound}
use Rattle.ft_history.proofs.Methods.{core_sound}
use Rattle.ft_core.specs.Histories.{History}
use Rattle.ft_core.specs.States.{Base, fate_in}
use Rattle.ft_forest.specs.declared.state.State.{State as Life}
use Rattle.ft_forest.specs.declared.state.State.TheVariants.{Live as LiveState, Committed as CommittedState, Aborted as AbortedState}
use Rattle.ft_forest.specs.Transactions.{is_live as is_live_in}
use Rattle.ft_core.specs.Kept.{Item, IsStarted, IsKept}
use Rattle.ft_core.specs.Laws.{CallLaws}
use Rattle.ft_core.proofs.Joining.{start, values, past}

-- The event begins no transaction and grants no call.
pub record IsEnding (e : Happening posix_calls) (h : History) : Type 0 where
  pub begun : begun posix_calls (e ∷ h) ≡ begun posix_calls h
  pub grants : grants posix_calls (e ∷ h) ≡ grants posix_calls h
  pub last_transaction : (first : ℕ) → last_transaction posix_calls first (e ∷ h) ≡ last_transaction posix_calls first h
  pub last_stamp : (first : ℕ) → last_stamp posix_calls first (e ∷ h) ≡ last_stamp posix_calls first h

-- what is known of the start still is after such an event
abbrev pub started-ending : (base : Base) (h : History) (last_txn last_number : ℕ) (e : Happening posix_calls) → IsEnding e h → IsStarted base h last_txn last_number → IsStarted base (e ∷ h) last_txn last_number
started-ending base h last_txn last_number e same started = record {
  store = started.store;
  sound = started.sound;
  tree = started.tree;
  fresh = started.fresh;
  last_txn_is = started.last_txn_is ∙ sym (same.last_transaction base.last_txn);
  last_stamp_is = started.last_stamp_is ∙ sym (same.last_stamp base.last_stamp);
  counted = ap (λ xs. base.last_txn + length xs) same.begun ∙ started.counted;
  stamped = ap (λ cs. base.last_stamp + length cs) same.grants ∙ started.stamped;
  within = started.within;
}

-- who is called live is live
pub live-is : (o : Option Fate) → is_live o ≡ true → o ≡ Some Live
live-is None e = absurd (false≢true e)
live-is (Some Live) e = refl
live-is (Some Committed) e = absurd (false≢true e)
live-is (Some Aborted) e = absurd (false≢true e)

pub not-live : (o : Option Fate) → (o ≡ Some Live → ⊥) → is_live o ≡ false
not-live o never = by_test (is_live o) (λ k. absurd (never (live-is o k))) (λ k. k)

-- one test of both
pub same-live : (o : Option Life) → is_live (fate_in o) ≡ is_live_in o
same-live None = refl
same-live (Some LiveState) = refl
same-live (Some CommittedState) = refl
same-live (Some AbortedState) = refl

pub live-in : (o : Option Life) → is_live_in o ≡ true → o ≡ Some LiveState
live-in None e = absurd (false≢true e)
live-in (Some LiveState) e = refl
live-in (Some CommittedState) e = absurd (false≢true e)
live-in (Some AbortedState) e = absurd (false≢true e)

pub not-live-in : (o : Option Life) → (o ≡ Some LiveState → ⊥) → is_live_in o ≡ false
not-live-in o never = by_test (is_live_in o) (λ k. absurd (never (live-in o k))) (λ k. k)

pub fate-live : (o : Option Life) → fate_in o ≡ Some Live → o ≡ Some LiveState
fate-live o e = live-in o (sym (same-live o) ∙ ap is_live e)

module _ (W : CallLaws) {base : Base} {h : History} {last_txn last_number : ℕ} {cells : Cells} {log : ℕ → List Item} (kept : IsKept base h last_txn last_number cells log) where
  abbrev from : HistoryBase posix_calls
  from = start W kept

  sound : Sound posix_calls W.lawful from h
  sound = past W kept

  -- the cells and the lists after such an event
  pub kept-ending : (e : Happening posix_calls) → IsEnding e h → (now : Cells) (left : ℕ → List Item) → IsCore posix_calls from (e ∷ h) kept.hidden now left → HasNamedPlaces now → IsKept base (e ∷ h) last_txn last_number now left
  kept-ending e same now left core named = record {
    started = started-ending base h last_txn last_number e same kept.started;
    hidden = kept.hidden;
    core = core;
    sound = W.placed now (core_sound posix_calls W.lawful from (values W kept) (e ∷ h) kept.hidden now left core) named;
  }

  pub named : HasNamedPlaces cells
  named = record { root = kept.sound.root_is; opens = λ f o is. (kept.sound.opens f o is).0 }
