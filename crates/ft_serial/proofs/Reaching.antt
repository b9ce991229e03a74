-- What is known of a core.
use Rattle.std.proofs.Common.{◌≡◌, ℕ, true, false, Option, Some, None, ◌||◌, sym, ◌∙◌}
use Rattle.ft_posix.specs.Posix.{posix_calls, HasSoundValues}
use Rattle.ft_laws.proofs.Tests.{by_test}
use Rattle.ft_history.specs.Forest.{IsForest, root}
use Rattle.ft_history.specs.History.{Base as HistoryBase, Fate, parent, is_committed, is_gone}
use Rattle.ft_history.specs.History.Fate.{Committed}
use Rattle.ft_history.proofs.Serial.{root_top, root_child}
use Rattle.ft_core.specs.States.{StoredState, history, fate_of}
use Rattle.ft_core.specs.Kept.{start_of}
use Rattle.ft_core.specs.Reached.{IsReached}
use Rattle.ft_core.proofs.Joining.{sound_values}
use Rattle.ft_serial.specs.Walks.{is_aborted}
use Rattle.ft_serial.proofs.Going.{fate-committed, committed-fate, forest, gone-top, gone-child}

module _ (core : StoredState) (reached : IsReached core) where
  abbrev pub start : HistoryBase posix_calls
  start = start_of core.state.base reached.started.store

  pub values : HasSoundValues reached.started.store
  values = sound_values reached.started.store reached.started.sound

  -- the way up
  pub is-forest : IsForest (parent posix_calls (history core.state))
  is-forest = forest start values (history core.state) reached.legal

  pub top-of-child : (x p : ℕ) → parent posix_calls (history core.state) x ≡ Some p → root (parent posix_calls (history core.state)) x ≡ root (parent posix_calls (history core.state)) p
  top-of-child x p up = root_child (parent posix_calls (history core.state)) is-forest x p up

  pub top-of-top : (x : ℕ) → parent posix_calls (history core.state) x ≡ None → root (parent posix_calls (history core.state)) x ≡ x
  top-of-top x top = root_top (parent posix_calls (history core.state)) is-forest x top

  pub child-gone : (x p : ℕ) → parent posix_calls (history core.state) x ≡ Some p → is_gone posix_calls (history core.state) x ≡ (is_aborted (fate_of core.state x) || is_gone posix_calls (history core.state) p)
  child-gone x p up = gone-child start values (history core.state) reached.legal x p up

  pub top-gone : (x : ℕ) → parent posix_calls (history core.state) x ≡ None → is_gone posix_calls (history core.state) x ≡ is_aborted (fate_of core.state x)
  top-gone x top = gone-top start values (history core.state) reached.legal x top

  -- what has not the fate of the committed has not committed
  pub not-committed : (x : ℕ) (o : Option Fate) → fate_of core.state x ≡ o → (o ≡ Some Committed → ⊥) → false ≡ is_committed posix_calls (history core.state) x
  not-committed x o is other = by_test (is_committed posix_calls (history core.state) x)
      (λ k. absurd (other (sym is ∙ committed-fate start values (history core.state) reached.legal x k)))
      (λ k. sym k)

  pub is-committed : (x : ℕ) → fate_of core.state x ≡ Some Committed → true ≡ is_committed posix_calls (history core.state) x
  is-committed x is = sym (fate-committed core.state.base.last_txn (history core.state) x is)
