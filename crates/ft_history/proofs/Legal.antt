-- Every legal history is sound, and an undo comes upon the newest call of its list.
use Rattle.std.proofs.Common.{◌≡◌, ◌<◌, ℕ, List, [], ◌∷◌, refl, subst, arith}
use Rattle.ft_laws.specs.Calls.{Calls, Done}
use Rattle.ft_laws.specs.Laws.{Lawful}
use Rattle.ft_history.specs.History.{Base, IsFresh, Event, last_stamp, IsLive}
use Rattle.ft_history.specs.History.Event.{Begin, Call, Undo, Commit, Abort}
use Rattle.ft_history.specs.Undoing.{undo_target}
use Rattle.ft_history.specs.Undoing.Target.{Found}
use Rattle.ft_history.specs.Legal.{Legal}
use Rattle.ft_history.specs.Ledger.{lists}
use Rattle.ft_history.proofs.Words.{none_some}
use Rattle.ft_history.proofs.History.{Sound, sound_begin, sound_call, sound_undo, sound_commit, sound_abort}
use Rattle.ft_history.proofs.Undoing.{AllMarked, undo_newest, marked_begin, marked_call, marked_undo, marked_commit, marked_abort}

module _ (C : Calls) (L : Lawful C) (base : Base C) (base_sound : C.IsSound base.store) where
  sound_empty : Sound C L base []
  sound_empty = record {
    forest = λ x p e. absurd (none_some p e);
    since = λ x p e. absurd (none_some p e);
    asked_since = tt;
    counted = omega arith;
    numbers_rise = tt;
    numbers_known = tt;
    numbers_all = λ x since last. absurd (omega arith);
    stamped = omega arith;
    stamps = tt;
    rising = tt;
    askers = tt;
    asked = tt;
    live_up = λ x p live e. absurd (none_some p e);
    undone_old = λ k lt. refl;
    runs = record {
      able = record { sound = base_sound; ready = tt; distinct = tt };
      faithful = tt;
      kept = record { rising = tt; nested = tt; behind = λ t. tt; owned = λ t c i. absurd i; logged = λ t c i e. absurd i };
    };
  }

  pub both_all : (h : List (Event C)) → Legal C base h → Sound C L base h × AllMarked C L base h
  both_all [] legal = (sound_empty, λ t live. refl)
  both_all (Begin n p ∷ h) legal = let so = both_all h legal.1 in (sound_begin C L base h so.0 n p legal.0, marked_begin C L base h so.0 so.1 legal.1 n p legal.0)
  both_all (Call c ∷ h) legal = let so = both_all h legal.1 in (sound_call C L base h so.0 c legal.0, marked_call C L base h so.0 so.1 c legal.0)
  both_all (Undo k ∷ h) legal =
      let so = both_all h legal.1 in
      let t = legal.0.0 in
      let d = legal.0.1 in
      let may = legal.0.2 in
      let f = undo_newest C L base h so.0 so.1 t d may.live may.target in
      subst (λ j. Sound C L base (Undo j ∷ h) × AllMarked C L base (Undo j ∷ h)) legal.0.3
      (sound_undo C L base h so.0 t d f.1 may.live may.no_child f.3 f.5, marked_undo C L base h so.0 so.1 t d f.0 f.1 may.live may.no_child f.2 f.3 f.4 f.5)
  both_all (Commit t ∷ h) legal = let so = both_all h legal.1 in (sound_commit C L base h so.0 t legal.0, marked_commit C L base h so.0 so.1 t legal.0)
  both_all (Abort t ∷ h) legal = let so = both_all h legal.1 in (sound_abort C L base h so.0 t legal.0, marked_abort C L base h so.0 so.1 t legal.0)

  -- Every legal history is sound.
  pub sound_all : (h : List (Event C)) → Legal C base h → Sound C L base h
  sound_all h legal = (both_all h legal).0

  -- What an undo comes upon is the newest of its list, and the asker's own.
  pub target_newest : (h : List (Event C)) → Legal C base h → (t : ℕ) (d : Done C) → IsLive C base.transaction h t → undo_target C h t ≡ Found d → (ds : List (Done C)) × (lists C h t ≡ d ∷ ds) × (d.asker ≡ t)
  target_newest h legal t d live e =
      let so = both_all h legal in
      let f = undo_newest C L base h so.0 so.1 t d live e in
      (f.1, f.3, f.5)

  -- At a fresh base each call with a new stamp may be made.
  pub fresh_ready : IsFresh C base → (h : List (Event C)) → Legal C base h → (a : C.Call) → last_stamp C base.stamp h < C.stamp a → C.IsReady a base.store
  fresh_ready fresh h legal a next = let old = (sound_all h legal).stamped in fresh a (omega arith)
