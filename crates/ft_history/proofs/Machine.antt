-- The machine keeps what a core keeps, with nothing hidden.
use Rattle.std.proofs.Common.{◌≡◌, ℕ, false, Some, List, [], ◌∷◌, sym, ◌∙◌, subst}
use Rattle.ft_laws.specs.Calls.{Calls, Same, Reverts, Done}
use Rattle.ft_laws.specs.Laws.{Lawful}
use Rattle.ft_history.specs.Logs.{put, rest}
use Rattle.ft_history.specs.History.{Base, Event, number, newest_below}
use Rattle.ft_history.specs.History.Event.{Begin, Call, Undo, Commit, Abort}
use Rattle.ft_history.specs.Legal.{outcome, MayGrant, Legal}
use Rattle.ft_history.specs.Ledger.{asker_of}
use Rattle.ft_history.specs.Core.{Entry, Machine, undo, machine, take_newest, IsMade, IsCore}
use Rattle.ft_history.proofs.History.{newest_order}
use Rattle.ft_history.proofs.Legal.{sound_all}
use Rattle.ft_history.proofs.Methods.{core_new, core_begun, core_asked, core_undone, core_committed, core_taken_back, core_sound, core_ready, core_accesses, core_reply, none_hidden}

module _ (C : Calls) (L : Lawful C) (base : Base C) (base_sound : C.IsSound base.store) where
  abbrev pub IsCoreOf : List (Event C) → Machine C → Type 0
  IsCoreOf h m = IsCore C base h (λ i. false) m.store m.log

  module _ (h : List (Event C)) (m : Machine C) (core : IsCoreOf h m) where
    made : (c : Done C) → MayGrant C base h c → IsMade C base h m.store c (C.inverse m.store c.call)
    made c may =
        let s = m.store in
        let accesses : C.accesses s c.call ≡ c.accesses = core_accesses C L base base_sound h (λ i. false) s m.log core c.call may.ready may.next ∙ may.fits.accesses in
        record {
          live = may.live;
          next = may.next;
          ready = may.ready;
          fits = record { accesses = accesses; reply = core_reply C L base base_sound h (λ i. false) s m.log core c.call may.ready may.next ∙ may.fits.reply };
          unblocked = may.unblocked;
          inverse = subst (λ f. Reverts C s c.call f (C.inverse s c.call)) accesses
              (L.inverts s c.call (core_sound C L base base_sound h (λ i. false) s m.log core) (core_ready C L base base_sound h (λ i. false) s m.log core c.call may.ready may.next));
        }

    machine_undone : (k t : ℕ) (e : Entry C) (es : List (Entry C)) → asker_of C h k ≡ Some t → m.log t ≡ e ∷ es
        → IsCore C base (Undo k ∷ h) (λ i. false) (C.revert m.store e.inverse) (put m.log t es) → IsCoreOf (Undo k ∷ h) (undo C m (asker_of C h k))
    machine_undone k t e es asker newest after =
        subst (λ o. IsCoreOf (Undo k ∷ h) (undo C m o)) (sym asker)
        (subst (λ xs. IsCore C base (Undo k ∷ h) (λ i. false) (take_newest C xs m.store) (put m.log t (rest xs))) (sym newest) after)

  pub machine_core : (h : List (Event C)) → Legal C base h → IsCoreOf h (machine C base h)
  machine_core [] legal = core_new C L base base_sound
  machine_core (Begin n p ∷ h) legal = let m = machine C base h in core_begun C L base base_sound h (λ i. false) m.store m.log (machine_core h legal.1) n p legal.0
  machine_core (Call c ∷ h) legal =
      let m = machine C base h in
      let core = machine_core h legal.1 in
      core_asked C L base base_sound h (λ i. false) m.store m.log core c (C.inverse m.store c.call) (made h m core c legal.0)
  machine_core (Undo k ∷ h) legal =
      let m = machine C base h in
      let core = machine_core h legal.1 in
      let t = legal.0.0 in
      let d = legal.0.1 in
      let after = core_undone C L base base_sound h (λ i. false) m.store m.log core t d legal.0.2 in
      subst (λ j. IsCoreOf (Undo j ∷ h) (machine C base (Undo j ∷ h))) legal.0.3
      (machine_undone h m core (number C d) t (record { done = d; inverse = after.0 }) after.1 after.5 after.2 after.4)
  machine_core (Commit t ∷ h) legal = let m = machine C base h in core_committed C L base base_sound h (λ i. false) m.store m.log (machine_core h legal.1) t legal.0
  machine_core (Abort t ∷ h) legal =
      let m = machine C base h in
      (core_taken_back C L base base_sound h (λ i. false) m.store m.log (machine_core h legal.1) t (newest_below C h t) legal.0 (newest_order C L base h (sound_all C L base base_sound h legal.1) t)).1

  -- So its store is that of the standing calls.
  pub machine_same : (h : List (Event C)) → Legal C base h → Same C (outcome C base h) (machine C base h).store
  machine_same h legal x = (machine_core h legal).store.others x (none_hidden C (C.file_of x))
