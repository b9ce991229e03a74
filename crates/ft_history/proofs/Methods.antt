-- One law for each method of a core: what it has to show, and what it then keeps.
use Rattle.std.proofs.Common.{◌≡◌, ◌≢◌, ◌<◌, ◌+◌, ℕ, suc, Bool, true, false, Option, Some, None, List, [], ◌∷◌, ◌++◌, inl, inr, length, map, sym, refl, ap, ◌∙◌, subst, arith}
use Rattle.std.proofs.lemmas.Bool.{false≢true}
use Rattle.ft_laws.specs.Lists.{In}
use Rattle.ft_laws.specs.Calls.{Calls, Same, Done, Fits}
use Rattle.ft_laws.specs.Laws.{Lawful, Hides, is_hidden, holds}
use Rattle.ft_laws.specs.Runs.{run, Along}
use Rattle.ft_laws.proofs.Lists.{Each-from}
use Rattle.ft_laws.proofs.Tests.{by_test}
use Rattle.ft_laws.proofs.Running.{run_sound, run_ready}
use Rattle.ft_history.specs.Logs.{joined, put, pushed, handed, emptied}
use Rattle.ft_history.specs.History.{Base, Event, number, last_stamp, parent, over, IsLive, standing}
use Rattle.ft_history.specs.History.Event.{Begin, Call, Undo, Commit, Abort}
use Rattle.ft_history.specs.Undoing.{MayUndo}
use Rattle.ft_history.specs.Legal.{outcome, MayBegin, MayGrant, MayCommit}
use Rattle.ft_history.specs.Ledger.{asker_of, lists}
use Rattle.ft_history.specs.Core.{Entry, AreInverses, IsMade, IsSweep, IsCore, take_back, MayTakeBack}
use Rattle.ft_history.specs.Orders.{IsAbortOrder}
use Rattle.ft_history.specs.Promises.{IsCheckpoint}
use Rattle.ft_history.proofs.Words.{by_list, moved_from, map_handed, In-handed}
use Rattle.ft_history.proofs.Owning.{one_owns}
use Rattle.ft_history.proofs.Kept.{without}
use Rattle.ft_history.proofs.Holding.{Holds, holds_taken, holds_granted, whole, hidden_file, fewer_inverses}
use Rattle.ft_history.proofs.Aborting.{Taking, taking_first, taking_step, taking_count, taking_lists, taking_holds, take_all}
use Rattle.ft_history.proofs.History.{Sound, owner, laws, stands, asker_known, stamp_known, no_list, begin_standing, begin_owner, call_owner, call_standing, standing_newer, undo_asker, undo_standing, undo_lists, undo_older, commit_owner, abort_owner, abort_standing}
use Rattle.ft_history.proofs.Legal.{sound_all, target_newest}

pub none_hidden : (C : Calls) (o : Option C.File) → holds (λ i. false) o ≡ false
none_hidden C None = refl
none_hidden C (Some i) = refl

-- On the way of an abort of t that begins with the lists log: m inverses are put to the store, and
-- the store and the lists are now these.
abbrev pub IsTakingBack : (C : Calls) (base : Base C) → List (Event C) → (C.File → Bool) → (ℕ → List (Entry C)) → ℕ → ℕ → C.Store → (ℕ → List (Entry C)) → Type 0
IsTakingBack C base h hidden log t = Taking C (over C h) (owner C h) base.store t (standing C h) (lists C h) hidden log

no_entries : {A B : Type 0} (f : A → B) (xs : List A) → map f xs ≡ [] → xs ≡ []
no_entries f [] e = refl
no_entries f (x ∷ xs) e = absurd (other e)
  where
    other : f x ∷ map f xs ≡ [] → ⊥
    other k = cc

module _ (C : Calls) (L : Lawful C) (base : Base C) (base_sound : C.IsSound base.store) where
  -- what a core holds, of the standing calls and the lists of its history
  abbrev HoldsOf : List (Event C) → (C.File → Bool) → C.Store → (ℕ → List (Entry C)) → Type 0
  HoldsOf h hidden s log = Holds C (owner C h) base.store hidden (standing C h) (lists C h) s log

  module _ (h : List (Event C)) (hidden : C.File → Bool) (s : C.Store) (log : ℕ → List (Entry C)) (core : IsCore C base h hidden s log) where
    sound : Sound C L base h
    sound = sound_all C L base base_sound h core.legal

    holds_of : HoldsOf h hidden s log
    holds_of = record { store = core.store; listed = core.listed; inverses = core.inverses; spared = core.spared }

    outcome_sound : C.IsSound (outcome C base h)
    outcome_sound = run_sound C L base.store (standing C h) sound.runs.able

    outcome_ready : (a : C.Call) → C.IsReady a base.store → last_stamp C base.stamp h < C.stamp a → C.IsReady a (outcome C base h)
    outcome_ready a ready next = run_ready C L a base.store (standing C h) sound.runs.able ready
        (Each-from (λ c. C.stamp c.call ≢ C.stamp a) (standing C h) (λ c i e. let le = stamp_known C L base h sound c i in absurd (omega arith)))

    -- The core's store is sound, and a new call may be made there.
    pub core_sound : C.IsSound s
    core_sound = L.hides_sound hidden (outcome C base h) s core.store outcome_sound

    pub core_ready : (a : C.Call) → C.IsReady a base.store → last_stamp C base.stamp h < C.stamp a → C.IsReady a s
    core_ready a ready next = L.hides_ready hidden (outcome C base h) s a core.store (outcome_ready a ready next)

    -- A new call does the same there as after the standing calls: the same accesses, and the same
    -- reply.
    pub core_fits : (c : Done C) → C.IsReady c.call base.store → last_stamp C base.stamp h < number C c → Fits C s c → Fits C (outcome C base h) c
    core_fits c ready next fits = (whole C L hidden (outcome C base h) s c outcome_sound (outcome_ready c.call ready next) core.store (core.old c.call next) fits).0

    pub core_accesses : (a : C.Call) → C.IsReady a base.store → last_stamp C base.stamp h < C.stamp a → C.accesses s a ≡ C.accesses (outcome C base h) a
    core_accesses a ready next = sym (core_fits (record { asker = 0; call = a; accesses = C.accesses s a; reply = C.reply s a }) ready next (record { accesses = refl; reply = refl })).accesses

    pub core_reply : (a : C.Call) → C.IsReady a base.store → last_stamp C base.stamp h < C.stamp a → C.reply s a ≡ C.reply (outcome C base h) a
    core_reply a ready next = sym (core_fits (record { asker = 0; call = a; accesses = C.accesses s a; reply = C.reply s a }) ready next (record { accesses = refl; reply = refl })).reply

    -- The same in each cell is as good.
    pub core_same : (new : C.Store) → Same C s new → IsCore C base h hidden new log
    core_same new same = record {
      legal = core.legal;
      store = record {
        others = λ x k. core.store.others x k ∙ same x;
        gone = λ x k. sym (same x) ∙ core.store.gone x k;
        unnamed = λ x i k. ap (λ v. C.names x v i) (sym (same x)) ∙ core.store.unnamed x i k;
      };
      listed = core.listed;
      inverses = core.inverses;
      spared = core.spared;
      old = core.old;
    }

    -- begin and sub
    pub core_begun : (n : ℕ) (p : Option ℕ) → MayBegin C base.transaction h n p → IsCore C base (Begin n p ∷ h) hidden s log
    core_begun n p may =
        let same : standing C h ≡ standing C (Begin n p ∷ h) = sym (begin_standing C L base h sound n p may) in
        record {
          legal = (may, core.legal);
          store = subst (λ cs. Hides C hidden (run C base.store cs) s) same core.store;
          listed = core.listed;
          inverses = subst (Along C (AreInverses C log) base.store) same core.inverses;
          spared = λ c y i e.
              let j : In c (standing C h) = subst (In c) (sym same) i in
              core.spared c y j (sym (begin_owner C L base h sound n p may c.asker (asker_known C L base h sound c j)) ∙ e);
          old = core.old;
        }

    -- ask
    pub may_grant : (c : Done C) (u : C.Inverse) → IsMade C base h s c u → MayGrant C base h c
    may_grant c u made = record { live = made.live; next = made.next; ready = made.ready; fits = core_fits c made.ready made.next made.fits; unblocked = made.unblocked }

    pub core_asked : (c : Done C) (u : C.Inverse) → IsMade C base h s c u → IsCore C base (Call c ∷ h) hidden (C.act s c.call) (pushed log c.asker (record { done = c; inverse = u }))
    core_asked c u made =
        let may = may_grant c u made in
        let all : standing C h ++ c ∷ [] ≡ standing C (Call c ∷ h) = sym (call_standing C L base h sound c may) in
        let after = holds_granted C L (over C h) (owner C h) base.store (standing C h) (lists C h) sound.runs c.asker c (call_owner C L base h sound c may) made.ready (standing_newer C L base h sound c may)
        hidden s log u holds_of (core.old c.call made.next) made.fits made.inverse in
        record {
          legal = (may, core.legal);
          store = subst (λ cs. Hides C hidden (run C base.store cs) (C.act s c.call)) all after.store;
          listed = after.listed;
          inverses = subst (Along C (AreInverses C (pushed log c.asker (record { done = c; inverse = u }))) base.store) all after.inverses;
          spared = λ b y i e. after.spared b y (subst (In b) (sym all) i) e;
          old = λ a next. let lt = made.next in core.old a (omega arith);
        }

    -- undo_call: the newest of t's list is the call that is found
    pub core_undone : (t : ℕ) (d : Done C) → MayUndo C base.transaction h t d
        → (u : C.Inverse) × (es : List (Entry C)) × (log t ≡ record { done = d; inverse = u } ∷ es) × C.MayRevert s u × IsCore C base (Undo (number C d) ∷ h) hidden (C.revert s u) (put log t es) × (asker_of C h (number C d) ≡ Some t)
    core_undone t d may =
        let found = target_newest C L base base_sound h core.legal t d may.live may.target in
        let ds = found.0 in
        by_list (log t)
        (λ e. absurd (no_call (sym (ap (map (λ x. x.done)) e) ∙ core.listed t ∙ found.1)))
        (λ e es is.
        let shown : e.done ∷ map (λ x. x.done) es ≡ d ∷ ds = sym (ap (map (λ x. x.done)) is) ∙ core.listed t ∙ found.1 in
        let first : e.done ≡ d = head shown in
        let entry : log t ≡ record { done = d; inverse = e.inverse } ∷ es = is ∙ ap (λ c. record { done = c; inverse = e.inverse } ∷ es) first in
        let less : without C (number C d) (standing C h) ≡ standing C (Undo (number C d) ∷ h) = sym (undo_standing C L base h sound t d ds may.live may.no_child found.1 found.2) in
        let left : put (lists C h) t ds ≡ lists C (Undo (number C d) ∷ h) = sym (undo_lists C L base h sound t d ds may.live may.no_child found.1 found.2) in
        let after = holds_taken C L (over C h) (owner C h) base.store (standing C h) (lists C h) sound.runs t d ds found.1 (undo_older C L base h sound t d ds may.live may.no_child found.1 found.2)
        hidden s log e.inverse es holds_of entry (tail shown) in (
          e.inverse,
          es,
          entry,
          after.0,
          record {
            legal = ((t, d, may, refl), core.legal);
            store = subst (λ cs. Hides C hidden (run C base.store cs) (C.revert s e.inverse)) less after.1.store;
            listed = λ x. after.1.listed x ∙ ap (λ l. l x) left;
            inverses = subst (Along C (AreInverses C (put log t es)) base.store) less after.1.inverses;
            spared = λ c y i k. after.1.spared c y (subst (In c) (sym less) i) k;
            old = core.old;
          },
          undo_asker C L base h sound t d ds may.live may.no_child found.1 found.2,
        ))
      where
        no_call : {A : Type 0} {x : A} {xs : List A} → [] ≡ x ∷ xs → ⊥
        no_call e = cc

        head : {A : Type 0} {x y : A} {xs ys : List A} → x ∷ xs ≡ y ∷ ys → x ≡ y
        head e = cc

        tail : {A : Type 0} {x y : A} {xs ys : List A} → x ∷ xs ≡ y ∷ ys → xs ≡ ys
        tail e = cc

    -- commit: the store stays
    pub core_committed : (t : ℕ) → MayCommit C base.transaction h t → IsCore C base (Commit t ∷ h) hidden s (handed log t (parent C h t))
    core_committed t may = record {
      legal = (may, core.legal);
      store = core.store;
      listed = map_handed (λ e. e.done) log (lists C h) core.listed t (parent C h t);
      inverses = fewer_inverses C log (handed log t (parent C h t)) (λ x e i. In-handed log t (parent C h t) x e i) base.store (standing C h) core.inverses;
      spared = λ c y i e. elim (moved_from t (parent C h t) y (owner C h c) (sym (commit_owner C L base h sound t may c.asker) ∙ e)) [
        | inl was ↦ core.spared c t i was.0
        | inr was ↦ core.spared c y i was.0
      ];
      old = core.old;
    }

    -- abort: the beginning, with no inverse yet
    pub abort_first : (t : ℕ) → IsTakingBack C base h hidden log t 0 s log
    abort_first t = taking_first C L (parent C h) (over C h) (laws C L base h sound) (owner C h) base.store t (standing C h) (lists C h) hidden log s sound.runs holds_of

    -- the newest inverse of the list of x, at or below t, may be put to the store, and is, where
    -- the lists strictly below x are empty
    pub abort_step : (t x m : ℕ) (now : C.Store) (kept : ℕ → List (Entry C)) (e : Entry C) (es : List (Entry C)) → over C h t x ≡ true → kept x ≡ e ∷ es → ((y : ℕ) → over C h x y ≡ true → y ≢ x → kept y ≡ [])
        → IsTakingBack C base h hidden log t m now kept → C.MayRevert now e.inverse × IsTakingBack C base h hidden log t (suc m) (C.revert now e.inverse) (put kept x es)
    abort_step t x m now kept e es = taking_step C L (parent C h) (over C h) (laws C L base h sound) (owner C h) base.store t (standing C h) (lists C h) hidden log x m now kept e es

    -- a transaction that isn't live has no list
    pub ended_list : (x : ℕ) → (IsLive C base.transaction h x → ⊥) → log x ≡ []
    ended_list x ended = no_entries (λ e. e.done) (log x) (core.listed x ∙ no_list C L base h sound x ended)

    -- at the end, with all lists at or below t empty: the core's, and as many inverses as calls
    -- that went
    pub core_aborted : (t m : ℕ) (now : C.Store) (kept : ℕ → List (Entry C)) → IsLive C base.transaction h t → ((x : ℕ) → over C h t x ≡ true → kept x ≡ []) → IsTakingBack C base h hidden log t m now kept
        → IsCore C base (Abort t ∷ h) hidden now kept × (length (standing C (Abort t ∷ h)) + m ≡ length (standing C h)) × ((x : ℕ) → kept x ≡ emptied (over C h) log t x)
    core_aborted t m now kept live empty taking =
        let all = laws C L base h sound in
        let left = abort_standing C L base h sound t live in
        let after = taking_holds C L (parent C h) (over C h) all (owner C h) base.store t (standing C h) (lists C h) hidden log m now kept empty taking in (
          record {
            legal = (live, core.legal);
            store = subst (λ cs. Hides C hidden (run C base.store cs) now) (sym left) after.store;
            listed = after.listed;
            inverses = subst (Along C (AreInverses C kept) base.store) (sym left) after.inverses;
            spared = λ c y i e. after.spared c y (subst (In c) left i) (sym (abort_owner C L base h sound t live c.asker) ∙ e);
            old = core.old;
          },
          ap (λ cs. length cs + m) left ∙ taking_count C L (parent C h) (over C h) all (owner C h) base.store t (standing C h) (lists C h) hidden log m now kept empty taking,
          taking_lists C L (parent C h) (over C h) all (owner C h) base.store t (standing C h) (lists C h) hidden log m now kept empty taking,
        )

    -- the same all at once, in any order in which each comes before its parent
    pub core_taken_back : (t : ℕ) (xs : List ℕ) → IsLive C base.transaction h t → IsAbortOrder C base.transaction h t xs
        → MayTakeBack C (joined log xs) s × IsCore C base (Abort t ∷ h) hidden (take_back C (joined log xs) s) (emptied (over C h) log t)
    core_taken_back t xs live order =
        let es : List (Entry C) = joined log xs in
        let end = take_all C L (parent C h) (over C h) (laws C L base h sound) (owner C h) base.store t (standing C h) (lists C h) hidden log xs s
        (record { below = order.below; before = order.before; others = λ y a out. ended_list y (λ below. out (order.all y a below)) }) (abort_first t) in
        let after = core_aborted t (length es) (take_back C es s) end.0 live end.2 end.1 in
        (end.3, subst (IsCore C base (Abort t ∷ h) hidden (take_back C es s)) (λ i x. after.2 x i) after.0)

    -- sweep: nothing happens
    pub core_swept : (more : C.File → Bool) (new : C.Store) → IsSweep C base.stamp h hidden more s new → IsCore C base h more new log
    core_swept more new sweep = record {
      legal = core.legal;
      store = record {
        others = λ x k. core.store.others x (was_seen x k) ∙ sym (sweep.others x k);
        gone = sweep.blanked;
        unnamed = λ x i k. by_test (is_hidden C more x)
            (λ m. hidden_file C more x m (λ j e n. L.nameless x (C.cell new x) j i e))
            (λ m. ap (λ v. C.names x v i) (sweep.others x m) ∙ sweep.unnamed x i k);
      };
      listed = core.listed;
      inverses = core.inverses;
      spared = λ c y i e x k. by_test (C.touches c.accesses x)
          (λ m. by_test (is_hidden C hidden x)
          (λ was. core.spared c y i e x was)
          (λ was. absurd (false≢true (sym (sweep.unlocked y x k was) ∙ one_owns C h y (λ f. C.touches f x) (record { call = c; granted = (stands C L base h sound c i).0; owner = e; asker = refl; passes = m })))))
          (λ m. m);
      old = sweep.old;
    }
      where
        -- what is not hidden now was not before
        was_seen : (x : C.Cell) → is_hidden C more x ≡ false → is_hidden C hidden x ≡ false
        was_seen x k = by_test (is_hidden C hidden x)
            (λ m. hidden_file C hidden x m (λ i e n. absurd (false≢true (sym k ∙ ap (holds more) e ∙ sweep.kept i n))))
            (λ m. m)

    -- checkpoint: where no transaction is live, the lists are empty
    pub core_checkpoint : ((t : ℕ) → IsLive C base.transaction h t → ⊥) → IsCheckpoint C base h s log
    core_checkpoint none = record {
      sound = core_sound;
      core = record {
        legal = tt;
        store = record { others = λ x k. refl; gone = λ x k. absurd (false≢true (sym (none_hidden C (C.file_of x)) ∙ k)); unnamed = λ x i k. absurd (false≢true k) };
        listed = λ t. core.listed t ∙ no_list C L base h sound t (none t);
        inverses = tt;
        spared = λ c y i e. absurd i;
        old = λ a next. refl;
      };
      fresh = λ fresh a next. core_ready a (let le = sound.stamped in fresh a (omega arith)) next;
    }

  -- new: nothing is hidden, and the lists are empty
  pub core_new : IsCore C base [] (λ i. false) base.store (λ t. [])
  core_new = record {
    legal = tt;
    store = record { others = λ x k. refl; gone = λ x k. absurd (false≢true (sym (none_hidden C (C.file_of x)) ∙ k)); unnamed = λ x i k. absurd (false≢true k) };
    listed = λ t. refl;
    inverses = tt;
    spared = λ c y i e. absurd i;
    old = λ a next. refl;
  }
