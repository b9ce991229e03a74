-- What a granted call does to what a core keeps.
use Rattle.std.proofs.Common.{◌≡◌, ◌<◌, ◌≤◌, ◌+◌, ℕ, true, List, [], ◌∷◌, inl, inr, is_some, map, arith, refl, sym, ap, subst, ◌∙◌}
use Rattle.std.specs.FinMap as finite
use Rattle.std.specs.FinSet as set
use Rattle.ft_owned_lists.specs.OwnedLists.{Lists, list_in}
use Rattle.ft_laws.specs.Lists.{Each, In}
use Rattle.ft_laws.specs.Calls.{Reverts}
use Rattle.ft_laws.specs.Effects.{Has, before, write_all, reversal_of}
use Rattle.ft_cells.specs.declared.cell.Cell.{Cell}
use Rattle.ft_cells.specs.declared.cell.Cell.TheVariants.{Links}
use Rattle.ft_cells.specs.Cells.{Cells}
use Rattle.ft_tree.specs.Held.{IsStored}
use Rattle.ft_tree.specs.Sound.{AreSoundCells, IsFree}
use Rattle.ft_tree.specs.Sweep.{IsAccounted}
use Rattle.ft_posix.specs.declared.call.Call.{Call}
use Rattle.ft_posix.specs.declared.call.Reply.{Reply}
use Rattle.ft_posix.specs.declared.call.Access.{Access}
use Rattle.ft_posix.specs.Accesses.{accesses_of}
use Rattle.ft_posix.specs.Outcomes.{Write}
use Rattle.ft_posix.specs.Stored.{outcome}
use Rattle.ft_posix.specs.RunLaws.{writes_cell}
use Rattle.ft_posix.specs.Posix.{HasSoundValues, Stamped, as_place, posix, posix_calls}
use Rattle.ft_undo.specs.declared.logs.LogRecord.{LogRecord}
use Rattle.ft_forest.specs.declared.TheConstants.{LAST_NUMBER}
use Rattle.ft_forest.specs.Transactions.{Transactions}
use Rattle.ft_lock_rules.specs.Locks.{LockTable, is_kept, is_released, AreBlockers}
use Rattle.ft_lock_rules.specs.Rules.{is_strict}
use Rattle.ft_history.specs.History.{Base as HistoryBase, last_stamp, IsLive, grants, number}
use Rattle.ft_history.specs.History.Event.{Call as WasGranted}
use Rattle.ft_history.specs.Locks.{blockers_of}
use Rattle.ft_history.specs.Logs.{pushed}
use Rattle.ft_history.specs.Core.{IsMade, IsCore}
use Rattle.ft_history.proofs.Words.{by_number, put_same, put_other}
use Rattle.ft_history.proofs.Methods.{core_asked}
use Rattle.ft_core.specs.Histories.{History, Granted, granted}
use Rattle.ft_core.specs.States.{Base, Asks}
use Rattle.ft_core.specs.Journals.{Journaled}
use Rattle.ft_core.specs.declared.parts.Parts.{Parts}
use Rattle.ft_core.specs.Kept.{Item, Change, TakesBack, AreLogged, ArePlaced, IsStarted, IsCoreAt}
use Rattle.ft_core.specs.Laws.{CallLaws, LockLaws}
use Rattle.ft_core.specs.Makes.{IsMadeOn}
use Rattle.ft_core.proofs.Accounts.{granted-accounted}
use Rattle.ft_core.proofs.Allowing.{still-within, happened}
use Rattle.ft_core.proofs.Counts.{length-push}
use Rattle.ft_core.proofs.Joining.{start, values, free, sound_values}
use Rattle.ft_core.proofs.Written.{of-written}
use Rattle.ft_core.proofs.Placing.{put-write, put-stays, as-left, left-stored, files-stored, placed-stays}
use Rattle.ft_core.proofs.Gathered.{parts}

-- one call more, of the next stamp
abbrev pub started-granted : (base : Base) (h : History) (last_txn last_number : ℕ) (c : Granted) → number posix_calls c ≡ last_number + 1 → number posix_calls c ≤ LAST_NUMBER → IsStarted base h last_txn last_number → IsStarted base (WasGranted c ∷ h) last_txn (number posix_calls c)
started-granted base h last_txn last_number c next few started = record {
  store = started.store;
  sound = started.sound;
  tree = started.tree;
  fresh = started.fresh;
  last_txn_is = started.last_txn_is;
  last_stamp_is = refl;
  counted = started.counted;
  stamped = length-push (grants posix_calls h) c base.last_stamp last_number started.stamped ∙ sym next;
  within = few;
}

module _ (W : CallLaws) (K : LockLaws) {base : Base} {h : History} {asks : Asks} {last_txn last_number : ℕ} {cells : Cells} {forest : Transactions} {table : LockTable} {lists : Lists LogRecord} {j : Journaled} (core : IsCoreAt base h asks last_txn last_number cells forest table lists j) where
  abbrev from : HistoryBase posix_calls
  from = start W core.kept

  with_values : HasSoundValues from.store
  with_values = values W core.kept

  module _ (t : ℕ) (call : Call) (reply : Reply) (accesses : List Access) (k : ℕ) (next : k ≡ last_number + 1) (few : k ≤ LAST_NUMBER) (live : IsLive posix_calls base.last_txn h t) (touched : accesses ≡ accesses_of cells k call) (answered : reply ≡ (outcome cells k call).reply)
      (unblocked : blockers_of posix_calls h t (map as_place accesses) ≡ [])
      (p' : Parts) (made : IsMadeOn (parts cells forest table lists) p' (outcome cells k call).writes t k accesses) where
    abbrev cells' : Cells
    cells' = p'.tree

    abbrev table' : LockTable
    table' = p'.locks

    abbrev lists' : Lists LogRecord
    lists' = p'.logs

    abbrev c : Granted
    c = granted k t call reply accesses

    abbrev after : History
    after = WasGranted c ∷ h

    abbrev writes : List Write
    writes = (outcome cells k call).writes

    abbrev entry : Item
    entry = record { done = c; inverse = reversal_of posix cells writes }

    abbrev a : Stamped
    a = record { stamp = k; call = call }

    later : last_stamp posix_calls base.last_stamp h < k
    later = let last = core.kept.started.last_stamp_is in omega arith

    is_free : IsFree cells k
    is_free = free W core.kept k (omega arith)

    acted : posix_calls.act cells a ≡ cells'
    acted = sym (made.cells ∙ put-write cells writes)

    is_made : IsMade posix_calls from h cells c entry.inverse
    is_made = record {
      live = live;
      next = later;
      ready = let all = core.kept.started.stamped in core.kept.started.fresh a (omega arith);
      fits = record { accesses = ap (map as_place) (sym touched); reply = sym answered };
      unblocked = unblocked;
      inverse = subst (λ f. Reverts posix_calls cells a (map as_place f) entry.inverse) (sym touched) (W.lawful.inverts cells a (sound_values cells core.kept.sound) is_free);
    }

    core' : IsCore posix_calls from after core.kept.hidden cells' (pushed core.log t entry)
    core' = subst (λ s. IsCore posix_calls from after core.kept.hidden s (pushed core.log t entry)) acted (core_asked posix_calls W.lawful from with_values h core.kept.hidden cells core.log core.kept.core c entry.inverse is_made)

    sound' : AreSoundCells cells'
    sound' = subst AreSoundCells (sym made.cells) (W.soundness cells k call core.kept.sound is_free)

    stay : (x : Cell) → IsStored cells x → IsStored cells' x
    stay x stored = subst (λ s. IsStored s x) (sym made.cells) (put-stays W.setting cells writes x stored)

    abbrev new : LogRecord
    new = record { stamp = k; undo = made.undo }

    takes : TakesBack entry new
    takes = record {
      stamp = refl;
      same = made.inverse;
      may = λ now stored has. made.may now (as-left now cells' writes (subst (λ (s : Cells). Each (λ (w : Change). IsStored now w.cell) (before posix s writes)) acted stored)
          (subst (λ (s : Cells). Has posix now (before posix s writes)) acted has));
    }

    logged : (u : ℕ) → AreLogged (pushed core.log t entry u) (list_in lists' u)
    logged u = subst (AreLogged (pushed core.log t entry u)) (sym (made.listed u)) (by_number u t
        (λ is. subst (λ es. AreLogged es (pushed (list_in lists) t new u)) (sym (put_same core.log t (entry ∷ core.log t) u is))
        (subst (AreLogged (entry ∷ core.log t)) (sym (put_same (list_in lists) t (new ∷ list_in lists t) u is)) (takes, core.logs.logged t)))
        (λ ne. subst (λ es. AreLogged es (pushed (list_in lists) t new u)) (sym (put_other core.log t (entry ∷ core.log t) u ne))
        (subst (AreLogged (core.log u)) (sym (put_other (list_in lists) t (new ∷ list_in lists t) u ne)) (core.logs.logged u))))

    mine : ArePlaced cells' entry
    mine = record {
      own = of-written cells (map as_place accesses) writes (subst (λ xs. Each (λ (w : Change). writes_cell (map as_place xs) w.cell ≡ true) writes) (sym touched) (W.writes cells a)) (W.places cells k call core.kept.sound).apart entry refl refl refl;
      written = left-stored cells' (write_all posix cells writes) writes made.left;
      files = files-stored cells cells' (λ f o is. stay (Links o.file) (core.kept.sound.opens f o is).0) writes;
    }

    placed : (u : ℕ) (e : Item) → In e (pushed core.log t entry u) → ArePlaced cells' e
    placed u e i = by_number u t
        (λ is. elim (subst (In e) (put_same core.log t (entry ∷ core.log t) u is) i) [
          | inl same ↦ subst (ArePlaced cells') (sym same) mine
          | inr old ↦ placed-stays cells cells' stay e (core.logs.placed t e old)
        ])
        (λ ne. placed-stays cells cells' stay e (core.logs.placed u e (subst (In e) (put_other core.log t (entry ∷ core.log t) u ne) i)))

    pub core-granted : (asks' : Asks) → ((u : ℕ) → is_some (finite.get asks' u) ≡ true → IsLive posix_calls base.last_txn h u) → AreBlockers j.rule table forest t accesses [] → (j' : Journaled) → j'.rule ≡ j.rule → j'.subs ≡ j.subs → j'.calls ≡ j.calls → IsCoreAt base after asks' last_txn k cells' forest table' lists' j'
    core-granted asks' waiting free j' rule subs calls = record {
      log = pushed core.log t entry;
      kept = record {
        started = started-granted base h last_txn last_number c next few core.kept.started;
        hidden = core.kept.hidden;
        core = core';
        sound = sound';
      };
      transactions = record { base_is = core.transactions.base_is; last = core.transactions.last; parents = core.transactions.parents; fates = core.transactions.fates };
      locks = K.grant from with_values h table core.locks c accesses table' core'.legal refl made.granted;
      no_holder = λ strict.
          let was : is_strict j.rule ≡ true = sym (ap is_strict rule) ∙ strict in
          K.holders.granted from with_values h table core.locks core.kept.core.legal forest core.transactions.parents j.rule was t accesses table' free made.granted (core.no_holder was);
      logs = record { logged = logged; placed = placed };
      ready = λ u alive.
          let was = core.ready u alive in
          record { locks = ap (λ s. set.contains s u) made.granted.given.opened ∙ was.locks; log = made.open_still u ∙ was.log; sub = ap (λ m. finite.get m u) subs ∙ was.sub };
      waiting = waiting;
      accounted = subst (IsAccounted (is_kept table') (is_released table')) acted (granted-accounted W K cells table table' a t accesses core.kept.sound is_free touched made.granted core.accounted);
      within = still-within base forest forest j j' refl calls core.within;
      bare = λ e. happened e;
    }
