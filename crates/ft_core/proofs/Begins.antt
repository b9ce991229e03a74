-- What a begin does to what a core keeps.
use Rattle.std.proofs.Common.{◌≡◌, ◌≢◌, ◌<◌, ◌+◌, ℕ, Bool, true, false, cond, [], ◌∷◌, Option, Some, None, arith, refl, sym, ap, subst, ◌∙◌, ◌==◌}
use Rattle.std.specs.FinMap as finite
use Rattle.ft_owned_lists.specs.OwnedLists.{Lists}
use Rattle.ft_laws.proofs.Tests.{by_test}
use Rattle.ft_cells.specs.Cells.{Cells}
use Rattle.ft_tree.specs.Sweep.{IsAccounted}
use Rattle.ft_posix.specs.Posix.{HasSoundValues, posix_calls}
use Rattle.ft_undo.specs.declared.logs.LogRecord.{LogRecord}
use Rattle.ft_undo.specs.Logs.{is_open}
use Rattle.ft_forest.specs.declared.state.State.{State as Life}
use Rattle.ft_forest.specs.declared.state.State.TheVariants.{Live as LiveState}
use Rattle.ft_forest.specs.Transactions.{Transactions, parent_in, state_in, last_in, HasBegun}
use Rattle.ft_lock_rules.specs.Locks.{LockTable, has_lock, is_kept, is_released, is_opened}
use Rattle.ft_lock_rules.specs.Rules.{is_strict}
use Rattle.ft_history.specs.History.{Base as HistoryBase, Fate, fate, IsLive, last_transaction, last_stamp, parent, is_child}
use Rattle.ft_history.specs.History.Fate.{Live, Committed, Aborted}
use Rattle.ft_history.specs.History.Event.{Begin as WasBegun, Call as WasGranted, Undo as WasUndone, Commit as WasCommitted, Abort as WasAborted}
use Rattle.ft_history.specs.Legal.{Legal, MayBegin}
use Rattle.ft_history.specs.Logs.{put}
use Rattle.ft_history.specs.Undoing.{last_sub}
use Rattle.ft_history.specs.Fates.{AreNumbered}
use Rattle.ft_history.proofs.Words.{by_number, put_same, put_other}
use Rattle.ft_history.proofs.Fates.{numbered, fate_rules}
use Rattle.ft_history.proofs.Owning.{some_is}
use Rattle.ft_history.proofs.Living.{lived}
use Rattle.ft_history.proofs.History.{Sound}
use Rattle.ft_core.specs.Histories.{History}
use Rattle.ft_core.specs.declared.fault.Fault.{Fault}
use Rattle.ft_core.specs.declared.fault.Fault.TheVariants.{Full, Deep}
use Rattle.ft_core.specs.declared.request.Event.TheVariants.{Begin}
use Rattle.ft_core.specs.States.{Base, Asks, State, fate_of, is_deepest, has_most_transactions, after_begin, fate_in}
use Rattle.ft_core.specs.Steps.{fault_if, fault_of_fate, refusal_of, begin_request}
use Rattle.ft_core.specs.Journals.{Journaled, with_begin, state_of}
use Rattle.ft_core.specs.declared.parts.Parts.{Parts}
use Rattle.ft_core.specs.Kept.{AreLogged, IsCoreAt, IsCoreOf}
use Rattle.ft_core.specs.Opens.{AreAsBefore, IsOpenFor}
use Rattle.ft_core.specs.Laws.{CallLaws, LockLaws}
use Rattle.ft_core.proofs.Allowing.{still-within, happened}
use Rattle.ft_core.proofs.Opening.{Subs}
use Rattle.ft_core.proofs.Told.{told-push}
use Rattle.ft_core.proofs.Joining.{start, values, past, may-begin, kept-begin}
use Rattle.ft_core.proofs.Gathered.{parts}

fate-cond : (b : Bool) (o : Option Life) → fate_in (cond b (Some LiveState) o) ≡ cond b (Some Live) (fate_in o)
fate-cond true o = refl
fate-cond false o = refl

module _ (W : CallLaws) (K : LockLaws) {base : Base} {h : History} {asks : Asks} {last_txn last_number : ℕ} {cells : Cells} {forest : Transactions} {table : LockTable} {lists : Lists LogRecord} {j : Journaled} (core : IsCoreAt base h asks last_txn last_number cells forest table lists j) where
  abbrev from : HistoryBase posix_calls
  from = start W core.kept

  with_values : HasSoundValues from.store
  with_values = values W core.kept

  sound : Sound posix_calls W.lawful from h
  sound = past W core.kept

  pub numbers : AreNumbered posix_calls base.last_txn h
  numbers = numbered posix_calls W.lawful from with_values h core.kept.core.legal

  -- a transaction that is to come has no child
  sub-later : (g : History) → Legal posix_calls from g → (x : ℕ) → last_transaction posix_calls base.last_txn g < x → last_sub posix_calls base.last_stamp g x ≡ None
  sub-later [] legal x later = refl
  sub-later (WasBegun n up ∷ g) legal x later = let next = legal.0.next in sub-later g legal.1 x (omega arith)
  sub-later (WasGranted c ∷ g) legal x later = sub-later g legal.1 x later
  sub-later (WasUndone k ∷ g) legal x later = sub-later g legal.1 x later
  sub-later (WasAborted t ∷ g) legal x later = sub-later g legal.1 x later
  sub-later (WasCommitted u ∷ g) legal x later =
      let so = numbered posix_calls W.lawful from with_values g legal.1 in
      by_test (is_child posix_calls g x u)
      (λ k. let parent = so.parents u x (some_is (parent posix_calls g u) x k) in absurd (omega arith))
      (λ k. ap (λ b. cond b (Some (last_stamp posix_calls base.last_stamp g)) (last_sub posix_calls base.last_stamp g x)) k ∙ sub-later g legal.1 x later)

  module _ (n : ℕ) (up : Option ℕ) (next : n ≡ last_txn + 1) (live : (q : ℕ) → up ≡ Some q → IsLive posix_calls base.last_txn h q) where
    abbrev after : History
    after = WasBegun n up ∷ h

    may : MayBegin posix_calls base.last_txn h n up
    may = may-begin W core.kept n up next live

    legal : Legal posix_calls from after
    legal = (may, core.kept.core.legal)

    fates : (x : ℕ) → fate posix_calls base.last_txn after x ≡ put (fate posix_calls base.last_txn h) n (Some Live) x
    fates = fate_rules posix_calls W.lawful from with_values h (WasBegun n up) legal

    was-live : (x : ℕ) → x ≢ n → IsLive posix_calls base.last_txn after x → IsLive posix_calls base.last_txn h x
    was-live x ne now = sym (fates x ∙ put_other (fate posix_calls base.last_txn h) n (Some Live) x ne) ∙ now

    still-live : (x : ℕ) → IsLive posix_calls base.last_txn h x → IsLive posix_calls base.last_txn after x
    still-live x was = fates x ∙ by_number x n (λ is. put_same (fate posix_calls base.last_txn h) n (Some Live) x is) (λ ne. put_other (fate posix_calls base.last_txn h) n (Some Live) x ne ∙ was)

    pub core-begin : (forest' : Transactions) → HasBegun forest forest' up → IsOpenFor j table lists n → (j' : Journaled) → j'.rule ≡ j.rule → j'.subs ≡ j.subs → j'.calls ≡ j.calls → IsCoreAt base after asks n last_number cells forest' table lists j'
    core-begin forest' has open_for j' rule subs calls = record {
      log = core.log;
      kept = kept-begin W core.kept n up next live;
      transactions = record {
        base_is = has.base ∙ core.transactions.base_is;
        last = has.last ∙ number_is;
        parents = parents;
        fates = λ x. ap fate_in (has.states x) ∙ ap (λ k. fate_in (put (state_in forest) k (Some LiveState) x)) number_is ∙ fate-cond (x == n) (state_in forest x) ∙ ap (cond (x == n) (Some Live)) (core.transactions.fates x) ∙ sym (fates x);
      };
      locks = K.begin from with_values h table core.locks n up legal;
      no_holder = λ strict. K.holders.begun from with_values h table core.locks n up legal forest forest' core.transactions.parents parents (core.no_holder (sym (ap is_strict rule) ∙ strict));
      logs = core.logs;
      ready = λ t now. by_number t n
          (λ is. record {
            locks = ap (is_opened table) is ∙ open_for.locks;
            log = ap (is_open lists) is ∙ open_for.log;
            sub = ap (λ m. finite.get m t) subs ∙ ap (finite.get j.subs) is ∙ open_for.sub ∙ ap Some (sym (let last_is = core.kept.started.last_txn_is in sub-later h core.kept.core.legal t (omega arith)));
          })
          (λ ne. let was = core.ready t (was-live t ne now) in record { locks = was.locks; log = was.log; sub = ap (λ m. finite.get m t) subs ∙ was.sub });
      waiting = λ t some. still-live t (core.waiting t some);
      accounted = core.accounted;
      within = still-within base forest forest' j j' has.limits calls core.within;
      bare = λ e. happened e;
    }
      where
        number_is : last_in forest + 1 ≡ n
        number_is = ap (λ k. k + 1) core.transactions.last ∙ sym next

        parents : (x : ℕ) → parent_in forest' x ≡ parent posix_calls after x
        parents x = has.parents x ∙ ap (λ k. put (parent_in forest) k up x) number_is ∙ ap (cond (x == n) up) (core.transactions.parents x)

  -- places for a transaction that is to begin change nothing
  pub core-opened : (table' : LockTable) (lists' : Lists LogRecord) (j' : Journaled) → AreAsBefore j j' table table' lists lists' (last_txn + 1) → IsCoreAt base h asks last_txn last_number cells forest table' lists' j'
  core-opened table' lists' j' same = record {
    log = core.log;
    kept = core.kept;
    transactions = core.transactions;
    locks = λ l. ap (λ (q : LockTable). has_lock q l) same.locks ∙ core.locks l;
    no_holder = λ strict. K.holders.fewer table table' (λ l e. sym (ap (λ (q : LockTable). has_lock q l) same.locks) ∙ e) forest forest (λ x. refl) (core.no_holder (sym (ap (λ (q : Journaled). is_strict q.rule) same.journal) ∙ strict));
    logs = record { logged = λ t. subst (AreLogged (core.log t)) (sym (same.listed t)) (core.logs.logged t); placed = core.logs.placed };
    ready = λ t live.
        let was = core.ready t live in
        let last = (lived posix_calls base.last_txn h t live).begun in
        let last_is = core.kept.started.last_txn_is in
        record { locks = same.opened t was.locks; log = same.open_still t was.log; sub = same.subs t (λ is. absurd (omega arith)) ∙ was.sub };
    waiting = core.waiting;
    accounted = subst (λ (q : LockTable). IsAccounted (is_kept q) (is_released q) cells) (sym same.locks) core.accounted;
    within = still-within base forest forest j j' refl (ap (λ (q : Journaled). q.calls) same.journal) core.within;
    bare = core.bare;
  }

-- whom a begin is not refused under is live
pub live-fault : (o : Option Fate) (later : Option Fault) → fault_of_fate o later ≡ None → o ≡ Some Live
live-fault None later e = absurd (cc)
live-fault (Some Live) later e = refl
live-fault (Some Committed) later e = absurd (cc)
live-fault (Some Aborted) later e = absurd (cc)

pub live-parent : (s : State) (up : Option ℕ) → refusal_of s (begin_request up) ≡ None → (q : ℕ) → up ≡ Some q → fate_of s q ≡ Some Live
live-parent s None fine q e = absurd (cc)
live-parent s (Some p) fine q e =
    let is : p ≡ q = cc in
    ap (fate_of s) (sym is) ∙ live-fault (fate_of s p) (fault_if (is_deepest s p) Deep (fault_if (has_most_transactions s) Full None)) fine

-- the state after a begin
pub state-begun : (forest forest' : Transactions) (up : Option ℕ) (j j' : Journaled) (subs : Subs) → HasBegun forest forest' up → j' ≡ with_begin (record j { subs = subs }) (last_in forest + 1) up → state_of forest' j' ≡ after_begin (state_of forest j) up
state-begun forest forest' up j j' subs has is = λ i. record {
  rule = (is i).rule;
  limits = record { depth = (has.limits i).depth; transactions = (has.limits i).transactions; calls = (is i).calls };
  base = record { tree = (is i).base_tree; last_txn = has.base i; last_stamp = (is i).base_stamp };
  events = (is i).events;
  asks = (is i).asks;
  last_txn = has.last i;
  last_stamp = (is i).last_stamp;
}

pub core-started : CallLaws → LockLaws → (p p' : Parts) (j j1 j' : Journaled) (up : Option ℕ) → IsCoreOf (state_of p.forest j) p j
    → refusal_of (state_of p.forest j) (begin_request up) ≡ None → AreAsBefore j j1 p.locks p'.locks p.logs p'.logs (last_in p.forest + 1) → IsOpenFor j1 p'.locks p'.logs (last_in p.forest + 1) → HasBegun p.forest p'.forest up → p'.tree ≡ p.tree → j' ≡ with_begin j1 (last_in p.forest + 1) up → IsCoreOf (state_of p'.forest j') p' j'
core-started W K p p' j j1 j' up core fine same open_for has tree is =
    let n = last_in p.forest + 1 in
    let s : State = state_of p.forest j in
    let opened = core-opened W K core p'.locks p'.logs j1 same in
    let begun = core-begin W K opened n up refl (live-parent s up fine) p'.forest has open_for j' (ap (λ (q : Journaled). q.rule) is) (ap (λ (q : Journaled). q.subs) is) (ap (λ (q : Journaled). q.calls) is) in
    let told : IsCoreOf (after_begin s up) (parts p.tree p'.forest p'.locks p'.logs) j' =
    subst (λ h. IsCoreAt s.base h s.asks n s.last_stamp p.tree p'.forest p'.locks p'.logs j') (sym (told-push s.events (Begin n up))) begun in
    subst (λ c. IsCoreOf (state_of p'.forest j') (parts c p'.forest p'.locks p'.logs) j') (sym tree)
    (subst (λ q. IsCoreOf q (parts p.tree p'.forest p'.locks p'.logs) j') (sym (state-begun p.forest p'.forest up j j' j1.subs has (is ∙ ap (λ (q : Journaled). with_begin q n up) same.journal))) told)
