-- What a commit does to what a core keeps.
use Rattle.std.proofs.Common.{◌≡◌, ◌≢◌, ◌==◌, ℕ, true, false, not, cond, List, [], ◌∷◌, ◌++◌, Option, Some, None, is_some, IsSome, arith, refl, sym, ap, subst, ◌∙◌, ne_eqb, eq-eqb}
use Rattle.std.proofs.lemmas.Bool.{false≢true, and_parts}
use Rattle.std.specs.FinMap as finite
use Rattle.ft_owned_lists.specs.OwnedLists.{Lists, list_in}
use Rattle.ft_cells.specs.declared.cell.Cell.{Cell}
use Rattle.ft_cells.specs.Cells.{Cells}
use Rattle.ft_posix.specs.Posix.{posix_calls}
use Rattle.ft_undo.specs.declared.logs.LogRecord.{LogRecord}
use Rattle.ft_undo.specs.Logs.{is_open, AreLists, AreOpen}
use Rattle.ft_forest.specs.declared.state.State.{State as Life}
use Rattle.ft_forest.specs.declared.state.State.TheVariants.{Committed as CommittedState}
use Rattle.ft_forest.specs.Transactions.{Transactions, parent_in, state_in, IsLiveChild, HasEnded}
use Rattle.ft_lock_rules.specs.Locks.{LockTable, has_lock, is_opened}
use Rattle.ft_lock_rules.specs.Rules.{is_strict}
use Rattle.ft_lock_rules.specs.Surveys.{HasNoHolderAbove}
use Rattle.ft_lock_rules.specs.Law.{AreLocksOf}
use Rattle.ft_lock_rules.specs.Locks.{may_be_useless}
use Rattle.ft_history.specs.Forest.{is_some_and}
use Rattle.ft_history.specs.History.{Base as HistoryBase, Fate, fate, IsLive, parent, last_stamp}
use Rattle.ft_history.specs.History.Fate.{Live, Committed}
use Rattle.ft_history.specs.History.Event.{Commit as WasCommitted}
use Rattle.ft_history.specs.Core.{IsCore}
use Rattle.ft_history.specs.Legal.{Legal, MayCommit}
use Rattle.ft_history.specs.Logs.{put, handed}
use Rattle.ft_history.specs.Undoing.{last_sub}
use Rattle.ft_history.proofs.Fates.{fate_rules}
use Rattle.ft_history.proofs.Methods.{core_committed}
use Rattle.ft_history.proofs.Words.{by_number, put_same, put_other, In-handed}
use Rattle.ft_history.proofs.History.{Sound}
use Rattle.ft_laws.proofs.Tests.{by_test}
use Rattle.ft_core.specs.declared.request.Event.TheVariants.{Commit}
use Rattle.ft_core.specs.Handing.{AreHandedUp, MayHandUp}
use Rattle.ft_core.specs.Histories.{History}
use Rattle.ft_core.specs.States.{Base, Asks, fate_in}
use Rattle.ft_core.specs.Journals.{Journaled, with_event, without, with_sub, noted_up, IsNoted}
use Rattle.ft_core.specs.Kept.{Item, AreLogged, IsCoreAt}
use Rattle.ft_core.specs.Laws.{CallLaws, LockLaws}
use Rattle.ft_core.proofs.Accounts.{still-accounted}
use Rattle.ft_core.proofs.Allowing.{still-within, happened}
use Rattle.ft_core.proofs.Children.{no-child}
use Rattle.ft_core.proofs.Ends.{named, kept-ending}
use Rattle.ft_core.proofs.Joining.{start, values, past}
use Rattle.ft_core.proofs.Noted.{inserted-same, inserted-other, removed-same, removed-other, opened-other, open-other}

fate-put : (f : ℕ → Option Life) (g : ℕ → Option Fate) (n : ℕ) (x : ℕ) → fate_in (f x) ≡ g x → fate_in (put f n (Some CommittedState) x) ≡ put g n (Some Committed) x
fate-put f g n x same = by_test (x == n)
    (λ k. ap (λ b. fate_in (cond b (Some CommittedState) (f x))) k ∙ sym (ap (λ b. cond b (Some Committed) (g x)) k))
    (λ k. ap (λ b. fate_in (cond b (Some CommittedState) (f x))) k ∙ same ∙ sym (ap (λ b. cond b (Some Committed) (g x)) k))

-- one list behind another
pub logged-append : (es fs : List Item) (xs ys : List LogRecord) → AreLogged es xs → AreLogged fs ys → AreLogged (es ++ fs) (xs ++ ys)
logged-append [] fs [] ys h k = k
logged-append [] fs (x ∷ xs) ys h k = absurd h
logged-append (e ∷ es) fs [] ys h k = absurd h
logged-append (e ∷ es) fs (x ∷ xs) ys h k = (h.0, logged-append es fs xs ys h.1 k)

-- the lists of transactions when one list is set
pub logged-put : (log : ℕ → List Item) (lists : ℕ → List LogRecord) → ((t : ℕ) → AreLogged (log t) (lists t)) → (n : ℕ) (es : List Item) (xs : List LogRecord) → AreLogged es xs → (t : ℕ) → AreLogged (put log n es t) (put lists n xs t)
logged-put log lists same n es xs h t = by_test (t == n)
    (λ k. subst (λ b. AreLogged (cond b es (log t)) (cond b xs (lists t))) (sym k) h)
    (λ k. subst (λ b. AreLogged (cond b es (log t)) (cond b xs (lists t))) (sym k) (same t))

logged-handed : (log : ℕ → List Item) (lists : ℕ → List LogRecord) → ((t : ℕ) → AreLogged (log t) (lists t)) → (n : ℕ) (up : Option ℕ) (t : ℕ) → AreLogged (handed log n up t) (handed lists n up t)
logged-handed log lists same n None = logged-put log lists same n [] [] tt
logged-handed log lists same n (Some p) =
    logged-put (put log p (log n ++ log p)) (put lists p (lists n ++ lists p))
    (logged-put log lists same p (log n ++ log p) (lists n ++ lists p) (logged-append (log n) (log p) (lists n) (lists p) (same n) (same p))) n [] [] tt

pub handed-opened : (old new : LockTable) (n : ℕ) (up : Option ℕ) → AreHandedUp old new n up → (t : ℕ) → t ≢ n → is_opened old t ≡ true → is_opened new t ≡ true
handed-opened old new n None h = opened-other old new n h.freed.opened
handed-opened old new n (Some p) h = opened-other old new n h.opened

module _ (W : CallLaws) (K : LockLaws) {base : Base} {h : History} {asks : Asks} {last_txn last_number : ℕ} {cells : Cells} {forest : Transactions} {table : LockTable} {lists : Lists LogRecord} {j : Journaled} (core : IsCoreAt base h asks last_txn last_number cells forest table lists j) (t : ℕ) (live : IsLive posix_calls base.last_txn h t) (no_live : (x : ℕ) → IsLiveChild forest t x → ⊥) where
  abbrev from : HistoryBase posix_calls
  from = start W core.kept

  abbrev after : History
  after = WasCommitted t ∷ h

  may : MayCommit posix_calls base.last_txn h t
  may = record { live = live; no_child = no-child W core t no_live }

  legal : Legal posix_calls from after
  legal = (may, core.kept.core.legal)

  fates : (x : ℕ) → fate posix_calls base.last_txn after x ≡ put (fate posix_calls base.last_txn h) t (Some Committed) x
  fates = fate_rules posix_calls W.lawful from (values W core.kept) h (WasCommitted t) legal

  committed : Some Committed ≡ Some Live → ⊥
  committed e = cc

  was-live : (x : ℕ) → IsLive posix_calls base.last_txn after x → IsLive posix_calls base.last_txn h x × (x ≢ t)
  was-live x now = by_number x t
      (λ is. absurd (committed (sym (fates x ∙ put_same (fate posix_calls base.last_txn h) t (Some Committed) x is) ∙ now)))
      (λ ne. (sym (fates x ∙ put_other (fate posix_calls base.last_txn h) t (Some Committed) x ne) ∙ now, ne))

  still-live : (x : ℕ) → x ≢ t → IsLive posix_calls base.last_txn h x → IsLive posix_calls base.last_txn after x
  still-live x ne was = fates x ∙ put_other (fate posix_calls base.last_txn h) t (Some Committed) x ne ∙ was

  -- a parent is another, and is live
  pub up-live : (p : ℕ) → parent posix_calls h t ≡ Some p → IsLive posix_calls base.last_txn h p × (t ≢ p)
  up-live p up =
      let sound : Sound posix_calls W.lawful from h = past W core.kept in
      let lower = sound.forest t p up in
      (sound.live_up t p live up, λ is. let same : t ≡ p = is in absurd (omega arith))

  locks : (up : Option ℕ) → parent posix_calls h t ≡ up → (table' : LockTable) → AreHandedUp table table' t up → AreLocksOf after table'
  locks None is table' h' = K.commit.top from (values W core.kept) h table core.locks t table' legal is h'
  locks (Some p) is table' h' = K.commit.under from (values W core.kept) h table core.locks t p table' legal is h'

  no_holder : (up : Option ℕ) → parent posix_calls h t ≡ up → (table' : LockTable) → AreHandedUp table table' t up → HasNoHolderAbove table forest → HasNoHolderAbove table' forest
  no_holder None is table' h' = K.holders.fewer table table' (λ l e. (and_parts (not (l.owner == t)) (has_lock table l) (sym (h'.freed.lines l) ∙ e)).1) forest forest (λ x. refl)
  no_holder (Some p) is table' h' = K.holders.inherited from (values W core.kept) h table core.locks core.kept.core.legal forest core.transactions.parents t p is table' h'

  -- what may have been without use before may be so afterwards
  knows : (up : Option ℕ) → parent posix_calls h t ≡ up → (table' : LockTable) → AreHandedUp table table' t up → (c : Cell) → may_be_useless table c ≡ true → may_be_useless table' c ≡ true
  knows None is table' h' = K.known.released table table' t h'
  knows (Some p) is table' h' = K.known.inherited table table' t p (up-live p is).1 h'

  -- what is noted of the parent's children
  subs : (up : Option ℕ) → parent posix_calls h t ≡ up → j.last_stamp ≡ last_number → (x : ℕ) → IsLive posix_calls base.last_txn h x → x ≢ t
      → finite.get (without (noted_up j up) t).subs x ≡ Some (last_sub posix_calls base.last_stamp after x)
  subs None is last x was ne =
      removed-other j.subs t x ne ∙ (core.ready x was).sub
      ∙ ap Some (sym (ap (λ o. cond (is_some_and o (λ p. p == x)) (Some (last_stamp posix_calls base.last_stamp h)) (last_sub posix_calls base.last_stamp h x)) is))
  subs (Some p) is last x was ne =
      removed-other (with_sub j p).subs t x ne ∙ by_number x p
      (λ same.
      inserted-same j.subs p (Some j.last_stamp) x same ∙ ap (λ n. Some (Some n)) (last ∙ core.kept.started.last_stamp_is)
      ∙ ap Some (sym (told same)))
      (λ other.
      inserted-other j.subs p (Some j.last_stamp) x other ∙ (core.ready x was).sub
      ∙ ap Some (sym (ap (λ o. cond (is_some_and o (λ q. q == x)) (Some (last_stamp posix_calls base.last_stamp h)) (last_sub posix_calls base.last_stamp h x)) is
      ∙ ap (λ b. cond b (Some (last_stamp posix_calls base.last_stamp h)) (last_sub posix_calls base.last_stamp h x)) (ne_eqb p x (λ e. other (sym e))))))
    where
      told : x ≡ p → last_sub posix_calls base.last_stamp after x ≡ Some (last_stamp posix_calls base.last_stamp h)
      told same =
          ap (λ o. cond (is_some_and o (λ q. q == x)) (Some (last_stamp posix_calls base.last_stamp h)) (last_sub posix_calls base.last_stamp h x)) is
          ∙ ap (λ b. cond b (Some (last_stamp posix_calls base.last_stamp h)) (last_sub posix_calls base.last_stamp h x)) (eq-eqb p x (sym same))

  rule-noted : (up : Option ℕ) → (noted_up j up).rule ≡ j.rule
  rule-noted None = refl
  rule-noted (Some p) = refl

  calls-noted : (up : Option ℕ) → (noted_up j up).calls ≡ j.calls
  calls-noted None = refl
  calls-noted (Some p) = refl

  pub core-commit : j.last_stamp ≡ last_number → (up : Option ℕ) → up ≡ parent_in forest t → (forest' : Transactions) → HasEnded forest forest' t CommittedState → (table' : LockTable) → AreHandedUp table table' t up
      → (lists' : Lists LogRecord) → AreLists lists' (handed (list_in lists) t up) → AreOpen lists' (put (is_open lists) t false) → (j' : Journaled) → j' ≡ with_event (without (noted_up j up) t) (Commit t)
      → IsCoreAt base after (finite.remove asks t) last_txn last_number cells forest' table' lists' j'
  core-commit last up up_is forest' has table' handed_up lists' are opened j' is =
      let parent_is : parent posix_calls h t ≡ up = sym (up_is ∙ core.transactions.parents t) in
      record {
        log = handed core.log t up;
        kept = kept-ending W core.kept (WasCommitted t) (record { begun = refl; grants = refl; last_transaction = λ first. refl; last_stamp = λ first. refl }) cells (handed core.log t up)
            (subst (λ o. IsCore posix_calls from after core.kept.hidden cells (handed core.log t o)) parent_is
            (core_committed posix_calls W.lawful from (values W core.kept) h core.kept.hidden cells core.log core.kept.core t may))
            (named W core.kept);
        transactions = record {
          base_is = has.base ∙ core.transactions.base_is;
          last = has.last ∙ core.transactions.last;
          parents = λ x. has.parents x ∙ core.transactions.parents x;
          fates = λ x. ap fate_in (has.states x) ∙ fate-put (state_in forest) (fate posix_calls base.last_txn h) t x (core.transactions.fates x) ∙ sym (fates x);
        };
        locks = locks up parent_is table' handed_up;
        no_holder = λ strict.
            K.holders.fewer table' table' (λ l e. e) forest forest' has.parents
            (no_holder up parent_is table' handed_up (core.no_holder (sym (ap is_strict (ap (λ (q : Journaled). q.rule) is ∙ rule-noted up)) ∙ strict)));
        logs = record {
          logged = λ x. subst (AreLogged (handed core.log t up x)) (sym (are x)) (logged-handed core.log (list_in lists) core.logs.logged t up x);
          placed = λ x e i. let was = In-handed core.log t up x e i in core.logs.placed was.0 e was.1;
        };
        ready = λ x now.
            let was = was-live x now in
            let ready = core.ready x was.0 in
            record {
              locks = handed-opened table table' t up handed_up x was.1 ready.locks;
              log = open-other lists lists' t opened x was.1 ready.log;
              sub = ap (λ (q : Journaled). finite.get q.subs x) is ∙ subs up parent_is last x was.0 was.1;
            };
        waiting = λ x some. by_number x t
            (λ same. absurd (none (sym (ap is_some (removed-same asks t x same)) ∙ some)))
            (λ ne. still-live x ne (core.waiting x (sym (ap is_some (removed-other asks t x ne)) ∙ some)));
        accounted = still-accounted table table' cells (knows up parent_is table' handed_up) core.accounted;
        within = still-within base forest forest' j j' has.limits (ap (λ (q : Journaled). q.calls) is ∙ calls-noted up) core.within;
        bare = λ e. happened e;
      }
    where
      none : false ≡ true → ⊥
      none e = false≢true e

  -- and it may hand up what it has
  pub may-hand : (up : Option ℕ) → up ≡ parent_in forest t → MayHandUp table lists t up
  may-hand up is = by_parent up (is ∙ core.transactions.parents t)
    where
      by_parent : (up : Option ℕ) → up ≡ parent posix_calls h t → MayHandUp table lists t up
      by_parent None e = tt
      by_parent (Some p) e =
          let about = up-live p (sym e) in
          let ready = core.ready p about.0 in
          (about.1, ready.locks, ready.log)

  -- something is noted of its parent
  pub may-note : (up : Option ℕ) → up ≡ parent_in forest t → IsNoted j up
  may-note up is = by_parent up (is ∙ core.transactions.parents t)
    where
      some : {A : Type 0} (o : Option A) (x : A) → o ≡ Some x → IsSome o
      some o x e = ap is_some e

      by_parent : (up : Option ℕ) → up ≡ parent posix_calls h t → IsNoted j up
      by_parent None e = tt
      by_parent (Some p) e =
          let about = up-live p (sym e) in
          some (finite.get j.subs p) _ (core.ready p about.0).sub
