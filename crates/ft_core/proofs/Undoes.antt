-- What an undo comes upon, and what it does to what a core keeps.
use Rattle.std.proofs.Common.{◌≡◌, ◌<◌, ◌≤◌, ℕ, List, [], ◌∷◌, Option, Some, None, inl, inr, map, arith, refl, sym, ap, subst, ◌∙◌}
use Rattle.std.specs.Option.{option_map, option_flatten}
use Rattle.std.specs.FinMap as finite
use Rattle.ft_owned_lists.specs.OwnedLists.{Lists, list_in}
use Rattle.ft_laws.specs.Lists.{In}
use Rattle.ft_cells.specs.Cells.{Cells}
use Rattle.ft_tree.specs.Sound.{AreSoundCells}
use Rattle.ft_tree.specs.Sweep.{IsAccounted}
use Rattle.ft_posix.specs.Posix.{posix_calls}
use Rattle.ft_posix.specs.RunLaws.{HasNamedPlaces}
use Rattle.ft_posix.specs.Stored.{put_all}
use Rattle.ft_undo.specs.declared.logs.LogRecord.{LogRecord}
use Rattle.ft_undo.specs.Logs.{is_open, newest_of, AreLists, AreOpen}
use Rattle.ft_undo.specs.Undone.{given_back, CanGiveAllBack}
use Rattle.ft_forest.specs.Transactions.{Transactions, IsLiveChild}
use Rattle.ft_lock_rules.specs.Locks.{LockTable, is_kept, is_released}
use Rattle.ft_lock_rules.specs.Rules.{is_strict}
use Rattle.ft_history.specs.Core.{IsCore}
use Rattle.ft_history.specs.History.{Base as HistoryBase, IsLive}
use Rattle.ft_history.specs.History.Event.{Undo as WasUndone}
use Rattle.ft_history.specs.Ledger.{lists as lists_of}
use Rattle.ft_history.specs.Legal.{Legal}
use Rattle.ft_history.specs.Logs.{put}
use Rattle.ft_history.specs.Undoing.{MayUndo, last_sub, undo_target}
use Rattle.ft_history.specs.Undoing.Target.{Found, SubSince, Nothing}
use Rattle.ft_history.proofs.Losing.{LosesOwn, undo_loses}
use Rattle.ft_history.proofs.Methods.{core_undone}
use Rattle.ft_history.proofs.Targets.{target_by_stamps}
use Rattle.ft_history.proofs.Words.{by_list, by_number, put_same, put_other, same_some}
use Rattle.ft_core.specs.declared.request.Event.TheVariants.{Undo}
use Rattle.ft_core.specs.Histories.{History, Granted}
use Rattle.ft_core.specs.States.{Base, Asks}
use Rattle.ft_core.specs.declared.fault.Fault.TheVariants.{NothingToUndo, SubSince as SubSinceFault}
use Rattle.ft_core.specs.Steps.{fault_of_target}
use Rattle.ft_core.specs.Journals.{Journaled, with_event, sub_in}
use Rattle.ft_core.specs.Kept.{Item, ArePlaced, TakesBack, AreLogged, IsKept, IsCoreAt}
use Rattle.ft_core.specs.Laws.{CallLaws, LockLaws}
use Rattle.ft_core.proofs.Accounts.{reverted-accounted}
use Rattle.ft_core.proofs.Allowing.{still-within, happened}
use Rattle.ft_core.proofs.Commits.{logged-put}
use Rattle.ft_core.proofs.Children.{no-child}
use Rattle.ft_core.proofs.Ends.{named, kept-ending}
use Rattle.ft_core.proofs.Joining.{start, values}
use Rattle.ft_core.proofs.Owned.{written-kept}
use Rattle.ft_core.proofs.Reverting.{placed-stays, is_taken_back}

module _ (W : CallLaws) (K : LockLaws) {base : Base} {h : History} {asks : Asks} {last_txn last_number : ℕ} {cells : Cells} {forest : Transactions} {table : LockTable} {lists : Lists LogRecord} {j : Journaled} (core : IsCoreAt base h asks last_txn last_number cells forest table lists j) (t : ℕ) (live : IsLive posix_calls base.last_txn h t) where
  abbrev from : HistoryBase posix_calls
  from = start W core.kept

  -- the history's list and the logs' have the same newest
  pub record AreNewest (x : LogRecord) (xs : List LogRecord) : Type 0 where
    pub entry : Item
    pub rest : List Item
    pub log : core.log t ≡ entry ∷ rest
    pub takes : TakesBack entry x
    pub more : AreLogged rest xs
    pub listed : lists_of posix_calls h t ≡ entry.done ∷ map (λ (e : Item). e.done) rest

  newest : (x : LogRecord) (xs : List LogRecord) → list_in lists t ≡ x ∷ xs → AreNewest x xs
  newest x xs is =
      let logged : AreLogged (core.log t) (x ∷ xs) = subst (AreLogged (core.log t)) is (core.logs.logged t) in
      by_list (core.log t)
      (λ none. absurd (subst (λ es. AreLogged es (x ∷ xs)) none logged))
      (λ e es some.
      let both : TakesBack e x × AreLogged es xs = subst (λ fs. AreLogged fs (x ∷ xs)) some logged in
      record { entry = e; rest = es; log = some; takes = both.0; more = both.1; listed = sym (core.kept.core.listed t) ∙ ap (map (λ (e : Item). e.done)) some })

  unlisted : list_in lists t ≡ [] → lists_of posix_calls h t ≡ []
  unlisted is =
      let logged : AreLogged (core.log t) [] = subst (AreLogged (core.log t)) is (core.logs.logged t) in
      by_list (core.log t)
      (λ none. sym (core.kept.core.listed t) ∙ ap (map (λ (e : Item). e.done)) none)
      (λ e es some. absurd (subst (λ fs. AreLogged fs []) some logged))

  no_call : {A : Type 0} {x : A} {xs : List A} → [] ≡ x ∷ xs → ⊥
  no_call e = cc

  head : {A : Type 0} {x y : A} {xs ys : List A} → x ∷ xs ≡ y ∷ ys → x ≡ y
  head e = cc

  -- What an undo comes upon, by the newest of the list and the last commit of a child.

  pub target-found : (x : LogRecord) (xs : List LogRecord) → list_in lists t ≡ x ∷ xs → ((k : ℕ) → last_sub posix_calls base.last_stamp h t ≡ Some k → k < x.stamp) → (d : Granted) × (undo_target posix_calls h t ≡ Found d) × (d.call.stamp ≡ x.stamp)
  target-found x xs is later =
      let law = target_by_stamps posix_calls W.lawful from (values W core.kept) h core.kept.core.legal t live in
      let new = newest x xs is in
      let stamp = new.takes.stamp in
      (new.entry.done, law.found new.entry.done (map (λ (e : Item). e.done) new.rest) new.listed (λ k e. let lt = later k e in omega arith), sym stamp)

  pub target-since : (k : ℕ) → last_sub posix_calls base.last_stamp h t ≡ Some k → ((x : LogRecord) (xs : List LogRecord) → list_in lists t ≡ x ∷ xs → x.stamp ≤ k) → undo_target posix_calls h t ≡ SubSince
  target-since k e old =
      let law = target_by_stamps posix_calls W.lawful from (values W core.kept) h core.kept.core.legal t live in
      law.since k e (λ d ds listed. by_list (list_in lists t)
      (λ none. absurd (no_call (sym (unlisted none) ∙ listed)))
      (λ x xs is.
      let new = newest x xs is in
      let le = old x xs is in
      let stamp = new.takes.stamp in
      let same : new.entry.done.call.stamp ≡ d.call.stamp = ap (λ (c : Granted). c.call.stamp) (head (sym new.listed ∙ listed)) in
      omega arith))

  pub target-nothing : last_sub posix_calls base.last_stamp h t ≡ None → list_in lists t ≡ [] → undo_target posix_calls h t ≡ Nothing
  target-nothing e none =
      let law = target_by_stamps posix_calls W.lawful from (values W core.kept) h core.kept.core.legal t live in
      law.nothing e (unlisted none)

  -- The same of what is told of the list and of the last commit.

  pub mark-is : (m : Option ℕ) → m ≡ sub_in j t → m ≡ last_sub posix_calls base.last_stamp h t
  mark-is m e = e ∙ ap option_flatten (core.ready t live).sub

  pub told-nothing : (k m : Option ℕ) → k ≡ option_map (λ (x : LogRecord). x.stamp) (newest_of (list_in lists t)) → k ≡ None → m ≡ sub_in j t → m ≡ None → fault_of_target (undo_target posix_calls h t) ≡ Some NothingToUndo
  told-nothing k m first none mark no_mark = ap fault_of_target (target-nothing (sym (mark-is m mark) ∙ no_mark) (empty (list_in lists t) (sym first ∙ none)))
    where
      empty : (xs : List LogRecord) → option_map (λ (x : LogRecord). x.stamp) (newest_of xs) ≡ None → xs ≡ []
      empty [] e = refl
      empty (x ∷ xs) e = absurd (cc)

  stamped : (n : ℕ) (xs : List LogRecord) → option_map (λ (x : LogRecord). x.stamp) (newest_of xs) ≡ Some n → (x : LogRecord) × (ys : List LogRecord) × (xs ≡ x ∷ ys) × (x.stamp ≡ n)
  stamped n [] e = absurd (cc)
  stamped n (x ∷ xs) e = (x, xs, refl, same_some x.stamp n e)

  pub told-found : (k m : Option ℕ) (n : ℕ) → k ≡ option_map (λ (x : LogRecord). x.stamp) (newest_of (list_in lists t)) → k ≡ Some n → m ≡ sub_in j t → ((q : ℕ) → m ≡ Some q → q < n) → (d : Granted) × (undo_target posix_calls h t ≡ Found d) × (d.call.stamp ≡ n)
  told-found k m n first some mark later =
      let x = stamped n (list_in lists t) (sym first ∙ some) in
      let same = x.3 in
      let found = target-found x.0 x.1 x.2 (λ q e. let lt = later q (mark-is m mark ∙ e) in omega arith) in
      (found.0, found.1, found.2 ∙ x.3)

  pub told-since : (k m : Option ℕ) (q : ℕ) → k ≡ option_map (λ (x : LogRecord). x.stamp) (newest_of (list_in lists t)) → m ≡ sub_in j t → m ≡ Some q → ((n : ℕ) → k ≡ Some n → n ≤ q) → fault_of_target (undo_target posix_calls h t) ≡ Some SubSinceFault
  told-since k m q first mark some old = ap fault_of_target (target-since q (sym (mark-is m mark) ∙ some) (λ x xs e. old x.stamp (first ∙ ap (λ ys. option_map (λ (x : LogRecord). x.stamp) (newest_of ys)) e)))

  -- The newest of the list can be taken back, and then the core is that of the history with the
  -- undo.
  pub record Undoes (d : Granted) : Type 0 where
    pub newest : LogRecord
    pub rest : List LogRecord
    pub list : list_in lists t ≡ newest ∷ rest
    pub can : CanGiveAllBack cells newest.undo
    pub after : (cells' : Cells) → cells' ≡ put_all cells (map given_back newest.undo) → (lists' : Lists LogRecord) → AreLists lists' (put (list_in lists) t rest) → AreOpen lists' (is_open lists) → (j' : Journaled) → j' ≡ with_event j (Undo d.call.stamp)
        → IsCoreAt base (WasUndone d.call.stamp ∷ h) asks last_txn last_number cells' forest table lists' j'

  pub core-undo : ((x : ℕ) → IsLiveChild forest t x → ⊥) → (d : Granted) → undo_target posix_calls h t ≡ Found d → Undoes d
  core-undo no_live d found =
      let may : MayUndo posix_calls base.last_txn h t d = record { live = live; no_child = no-child W core t no_live; target = found } in
      let done = core_undone posix_calls W.lawful from (values W core.kept) h core.kept.hidden cells core.log core.kept.core t d may in
      let e : Item = record { done = d; inverse = done.0 } in
      let es : List Item = done.1 in
      let legal : Legal posix_calls from (WasUndone d.call.stamp ∷ h) = ((t, d, may, refl), core.kept.core.legal) in
      by_list (list_in lists t)
      (λ none. absurd (subst (λ fs. AreLogged fs []) done.2 (subst (AreLogged (core.log t)) none (core.logs.logged t))))
      (λ x xs is.
      let both : TakesBack e x × AreLogged es xs = subst (λ fs. AreLogged fs (x ∷ xs)) done.2 (subst (AreLogged (core.log t)) is (core.logs.logged t)) in
      let there : In e (core.log t) = subst (In e) (sym done.2) (inl refl) in
      let one = is_taken_back W.setting cells e x both.0 (core.logs.placed t e there) (named W core.kept) done.3 in
      record {
        newest = x;
        rest = xs;
        list = is;
        can = one.can;
        after = λ cells' made lists' are opened j' told.
            let reverted : cells' ≡ posix_calls.revert cells e.inverse = made ∙ one.made in
            let kept : IsKept base (WasUndone d.call.stamp ∷ h) last_txn last_number cells' (put core.log t es) = kept-ending W core.kept (WasUndone d.call.stamp) (record { begun = refl; grants = refl; last_transaction = λ first. refl; last_stamp = λ first. refl }) cells' (put core.log t es)
            (subst (λ s. IsCore posix_calls from (WasUndone d.call.stamp ∷ h) core.kept.hidden s (put core.log t es)) (sym reverted) done.4)
            (subst HasNamedPlaces (sym made) one.named) in
            let loses : LosesOwn posix_calls cells (posix_calls.revert cells e.inverse) d = undo_loses posix_calls W.lawful from (values W core.kept) h core.kept.hidden cells core.log core.kept.core t d may done.0 es done.2 in
            record {
              log = put core.log t es;
              kept = kept;
              transactions = record { base_is = core.transactions.base_is; last = core.transactions.last; parents = core.transactions.parents; fates = core.transactions.fates };
              locks = K.undo from (values W core.kept) h table core.locks d.call.stamp legal;
              no_holder = λ strict. core.no_holder (sym (ap (λ (q : Journaled). is_strict q.rule) told) ∙ strict);
              logs = record {
                logged = λ u. subst (AreLogged (put core.log t es u)) (sym (are u)) (logged-put core.log (list_in lists) core.logs.logged t es xs both.1 u);
                placed = λ u f i. subst (λ (s : Cells). ArePlaced s f) (sym made) (placed-stays cells (put_all cells (map given_back x.undo)) one.stay f (by_number u t
                    (λ same. core.logs.placed t f (subst (In f) (sym done.2) (inr (subst (In f) (put_same core.log t es u same) i))))
                    (λ ne. core.logs.placed u f (subst (In f) (put_other core.log t es u ne) i))));
              };
              ready = λ u now. let was = core.ready u now in record { locks = was.locks; log = opened u ∙ was.log; sub = ap (λ (q : Journaled). finite.get q.subs u) told ∙ was.sub };
              waiting = core.waiting;
              accounted = subst (IsAccounted (is_kept table) (is_released table)) (sym reverted)
                  (reverted-accounted W cells e (core.logs.placed t e there).own table (written-kept W K core t e there) loses (subst AreSoundCells reverted kept.sound) core.accounted);
              within = still-within base forest forest j j' refl (ap (λ (q : Journaled). q.calls) told) core.within;
              bare = λ f. happened f;
            };
      })
