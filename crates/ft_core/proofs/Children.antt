-- The live children of a transaction, and that there is no live transaction at all.
use Rattle.std.proofs.Common.{◌≡◌, ℕ, Bool, true, false, cond, List, [], ◌∷◌, Option, Some, None, is_some, inl, inr, length, arith, refl, sym, ap, subst, ◌∙◌}
use Rattle.std.specs.Prelude.{nat_lt, MatchBool}
use Rattle.std.proofs.lemmas.Bool.{false≢true, cases_lt, lt-ltb, le-ltb}
use Rattle.ft_owned_lists.specs.OwnedLists.{Lists}
use Rattle.ft_laws.specs.Lists.{Each, In}
use Rattle.ft_laws.proofs.Tests.{by_test}
use Rattle.ft_cells.specs.Cells.{Cells}
use Rattle.ft_posix.specs.Posix.{posix_calls}
use Rattle.ft_undo.specs.declared.logs.LogRecord.{LogRecord}
use Rattle.ft_forest.specs.declared.state.State.TheVariants.{Live as LiveState}
use Rattle.ft_forest.specs.Transactions.{Transactions, state_in, live_children_in, IsLiveUnder, IsLiveChild, IsYoungestChild}
use Rattle.ft_lock_rules.specs.Locks.{LockTable}
use Rattle.ft_history.specs.History.{Base as HistoryBase, IsLive, parent, live_children}
use Rattle.ft_history.specs.Logs.{passing}
use Rattle.ft_history.proofs.Fates.{children}
use Rattle.ft_history.proofs.Forest.{climb}
use Rattle.ft_history.proofs.History.{Sound}
use Rattle.ft_history.proofs.Words.{by_list}
use Rattle.ft_core.specs.Histories.{History}
use Rattle.ft_core.specs.States.{Base, Asks, fate_in}
use Rattle.ft_core.specs.Journals.{Journaled}
use Rattle.ft_core.specs.Kept.{IsCoreAt}
use Rattle.ft_core.specs.Laws.{CallLaws}
use Rattle.ft_core.proofs.Counted.{child-counted, none-counted}
use Rattle.ft_core.proofs.Ends.{fate-live}
use Rattle.ft_core.proofs.Joining.{start, values, past}

nothing-passes : {A : Type 0} (p : A → Bool) (xs : List A) → Each (λ x. p x ≡ true → ⊥) xs → length (passing p xs) ≡ 0
nothing-passes p [] h = refl
nothing-passes p (x ∷ xs) h = by_test (p x)
    (λ k. absurd (h.0 k))
    (λ k. ap (λ b. length (cond b (x ∷ passing p xs) (passing p xs))) k ∙ nothing-passes p xs h.1)

module _ (W : CallLaws) {base : Base} {h : History} {asks : Asks} {last_txn last_number : ℕ} {cells : Cells} {forest : Transactions} {table : LockTable} {lists : Lists LogRecord} {j : Journaled} (core : IsCoreAt base h asks last_txn last_number cells forest table lists j) where
  abbrev from : HistoryBase posix_calls
  from = start W core.kept

  state-live : (x : ℕ) → IsLive posix_calls base.last_txn h x → state_in forest x ≡ Some LiveState
  state-live x now = fate-live (state_in forest x) (core.transactions.fates x ∙ now)

  -- the forest tells the live children
  pub no-child : (t : ℕ) → ((x : ℕ) → IsLiveChild forest t x → ⊥) → live_children posix_calls base.last_txn h t ≡ []
  no-child t none =
      let all = children posix_calls W.lawful from (values W core.kept) h core.kept.core.legal t in
      by_list (live_children posix_calls base.last_txn h t)
      (λ e. e)
      (λ y ys e.
      let is = (all.exact y).0 (subst (In y) (sym e) (inl refl)) in
      absurd (none y (record { child = core.transactions.parents y ∙ is.1; live = state-live y is.0 })))

  pub some-child : (t x : ℕ) → IsLiveChild forest t x → nat_lt 0 (length (live_children posix_calls base.last_txn h t)) ≡ true
  some-child t x is =
      let all = children posix_calls W.lawful from (values W core.kept) h core.kept.core.legal t in
      longer x (live_children posix_calls base.last_txn h t) ((all.exact x).1 (sym (core.transactions.fates x) ∙ ap fate_in is.live, sym (core.transactions.parents x) ∙ is.child))
    where
      longer : (x : ℕ) (xs : List ℕ) → In x xs → nat_lt 0 (length xs) ≡ true
      longer x [] i = absurd i
      longer x (y ∷ ys) i = lt-ltb 0 (length (y ∷ ys)) (omega arith)

  -- the forest counts some exactly if there are some
  pub child-same : (t : ℕ) → nat_lt 0 (live_children_in forest t) ≡ nat_lt 0 (length (live_children posix_calls base.last_txn h t))
  child-same t = elim (cases_lt 0 (live_children_in forest t)) [
    | inl lt ↦ let child = child-counted forest t lt in lt-ltb 0 (live_children_in forest t) lt ∙ sym (some-child t child.0 child.1)
    | inr ge ↦ let none : live_children_in forest t ≡ 0 = omega arith in le-ltb 0 (live_children_in forest t) ge ∙ sym (ap (λ xs. nat_lt 0 (length xs)) (no-child t (none-counted forest t none)))
  ]

  -- a top-level transaction that is live in the forest is live
  pub some-live : (x : ℕ) → IsLiveUnder forest None x → IsLive posix_calls base.last_txn h x
  some-live x is = sym (core.transactions.fates x) ∙ ap fate_in is.live

  -- Where no top-level transaction is live, none is, and no event is to come but a begin.
  module _ (none : (x : ℕ) → IsLiveUnder forest None x → ⊥) where
    sound : Sound posix_calls W.lawful from h
    sound = past W core.kept

    pub no-live : (x : ℕ) → IsLive posix_calls base.last_txn h x → ⊥
    no-live = climb (parent posix_calls h) sound.forest (λ x. IsLive posix_calls base.last_txn h x → ⊥)
        (λ x top now. none x (record { child = core.transactions.parents x ∙ top; live = state-live x now }))
        (λ x p up ih now. ih (sound.live_up x p now up))

pub none_of : (forest : Transactions) (o : Option ℕ) → is_some o ≡ false → IsYoungestChild forest None o → (x : ℕ) → IsLiveUnder forest None x → ⊥
none_of forest None e h = h
none_of forest (Some y) e h = absurd (false≢true (sym e))

-- whether some transaction is live, as the youngest at the top level tells
pub live_by_top : (Some-is : Type 0) (forest : Transactions) (o : Option ℕ) → IsYoungestChild forest None o
    → ((x : ℕ) → IsLiveUnder forest None x → Some-is) → (((x : ℕ) → IsLiveUnder forest None x → ⊥) → ¬ Some-is) → MatchBool (is_some o) Some-is (¬ Some-is)
live_by_top Some-is forest None h some none = none h
live_by_top Some-is forest (Some y) h some none = some y h.0
