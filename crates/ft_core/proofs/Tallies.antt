-- How many transactions an abort ends, and how many calls a transaction owns.
use Rattle.std.proofs.Common.{◌≡◌, ◌≢◌, ◌<◌, ◌≤◌, ◌+◌, ◌^◌, ◌==◌, ◌&&◌, ℕ, Bool, true, false, not, cond, List, [], ◌∷◌, Some, length, arith, refl, sym, ap, ◌∙◌, eq-eqb}
use Rattle.std.specs.Prelude.{nat_lt}
use Rattle.std.proofs.lemmas.Bool.{lt-ltb}
use Rattle.std.proofs.lemmas.List.{length-map}
use Rattle.ft_owned_lists.specs.OwnedLists.{Lists, list_in}
use Rattle.ft_laws.specs.Lists.{In}
use Rattle.ft_laws.proofs.Lists.{Each-map, Each-from, Pairs-map}
use Rattle.ft_laws.proofs.Tests.{by_test}
use Rattle.ft_cells.specs.Cells.{Cells}
use Rattle.ft_posix.specs.Posix.{posix_calls}
use Rattle.ft_undo.specs.declared.logs.LogRecord.{LogRecord}
use Rattle.ft_forest.specs.declared.state.State.TheVariants.{Live as LiveState, Aborted as AbortedState}
use Rattle.ft_forest.specs.Transactions.{Transactions, state_in, is_live as is_live_in, HasEnded}
use Rattle.ft_forest.proofs.Counting.{child-of}
use Rattle.ft_lock_rules.specs.Locks.{LockTable}
use Rattle.ft_history.specs.Forest.{is_some_and}
use Rattle.ft_history.specs.History.{number, last_transaction, begun, fate, is_live, IsLive, over, owner_of, grants, is_standing, standing}
use Rattle.ft_history.specs.Ledger.{lists as lists_of}
use Rattle.ft_history.specs.Logs.{passing}
use Rattle.ft_history.specs.Orders.{IsInFront}
use Rattle.ft_history.proofs.History.{Sound}
use Rattle.ft_history.proofs.Living.{lived}
use Rattle.ft_history.proofs.Words.{In-passing, passing-In, Pairs-passing, passing_twice, put_same, put_other}
use Rattle.ft_core.specs.Histories.{History, Granted}
use Rattle.ft_core.specs.Journals.{Journaled}
use Rattle.ft_core.specs.Kept.{Item, AreLogged, IsCoreAt}
use Rattle.ft_core.specs.Laws.{CallLaws}
use Rattle.ft_core.specs.States.{Base, Asks}
use Rattle.ft_core.proofs.Counts.{fewer-pass, none-passes, one-fewer, few-below, equally-long}
use Rattle.ft_core.proofs.Ends.{same-live, not-live-in}
use Rattle.ft_core.proofs.Joining.{start, past}

-- those at or below t that are live in these transactions
abbrev pub is_left : History → ℕ → Transactions → ℕ → Bool
is_left h t forest x = over posix_calls h t x && is_live_in (state_in forest x)

-- those that are not live, among so many numbers
abbrev pub has_ended : Transactions → ℕ → Bool
has_ended forest x = nat_lt x (2 ^ 64) && not (is_live_in (state_in forest x))

-- Of the old transactions n that were live at or below t are not any more.
pub record AreEnded (h : History) (t : ℕ) (old now : Transactions) (n : ℕ) : Type 0 where
  pub count : n + length (passing (is_left h t now) (begun posix_calls h)) ≡ length (passing (is_left h t old) (begun posix_calls h))
  -- each has a number of its own
  pub few : n ≤ length (passing (has_ended now) (begun posix_calls h))

pub none-ended : (h : History) (t : ℕ) (old : Transactions) → AreEnded h t old old 0
none-ended h t old = record { count = omega arith; few = omega arith }

module _ (W : CallLaws) {base : Base} {h : History} {asks : Asks} {last_txn last_number : ℕ} {cells : Cells} {forest : Transactions} {table : LockTable} {lists : Lists LogRecord} {j : Journaled} (core : IsCoreAt base h asks last_txn last_number cells forest table lists j) (t : ℕ) where
  sound : Sound posix_calls W.lawful (start W core.kept) h
  sound = past W core.kept

  -- A live transaction at or below t ends.
  module _ (now new : Transactions) (n next : ℕ) (under : over posix_calls h t next ≡ true) (is_live : state_in now next ≡ Some LiveState) (was_live : IsLive posix_calls base.last_txn h next) (low : next < 2 ^ 64) (ended : HasEnded now new next AbortedState) (so_far : AreEnded h t forest now n) where
    there : In next (begun posix_calls h)
    there = let about = lived posix_calls base.last_txn h next was_live in sound.numbers_all next about.since about.begun

    state-next : is_live_in (state_in new next) ≡ false
    state-next = ap is_live_in (ended.states next ∙ put_same (state_in now) next (Some AbortedState) next refl)

    state-other : (x : ℕ) → x ≢ next → is_live_in (state_in new x) ≡ is_live_in (state_in now x)
    state-other x ne = ap is_live_in (ended.states x ∙ put_other (state_in now) next (Some AbortedState) x ne)

    pub one-ended : AreEnded h t forest new (n + 1)
    one-ended = record {
      count =
          let less = one-fewer (is_left h t new) (is_left h t now) (λ x. x) (begun posix_calls h) next sound.numbers_rise there
          ((λ i. over posix_calls h t next && state-next i) ∙ with_false (over posix_calls h t next))
          (λ i. under i && ap is_live_in is_live i)
          (λ x ne. ap (λ b. over posix_calls h t x && b) (state-other x ne)) in
          let all = so_far.count in
          omega arith;
      few =
          let more = one-fewer (has_ended now) (has_ended new) (λ x. x) (begun posix_calls h) next sound.numbers_rise there
          ((λ i. nat_lt next (2 ^ 64) && not (ap is_live_in is_live i)) ∙ with_false (nat_lt next (2 ^ 64)))
          (λ i. lt-ltb next (2 ^ 64) low i && not (state-next i))
          (λ x ne. ap (λ b. nat_lt x (2 ^ 64) && not b) (sym (state-other x ne))) in
          let all = so_far.few in
          omega arith;
    }
      where
        with_false : (b : Bool) → (b && false) ≡ false
        with_false true = refl
        with_false false = refl

    pub few-ended : n + 1 < 2 ^ 64
    few-ended =
        let all = one-ended.few in
        let known = Each-map (λ x. (base.last_txn < x) × (x ≤ last_transaction posix_calls base.last_txn h)) (λ x. base.last_txn < x) (λ x k. k.0) (begun posix_calls h) sound.numbers_known in
        let most = few-below (λ x. not (is_live_in (state_in new x))) (begun posix_calls h) base.last_txn (2 ^ 64) sound.numbers_rise known in
        omega arith

  -- in the end all are counted
  pub all-ended : (now : Transactions) (n : ℕ) → AreEnded h t forest now n → ((x : ℕ) → over posix_calls h t x ≡ true → state_in now x ≢ Some LiveState)
      → n ≡ length (passing (over posix_calls h t) (passing (λ x. is_live (fate posix_calls base.last_txn h x)) (begun posix_calls h)))
  all-ended now n ended none =
      let no = none-passes (is_left h t now) (begun posix_calls h) (Each-from (λ x. is_left h t now x ≡ false) (begun posix_calls h) (λ x i. by_test (over posix_calls h t x)
      (λ k. (λ i. k i && not-live-in (state_in now x) (none x k) i))
      (λ k. ap (λ b. b && is_live_in (state_in now x)) k))) in
      let all = ended.count in
      let same = ap length (passing_twice (λ x. is_live (fate posix_calls base.last_txn h x)) (over posix_calls h t) (is_left h t forest) (begun posix_calls h)
      (Each-from (λ x. is_left h t forest x ≡ cond (is_live (fate posix_calls base.last_txn h x)) (over posix_calls h t x) false) (begun posix_calls h)
      (λ x i. turned (over posix_calls h t x) (is_live_in (state_in forest x)) ∙ ap (λ b. cond b (over posix_calls h t x) false) (sym (same-live (state_in forest x)) ∙ ap is_live (core.transactions.fates x))))) in
      omega arith
    where
      turned : (a b : Bool) → (a && b) ≡ cond b a false
      turned true true = refl
      turned true false = refl
      turned false true = refl
      turned false false = refl

  -- The list of a transaction is as long as it owns calls.

  as-long : (es : List Item) (xs : List LogRecord) → AreLogged es xs → length xs ≡ length es
  as-long [] [] h = refl
  as-long [] (x ∷ xs) h = absurd h
  as-long (e ∷ es) [] h = absurd h
  as-long (e ∷ es) (x ∷ xs) h = let ih = as-long es xs h.1 in omega arith

  abbrev is_own : Granted → Bool
  is_own c = is_some_and (owner_of posix_calls h c.asker) (λ o. o == t)

  pub owned-is : length (list_in lists t) ≡ length (passing is_own (standing posix_calls h))
  owned-is =
      let kept = sound.runs.kept in
      let logged = as-long (core.log t) (list_in lists t) (core.logs.logged t) in
      let mapped = length-map (core.log t) (λ (e : Item). e.done) in
      let listed = ap length (core.kept.core.listed t) in
      let same = equally-long (number posix_calls) (lists_of posix_calls h t) (passing is_own (standing posix_calls h))
      (Pairs-map (IsInFront posix_calls) (λ a b. number posix_calls a ≢ number posix_calls b) (λ a b f. f.0) (lists_of posix_calls h t) (kept.behind t))
      (Pairs-map (λ b a. number posix_calls b < number posix_calls a) (λ a b. number posix_calls a ≢ number posix_calls b) (λ a b lt. (λ e. absurd (omega arith))) (passing is_own (standing posix_calls h))
      (Pairs-passing (λ b a. number posix_calls b < number posix_calls a) is_own (standing posix_calls h) kept.rising))
      (λ c i. let own = kept.owned t c i in passing-In is_own c (standing posix_calls h) own.0 (ap (λ o. is_some_and o (λ x. x == t)) own.1 ∙ eq-eqb t t refl))
      (λ c i. let own = In-passing is_own c (standing posix_calls h) i in kept.logged t c own.0 (child-of (owner_of posix_calls h c.asker) t own.1)) in
      omega arith

  -- they are no more than stamps were given
  pub few-owned : length (list_in lists t) ≤ last_number
  few-owned =
      let same = owned-is in
      let own = fewer-pass is_own (standing posix_calls h) in
      let stood = fewer-pass (is_standing posix_calls h) (grants posix_calls h) in
      let all = core.kept.started.stamped in
      omega arith
