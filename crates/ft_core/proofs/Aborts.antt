-- An abort on its way: each live transaction at or below it is taken back and ended, before its
-- parent.
use Rattle.std.proofs.Common.{◌≡◌, ◌≢◌, ◌≤◌, ◌+◌, ◌==◌, ◌&&◌, ◌||◌, ℕ, Bool, true, false, not, cond, List, [], ◌∷◌, Option, Some, None, is_some, inl, inr, length, arith, refl, sym, ap, subst, ◌∙◌, eq-eqb, ne_eqb}
use Rattle.std.proofs.lemmas.Bool.{false≢true, and_parts}
use Rattle.std.specs.Ordering.{nat_cmp}
use Rattle.std.specs.Cmp.{nat_cmp_total}
use Rattle.std.specs.declared.cmp.Ordering.TheVariants.{Equal}
use Rattle.std.specs.FinMap as finite
use Rattle.ft_owned_lists.specs.OwnedLists.{Lists, list_in}
use Rattle.ft_laws.specs.Lists.{In}
use Rattle.ft_laws.proofs.Tests.{by_test, by_option}
use Rattle.ft_cells.specs.declared.cell.Cell.{Cell}
use Rattle.ft_cells.specs.Cells.{Cells}
use Rattle.ft_tree.specs.Sweep.{IsAccounted}
use Rattle.ft_posix.specs.Posix.{posix_calls}
use Rattle.ft_posix.specs.RunLaws.{HasNamedPlaces, writes_cell}
use Rattle.ft_undo.specs.declared.logs.LogRecord.{LogRecord}
use Rattle.ft_undo.specs.Logs.{is_open, AreLists, AreOpen}
use Rattle.ft_forest.specs.declared.state.State.{State as Life}
use Rattle.ft_forest.specs.declared.state.State.TheVariants.{Live as LiveState, Committed as CommittedState, Aborted as AbortedState}
use Rattle.ft_forest.specs.Transactions.{Transactions, parent_in, state_in, over_in, is_live as is_live_in, HasEnded, HasAborted, IsAborting}
use Rattle.ft_lock_rules.specs.Locks.{LockTable, has_lock, is_kept, is_released, is_opened, AreReleased}
use Rattle.ft_lock_rules.specs.Law.{AreDropped}
use Rattle.ft_lock_rules.specs.Rules.{is_strict}
use Rattle.ft_history.specs.Forest.{above}
use Rattle.ft_history.specs.History.{Base as HistoryBase, Fate, fate, is_live, IsLive, parent, over, grants, standing, is_standing, newest_below}
use Rattle.ft_history.specs.History.Fate.{Aborted}
use Rattle.ft_history.specs.History.Event.{Abort as WasAborted}
use Rattle.ft_history.specs.Core.{IsCore}
use Rattle.ft_history.specs.Legal.{Legal}
use Rattle.ft_history.specs.Logs.{put, handed, emptied}
use Rattle.ft_history.specs.Promises.{calls_below}
use Rattle.ft_history.proofs.Fates.{fate_rules}
use Rattle.ft_history.proofs.Methods.{abort_first, core_aborted, ended_list}
use Rattle.ft_history.proofs.Promises.{abort_count, newest_first}
use Rattle.ft_history.proofs.Words.{by_number, put_same, put_other}
use Rattle.ft_core.specs.declared.request.Event.TheVariants.{Abort}
use Rattle.ft_core.specs.Histories.{History, told as told_of}
use Rattle.ft_core.specs.States.{Base, Asks, fate_in}
use Rattle.ft_core.specs.Journals.{Journaled, with_event, without, state_of}
use Rattle.ft_core.specs.Kept.{Item, ArePlaced, AreLogged, AreLogs, IsCoreAt, IsCoreOf}
use Rattle.ft_core.specs.Laws.{CallLaws, LockLaws}
use Rattle.ft_core.specs.Taking.{taken_back, CanTakeBack}
use Rattle.ft_core.proofs.Accounts.{still-accounted}
use Rattle.ft_core.proofs.Counts.{fewer-pass}
use Rattle.ft_core.proofs.Allowing.{still-within, happened}
use Rattle.ft_core.proofs.Ends.{named, kept-ending, same-live, live-in, not-live-in, fate-live}
use Rattle.ft_core.proofs.Joining.{start, values}
use Rattle.ft_core.proofs.Lists.{IsTaking, IsListTaken, list-taken}
use Rattle.ft_core.proofs.Noted.{removed-same, removed-other, opened-other, open-other}
use Rattle.ft_core.proofs.Owned.{write_line, has-lock}
use Rattle.ft_core.proofs.Reverting.{placed-stays}
use Rattle.ft_core.proofs.Gathered.{parts}

module _ (W : CallLaws) (K : LockLaws) {base : Base} {h : History} {asks : Asks} {last_txn last_number : ℕ} {cells₀ : Cells} {forest₀ : Transactions} {table₀ : LockTable} {lists₀ : Lists LogRecord} {j₀ : Journaled} (core : IsCoreAt base h asks last_txn last_number cells₀ forest₀ table₀ lists₀ j₀) (t : ℕ) (live : IsLive posix_calls base.last_txn h t) where
  abbrev from : HistoryBase posix_calls
  from = start W core.kept

  -- m calls are taken back, and the parts are now these
  pub record IsOnWay (m : ℕ) (cells : Cells) (forest : Transactions) (table : LockTable) (lists : Lists LogRecord) (j : Journaled) : Type 0 where
    pub log : ℕ → List Item
    pub taking : IsTaking W core.kept t m cells log
    pub logs : AreLogs cells log lists
    pub places : HasNamedPlaces cells
    pub forest_is : IsAborting forest₀ forest t
    -- who is not live has no list
    pub ended : (x : ℕ) → is_live_in (state_in forest x) ≡ false → log x ≡ []
    pub gone : ℕ → Bool
    pub gone_is : (x : ℕ) → IsLive posix_calls base.last_txn h x → gone x ≡ (over posix_calls h t x && not (is_live_in (state_in forest x)))
    pub dropped : AreDropped table₀ table gone
    pub opened : (x : ℕ) → state_in forest x ≡ Some LiveState → is_opened table x ≡ true
    pub listed : (x : ℕ) → state_in forest x ≡ Some LiveState → is_open lists x ≡ true
    pub subs : (x : ℕ) → state_in forest x ≡ Some LiveState → finite.get j.subs x ≡ finite.get j₀.subs x
    pub asks_live : (x : ℕ) → is_live_in (state_in forest x) ≡ true → finite.get j.asks x ≡ finite.get asks x
    pub asks_ended : (x : ℕ) → is_live_in (state_in forest x) ≡ false → finite.get j.asks x ≡ None
    pub journal : j ≡ record j₀ { asks = j.asks; subs = j.subs }
    -- whose turn has not come has its list
    pub waits : (x : ℕ) → state_in forest x ≡ Some LiveState → log x ≡ core.log x
    pub accounted : IsAccounted (is_kept table) (is_released table) cells

  over-is : (forest : Transactions) → ((x : ℕ) → parent_in forest x ≡ parent posix_calls h x) → (x y : ℕ) → over_in forest x y ≡ over posix_calls h x y
  over-is forest parents x y = ap (λ (f : ℕ → Option ℕ). above f x y) (λ i z. parents z i)

  fate-of : (x : ℕ) → is_live (fate posix_calls base.last_txn h x) ≡ is_live_in (state_in forest₀ x)
  fate-of x = ap is_live (sym (core.transactions.fates x)) ∙ same-live (state_in forest₀ x)

  live-of : (x : ℕ) → state_in forest₀ x ≡ Some LiveState → IsLive posix_calls base.last_txn h x
  live-of x e = sym (core.transactions.fates x) ∙ ap fate_in e

  pub first : j₀.asks ≡ asks → IsOnWay 0 cells₀ forest₀ table₀ lists₀ j₀
  first same = record {
    log = core.log;
    taking = abort_first posix_calls W.lawful from (values W core.kept) h core.kept.hidden cells₀ core.log core.kept.core t;
    logs = core.logs;
    places = named W core.kept;
    forest_is = record { limits = refl; base = refl; last = refl; parents = λ x. refl; states = λ x. inl refl };
    ended = λ x e. ended_list posix_calls W.lawful from (values W core.kept) h core.kept.hidden cells₀ core.log core.kept.core x
        (λ now. false≢true (sym e ∙ sym (fate-of x) ∙ ap is_live now));
    gone = λ x. false;
    gone_is = λ x now. sym (none (over posix_calls h t x) (is_live_in (state_in forest₀ x)) (sym (fate-of x) ∙ ap is_live now));
    dropped = λ l. refl;
    opened = λ x e. (core.ready x (live-of x e)).locks;
    listed = λ x e. (core.ready x (live-of x e)).log;
    subs = λ x e. refl;
    asks_live = λ x e. ap (λ (a : Asks). finite.get a x) same;
    asks_ended = λ x e. ap (λ (a : Asks). finite.get a x) same ∙ no-ask (finite.get asks x) (λ some. false≢true (sym e ∙ sym (fate-of x) ∙ ap is_live (core.waiting x some)));
    journal = refl;
    waits = λ x e. refl;
    accounted = core.accounted;
  }
    where
      none : (a b : Bool) → b ≡ true → (a && not b) ≡ false
      none true true e = refl
      none true false e = absurd (false≢true e)
      none false b e = refl

      no-ask : {A : Type 0} (o : Option A) → (is_some o ≡ true → ⊥) → o ≡ None
      no-ask None never = refl
      no-ask (Some x) never = absurd (never refl)

  module _ {m : ℕ} {cells : Cells} {forest : Transactions} {table : LockTable} {lists : Lists LogRecord} {j : Journaled} (way : IsOnWay m cells forest table lists j) where
    parents : (x : ℕ) → parent_in forest x ≡ parent posix_calls h x
    parents x = way.forest_is.parents x ∙ core.transactions.parents x

    pub was-live : (x : ℕ) → state_in forest x ≡ Some LiveState → IsLive posix_calls base.last_txn h x
    was-live x e = elim (way.forest_is.states x) [
      | inl same ↦ live-of x (sym same ∙ e)
      | inr aborted ↦ absurd (other (sym aborted.2 ∙ e))
    ]
      where
        other : Some AbortedState ≡ Some LiveState → ⊥
        other e = cc

    pub below-is : (x : ℕ) → over_in forest t x ≡ true → over posix_calls h t x ≡ true
    below-is x below = sym (over-is forest parents t x) ∙ below

    pub below-back : (x : ℕ) → over posix_calls h t x ≡ true → over_in forest t x ≡ true
    below-back x below = over-is forest parents t x ∙ below

    -- what the calls of a transaction wrote whose turn has not come is kept still
    still-kept : (x : ℕ) → state_in forest x ≡ Some LiveState → (e : Item) → In e (way.log x) → (c : Cell) → writes_cell e.done.accesses c ≡ true → is_kept table c ≡ true
    still-kept x live_x e i c writes =
        let lock = has-lock W K core x e (subst (In e) (way.waits x live_x) i) c writes in
        let l = write_line x c lock.0 in
        let stays : way.gone x ≡ false = way.gone_is x (was-live x live_x) ∙ ap (λ o. over posix_calls h t x && not (is_live_in o)) live_x ∙ none (over posix_calls h t x) in
        K.known.written table l (way.dropped l ∙ (λ k. not (stays k) && lock.1 k)) refl
      where
        none : (b : Bool) → (b && not true) ≡ false
        none true = refl
        none false = refl

    -- no more inverses are put than calls stand
    pub few : m ≤ last_number
    few =
        let count = way.taking.drained.count in
        let stood = fewer-pass (is_standing posix_calls h) (grants posix_calls h) in
        let all = core.kept.started.stamped in
        omega arith

    module _ (next : ℕ) (under : over_in forest t next ≡ true) (is_live : state_in forest next ≡ Some LiveState) (lowest : (x : ℕ) → over_in forest next x ≡ true → state_in forest x ≡ Some LiveState → x ≡ next) where
      one : IsListTaken W core.kept table t next m cells way.log (list_in lists next)
      one = list-taken W core.kept table t next (sym (over-is forest parents t next) ∙ under) (list_in lists next) m cells way.log (way.logs.logged next)
          (λ y a ne. way.ended y (not-live-in (state_in forest y) (λ now. ne (lowest y (over-is forest parents next y ∙ a) now))))
          (way.logs.placed next) (still-kept next is_live) way.places way.accounted way.taking

      -- its list can be taken back,
      pub can-take : CanTakeBack (list_in lists next) cells
      can-take = one.can

      pub few-more : m + length (list_in lists next) ≤ last_number
      few-more =
          let count = one.taking.drained.count in
          let stood = fewer-pass (is_standing posix_calls h) (grants posix_calls h) in
          let all = core.kept.started.stamped in
          omega arith

      -- and then the abort has gone on
      module _ (cells' : Cells) (made : cells' ≡ taken_back (list_in lists next) cells) (forest' : Transactions) (ended : HasEnded forest forest' next AbortedState) (forest_is' : IsAborting forest₀ forest' t)
          (table' : LockTable) (released : AreReleased table table' next) (lists' : Lists LogRecord) (are : AreLists lists' (put (list_in lists) next [])) (open' : AreOpen lists' (put (is_open lists) next false)) (j' : Journaled) (told : j' ≡ without j next) where
        state-next : is_live_in (state_in forest' next) ≡ false
        state-next = ap is_live_in (ended.states next ∙ put_same (state_in forest) next (Some AbortedState) next refl)

        state-other : (x : ℕ) → x ≢ next → state_in forest' x ≡ state_in forest x
        state-other x ne = ended.states x ∙ put_other (state_in forest) next (Some AbortedState) x ne

        still : (x : ℕ) → is_live_in (state_in forest' x) ≡ true → x ≢ next
        still x e is = false≢true (sym state-next ∙ sym (ap (λ y. is_live_in (state_in forest' y)) is) ∙ e)

        still-state : (x : ℕ) → state_in forest' x ≡ Some LiveState → (x ≢ next) × (state_in forest x ≡ Some LiveState)
        still-state x e = let ne = still x (ap is_live_in e) in (ne, sym (state-other x ne) ∙ e)

        pub go-on : IsOnWay (m + length (list_in lists next)) cells' forest' table' lists' j'
        go-on = record {
          log = one.left;
          taking = subst (λ s. IsTaking W core.kept t (m + length (list_in lists next)) s one.left) (sym made) one.taking;
          logs = record {
            logged = λ u. subst (AreLogged (one.left u)) (sym (are u)) (by_number u next
                (λ is. subst (λ es. AreLogged es (put (list_in lists) next [] u)) (sym (ap one.left is ∙ one.empty)) (subst (AreLogged []) (sym (put_same (list_in lists) next [] u is)) tt))
                (λ ne. subst (λ es. AreLogged es (put (list_in lists) next [] u)) (sym (one.others u ne)) (subst (AreLogged (way.log u)) (sym (put_other (list_in lists) next [] u ne)) (way.logs.logged u))));
            placed = λ u e i. by_number u next
                (λ is. absurd (subst (In e) (ap one.left is ∙ one.empty) i))
                (λ ne. subst (λ (s : Cells). ArePlaced s e) (sym made) (placed-stays cells (taken_back (list_in lists next) cells) one.stay e (way.logs.placed u e (subst (In e) (one.others u ne) i))));
          };
          places = subst HasNamedPlaces (sym made) one.named;
          forest_is = forest_is';
          ended = λ x e. by_number x next (λ is. ap one.left is ∙ one.empty) (λ ne. one.others x ne ∙ way.ended x (sym (ap is_live_in (state-other x ne)) ∙ e));
          gone = λ x. (x == next) || way.gone x;
          gone_is = λ x now. by_number x next
              (λ is.
              ap (λ b. b || way.gone x) (eq-eqb x next is)
              ∙ sym (both (over posix_calls h t x) (is_live_in (state_in forest' x)) (ap (over posix_calls h t) is ∙ sym (over-is forest parents t next) ∙ under) (ap (λ y. is_live_in (state_in forest' y)) is ∙ state-next)))
              (λ ne. ap (λ b. b || way.gone x) (ne_eqb x next ne) ∙ way.gone_is x now ∙ ap (λ o. over posix_calls h t x && not (is_live_in o)) (sym (state-other x ne)));
          dropped = K.release table₀ table table' way.gone next way.dropped released;
          opened = λ x e. let was = still-state x e in opened-other table table' next released.freed.opened x was.0 (way.opened x was.1);
          listed = λ x e. let was = still-state x e in open-other lists lists' next open' x was.0 (way.listed x was.1);
          subs = λ x e. let was = still-state x e in ap (λ (q : Journaled). finite.get q.subs x) told ∙ removed-other j.subs next x was.0 ∙ way.subs x was.1;
          asks_live = λ x e. let ne = still x e in ap (λ (q : Journaled). finite.get q.asks x) told ∙ removed-other j.asks next x ne ∙ way.asks_live x (sym (ap is_live_in (state-other x ne)) ∙ e);
          asks_ended = λ x e. ap (λ (q : Journaled). finite.get q.asks x) told ∙ by_number x next
              (λ is. removed-same j.asks next x is)
              (λ ne. removed-other j.asks next x ne ∙ way.asks_ended x (sym (ap is_live_in (state-other x ne)) ∙ e));
          journal = shape told way.journal;
          waits = λ x e. let was = still-state x e in one.others x was.0 ∙ way.waits x was.1;
          accounted = subst (IsAccounted (is_kept table') (is_released table')) (sym made) (still-accounted table table' (taken_back (list_in lists next) cells) (K.known.released table table' next released) one.accounted);
        }
          where
            both : (a b : Bool) → a ≡ true → b ≡ false → (a && not b) ≡ true
            both a b e f = λ i. e i && not (f i)

            shape : j' ≡ without j next → j ≡ record j₀ { asks = j.asks; subs = j.subs } → j' ≡ record j₀ { asks = j'.asks; subs = j'.subs }
            shape a b = a ∙ (λ i. without (b i) next) ∙ (λ i. record j₀ { asks = (sym a i).asks; subs = (sym a i).subs })

    -- nothing at or below t is live any more
    module _ (done : HasAborted forest₀ forest t) (none : (x : ℕ) → over_in forest t x ≡ true → state_in forest x ≢ Some LiveState) where
      abbrev after : History
      after = WasAborted t ∷ h

      legal : Legal posix_calls from after
      legal = (live, core.kept.core.legal)

      fates : (x : ℕ) → fate posix_calls base.last_txn after x ≡ cond (over posix_calls h t x && is_live (fate posix_calls base.last_txn h x)) (Some Aborted) (fate posix_calls base.last_txn h x)
      fates = fate_rules posix_calls W.lawful from (values W core.kept) h (WasAborted t) legal

      below : (x : ℕ) → over posix_calls h t x ≡ true → is_live_in (state_in forest x) ≡ false
      below x a = not-live-in (state_in forest x) (none x (over-is forest parents t x ∙ a))

      fates-are : (x : ℕ) → fate_in (state_in forest x) ≡ fate posix_calls base.last_txn after x
      fates-are x = ap fate_in (done.states x) ∙ one (over_in forest₀ t x) (over posix_calls h t x) (state_in forest₀ x) (fate posix_calls base.last_txn h x) (over-is forest₀ core.transactions.parents t x) (core.transactions.fates x) ∙ sym (fates x)
        where
          one : (a b : Bool) (o : Option Life) (f : Option Fate) → a ≡ b → fate_in o ≡ f → fate_in (cond (a && is_live_in o) (Some AbortedState) o) ≡ cond (b && is_live f) (Some Aborted) f
          one a b o f e is = turned a o ∙ (λ i. cond (e i && is_live (is i)) (Some Aborted) (is i))
            where
              turned : (a : Bool) (o : Option Life) → fate_in (cond (a && is_live_in o) (Some AbortedState) o) ≡ cond (a && is_live (fate_in o)) (Some Aborted) (fate_in o)
              turned true None = refl
              turned true (Some LiveState) = refl
              turned true (Some CommittedState) = refl
              turned true (Some AbortedState) = refl
              turned false o = refl

      now-live : (x : ℕ) → IsLive posix_calls base.last_txn after x → state_in forest x ≡ Some LiveState
      now-live x now = fate-live (state_in forest x) (fates-are x ∙ now)

      empty : (x : ℕ) → over posix_calls h t x ≡ true → way.log x ≡ []
      empty x a = way.ended x (below x a)

      -- the asks of those at or below t are gone
      pub asks-are : j.asks ≡ finite.retain_keys asks (λ u. not (over posix_calls h t u))
      asks-are = finite.same_map nat_cmp_total finite.nat_cmp-IsAntisymmetric j.asks (finite.retain_keys asks (λ u. not (over posix_calls h t u))) (λ x.
          each x ∙ sym (finite.get-retain_keys asks (λ u. not (over posix_calls h t u)) x (λ y e. ap (λ u. not (over posix_calls h t u)) (sym (tied x y e)))))
        where
          tied : (x y : ℕ) → nat_cmp x y ≡ Equal → x ≡ y
          tied x y e = finite.nat_cmp-IsAntisymmetric x y e

          waits : (x : ℕ) → is_live_in (state_in forest x) ≡ false → over posix_calls h t x ≡ false → None ≡ finite.get asks x
          waits x e out = by_option (finite.get asks x)
              (λ k. sym k)
              (λ c k.
              let was = core.waiting x (ap is_some k) in
              absurd (false≢true (sym e ∙ sym (same-live (state_in forest x)) ∙ ap is_live (fates-are x ∙ fates x ∙ ap (λ b. cond (b && is_live (fate posix_calls base.last_txn h x)) (Some Aborted) (fate posix_calls base.last_txn h x)) out ∙ was))))

          each : (x : ℕ) → finite.get j.asks x ≡ cond (not (over posix_calls h t x)) (finite.get asks x) None
          each x = by_test (over posix_calls h t x)
              (λ a. way.asks_ended x (below x a) ∙ sym (ap (λ b. cond (not b) (finite.get asks x) None) a))
              (λ out. by_test (is_live_in (state_in forest x))
              (λ e. way.asks_live x e)
              (λ e. way.asks_ended x e ∙ waits x e out)
              ∙ sym (ap (λ b. cond (not b) (finite.get asks x) None) out))

      ended : IsCore posix_calls from after core.kept.hidden cells way.log × (length (standing posix_calls after) + m ≡ length (standing posix_calls h)) × ((x : ℕ) → way.log x ≡ emptied (over posix_calls h) core.log t x)
      ended = core_aborted posix_calls W.lawful from (values W core.kept) h core.kept.hidden cells₀ core.log core.kept.core t m cells way.log live empty way.taking

      -- so many calls are taken away
      pub count-is : m ≡ calls_below posix_calls h t
      count-is =
          let order = newest_first posix_calls W.lawful from (values W core.kept) h core.kept.core.legal t in
          let calls = (abort_count posix_calls W.lawful from (values W core.kept) h core.kept.core.legal t (newest_below posix_calls h t) live order).calls in
          let went = ended.1 in
          omega (arith, calls, went)

      pub core-abort : (j' : Journaled) → j' ≡ with_event j (Abort t) → IsCoreAt base after j.asks last_txn last_number cells forest table lists j'
      core-abort j' told = record {
        log = way.log;
        kept = kept-ending W core.kept (WasAborted t) (record { begun = refl; grants = refl; last_transaction = λ first. refl; last_stamp = λ first. refl }) cells way.log ended.0 way.places;
        transactions = record {
          base_is = done.base ∙ core.transactions.base_is;
          last = done.last ∙ core.transactions.last;
          parents = parents;
          fates = fates-are;
        };
        locks = K.abort from (values W core.kept) h table₀ core.locks t way.gone table legal (λ y now. way.gone_is y now ∙ dead y) way.dropped;
        no_holder = λ strict.
            K.holders.fewer table₀ table (λ l e. (and_parts (not (way.gone l.owner)) (has_lock table₀ l) (sym (way.dropped l) ∙ e)).1) forest₀ forest done.parents
            (core.no_holder (sym (ap is_strict (ap (λ (q : Journaled). q.rule) told ∙ ap (λ (q : Journaled). q.rule) way.journal)) ∙ strict));
        logs = way.logs;
        ready = λ x now.
            let state = now-live x now in
            record {
              locks = way.opened x state;
              log = way.listed x state;
              sub = ap (λ (q : Journaled). finite.get q.subs x) told ∙ way.subs x state ∙ (core.ready x (was-live x state)).sub;
            };
        waiting = λ x some. by_test (is_live_in (state_in forest x))
            (λ e. sym (fates-are x) ∙ ap fate_in (live-in (state_in forest x) e))
            (λ e. absurd (false≢true (sym (ap is_some (way.asks_ended x e)) ∙ some)));
        accounted = way.accounted;
        within = still-within base forest₀ forest j₀ j' done.limits (ap (λ (q : Journaled). q.calls) told ∙ ap (λ (q : Journaled). q.calls) way.journal) core.within;
        bare = λ e. happened e;
      }
        where
          with_true : (b : Bool) → (b && not false) ≡ b
          with_true true = refl
          with_true false = refl

          dead : (y : ℕ) → (over posix_calls h t y && not (is_live_in (state_in forest y))) ≡ over posix_calls h t y
          dead y = by_test (over posix_calls h t y)
              (λ a. ap (λ b. over posix_calls h t y && not b) (below y a) ∙ with_true (over posix_calls h t y))
              (λ out. ap (λ b. b && not (is_live_in (state_in forest y))) out ∙ sym out)

-- a list that was emptied is closed
pub lists-closed : (lists middle new : Lists LogRecord) (n : ℕ) → AreLists middle (put (list_in lists) n []) → AreLists new (handed (list_in middle) n None) → AreLists new (put (list_in lists) n [])
lists-closed lists middle new n a b x = b x ∙ by_number x n
    (λ is. put_same (list_in middle) n [] x is ∙ sym (put_same (list_in lists) n [] x is))
    (λ ne. put_other (list_in middle) n [] x ne ∙ a x)

pub open-closed : (lists middle new : Lists LogRecord) (n : ℕ) → AreOpen middle (is_open lists) → AreOpen new (put (is_open middle) n false) → AreOpen new (put (is_open lists) n false)
open-closed lists middle new n a b x = b x ∙ ap (cond (x == n) false) (a x)

-- An abort of t in a core is on its way: m calls are taken back, and the core's parts are now
-- these.
abbrev pub IsAbortOf : Cells → Transactions → LockTable → Lists LogRecord → Journaled → ℕ → ℕ → Cells → Transactions → LockTable → Lists LogRecord → Journaled → Type 0
IsAbortOf cells₀ forest₀ table₀ lists₀ j₀ t m cells forest table lists j =
    (W : CallLaws) (K : LockLaws) (core : IsCoreOf (state_of forest₀ j₀) (parts cells₀ forest₀ table₀ lists₀) j₀) (live : IsLive posix_calls forest₀.base (told_of j₀.events) t)
    → IsOnWay W K core t live m cells forest table lists j
