-- Transactions are numbered one after another, and what each event does to them.
use Rattle.std.proofs.Common.{◌≡◌, ◌<◌, ◌≤◌, ℕ, Bool, true, false, cond, ◌||◌, ◌&&◌, Option, Some, None, List, [], ◌∷◌, sym, refl, ap, ◌∙◌, arith, ◌==◌, eq-eqb, ne_eqb}
use Rattle.std.specs.Prelude.{nat_lt, nat_le}
use Rattle.std.proofs.lemmas.Bool.{false≢true, and_parts, or_from, and_from, leb-true, le-leb, lt-ltb}
use Rattle.ft_laws.specs.Calls.{Calls}
use Rattle.ft_laws.specs.Laws.{Lawful}
use Rattle.ft_laws.proofs.Lists.{Each-at}
use Rattle.ft_laws.proofs.Tests.{by_option}
use Rattle.ft_history.specs.History.{Base, Event, last_transaction, begun, parent, over, is_committed, some_abort, is_gone}
use Rattle.ft_history.specs.History.Event.{Begin, Call, Undo, Commit, Abort}
use Rattle.ft_history.specs.Legal.{Legal, MayBegin}
use Rattle.ft_history.specs.History.{Fate, fate, is_live, is_child}
use Rattle.ft_history.specs.History.Fate.{Live, Committed, Aborted}
use Rattle.ft_history.proofs.Living.{lived, lives}
use Rattle.ft_history.proofs.Owning.{some_is}
use Rattle.ft_history.specs.Promises.{Numbered, LiveChildren, FateRules}
use Rattle.ft_history.proofs.Words.{put_same, put_other, by_number, same_test, In-passing, Pairs-passing}
use Rattle.ft_history.proofs.Forest.{above_root, above_child}
use Rattle.ft_history.proofs.History.{Sound, begin_forest, begin_over, begin_gone, child_listed}
use Rattle.ft_history.proofs.Legal.{sound_all}

module _ (C : Calls) (base : Base C) where
  abbrev last : List (Event C) → ℕ
  last = last_transaction C base.transaction

  -- what has a parent was begun
  child_known : (h : List (Event C)) → Legal C base h → (x p : ℕ) → parent C h x ≡ Some p → x ≤ last h
  child_known [] legal x p e = absurd (none e)
    where
      none : None ≡ Some p → ⊥
      none k = cc
  child_known (Begin n q ∷ h) legal x p e =
      let next = legal.0.next in
      by_number x n
      (λ is. omega arith)
      (λ ne. let le = child_known h legal.1 x p (sym (put_other (parent C h) n q x ne) ∙ e) in omega arith)
  child_known (Call c ∷ h) legal x p e = child_known h legal.1 x p e
  child_known (Undo k ∷ h) legal x p e = child_known h legal.1 x p e
  child_known (Commit t ∷ h) legal x p e = child_known h legal.1 x p e
  child_known (Abort t ∷ h) legal x p e = child_known h legal.1 x p e

  -- and so was what committed
  uncommitted_later : (h : List (Event C)) → Legal C base h → (x : ℕ) → last h < x → is_committed C h x ≡ false
  uncommitted_later [] legal x later = refl
  uncommitted_later (Begin n p ∷ h) legal x later = let next = legal.0.next in uncommitted_later h legal.1 x (omega arith)
  uncommitted_later (Call c ∷ h) legal x later = uncommitted_later h legal.1 x later
  uncommitted_later (Undo k ∷ h) legal x later = uncommitted_later h legal.1 x later
  uncommitted_later (Commit t ∷ h) legal x later = let le = (lived C base.transaction h t legal.0.live).begun in or_from (x == t) (is_committed C h x) (ne_eqb x t (λ e. absurd (omega arith))) (uncommitted_later h legal.1 x later)
  uncommitted_later (Abort t ∷ h) legal x later = uncommitted_later h legal.1 x later

  -- and what was aborted: where a test fails of all that was begun, no abort passes it
  no_abort : (h : List (Event C)) → Legal C base h → (p : ℕ → Bool) → ((u : ℕ) → u ≤ last h → p u ≡ false) → some_abort C h p ≡ false
  no_abort [] legal p fails = refl
  no_abort (Begin n up ∷ h) legal p fails = let next = legal.0.next in no_abort h legal.1 p (λ u le. fails u (omega arith))
  no_abort (Call c ∷ h) legal p fails = no_abort h legal.1 p fails
  no_abort (Undo k ∷ h) legal p fails = no_abort h legal.1 p fails
  no_abort (Commit t ∷ h) legal p fails = no_abort h legal.1 p fails
  no_abort (Abort t ∷ h) legal p fails = or_from (p t) (some_abort C h p) (fails t (lived C base.transaction h t legal.0).begun) (no_abort h legal.1 p fails)

  -- two tests that agree on all that was begun agree on some abort
  abort_agree : (h : List (Event C)) → Legal C base h → (p q : ℕ → Bool) → ((u : ℕ) → u ≤ last h → p u ≡ q u) → some_abort C h p ≡ some_abort C h q
  abort_agree [] legal p q same = refl
  abort_agree (Begin n up ∷ h) legal p q same = let next = legal.0.next in abort_agree h legal.1 p q (λ u le. same u (omega arith))
  abort_agree (Call c ∷ h) legal p q same = abort_agree h legal.1 p q same
  abort_agree (Undo k ∷ h) legal p q same = abort_agree h legal.1 p q same
  abort_agree (Commit t ∷ h) legal p q same = abort_agree h legal.1 p q same
  abort_agree (Abort t ∷ h) legal p q same = ap (λ b. b || some_abort C h p) (same t (lived C base.transaction h t legal.0).begun) ∙ ap (λ b. q t || b) (abort_agree h legal.1 p q same)

  module _ (L : Lawful C) (base_sound : C.IsSound base.store) where
    sound : (h : List (Event C)) → Legal C base h → Sound C L base h
    sound h legal = sound_all C L base base_sound h legal

    parent_later : (h : List (Event C)) → Legal C base h → (x : ℕ) → last h < x → parent C h x ≡ None
    parent_later h legal x later = by_option (parent C h x) (λ e. e) (λ p e. let le = child_known h legal x p e in absurd (omega arith))

    gone_later : (h : List (Event C)) → Legal C base h → (x : ℕ) → last h < x → is_gone C h x ≡ false
    gone_later h legal x later =
        no_abort h legal (λ u. over C h u x) (λ u le. above_root (parent C h) (sound h legal).forest u x (parent_later h legal x later) ∙ ne_eqb u x (λ e. absurd (omega arith)))

    -- a new transaction isn't gone, since its parent isn't
    gone_new : (h : List (Event C)) → Legal C base h → (n : ℕ) (p o : Option ℕ) → p ≡ o → MayBegin C base.transaction h n p → is_gone C (Begin n p ∷ h) n ≡ false
    gone_new h legal n p None e may =
        let next = may.next in
        let top : parent C (Begin n p ∷ h) n ≡ None = put_same (parent C h) n p n refl ∙ e in
        no_abort h legal (λ u. over C (Begin n p ∷ h) u n) (λ u le. above_root (parent C (Begin n p ∷ h)) (begin_forest C L base h (sound h legal) n p may) u n top ∙ ne_eqb u n (λ is. absurd (omega arith)))
    gone_new h legal n p (Some q) e may =
        let next = may.next in
        let live = lived C base.transaction h q (may.live q e) in
        let under : parent C (Begin n p ∷ h) n ≡ Some q = put_same (parent C h) n p n refl ∙ e in
        abort_agree h legal (λ u. over C (Begin n p ∷ h) u n) (λ u. over C h u q)
        (λ u le. above_child (parent C (Begin n p ∷ h)) (begin_forest C L base h (sound h legal) n p may) u n q under
        ∙ ap (λ b. b || over C (Begin n p ∷ h) u q) (ne_eqb u n (λ is. absurd (omega arith))) ∙ begin_over C L base h (sound h legal) n p may u q live.begun)
        ∙ live.there

module _ (C : Calls) (L : Lawful C) where
  pub numbered : Numbered C
  numbered base base_sound h legal =
      let so = sound_all C L base base_sound h legal in
      record {
        rising = so.numbers_rise;
        complete = λ x. (
          λ i. Each-at (λ y. (base.transaction < y) × (y ≤ last_transaction C base.transaction h)) (begun C h) x so.numbers_known i,
          λ k. so.numbers_all x k.0 k.1,
        );
        parents = λ x p e. (so.since x p e, so.forest x p e, child_known C base h legal x p e);
        later = λ x lt. (parent_later C base L base_sound h legal x lt, uncommitted_later C base h legal x lt, gone_later C base L base_sound h legal x lt);
      }

  pub fate_rules : FateRules C
  fate_rules base base_sound h (Begin n p) legal = λ x.
      let so = sound_all C L base base_sound h legal.1 in
      let next = legal.0.next in
      let start = so.counted in
      by_number x n
      (λ is.
      let new = lives C base.transaction (Begin n p ∷ h) n (record {
        since = omega arith;
        begun = omega arith;
        uncommitted = uncommitted_later C base h legal.1 n (omega arith);
        there = gone_new C base L base_sound h legal.1 n p p refl legal.0;
      }) in
      ap (fate C base.transaction (Begin n p ∷ h)) is ∙ new ∙ sym (put_same (fate C base.transaction h) n (Some Live) x is))
      (λ ne. same_since (nat_lt base.transaction x) (nat_le x n) (nat_le x (last_transaction C base.transaction h))
      (cond (is_committed C h x) Committed (cond (is_gone C (Begin n p ∷ h) x) Aborted Live)) (cond (is_committed C h x) Committed (cond (is_gone C h x) Aborted Live))
      (same_test (nat_le x n) (nat_le x (last_transaction C base.transaction h))
      (λ k. let le = leb-true x n k in le-leb x (last_transaction C base.transaction h) (omega arith))
      (λ k. let le = leb-true x (last_transaction C base.transaction h) k in le-leb x n (omega arith)))
      (λ k. ap (λ b. cond (is_committed C h x) Committed (cond b Aborted Live)) (begin_gone C L base h so n p legal.0 x (leb-true x (last_transaction C base.transaction h) k)))
      ∙ sym (put_other (fate C base.transaction h) n (Some Live) x ne))
    where
      -- the same where it was begun
      same_since : (a b c : Bool) (y z : Fate) → b ≡ c → (c ≡ true → y ≡ z) → cond (a && b) (Some y) None ≡ cond (a && c) (Some z) None
      same_since a b true y z e f = ap (λ d. cond (a && d) (Some y) None) e ∙ ap (λ w. cond (a && true) (Some w) None) (f refl)
      same_since true b false y z e f = ap (λ d. cond d (Some y) None) e
      same_since false b false y z e f = refl
  fate_rules base base_sound h (Call c) legal = λ x. refl
  fate_rules base base_sound h (Undo k) legal = λ x. refl
  fate_rules base base_sound h (Commit t) legal = λ x. by_number x t
      (λ is.
      let l = lived C base.transaction h t legal.0.live in
      ap (λ b. cond b (Some (cond ((x == t) || is_committed C h x) Committed (cond (is_gone C h x) Aborted Live))) None)
      (ap since is ∙ and_from (nat_lt base.transaction t) (nat_le t (last_transaction C base.transaction h)) (lt-ltb base.transaction t l.since) (le-leb t (last_transaction C base.transaction h) l.begun))
      ∙ ap (λ b. Some (cond (b || is_committed C h x) Committed (cond (is_gone C h x) Aborted Live))) (eq-eqb x t is) ∙ sym (put_same (fate C base.transaction h) t (Some Committed) x is))
      (λ ne. ap (λ b. cond (since x) (Some (cond (b || is_committed C h x) Committed (cond (is_gone C h x) Aborted Live))) None) (ne_eqb x t ne) ∙ sym (put_other (fate C base.transaction h) t (Some Committed) x ne))
    where
      since : ℕ → Bool
      since x = nat_lt base.transaction x && nat_le x (last_transaction C base.transaction h)
  fate_rules base base_sound h (Abort t) legal = λ x. four (nat_lt base.transaction x && nat_le x (last_transaction C base.transaction h)) (is_committed C h x) (over C h t x) (is_gone C h x)
    where
      told : Bool → Bool → Bool → Option Fate
      told b c g = cond b (Some (cond c Committed (cond g Aborted Live))) None

      four : (b c o g : Bool) → told b c (o || g) ≡ cond (o && is_live (told b c g)) (Some Aborted) (told b c g)
      four true true true g = refl
      four true true false g = refl
      four true false true true = refl
      four true false true false = refl
      four true false false g = refl
      four false c true g = refl
      four false c false g = refl

  pub children : LiveChildren C
  children base base_sound h legal t =
      let so = sound_all C L base base_sound h legal in
      let test : ℕ → Bool = λ x. is_child C h t x && is_live (fate C base.transaction h x) in
      record {
        rising = Pairs-passing (λ x y. x < y) test (begun C h) so.numbers_rise;
        exact = λ x. (
          λ i.
              let parts = and_parts (is_child C h t x) (is_live (fate C base.transaction h x)) (In-passing test x (begun C h) i).1 in
              (live_is (fate C base.transaction h x) parts.1, some_is (parent C h x) t parts.0),
          λ k. child_listed C L base h so t x k.0 k.1,
        );
      }
    where
      live_is : (o : Option Fate) → is_live o ≡ true → o ≡ Some Live
      live_is None e = absurd (false≢true e)
      live_is (Some Live) e = refl
      live_is (Some Committed) e = absurd (false≢true e)
      live_is (Some Aborted) e = absurd (false≢true e)
