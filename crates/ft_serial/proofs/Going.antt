-- Whether somebody at or above a transaction is aborted, found on the way up.
use Rattle.std.proofs.Common.{◌≡◌, ◌<◌, inl, inr, ℕ, Bool, true, false, cond, ◌||◌, ◌==◌, ◌&&◌, Option, Some, None, [], ◌∷◌, refl, sym, ap, ◌∙◌, arith, eqb-true}
use Rattle.std.specs.Prelude.{nat_lt, nat_le}
use Rattle.std.proofs.lemmas.Bool.{false≢true, leb-true, and_parts, or_left, or_right, or_cases}
use Rattle.ft_laws.proofs.Tests.{by_test, by_number}
use Rattle.ft_posix.specs.Posix.{posix_calls}
use Rattle.ft_history.specs.Forest.{IsForest}
use Rattle.ft_history.specs.History.{Base as HistoryBase, last_transaction, parent, over, Fate, fate, is_live, is_committed, some_abort, is_gone}
use Rattle.ft_history.specs.History.Fate.{Live, Committed, Aborted}
use Rattle.ft_history.specs.History.Event.{Begin as WasBegun, Call as WasGranted, Undo as WasUndone, Commit as WasCommitted, Abort as WasAborted}
use Rattle.ft_history.specs.Legal.{Legal}
use Rattle.ft_history.proofs.Words.{put_same, put_other, same_test}
use Rattle.ft_history.proofs.Forest.{ForestLaws, forest_laws}
use Rattle.ft_history.proofs.Fates.{fate_rules, numbered}
use Rattle.ft_history.proofs.History.{gone_above}
use Rattle.ft_history.proofs.Legal.{sound_all}
use Rattle.ft_core.specs.Histories.{History}
use Rattle.ft_core.proofs.Known.{lawful_calls}
use Rattle.ft_serial.specs.Walks.{is_aborted}

-- Tests of a fate.
aborted-tests : (b c g : Bool) → is_aborted (cond b (Some (cond c Committed (cond g Aborted Live))) None) ≡ true → g ≡ true
aborted-tests true true g e = absurd (false≢true e)
aborted-tests true false true e = refl
aborted-tests true false false e = absurd (false≢true e)
aborted-tests false c g e = absurd (false≢true e)

committed-tests : (b c g : Bool) → cond b (Some (cond c Committed (cond g Aborted Live))) None ≡ Some Committed → c ≡ true
committed-tests true true g e = refl
committed-tests true false true e = absurd (cc)
committed-tests true false false e = absurd (cc)
committed-tests false c g e = absurd (cc)

module _ (first : ℕ) (h : History) (x : ℕ) where
  aborted-gone : is_aborted (fate posix_calls first h x) ≡ true → is_gone posix_calls h x ≡ true
  aborted-gone e = aborted-tests (nat_lt first x && nat_le x (last_transaction posix_calls first h)) (is_committed posix_calls h x) (is_gone posix_calls h x) e

  pub fate-committed : fate posix_calls first h x ≡ Some Committed → is_committed posix_calls h x ≡ true
  fate-committed e = committed-tests (nat_lt first x && nat_le x (last_transaction posix_calls first h)) (is_committed posix_calls h x) (is_gone posix_calls h x) e

live-aborted : Some Live ≡ Some Aborted → ⊥
live-aborted e = cc

module _ (base : HistoryBase posix_calls) (sound : posix_calls.IsSound base.store) where
  abbrev first : ℕ
  first = base.transaction

  unborn : (h : History) (x : ℕ) → last_transaction posix_calls first h < x → fate posix_calls first h x ≡ Some Aborted → ⊥
  unborn h x lt f = by_test (nat_lt first x && nat_le x (last_transaction posix_calls first h))
      (λ m. let le = leb-true x (last_transaction posix_calls first h) (and_parts (nat_lt first x) (nat_le x (last_transaction posix_calls first h)) m).1 in absurd (omega arith))
      (λ m. later (nat_lt first x && nat_le x (last_transaction posix_calls first h)) (cond (is_committed posix_calls h x) Committed (cond (is_gone posix_calls h x) Aborted Live)) m f)
    where
      later : (b : Bool) (f : Fate) → b ≡ false → cond b (Some f) None ≡ Some Aborted → ⊥
      later false f e k = cc
      later true f e k = cc

  -- where the abort of one that passes stands in the history, one that passes is aborted
  some-aborted : (h : History) → Legal posix_calls base h → (p : ℕ → Bool) → some_abort posix_calls h p ≡ true → (v : ℕ) × (p v ≡ true) × (fate posix_calls first h v ≡ Some Aborted)
  some-aborted [] legal p k = absurd (false≢true k)
  some-aborted (WasBegun n up ∷ h) legal p k =
      let old = some-aborted h legal.1 p k in
      let v = old.0 in
      let next = legal.0.next in
      by_number v n
      (λ e. absurd (unborn h v (omega arith) old.2))
      (λ e. (v, old.1, fate_rules posix_calls lawful_calls base sound h (WasBegun n up) legal v ∙ put_other (fate posix_calls first h) n (Some Live) v e ∙ old.2))
  some-aborted (WasGranted c ∷ h) legal p k = some-aborted h legal.1 p k
  some-aborted (WasUndone j ∷ h) legal p k = some-aborted h legal.1 p k
  some-aborted (WasCommitted t ∷ h) legal p k =
      let old = some-aborted h legal.1 p k in
      let v = old.0 in
      by_number v t
      (λ e. absurd (live-aborted (sym legal.0.live ∙ sym (ap (fate posix_calls first h) e) ∙ old.2)))
      (λ e. (v, old.1, fate_rules posix_calls lawful_calls base sound h (WasCommitted t) legal v ∙ put_other (fate posix_calls first h) t (Some Committed) v e ∙ old.2))
  some-aborted (WasAborted t ∷ h) legal p k = elim (or_cases (p t) (some_abort posix_calls h p) k) [
    | inl e ↦ (t, e, fate_rules posix_calls lawful_calls base sound h (WasAborted t) legal t ∙ now)
    | inr e ↦ let old = some-aborted h legal.1 p e in let v = old.0 in (v, old.1, fate_rules posix_calls lawful_calls base sound h (WasAborted t) legal v ∙ still (over posix_calls h t v) (fate posix_calls first h v) old.2)
  ]
    where
      still : (b : Bool) (f : Option Fate) → f ≡ Some Aborted → cond (b && is_live f) (Some Aborted) f ≡ Some Aborted
      still b f e = ap (λ g. cond (b && is_live g) (Some Aborted) g) e ∙ by_test b (λ k. ap (λ c. cond (c && false) (Some Aborted) (Some Aborted)) k) (λ k. ap (λ c. cond (c && false) (Some Aborted) (Some Aborted)) k)

      now : cond (over posix_calls h t t && is_live (fate posix_calls first h t)) (Some Aborted) (fate posix_calls first h t) ≡ Some Aborted
      now =
          ap (λ b. cond (b && is_live (fate posix_calls first h t)) (Some Aborted) (fate posix_calls first h t))
          ((forest_laws (parent posix_calls h) (sound_all posix_calls lawful_calls base sound h legal.1).forest).itself t)
          ∙ ap (λ f. cond (is_live f) (Some Aborted) f) legal.0

  -- what has committed is known to have
  pub committed-fate : (h : History) → Legal posix_calls base h → (x : ℕ) → is_committed posix_calls h x ≡ true → fate posix_calls first h x ≡ Some Committed
  committed-fate [] legal x k = absurd (false≢true k)
  committed-fate (WasBegun n up ∷ h) legal x k =
      let next = legal.0.next in
      by_number x n
      (λ e. absurd (false≢true (sym ((numbered posix_calls lawful_calls base sound h legal.1).later x (omega arith)).1 ∙ k)))
      (λ e. fate_rules posix_calls lawful_calls base sound h (WasBegun n up) legal x ∙ put_other (fate posix_calls first h) n (Some Live) x e ∙ committed-fate h legal.1 x k)
  committed-fate (WasGranted c ∷ h) legal x k = committed-fate h legal.1 x k
  committed-fate (WasUndone j ∷ h) legal x k = committed-fate h legal.1 x k
  committed-fate (WasCommitted t ∷ h) legal x k =
      fate_rules posix_calls lawful_calls base sound h (WasCommitted t) legal x ∙ by_number x t
      (λ e. put_same (fate posix_calls first h) t (Some Committed) x e)
      (λ e. put_other (fate posix_calls first h) t (Some Committed) x e ∙ committed-fate h legal.1 x (elim (or_cases (x == t) (is_committed posix_calls h x) k) [ inl m ↦ absurd (e (eqb-true x t m)) | inr m ↦ m ]))
  committed-fate (WasAborted t ∷ h) legal x k =
      fate_rules posix_calls lawful_calls base sound h (WasAborted t) legal x ∙ still (over posix_calls h t x) (fate posix_calls first h x) (committed-fate h legal.1 x k)
    where
      still : (b : Bool) (f : Option Fate) → f ≡ Some Committed → cond (b && is_live f) (Some Aborted) f ≡ Some Committed
      still true f e = ap (λ g. cond (is_live g) (Some Aborted) g) e
      still false f e = e

  module _ (h : History) (legal : Legal posix_calls base h) where
    pub forest : IsForest (parent posix_calls h)
    forest = (sound_all posix_calls lawful_calls base sound h legal).forest

    laws : ForestLaws (parent posix_calls h) (over posix_calls h)
    laws = forest_laws (parent posix_calls h) forest

    below : (o x : ℕ) → over posix_calls h o x ≡ true → is_gone posix_calls h o ≡ true → is_gone posix_calls h x ≡ true
    below o x k gone = gone_above posix_calls lawful_calls base h (sound_all posix_calls lawful_calls base sound h legal) h o x k gone

    -- a top-level transaction is gone where it is aborted
    pub gone-top : (x : ℕ) → parent posix_calls h x ≡ None → is_gone posix_calls h x ≡ is_aborted (fate posix_calls first h x)
    gone-top x top = same_test (is_gone posix_calls h x) (is_aborted (fate posix_calls first h x))
        (λ k.
        let found = some-aborted h legal (λ u. over posix_calls h u x) k in
        ap (λ y. is_aborted (fate posix_calls first h y)) (sym (laws.at_top x found.0 top found.1)) ∙ ap is_aborted found.2)
        (aborted-gone first h x)

    -- and another where it is aborted, or its parent is gone
    pub gone-child : (x p : ℕ) → parent posix_calls h x ≡ Some p → is_gone posix_calls h x ≡ (is_aborted (fate posix_calls first h x) || is_gone posix_calls h p)
    gone-child x p up = same_test (is_gone posix_calls h x) (is_aborted (fate posix_calls first h x) || is_gone posix_calls h p)
        (λ k.
        let found = some-aborted h legal (λ u. over posix_calls h u x) k in
        elim (laws.to_parent x p found.0 up found.1) [
          | inl e ↦ or_left (is_aborted (fate posix_calls first h x)) (is_gone posix_calls h p) (ap (λ y. is_aborted (fate posix_calls first h y)) (sym e) ∙ ap is_aborted found.2)
          | inr m ↦ or_right (is_aborted (fate posix_calls first h x)) (is_gone posix_calls h p) (below found.0 p m (aborted-gone first h found.0 (ap is_aborted found.2)))
        ])
        (λ k. elim (or_cases (is_aborted (fate posix_calls first h x)) (is_gone posix_calls h p) k) [
          | inl e ↦ aborted-gone first h x e
          | inr m ↦ below p x (laws.over_parent x p x up (laws.itself x)) m
        ])
