-- What each event does to the locks.
use Rattle.std.proofs.Common.{◌≡◌, ◌≢◌, ◌≤◌, ℕ, Bool, true, false, not, cond, ◌&&◌, ◌||◌, Option, Some, None, List, [], ◌∷◌, inl, inr, sym, refl, ap, ◌∙◌, subst, arith, ◌==◌, ne_eqb, eqb-true, ◌<◌}
use Rattle.std.proofs.lemmas.Bool.{false≢true, and_parts, and_from, or_cases, or_left, or_right, eqb-false}
use Rattle.ft_laws.specs.Lists.{In}
use Rattle.ft_laws.specs.Calls.{Calls, Done}
use Rattle.ft_laws.specs.Laws.{Lawful}
use Rattle.ft_laws.proofs.Lists.{Each-map}
use Rattle.ft_laws.proofs.Tests.{by_test}
use Rattle.ft_history.specs.Forest.{is_some_and}
use Rattle.ft_history.specs.Logs.{passing}
use Rattle.ft_history.specs.History.{Base, Event, last_transaction, parent, over, owner_of, grants, begun, is_child}
use Rattle.ft_history.specs.History.Event.{Begin, Call, Undo, Commit, Abort}
use Rattle.ft_history.specs.Locks.{is_owner, holds_lock, retains_lock, owns_lock, is_blocker, is_moss_blocker}
use Rattle.ft_history.specs.Legal.{Legal}
use Rattle.ft_history.specs.Promises.{LockRules, AreThose, Blockers}
use Rattle.ft_history.proofs.Words.{same_some, none_some, moved, moved_same, moved_other, moved_from, In-passing, passing-In, Pairs-passing, same_test, not_true}
use Rattle.ft_history.proofs.Owning.{any_agree, any_push, some_is, is_some, Owned, owned_by, owned, owning, owns_one, one_owns}
use Rattle.ft_history.proofs.Aborting.{ended}
use Rattle.ft_history.proofs.History.{Sound, laws, owner_over, begin_owner, call_owner, commit_owner, abort_owner, owner_is_live}
use Rattle.ft_history.proofs.Legal.{sound_all}
use Rattle.ft_history.proofs.Living.{lived}

-- an owner after an abort
pub ended_from : (above : ℕ → ℕ → Bool) (t : ℕ) (o : Option ℕ) (y : ℕ) → ended above t o ≡ Some y → (o ≡ Some y) × (above t y ≡ false)
ended_from above t None y h = absurd (none_some y h)
ended_from above t (Some x) y h = by_test (above t x)
    (λ k. absurd (none_some y (sym (ap (λ b. cond b None (Some x)) k) ∙ h)))
    (λ k. let is : x ≡ y = same_some x y (sym (ap (λ b. cond b None (Some x)) k) ∙ h) in (ap Some is, ap (above t) (sym is) ∙ k))

ended_to : (above : ℕ → ℕ → Bool) (t : ℕ) (o : Option ℕ) (y : ℕ) → o ≡ Some y → above t y ≡ false → ended above t o ≡ Some y
ended_to above t o y e k = ap (ended above t) e ∙ ap (λ b. cond b None (Some y)) k

-- the asker's own kind of a new call, and another's
held_new : (a b : Bool) → (a && (a && b)) ≡ (a && b)
held_new true b = refl
held_new false b = refl

retained_new : (old a b : Bool) → (old || (a && (not a && b))) ≡ old
retained_new true a b = refl
retained_new false true b = refl
retained_new false false b = refl

-- where nobody passes a test, nobody passes one that passes no others
none_passes : (p q : ℕ → Bool) → ((y : ℕ) → p y ≡ true → q y ≡ true) → (xs : List ℕ) → passing q xs ≡ [] → passing p xs ≡ []
none_passes p q more [] none = refl
none_passes p q more (x ∷ xs) none = by_test (q x)
    (λ k. absurd (no_list x (passing q xs) (sym (ap (λ b. cond b (x ∷ passing q xs) (passing q xs)) k) ∙ none)))
    (λ k. by_test (p x)
    (λ m. absurd (false≢true (sym k ∙ more x m)))
    (λ m. ap (λ b. cond b (x ∷ passing p xs) (passing p xs)) m ∙ none_passes p q more xs (sym (ap (λ b. cond b (x ∷ passing q xs) (passing q xs)) k) ∙ none)))
  where
    no_list : (y : ℕ) (ys : List ℕ) → (y ∷ ys) ≡ [] → ⊥
    no_list y ys e = cc

module _ (C : Calls) (L : Lawful C) (base : Base C) (h : List (Event C)) (sound : Sound C L base h) where
  -- another event, that grants no call: who owned and owns a lock
  module _ (e : Event C) (same : grants C (e ∷ h) ≡ grants C h) (kind : ℕ → Bool) (y : ℕ) (test : C.Accesses → Bool) where
    before : (x : ℕ) → (o : Owned C (e ∷ h) y kind test) → owner_of C h o.call.asker ≡ Some x → Owned C h x kind test
    before x o is = record { call = o.call; granted = subst (In o.call) same o.granted; owner = is; asker = o.asker; passes = o.passes }

    after : (x : ℕ) → (o : Owned C h x kind test) → owner_of C (e ∷ h) o.call.asker ≡ Some y → Owned C (e ∷ h) y kind test
    after x o is = record { call = o.call; granted = subst (In o.call) (sym same) o.granted; owner = is; asker = o.asker; passes = o.passes }

  begin_locks : (n : ℕ) (p : Option ℕ) → Legal C base (Begin n p ∷ h) → (kind : ℕ → Bool) (y : ℕ) (test : C.Accesses → Bool) → owned_by C (Begin n p ∷ h) y kind test ≡ owned_by C h y kind test
  begin_locks n p legal kind y test =
      any_agree (λ c. is_owner C (Begin n p ∷ h) y c && (kind c.asker && test c.accesses)) (λ c. is_owner C h y c && (kind c.asker && test c.accesses)) (grants C h)
      (Each-map (λ c. c.asker ≤ last_transaction C base.transaction h) (λ c. (is_owner C (Begin n p ∷ h) y c && (kind c.asker && test c.accesses)) ≡ (is_owner C h y c && (kind c.asker && test c.accesses)))
      (λ c le. ap (λ o. is_some_and o (λ x. x == y) && (kind c.asker && test c.accesses)) (begin_owner C L base h sound n p legal.0 c.asker le)) (grants C h) sound.askers)

  -- a new call's locks are its asker's
  call_locks : (c : Done C) → Legal C base (Call c ∷ h) → (kind : ℕ → Bool) (y : ℕ) (test : C.Accesses → Bool)
      → owned_by C (Call c ∷ h) y kind test ≡ (owned_by C h y kind test || ((c.asker == y) && (kind c.asker && test c.accesses)))
  call_locks c legal kind y test =
      any_push (λ d. is_owner C h y d && (kind d.asker && test d.accesses)) (grants C h) c
      ∙ ap (λ o. owned_by C h y kind test || (is_some_and o (λ x. x == y) && (kind c.asker && test c.accesses))) (call_owner C L base h sound c legal.0)

  -- those of t and of all below it go
  abort_locks : (t : ℕ) → Legal C base (Abort t ∷ h) → (kind : ℕ → Bool) (y : ℕ) (test : C.Accesses → Bool) → owned_by C (Abort t ∷ h) y kind test ≡ (not (over C h t y) && owned_by C h y kind test)
  abort_locks t legal kind y test = same_test (owned_by C (Abort t ∷ h) y kind test) (not (over C h t y) && owned_by C h y kind test)
      (λ k.
      let o = owned C (Abort t ∷ h) y kind test k in
      let was = ended_from (over C h) t (owner_of C h o.call.asker) y (sym (abort_owner C L base h sound t legal.0 o.call.asker) ∙ o.owner) in
      and_from (not (over C h t y)) (owned_by C h y kind test) (ap not was.1) (owning C h y kind test (before (Abort t) refl kind y test y o was.0)))
      (λ k.
      let parts = and_parts (not (over C h t y)) (owned_by C h y kind test) k in
      let o = owned C h y kind test parts.1 in
      owning C (Abort t ∷ h) y kind test (after (Abort t) refl kind y test y o
      (abort_owner C L base h sound t legal.0 o.call.asker ∙ ended_to (over C h) t (owner_of C h o.call.asker) y o.owner (not_true (over C h t y) parts.0))))

  -- Commit
  module _ (t : ℕ) (legal : Legal C base (Commit t ∷ h)) (y : ℕ) (test : C.Accesses → Bool) where
    now : (x : ℕ) → owner_of C (Commit t ∷ h) x ≡ moved t (parent C h t) (owner_of C h x)
    now = commit_owner C L base h sound t legal.0

    -- an owner that isn't t stays
    stays : (kind : ℕ → Bool) → y ≢ t → Owned C h y kind test → Owned C (Commit t ∷ h) y kind test
    stays kind ne o = after (Commit t) refl kind y test y o (now o.call.asker ∙ ap (moved t (parent C h t)) o.owner ∙ moved_other t (parent C h t) y ne)

    -- t's calls were asked for at or below it, and not by its parent
    not_parent : (c : Done C) → In c (grants C h) → owner_of C h c.asker ≡ Some t → parent C h t ≡ Some y → (c.asker == y) ≡ false
    not_parent c i e up =
        let below = (laws C L base h sound).falls t c.asker (owner_over C L base h sound c i t e) in
        let lower = sound.forest t y up in
        ne_eqb c.asker y (λ is. absurd (omega arith))

    -- who has the parent y is not t
    other : parent C h t ≡ Some y → y ≢ t
    other up is = let lower = sound.forest t y up in absurd (omega arith)

    commit_held : holds_lock C (Commit t ∷ h) y test ≡ (not (y == t) && holds_lock C h y test)
    commit_held = same_test (holds_lock C (Commit t ∷ h) y test) (not (y == t) && holds_lock C h y test)
        (λ k.
        let o = owned C (Commit t ∷ h) y (λ a. a == y) test k in
        elim (moved_from t (parent C h t) y (owner_of C h o.call.asker) (sym (now o.call.asker) ∙ o.owner)) [
          | inl was ↦ absurd (false≢true (sym (not_parent o.call o.granted was.0 was.1) ∙ o.asker))
          | inr was ↦ and_from (not (y == t)) (holds_lock C h y test) (ap not (ne_eqb y t was.1)) (owning C h y (λ a. a == y) test (before (Commit t) refl (λ a. a == y) y test y o was.0))
        ])
        (λ k.
        let parts = and_parts (not (y == t)) (holds_lock C h y test) k in
        owning C (Commit t ∷ h) y (λ a. a == y) test (stays (λ a. a == y) (eqb-false y t (not_true (y == t) parts.0)) (owned C h y (λ a. a == y) test parts.1)))

    commit_retained : retains_lock C (Commit t ∷ h) y test ≡ (not (y == t) && (retains_lock C h y test || (is_child C h y t && owns_lock C h t test)))
    commit_retained = same_test (retains_lock C (Commit t ∷ h) y test) (not (y == t) && (retains_lock C h y test || (is_child C h y t && owns_lock C h t test)))
        (λ k.
        let o = owned C (Commit t ∷ h) y (λ a. not (a == y)) test k in
        elim (moved_from t (parent C h t) y (owner_of C h o.call.asker) (sym (now o.call.asker) ∙ o.owner)) [
          | inl was ↦
              let child = is_some (parent C h t) y was.1 in
              let owns = one_owns C h t test (record { call = o.call; granted = o.granted; owner = was.0; asker = refl; passes = o.passes }) in
              and_from (not (y == t)) (retains_lock C h y test || (is_child C h y t && owns_lock C h t test)) (ap not (ne_eqb y t (other was.1)))
              (or_right (retains_lock C h y test) (is_child C h y t && owns_lock C h t test) (and_from (is_child C h y t) (owns_lock C h t test) child owns))
          | inr was ↦ and_from (not (y == t)) (retains_lock C h y test || (is_child C h y t && owns_lock C h t test)) (ap not (ne_eqb y t was.1))
              (or_left (retains_lock C h y test) (is_child C h y t && owns_lock C h t test)
              (owning C h y (λ a. not (a == y)) test (before (Commit t) refl (λ a. not (a == y)) y test y o was.0)))
        ])
        (λ k.
        let parts = and_parts (not (y == t)) (retains_lock C h y test || (is_child C h y t && owns_lock C h t test)) k in
        let ne : y ≢ t = eqb-false y t (not_true (y == t) parts.0) in
        elim (or_cases (retains_lock C h y test) (is_child C h y t && owns_lock C h t test) parts.1) [
          | inl m ↦ owning C (Commit t ∷ h) y (λ a. not (a == y)) test (stays (λ a. not (a == y)) ne (owned C h y (λ a. not (a == y)) test m))
          | inr m ↦
              let both = and_parts (is_child C h y t) (owns_lock C h t test) m in
              let up : parent C h t ≡ Some y = some_is (parent C h t) y both.0 in
              let o = owns_one C h t test both.1 in
              owning C (Commit t ∷ h) y (λ a. not (a == y)) test (record {
                call = o.call;
                granted = o.granted;
                owner = now o.call.asker ∙ ap (moved t (parent C h t)) o.owner ∙ moved_same t (parent C h t) t refl ∙ up;
                asker = ap not (not_parent o.call o.granted o.owner up);
                passes = o.passes;
              })
        ])

module _ (C : Calls) (L : Lawful C) where
  pub lock_rules : LockRules C
  lock_rules base base_sound h (Begin n p) legal =
      let sound = sound_all C L base base_sound h legal.1 in
      record {
        held = λ y test. begin_locks C L base h sound n p legal (λ a. a == y) y test;
        retained = λ y test. begin_locks C L base h sound n p legal (λ a. not (a == y)) y test;
      }
  lock_rules base base_sound h (Call c) legal =
      let sound = sound_all C L base base_sound h legal.1 in
      record {
        held = λ y test. call_locks C L base h sound c legal (λ a. a == y) y test ∙ ap (λ b. holds_lock C h y test || b) (held_new (c.asker == y) (test c.accesses));
        retained = λ y test. call_locks C L base h sound c legal (λ a. not (a == y)) y test ∙ retained_new (retains_lock C h y test) (c.asker == y) (test c.accesses);
      }
  lock_rules base base_sound h (Undo k) legal = record { held = λ y test. refl; retained = λ y test. refl }
  lock_rules base base_sound h (Commit t) legal =
      let sound = sound_all C L base base_sound h legal.1 in
      record { held = commit_held C L base h sound t legal; retained = commit_retained C L base h sound t legal }
  lock_rules base base_sound h (Abort t) legal =
      let sound = sound_all C L base base_sound h legal.1 in
      record {
        held = λ y test. abort_locks C L base h sound t legal (λ a. a == y) y test;
        retained = λ y test. abort_locks C L base h sound t legal (λ a. not (a == y)) y test;
      }

  -- those who pass a test that only owners of locks pass are all begun
  module _ (base : Base C) (base_sound : C.IsSound base.store) (h : List (Event C)) (legal : Legal C base h) where
    those : (p : ℕ → Bool) (test : C.Accesses → Bool) → ((y : ℕ) → p y ≡ true → owns_lock C h y test ≡ true) → AreThose p (passing p (begun C h))
    those p test owns =
        let sound = sound_all C L base base_sound h legal in
        record {
          rising = Pairs-passing (λ x y. x < y) p (begun C h) sound.numbers_rise;
          exact = λ y. (
            λ i. (In-passing p y (begun C h) i).1,
            λ k.
                let o = owns_one C h y test (owns y k) in
                let l = lived C base.transaction h y (owner_is_live C L base h sound o.call o.granted y o.owner) in
                passing-In p y (begun C h) (sound.numbers_all y l.since l.begun) k,
          );
        }

    module _ (t : ℕ) (f : C.Accesses) where
      abbrev in_way : C.Accesses → Bool
      in_way g = C.conflict g f

      moss_owns : (y : ℕ) → is_moss_blocker C h t f y ≡ true → owns_lock C h y in_way ≡ true
      moss_owns y k = elim (or_cases (holds_lock C h y in_way && not (y == t)) (retains_lock C h y in_way && not (over C h y t)) k) [
        | inl m ↦ or_left (holds_lock C h y in_way) (retains_lock C h y in_way) (and_parts (holds_lock C h y in_way) (not (y == t)) m).0
        | inr m ↦ or_right (holds_lock C h y in_way) (retains_lock C h y in_way) (and_parts (retains_lock C h y in_way) (not (over C h y t)) m).0
      ]

      -- who is neither t nor above it is not t
      another : (y : ℕ) → not (over C h y t) ≡ true → not (y == t) ≡ true
      another y k = by_test (y == t)
          (λ is. absurd (false≢true (sym (not_true (over C h y t) k) ∙ ap (λ x. over C h x t) (eqb-true y t is) ∙ (laws C L base h (sound_all C L base base_sound h legal)).itself t)))
          (λ is. ap not is)

      moss_blocks : (y : ℕ) → is_blocker C h t f y ≡ true → is_moss_blocker C h t f y ≡ true
      moss_blocks y k =
          let both = and_parts (owns_lock C h y in_way) (not (over C h y t)) k in
          elim (or_cases (holds_lock C h y in_way) (retains_lock C h y in_way) both.0) [
            | inl m ↦ or_left (holds_lock C h y in_way && not (y == t)) (retains_lock C h y in_way && not (over C h y t)) (and_from (holds_lock C h y in_way) (not (y == t)) m (another y both.1))
            | inr m ↦ or_right (holds_lock C h y in_way && not (y == t)) (retains_lock C h y in_way && not (over C h y t)) (and_from (retains_lock C h y in_way) (not (over C h y t)) m both.1)
          ]

  pub blockers : Blockers C
  blockers base base_sound h legal t f = record {
    own = those base base_sound h legal (is_blocker C h t f) (λ g. C.conflict g f) (λ y k. (and_parts (owns_lock C h y (λ g. C.conflict g f)) (not (over C h y t)) k).0);
    moss = those base base_sound h legal (is_moss_blocker C h t f) (λ g. C.conflict g f) (moss_owns base base_sound h legal t f);
    stricter = λ none. none_passes (is_blocker C h t f) (is_moss_blocker C h t f) (moss_blocks base base_sound h legal t f) (begun C h) none;
  }
