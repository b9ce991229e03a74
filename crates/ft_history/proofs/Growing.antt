-- What an event adds to the committed part.
use Rattle.std.proofs.Common.{◌≡◌, ◌≢◌, ℕ, Bool, true, false, not, cond, is_some, List, [], ◌∷◌, ◌++◌, sym, refl, ap, ◌∙◌, arith, ◌==◌, eqb-true, ne_eqb, append-nil, append_assoc}
use Rattle.std.proofs.lemmas.Bool.{false≢true}
use Rattle.ft_laws.specs.Lists.{Each, In}
use Rattle.ft_laws.specs.Calls.{Calls, Done}
use Rattle.ft_laws.specs.Laws.{Lawful}
use Rattle.ft_laws.proofs.Lists.{Each-from}
use Rattle.ft_laws.proofs.Tests.{by_test}
use Rattle.ft_history.specs.Forest.{root}
use Rattle.ft_history.specs.Logs.{passing, joined}
use Rattle.ft_history.specs.History.{Base, Event, number, parent, over, is_committed, IsLive, standing}
use Rattle.ft_history.specs.History.Event.{Begin, Call, Undo, Commit, Abort}
use Rattle.ft_history.specs.Legal.{Legal}
use Rattle.ft_history.specs.Ledger.{lists}
use Rattle.ft_history.specs.Serial.{root_of, committed_roots, calls_under, committed_part, CommittedSteps}
use Rattle.ft_history.proofs.Words.{put_other, passing_agree, passing_twice, passing_front, not_false}
use Rattle.ft_history.proofs.Kept.{one_number, taken_owned}
use Rattle.ft_history.proofs.History.{owner, asker_known, begin_forest, begin_standing, call_standing}
use Rattle.ft_history.proofs.Legal.{sound_all, target_newest}
use Rattle.ft_history.proofs.Promises.{abort_left}
use Rattle.ft_history.proofs.Serial.{root_above, root_grown, roots_committed, live_root, less_standing}

joined_agree : {A B : Type 0} (f g : A → List B) (xs : List A) → Each (λ x. f x ≡ g x) xs → joined f xs ≡ joined g xs
joined_agree f g [] h = refl
joined_agree f g (x ∷ xs) h = ap (λ ys. ys ++ joined f xs) h.0 ∙ ap (λ ys. g x ++ ys) (joined_agree f g xs h.1)

joined_push : {A B : Type 0} (f : A → List B) (xs : List A) (x : A) → joined f (xs ++ x ∷ []) ≡ joined f xs ++ f x
joined_push f [] x = append-nil (f x)
joined_push f (y ∷ ys) x = ap (λ zs. f y ++ zs) (joined_push f ys x) ∙ sym (append_assoc (f y) (joined f ys) (f x))

-- a second test alone, where it fails with the first
passing_alone : {A : Type 0} (p q : A → Bool) (xs : List A) → Each (λ x. p x ≡ false → q x ≡ false) xs → passing q (passing p xs) ≡ passing q xs
passing_alone p q xs h = passing_twice p q q xs (each xs h)
  where
    each : (ys : _) → Each (λ x. p x ≡ false → q x ≡ false) ys → Each (λ x. q x ≡ cond (p x) (q x) false) ys
    each [] k = tt
    each (y ∷ ys) k = (by_test (p y) (λ e. sym (ap (λ b. cond b (q y) false) e)) (λ e. k.0 e ∙ sym (ap (λ b. cond b (q y) false) e)), each ys k.1)

module _ (C : Calls) (L : Lawful C) where
  -- where the roots are the same, and the calls below each
  stays_part : (h : List (Event C)) (e : Event C) → committed_roots C (e ∷ h) ≡ committed_roots C h → ((r : ℕ) → is_committed C h r ≡ true → calls_under C (e ∷ h) r ≡ calls_under C h r)
      → committed_part C (e ∷ h) ≡ committed_part C h ++ []
  stays_part h e same under =
      ap (joined (calls_under C (e ∷ h))) same
      ∙ joined_agree (calls_under C (e ∷ h)) (calls_under C h) (committed_roots C h) (Each-from (λ r. calls_under C (e ∷ h) r ≡ calls_under C h r) (committed_roots C h) (λ r i. under r (roots_committed C h r i)))
      ∙ sym (append-nil (committed_part C h))

  -- a committed root isn't that of a live transaction
  apart : (base : Base C) → C.IsSound base.store → (h : List (Event C)) → Legal C base h → (t : ℕ) → IsLive C base.transaction h t → (r : ℕ) → is_committed C h r ≡ true → root (parent C h) t ≢ r
  apart base base_sound h legal t live r k e = false≢true (sym (live_root C L base base_sound h (sound_all C L base base_sound h legal) t live) ∙ ap (is_committed C h) e ∙ k)

  pub committed_steps : CommittedSteps C
  committed_steps base base_sound h (Begin n p) legal =
      let sound = sound_all C L base base_sound h legal.1 in
      let next = legal.0.next in
      let same : (c : Done C) → In c (standing C h) → root_of C (Begin n p ∷ h) c ≡ root_of C h c = λ c i.
      let le = asker_known C L base h sound c i in
      root_grown (parent C h) (parent C (Begin n p ∷ h)) sound.forest (begin_forest C L base h sound n p legal.0) n (λ x lt. put_other (parent C h) n p x (λ e. absurd (omega arith))) c.asker (omega arith) in
      stays_part h (Begin n p) refl (λ r k.
      ap (passing (λ c. root_of C (Begin n p ∷ h) c == r)) (begin_standing C L base h sound n p legal.0)
      ∙ passing_agree (λ c. root_of C (Begin n p ∷ h) c == r) (λ c. root_of C h c == r) (standing C h)
      (Each-from (λ c. (root_of C (Begin n p ∷ h) c == r) ≡ (root_of C h c == r)) (standing C h) (λ c i. ap (λ x. x == r) (same c i))))
  committed_steps base base_sound h (Call c) legal =
      let sound = sound_all C L base base_sound h legal.1 in
      stays_part h (Call c) refl (λ r k.
      ap (passing (λ b. root_of C h b == r)) (call_standing C L base h sound c legal.0)
      ∙ passing_front (λ b. root_of C h b == r) (standing C h) (c ∷ []) (ne_eqb (root_of C h c) r (apart base base_sound h legal.1 c.asker legal.0.live r k), tt))
  committed_steps base base_sound h (Undo j) legal =
      let sound = sound_all C L base base_sound h legal.1 in
      let t = legal.0.0 in
      let d = legal.0.1 in
      let may = legal.0.2 in
      let found = target_newest C L base base_sound h legal.1 t d may.live may.target in
      let own = taken_owned C (over C h) (owner C h) (standing C h) (lists C h) sound.runs.kept t d found.0 found.1 in
      stays_part h (Undo j) refl (λ r k.
      ap (passing (λ c. root_of C h c == r)) (sym (less_standing C j h))
      ∙ passing_alone (λ c. not (number C c == j)) (λ c. root_of C h c == r) (standing C h)
      (Each-from (λ c. not (number C c == j) ≡ false → (root_of C h c == r) ≡ false) (standing C h) (λ c i e.
      let is : c ≡ d = one_number C (over C h) (owner C h) (standing C h) (lists C h) sound.runs.kept c d i own.0 (eqb-true (number C c) j (not_false (number C c == j) e) ∙ sym legal.0.3) in
      ne_eqb (root_of C h c) r (λ m. apart base base_sound h legal.1 t may.live r k (ap (root (parent C h)) (sym found.2) ∙ ap (root_of C h) (sym is) ∙ m)))))
  committed_steps base base_sound h (Commit t) legal = by_test (is_some (parent C h t))
      (λ k. stays_part h (Commit t) (ap (λ b. cond b (committed_roots C h) (committed_roots C h ++ t ∷ [])) k) (λ r m. refl)
      ∙ sym (ap (λ b. committed_part C h ++ cond b [] (calls_under C h t)) k))
      (λ k. ap (λ b. joined (calls_under C h) (cond b (committed_roots C h) (committed_roots C h ++ t ∷ []))) k ∙ joined_push (calls_under C h) (committed_roots C h) t
      ∙ sym (ap (λ b. committed_part C h ++ cond b [] (calls_under C h t)) k))
  committed_steps base base_sound h (Abort t) legal =
      let sound = sound_all C L base base_sound h legal.1 in
      stays_part h (Abort t) refl (λ r k.
      ap (passing (λ c. root_of C h c == r)) (abort_left C L base base_sound h legal.1 t legal.0)
      ∙ passing_alone (λ c. not (over C h t c.asker)) (λ c. root_of C h c == r) (standing C h)
      (Each-from (λ c. not (over C h t c.asker) ≡ false → (root_of C h c == r) ≡ false) (standing C h) (λ c i e.
      ne_eqb (root_of C h c) r (λ m. apart base base_sound h legal.1 t legal.0 r k (root_above (parent C h) sound.forest t c.asker (not_false (over C h t c.asker) e) ∙ m)))))
