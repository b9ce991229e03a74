-- The serial order.
use Rattle.std.proofs.Common.{◌≡◌, ◌<◌, ◌≤◌, ◌+◌, ℕ, zero, suc, Bool, true, false, not, cond, is_some, ◌||◌, ◌&&◌, Option, Some, None, List, [], ◌∷◌, ◌++◌, ◌⊎◌, inl, inr, length, sym, refl, ap, ◌∙◌, subst, arith, ◌==◌, eqb-true, eq-eqb, ne_eqb, append-nil}
use Rattle.std.proofs.lemmas.Bool.{false≢true, or_left, or_right, or_from, or_cases}
use Rattle.ft_laws.specs.Lists.{Pairs, In}
use Rattle.ft_laws.specs.Calls.{Calls, Done}
use Rattle.ft_laws.specs.Laws.{Lawful}
use Rattle.ft_laws.proofs.Lists.{Each-from, Pairs-map, Pairs-push, Pairs-with, In-front, In-back, In-cases}
use Rattle.ft_laws.proofs.Tests.{by_test, by_option}
use Rattle.ft_history.specs.Forest.{map_or, IsForest, above, last_up, root, nearest}
use Rattle.ft_history.specs.Logs.{passing}
use Rattle.ft_history.specs.History.{Base, Event, number, last_transaction, parent, over, is_committed, is_gone, is_undone, IsLive, owner_of, grants, is_standing, standing}
use Rattle.ft_history.specs.History.Event.{Begin, Call, Undo, Commit, Abort}
use Rattle.ft_history.specs.Legal.{MayGrant, Legal}
use Rattle.ft_history.specs.Serial.{place, root_of, committed_roots, IsSerialPair}
use Rattle.ft_history.proofs.Words.{put_other, by_number, none_some, passing_twice, Pairs-passing}
use Rattle.ft_history.proofs.Forest.{climb, above_root, above_child, nearest_root, nearest_child}
use Rattle.ft_history.proofs.Aborting.{stays}
use Rattle.ft_history.proofs.History.{Sound, owner, asker_there, stands, asker_known, owner_there, owner_live, begin_forest, begin_standing, unblocked_over, call_standing, abort_standing}
use Rattle.ft_history.proofs.Legal.{sound_all}
use Rattle.ft_history.proofs.Living.{lived}

-- Roots.
module _ (up : ℕ → Option ℕ) (lower : IsForest up) where
  last_steps : (j k x : ℕ) → x ≤ j → x ≤ k → last_up up j x ≡ last_up up k x
  last_steps zero zero x a b = refl
  last_steps zero (suc k) x a b = by_option (up x)
      (λ e. sym (ap (λ o. map_or x o (last_up up k)) e))
      (λ p e. let lt = lower x p e in absurd (omega arith))
  last_steps (suc j) zero x a b = by_option (up x)
      (λ e. ap (λ o. map_or x o (last_up up j)) e)
      (λ p e. let lt = lower x p e in absurd (omega arith))
  last_steps (suc j) (suc k) x a b = by_option (up x)
      (λ e. ap (λ o. map_or x o (last_up up j)) e ∙ sym (ap (λ o. map_or x o (last_up up k)) e))
      (λ p e. let lt = lower x p e in
      ap (λ o. map_or x o (last_up up j)) e ∙ last_steps j k p (omega arith) (omega arith) ∙ sym (ap (λ o. map_or x o (last_up up k)) e))

  pub root_top : (x : ℕ) → up x ≡ None → root up x ≡ x
  root_top x e = last_steps x (suc x) x (omega arith) (omega arith) ∙ ap (λ o. map_or x o (last_up up x)) e

  pub root_child : (x p : ℕ) → up x ≡ Some p → root up x ≡ root up p
  root_child x p e = let lt = lower x p e in last_steps x (suc x) x (omega arith) (omega arith) ∙ ap (λ o. map_or x o (last_up up x)) e ∙ last_steps x p p (omega arith) (omega arith)

  pub root_is_top : (x : ℕ) → up (root up x) ≡ None
  root_is_top = climb up lower (λ x. up (root up x) ≡ None) (λ x e. ap up (root_top x e) ∙ e) (λ x p e ih. ap up (root_child x p e) ∙ ih)

  -- what is above has the same root
  pub root_above : (y x : ℕ) → above up y x ≡ true → root up y ≡ root up x
  root_above y = climb up lower (λ x. above up y x ≡ true → root up y ≡ root up x)
      (λ x e h. ap (root up) (eqb-true y x (sym (above_root up lower y x e) ∙ h)))
      (λ x p e ih h. elim (or_cases (y == x) (above up y p) (sym (above_child up lower y x p e) ∙ h)) [
        | inl k ↦ ap (root up) (eqb-true y x k)
        | inr k ↦ ih k ∙ sym (root_child x p e)
      ])

  -- where all are passed over, the root is
  nearest_none : (skip : ℕ → Bool) (x : ℕ) → nearest up skip x ≡ None → skip (root up x) ≡ true
  nearest_none skip = climb up lower (λ x. nearest up skip x ≡ None → skip (root up x) ≡ true)
      (λ x e h. by_test (skip x)
      (λ k. ap skip (root_top x e) ∙ k)
      (λ k. absurd (none_some x (sym h ∙ nearest_root up lower skip x e ∙ ap (λ b. cond b None (Some x)) k))))
      (λ x p e ih h. by_test (skip x)
      (λ k. ap skip (root_child x p e) ∙ ih (sym (ap (λ b. cond b (nearest up skip p) (Some x)) k) ∙ sym (nearest_child up lower skip x p e) ∙ h))
      (λ k. absurd (none_some x (sym h ∙ nearest_child up lower skip x p e ∙ ap (λ b. cond b (nearest up skip p) (Some x)) k))))

pub root_grown : (old new : ℕ → Option ℕ) → IsForest old → IsForest new → (n : ℕ) → ((x : ℕ) → x < n → new x ≡ old x) → (x : ℕ) → x < n → root new x ≡ root old x
root_grown old new old_lower new_lower n agree = climb old old_lower (λ x. x < n → root new x ≡ root old x)
    (λ x e h. root_top new new_lower x (agree x h ∙ e) ∙ sym (root_top old old_lower x e))
    (λ x p e ih h. let lt = old_lower x p e in root_child new new_lower x p (agree x h ∙ e) ∙ ih (omega arith) ∙ sym (root_child old old_lower x p e))

-- Places.
pub place_within : (rs : List ℕ) (x : ℕ) → place rs x ≤ length rs
place_within [] x = omega arith
place_within (r ∷ rs) x = by_number x r
    (λ e. let is = ap (λ b. cond b 0 (suc (place rs x))) (eq-eqb x r e) in omega arith)
    (λ e. let is = ap (λ b. cond b 0 (suc (place rs x))) (ne_eqb x r e) in let ih = place_within rs x in omega arith)

pub place_in : (rs : List ℕ) (x : ℕ) → In x rs → place rs x < length rs
place_in [] x i = absurd i
place_in (r ∷ rs) x (inl e) = let is = ap (λ b. cond b 0 (suc (place rs x))) (eq-eqb x r e) in omega arith
place_in (r ∷ rs) x (inr i) = by_number x r
    (λ e. let is = ap (λ b. cond b 0 (suc (place rs x))) (eq-eqb x r e) in omega arith)
    (λ e. let is = ap (λ b. cond b 0 (suc (place rs x))) (ne_eqb x r e) in let ih = place_in rs x i in omega arith)

-- where it stands in neither the front nor before
pub place_back : (rs ss : List ℕ) (x : ℕ) → (In x rs → ⊥) → place (rs ++ ss) x ≡ length rs + place ss x
place_back [] ss x out = omega arith
place_back (r ∷ rs) ss x out =
    let is = ap (λ b. cond b 0 (suc (place (rs ++ ss) x))) (ne_eqb x r (λ e. out (inl e))) in
    let ih = place_back rs ss x (λ i. out (inr i)) in
    omega arith

pub place_front : (rs ss : List ℕ) (x : ℕ) → In x rs → place (rs ++ ss) x ≡ place rs x
place_front [] ss x i = absurd i
place_front (r ∷ rs) ss x i = by_number x r
    (λ e. ap (λ b. cond b 0 (suc (place (rs ++ ss) x))) (eq-eqb x r e) ∙ sym (ap (λ b. cond b 0 (suc (place rs x))) (eq-eqb x r e)))
    (λ e.
    ap (λ b. cond b 0 (suc (place (rs ++ ss) x))) (ne_eqb x r e) ∙ ap suc (place_front rs ss x (elim (cased i) [ inl k ↦ absurd (e k) | inr k ↦ k ]))
    ∙ sym (ap (λ b. cond b 0 (suc (place rs x))) (ne_eqb x r e)))
  where
    cased : In x (r ∷ rs) → (x ≡ r) ⊎ In x rs
    cased k = k

-- a number stands in a list or not
pub by_in : {P : Type 0} (x : ℕ) (rs : List ℕ) → (In x rs → P) → ((In x rs → ⊥) → P) → P
by_in x [] f g = g (λ i. i)
by_in {P} x (r ∷ rs) f g = by_number x r (λ e. f (inl e)) (λ e. by_in x rs (λ i. f (inr i)) (λ out. g (λ i. elim (cased i) [ inl k ↦ e k | inr k ↦ out k ])))
  where
    cased : In x (r ∷ rs) → (x ≡ r) ⊎ In x rs
    cased k = k

-- one more at the end keeps the order
place_push : (rs : List ℕ) (t x y : ℕ) → place rs x < place rs y → place (rs ++ t ∷ []) x < place (rs ++ t ∷ []) y
place_push rs t x y lt = by_in x rs
    (λ i.
    let one = place_front rs (t ∷ []) x i in
    by_in y rs
    (λ j. let two = place_front rs (t ∷ []) y j in omega arith)
    (λ out. let two = place_back rs (t ∷ []) y out in let le = place_within rs y in omega arith))
    (λ out. let none = place_back rs [] x out in let all = place_within rs y in let same = ap (λ ss. place ss x) (append-nil rs) in absurd (omega arith))

module _ (C : Calls) where
  -- a committed top-level transaction is listed, and what is listed is committed
  pub roots_committed : (h : List (Event C)) (r : ℕ) → In r (committed_roots C h) → is_committed C h r ≡ true
  roots_committed [] r i = absurd i
  roots_committed (Begin n p ∷ h) r i = roots_committed h r i
  roots_committed (Call c ∷ h) r i = roots_committed h r i
  roots_committed (Undo k ∷ h) r i = roots_committed h r i
  roots_committed (Abort t ∷ h) r i = roots_committed h r i
  roots_committed (Commit t ∷ h) r i = by_test (is_some (parent C h t))
      (λ k. or_right (r == t) (is_committed C h r) (roots_committed h r (subst (In r) (ap (λ b. cond b (committed_roots C h) (committed_roots C h ++ t ∷ [])) k) i)))
      (λ k. elim (In-cases r (committed_roots C h) (t ∷ []) (subst (In r) (ap (λ b. cond b (committed_roots C h) (committed_roots C h ++ t ∷ [])) k) i)) [
        | inl j ↦ or_right (r == t) (is_committed C h r) (roots_committed h r j)
        | inr j ↦ elim j [ inl e ↦ or_left (r == t) (is_committed C h r) (eq-eqb r t e) | inr none ↦ absurd none ]
      ])

  -- an undo takes one call out
  pub less_standing : (k : ℕ) (h : List (Event C)) → passing (λ c. not (number C c == k)) (standing C h) ≡ standing C (Undo k ∷ h)
  less_standing k h = passing_twice (is_standing C h) (λ c. not (number C c == k)) (is_standing C (Undo k ∷ h)) (grants C h)
      (Each-from (λ c. is_standing C (Undo k ∷ h) c ≡ cond (is_standing C h c) (not (number C c == k)) false) (grants C h) (λ c i. test (number C c == k) (is_undone C h (number C c)) (is_gone C h c.asker)))
    where
      test : (b u g : Bool) → (not (b || u) && not g) ≡ cond (not u && not g) (not b) false
      test true true g = refl
      test true false true = refl
      test true false false = refl
      test false true g = refl
      test false false true = refl
      test false false false = refl

module _ (C : Calls) (L : Lawful C) (base : Base C) (base_sound : C.IsSound base.store) where
  -- the root of a live transaction is live, so it isn't committed
  pub live_root : (h : List (Event C)) → Sound C L base h → (t : ℕ) → IsLive C base.transaction h t → is_committed C h (root (parent C h) t) ≡ false
  live_root h sound = climb (parent C h) sound.forest (λ t. IsLive C base.transaction h t → is_committed C h (root (parent C h) t) ≡ false)
      (λ t e live. ap (is_committed C h) (root_top (parent C h) sound.forest t e) ∙ (lived C base.transaction h t live).uncommitted)
      (λ t p e ih live. ap (is_committed C h) (root_child (parent C h) sound.forest t p e) ∙ ih (sound.live_up t p live e))

  -- a committed top-level transaction is listed
  pub committed_listed : (h : List (Event C)) → Legal C base h → (r : ℕ) → r ≤ last_transaction C base.transaction h → parent C h r ≡ None → is_committed C h r ≡ true → In r (committed_roots C h)
  committed_listed [] legal r le top k = absurd (false≢true k)
  committed_listed (Begin n p ∷ h) legal r le top k = by_number r n
      (λ e. absurd (false≢true (sym (new_open h legal.1 r (let next = legal.0.next in omega arith)) ∙ k)))
      (λ e. let next = legal.0.next in committed_listed h legal.1 r (omega arith) (sym (put_other (parent C h) n p r e) ∙ top) k)
    where
      -- what isn't begun isn't committed
      new_open : (g : List (Event C)) → Legal C base g → (x : ℕ) → last_transaction C base.transaction g < x → is_committed C g x ≡ false
      new_open [] l x lt = refl
      new_open (Begin n p ∷ g) l x lt = let next = l.0.next in new_open g l.1 x (omega arith)
      new_open (Call c ∷ g) l x lt = new_open g l.1 x lt
      new_open (Undo k ∷ g) l x lt = new_open g l.1 x lt
      new_open (Abort t ∷ g) l x lt = new_open g l.1 x lt
      new_open (Commit t ∷ g) l x lt = let le = (lived C base.transaction g t l.0.live).begun in or_from (x == t) (is_committed C g x) (ne_eqb x t (λ e. absurd (omega arith))) (new_open g l.1 x lt)
  committed_listed (Call c ∷ h) legal r le top k = committed_listed h legal.1 r le top k
  committed_listed (Undo j ∷ h) legal r le top k = committed_listed h legal.1 r le top k
  committed_listed (Abort t ∷ h) legal r le top k = committed_listed h legal.1 r le top k
  committed_listed (Commit t ∷ h) legal r le top k = by_number r t
      (λ e. subst (In r) (sym (ap (λ b. cond b (committed_roots C h) (committed_roots C h ++ t ∷ [])) (ap is_some (ap (parent C h) (sym e) ∙ top)))) (In-back r (committed_roots C h) (t ∷ []) (inl e)))
      (λ e.
      let old = committed_listed h legal.1 r le top (elim (or_cases (r == t) (is_committed C h r) k) [ inl m ↦ absurd (e (eqb-true r t m)) | inr m ↦ m ]) in
      by_test (is_some (parent C h t))
      (λ m. subst (In r) (sym (ap (λ b. cond b (committed_roots C h) (committed_roots C h ++ t ∷ [])) m)) old)
      (λ m. subst (In r) (sym (ap (λ b. cond b (committed_roots C h) (committed_roots C h ++ t ∷ [])) m)) (In-front r (committed_roots C h) (t ∷ []) old)))

  -- The calls before a new one that conflict with it have its root, or their root committed.
  call_pair : (h : List (Event C)) → Legal C base h → (c : Done C) → MayGrant C base h c → (b : Done C) → In b (standing C h) → IsSerialPair C h b c
  call_pair h legal c may b i k =
      let sound = sound_all C L base base_sound h legal in
      let there = stands C L base h sound b i in
      let rb = root_of C h b in
      let rc = root_of C h c in
      by_option (owner_of C h b.asker)
      (λ e.
      let committed : is_committed C h rb ≡ true = nearest_none (parent C h) sound.forest (is_committed C h) b.asker (sym (owner_there C L base h sound b.asker (asker_there C L base h sound b i)) ∙ e) in
      let known : b.asker ≤ last_transaction C base.transaction h = asker_known C L base h sound b i in
      let falls : rb ≤ b.asker = root_falls (parent C h) sound.forest b.asker in
      let open_root : is_committed C h rc ≡ false = live_root h sound c.asker may.live in
      let first = place_in (committed_roots C h) rb (committed_listed h legal rb (omega arith) (root_is_top (parent C h) sound.forest b.asker) committed) in
      let second : place (committed_roots C h) rc ≡ length (committed_roots C h) = place_out (committed_roots C h) rc (λ j. false≢true (sym open_root ∙ roots_committed C h rc j)) in
      inr (omega arith))
      (λ y e.
      let above_c : over C h y c.asker ≡ true = unblocked_over C L base h sound c may b there.0 y e k in
      let above_b : over C h y b.asker ≡ true = (owner_live C L base h sound b.asker y (asker_known C L base h sound b i) e).0 in
      inl (sym (root_above (parent C h) sound.forest y b.asker above_b) ∙ root_above (parent C h) sound.forest y c.asker above_c))
    where
      place_out : (rs : List ℕ) (x : ℕ) → (In x rs → ⊥) → place rs x ≡ length rs
      place_out rs x out = let all = place_back rs [] x out in let same = ap (λ ss. place ss x) (append-nil rs) in omega arith

      root_falls : (up : ℕ → Option ℕ) → (lower : IsForest up) → (x : ℕ) → root up x ≤ x
      root_falls up lower = climb up lower (λ x. root up x ≤ x)
          (λ x e. let same = root_top up lower x e in omega arith)
          (λ x p e ih. let same = root_child up lower x p e in let lt = lower x p e in omega arith)

  pub serial_order_of : (h : List (Event C)) → Legal C base h → Pairs (IsSerialPair C h) (standing C h)
  serial_order_of [] legal = tt
  serial_order_of (Begin n p ∷ h) legal =
      let sound = sound_all C L base base_sound h legal.1 in
      let next = legal.0.next in
      let same : (c : Done C) → In c (standing C h) → root_of C (Begin n p ∷ h) c ≡ root_of C h c = λ c i.
      let le = asker_known C L base h sound c i in
      root_grown (parent C h) (parent C (Begin n p ∷ h)) sound.forest (begin_forest C L base h sound n p legal.0) n (λ x lt. put_other (parent C h) n p x (λ e. absurd (omega arith))) c.asker (omega arith) in
      subst (Pairs (IsSerialPair C (Begin n p ∷ h))) (sym (begin_standing C L base h sound n p legal.0))
      (Pairs-with (IsSerialPair C h) (IsSerialPair C (Begin n p ∷ h)) (λ c. In c (standing C h))
      (λ b a i j r k. elim (r k) [
        | inl e ↦ inl (same b i ∙ e ∙ sym (same a j))
        | inr lt ↦ inr (subst (λ x. place (committed_roots C h) x < place (committed_roots C h) (root_of C (Begin n p ∷ h) a)) (sym (same b i)) (subst (λ x. place (committed_roots C h) (root_of C h b) < place (committed_roots C h) x) (sym (same a j)) lt))
      ])
      (standing C h) (Each-from (λ c. In c (standing C h)) (standing C h) (λ c i. i)) (serial_order_of h legal.1))
  serial_order_of (Call c ∷ h) legal =
      let sound = sound_all C L base base_sound h legal.1 in
      subst (Pairs (IsSerialPair C h)) (sym (call_standing C L base h sound c legal.0))
      (Pairs-push (IsSerialPair C h) (standing C h) c (serial_order_of h legal.1) (Each-from (λ b. IsSerialPair C h b c) (standing C h) (call_pair h legal.1 c legal.0)))
  serial_order_of (Undo k ∷ h) legal = subst (Pairs (IsSerialPair C h)) (less_standing C k h) (Pairs-passing (IsSerialPair C h) (λ c. not (number C c == k)) (standing C h) (serial_order_of h legal.1))
  serial_order_of (Commit t ∷ h) legal =
      Pairs-map (IsSerialPair C h) (IsSerialPair C (Commit t ∷ h)) (λ b a r k. elim (r k) [ inl e ↦ inl e | inr lt ↦ inr (more (is_some (parent C h t)) (root_of C h b) (root_of C h a) lt) ]) (standing C h) (serial_order_of h legal.1)
    where
      more : (b : Bool) (x y : ℕ) → place (committed_roots C h) x < place (committed_roots C h) y
          → place (cond b (committed_roots C h) (committed_roots C h ++ t ∷ [])) x < place (cond b (committed_roots C h) (committed_roots C h ++ t ∷ [])) y
      more true x y lt = lt
      more false x y lt = place_push (committed_roots C h) t x y lt
  serial_order_of (Abort t ∷ h) legal =
      let sound = sound_all C L base base_sound h legal.1 in
      subst (Pairs (IsSerialPair C h)) (sym (abort_standing C L base h sound t legal.0)) (Pairs-passing (IsSerialPair C h) (stays (over C h) (owner C h) t) (standing C h) (serial_order_of h legal.1))
