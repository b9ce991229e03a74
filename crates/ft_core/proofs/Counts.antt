-- Counting how long a list is, and how many pass a test.
use Rattle.std.proofs.Common.{◌≡◌, ◌≢◌, ◌<◌, ◌≤◌, ◌+◌, ◌-◌, ◌&&◌, ℕ, Bool, true, false, not, cond, List, [], ◌∷◌, ◌++◌, inl, inr, length, length-append, arith, refl, ap, sym, subst, ◌∙◌}
use Rattle.std.specs.Prelude.{nat_lt}
use Rattle.std.proofs.lemmas.Bool.{false≢true, ltb-true}
use Rattle.ft_laws.specs.Lists.{Each, Pairs, In}
use Rattle.ft_laws.proofs.Lists.{Each-map, Each-at, In-split, In-without}
use Rattle.ft_laws.proofs.Tests.{by_test}
use Rattle.ft_history.specs.Logs.{passing}
use Rattle.ft_history.proofs.Words.{passing_agree, passing_push}

-- one more in a list is one more in a sum
pub length-push : {A : Type 0} (xs : List A) (x : A) (first last : ℕ) → first + length xs ≡ last → first + length (xs ++ x ∷ []) ≡ last + 1
length-push [] x first last e = omega arith
length-push (y ∷ ys) x first last e = let ih = length-push ys x (first + 1) last (omega arith) in omega arith

module _ {A : Type 0} (p : A → Bool) where
  taken : (x : A) (xs : List A) → p x ≡ true → length (passing p (x ∷ xs)) ≡ length (passing p xs) + 1
  taken x xs k = let e : length (passing p (x ∷ xs)) ≡ length (x ∷ passing p xs) = ap (λ b. length (cond b (x ∷ passing p xs) (passing p xs))) k in omega arith

  left : (x : A) (xs : List A) → p x ≡ false → length (passing p (x ∷ xs)) ≡ length (passing p xs)
  left x xs k = ap (λ b. length (cond b (x ∷ passing p xs) (passing p xs))) k

  pub fewer-pass : (xs : List A) → length (passing p xs) ≤ length xs
  fewer-pass [] = omega arith
  fewer-pass (x ∷ xs) =
      let ih = fewer-pass xs in
      by_test (p x)
      (λ k. let e = taken x xs k in omega arith)
      (λ k. let e = left x xs k in omega arith)

  pub none-passes : (xs : List A) → Each (λ x. p x ≡ false) xs → length (passing p xs) ≡ 0
  none-passes [] h = omega arith
  none-passes (x ∷ xs) h = left x xs h.0 ∙ none-passes xs h.1

  pub one-pushed : (xs : List A) (x : A) → p x ≡ true → length (passing p (xs ++ x ∷ [])) ≡ length (passing p xs) + 1
  one-pushed xs x k =
      let pushed = ap length (passing_push p xs x k) in
      let both = length-append (passing p xs) (x ∷ []) in
      omega arith

-- Two tests.
module _ {A : Type 0} (p q : A → Bool) where
  pub as-many : (xs : List A) → Each (λ x. p x ≡ q x) xs → length (passing p xs) ≡ length (passing q xs)
  as-many xs h = ap length (passing_agree p q xs h)

  -- one element fewer passes; the elements are told from one another by numbers that rise
  pub one-fewer : (f : A → ℕ) (xs : List A) (x : A) → Pairs (λ a b. f a < f b) xs → In x xs → p x ≡ false → q x ≡ true → ((y : A) → f y ≢ f x → p y ≡ q y) → length (passing p xs) + 1 ≡ length (passing q xs)
  one-fewer f [] x rise i now was same = absurd i
  one-fewer f (y ∷ ys) x rise (inl is) now was same =
      let first : f x ≡ f y = ap f is in
      let e = left p y ys (ap p (sym is) ∙ now) in
      let g = taken q y ys (ap q (sym is) ∙ was) in
      let rest = as-many ys (Each-map (λ z. f y < f z) (λ z. p z ≡ q z) (λ z lt. same z (λ k. absurd (omega arith))) ys rise.0) in
      omega arith
  one-fewer f (y ∷ ys) x rise (inr i) now was same =
      let lt : f y < f x = Each-at (λ z. f y < f z) ys x rise.0 i in
      let agree = same y (λ k. absurd (omega arith)) in
      let ih = one-fewer f ys x rise.1 i now was same in
      by_test (q y)
      (λ k. let e = taken p y ys (agree ∙ k) in let g = taken q y ys k in omega arith)
      (λ k. let e = left p y ys (agree ∙ k) in let g = left q y ys k in omega arith)

  -- those that pass are parted by a third test
  pub parted : (r : A → Bool) (xs : List A) → Each (λ x. p x ≡ (q x && not (r x))) xs → length (passing p xs) + length (passing (λ x. q x && r x) xs) ≡ length (passing q xs)
  parted r [] h = omega arith
  parted r (x ∷ xs) h =
      let ih = parted r xs h.1 in
      by_test (q x)
      (λ k. by_test (r x)
      (λ m.
      let a = left p x xs (h.0 ∙ (λ i. k i && not (m i))) in
      let b = taken (λ y. q y && r y) x xs (λ i. k i && m i) in
      let c = taken q x xs k in
      omega arith)
      (λ m.
      let a = taken p x xs (h.0 ∙ (λ i. k i && not (m i))) in
      let b = left (λ y. q y && r y) x xs (λ i. k i && m i) in
      let c = taken q x xs k in
      omega arith))
      (λ k.
      let a = left p x xs (h.0 ∙ ap (λ b. b && not (r x)) k) in
      let b = left (λ y. q y && r y) x xs (ap (λ b. b && r x) k) in
      let c = left q x xs k in
      omega arith)

-- of rising numbers above low not more are below most than there are numbers
pub few-below : (q : ℕ → Bool) (xs : List ℕ) (low most : ℕ) → Pairs (λ x y. x < y) xs → Each (λ x. low < x) xs → length (passing (λ x. nat_lt x most && q x) xs) ≤ most - (low + 1)
few-below q [] low most rise above = omega arith
few-below q (x ∷ xs) low most rise above =
    let ih = few-below q xs x most rise.1 rise.0 in
    let lt = above.0 in
    by_test (nat_lt x most && q x)
    (λ k. let less = ltb-true x most (front (nat_lt x most) (q x) k) in let e = taken (λ y. nat_lt y most && q y) x xs k in omega arith)
    (λ k. let e = left (λ y. nat_lt y most && q y) x xs k in omega arith)
  where
    front : (a b : Bool) → (a && b) ≡ true → a ≡ true
    front true b e = refl
    front false b e = absurd (false≢true e)

-- Lists of the same elements, of which no two have one number, are equally long.
module _ {A : Type 0} (f : A → ℕ) where
  no-longer : (xs ys : List A) → Pairs (λ a b. f a ≢ f b) xs → ((x : A) → In x xs → In x ys) → length xs ≤ length ys
  no-longer [] ys apart to = omega arith
  no-longer (x ∷ xs) ys apart to =
      let split = In-split x ys (to x (inl refl)) in
      let rest = no-longer xs (split.0 ++ split.1) apart.1
      (λ z i. elim (In-without z split.0 x split.1 (subst (In z) split.2 (to z (inr i)))) [
        | inl is ↦ absurd (Each-at (λ b. f x ≢ f b) xs z apart.0 i (ap f (sym is)))
        | inr j ↦ j
      ]) in
      let whole = ap length split.2 in
      let long = length-append split.0 (x ∷ split.1) in
      let short = length-append split.0 split.1 in
      omega arith

  pub equally-long : (xs ys : List A) → Pairs (λ a b. f a ≢ f b) xs → Pairs (λ a b. f a ≢ f b) ys → ((x : A) → In x xs → In x ys) → ((x : A) → In x ys → In x xs) → length xs ≡ length ys
  equally-long xs ys apart apart' to from = let le = no-longer xs ys apart to in let ge = no-longer ys xs apart' from in omega arith
