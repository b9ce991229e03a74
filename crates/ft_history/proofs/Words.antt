-- Laws of the words on lists and on maps from numbers.
use Rattle.std.proofs.Common.{◌≡◌, ◌≢◌, ℕ, Bool, true, false, cond, Option, Some, None, List, [], ◌∷◌, ◌++◌, ◌⊎◌, inl, inr, map, reverse, sym, refl, ap, ◌∙◌, subst, ◌==◌, eq-eqb, ne_eqb, ◌<◌, arith, not}
use Rattle.std.proofs.lemmas.Bool.{false≢true}
use Rattle.ft_laws.specs.Lists.{Each, Pairs, In}
use Rattle.std.proofs.lemmas.Grind.{reverse_onto}
use Rattle.ft_laws.proofs.Lists.{Each-append, Each-front, Each-at, Pairs-push, In-front, In-back, In-cases}
pub use Rattle.ft_laws.proofs.Tests.{by_number}
use Rattle.ft_laws.proofs.Tests.{by_test}
use Rattle.ft_history.specs.Logs.{passing, put, rest, pushed, popped, handed, emptied}

-- Tests.

-- two that imply each other are one
pub same_test : (a b : Bool) → (a ≡ true → b ≡ true) → (b ≡ true → a ≡ true) → a ≡ b
same_test true b f g = sym (f refl)
same_test false true f g = absurd (false≢true (g refl))
same_test false false f g = refl

pub not_true : (b : Bool) → not b ≡ true → b ≡ false
not_true true e = absurd (false≢true e)
not_true false e = refl

pub not_false : (b : Bool) → not b ≡ false → b ≡ true
not_false true e = refl
not_false false e = absurd (false≢true (sym e))

-- Maps from numbers, and lists.

pub put_same : {A : Type 0} (f : ℕ → A) (n : ℕ) (new : A) (x : ℕ) → x ≡ n → put f n new x ≡ new
put_same f n new x e = ap (λ b. cond b new (f x)) (eq-eqb x n e)

pub put_other : {A : Type 0} (f : ℕ → A) (n : ℕ) (new : A) (x : ℕ) → x ≢ n → put f n new x ≡ f x
put_other f n new x e = ap (λ b. cond b new (f x)) (ne_eqb x n e)

-- a list, with what it is
pub by_list : {A P : Type 0} (xs : List A) → (xs ≡ [] → P) → ((y : A) (ys : List A) → xs ≡ y ∷ ys → P) → P
by_list [] n c = n refl
by_list (x ∷ xs) n c = c x xs refl

pub same_some : (a b : ℕ) → Some a ≡ Some b → a ≡ b
same_some a b e = cc

pub none_some : (a : ℕ) → None ≡ Some a → ⊥
none_some a e = cc

-- the owner after t's commit: its parent, or none
abbrev pub moved : ℕ → Option ℕ → Option ℕ → Option ℕ
moved t up None = None
moved t up (Some x) = cond (x == t) up (Some x)

pub moved_same : (t : ℕ) (up : Option ℕ) (x : ℕ) → x ≡ t → moved t up (Some x) ≡ up
moved_same t up x e = ap (λ b. cond b up (Some x)) (eq-eqb x t e)

pub moved_other : (t : ℕ) (up : Option ℕ) (x : ℕ) → x ≢ t → moved t up (Some x) ≡ Some x
moved_other t up x e = ap (λ b. cond b up (Some x)) (ne_eqb x t e)

-- what an owner was before the commit
pub moved_from : (t : ℕ) (up : Option ℕ) (u : ℕ) (o : Option ℕ) → moved t up o ≡ Some u → ((o ≡ Some t) × (up ≡ Some u)) ⊎ ((o ≡ Some u) × (u ≢ t))
moved_from t up u None h = absurd (none_some u h)
moved_from t up u (Some x) h = by_number x t
    (λ e. inl (ap Some e, sym (moved_same t up x e) ∙ h))
    (λ e. inr (sym (moved_other t up x e) ∙ h, λ f. e (same_some x u (sym (moved_other t up x e) ∙ h) ∙ f)))

-- an element that passes
pub In-passing : {A : Type 0} (p : A → Bool) (x : A) (xs : List A) → In x (passing p xs) → In x xs × (p x ≡ true)
In-passing p x [] i = absurd i
In-passing p x (y ∷ ys) i = by_test (p y)
    (λ k. elim (cased (subst (In x) (ap (λ b. cond b (y ∷ passing p ys) (passing p ys)) k) i)) [
      | inl e ↦ (inl e, ap p e ∙ k)
      | inr j ↦ let more = In-passing p x ys j in (inr more.0, more.1)
    ])
    (λ k. let more = In-passing p x ys (subst (In x) (ap (λ b. cond b (y ∷ passing p ys) (passing p ys)) k) i) in (inr more.0, more.1))
  where
    cased : In x (y ∷ passing p ys) → (x ≡ y) ⊎ In x (passing p ys)
    cased j = j

pub passing-In : {A : Type 0} (p : A → Bool) (x : A) (xs : List A) → In x xs → p x ≡ true → In x (passing p xs)
passing-In p x [] i k = absurd i
passing-In p x (y ∷ ys) (inl e) k = subst (In x) (sym (ap (λ b. cond b (y ∷ passing p ys) (passing p ys)) (ap p (sym e) ∙ k))) (inl e)
passing-In p x (y ∷ ys) (inr i) k = by_test (p y)
    (λ m. subst (In x) (sym (ap (λ b. cond b (y ∷ passing p ys) (passing p ys)) m)) (inr (passing-In p x ys i k)))
    (λ m. subst (In x) (sym (ap (λ b. cond b (y ∷ passing p ys) (passing p ys)) m)) (passing-In p x ys i k))

pub passing_agree : {A : Type 0} (p q : A → Bool) (xs : List A) → Each (λ x. p x ≡ q x) xs → passing p xs ≡ passing q xs
passing_agree p q [] h = refl
passing_agree p q (x ∷ xs) h = ap (λ b. cond b (x ∷ passing p xs) (passing p xs)) h.0 ∙ ap (λ ys. cond (q x) (x ∷ ys) ys) (passing_agree p q xs h.1)

pub passing_push : {A : Type 0} (p : A → Bool) (xs : List A) (x : A) → p x ≡ true → passing p (xs ++ x ∷ []) ≡ passing p xs ++ x ∷ []
passing_push p [] x h = ap (λ b. cond b (x ∷ []) []) h
passing_push p (y ∷ ys) x h = ap (λ zs. cond (p y) (y ∷ zs) zs) (passing_push p ys x h) ∙ pull (p y)
  where
    pull : (b : Bool) → cond b (y ∷ (passing p ys ++ x ∷ [])) (passing p ys ++ x ∷ []) ≡ cond b (y ∷ passing p ys) (passing p ys) ++ x ∷ []
    pull true = refl
    pull false = refl

pub passing_twice : {A : Type 0} (p q r : A → Bool) (xs : List A) → Each (λ x. r x ≡ cond (p x) (q x) false) xs → passing q (passing p xs) ≡ passing r xs
passing_twice p q r [] h = refl
passing_twice p q r (x ∷ xs) h = by_test (p x)
    (λ k. ap (λ b. passing q (cond b (x ∷ passing p xs) (passing p xs))) k ∙ ap (λ ys. cond (q x) (x ∷ ys) ys) (passing_twice p q r xs h.1)
    ∙ sym (ap (λ b. cond b (x ∷ passing r xs) (passing r xs)) (h.0 ∙ ap (λ b. cond b (q x) false) k)))
    (λ k. ap (λ b. passing q (cond b (x ∷ passing p xs) (passing p xs))) k ∙ passing_twice p q r xs h.1
    ∙ sym (ap (λ b. cond b (x ∷ passing r xs) (passing r xs)) (h.0 ∙ ap (λ b. cond b (q x) false) k)))

pub passing_all : {A : Type 0} (p : A → Bool) (xs : List A) → Each (λ x. p x ≡ true) xs → passing p xs ≡ xs
passing_all p [] h = refl
passing_all p (x ∷ xs) h = ap (λ b. cond b (x ∷ passing p xs) (passing p xs)) h.0 ∙ ap (λ ys. x ∷ ys) (passing_all p xs h.1)

pub passing_front : {A : Type 0} (p : A → Bool) (xs ys : List A) → Each (λ y. p y ≡ false) ys → passing p (xs ++ ys) ≡ passing p xs
passing_front p [] [] h = refl
passing_front p [] (y ∷ ys) h = ap (λ b. cond b (y ∷ passing p ys) (passing p ys)) h.0 ∙ passing_front p [] ys h.1
passing_front p (x ∷ xs) ys h = ap (λ zs. cond (p x) (x ∷ zs) zs) (passing_front p xs ys h)

pub Each-passing : {A : Type 0} (P : A → Type 0) (p : A → Bool) (xs : List A) → Each P xs → Each P (passing p xs)
Each-passing P p [] h = tt
Each-passing P p (x ∷ xs) h = by_test (p x)
    (λ k. subst (Each P) (sym (ap (λ b. cond b (x ∷ passing p xs) (passing p xs)) k)) (h.0, Each-passing P p xs h.1))
    (λ k. subst (Each P) (sym (ap (λ b. cond b (x ∷ passing p xs) (passing p xs)) k)) (Each-passing P p xs h.1))

-- The changes of the lists, on the images of their elements.
module _ {A B : Type 0} (f : A → B) (log : ℕ → List A) (seen : ℕ → List B) (same : (t : ℕ) → map f (log t) ≡ seen t) where
  pub map_put : (n : ℕ) (xs : List A) (ys : List B) → map f xs ≡ ys → (t : ℕ) → map f (put log n xs t) ≡ put seen n ys t
  map_put n xs ys e t = by_number t n
      (λ k. ap (map f) (put_same log n xs t k) ∙ e ∙ sym (put_same seen n ys t k))
      (λ k. ap (map f) (put_other log n xs t k) ∙ same t ∙ sym (put_other seen n ys t k))

  map_rest : (xs : List A) → map f (rest xs) ≡ rest (map f xs)
  map_rest [] = refl
  map_rest (x ∷ xs) = refl

  pub map_pushed : (n : ℕ) (x : A) (y : B) → f x ≡ y → (t : ℕ) → map f (pushed log n x t) ≡ pushed seen n y t
  map_pushed n x y e = map_put n (x ∷ log n) (y ∷ seen n) (ap (λ z. z ∷ map f (log n)) e ∙ ap (λ zs. y ∷ zs) (same n))

  pub map_popped : (o : Option ℕ) (t : ℕ) → map f (popped log o t) ≡ popped seen o t
  map_popped None t = same t
  map_popped (Some n) t = map_put n (rest (log n)) (rest (seen n)) (map_rest (log n) ∙ ap rest (same n)) t

  pub map_emptied : (above : ℕ → ℕ → Bool) (n t : ℕ) → map f (emptied above log n t) ≡ emptied above seen n t
  map_emptied above n t = by_test (above n t)
      (λ k. ap (λ b. map f (cond b [] (log t))) k ∙ sym (ap (λ b. cond b [] (seen t)) k))
      (λ k. ap (λ b. map f (cond b [] (log t))) k ∙ same t ∙ sym (ap (λ b. cond b [] (seen t)) k))

map_both : {A B : Type 0} (f : A → B) (xs ys : List A) → map f (xs ++ ys) ≡ map f xs ++ map f ys
map_both f [] ys = refl
map_both f (x ∷ xs) ys = ap (λ zs. f x ∷ zs) (map_both f xs ys)

pub map_handed : {A B : Type 0} (f : A → B) (log : ℕ → List A) (seen : ℕ → List B) → ((t : ℕ) → map f (log t) ≡ seen t) → (n : ℕ) (o : Option ℕ) (t : ℕ) → map f (handed log n o t) ≡ handed seen n o t
map_handed f log seen same n None t = map_put f log seen same n [] [] refl t
map_handed f log seen same n (Some p) t =
    map_put f (put log p (log n ++ log p)) (put seen p (seen n ++ seen p))
    (map_put f log seen same p (log n ++ log p) (seen n ++ seen p) (map_both f (log n) (log p) ∙ ap (λ xs. xs ++ map f (log p)) (same n) ∙ ap (λ ys. seen n ++ ys) (same p)))
    n [] [] refl t

-- an element's image is in the image
pub In-map : {A B : Type 0} (f : A → B) (x : A) (xs : List A) → In x xs → In (f x) (map f xs)
In-map f x [] i = absurd i
In-map f x (y ∷ ys) (inl e) = inl (ap f e)
In-map f x (y ∷ ys) (inr i) = inr (In-map f x ys i)

-- what is in a list after a commit was in one before
pub In-handed : {A : Type 0} (log : ℕ → List A) (n : ℕ) (o : Option ℕ) (t : ℕ) (x : A) → In x (handed log n o t) → (v : ℕ) × In x (log v)
In-handed log n None t x i = by_number t n
    (λ k. absurd (subst (In x) (put_same log n [] t k) i))
    (λ k. (t, subst (In x) (put_other log n [] t k) i))
In-handed log n (Some p) t x i = by_number t n
    (λ k. absurd (subst (In x) (put_same (put log p (log n ++ log p)) n [] t k) i))
    (λ k.
    let j = subst (In x) (put_other (put log p (log n ++ log p)) n [] t k) i in
    by_number t p
    (λ m. elim (In-cases x (log n) (log p) (subst (In x) (put_same log p (log n ++ log p) t m) j)) [ inl a ↦ (n, a) | inr a ↦ (p, a) ])
    (λ m. (t, subst (In x) (put_other log p (log n ++ log p) t m) j)))

-- after an abort, and where one more came
pub In-emptied : {A : Type 0} (above : ℕ → ℕ → Bool) (log : ℕ → List A) (n t : ℕ) (x : A) → In x (emptied above log n t) → In x (log t)
In-emptied above log n t x i = by_test (above n t)
    (λ k. absurd (subst (In x) (ap (λ b. cond b [] (log t)) k) i))
    (λ k. subst (In x) (ap (λ b. cond b [] (log t)) k) i)

-- a list from its end on
pub In-reverse : {A : Type 0} (x : A) (xs : List A) → In x xs → In x (reverse xs)
In-reverse x [] i = i
In-reverse x (y ∷ ys) (inl e) = subst (In x) (sym (reverse_onto ys y [])) (In-back x (reverse ys) (y ∷ []) (inl e))
In-reverse x (y ∷ ys) (inr i) = subst (In x) (sym (reverse_onto ys y [])) (In-front x (reverse ys) (y ∷ []) (In-reverse x ys i))

pub Each-reverse : {A : Type 0} (P : A → Type 0) (xs : List A) → Each P xs → Each P (reverse xs)
Each-reverse P [] h = tt
Each-reverse P (x ∷ xs) h = subst (Each P) (sym (reverse_onto xs x [])) (Each-append P (reverse xs) (x ∷ []) (Each-reverse P xs h.1) (h.0, tt))

pub Pairs-reverse : {A : Type 0} (R : A → A → Type 0) (xs : List A) → Pairs R xs → Pairs (λ x y. R y x) (reverse xs)
Pairs-reverse R [] h = tt
Pairs-reverse R (x ∷ xs) h = subst (Pairs (λ y z. R z y)) (sym (reverse_onto xs x [])) (Pairs-push (λ y z. R z y) (reverse xs) x (Pairs-reverse R xs h.1) (Each-reverse (R x) xs h.0))

pub Pairs-passing : {A : Type 0} (R : A → A → Type 0) (p : A → Bool) (xs : List A) → Pairs R xs → Pairs R (passing p xs)
Pairs-passing R p [] h = tt
Pairs-passing R p (x ∷ xs) h = by_test (p x)
    (λ k. subst (Pairs R) (sym (ap (λ b. cond b (x ∷ passing p xs) (passing p xs)) k)) (Each-passing (R x) p xs h.0, Pairs-passing R p xs h.1))
    (λ k. subst (Pairs R) (sym (ap (λ b. cond b (x ∷ passing p xs) (passing p xs)) k)) (Pairs-passing R p xs h.1))

pub Pairs-front : {A : Type 0} (R : A → A → Type 0) (xs ys : List A) → Pairs R (xs ++ ys) → Pairs R xs
Pairs-front R [] ys h = tt
Pairs-front R (x ∷ xs) ys h = (Each-front (R x) xs ys h.0, Pairs-front R xs ys h.1)

-- Two rising lists of the same numbers are one.
pub rising_one : (xs ys : List ℕ) → Pairs (λ x y. x < y) xs → Pairs (λ x y. x < y) ys → ((x : ℕ) → In x xs → In x ys) → ((x : ℕ) → In x ys → In x xs) → xs ≡ ys
rising_one [] [] rx ry to from = refl
rising_one [] (y ∷ ys) rx ry to from = absurd (from y (inl refl))
rising_one (x ∷ xs) [] rx ry to from = absurd (to x (inl refl))
rising_one (x ∷ xs) (y ∷ ys) rx ry to from =
    let head : x ≡ y = heads (to x (inl refl)) (from y (inl refl)) in
    ap (λ z. z ∷ xs) head ∙ ap (λ zs. y ∷ zs) (rising_one xs ys rx.1 ry.1
    (λ z j. behind z x y ys (Each-at (λ w. x < w) xs z rx.0 j) head (to z (inr j)))
    (λ z j. behind z y x xs (Each-at (λ w. y < w) ys z ry.0 j) (sym head) (from z (inr j))))
  where
    heads : (x ≡ y) ⊎ In x ys → (y ≡ x) ⊎ In y xs → x ≡ y
    heads (inl e) other = e
    heads (inr i) (inl e) = sym e
    heads (inr i) (inr j) = let one = Each-at (λ w. y < w) ys x ry.0 i in let two = Each-at (λ w. x < w) xs y rx.0 j in absurd (omega arith)

    behind : (z a b : ℕ) (bs : List ℕ) → a < z → a ≡ b → (z ≡ b) ⊎ In z bs → In z bs
    behind z a b bs lt e (inl is) = absurd (omega arith)
    behind z a b bs lt e (inr i) = i
