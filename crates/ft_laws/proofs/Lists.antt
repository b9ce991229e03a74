-- Laws of the words on lists.
use Rattle.std.proofs.Common.{◌≡◌, List, [], ◌∷◌, ◌++◌, ◌⊎◌, inl, inr, subst, sym, refl, ap}
use Rattle.ft_laws.specs.Lists.{Each, Pairs, In}

pub Each-append : {A : Type 0} (P : A → Type 0) (xs ys : List A) → Each P xs → Each P ys → Each P (xs ++ ys)
Each-append P [] ys a b = b
Each-append P (x ∷ xs) ys a b = (a.0, Each-append P xs ys a.1 b)

pub Each-front : {A : Type 0} (P : A → Type 0) (xs ys : List A) → Each P (xs ++ ys) → Each P xs
Each-front P [] ys h = tt
Each-front P (x ∷ xs) ys h = (h.0, Each-front P xs ys h.1)

pub Each-back : {A : Type 0} (P : A → Type 0) (xs ys : List A) → Each P (xs ++ ys) → Each P ys
Each-back P [] ys h = h
Each-back P (x ∷ xs) ys h = Each-back P xs ys h.1

pub Each-map : {A : Type 0} (P Q : A → Type 0) → ((x : A) → P x → Q x) → (xs : List A) → Each P xs → Each Q xs
Each-map P Q f [] h = tt
Each-map P Q f (x ∷ xs) h = (f x h.0, Each-map P Q f xs h.1)

-- two facts of each element give a third
pub Each-both : {A : Type 0} (P Q R : A → Type 0) → ((x : A) → P x → Q x → R x) → (xs : List A) → Each P xs → Each Q xs → Each R xs
Each-both P Q R f [] h k = tt
Each-both P Q R f (x ∷ xs) h k = (f x h.0 k.0, Each-both P Q R f xs h.1 k.1)

pub Each-at : {A : Type 0} (P : A → Type 0) (xs : List A) (x : A) → Each P xs → In x xs → P x
Each-at P [] x h i = absurd i
Each-at P (y ∷ ys) x h (inl e) = subst P (sym e) h.0
Each-at P (y ∷ ys) x h (inr i) = Each-at P ys x h.1 i

pub Each-from : {A : Type 0} (P : A → Type 0) (xs : List A) → ((x : A) → In x xs → P x) → Each P xs
Each-from P [] f = tt
Each-from P (y ∷ ys) f = (f y (inl refl), Each-from P ys (λ x i. f x (inr i)))

-- the list without one element
pub Each-without : {A : Type 0} (P : A → Type 0) (xs : List A) (a : A) (ys : List A) → Each P (xs ++ a ∷ ys) → Each P (xs ++ ys)
Each-without P [] a ys h = h.1
Each-without P (x ∷ xs) a ys h = (h.0, Each-without P xs a ys h.1)

pub Pairs-back : {A : Type 0} (R : A → A → Type 0) (xs ys : List A) → Pairs R (xs ++ ys) → Pairs R ys
Pairs-back R [] ys h = h
Pairs-back R (x ∷ xs) ys h = Pairs-back R xs ys h.1

pub Pairs-without : {A : Type 0} (R : A → A → Type 0) (xs : List A) (a : A) (ys : List A) → Pairs R (xs ++ a ∷ ys) → Pairs R (xs ++ ys)
Pairs-without R [] a ys h = h.1
Pairs-without R (x ∷ xs) a ys h = (Each-without (R x) xs a ys h.0, Pairs-without R xs a ys h.1)

pub Pairs-map : {A : Type 0} (R S : A → A → Type 0) → ((x y : A) → R x y → S x y) → (xs : List A) → Pairs R xs → Pairs S xs
Pairs-map R S f [] h = tt
Pairs-map R S f (x ∷ xs) h = (Each-map (R x) (S x) (f x) xs h.0, Pairs-map R S f xs h.1)

-- with one more at the end
pub Pairs-push : {A : Type 0} (R : A → A → Type 0) (xs : List A) (a : A) → Pairs R xs → Each (λ x. R x a) xs → Pairs R (xs ++ a ∷ [])
Pairs-push R [] a h k = (tt, tt)
Pairs-push R (x ∷ xs) a h k = (Each-append (R x) xs (a ∷ []) h.0 (k.0, tt), Pairs-push R xs a h.1 k.1)

pub Pairs-append : {A : Type 0} (R : A → A → Type 0) (xs ys : List A) → Pairs R xs → Pairs R ys → ((x y : A) → In x xs → In y ys → R x y) → Pairs R (xs ++ ys)
Pairs-append R [] ys h k f = k
Pairs-append R (x ∷ xs) ys h k f =
    (Each-append (R x) xs ys h.0 (Each-from (R x) ys (λ y i. f x y (inl refl) i)), Pairs-append R xs ys h.1 k (λ z y i j. f z y (inr i) j))

-- each in front of a stands in R with it
pub Pairs-before : {A : Type 0} (R : A → A → Type 0) (xs : List A) (a : A) (ys : List A) → Pairs R (xs ++ a ∷ ys) → Each (λ x. R x a) xs
Pairs-before R [] a ys h = tt
Pairs-before R (x ∷ xs) a ys h = ((Each-back (R x) xs (a ∷ ys) h.0).0, Pairs-before R xs a ys h.1)

pub Pairs-after : {A : Type 0} (R : A → A → Type 0) (xs : List A) (a : A) (ys : List A) → Pairs R (xs ++ a ∷ ys) → Each (R a) ys
Pairs-after R xs a ys h = (Pairs-back R xs (a ∷ ys) h).0

pub In-front : {A : Type 0} (x : A) (xs ys : List A) → In x xs → In x (xs ++ ys)
In-front x [] ys i = absurd i
In-front x (y ∷ xs) ys (inl e) = inl e
In-front x (y ∷ xs) ys (inr i) = inr (In-front x xs ys i)

pub In-back : {A : Type 0} (x : A) (xs ys : List A) → In x ys → In x (xs ++ ys)
In-back x [] ys i = i
In-back x (y ∷ xs) ys i = inr (In-back x xs ys i)

pub In-cases : {A : Type 0} (x : A) (xs ys : List A) → In x (xs ++ ys) → In x xs ⊎ In x ys
In-cases x [] ys i = inr i
In-cases x (y ∷ xs) ys (inl e) = inl (inl e)
In-cases x (y ∷ xs) ys (inr i) = elim (In-cases x xs ys i) [ inl j ↦ inl (inr j) | inr j ↦ inr j ]

pub In-with : {A : Type 0} (x : A) (xs : List A) (a : A) (ys : List A) → In x (xs ++ ys) → In x (xs ++ a ∷ ys)
In-with x [] a ys i = inr i
In-with x (y ∷ xs) a ys (inl e) = inl e
In-with x (y ∷ xs) a ys (inr i) = inr (In-with x xs a ys i)

pub In-without : {A : Type 0} (x : A) (xs : List A) (a : A) (ys : List A) → In x (xs ++ a ∷ ys) → (x ≡ a) ⊎ In x (xs ++ ys)
In-without x [] a ys i = i
In-without x (y ∷ xs) a ys (inl e) = inr (inl e)
In-without x (y ∷ xs) a ys (inr i) = elim (In-without x xs a ys i) [ inl e ↦ inl e | inr j ↦ inr (inr j) ]

-- an element of a list splits it
pub In-split : {A : Type 0} (x : A) (xs : List A) → In x xs → (front : List A) × (back : List A) × (xs ≡ front ++ x ∷ back)
In-split x [] i = absurd i
In-split x (y ∷ ys) (inl e) = ([], ys, ap (λ z. z ∷ ys) (sym e))
In-split x (y ∷ ys) (inr i) = let s = In-split x ys i in (y ∷ s.0, s.1, ap (λ zs. y ∷ zs) s.2)

-- pairs, with a fact of each element
pub Pairs-with : {A : Type 0} (R S : A → A → Type 0) (P : A → Type 0) → ((x y : A) → P x → P y → R x y → S x y) → (xs : List A) → Each P xs → Pairs R xs → Pairs S xs
Pairs-with R S P f [] p h = tt
Pairs-with R S P f (x ∷ xs) p h = (Each-both P (R x) (S x) (λ y q r. f x y p.0 q r) xs p.1 h.0, Pairs-with R S P f xs p.1 h.1)
