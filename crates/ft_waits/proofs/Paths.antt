-- Paths along edges, and lists whose members differ.
use Rattle.std.proofs.Common.{◌≡◌, ◌≢◌, ℕ, false, List, [], ◌∷◌, ◌++◌, Contains, nat_eq, append-nil, arith, refl, sym, subst}
use Rattle.std.specs.List.{IsDistinct, AllByRecursion}
use Rattle.std.proofs.lemmas.Bool.Decides.{nat_tests}
use Rattle.std.proofs.lemmas.List.Elements.{All-contains, All-contains_itself, All-from_recursion, All-weaker, recursion_from_All}
use Rattle.ft_waits.specs.declared.edge.Edge.{Edge}
use Rattle.ft_waits.specs.Waits.{HasEdge, first_or, IsPath, IsCycle}

first-append : (xs ys : List ℕ) (to : ℕ) → first_or (xs ++ ys) to ≡ first_or xs (first_or ys to)
first-append [] ys to = refl
first-append (x ∷ xs) ys to = refl

module _ (edges : List Edge) where
  pub path-join : (xs ys : List ℕ) (to : ℕ) → IsPath edges xs (first_or ys to) → IsPath edges ys to → IsPath edges (xs ++ ys) to
  path-join [] ys to front back = back
  path-join (x ∷ xs) ys to front back = (subst (λ n. HasEdge edges x n) (sym (first-append xs ys to)) front.0, path-join xs ys to front.1 back)

  pub path-front : (xs ys : List ℕ) (to : ℕ) → IsPath edges (xs ++ ys) to → IsPath edges xs (first_or ys to)
  path-front [] ys to h = tt
  path-front (x ∷ xs) ys to h = (subst (λ n. HasEdge edges x n) (first-append xs ys to) h.0, path-front xs ys to h.1)

  pub path-back : (xs ys : List ℕ) (to : ℕ) → IsPath edges (xs ++ ys) to → IsPath edges ys to
  path-back [] ys to h = h
  path-back (x ∷ xs) ys to h = path-back xs ys to h.1

  pub cycle-turned : (xs ys : List ℕ) → IsCycle edges (xs ++ ys) → IsCycle edges (ys ++ xs)
  cycle-turned [] ys h = subst (λ zs. IsCycle edges zs) (sym (append-nil ys)) h
  cycle-turned (x ∷ xs) [] h = subst (λ zs. IsCycle edges zs) (append-nil (x ∷ xs)) h
  cycle-turned (x ∷ xs) (y ∷ ys) h = path-join (y ∷ ys) (x ∷ xs) y (path-back (x ∷ xs) (y ∷ ys) x h) (path-front (x ∷ xs) (y ∷ ys) x h)

module _ (P : ℕ → Type 0) where
  each-front : (xs ys : List ℕ) → AllByRecursion P (xs ++ ys) → AllByRecursion P xs
  each-front [] ys h = tt
  each-front (x ∷ xs) ys h = (h.0, each-front xs ys h.1)

  each-back : (xs ys : List ℕ) → AllByRecursion P (xs ++ ys) → AllByRecursion P ys
  each-back [] ys h = h
  each-back (x ∷ xs) ys h = each-back xs ys h.1

  each-join : (xs ys : List ℕ) → AllByRecursion P xs → AllByRecursion P ys → AllByRecursion P (xs ++ ys)
  each-join [] ys front back = back
  each-join (x ∷ xs) ys front back = (front.0, each-join xs ys front.1 back)

differ : (x y : ℕ) → nat_eq x y ≡ false → nat_eq y x ≡ false
differ x y h = grind (arith, nat_tests)

unlike : (x y : ℕ) → x ≢ y → nat_eq x y ≡ false
unlike x y h = grind (arith, nat_tests)

All-from_places : (xs : List ℕ) (x : ℕ) → ((y : ℕ) → Contains xs y → x ≢ y) → AllByRecursion (λ y. nat_eq x y ≡ false) xs
All-from_places xs x differs = recursion_from_All (λ y. nat_eq x y ≡ false) xs (All-weaker (Contains xs) (λ y. nat_eq x y ≡ false) (λ y among. unlike x y (differs y among)) xs (All-contains_itself xs))

pub distinct-front : (xs ys : List ℕ) → IsDistinct nat_eq (xs ++ ys) → IsDistinct nat_eq xs
unfolding IsDistinct
distinct-front [] ys h = tt
distinct-front (x ∷ xs) ys h = (each-front (λ y. nat_eq x y ≡ false) xs ys h.0, distinct-front xs ys h.1)

pub distinct-back : (xs ys : List ℕ) → IsDistinct nat_eq (xs ++ ys) → IsDistinct nat_eq ys
unfolding IsDistinct
distinct-back [] ys h = h
distinct-back (x ∷ xs) ys h = distinct-back xs ys h.1

distinct-insert : (x : ℕ) (xs ys : List ℕ) → AllByRecursion (λ y. nat_eq x y ≡ false) (xs ++ ys) → IsDistinct nat_eq (xs ++ ys) → IsDistinct nat_eq (xs ++ x ∷ ys)
unfolding IsDistinct
distinct-insert x [] ys apart h = (apart, h)
distinct-insert x (z ∷ xs) ys apart h =
    (each-join (λ y. nat_eq z y ≡ false) xs (x ∷ ys) (each-front (λ y. nat_eq z y ≡ false) xs ys h.0) (differ x z apart.0, each-back (λ y. nat_eq z y ≡ false) xs ys h.0), distinct-insert x xs ys apart.1 h.1)

pub distinct-turned : (xs ys : List ℕ) → IsDistinct nat_eq (xs ++ ys) → IsDistinct nat_eq (ys ++ xs)
unfolding IsDistinct
distinct-turned [] ys h = subst (λ zs. IsDistinct nat_eq zs) (sym (append-nil ys)) h
distinct-turned (x ∷ xs) ys h =
    let apart = λ (y : ℕ). nat_eq x y ≡ false in
    distinct-insert x ys xs (each-join apart ys xs (each-back apart xs ys h.0) (each-front apart xs ys h.0)) (distinct-turned xs ys h.1)

-- a list of members that differ, and one more that differs from each
pub distinct-push : (xs : List ℕ) (x : ℕ) → IsDistinct nat_eq xs → ((y : ℕ) → Contains xs y → x ≢ y) → IsDistinct nat_eq (xs ++ x ∷ [])
unfolding IsDistinct
distinct-push xs x h differs =
    let apart = All-from_places xs x differs in
    distinct-turned (x ∷ []) xs (apart, h)

-- the last differs from each before it
pub last-differs : (xs : List ℕ) (last : ℕ) → IsDistinct nat_eq (xs ++ last ∷ []) → (x : ℕ) → Contains xs x → x ≢ last
unfolding IsDistinct
last-differs xs last h x among same =
    let apart : nat_eq last x ≡ false = All-contains (λ y. nat_eq last y ≡ false) xs x (All-from_recursion (λ y. nat_eq last y ≡ false) xs (distinct-turned xs (last ∷ []) h).0) among in
    grind (arith, nat_tests, apart, same)
