-- What a function f makes of the elements of a list xs, against a list ys: of the first i of xs it
-- makes the first `made` of ys.
use Rattle.std.proofs.Common.{◌≡◌, ℕ, zero, suc, ◌+◌, ◌<◌, ◌≤◌, List, [], ◌∷◌, ◌++◌, length, take, drop, Option, Some, None, sym, ap, ◌∙◌, arith, append-nil, subst}
use Rattle.std.proofs.lemmas.List.{take_all, drop_all}
use Rattle.std.proofs.lemmas.Option.{slice_get-get_or}
use Rattle.std.specs.List.{slice_get, slice_index_or, filter_map, cons_option}

-- ---- two lists

module _ {A : Type 0} where
  next_same : (made : ℕ) (ys more later : List A) (a b : A) → slice_get ys made ≡ Some b → take made ys ++ a ∷ more ≡ ys ++ later → a ≡ b
  next_same made [] more later a b got same = absurd (cc)
  next_same zero (y ∷ ys) more later a b got same = cc
  next_same (suc made) (y ∷ ys) more later a b got same = next_same made ys more later a b got (cc)

  goes_on : (made : ℕ) (ys more : List A) (a : A) → length ys ≤ made → take made ys ++ a ∷ more ≡ ys → ⊥
  goes_on zero [] more a all same = absurd (cc)
  goes_on (suc made) [] more a all same = absurd (cc)
  goes_on zero (y ∷ ys) more a all same = omega arith
  goes_on (suc made) (y ∷ ys) more a all same = goes_on made ys more a (omega arith) (cc)

  ends_before : (made : ℕ) (ys later : List A) → made < length ys → take made ys ++ [] ≡ ys ++ later → ⊥
  ends_before made [] later less same = omega arith
  ends_before zero (y ∷ ys) later less same = absurd (cc)
  ends_before (suc made) (y ∷ ys) later less same = ends_before made ys later (omega arith) (cc)

  one_more : (made : ℕ) (ys more : List A) (y : A) → slice_get ys made ≡ Some y → take made ys ++ y ∷ more ≡ take (suc made) ys ++ more
  one_more made [] more y got = absurd (cc)
  one_more zero (x ∷ ys) more y got = cc
  one_more (suc made) (x ∷ ys) more y got = ap (λ (zs : List A). x ∷ zs) (one_more made ys more y got)

module _ {A B : Type 0} (f : A → Option B) where
  from_here : (xs : List A) (i : ℕ) (x : A) → slice_get xs i ≡ Some x → filter_map f (drop i xs) ≡ cons_option (f x) (filter_map f (drop (suc i) xs))
  from_here [] i x got = absurd (cc)
  from_here (w ∷ xs) zero x got = cc
  from_here (w ∷ xs) (suc i) x got = from_here xs i x got

more_by_one : (n : ℕ) → suc n ≡ n + 1
more_by_one n = omega arith

pub at : {A : Type 0} (xs : List A) (i : ℕ) (x : A) → i < length xs → x ≡ slice_index_or xs i x → slice_get xs i ≡ Some x
at xs i x within is = slice_get-get_or xs i x within ∙ ap Some (sym is)

-- ---- as far as a loop came

module _ {A B : Type 0} (f : A → Option B) (xs : List A) (ys : List B) where
  abbrev pub IsFront : ℕ → ℕ → Type 0
  IsFront i made = filter_map f xs ≡ take made ys ++ filter_map f (drop i xs)

  module _ (i made : ℕ) (so_far : IsFront i made) where
    module _ (x : A) (here : slice_get xs i ≡ Some x) where
      made_of : (o : Option B) → f x ≡ o → filter_map f xs ≡ take made ys ++ cons_option o (filter_map f (drop (suc i) xs))
      made_of o is = so_far ∙ ap (λ (zs : List B). take made ys ++ zs) (from_here f xs i x here ∙ ap (λ (p : Option B). cons_option p (filter_map f (drop (suc i) xs))) is)

      pub skips : f x ≡ None → IsFront (i + 1) made
      skips none = subst (λ (k : ℕ). IsFront k made) (more_by_one i) (made_of None none)

      module _ (y : B) (is : f x ≡ Some y) where
        pub goes_with : slice_get ys made ≡ Some y → IsFront (i + 1) (made + 1)
        goes_with got =
            let more : IsFront (suc i) (suc made) = made_of (Some y) is ∙ one_more made ys (filter_map f (drop (suc i) xs)) y got in
            subst (λ (k : ℕ). IsFront k (made + 1)) (more_by_one i) (subst (λ (n : ℕ). IsFront (suc i) n) (more_by_one made) more)

        -- Where ys is a front of what f makes of xs, the next of ys is y.
        pub next_is : (z : B) (later : List B) → slice_get ys made ≡ Some z → filter_map f xs ≡ ys ++ later → y ≡ z
        next_is z later got same = next_same made ys (filter_map f (drop (suc i) xs)) later y z got (sym (made_of (Some y) is) ∙ same)

        -- Where all of ys was made, it isn't all.
        pub is_longer : length ys ≤ made → filter_map f xs ≡ ys → ⊥
        is_longer all same = goes_on made ys (filter_map f (drop (suc i) xs)) y all (sym (made_of (Some y) is) ∙ same)

    module _ (ended : length xs ≤ i) where
      made_all : filter_map f xs ≡ take made ys ++ []
      made_all = so_far ∙ ap (λ (zs : List A). take made ys ++ filter_map f zs) (drop_all i xs ended)

      pub is_whole : length ys ≤ made → filter_map f xs ≡ ys
      is_whole all = made_all ∙ append-nil (take made ys) ∙ take_all made ys all

      -- Where some of ys wasn't made, it is no front.
      pub is_shorter : (later : List B) → made < length ys → filter_map f xs ≡ ys ++ later → ⊥
      is_shorter later less same = ends_before made ys later less (sym made_all ∙ same)
