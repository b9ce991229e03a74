-- The components of a path behind a front of it that ends in a slash.
use Rattle.std.proofs.Common.{◌≡◌, ◌≢◌, ◌+◌, ◌-◌, ℕ, true, false, cond, ◌&&◌, List, [], ◌∷◌, ◌++◌, length, length-append, drop, filter, Some, refl, sym, ap, subst, ◌∙◌, append_assoc, arith}
use Rattle.std.specs.Prelude.{◌==◌, nat_lt, nat_eq}
use Rattle.std.proofs.lemmas.Bool.{or_parts}
use Rattle.std.proofs.lemmas.Bool.Decides.{nat_tests}
use Rattle.std.proofs.lemmas.List.Elements.{filter-append}
use Rattle.std.proofs.lemmas.List.Folds.{list_any-append}
use Rattle.std.proofs.Math.Seq.{drop-append-add}
use Rattle.std.specs.Cmp.Lexicographic.{pointwise}
use Rattle.std.proofs.lemmas.Option.{same_Some}
use Rattle.std.specs.List.{slice_get, slice_split, onto_first, list_any, ends_with}
use Rattle.ft_path.specs.Name.{slash, has_nul, IsNulFree}
use Rattle.ft_path.specs.FilePath.{components, is_component, is_long, has_trailing_slash}
use Rattle.ft_path.specs.declared.path.Parts.{Parts}
use Rattle.ft_path.specs.Judged.{EndsInSlash, IsBehind}

abbrev pub cut : List ℕ → List (List ℕ)
cut text = slice_split (λ b. b == slash) text

onto-append : (x : ℕ) (ps qs : List (List ℕ)) → ps ≢ [] → onto_first x (ps ++ qs) ≡ onto_first x ps ++ qs
onto-append x [] qs some = absurd (some refl)
onto-append x (p ∷ ps) qs some = refl

onto-some : (x : ℕ) (ps : List (List ℕ)) → onto_first x ps ≢ []
onto-some x [] = λ e. cc
onto-some x (p ∷ ps) = λ e. cc

cut-some : (f : List ℕ) → cut f ≢ []
cut-some [] = λ e. cc
cut-some (x ∷ f) =
    elim (x == slash) as (λ b. cond b ([] ∷ cut f) (onto_first x (cut f)) ≢ []) [
      | true ↦ λ e. cc
      | false ↦ onto-some x (cut f)
    ]

-- the pieces of a text that goes on behind a slash
cut-append : (f r : List ℕ) → cut (f ++ slash ∷ r) ≡ cut f ++ cut r
cut-append [] r = refl
cut-append (x ∷ f) r =
    elim (x == slash) as (λ b. cond b ([] ∷ cut (f ++ slash ∷ r)) (onto_first x (cut (f ++ slash ∷ r))) ≡ cond b ([] ∷ cut f) (onto_first x (cut f)) ++ cut r) [
      | true ↦ ap (λ ps. [] ∷ ps) (cut-append f r)
      | false ↦ ap (onto_first x) (cut-append f r) ∙ onto-append x (cut f) (cut r) (cut-some f)
    ]

components-cut : (f r : List ℕ) → components (f ++ slash ∷ r) ≡ filter is_component (cut f) ++ components r
components-cut f r = ap (filter is_component) (cut-append f r) ∙ filter-append is_component (cut f) (cut r)

nothing_behind : (xs : List (List ℕ)) → xs ++ [] ≡ xs
nothing_behind [] = refl
nothing_behind (x ∷ xs) = ap (λ ys. x ∷ ys) (nothing_behind xs)

-- a slash at the end adds none
pub components-front : (f : List ℕ) → components (f ++ slash ∷ []) ≡ filter is_component (cut f)
components-front f = components-cut f [] ∙ nothing_behind (filter is_component (cut f))

-- those before the slash, and those behind it
pub components-append : (f r : List ℕ) → components (f ++ slash ∷ r) ≡ components (f ++ slash ∷ []) ++ components r
components-append f r = components-cut f r ∙ ap (λ xs. xs ++ components r) (sym (components-front f))

counts : (b : ℕ) (p : List ℕ) → is_component (b ∷ p) ≡ true
counts b p = grind (arith, nat_tests)

pub kept : (b : ℕ) (ps : List (List ℕ)) → filter is_component (onto_first b ps) ≢ []
kept b [] = subst (λ t. cond t ((b ∷ []) ∷ []) [] ≢ []) (sym (counts b [])) (λ e. cc)
kept b (p ∷ ps) = subst (λ t. cond t ((b ∷ p) ∷ filter is_component ps) (filter is_component ps) ≢ []) (sym (counts b p)) (λ e. cc)

-- a text that begins with another byte has a component
pub begins : (b : ℕ) (r : List ℕ) → (b == slash) ≡ false → components (b ∷ r) ≢ []
begins b r other = subst (λ t. filter is_component (cond t ([] ∷ cut r) (onto_first b (cut r))) ≢ []) (sym other) (kept b (cut r))

pub some-first : (xs : List (List ℕ)) → xs ≢ [] → nat_lt 0 (length xs) ≡ true
some-first [] some = absurd (some refl)
some-first (x ∷ xs) some = grind (arith, nat_tests)

append-some : (xs ys : List (List ℕ)) → ys ≢ [] → xs ++ ys ≢ []
append-some [] ys some = some
append-some (x ∷ xs) ys some = λ e. cc

-- the end of a text is that of its rest
pub same-end : (f : List ℕ) (b : ℕ) (r : List ℕ) → ends_with nat_eq (f ++ b ∷ r) (slash ∷ []) ≡ ends_with nat_eq (b ∷ r) (slash ∷ [])
same-end f b r =
    let far : length (f ++ b ∷ r) - 1 ≡ length f + (length (b ∷ r) - 1) = omega (arith, length-append f (b ∷ r)) in
    ap (λ n. pointwise nat_eq (slash ∷ []) (drop n (f ++ b ∷ r))) far ∙ ap (pointwise nat_eq (slash ∷ [])) (drop-append-add f (b ∷ r) (length (b ∷ r) - 1))

-- the parts of a text
abbrev pub parts_at : List ℕ → Parts
parts_at bytes = record { names = components bytes; trailing = has_trailing_slash bytes }

module _ (front : List ℕ) (b : ℕ) (r : List ℕ) (slashed : EndsInSlash front) (other : (b == slash) ≡ false) where
  abbrev rest : List ℕ
  rest = b ∷ r

  split : front ++ rest ≡ slashed.0 ++ slash ∷ rest
  split = ap (λ f. f ++ rest) slashed.1 ∙ append_assoc slashed.0 (slash ∷ []) rest

  names : components (front ++ rest) ≡ components front ++ components rest
  names = ap components split ∙ components-append slashed.0 rest ∙ ap (λ f. components f ++ components rest) (sym slashed.1)

  is_behind : (bytes : List ℕ) → bytes ≡ front ++ rest → IsBehind front (parts_at rest) (parts_at bytes)
  is_behind bytes is = record {
    names = ap components is ∙ names;
    some = begins b r other;
    trailing =
        let here : nat_lt 0 (length (components rest)) ≡ true = some-first (components rest) (begins b r other) in
        let all : nat_lt 0 (length (components (front ++ rest))) ≡ true = ap (λ ns. nat_lt 0 (length ns)) names ∙ some-first _ (append-some (components front) (components rest) (begins b r other)) in
        ap (λ t. t && ends_with nat_eq rest (slash ∷ [])) (here ∙ sym all)
        ∙ ap (λ e. nat_lt 0 (length (components (front ++ rest))) && e) (sym (same-end front b r))
        ∙ ap has_trailing_slash (sym is);
  }

  -- what is not in the whole is not in the rest
  rest_short : (bytes : List ℕ) → bytes ≡ front ++ rest → list_any is_long (components bytes) ≡ false → list_any is_long (components rest) ≡ false
  rest_short bytes is short =
      (or_parts (list_any is_long (components front)) (list_any is_long (components rest))
      (sym (list_any-append is_long (components front) (components rest)) ∙ ap (list_any is_long) (sym names ∙ ap components (sym is)) ∙ short)).1

  rest_free : (bytes : List ℕ) → bytes ≡ front ++ rest → IsNulFree bytes → IsNulFree rest
  rest_free bytes is free = (or_parts (has_nul front) (has_nul rest) (sym (list_any-append (λ x. x == 0) front rest) ∙ ap has_nul (sym is) ∙ free)).1

-- the same of a rest that begins with another byte
module _ (front rest bytes : List ℕ) (b : ℕ) (slashed : EndsInSlash front) (is : bytes ≡ front ++ rest) (first : Some b ≡ slice_get rest 0) (differs : b ≢ slash) where
  other : (b == slash) ≡ false
  other = grind (arith, nat_tests)

  taken : rest ≡ b ∷ drop 1 rest
  taken = by_first rest first
    where
      by_first : (xs : List ℕ) → Some b ≡ slice_get xs 0 → xs ≡ b ∷ drop 1 xs
      by_first [] e = cc
      by_first (x ∷ xs) e = ap (λ y. y ∷ xs) (same_Some x b (sym e))

  pub goes_on : IsBehind front (parts_at rest) (parts_at bytes)
  goes_on = subst (λ r. IsBehind front (parts_at r) (parts_at bytes)) (sym taken) (is_behind front b (drop 1 rest) slashed other bytes (is ∙ ap (λ r. front ++ r) taken))

  pub still_judged : IsNulFree bytes → list_any is_long (components bytes) ≡ false → IsNulFree rest × (list_any is_long (components rest) ≡ false)
  still_judged free short =
      subst (λ r. IsNulFree r × (list_any is_long (components r) ≡ false)) (sym taken) (
        rest_free front b (drop 1 rest) slashed other bytes (is ∙ ap (λ r. front ++ r) taken) free,
        rest_short front b (drop 1 rest) slashed other bytes (is ∙ ap (λ r. front ++ r) taken) short,
      )
