-- The pieces between the slashes of a text.
use Rattle.std.proofs.Common.{◌≡◌, ◌≤◌, ℕ, suc, Bool, true, false, cond, ◌||◌, List, [], ◌∷◌, ◌++◌, length, filter, refl, sym, ap, ◌∙◌, arith}
use Rattle.std.specs.Prelude.{◌==◌, nat_lt}
use Rattle.std.proofs.lemmas.Bool.{false≢true}
use Rattle.std.specs.List.{slice_split, onto_first, list_any, AllByRecursion}
use Rattle.std.proofs.lemmas.Bool.Decides.{nat_tests}
use Rattle.ft_path.specs.FilePath.{is_component}
use Rattle.ft_path.specs.Name.{slash, has_nul, has_slash, IsNulFree}

-- no byte is null or a slash
pub record IsPlain (bytes : List ℕ) : Type 0 where
  pub no_nul : IsNulFree bytes
  pub no_slash : has_slash bytes ≡ false

pub neither : (a b : Bool) → (a || b) ≡ false → (a ≡ false) × (b ≡ false)
neither true b h = absurd (false≢true (sym h))
neither false b h = (refl, h)

longer : (x : ℕ) (pieces : List (List ℕ)) → (x == 0) ≡ false → (x == slash) ≡ false → AllByRecursion IsPlain pieces → AllByRecursion IsPlain (onto_first x pieces)
longer x [] nul apart h = (record { no_nul = ap (λ b. b || false) nul; no_slash = ap (λ b. b || false) apart }, tt)
longer x (piece ∷ pieces) nul apart h =
    (record { no_nul = ap (λ b. b || has_nul piece) nul ∙ h.0.no_nul; no_slash = ap (λ b. b || has_slash piece) apart ∙ h.0.no_slash }, h.1)

-- the pieces of a text without a null byte are plain
pub pieces_plain : (bytes : List ℕ) → IsNulFree bytes → AllByRecursion IsPlain (slice_split (λ b. b == slash) bytes)
pieces_plain [] h = (record { no_nul = refl; no_slash = refl }, tt)
pieces_plain (x ∷ xs) h = by_slash (x == slash) refl (pieces_plain xs (neither (x == 0) _ h).1)
  where
    by_slash : (b : Bool) → (x == slash) ≡ b → AllByRecursion IsPlain (slice_split (λ b. b == slash) xs)
        → AllByRecursion IsPlain (cond b ([] ∷ slice_split (λ b. b == slash) xs) (onto_first x (slice_split (λ b. b == slash) xs)))
    by_slash true is rest = (record { no_nul = refl; no_slash = refl }, rest)
    by_slash false is rest = longer x _ (neither (x == 0) _ h).0 is rest

-- a text without a slash is one piece
pub pieces_of_free : (text : List ℕ) → has_slash text ≡ false → slice_split (λ b. b == slash) text ≡ text ∷ []
pieces_of_free [] h = refl
pieces_of_free (x ∷ xs) h =
    let both = neither (x == slash) _ h in
    ap (λ b. cond b ([] ∷ slice_split (λ b. b == slash) xs) (onto_first x (slice_split (λ b. b == slash) xs))) both.0 ∙ ap (onto_first x) (pieces_of_free xs both.1)

-- the first piece ends at the first slash
pub pieces_of_cut : (piece rest : List ℕ) → has_slash piece ≡ false → slice_split (λ b. b == slash) (piece ++ slash ∷ rest) ≡ piece ∷ slice_split (λ b. b == slash) rest
pieces_of_cut [] rest h = refl
pieces_of_cut (x ∷ xs) rest h =
    let both = neither (x == slash) _ h in
    ap (λ b. cond b ([] ∷ slice_split (λ b. b == slash) (xs ++ slash ∷ rest)) (onto_first x (slice_split (λ b. b == slash) (xs ++ slash ∷ rest)))) both.0 ∙ ap (onto_first x) (pieces_of_cut xs rest both.1)

-- no piece has more bytes than the text
more_within : (n : ℕ) (pieces : List (List ℕ)) → AllByRecursion (λ p. length p ≤ n) pieces → AllByRecursion (λ p. length p ≤ suc n) pieces
more_within n [] h = tt
more_within n (piece ∷ pieces) h = (let le = h.0 in omega arith, more_within n pieces h.1)

longer_within : (n x : ℕ) (pieces : List (List ℕ)) → AllByRecursion (λ p. length p ≤ n) pieces → AllByRecursion (λ p. length p ≤ suc n) (onto_first x pieces)
longer_within n x [] h = (omega arith, tt)
longer_within n x (piece ∷ pieces) h = (let le = h.0 in omega arith, more_within n pieces h.1)

pieces_within : (bytes : List ℕ) → AllByRecursion (λ p. length p ≤ length bytes) (slice_split (λ b. b == slash) bytes)
pieces_within [] = (omega arith, tt)
pieces_within (x ∷ xs) =
    elim (x == slash) as (λ b. AllByRecursion (λ p. length p ≤ suc (length xs)) (cond b ([] ∷ slice_split (λ b. b == slash) xs) (onto_first x (slice_split (λ b. b == slash) xs)))) [
      | true ↦ (omega arith, more_within (length xs) _ (pieces_within xs))
      | false ↦ longer_within (length xs) x _ (pieces_within xs)
    ]

none_longer : (n m : ℕ) (pieces : List (List ℕ)) → m ≤ n → AllByRecursion (λ p. length p ≤ m) pieces → list_any (λ p. nat_lt n (length p)) (filter is_component pieces) ≡ false
none_longer n m [] le h = refl
none_longer n m (piece ∷ pieces) le h =
    elim (is_component piece) as (λ b. list_any (λ p. nat_lt n (length p)) (cond b (piece ∷ filter is_component pieces) (filter is_component pieces)) ≡ false) [
      | true ↦ ap (λ b. b || list_any (λ p. nat_lt n (length p)) (filter is_component pieces)) (fits (length piece) h.0) ∙ none_longer n m pieces le h.1
      | false ↦ none_longer n m pieces le h.1
    ]
  where
    fits : (k : ℕ) → k ≤ m → nat_lt n k ≡ false
    fits k small = grind (arith, nat_tests)

-- so a short text has no long one
pub none_long : (n : ℕ) (bytes : List ℕ) → length bytes ≤ n → list_any (λ p. nat_lt n (length p)) (filter is_component (slice_split (λ b. b == slash) bytes)) ≡ false
none_long n bytes le = none_longer n (length bytes) _ le (pieces_within bytes)
