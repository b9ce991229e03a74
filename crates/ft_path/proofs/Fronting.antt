-- The front of a path: its text up to and with the slash before the last component.
use Rattle.std.proofs.Common.{◌≡◌, ◌≢◌, ◌≤◌, ◌<◌, ◌+◌, ◌-◌, ℕ, suc, Bool, true, false, cond, ◌&&◌, List, [], ◌∷◌, ◌++◌, length, take, drop, get_or, filter, refl, sym, ap, subst, ◌∙◌, append_assoc, add-one, arith}
use Rattle.std.specs.Prelude.{◌==◌, nat_lt, nat_eq}
use Rattle.std.proofs.lemmas.Bool.{and_parts, or_parts}
use Rattle.std.proofs.lemmas.Bool.Decides.{nat_tests, Decides-eqb}
use Rattle.std.proofs.lemmas.List.{take-append-drop}
use Rattle.std.proofs.lemmas.List.Folds.{list_any-append}
use Rattle.std.proofs.lemmas.Slice.Eq.{ends_is}
use Rattle.std.proofs.Math.Seq.{take-suc}
use Rattle.std.specs.List.{onto_first, list_any, ends_with}
use Rattle.ft_path.specs.Name.{slash, has_nul, IsNulFree}
use Rattle.ft_path.specs.FilePath.{components, is_component, is_long, has_trailing_slash}
use Rattle.ft_path.specs.Judged.{EndsInSlash}
use Rattle.ft_path.proofs.Behind.{cut, kept, begins, some-first, same-end, components-append, components-front}

-- a text whose last byte is no slash has a component
last-some : (t : List ℕ) (c : ℕ) → (c == slash) ≡ false → filter is_component (cut (t ++ c ∷ [])) ≢ []
last-some [] c other = begins c [] other
last-some (x ∷ t) c other =
    elim (x == slash) as (λ b. filter is_component (cond b ([] ∷ cut (t ++ c ∷ [])) (onto_first x (cut (t ++ c ∷ [])))) ≢ []) [
      | true ↦ last-some t c other
      | false ↦ kept x (cut (t ++ c ∷ []))
    ]

-- and so it has with a slash behind it, which is then a trailing one
trails : (t : List ℕ) (c : ℕ) → (c == slash) ≡ false → has_trailing_slash ((t ++ c ∷ []) ++ slash ∷ []) ≡ true
trails t c other =
    let some : components ((t ++ c ∷ []) ++ slash ∷ []) ≢ [] = subst (λ xs. xs ≢ []) (sym (components-front (t ++ c ∷ []))) (last-some t c other) in
    ap (λ b. b && ends_with nat_eq ((t ++ c ∷ []) ++ slash ∷ []) (slash ∷ [])) (some-first _ some) ∙ same-end (t ++ c ∷ []) slash []

-- a trailing slash is the last byte
pub slash_ends : (bytes : List ℕ) (trailing : Bool) → has_trailing_slash bytes ≡ trailing → trailing ≡ true → EndsInSlash bytes
slash_ends bytes trailing is has =
    let last = (and_parts (nat_lt 0 (length (components bytes))) (ends_with nat_eq bytes (slash ∷ [])) (is ∙ has)).1 in
    (take (length bytes - 1) bytes, (ends_is {E = nat_eq} Decides-eqb bytes (slash ∷ []) (ends_with nat_eq bytes (slash ∷ [])) refl).0 last)

module _ (bytes : List ℕ) (at : ℕ) (within : at < length bytes) (is_slash : get_or bytes at 0 ≡ slash) where
  up_to : take (at + 1) bytes ≡ take at bytes ++ slash ∷ []
  up_to = ap (λ n. take n bytes) (add-one at) ∙ take-suc bytes at 0 within ∙ ap (λ b. take at bytes ++ b ∷ []) is_slash

  whole : bytes ≡ take at bytes ++ slash ∷ drop (at + 1) bytes
  whole = sym (take-append-drop (at + 1) bytes) ∙ ap (λ f. f ++ drop (at + 1) bytes) up_to ∙ append_assoc (take at bytes) (slash ∷ []) (drop (at + 1) bytes)

  -- what is not in the whole is not in the front
  pub front_judged : IsNulFree bytes → list_any is_long (components bytes) ≡ false → IsNulFree (take (at + 1) bytes) × (list_any is_long (components (take (at + 1) bytes)) ≡ false)
  front_judged free short = (
    (or_parts (has_nul (take (at + 1) bytes)) (has_nul (drop (at + 1) bytes)) (sym (list_any-append (λ x. x == 0) (take (at + 1) bytes) (drop (at + 1) bytes)) ∙ ap has_nul (take-append-drop (at + 1) bytes) ∙ free)).0,
    ap (λ f. list_any is_long (components f)) up_to
        ∙ (or_parts (list_any is_long (components (take at bytes ++ slash ∷ []))) (list_any is_long (components (drop (at + 1) bytes)))
        (sym (list_any-append is_long (components (take at bytes ++ slash ∷ [])) (components (drop (at + 1) bytes))) ∙ ap (list_any is_long) (sym (components-append (take at bytes) (drop (at + 1) bytes)) ∙ ap components (sym whole)) ∙ short)).0,
  )

  -- where another byte stands before the slash it has a component
  pub front_trails : 1 ≤ at → get_or bytes (at - 1) 0 ≢ slash → has_trailing_slash (take (at + 1) bytes) ≡ true
  front_trails some other =
      let c = get_or bytes (at - 1) 0 in
      let is : (c == slash) ≡ false = grind (arith, nat_tests) in
      let here : suc (at - 1) ≡ at = omega arith in
      let before : take at bytes ≡ take (at - 1) bytes ++ c ∷ [] = ap (λ n. take n bytes) (sym here) ∙ take-suc bytes (at - 1) 0 (omega arith) in
      ap has_trailing_slash (up_to ∙ ap (λ f. f ++ slash ∷ []) before) ∙ trails (take (at - 1) bytes) c is
