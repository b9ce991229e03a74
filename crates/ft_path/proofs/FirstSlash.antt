-- Where the first slash of a text stands.
use Rattle.std.proofs.Common.{◌≡◌, ◌≤◌, ◌<◌, ℕ, zero, suc, ◌+◌, ◌-◌, Bool, true, false, ◌||◌, List, ◌∷◌, ◌++◌, length, length-drop, take, drop, get_or, refl, sym, ap, ◌∙◌, arith, add-one}
use Rattle.std.specs.Prelude.{◌==◌}
use Rattle.std.proofs.Math.Seq.{drop-cons, take-length}
use Rattle.std.proofs.lemmas.Bool.Decides.{nat_tests}
use Rattle.std.proofs.lemmas.List.{take-append-drop}
use Rattle.std.proofs.lemmas.List.Folds.{list_any_more}
use Rattle.bstr.specs.Find.{Nowhere, Passes, is_byte}
use Rattle.ft_path.specs.Name.{slash, has_slash}

not_slash : (b : Bool) → ¬ (b ≡ true) → b ≡ false
not_slash true differs = absurd (differs refl)
not_slash false differs = refl

-- no slash stands in a front of a text that has none up to there
pub no_slash_before : (text : List ℕ) (n : ℕ) → n ≤ length text → Nowhere (Passes (is_byte slash) text) 0 n → has_slash (take n text) ≡ false
no_slash_before text zero le none = refl
no_slash_before text (suc n) le none =
    let front : has_slash (take n text) ≡ false = no_slash_before text n (omega arith) (λ k low high. none k low (omega arith)) in
    let here : (get_or text n 0 == slash) ≡ false = not_slash _ (none n (omega arith) (omega arith)) in
    ap (λ m. has_slash (take m text)) (sym (add-one n)) ∙ list_any_more (λ b. b == slash) text n 0 (omega arith) ∙ ap (λ b. b || (get_or text n 0 == slash)) front ∙ here

-- a text in which none is found has none
pub no_slash : (text : List ℕ) → Nowhere (Passes (is_byte slash) text) 0 (length text) → has_slash text ≡ false
no_slash text none = sym (ap has_slash (take-length text)) ∙ no_slash_before text (length text) (omega arith) none

-- a text is what stands before its slash, the slash, and what stands after it
pub first_slash : (text : List ℕ) (n : ℕ) → n < length text → Passes (is_byte slash) text n → text ≡ take n text ++ slash ∷ take (length text - (n + 1)) (drop (n + 1) text)
first_slash text n lt is =
    let rest : take (length text - (n + 1)) (drop (n + 1) text) ≡ drop (n + 1) text = ap (λ m. take m (drop (n + 1) text)) (sym (length-drop (n + 1) text)) ∙ take-length (drop (n + 1) text) in
    let byte : get_or text n 0 ≡ slash = grind (arith, nat_tests) in
    sym (take-append-drop n text) ∙ ap (λ more. take n text ++ more) (drop-cons text n 0 lt ∙ ap (λ b. b ∷ drop (suc n) text) byte ∙ ap (λ m. slash ∷ drop m text) (sym (add-one n)) ∙ ap (λ more. slash ∷ more) (sym rest))
