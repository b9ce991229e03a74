-- How the lines of a text are cut.
use Rattle.std.proofs.Common.{◌≡◌, ℕ, ◌<◌, cond, List, [], ◌∷◌, ◌++◌, length, refl, ap, ◌∙◌, arith}
use Rattle.std.specs.Prelude.{◌==◌}
use Rattle.std.specs.List.{onto_first}
use Rattle.ft_words.specs.Spelling.{IsFreeOf, lines_of}
use Rattle.ft_words.proofs.Bytes.{neither}

-- the first line ends at the first line feed
pub lines_of_cut : (bytes rest : List ℕ) → IsFreeOf 10 bytes → lines_of (bytes ++ 10 ∷ rest) ≡ bytes ∷ lines_of rest
lines_of_cut [] rest h = refl
lines_of_cut (x ∷ xs) rest h =
    let both = neither (x == 10) _ h in
    ap (λ b. cond b ([] ∷ lines_of (xs ++ 10 ∷ rest)) (onto_first x (lines_of (xs ++ 10 ∷ rest)))) both.0 ∙ ap (onto_first x) (lines_of_cut xs rest both.1)

-- the last line may lack its line feed
pub lines_of_last : (x : ℕ) (xs : List ℕ) → IsFreeOf 10 (x ∷ xs) → lines_of (x ∷ xs) ≡ (x ∷ xs) ∷ []
lines_of_last x [] h = ap (λ b. cond b ([] ∷ []) ((x ∷ []) ∷ [])) (neither (x == 10) _ h).0
lines_of_last x (y ∷ ys) h =
    let both = neither (x == 10) _ h in
    ap (λ b. cond b ([] ∷ lines_of (y ∷ ys)) (onto_first x (lines_of (y ∷ ys)))) both.0 ∙ ap (onto_first x) (lines_of_last y ys both.1)

pub lines_of_rest : (text : List ℕ) → IsFreeOf 10 text → 0 < length text → lines_of text ≡ text ∷ []
lines_of_rest [] h some = absurd (omega arith)
lines_of_rest (x ∷ xs) h some = lines_of_last x xs h
