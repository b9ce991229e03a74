-- How a report is read row by row.
use Rattle.std.proofs.Common.{◌≡◌, ℕ, suc, List, [], ◌∷◌, ◌++◌, Option, None, Some, refl, sym, ap, ◌∙◌, append_assoc}
use Rattle.std.specs.Prelude.{option_and_then, option_map}
use Rattle.ft_words.specs.Spelling.{words_of}
use Rattle.ft_save.specs.declared.row.Row.{Row}
use Rattle.ft_save.specs.Reading.{row_of, rows_of}

behind : (rows : List Row) (row : Row) (others : Option (List Row)) → option_map (λ l. rows ++ l) (option_map (λ l. row ∷ l) others) ≡ option_map (λ l. (rows ++ row ∷ []) ++ l) others
behind rows row None = refl
behind rows row (Some others) = ap Some (sym (append_assoc rows (row ∷ []) others))

-- the next row stands behind those that were read
pub next_row : (so_far : Option (List Row)) (rows : List Row) (left k : ℕ) (lines : List (List ℕ)) (line : List ℕ) (rest : List (List ℕ)) (row : Row)
    → so_far ≡ option_map (λ l. rows ++ l) (rows_of left lines) → left ≡ suc k → lines ≡ line ∷ rest → row_of (words_of line) ≡ Some row
    → so_far ≡ option_map (λ l. (rows ++ row ∷ []) ++ l) (rows_of k rest)
next_row so_far rows left k lines line rest row is one more told =
    is ∙ ap (λ n. option_map (λ l. rows ++ l) (rows_of n lines)) one ∙ ap (λ ls. option_map (λ l. rows ++ l) (rows_of (suc k) ls)) more
    ∙ ap (λ o. option_map (λ l. rows ++ l) (option_and_then (λ r. option_map (λ l. r ∷ l) (rows_of k rest)) o)) told ∙ behind rows row (rows_of k rest)
