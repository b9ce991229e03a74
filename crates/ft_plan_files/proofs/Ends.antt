-- What ends a line: nothing, or a carriage return.
use Rattle.std.proofs.Common.{◌≡◌, ◌⊎◌, inl, inr, ℕ, zero, suc, ◌+◌, ◌-◌, Bool, true, false, cond, List, [], ◌∷◌, ◌++◌, length, get_or, take, drop, refl, ap, ◌∙◌, arith, eq-eqb, eqb-true, append-nil, length-append, length-take-le, take_at, drop_at, drop_of_length-le}
use Rattle.std.proofs.lemmas.Bool.{false≢true}
use Rattle.std.proofs.lemmas.List.{drop_all, drop_more, get_or_at}
use Rattle.std.specs.Prelude.{◌==◌, slice_index}
use Rattle.std.specs.List.{list_any}
use Rattle.std.specs.Str.Lines.{strip_carriage_return}
use Rattle.ft_words.proofs.Bytes.{neither}
use Rattle.ft_words.specs.Spelling.{IsFreeOf}
use Rattle.ft_plan_names.specs.Numbers.{line_end}

abbrev pub IsEnd : List ℕ → Type 0
IsEnd end = (end ≡ []) ⊎ (end ≡ 13 ∷ [])

pub no_end : IsEnd []
no_end = inl refl

-- ---- what ends a line

last_of : (line : List ℕ) (n : ℕ) → n + 1 ≡ length line → get_or line n 0 ≡ 13 → drop (length (take n line)) line ≡ 13 ∷ []
last_of line n long is =
    ap (λ k. drop k line) (length-take-le n line (omega (arith, long)))
    ∙ drop_more line n 0 (omega (arith, long))
    ∙ ap (λ b. b ∷ drop (n + 1) line) is
    ∙ ap (λ t. 13 ∷ t) (drop_all (n + 1) line (omega (arith, long)))

some_there : (line : List ℕ) → (slice_index line (length line - 1) == 13) ≡ true → length line - 1 + 1 ≡ length line
some_there [] is = absurd (false≢true is)
some_there (x ∷ xs) is = omega arith

pub end_of : (line : List ℕ) → IsEnd (line_end line)
end_of line = either (slice_index line (length line - 1) == 13) refl
  where
    either : (b : Bool) → (slice_index line (length line - 1) == 13) ≡ b → IsEnd (drop (length (cond b (take (length line - 1) line) line)) line)
    either true is = inr (last_of line (length line - 1) (some_there line is) (eqb-true (slice_index line (length line - 1)) 13 is))
    either false is = inl (drop_of_length-le line (omega arith))

-- it has no line feed
pub end_free : (end : List ℕ) → IsEnd end → IsFreeOf 10 end
end_free end (inl is) = ap (list_any (λ b. b == 10)) is
end_free end (inr is) = ap (list_any (λ b. b == 10)) is

-- ---- texts without a carriage return

not_there : (text : List ℕ) (k : ℕ) → IsFreeOf 13 text → (slice_index text k == 13) ≡ false
not_there [] k free = refl
not_there (x ∷ xs) zero free = (neither (x == 13) _ free).0
not_there (x ∷ xs) (suc k) free = not_there xs k (neither (x == 13) _ free).1

unstripped : (text : List ℕ) → IsFreeOf 13 text → strip_carriage_return text ≡ text
unstripped text free = ap (λ b. cond b (take (length text - 1) text) text) (not_there text (length text - 1) free)

stripped : (text : List ℕ) → strip_carriage_return (text ++ 13 ∷ []) ≡ text
stripped text =
    let line : List ℕ = text ++ 13 ∷ [] in
    let last : length line - 1 ≡ length text = omega (arith, length-append text (13 ∷ [])) in
    ap (λ n. cond (slice_index line n == 13) (take n line) line) last
    ∙ ap (λ b. cond b (take (length text) line) line) (eq-eqb (slice_index line (length text)) 13 (get_or_at text 13 [] 0 (length text) refl))
    ∙ take_at text (13 ∷ []) (length text) refl

pub strip_end : (text end : List ℕ) → IsFreeOf 13 text → IsEnd end → strip_carriage_return (text ++ end) ≡ text
strip_end text end free (inl is) = ap (λ e. strip_carriage_return (text ++ e)) is ∙ ap strip_carriage_return (append-nil text) ∙ unstripped text free
strip_end text end free (inr is) = ap (λ e. strip_carriage_return (text ++ e)) is ∙ stripped text

pub end_kept : (text end : List ℕ) → IsFreeOf 13 text → IsEnd end → line_end (text ++ end) ≡ end
end_kept text end free is = ap (λ t. drop (length t) (text ++ end)) (strip_end text end free is) ∙ drop_at text end (length text) refl
