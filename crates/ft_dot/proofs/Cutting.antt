-- Where a colon stands in a word, and what that says of a transaction and its rank.
use Rattle.std.proofs.Common.{◌≡◌, ℕ, Bool, true, false, cond, ◌||◌, List, [], ◌∷◌, ◌++◌, Option, Some, None, refl, sym, ap, ◌∙◌}
use Rattle.std.proofs.lemmas.Bool.{false≢true}
use Rattle.std.specs.Prelude.{◌==◌, option_map, option_and_then}
use Rattle.ft_words.specs.Spelling.{IsFreeOf, parse_u64}
use Rattle.ft_dot.specs.Reading.{cut_at, rank_of}

neither : (a b : Bool) → (a || b) ≡ false → (a ≡ false) × (b ≡ false)
neither true b h = absurd (false≢true (sym h))
neither false b h = (refl, h)

-- where a byte is nowhere
pub cut_free : (byte : ℕ) (text : List ℕ) → IsFreeOf byte text → cut_at byte text ≡ None
cut_free byte [] h = refl
cut_free byte (x ∷ xs) h =
    let both = neither (x == byte) _ h in
    ap (λ b. cond b (Some ([], xs)) (option_map (λ parts. (x ∷ parts.0, parts.1)) (cut_at byte xs))) both.0
    ∙ ap (option_map (λ parts. (x ∷ parts.0, parts.1))) (cut_free byte xs both.1)

-- where a colon is found first
pub cut_found : (front rest : List ℕ) → IsFreeOf 58 front → cut_at 58 (front ++ 58 ∷ rest) ≡ Some (front, rest)
cut_found [] rest h = refl
cut_found (x ∷ xs) rest h =
    let both = neither (x == 58) _ h in
    ap (λ b. cond b (Some ([], xs ++ 58 ∷ rest)) (option_map (λ parts. (x ∷ parts.0, parts.1)) (cut_at 58 (xs ++ 58 ∷ rest)))) both.0
    ∙ ap (option_map (λ parts. (x ∷ parts.0, parts.1))) (cut_found xs rest both.1)

-- ---- a transaction with its rank

abbrev pub ranked : List ℕ × List ℕ → Option (ℕ × ℕ)
ranked parts = option_and_then (λ txn. option_map (λ rank. (txn, rank)) (parse_u64 parts.1)) (parse_u64 parts.0)

pub no_rank : (word : List ℕ) → IsFreeOf 58 word → rank_of word ≡ None
no_rank word h = ap (option_and_then ranked) (cut_free 58 word h)

pub rank_cut : (word front rest : List ℕ) → IsFreeOf 58 front → word ≡ front ++ 58 ∷ rest → rank_of word ≡ ranked (front, rest)
rank_cut word front rest h is = ap rank_of is ∙ ap (option_and_then ranked) (cut_found front rest h)
