-- How the bytes of a script are cut into lines.
use Rattle.std.proofs.Common.{◌≡◌, ℕ, ◌<◌, ◌||◌, List, [], ◌∷◌, ◌++◌, length, refl, sym, ap, ◌∙◌, append_assoc, append-nil, arith}
use Rattle.std.specs.Prelude.{◌==◌}
use Rattle.std.specs.List.{list_any, flat_map, AllByRecursion}
use Rattle.std.proofs.lemmas.Grind.{flat_map-append}
use Rattle.ft_words.specs.Spelling.{IsFreeOf, lines_of}
use Rattle.ft_script.specs.Cutting.{Fits, ended, Cuts}
use Rattle.ft_words.proofs.Bytes.{neither}
use Rattle.ft_words.proofs.LineCuts.{lines_of_cut, lines_of_last}

pub free-append : (byte : ℕ) (xs ys : List ℕ) → IsFreeOf byte xs → IsFreeOf byte ys → IsFreeOf byte (xs ++ ys)
free-append byte [] ys h k = k
free-append byte (x ∷ xs) ys h k =
    let both = neither (x == byte) _ h in
    ap (λ b. b || list_any (λ c. c == byte) (xs ++ ys)) both.0 ∙ free-append byte xs ys both.1 k

each-append : {A : Type 0} (P : A → Type 0) (xs ys : List A) → AllByRecursion P xs → AllByRecursion P ys → AllByRecursion P (xs ++ ys)
each-append P [] ys h k = k
each-append P (x ∷ xs) ys h k = (h.0, each-append P xs ys h.1 k)

lines_of_ended : (lines : List (List ℕ)) (rest : List ℕ) → AllByRecursion (IsFreeOf 10) lines → lines_of (flat_map ended lines ++ rest) ≡ lines ++ lines_of rest
lines_of_ended [] rest h = refl
lines_of_ended (l ∷ lines) rest h =
    ap lines_of (append_assoc (ended l) (flat_map ended lines) rest ∙ append_assoc l (10 ∷ []) (flat_map ended lines ++ rest))
    ∙ lines_of_cut l (flat_map ended lines ++ rest) h.0 ∙ ap (λ ls. l ∷ ls) (lines_of_ended lines rest h.1)

-- the lines of bytes that were cut
pub lines_of_cuts : (bytes : List ℕ) (lines : List (List ℕ)) (begun : List ℕ) → Cuts bytes lines begun → lines_of bytes ≡ lines ++ lines_of begun
lines_of_cuts bytes lines begun h = ap lines_of h.whole ∙ lines_of_ended lines begun h.each

pub cuts_none : (bytes : List ℕ) → Cuts bytes [] bytes
cuts_none bytes = record { whole = refl; each = tt; fits = tt }

-- more bytes come
pub cuts_read : (bytes : List ℕ) (lines : List (List ℕ)) (rest more : List ℕ) → Cuts bytes lines rest → Cuts (bytes ++ more) lines (rest ++ more)
cuts_read bytes lines rest more h = record { whole = ap (λ bs. bs ++ more) h.whole ∙ append_assoc (flat_map ended lines) rest more; each = h.each; fits = h.fits }

-- lines are cut from what is left
pub cuts_more : (bytes : List ℕ) (lines : List (List ℕ)) (rest : List ℕ) (more : List (List ℕ)) (behind : List ℕ) → Cuts bytes lines rest → Cuts rest more behind → Cuts bytes (lines ++ more) behind
cuts_more bytes lines rest more behind h k = record {
  whole = h.whole ∙ ap (λ bs. flat_map ended lines ++ bs) k.whole ∙ sym (append_assoc (flat_map ended lines) (flat_map ended more) behind) ∙ ap (λ bs. bs ++ behind) (sym (flat_map-append ended lines more));
  each = each-append (IsFreeOf 10) lines more h.each k.each;
  fits = each-append Fits lines more h.fits k.fits;
}

-- one more line ends
pub cuts_line : (bytes : List ℕ) (lines : List (List ℕ)) (line behind : List ℕ) → Cuts bytes lines (line ++ 10 ∷ behind) → IsFreeOf 10 line → Fits line → Cuts bytes (lines ++ line ∷ []) behind
cuts_line bytes lines line behind h free fits = record {
  whole = h.whole ∙ ap (λ bs. flat_map ended lines ++ bs) (sym (append_assoc line (10 ∷ []) behind))
      ∙ sym (append_assoc (flat_map ended lines) (ended line) behind)
      ∙ ap (λ bs. (flat_map ended lines ++ bs) ++ behind) (sym (append-nil (ended line)))
      ∙ ap (λ bs. bs ++ behind) (sym (flat_map-append ended lines (line ∷ [])));
  each = each-append (IsFreeOf 10) lines (line ∷ []) h.each (free, tt);
  fits = each-append Fits lines (line ∷ []) h.fits (fits, tt);
}

-- all lines, where the last one may lack its line feed
pub all_ended : (bytes : List ℕ) (lines : List (List ℕ)) → Cuts bytes lines [] → lines_of bytes ≡ lines
all_ended bytes lines h = lines_of_cuts bytes lines [] h ∙ append-nil lines

pub all_but_last_ended : (bytes : List ℕ) (lines : List (List ℕ)) (begun : List ℕ) → Cuts bytes lines begun → IsFreeOf 10 begun → 0 < length begun → lines_of bytes ≡ lines ++ begun ∷ []
all_but_last_ended bytes lines [] h free some = absurd (omega arith)
all_but_last_ended bytes lines (x ∷ xs) h free some = lines_of_cuts bytes lines (x ∷ xs) h ∙ ap (λ ls. lines ++ ls) (lines_of_last x xs free)

pub fits_more : (lines : List (List ℕ)) (begun : List ℕ) → AllByRecursion Fits lines → Fits begun → AllByRecursion Fits (lines ++ begun ∷ [])
fits_more lines begun h k = each-append Fits lines (begun ∷ []) h (k, tt)
