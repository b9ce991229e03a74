-- Bytes, percent-coded, and the bytes that words code.
use Rattle.std.proofs.Common.{◌≡◌, ℕ, zero, suc, ◌+◌, ◌<◌, ◌≤◌, false, true, cond, List, [], ◌∷◌, ◌++◌, length, get_or, take, IsAscii, All, refl, sym, subst, ap, ◌∙◌, append-nil, append_assoc, arith}
use Rattle.std.proofs.lemmas.Bool.{cond_both, eq-eqb, eqb-true, false≢true}
use Rattle.std.proofs.lemmas.Bool.Decides.{nat_tests}
use Rattle.std.proofs.lemmas.List.Concat.{flat_map-append}
use Rattle.std.proofs.lemmas.List.Elements.{All-nil, All-cons, All-append, All-weaker}
use Rattle.std.proofs.lemmas.Str.{IsAscii-take}
use Rattle.std.proofs.lemmas.Str.Ascii.{IsAscii-from_all}
use Rattle.std.specs.Prelude.{◌==◌}
use Rattle.percent_encoding.specs.Percent.{percent_encode_byte, percent_decode}
use Rattle.percent_encoding.proofs.PercentLemmas.{IsEscapeByte, All-percent_encode_byte, percent_decode_not_percent}
use Rattle.ft_words.specs.Spelling.{IsFreeOf}
use Rattle.std.proofs.Math.Seq.{take-append-add, take-append_seam}
use Rattle.std.proofs.lemmas.List.{length-take-le, take-append-le}
use Rattle.ft_words.specs.Texts.{coded, coded_byte, is_coded}
use Rattle.ft_words.proofs.Bytes.{neither}

abbrev IsLow : ℕ → Type 0
IsLow b = b < 128

low_from_escape : (b : ℕ) → IsEscapeByte b → IsLow b
low_from_escape b h = grind arith

plain_is_low : (b : ℕ) → is_coded b ≡ false → IsLow b
plain_is_low b plain = grind (arith, nat_tests)

all_low : (bytes : List ℕ) → All IsLow (coded bytes)
all_low [] = All-nil IsLow
all_low (b ∷ bs) =
    All-append IsLow (cond (is_coded b) (percent_encode_byte b) (b ∷ [])) (coded bs)
    (cond_both (is_coded b) (percent_encode_byte b) (b ∷ []) (All IsLow) (λ _. All-weaker IsEscapeByte IsLow low_from_escape (percent_encode_byte b) (All-percent_encode_byte b)) (λ plain. All-cons IsLow b [] (plain_is_low b plain) (All-nil IsLow)))
    (all_low bs)

-- coded bytes are ASCII
pub IsAscii-coded : (bytes : List ℕ) → IsAscii (coded bytes)
IsAscii-coded bytes = IsAscii-from_all _ (all_low bytes)

-- and so is the front of a text that they make
pub IsAscii-front : (front behind bytes : List ℕ) → front ++ behind ≡ coded bytes → IsAscii front
IsAscii-front front behind bytes whole =
    subst (λ (text : List ℕ). IsAscii text) (ap (take (length front)) (sym whole) ∙ take-append_seam front behind) (IsAscii-take (coded bytes) (length front) (IsAscii-coded bytes))

-- bytes without a `%` code themselves
pub decode_free : (front rest : List ℕ) → IsFreeOf 37 front → percent_decode (front ++ rest) ≡ front ++ percent_decode rest
decode_free [] rest free = refl
decode_free (x ∷ xs) rest free =
    let both = neither (x == 37) _ free in
    percent_decode_not_percent x (xs ++ rest) (λ is. false≢true (sym both.0 ∙ eq-eqb x 37 is)) ∙ ap (λ bytes. x ∷ bytes) (decode_free xs rest both.1)

pub decode_cut : (word front behind : List ℕ) → IsFreeOf 37 front → front ++ behind ≡ word → front ++ percent_decode behind ≡ percent_decode word
decode_cut word front behind free whole = sym (decode_free front behind free) ∙ ap percent_decode whole

pub decode_whole : (word : List ℕ) → IsFreeOf 37 word → percent_decode word ≡ word
unfolding percent_decode
decode_whole word free = ap percent_decode (sym (append-nil word)) ∙ decode_free word [] free ∙ append-nil word

-- where nothing is left to decode
pub decode_done : (done rest all : List ℕ) → rest ≡ [] → done ++ percent_decode rest ≡ all → done ≡ all
unfolding percent_decode
decode_done done rest all none whole = sym (append-nil done) ∙ ap (λ bytes. done ++ percent_decode bytes) (sym none) ∙ whole

-- the text of bytes in two pieces
pub coded_cut : (bytes piece behind : List ℕ) → piece ++ behind ≡ bytes → coded piece ++ coded behind ≡ coded bytes
coded_cut bytes piece behind whole = sym (flat_map-append _ piece behind) ∙ ap coded whole

-- bytes that are printed as they are
pub coded_printed : (bytes : List ℕ) (n : ℕ) → ((k : ℕ) → k < n → is_coded (get_or bytes k 0) ≡ false) → coded (take n bytes) ≡ take n bytes
coded_printed [] zero h = refl
coded_printed [] (suc n) h = refl
coded_printed (b ∷ bs) zero h = refl
coded_printed (b ∷ bs) (suc n) h =
    ap (λ c. cond c (percent_encode_byte b) (b ∷ []) ++ coded (take n bs)) (h 0 (omega arith)) ∙ ap (λ bytes. b ∷ bytes) (coded_printed bs n (λ k below. h (suc k) (omega arith)))

-- what was put behind the front of a place
pub put_behind : (place sub tail : List ℕ) (end made : ℕ) → end ≤ length place → made ≤ length sub → take (end + made) (take end place ++ (sub ++ tail)) ≡ take end place ++ take made sub
put_behind place sub tail end made within fits =
    let long : end ≡ length (take end place) = sym (length-take-le end place within) in
    ap (λ n. take (n + made) (take end place ++ (sub ++ tail))) long ∙ take-append-add (take end place) (sub ++ tail) made ∙ ap (λ bytes. take end place ++ bytes) (take-append-le made sub tail fits)

-- the text of a front that is printed as it is, and of the byte behind it
pub coded_next : (bytes front behind : List ℕ) (b : ℕ) → coded front ≡ front → front ++ b ∷ behind ≡ bytes → (front ++ coded_byte b) ++ coded behind ≡ coded bytes
coded_next bytes front behind b printed whole =
    append_assoc front (coded_byte b) (coded behind) ∙ ap (λ text. text ++ coded (b ∷ behind)) (sym printed) ∙ coded_cut bytes front (b ∷ behind) whole

-- the bytes that a front without `%` codes, and the one behind it
pub decoded_next : (word front rest behind : List ℕ) (b : ℕ) → IsFreeOf 37 front → front ++ rest ≡ word → percent_decode rest ≡ b ∷ percent_decode behind → (front ++ b ∷ []) ++ percent_decode behind ≡ percent_decode word
decoded_next word front rest behind b free whole next =
    append_assoc front (b ∷ []) (percent_decode behind) ∙ ap (λ bytes. front ++ bytes) (sym next) ∙ decode_cut word front rest free whole

-- and what more of them is
pub put_more : (place new tail text rest all : List ℕ) (end made : ℕ) → end ≤ length place → made ≤ length new → take made new ++ rest ≡ text → take end place ++ text ≡ all → take (end + made) (take end place ++ (new ++ tail)) ++ rest ≡ all
put_more place new tail text rest all end made within fits more whole =
    ap (λ bytes. bytes ++ rest) (put_behind place new tail end made within fits) ∙ append_assoc (take end place) (take made new) rest ∙ ap (λ bytes. take end place ++ bytes) more ∙ whole

-- nothing is left
pub none_left : (bytes : List ℕ) → true ≡ (length bytes == 0) → bytes ≡ []
none_left [] h = refl
none_left (b ∷ bs) h = absurd (omega (arith, eqb-true (length (b ∷ bs)) 0 (sym h)))
