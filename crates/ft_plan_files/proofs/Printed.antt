-- Words that are printed: their bytes are above the space, and what they spell is read back.
use Rattle.std.proofs.Common.{◌≡◌, ℕ, zero, suc, ◌+◌, ◌/◌, ◌%◌, ◌^◌, ◌<◌, ◌≤◌, Bool, true, false, cond, ◌&&◌, ◌||◌, List, [], ◌∷◌, ◌++◌, length, Option, None, Some, pos, refl, sym, ap, subst, ◌∙◌, arith, lt-ltb, le-leb, ltb-true, eqb-true}
use Rattle.std.proofs.lemmas.Bool.{and_from, and_parts, cond-true, false≢true}
use Rattle.std.proofs.lemmas.Bool.Decides.{nat_tests}
use Rattle.std.proofs.lemmas.Fmt.{decimal_is_IsNumeral, decimal_nonempty, length-decimal-le}
use Rattle.std.proofs.lemmas.List.Elements.{All-head, All-tail}
use Rattle.std.proofs.lemmas.List.Folds.{list_all-append}
use Rattle.std.proofs.lemmas.Str.Parse.{digit_from_value}
use Rattle.std.specs.Prelude.{◌==◌, nat_lt, option_and_then}
use Rattle.std.specs.Char.{digit_value, is_ascii_digit}
use Rattle.std.specs.Fmt.{decimal, digit_glyph, digits, digits_onto}
use Rattle.std.specs.List.{list_all, list_any}
use Rattle.std.specs.Str.Parse.{AllDigits, digits_value}
use Rattle.percent_encoding.specs.Percent.{percent_decode, percent_encode_byte}
use Rattle.percent_encoding.proofs.PercentLemmas.{percent_decode-nil, percent_decode-percent_encode_byte, percent_decode_not_percent}
use Rattle.ft_path.specs.Name.{IsNulFree, has_nul}
use Rattle.ft_words.proofs.Bytes.{is_false}
use Rattle.ft_words.specs.Spelling.{IsFreeOf, is_number, negative, not_negative, parse_data, parse_i64, parse_path, parse_u64}
use Rattle.ft_words.specs.Texts.{coded, coded_byte, is_coded}
use Rattle.ft_plan_files.specs.Laws.{AreBytes}

-- ---- their bytes

abbrev pub is_printed : ℕ → Bool
is_printed b = nat_lt 32 b

abbrev pub is_word : List ℕ → Bool
is_word word = list_all is_printed word

-- a space, and what is below it, is not among them
pub word_free : (byte : ℕ) (word : List ℕ) → byte ≤ 32 → is_word word ≡ true → IsFreeOf byte word
word_free byte [] low h = refl
word_free byte (x ∷ xs) low h =
    let both = and_parts (is_printed x) (is_word xs) h in
    ap (λ b. b || list_any (λ c. c == byte) xs)
    (is_false (x == byte) (λ same. let is = eqb-true x byte same in let above = ltb-true 32 x both.0 in omega (arith, is, above, low)))
    ∙ word_free byte xs low both.1

glyph_printed : (upper : Bool) (d : ℕ) → is_printed (digit_glyph upper d) ≡ true
glyph_printed upper d = either (nat_lt d 10) upper
  where
    either : (small up : Bool) → is_printed (cond small (48 + d) (cond up (55 + d) (87 + d))) ≡ true
    either true up = lt-ltb 32 (48 + d) (omega arith)
    either false true = lt-ltb 32 (55 + d) (omega arith)
    either false false = lt-ltb 32 (87 + d) (omega arith)

encoded_is_word : (b : ℕ) → is_word (percent_encode_byte b) ≡ true
unfolding percent_encode_byte
encoded_is_word b = ap (λ c. c && (is_printed (digit_glyph true (b % 16)) && true)) (glyph_printed true (b / 16 % 16)) ∙ ap (λ c. c && true) (glyph_printed true (b % 16))

plain_printed : (b : ℕ) → is_coded b ≡ false → 32 < b
plain_printed b plain = grind (arith, nat_tests)

pub coded_is_word : (bytes : List ℕ) → is_word (coded bytes) ≡ true
coded_is_word [] = refl
coded_is_word (b ∷ bs) = list_all-append is_printed (coded_byte b) (coded bs) ∙ ap (λ c. c && is_word (coded bs)) (either (is_coded b) refl) ∙ coded_is_word bs
  where
    either : (c : Bool) → is_coded b ≡ c → is_word (cond c (percent_encode_byte b) (b ∷ [])) ≡ true
    either true is = encoded_is_word b
    either false is = ap (λ d. d && true) (lt-ltb 32 b (plain_printed b is))

onto_digits_is_word : (k n : ℕ) (text : List ℕ) → is_word text ≡ true → is_word (digits_onto k 10 false n text) ≡ true
onto_digits_is_word zero n text h = h
onto_digits_is_word (suc k) n text h =
    let next : is_word (digit_glyph false (n % 10) ∷ text) ≡ true = ap (λ b. b && is_word text) (glyph_printed false (n % 10)) ∙ h in
    either (n / 10 == 0) next (onto_digits_is_word k (n / 10) (digit_glyph false (n % 10) ∷ text) next)
  where
    either : (b : Bool) → is_word (digit_glyph false (n % 10) ∷ text) ≡ true → is_word (digits_onto k 10 false (n / 10) (digit_glyph false (n % 10) ∷ text)) ≡ true → is_word (cond b (digit_glyph false (n % 10) ∷ text) (digits_onto k 10 false (n / 10) (digit_glyph false (n % 10) ∷ text))) ≡ true
    either true here more = here
    either false here more = more

pub decimal_is_word : (n : ℕ) → is_word (decimal n) ≡ true
unfolding digits
decimal_is_word n = onto_digits_is_word 64 n [] refl

-- ---- paths and data

pub decoded : (bytes : List ℕ) → AreBytes bytes → percent_decode (coded bytes) ≡ bytes
decoded [] small = percent_decode-nil
decoded (b ∷ bs) small = either (is_coded b) refl (ap (λ t. b ∷ t) (decoded bs (All-tail (λ c. c < 256) b bs small)))
  where
    either : (c : Bool) → is_coded b ≡ c → b ∷ percent_decode (coded bs) ≡ b ∷ bs → percent_decode (cond c (percent_encode_byte b) (b ∷ []) ++ coded bs) ≡ b ∷ bs
    either true is rest = percent_decode-percent_encode_byte b (coded bs) (All-head (λ c. c < 256) b bs small) ∙ rest
    either false is rest = percent_decode_not_percent b (coded bs) (λ same. false≢true (sym is ∙ ap is_coded same)) ∙ rest

pub path_read : (path : List ℕ) → AreBytes path → IsNulFree path → parse_path (coded path) ≡ Some path
path_read path small no_nul =
    ap (λ p. cond {A = Option (List ℕ)} (has_nul p) None (Some p)) (decoded path small)
    ∙ ap (λ b. cond {A = Option (List ℕ)} b None (Some path)) no_nul

pub data_read : (bytes : List ℕ) → AreBytes bytes → parse_data (coded bytes) ≡ Some bytes
data_read bytes small = ap Some (decoded bytes small)

pub no_data_read : parse_data [] ≡ Some []
no_data_read = ap Some percent_decode-nil

-- ---- numbers

digit : (c : ℕ) → digit_value c < 10 → is_ascii_digit c ≡ true
digit c small = let range = digit_from_value c small in grind (arith, nat_tests)

all_digits : (ds : List ℕ) → AllDigits 10 ds → list_all is_ascii_digit ds ≡ true
all_digits [] h = refl
all_digits (c ∷ cs) h = ap (λ b. b && list_all is_ascii_digit cs) (digit c h.0) ∙ all_digits cs h.1

pub number_read : (n : ℕ) → n < 2 ^ 64 → parse_u64 (decimal n) ≡ Some n
number_read n small =
    let ds = decimal n in
    let numeral = decimal_is_IsNumeral n small in
    let value : digits_value 10 ds ≡ n = numeral.1 in
    let few : length ds ≤ 20 = length-decimal-le 20 n (omega arith) (omega arith) small in
    let is : is_number ds ≡ true =
    and_from _ _ (and_from _ _ (and_from _ _ (lt-ltb 0 (length ds) (decimal_nonempty n small)) (le-leb (length ds) 20 few)) (all_digits ds numeral.0.1))
    (lt-ltb (digits_value 10 ds) (2 ^ 64) (omega (arith, value, small))) in
    cond-true (is_number ds) (Some (digits_value 10 ds)) None is ∙ ap Some value

not_signed : (ds : List ℕ) (n : ℕ) → AllDigits 10 ds → 0 < length ds → parse_u64 ds ≡ Some n → n < 2 ^ 63 → parse_i64 ds ≡ Some (pos n)
not_signed [] n digits some read small = absurd (omega arith)
not_signed (c ∷ cs) n digits some read small =
    ap (λ b. cond b (option_and_then negative (parse_u64 cs)) (option_and_then not_negative (parse_u64 (c ∷ cs))))
    (is_false (c == 45) (λ same. let minus : digit_value 45 < 10 = subst (λ d. digit_value d < 10) (eqb-true c 45 same) digits.0 in omega (arith, minus)))
    ∙ ap (option_and_then not_negative) read
    ∙ cond-true (nat_lt n (2 ^ 63)) (Some (pos n)) None (lt-ltb n (2 ^ 63) small)

pub integer_read : (n : ℕ) → n < 2 ^ 63 → parse_i64 (decimal n) ≡ Some (pos n)
integer_read n small =
    let fits : n < 2 ^ 64 = omega arith in
    not_signed (decimal n) n (decimal_is_IsNumeral n fits).0.1 (decimal_nonempty n fits) (number_read n fits) small
