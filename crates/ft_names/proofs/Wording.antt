-- The words of texts that are put together, and that are cut.
use Rattle.std.proofs.Common.{◌≡◌, ◌≢◌, Some, None, ℕ, suc, ◌+◌, ◌-◌, ◌<◌, ◌≤◌, ◌^◌, Bool, true, false, cond, ◌&&◌, ◌||◌, List, [], ◌∷◌, ◌++◌, Option, length, get_or, take, drop, refl, sym, ap, subst, ◌∙◌, arith, add-one, append_assoc, length-append, length-drop}
use Rattle.std.proofs.lemmas.Bool.{eqb-true, eq-eqb, lt-ltb}
use Rattle.std.proofs.lemmas.Fmt.{decimal_is_IsNumeral}
use Rattle.std.proofs.lemmas.List.{get_or-drop}
use Rattle.std.proofs.lemmas.List.Elements.{All-head, All-tail}
use Rattle.std.specs.Prelude.{◌==◌, All, codes, option_and_then, option_map}
use Rattle.std.specs.Char.{digit_value}
use Rattle.std.specs.Fmt.{decimal}
use Rattle.std.specs.List.{list_any, onto_first}
use Rattle.std.specs.Str.{bytes_eq}
use Rattle.std.specs.Str.Parse.{AllDigits}
use Rattle.ft_words.proofs.Bytes as bytes
use Rattle.ft_words.specs.Spelling.{IsFreeOf, IsSplitAt, words_of}
use Rattle.ft_names.specs.Names.{Naming, is_name}
use Rattle.ft_names.specs.Meanings.{Puts, PutsNumber, number_first, numbered_ask, numbered_call, split_name}

-- what a byte is put on the front of has a first word
some_words : (c : Bool) (x : ℕ) (words : List (List ℕ)) → 0 < length (cond c ([] ∷ words) (onto_first x words))
some_words true x words = omega arith
some_words false x [] = omega arith
some_words false x (w ∷ ws) = omega arith

pub words_some : (text : List ℕ) → 0 < length (words_of text)
words_some [] = omega arith
words_some (x ∷ xs) = some_words (x == 32) x (words_of xs)

onto_before : (x : ℕ) (words others : List (List ℕ)) → 0 < length words → onto_first x (words ++ others) ≡ onto_first x words ++ others
onto_before x [] others some = absurd (omega arith)
onto_before x (w ∷ ws) others some = refl

put_on : (c : Bool) (x : ℕ) (words others : List (List ℕ)) → 0 < length words → cond c ([] ∷ words ++ others) (onto_first x (words ++ others)) ≡ cond c ([] ∷ words) (onto_first x words) ++ others
put_on true x words others some = refl
put_on false x words others some = onto_before x words others some

-- a space is between the words of two texts
pub words_of_both : (text rest : List ℕ) → words_of (text ++ 32 ∷ rest) ≡ words_of text ++ words_of rest
words_of_both [] rest = refl
words_of_both (x ∷ xs) rest =
    ap (λ ws. cond (x == 32) ([] ∷ ws) (onto_first x ws)) (words_of_both xs rest)
    ∙ put_on (x == 32) x (words_of xs) (words_of rest) (words_some xs)

-- a text without a space is one word
pub words_of_free : (text : List ℕ) → IsFreeOf 32 text → words_of text ≡ text ∷ []
words_of_free = bytes.words_of_free

pub words_of_split : (text word rest : List ℕ) → IsSplitAt 32 text word rest → words_of text ≡ word ∷ words_of rest
words_of_split text word rest at = ap words_of at.1 ∙ words_of_both word rest ∙ ap (λ ws. ws ++ words_of rest) (words_of_free word at.0)

-- ---- words that are put

pub text_put : (text rest : List ℕ) → words_of ((text ++ 32 ∷ []) ++ rest) ≡ words_of text ++ words_of rest
text_put text rest = ap words_of (append_assoc text (32 ∷ []) rest) ∙ words_of_both text rest

pub word_put : (text word : List ℕ) → IsFreeOf 32 word → words_of ((text ++ 32 ∷ []) ++ word) ≡ words_of text ++ word ∷ []
word_put text word free = text_put text word ∙ ap (λ ws. words_of text ++ ws) (words_of_free word free)

-- a word was put, and then others
pub puts_behind : (text middle after word : List ℕ) (words : Option (List (List ℕ))) → words_of middle ≡ words_of text ++ word ∷ [] → Puts middle words after → Puts text (option_map (λ others. word ∷ others) words) after
puts_behind text middle after word words one more = (
  word ∷ more.0,
  ap (option_map (λ others. word ∷ others)) more.1,
  more.2 ∙ ap (λ ws. ws ++ more.0) one ∙ append_assoc (words_of text) (word ∷ []) more.0,
)

-- a word or its number was put, and then the words that are left
pub puts_number_rest : (names : Naming) (text middle after word : List ℕ) (words : List (List ℕ)) → PutsNumber names word text middle → words_of after ≡ words_of middle ++ words → Puts text (number_first names (word ∷ words)) after
puts_number_rest names text middle after word words number rest = (
  number.0 ∷ words,
  ap (option_map (λ n. n ∷ words)) number.1,
  rest ∙ ap (λ ws. ws ++ words) number.2 ∙ append_assoc (words_of text) (number.0 ∷ []) words,
)

-- a word or its number was put, and then a call
pub puts_number_call : (names : Naming) (text middle after word : List ℕ) (words : List (List ℕ)) → PutsNumber names word text middle → Puts middle (numbered_call names words) after → Puts text (numbered_ask names word words) after
puts_number_call names text middle after word words number more = (
  number.0 ∷ more.0,
  ap (option_and_then (λ txn. option_map (λ others. txn ∷ others) (numbered_call names words))) number.1 ∙ ap (option_map (λ others. number.0 ∷ others)) more.1,
  more.2 ∙ ap (λ ws. ws ++ more.0) number.2 ∙ append_assoc (words_of text) (number.0 ∷ []) more.0,
)

-- no digit is a space
digits_free : (ds : List ℕ) → AllDigits 10 ds → IsFreeOf 32 ds
digits_free [] h = refl
digits_free (c ∷ cs) h =
    ap (λ b. b || list_any (λ d. d == 32) cs)
    (bytes.is_false (c == 32) (λ same. let space : digit_value 32 < 10 = subst (λ d. digit_value d < 10) (eqb-true c 32 same) h.0 in omega (arith, space)))
    ∙ digits_free cs h.1

pub decimal_free : (n : ℕ) → n < 2 ^ 64 → IsFreeOf 32 (decimal n)
decimal_free n fits = digits_free (decimal n) (decimal_is_IsNumeral n fits).0.1

-- ---- words that are cut

free_all : (text : List ℕ) → All (λ b. b ≢ 32) text → IsFreeOf 32 text
free_all [] none = refl
free_all (x ∷ xs) none =
    ap (λ b. b || list_any (λ c. c == 32) xs) (bytes.is_false (x == 32) (λ same. All-head (λ b. b ≢ 32) x xs none (eqb-true x 32 same)))
    ∙ free_all xs (All-tail (λ b. b ≢ 32) x xs none)

pub words_of_one : (text : List ℕ) → All (λ b. b ≢ 32) text → words_of text ≡ text ∷ []
words_of_one text none = words_of_free text (free_all text none)

-- the last word is behind the last space
pub words_of_last : (text : List ℕ) (i : ℕ) → i < length text → get_or text i 0 ≡ 32 → ((k : ℕ) → i + 1 ≤ k → k < length text → get_or text k 0 ≢ 32) → words_of text ≡ words_of (take i text) ++ drop (i + 1) text ∷ []
words_of_last text i inside here after =
    let free : IsFreeOf 32 (drop (i + 1) text) =
    bytes.free_text 32 (drop (i + 1) text)
    (λ j below same. after (i + 1 + j) (omega arith) (omega (arith, below, length-drop (i + 1) text)) (sym (get_or-drop (i + 1) text j 0) ∙ eqb-true _ 32 same)) in
    let around : text ≡ take i text ++ 32 ∷ drop (i + 1) text = rw add-one (bytes.around 32 text i (eq-eqb _ 32 here) inside) in
    ap words_of around ∙ words_of_both (take i text) (drop (i + 1) text) ∙ ap (λ ws. words_of (take i text) ++ ws) (words_of_free (drop (i + 1) text) free)

count_of : (front : List (List ℕ)) (word name : List ℕ) → length ((front ++ word ∷ []) ++ name ∷ []) - 2 ≡ length front
count_of front word name = omega (arith, length-append (front ++ word ∷ []) (name ∷ []), length-append front (word ∷ []))

word_at : (front : List (List ℕ)) (word name : List ℕ) → get_or ((front ++ word ∷ []) ++ name ∷ []) (length front) [] ≡ word
word_at [] word name = refl
word_at (x ∷ xs) word name = word_at xs word name

name_at : (front : List (List ℕ)) (word name : List ℕ) → get_or ((front ++ word ∷ []) ++ name ∷ []) (suc (length front)) [] ≡ name
name_at [] word name = refl
name_at (x ∷ xs) word name = name_at xs word name

front_at : (front : List (List ℕ)) (word name : List ℕ) → take (length front) ((front ++ word ∷ []) ++ name ∷ []) ≡ front
front_at [] word name = refl
front_at (x ∷ xs) word name = ap (λ ws. x ∷ ws) (front_at xs word name)

-- what the last words of a text give, once they are cut
pub split_end : (front : List (List ℕ)) (word name : List ℕ) → 0 < length front → split_name ((front ++ word ∷ []) ++ name ∷ []) ≡ cond (bytes_eq word (codes "as") && is_name name) (Some (front, name)) None
split_end front word name some =
    rw (count_of front word name, word_at front word name, name_at front word name, front_at front word name, lt-ltb 0 (length front) some)
