-- Where a byte stands in a text, and what that says of the text's words.
use Rattle.std.proofs.Common.{◌≡◌, ◌≢◌, Some, None, ℕ, zero, suc, ◌+◌, ◌-◌, ◌<◌, ◌≤◌, Bool, true, false, cond, ◌||◌, List, [], ◌∷◌, ◌++◌, length, get_or, take, drop, refl, sym, ap, ◌∙◌, arith, add-one, length-drop, append_assoc, take-append-drop}
use Rattle.std.proofs.lemmas.Bool.{false≢true, eqb-true, eq-eqb}
use Rattle.std.proofs.lemmas.List.{take_all}
use Rattle.std.specs.Prelude.{◌==◌}
use Rattle.std.specs.List.{list_any, onto_first}
use Rattle.ft_words.specs.Calls.{only_word, last_word}
use Rattle.ft_words.specs.Spelling.{IsFreeOf, words_of, stripped}

-- a test that isn't true is false
pub is_false : (b : Bool) → (b ≡ true → ⊥) → b ≡ false
is_false true h = absurd (h refl)
is_false false h = refl

pub neither : (a b : Bool) → (a || b) ≡ false → (a ≡ false) × (b ≡ false)
neither true b h = absurd (false≢true (sym h))
neither false b h = (refl, h)

-- a front without the byte, by its places
pub free_take : (byte : ℕ) (text : List ℕ) (k : ℕ) → ((j : ℕ) → j < k → (get_or text j 0 == byte) ≡ true → ⊥) → k ≤ length text → IsFreeOf byte (take k text)
free_take byte [] zero h _ = refl
free_take byte [] (suc k) h _ = refl
free_take byte (x ∷ xs) zero h _ = refl
free_take byte (x ∷ xs) (suc k) h fits =
    ap (λ b. b || list_any (λ c. c == byte) (take k xs)) (is_false (x == byte) (h 0 (omega arith)))
    ∙ free_take byte xs k (λ j below. h (suc j) (omega arith)) (omega arith)

-- the whole text, by its places
pub free_text : (byte : ℕ) (text : List ℕ) → ((j : ℕ) → j < length text → (get_or text j 0 == byte) ≡ true → ⊥) → IsFreeOf byte text
free_text byte [] h = refl
free_text byte (x ∷ xs) h =
    ap (λ b. b || list_any (λ c. c == byte) xs) (is_false (x == byte) (h 0 (omega arith)))
    ∙ free_text byte xs (λ j below. h (suc j) (omega arith))

-- a text around the place of a byte
pub around : (byte : ℕ) (text : List ℕ) (k : ℕ) → (get_or text k 0 == byte) ≡ true → k < length text → text ≡ take k text ++ byte ∷ drop (suc k) text
around byte [] k is fits = absurd (omega arith)
around byte (x ∷ xs) zero is fits = ap (λ b. b ∷ xs) (eqb-true x byte is)
around byte (x ∷ xs) (suc k) is fits = ap (λ ys. x ∷ ys) (around byte xs k is (omega arith))

-- a text without a space is one word
pub words_of_free : (text : List ℕ) → IsFreeOf 32 text → words_of text ≡ text ∷ []
words_of_free [] h = refl
words_of_free (x ∷ xs) h =
    let both = neither (x == 32) _ h in
    ap (λ b. cond b ([] ∷ words_of xs) (onto_first x (words_of xs))) both.0 ∙ ap (onto_first x) (words_of_free xs both.1)

-- the first word ends at the first space
pub words_of_cut : (word rest : List ℕ) → IsFreeOf 32 word → words_of (word ++ 32 ∷ rest) ≡ word ∷ words_of rest
words_of_cut [] rest h = refl
words_of_cut (x ∷ xs) rest h =
    let both = neither (x == 32) _ h in
    ap (λ b. cond b ([] ∷ words_of (xs ++ 32 ∷ rest)) (onto_first x (words_of (xs ++ 32 ∷ rest)))) both.0 ∙ ap (onto_first x) (words_of_cut xs rest both.1)

-- what a byte is put on the front of has a first word
some_words : (c : Bool) (x : ℕ) (words : List (List ℕ)) → 0 < length (cond c ([] ∷ words) (onto_first x words))
some_words true x words = omega arith
some_words false x [] = omega arith
some_words false x (w ∷ ws) = omega arith

words_some : (text : List ℕ) → 0 < length (words_of text)
words_some [] = omega arith
words_some (x ∷ xs) = some_words (x == 32) x (words_of xs)

stripped_onto : (byte : ℕ) (words : List (List ℕ)) → 0 < length words → stripped byte (onto_first byte words) ≡ Some words
stripped_onto byte [] some = absurd (omega arith)
stripped_onto byte (w ∷ ws) some = ap (λ c. cond c (Some (w ∷ ws)) None) (eq-eqb byte byte refl)

-- a byte at the front of a text, which is no space, is at the front of its first word
pub stripped_front : (byte : ℕ) (rest : List ℕ) → byte ≢ 32 → stripped byte (words_of (byte ∷ rest)) ≡ Some (words_of rest)
stripped_front byte rest other =
    ap (λ c. stripped byte (cond c ([] ∷ words_of rest) (onto_first byte (words_of rest)))) (is_false (byte == 32) (λ same. other (eqb-true byte 32 same)))
    ∙ stripped_onto byte (words_of rest) (words_some rest)

-- a slice from a place to the end
pub from_place : (text : List ℕ) (k : ℕ) → take (length text - k) (drop k text) ≡ drop k text
from_place text k = take_all (length text - k) (drop k text) (omega (arith, length-drop k text))

pub behind : (text : List ℕ) (k : ℕ) → take (length text - (k + 1)) (drop (k + 1) text) ≡ drop (suc k) text
behind text k = rw add-one (from_place text (suc k))

-- a text of which the front is gone
pub front_gone : (whole front text : List ℕ) (k : ℕ) → whole ≡ front ++ text → whole ≡ (front ++ take k text) ++ take (length text - k) (drop k text)
front_gone whole front text k h =
    h ∙ ap (λ t. front ++ t) (sym (take-append-drop k text)) ∙ sym (append_assoc front (take k text) (drop k text)) ∙ ap (λ t. (front ++ take k text) ++ t) (sym (from_place text k))

-- ---- a word that is left alone

two_words : (word : List ℕ) (words : List (List ℕ)) → 0 < length words → None ≡ only_word (word ∷ words)
two_words word [] some = absurd (omega arith)
two_words word (w ∷ ws) some = refl

pub alone : (text : List ℕ) → IsFreeOf 32 text → Some text ≡ only_word (words_of text)
alone text free = ap only_word (sym (words_of_free text free))

pub not_alone : (text : List ℕ) (k : ℕ) → IsFreeOf 32 (take k text) → (get_or text k 0 == 32) ≡ true → k < length text → None ≡ only_word (words_of text)
not_alone text k free is fits =
    two_words (take k text) (words_of (drop (suc k) text)) (words_some (drop (suc k) text))
    ∙ ap only_word (sym (ap words_of (around 32 text k is fits) ∙ words_of_cut (take k text) (drop (suc k) text) free))

last_is_only : (words : List (List ℕ)) → 0 < length words → only_word words ≡ last_word words
last_is_only [] some = absurd (omega arith)
last_is_only (w ∷ ws) some = refl

-- a text has a last word
pub last_of_text : (text : List ℕ) → only_word (words_of text) ≡ last_word (words_of text)
last_of_text text = last_is_only (words_of text) (words_some text)
