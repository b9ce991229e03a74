-- How calls are found by their names, and their arguments read one by one.
use Rattle.std.proofs.Common.{◌≡◌, ℕ, ◌+◌, ◌<◌, Some, None, Option, Bool, true, false, cond, List, [], ◌∷◌, map, length, get_or, drop, refl, ap, ◌∙◌}
use Rattle.std.proofs.lemmas.List.{at_drop_more}
use Rattle.std.specs.Prelude.{option_map, option_and_then}
use Rattle.std.specs.Option.{option_zip}
use Rattle.std.specs.Str.{bytes_eq}
use Rattle.ft_posix.specs.declared.call.Call.{Call}
use Rattle.ft_words.specs.declared.verbs.Verb.{Verb}
use Rattle.ft_words.specs.declared.verbs.TheConstants.{VERBS, DESCRIPTOR_VERBS}
use Rattle.ft_words.specs.Calls.{look_up, both, three, parse_call, read_by, descriptor_calls}
use Rattle.ft_words.specs.Arguments.{first, others}
use Rattle.ft_words.specs.Verbs.{word, words_of, call_by}

zipped : {A B : Type 0} (a : Option A) (b : Option B) → option_and_then (λ x. option_map (λ y. (x, y)) b) a ≡ option_zip a b
zipped None b = refl
zipped (Some x) None = refl
zipped (Some x) (Some y) = refl

-- the first word and the others are read apart
pub both_zip : {A B : Type 0} (read : List ℕ → Option A) (more : List (List ℕ) → Option B) (words : List (List ℕ)) → both read more words ≡ option_zip (first read words) (more (others words))
both_zip read more [] = refl
both_zip read more (word ∷ words) = zipped (read word) (more words)

pub three_zip : {A B C : Type 0} (one : List ℕ → Option A) (two : List ℕ → Option B) (more : List (List ℕ) → Option C) (words : List (List ℕ)) → three one two more words ≡ option_map (λ p. (p.0, p.1.0, p.1.1)) (option_zip (first one words) (option_zip (first two (others words)) (more (others (others words)))))
three_zip one two more words = ap (option_map (λ p. (p.0, p.1.0, p.1.1))) (both_zip one (both two more) words ∙ ap (option_zip (first one words)) (both_zip two more (others words)))

abbrev rows : List Verb → List (List ℕ × (List (List ℕ) → Option Call))
rows verbs = map (λ verb. (word verb, call_by verb)) verbs

by_test : (b : Bool) (f : Option (List (List ℕ) → Option Call)) (v : Verb) (o : Option Verb) → f ≡ option_map call_by o → cond b (Some (call_by v)) f ≡ option_map call_by (cond b (Some v) o)
by_test true f v o h = refl
by_test false f v o h = h

found : (verbs : List Verb) (name : List ℕ) → look_up (rows verbs) name ≡ option_map call_by (look_up (words_of verbs) name)
found [] name = refl
found (verb ∷ verbs) name = by_test (bytes_eq name (word verb)) _ verb _ (found verbs name)

-- a call by its verb
pub call_of_verb : (name : List ℕ) (words : List (List ℕ)) → parse_call name words ≡ option_and_then (λ read. read words) (option_map call_by (look_up (words_of VERBS) name))
call_of_verb name words = ap (λ o. option_and_then (λ read. read words) o) (found VERBS name)

pub descriptor_call_of_verb : (name : List ℕ) (words : List (List ℕ)) → read_by descriptor_calls name words ≡ option_and_then (λ read. read words) (option_map call_by (look_up (words_of DESCRIPTOR_VERBS) name))
descriptor_call_of_verb name words = ap (λ o. option_and_then (λ read. read words) o) (found DESCRIPTOR_VERBS name)

from_place : (verbs : List Verb) (name : List ℕ) (i : ℕ) (d : Verb) → i < length verbs → look_up (words_of (drop i verbs)) name ≡ cond (bytes_eq name (word (get_or verbs i d))) (Some (get_or verbs i d)) (look_up (words_of (drop (i + 1) verbs)) name)
from_place verbs name i d below = at_drop_more (λ left. look_up (words_of left) name) verbs i d below

-- a name that is spelled by the verb at a place
pub spelled_here : (verbs : List Verb) (name : List ℕ) (i : ℕ) (d : Verb) → i < length verbs → bytes_eq name (word (get_or verbs i d)) ≡ true → look_up (words_of (drop i verbs)) name ≡ Some (get_or verbs i d)
spelled_here verbs name i d below same = from_place verbs name i d below ∙ ap (λ b. cond b (Some (get_or verbs i d)) (look_up (words_of (drop (i + 1) verbs)) name)) same

-- a name that is not
pub spelled_later : (verbs : List Verb) (name : List ℕ) (i : ℕ) (d : Verb) → i < length verbs → bytes_eq name (word (get_or verbs i d)) ≡ false → look_up (words_of (drop i verbs)) name ≡ look_up (words_of (drop (i + 1) verbs)) name
spelled_later verbs name i d below other = from_place verbs name i d below ∙ ap (λ b. cond b (Some (get_or verbs i d)) (look_up (words_of (drop (i + 1) verbs)) name)) other
