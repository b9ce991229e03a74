-- A step of a plan without names gives none and has none.
use Rattle.std.proofs.Common.{◌≡◌, Option, Some, None, ℕ, ◌^◌, Bool, true, false, cond, ◌&&◌, ◌||◌, not, List, [], ◌∷◌, length, refl, sym, ap, subst, ◌∙◌, arith}
use Rattle.std.proofs.lemmas.Bool.{and_parts, eqb-true, false≢true}
use Rattle.std.specs.Prelude.{◌==◌, ℤ, codes, is_some, nat_le, nat_lt, option_and_then, option_map}
use Rattle.std.specs.Char.{is_ascii_alphabetic, is_ascii_digit}
use Rattle.std.specs.Cmp.Lexicographic.{bytes_decides}
use Rattle.std.specs.List.{list_all}
use Rattle.std.specs.Option.{option_map_or}
use Rattle.std.specs.Str.{bytes_eq}
use Rattle.std.specs.Str.Parse.{digits_value}
use Rattle.ft_posix.specs.declared.call.Call.{Call}
use Rattle.ft_posix.specs.declared.call.Call.TheVariants as calls
use Rattle.ft_words.specs.Calls.{CallRow, both, descriptor_calls, last, look_up, only, parse_call, parse_flags, read_by, three}
use Rattle.ft_words.specs.Spelling.{parse_data, parse_i64, parse_path, parse_u64, stripped}
use Rattle.ft_words.specs.Modes.{parse_mode}
use Rattle.ft_names.specs.Names.{is_name}
use Rattle.ft_names.specs.Meanings.{split_name}
use Rattle.ft_plan.specs.declared.job.Step.{Step}
use Rattle.ft_plan.specs.declared.job.Step.TheVariants as steps
use Rattle.ft_plan.specs.Lines.{alone, call_step, lone_steps, on_opened, plain_step, step_of, tried, tried_step}
use Rattle.ft_plan_names.specs.Numbers.{begins, call_has_name, is_at_name, is_open, is_plain, name_given, tried_has_name}

-- nothing is not something
pub no_value : {A P : Type 0} (o : Option A) (x : A) → o ≡ None → o ≡ Some x → P
no_value None x none some = absurd (cc)
no_value (Some y) x none some = absurd (cc)

-- ---- a call whose first word is no number

letter : (b : ℕ) → is_ascii_alphabetic b ≡ true → is_ascii_digit b ≡ false
letter b h = grind arith

not_number : (b : ℕ) (bs : List ℕ) → is_ascii_digit b ≡ false → parse_u64 (b ∷ bs) ≡ None
not_number b bs h =
    ap (λ d. cond (nat_lt 0 (length (b ∷ bs)) && nat_le (length (b ∷ bs)) 20 && (d && list_all is_ascii_digit bs) && nat_lt (digits_value 10 (b ∷ bs)) (2 ^ 64)) (Some (digits_value 10 (b ∷ bs))) None) h
    ∙ either (nat_lt 0 (length (b ∷ bs))) (nat_le (length (b ∷ bs)) 20)
  where
    either : (x y : Bool) → cond (x && y && (false && list_all is_ascii_digit bs) && nat_lt (digits_value 10 (b ∷ bs)) (2 ^ 64)) (Some (digits_value 10 (b ∷ bs))) None ≡ None
    either true true = refl
    either true false = refl
    either false y = refl

map_none : {A B : Type 0} (f : A → B) (o : Option A) → o ≡ None → option_map f o ≡ None
map_none f o h = ap (option_map f) h

and_then_none : {A B : Type 0} (f : A → Option B) (o : Option A) → o ≡ None → option_and_then f o ≡ None
and_then_none f o h = ap (option_and_then f) h

only_none : (word : List ℕ) (words : List (List ℕ)) → parse_u64 word ≡ None → only parse_u64 (word ∷ words) ≡ None
only_none word [] h = h
only_none word (other ∷ words) h = refl

both_none : {B : Type 0} (others : List (List ℕ) → Option B) (word : List ℕ) (words : List (List ℕ)) → parse_u64 word ≡ None → both parse_u64 others (word ∷ words) ≡ None
both_none {B} others word words h = and_then_none {B = ℕ × B} (λ a. option_map {U = ℕ × B} (λ b. (a, b)) (others words)) (parse_u64 word) h

three_none : {B C : Type 0} (second : List ℕ → Option B) (others : List (List ℕ) → Option C) (word : List ℕ) (words : List (List ℕ)) → parse_u64 word ≡ None → three parse_u64 second others (word ∷ words) ≡ None
three_none second others word words h = map_none _ _ (both_none (both second others) word words h)

-- the same of each row of a table
abbrev Each : (CallRow → Type 0) → List CallRow → Type 0
Each P [] = Unit {0}
Each P (row ∷ rows) = P row × Each P rows

-- whichever row a name has
by_row : (rows : List CallRow) (P : List ℕ → Type 0) (name : List ℕ) → is_some (look_up rows name) ≡ true → Each (λ row. P row.0) rows → P name
by_row [] P name h each = absurd (false≢true h)
by_row (row ∷ rows) P name h each = either (bytes_eq name row.0) refl h (λ some. by_row rows P name some each.1)
  where
    either : (b : Bool) → bytes_eq name row.0 ≡ b → is_some (cond b (Some row.1) (look_up rows name)) ≡ true → (is_some (look_up rows name) ≡ true → P name) → P name
    either true is some others = subst P (sym ((bytes_decides name row.0).0 is)) each.0
    either false is some others = others some

-- each call on a descriptor needs a number
on_descriptor : (word : List ℕ) (words : List (List ℕ)) → parse_u64 word ≡ None → Each (λ row. read_by descriptor_calls row.0 (word ∷ words) ≡ None) descriptor_calls
on_descriptor word words h =
    (map_none _ _ (only_none word words h), (map_none (λ (a : ℕ × ℕ). calls.Read a.0 a.1) _ (both_none (only parse_u64) word words h), (map_none (λ (a : ℕ × List ℕ). calls.Write a.0 a.1) _ (both_none (last parse_data) word words h), (map_none _ _ (three_none _ _ word words h), (map_none _ _ (three_none _ _ word words h), (map_none _ _ (three_none _ _ word words h), (map_none (λ (a : ℕ × ℤ). calls.Ftruncate a.0 a.1) _ (both_none (only parse_i64) word words h), (map_none _ _ (only_none word words h), (map_none (λ (a : ℕ × ℕ). calls.Fchmod a.0 a.1) _ (both_none (only parse_mode) word words h), (map_none _ _ (three_none _ _ word words h), (map_none _ _ (three_none _ _ word words h), tt)))))))))))

in_all : (word : List ℕ) (words : List (List ℕ)) → parse_u64 word ≡ None → Each (λ row. parse_call row.0 (word ∷ words) ≡ None) descriptor_calls
in_all word words h = on_descriptor word words h

pub call_none : (name : List ℕ) (words : List (List ℕ)) → on_opened name words ≡ None → parse_call name words ≡ None → call_step name words ≡ None
call_none name words h k = ap (λ o. option_map_or Some o (option_map steps.Call (parse_call name words))) h ∙ map_none steps.Call (parse_call name words) k

-- a call on a descriptor that has `@` and a name is no step
named_call : (name word : List ℕ) (words : List (List ℕ)) → is_some (look_up descriptor_calls name) ≡ true → is_at_name word ≡ true → call_step name (word ∷ words) ≡ None
named_call name [] words some h = absurd (false≢true h)
named_call name (b ∷ []) words some h = absurd (false≢true (sym (and_false (b == 64)) ∙ h))
  where
    and_false : (c : Bool) → (c && false) ≡ false
    and_false true = refl
    and_false false = refl
named_call name (b ∷ d ∷ ds) words some h =
    let parts = and_parts (b == 64) (is_ascii_alphabetic d) h in
    call_none name ((b ∷ d ∷ ds) ∷ words)
    (
    map_none _ _
    (
    ap (λ c. option_and_then (read_by descriptor_calls name) (cond c (Some ((d ∷ ds) ∷ words)) None)) parts.0
    ∙ by_row descriptor_calls (λ n. read_by descriptor_calls n ((d ∷ ds) ∷ words) ≡ None) name some (on_descriptor (d ∷ ds) words (not_number d ds (letter d parts.1)))
    )
    )
    (by_row descriptor_calls (λ n. parse_call n ((b ∷ d ∷ ds) ∷ words) ≡ None) name some (in_all (b ∷ d ∷ ds) words (not_number b (d ∷ ds) (at_sign b parts.0))))
  where
    at_sign : (c : ℕ) → (c == 64) ≡ true → is_ascii_digit c ≡ false
    at_sign c is = ap is_ascii_digit (eqb-true c 64 is)

call_is_plain : (name : List ℕ) (words : List (List ℕ)) (step : Step) → call_step name words ≡ Some step → call_has_name (name ∷ words) ≡ false
call_is_plain name [] step h = refl
call_is_plain name (word ∷ words) step h = either (is_some (look_up descriptor_calls name)) (is_at_name word) refl refl
  where
    either : (b c : Bool) → is_some (look_up descriptor_calls name) ≡ b → is_at_name word ≡ c → (b && c) ≡ false
    either true true is named = no_value (call_step name (word ∷ words)) step (named_call name word words is named) h
    either true false is named = refl
    either false c is named = refl

-- ---- an open with too many words

-- a word that is no name of a call on a descriptor has none in a plan
pub not_on : (name : List ℕ) (words : List (List ℕ)) → look_up descriptor_calls name ≡ None → on_opened name words ≡ None
not_on name words h = map_none _ _ (either (stripped 64 words))
  where
    either : (o : Option (List (List ℕ))) → option_and_then (read_by descriptor_calls name) o ≡ None
    either None = refl
    either (Some others) = ap (option_and_then (λ (arguments : List (List ℕ) → Option Call). arguments others)) h

both_without : {A B : Type 0} (read : List ℕ → Option A) (others : List (List ℕ) → Option B) (word : List ℕ) (words : List (List ℕ)) → others words ≡ None → both read others (word ∷ words) ≡ None
both_without {A} {B} read others word words h = ap (λ (o : Option B). option_and_then {U = A × B} (λ a. option_map {U = A × B} (λ b. (a, b)) o) (read word)) h ∙ either (read word)
  where
    either : (o : Option A) → option_and_then {U = A × B} (λ a. option_map {T = B} {U = A × B} (λ b. (a, b)) None) o ≡ None
    either None = refl
    either (Some a) = refl

open_of_three : (a b d : List ℕ) (words : List (List ℕ)) → call_step (codes "open") (a ∷ b ∷ d ∷ words) ≡ None
open_of_three a b d words =
    call_none (codes "open") (a ∷ b ∷ d ∷ words) (not_on (codes "open") (a ∷ b ∷ d ∷ words) refl) (map_none _ _ (both_without parse_flags (last parse_path) a (b ∷ d ∷ words) refl))

open_as : (a b : List ℕ) → bytes_eq a (codes "as") ≡ true → call_step (codes "open") (a ∷ b ∷ []) ≡ None
open_as a b is = subst (λ w. call_step (codes "open") (w ∷ b ∷ []) ≡ None) (sym ((bytes_decides a (codes "as")).0 is)) refl

-- an open that is a step gives no name
open_plain : (words : List (List ℕ)) (step : Step) → call_step (codes "open") words ≡ Some step → split_name (codes "open" ∷ words) ≡ None
open_plain [] step h = refl
open_plain (a ∷ []) step h = refl
open_plain (a ∷ b ∷ []) step h = either (bytes_eq a (codes "as")) refl
  where
    either : (c : Bool) → bytes_eq a (codes "as") ≡ c → cond {A = Option (List (List ℕ) × List ℕ)} (c && is_name b) (Some (codes "open" ∷ [], b)) None ≡ None
    either true is = no_value (call_step (codes "open") (a ∷ b ∷ [])) step (open_as a b is) h
    either false is = refl
open_plain (a ∷ b ∷ d ∷ words) step h = no_value (call_step (codes "open") (a ∷ b ∷ d ∷ words)) step (open_of_three a b d words) h

-- the same of one that may be tried
tried_open_plain : (word : List ℕ) (words : List (List ℕ)) (step : Step) → call_step (codes "open") words ≡ Some step → split_name (word ∷ codes "open" ∷ words) ≡ None
tried_open_plain word [] step h = refl
tried_open_plain word (a ∷ []) step h = refl
tried_open_plain word (a ∷ b ∷ []) step h = either (bytes_eq a (codes "as")) refl
  where
    either : (c : Bool) → bytes_eq a (codes "as") ≡ c → cond {A = Option (List (List ℕ) × List ℕ)} (c && is_name b) (Some (word ∷ codes "open" ∷ [], b)) None ≡ None
    either true is = no_value (call_step (codes "open") (a ∷ b ∷ [])) step (open_as a b is) h
    either false is = refl
tried_open_plain word (a ∷ b ∷ d ∷ words) step h = no_value (call_step (codes "open") (a ∷ b ∷ d ∷ words)) step (open_of_three a b d words) h

-- ---- a step

plain_by : (words : List (List ℕ)) → name_given words ≡ None → tried_has_name words ≡ false → is_plain words ≡ true
plain_by words h k = ap (λ (g : Option (List (List ℕ) × List ℕ)). not (is_some g || tried_has_name words)) h ∙ ap not k

-- what is made of a value is made of one
pub of_value : {A B : Type 0} (f : A → B) (o : Option A) (y : B) → option_map f o ≡ Some y → (x : A) × (o ≡ Some x)
of_value f None y h = no_value {P = _} None y refl h
of_value f (Some x) y h = (x, refl)

no_open : (o : Option (List (List ℕ) × List ℕ)) (b : Bool) → (b ≡ true → o ≡ None) → cond b o None ≡ None
no_open o true h = h refl
no_open o false h = refl

-- a call after `try`
tried_is_plain : (word name : List ℕ) (words : List (List ℕ)) (step : Step) → bytes_eq word (codes "try") ≡ true → call_step name words ≡ Some step → is_plain (word ∷ name ∷ words) ≡ true
tried_is_plain word name words step is h =
    plain_by (word ∷ name ∷ words)
    (
    ap (λ b. cond (cond b (bytes_eq name (codes "open")) (bytes_eq word (codes "open"))) (split_name (word ∷ name ∷ words)) None) is
    ∙ no_open (split_name (word ∷ name ∷ words)) (bytes_eq name (codes "open"))
    (
    λ same_word.
    let same = (bytes_decides name (codes "open")).0 same_word in
    subst (λ n. split_name (word ∷ n ∷ words) ≡ None) (sym same) (tried_open_plain word words step (subst (λ n. call_step n words ≡ Some step) same h))
    )
    )
    (ap (λ b. cond b (call_has_name (name ∷ words)) (call_has_name (word ∷ name ∷ words))) is ∙ call_is_plain name words step h)

-- a call that is not tried
untried_is_plain : (word : List ℕ) (words : List (List ℕ)) (step : Step) → bytes_eq word (codes "try") ≡ false → call_step word words ≡ Some step → is_plain (word ∷ words) ≡ true
untried_is_plain word words step is h =
    plain_by (word ∷ words)
    (
    ap (λ b. cond (cond b (begins (codes "open") words) (bytes_eq word (codes "open"))) (split_name (word ∷ words)) None) is
    ∙ no_open (split_name (word ∷ words)) (bytes_eq word (codes "open"))
    (
    λ same_word.
    let same = (bytes_decides word (codes "open")).0 same_word in
    subst (λ n. split_name (n ∷ words) ≡ None) (sym same) (open_plain words step (subst (λ n. call_step n words ≡ Some step) same h))
    )
    )
    (ap (λ b. cond b (call_has_name words) (call_has_name (word ∷ words))) is ∙ call_is_plain word words step h)

-- a word that stands on a line of its own
alone_is_plain : (word : List ℕ) → is_plain (word ∷ []) ≡ true
alone_is_plain word = plain_by (word ∷ []) (no_open (split_name (word ∷ [])) (is_open (word ∷ [])) (λ is. refl)) (either (bytes_eq word (codes "try")))
  where
    either : (b : Bool) → cond b (call_has_name []) (call_has_name (word ∷ [])) ≡ false
    either true = refl
    either false = refl

plain_step_is_plain : (word : List ℕ) (words : List (List ℕ)) (step : Step) → bytes_eq word (codes "try") ≡ false → plain_step word words ≡ Some step → is_plain (word ∷ words) ≡ true
plain_step_is_plain word words step is h = either (look_up lone_steps word) words h
  where
    either : (o : Option Step) (ws : List (List ℕ)) → option_map_or (alone ws) o (call_step word ws) ≡ Some step → is_plain (word ∷ ws) ≡ true
    either (Some lone) [] k = alone_is_plain word
    either (Some lone) (w ∷ ws) k = no_value {P = _} None step refl k
    either None ws k = untried_is_plain word ws step is k

-- words that are no call and no step
pub no_step : (word : List ℕ) (words : List (List ℕ)) → look_up lone_steps word ≡ None → look_up descriptor_calls word ≡ None → parse_call word words ≡ None → plain_step word words ≡ None
no_step word words lone on all =
    ap (λ (o : Option Step). option_map_or (alone words) o (call_step word words)) lone ∙ call_none word words (not_on word words on) all

no_try : (words : List (List ℕ)) → plain_step (codes "try") words ≡ None
no_try words = no_step (codes "try") words refl refl refl

pub step_is_plain : (strict : Bool) (word : List ℕ) (words : List (List ℕ)) (step : Step) → step_of strict word words ≡ Some step → is_plain (word ∷ words) ≡ true
step_is_plain strict word words step h = either strict (bytes_eq word (codes "try")) refl words h
  where
    either : (s b : Bool) → bytes_eq word (codes "try") ≡ b → (ws : List (List ℕ)) → cond (s && b) (tried_step ws) (plain_step word ws) ≡ Some step → is_plain (word ∷ ws) ≡ true
    either true true is [] k = no_value {P = _} None step refl k
    either true true is (name ∷ ws) k =
        let made = of_value tried (call_step name ws) step k in
        tried_is_plain word name ws made.0 is made.1
    either false true is ws k =
        no_value (plain_step word ws) step (subst (λ w. plain_step w ws ≡ None) (sym ((bytes_decides word (codes "try")).0 is)) (no_try ws)) k
    either true false is ws k = plain_step_is_plain word ws step is k
    either false false is ws k = plain_step_is_plain word ws step is k
