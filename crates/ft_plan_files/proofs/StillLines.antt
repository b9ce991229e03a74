-- A line with numbers in place of names is as it was, or is a step as it was.
use Rattle.std.proofs.Common.{◌≡◌, ◌⊎◌, inl, inr, ℕ, zero, suc, ◌-◌, ◌<◌, Bool, true, false, cond, ◌&&◌, ◌||◌, not, List, [], ◌∷◌, ◌++◌, length, get_or, take, Option, None, Some, refl, sym, ap, subst, ◌∙◌, arith, append_assoc, ltb-true}
use Rattle.std.proofs.lemmas.Bool.{and_parts, false≢true}
use Rattle.std.specs.Prelude.{◌==◌, codes, is_some, nat_lt, slice_index}
use Rattle.std.specs.Cmp.Lexicographic.{bytes_decides}
use Rattle.std.specs.List.{onto_first}
use Rattle.std.specs.Option.{option_map_or}
use Rattle.std.specs.Str.{bytes_eq}
use Rattle.std.specs.Str.Lines.{strip_carriage_return}
use Rattle.ft_words.specs.Calls.{CallRow, descriptor_calls, look_up}
use Rattle.ft_words.specs.Spelling.{is_silent, words_of, words_of_line}
use Rattle.ft_names.specs.Names.{Naming, is_name}
use Rattle.ft_names.specs.Meanings.{split_name}
use Rattle.ft_plan_names.specs.Numbers.{Numbering, begins, is_open, is_step, line_end, number_first, numbered_call, numbered_line, numbered_step, numbered_text, numbered_tried, numbered_words, spaced, words_behind}
use Rattle.ft_plan_names.proofs.Keeping.{whole}
use Rattle.ft_plan_names.proofs.Spacing.{spaced_first, spaced_words, text_kept, words_some}

-- ---- words that only a step begins with

-- two bytes, of which the first begins neither `job`, `after` nor `strict`, and is no space and no `#`
pub record IsLettered (word : List ℕ) : Type 0 where
  pub first : ℕ
  pub second : ℕ
  pub others : List ℕ
  pub is : word ≡ first ∷ second ∷ others
  pub no_job : (first == 106) ≡ false
  pub no_after : (first == 97) ≡ false
  pub no_strict : (first == 115) ≡ false
  pub no_space : (first == 32) ≡ false
  pub loud : (first == 35) ≡ false

lettered : (first second : ℕ) (others : List ℕ) → (first == 106) ≡ false → (first == 97) ≡ false → (first == 115) ≡ false → (first == 32) ≡ false → (first == 35) ≡ false → IsLettered (first ∷ second ∷ others)
lettered first second others j a s space loud = record { first = first; second = second; others = others; is = refl; no_job = j; no_after = a; no_strict = s; no_space = space; loud = loud }

-- the same of each row of a table
abbrev Each : (CallRow → Type 0) → List CallRow → Type 0
Each P [] = Unit {0}
Each P (row ∷ rows) = P row × Each P rows

by_row : (rows : List CallRow) (P : List ℕ → Type 0) (name : List ℕ) → is_some (look_up rows name) ≡ true → Each (λ row. P row.0) rows → P name
by_row [] P name h each = absurd (false≢true h)
by_row (row ∷ rows) P name h each = either (bytes_eq name row.0) refl h (λ some. by_row rows P name some each.1)
  where
    either : (b : Bool) → bytes_eq name row.0 ≡ b → is_some (cond b (Some row.1) (look_up rows name)) ≡ true → (is_some (look_up rows name) ≡ true → P name) → P name
    either true is some others = subst P (sym ((bytes_decides name row.0).0 is)) each.0
    either false is some others = others some

-- the name of a call on a descriptor
on_descriptor : (word : List ℕ) → is_some (look_up descriptor_calls word) ≡ true → IsLettered word
on_descriptor word some =
    by_row descriptor_calls IsLettered word some
    (lettered 99 108 _ refl refl refl refl refl, (lettered 114 101 _ refl refl refl refl refl, (lettered 119 114 _ refl refl refl refl refl, (lettered 112 114 _ refl refl refl refl refl, (lettered 112 119 _ refl refl refl refl refl, (lettered 108 115 _ refl refl refl refl refl, (lettered 102 116 _ refl refl refl refl refl, (lettered 102 115 _ refl refl refl refl refl, (lettered 102 99 _ refl refl refl refl refl, (lettered 102 99 _ refl refl refl refl refl, (lettered 102 117 _ refl refl refl refl refl, tt)))))))))))

-- a line that begins with such a word says a step
first_kept : (first second : ℕ) (others : List ℕ) → (rest : List ℕ) × (strip_carriage_return (first ∷ second ∷ others) ≡ first ∷ rest)
first_kept first second others = either (slice_index line (length line - 1) == 13)
  where
    line : List ℕ
    line = first ∷ second ∷ others

    either : (b : Bool) → (rest : List ℕ) × (cond b (take (length (first ∷ second ∷ others) - 1) (first ∷ second ∷ others)) (first ∷ second ∷ others) ≡ first ∷ rest)
    either true = let shorter : length (first ∷ second ∷ others) - 1 ≡ suc (length others) = omega arith in (take (length others) (second ∷ others), ap (λ n. take n (first ∷ second ∷ others)) shorter)
    either false = (second ∷ others, refl)

step_by_first : (first : ℕ) (rest : List ℕ) → (first == 106) ≡ false → (first == 97) ≡ false → (first == 115) ≡ false → (first == 32) ≡ false → is_step (words_of (first ∷ rest)) ≡ true
step_by_first first rest j a s space = ap (λ c. is_step (cond c ([] ∷ words_of rest) (onto_first first (words_of rest)))) space ∙ either (words_of rest)
  where
    one : (word : List ℕ) (words : List (List ℕ)) → is_step ((first ∷ word) ∷ words) ≡ true
    one word words =
        ap (λ c. not ((c && bytes_eq word (codes "ob")) || (bytes_eq (first ∷ word) (codes "after") || bytes_eq (first ∷ word) (codes "strict")))) j
        ∙ ap (λ c. not ((c && bytes_eq word (codes "fter")) || bytes_eq (first ∷ word) (codes "strict"))) a
        ∙ ap (λ c. not (c && bytes_eq word (codes "trict"))) s

    either : (words : List (List ℕ)) → is_step (onto_first first words) ≡ true
    either [] = one [] []
    either (word ∷ words) = one word words

-- words that say a step
pub record SaysStep (line : List ℕ) : Type 0 where
  pub words : List (List ℕ)
  pub said : words_of_line line ≡ Some words
  pub is : is_step words ≡ true

says_step : (word others : List ℕ) → IsLettered word → SaysStep (word ++ others)
says_step word others is =
    let kept = first_kept is.first is.second (is.others ++ others) in
    let text : strip_carriage_return (word ++ others) ≡ is.first ∷ kept.0 = ap (λ w. strip_carriage_return (w ++ others)) is.is ∙ kept.1 in
    record {
      words = words_of (is.first ∷ kept.0);
      said =
          ap (λ t. cond {A = Option (List (List ℕ))} (is_silent t) None (Some (words_of t))) text
          ∙ ap (λ b. cond {A = Option (List (List ℕ))} b None (Some (words_of (is.first ∷ kept.0)))) is.loud;
      is = step_by_first is.first kept.0 is.no_job is.no_after is.no_strict is.no_space;
    }

-- ---- words with numbers

taken : (word : List ℕ) (words : List (List ℕ)) (count : ℕ) → 0 < count → (others : List (List ℕ)) × (take count (word ∷ words) ≡ word ∷ others)
taken word words zero some = absurd (omega arith)
taken word words (suc count) some = (take count words, refl)

-- the first word stays
module _ (names : Naming) (word : List ℕ) (words : List (List ℕ)) where
  abbrev Begins : List (List ℕ) → Type 0
  Begins made = (others : List (List ℕ)) × (made ≡ word ∷ others)

  tried_begins : Begins (numbered_tried names (word ∷ words))
  tried_begins = either (bytes_eq word (codes "try"))
    where
      either : (b : Bool) → Begins (cond b (word ∷ numbered_call names words) (numbered_call names (word ∷ words)))
      either true = (numbered_call names words, refl)
      either false = (cond (is_some (look_up descriptor_calls word)) (number_first names words) words, refl)

  given_begins : (b c : Bool) (count : ℕ) (name : List ℕ) → (c ≡ true → 0 < count)
      → Begins (option_map_or (λ (parts : List (List ℕ) × List ℕ). parts.0) (cond b (cond {A = Option (List (List ℕ) × List ℕ)} c (Some (take count (word ∷ words), name)) None) None) (numbered_tried names (word ∷ words)))
  given_begins true true count name some = taken word words count (some refl)
  given_begins true false count name some = tried_begins
  given_begins false c count name some = tried_begins

  step_begins : Begins (numbered_step names (word ∷ words))
  step_begins =
      let count : ℕ = length (word ∷ words) - 2 in
      let name : List ℕ = get_or (word ∷ words) (suc count) [] in
      let is_given : Bool = nat_lt 0 count && (bytes_eq (get_or (word ∷ words) count []) (codes "as") && is_name name) in
      given_begins (is_open (word ∷ words)) is_given count name (λ is. ltb-true 0 count (and_parts (nat_lt 0 count) (bytes_eq (get_or (word ∷ words) count []) (codes "as") && is_name name) is).0)

  -- all stay
  unchanged : bytes_eq word (codes "try") ≡ false → bytes_eq word (codes "open") ≡ false → is_some (look_up descriptor_calls word) ≡ false → numbered_step names (word ∷ words) ≡ word ∷ words
  unchanged no_try no_open no_call =
      ap (λ b. option_map_or (λ (parts : List (List ℕ) × List ℕ). parts.0) (cond (cond b (begins (codes "open") words) (bytes_eq word (codes "open"))) (split_name (word ∷ words)) None) (cond b (word ∷ numbered_call names words) (numbered_call names (word ∷ words)))) no_try
      ∙ ap (λ b. option_map_or (λ (parts : List (List ℕ) × List ℕ). parts.0) (cond b (split_name (word ∷ words)) None) (numbered_call names (word ∷ words))) no_open
      ∙ ap (λ b. word ∷ cond b (number_first names words) words) no_call

-- ---- a line

-- it was a step, and is one
pub record IsStepStill (steps : Numbering) (line : List ℕ) : Type 0 where
  pub loud : is_silent (strip_carriage_return line) ≡ false
  pub was : is_step (words_of (strip_carriage_return line)) ≡ true
  pub says : SaysStep (numbered_line steps line)

module _ (steps : Numbering) (line : List ℕ) where
  abbrev text : List ℕ
  text = strip_carriage_return line

  text_numbered : (words : List (List ℕ)) → is_silent text ≡ false → is_step (words_of text) ≡ true → words_of text ≡ words → numbered_text steps text ≡ spaced (numbered_step steps.1 words)
  text_numbered words loud step is =
      ap (λ b. cond b text (spaced (numbered_words steps (words_of text)))) loud
      ∙ ap (λ b. spaced (cond b (numbered_step steps.1 (words_of text)) (words_of text))) step
      ∙ ap (λ ws. spaced (numbered_step steps.1 ws)) is

  stays : numbered_text steps text ≡ text → numbered_line steps line ≡ line
  stays is = ap (λ t. t ++ line_end line) is ∙ whole line

  still_step : (word : List ℕ) (words : List (List ℕ)) → is_silent text ≡ false → is_step (words_of text) ≡ true → words_of text ≡ word ∷ words → IsLettered word → IsStepStill steps line
  still_step word words loud step is letters =
      let made = step_begins steps.1 word words in
      let line_is : numbered_line steps line ≡ word ++ (words_behind made.0 ++ line_end line) =
      ap (λ t. t ++ line_end line) (text_numbered (word ∷ words) loud step is ∙ ap spaced made.1 ∙ spaced_first word made.0)
      ∙ append_assoc word (words_behind made.0) (line_end line) in
      record { loud = loud; was = step; says = subst SaysStep (sym line_is) (says_step word (words_behind made.0 ++ line_end line) letters) }

  by_words : (words : List (List ℕ)) → is_silent text ≡ false → is_step (words_of text) ≡ true → words_of text ≡ words → 0 < length words → (numbered_line steps line ≡ line) ⊎ IsStepStill steps line
  by_words [] loud step is some = absurd (omega arith)
  by_words (word ∷ words) loud step is some = either (bytes_eq word (codes "try")) (bytes_eq word (codes "open")) (is_some (look_up descriptor_calls word)) refl refl refl
    where
      either : (t o d : Bool) → bytes_eq word (codes "try") ≡ t → bytes_eq word (codes "open") ≡ o → is_some (look_up descriptor_calls word) ≡ d → (numbered_line steps line ≡ line) ⊎ IsStepStill steps line
      either true o d is_try is_open is_call = inr (still_step word words loud step is (subst IsLettered (sym ((bytes_decides word (codes "try")).0 is_try)) (lettered 116 114 (codes "y") refl refl refl refl refl)))
      either false true d is_try is_open is_call = inr (still_step word words loud step is (subst IsLettered (sym ((bytes_decides word (codes "open")).0 is_open)) (lettered 111 112 (codes "en") refl refl refl refl refl)))
      either false false true is_try is_open is_call = inr (still_step word words loud step is (on_descriptor word is_call))
      either false false false is_try is_open is_call = inl (stays (text_numbered (word ∷ words) loud step is ∙ ap spaced (unchanged steps.1 word words is_try is_open is_call ∙ sym is) ∙ spaced_words text))

  -- a line with numbers in place of names is as it was, or is a step as it was
  pub kinds : (numbered_line steps line ≡ line) ⊎ IsStepStill steps line
  kinds = either (is_silent text) (is_step (words_of text)) refl refl
    where
      either : (silent step : Bool) → is_silent text ≡ silent → is_step (words_of text) ≡ step → (numbered_line steps line ≡ line) ⊎ IsStepStill steps line
      either true step is_silent_text is_step_text = inl (stays (ap (λ b. cond b text (spaced (numbered_words steps (words_of text)))) is_silent_text))
      either false false is_silent_text is_step_text = inl (stays (text_kept steps text is_step_text))
      either false true is_silent_text is_step_text = by_words (words_of text) is_silent_text is_step_text refl (words_some text)
