-- The words of the steps that are written out, and their lines.
use Rattle.std.proofs.Common.{◌≡◌, ℕ, ◌^◌, ◌-◌, ◌<◌, ◌≤◌, Bool, true, false, cond, ◌&&◌, List, [], ◌∷◌, ◌++◌, length, Option, None, Some, refl, ap, ◌∙◌, arith}
use Rattle.std.proofs.lemmas.Bool.{and_parts}
use Rattle.std.specs.Prelude.{codes}
use Rattle.std.specs.Fmt.{decimal}
use Rattle.std.specs.List.{join_with_byte, list_all}
use Rattle.ft_words.specs.Spelling.{IsFreeOf, is_silent, words_of, words_of_line}
use Rattle.ft_words.specs.Texts.{coded}
use Rattle.ft_plan_names.specs.Numbers.{Numbering, after_line, after_text, after_words, all_lines, line_end, numbered_line, numbered_text, numbered_words, spaced}
use Rattle.ft_plan_files.specs.FileLines.{get_text, put_text}
use Rattle.ft_plan_files.proofs.Cutting.{AllFree, cut_back, cut_end, joined_free}
use Rattle.ft_plan_files.proofs.Ends.{IsEnd, end_free, end_kept, strip_end}
use Rattle.ft_plan_files.proofs.Printed.{coded_is_word, decimal_is_word, is_word, word_free}

-- ---- words

-- words of bytes above the space, of which the first does not begin with `#`
pub record AreWords (words : List (List ℕ)) : Type 0 where
  pub printed : list_all is_word words ≡ true
  pub some : 0 < length words
  pub loud : is_silent (spaced words) ≡ false

words_free : (byte : ℕ) (words : List (List ℕ)) → byte ≤ 32 → list_all is_word words ≡ true → AllFree byte words
words_free byte [] low h = tt
words_free byte (word ∷ words) low h =
    let both = and_parts (is_word word) (list_all is_word words) h in
    (word_free byte word low both.0, words_free byte words low both.1)

module _ (words : List (List ℕ)) (are : AreWords words) where
  pub no_feed : IsFreeOf 10 (spaced words)
  no_feed = joined_free 10 32 words refl (words_free 10 words (omega arith) are.printed)

  pub no_return : IsFreeOf 13 (spaced words)
  no_return = joined_free 13 32 words refl (words_free 13 words (omega arith) are.printed)

  pub words_back : words_of (spaced words) ≡ words
  words_back = cut_back 32 words are.some (words_free 32 words (omega arith) are.printed)

  -- a line of these words says them
  pub line_words : (end : List ℕ) → IsEnd end → words_of_line (spaced words ++ end) ≡ Some words
  line_words end is =
      ap (λ t. cond {A = Option (List (List ℕ))} (is_silent t) None (Some (words_of t))) (strip_end (spaced words) end no_return is)
      ∙ ap (λ b. cond {A = Option (List (List ℕ))} b None (Some (words_of (spaced words)))) are.loud
      ∙ ap Some words_back

  -- with numbers it has these words with numbers
  pub line_numbered : (steps : Numbering) (end : List ℕ) → IsEnd end → numbered_line steps (spaced words ++ end) ≡ spaced (numbered_words steps words) ++ end
  line_numbered steps end is =
      ap (λ t. numbered_text steps t ++ line_end (spaced words ++ end)) (strip_end (spaced words) end no_return is)
      ∙ ap (λ e. numbered_text steps (spaced words) ++ e) (end_kept (spaced words) end no_return is)
      ∙ ap (λ b. cond b (spaced words) (spaced (numbered_words steps (words_of (spaced words)))) ++ end) are.loud
      ∙ ap (λ ws. spaced (numbered_words steps ws) ++ end) words_back

  -- the steps after it
  pub line_after : (steps : Numbering) (end : List ℕ) → IsEnd end → after_line steps (spaced words ++ end) ≡ after_words steps words
  line_after steps end is =
      ap (after_text steps) (strip_end (spaced words) end no_return is)
      ∙ ap (λ b. cond {A = Numbering} b steps (after_words steps (words_of (spaced words)))) are.loud
      ∙ ap (after_words steps) words_back

-- ---- the words of each step

-- after `try`, or as they are
abbrev pub with_try : Bool → List (List ℕ) → List (List ℕ)
with_try true words = codes "try" ∷ words
with_try false words = words

abbrev pub open_words : List ℕ → List ℕ → List ℕ → List (List ℕ)
open_words flags path name = codes "open" ∷ flags ∷ coded path ∷ codes "as" ∷ name ∷ []

-- without the name
abbrev pub opened_words : List ℕ → List ℕ → List (List ℕ)
opened_words flags path = codes "open" ∷ flags ∷ coded path ∷ []

abbrev pub size_words : List ℕ → ℕ → List (List ℕ)
size_words fd size = codes "ftruncate" ∷ fd ∷ decimal size ∷ []

-- data is left out if there is none
abbrev pub data_words : List ℕ → List (List ℕ)
data_words [] = []
data_words (b ∷ bs) = coded (b ∷ bs) ∷ []

abbrev pub write_words : List ℕ → List ℕ → List (List ℕ)
write_words fd bytes = codes "write" ∷ fd ∷ data_words bytes

abbrev pub read_words : List ℕ → ℕ → List (List ℕ)
read_words fd most = codes "read" ∷ fd ∷ decimal most ∷ []

abbrev pub close_words : List ℕ → List (List ℕ)
close_words fd = codes "close" ∷ fd ∷ []

-- ---- that they are words

pub put_open_are : (is_tried : Bool) (path : List ℕ) → AreWords (with_try is_tried (open_words (codes "wct") path (codes "put")))
put_open_are true path = record { printed = ap (λ b. b && true) (coded_is_word path); some = omega arith; loud = refl }
put_open_are false path = record { printed = ap (λ b. b && true) (coded_is_word path); some = omega arith; loud = refl }

pub get_open_are : (is_tried : Bool) (path : List ℕ) → AreWords (with_try is_tried (open_words (codes "r") path (codes "get")))
get_open_are true path = record { printed = ap (λ b. b && true) (coded_is_word path); some = omega arith; loud = refl }
get_open_are false path = record { printed = ap (λ b. b && true) (coded_is_word path); some = omega arith; loud = refl }

pub opened_are : (is_tried : Bool) (flags path : List ℕ) → is_word flags ≡ true → AreWords (with_try is_tried (opened_words flags path))
opened_are true flags path h = record { printed = ap (λ b. b && (is_word (coded path) && true)) h ∙ ap (λ b. b && true) (coded_is_word path); some = omega arith; loud = refl }
opened_are false flags path h = record { printed = ap (λ b. b && (is_word (coded path) && true)) h ∙ ap (λ b. b && true) (coded_is_word path); some = omega arith; loud = refl }

pub size_are : (is_tried : Bool) (fd : List ℕ) (size : ℕ) → is_word fd ≡ true → AreWords (with_try is_tried (size_words fd size))
size_are true fd size h = record { printed = ap (λ b. b && (is_word (decimal size) && true)) h ∙ ap (λ b. b && true) (decimal_is_word size); some = omega arith; loud = refl }
size_are false fd size h = record { printed = ap (λ b. b && (is_word (decimal size) && true)) h ∙ ap (λ b. b && true) (decimal_is_word size); some = omega arith; loud = refl }

data_are : (bytes : List ℕ) → list_all is_word (data_words bytes) ≡ true
data_are [] = refl
data_are (b ∷ bs) = ap (λ c. c && true) (coded_is_word (b ∷ bs))

write_loud : (fd bytes : List ℕ) → is_silent (spaced (write_words fd bytes)) ≡ false
write_loud fd [] = refl
write_loud fd (b ∷ bs) = refl

pub write_are : (is_tried : Bool) (fd bytes : List ℕ) → is_word fd ≡ true → AreWords (with_try is_tried (write_words fd bytes))
write_are true fd bytes h = record { printed = ap (λ b. b && list_all is_word (data_words bytes)) h ∙ data_are bytes; some = omega arith; loud = refl }
write_are false fd bytes h = record { printed = ap (λ b. b && list_all is_word (data_words bytes)) h ∙ data_are bytes; some = omega arith; loud = write_loud fd bytes }

pub read_are : (is_tried : Bool) (fd : List ℕ) (most : ℕ) → is_word fd ≡ true → AreWords (with_try is_tried (read_words fd most))
read_are true fd most h = record { printed = ap (λ b. b && (is_word (decimal most) && true)) h ∙ ap (λ b. b && true) (decimal_is_word most); some = omega arith; loud = refl }
read_are false fd most h = record { printed = ap (λ b. b && (is_word (decimal most) && true)) h ∙ ap (λ b. b && true) (decimal_is_word most); some = omega arith; loud = refl }

pub close_are : (is_tried : Bool) (fd : List ℕ) → is_word fd ≡ true → AreWords (with_try is_tried (close_words fd))
close_are true fd h = record { printed = ap (λ b. b && true) h; some = omega arith; loud = refl }
close_are false fd h = record { printed = ap (λ b. b && true) h; some = omega arith; loud = refl }

-- ---- the lines of steps

-- a step as text
abbrev pub step_text : Bool → List (List ℕ) → List ℕ
step_text is_tried words = spaced (with_try is_tried words)

abbrev pub put_opens : Bool → List ℕ → List ℕ
put_opens is_tried path = step_text is_tried (open_words (codes "wct") path (codes "put"))

abbrev pub put_sizes : Bool → List ℕ → List ℕ
put_sizes is_tried bytes = step_text is_tried (size_words (codes "@put") (length bytes))

abbrev pub put_writes : Bool → List ℕ → List ℕ
put_writes is_tried bytes = step_text is_tried (write_words (codes "@put") bytes)

abbrev pub closes : Bool → List ℕ → List ℕ
closes is_tried fd = step_text is_tried (close_words fd)

abbrev pub get_opens : Bool → List ℕ → List ℕ
get_opens is_tried path = step_text is_tried (open_words (codes "r") path (codes "get"))

abbrev pub get_reads : Bool → List ℕ
get_reads is_tried = step_text is_tried (read_words (codes "@get") (2 ^ 64 - 1))

put_is : (is_tried : Bool) (path bytes : List ℕ) → put_text is_tried path bytes ≡ join_with_byte 10 ((put_opens is_tried path ∷ put_sizes is_tried bytes ∷ put_writes is_tried bytes ∷ []) ++ closes is_tried (codes "@put") ∷ [])
put_is true path [] = refl
put_is true path (b ∷ bs) = refl
put_is false path [] = refl
put_is false path (b ∷ bs) = refl

get_is : (is_tried : Bool) (path : List ℕ) → get_text is_tried path ≡ join_with_byte 10 ((get_opens is_tried path ∷ get_reads is_tried ∷ []) ++ closes is_tried (codes "@get") ∷ [])
get_is true path = refl
get_is false path = refl

pub put_lines : (is_tried : Bool) (path bytes end : List ℕ) → IsEnd end → all_lines (put_text is_tried path bytes ++ end) ≡ put_opens is_tried path ∷ put_sizes is_tried bytes ∷ put_writes is_tried bytes ∷ (closes is_tried (codes "@put") ++ end) ∷ []
put_lines is_tried path bytes end is =
    ap (λ t. all_lines (t ++ end)) (put_is is_tried path bytes)
    ∙ cut_end 10 (put_opens is_tried path ∷ put_sizes is_tried bytes ∷ put_writes is_tried bytes ∷ []) (closes is_tried (codes "@put")) end
    (no_feed _ (put_open_are is_tried path), (no_feed _ (size_are is_tried (codes "@put") (length bytes) refl), (no_feed _ (write_are is_tried (codes "@put") bytes refl), tt)))
    (no_feed _ (close_are is_tried (codes "@put") refl)) (end_free end is)

pub get_lines : (is_tried : Bool) (path end : List ℕ) → IsEnd end → all_lines (get_text is_tried path ++ end) ≡ get_opens is_tried path ∷ get_reads is_tried ∷ (closes is_tried (codes "@get") ++ end) ∷ []
get_lines is_tried path end is =
    ap (λ t. all_lines (t ++ end)) (get_is is_tried path)
    ∙ cut_end 10 (get_opens is_tried path ∷ get_reads is_tried ∷ []) (closes is_tried (codes "@get")) end
    (no_feed _ (get_open_are is_tried path), (no_feed _ (read_are is_tried (codes "@get") (2 ^ 64 - 1) refl), tt))
    (no_feed _ (close_are is_tried (codes "@get") refl)) (end_free end is)
