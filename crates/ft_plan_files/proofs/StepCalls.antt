-- What the steps say that are written out.
use Rattle.std.proofs.Common.{◌≡◌, ℕ, suc, ◌-◌, ◌^◌, ◌<◌, Bool, true, false, cond, List, [], ◌∷◌, ◌++◌, length, Option, None, Some, ℤ, pos, refl, sym, ap, ◌∙◌, arith, append-nil}
use Rattle.std.proofs.lemmas.Bool.{false≢true}
use Rattle.std.specs.Prelude.{codes, option_and_then, option_map}
use Rattle.std.specs.Fmt.{decimal}
use Rattle.std.specs.Option.{option_map_or}
use Rattle.std.specs.Str.{bytes_eq}
use Rattle.ft_path.specs.Name.{IsNulFree}
use Rattle.ft_posix.specs.declared.call.Call.{Call}
use Rattle.ft_posix.specs.declared.call.Call.TheVariants as calls
use Rattle.ft_posix.specs.declared.call.OpenFlags.{OpenFlags}
use Rattle.ft_words.specs.Calls.{both, descriptor_calls, last, look_up, only, parse_call, parse_flags, read_by}
use Rattle.ft_words.specs.Spelling.{parse_data, parse_i64, parse_path, parse_u64, words_of_line}
use Rattle.ft_words.specs.Texts.{coded}
use Rattle.ft_names.specs.Names.{Naming, with_name}
use Rattle.ft_plan.specs.declared.job.Step.{Step}
use Rattle.ft_plan.specs.declared.job.Step.TheVariants as plan_step
use Rattle.ft_plan.specs.declared.line.PlanLine.{PlanLine}
use Rattle.ft_plan.specs.declared.line.PlanLine.TheVariants as plan_line
use Rattle.ft_plan.specs.Lines.{alone, call_step, after_line as after_names, job_line, line_of, lone_steps, plain_step, tried, tried_step}
use Rattle.ft_plan.specs.Plans.{said}
use Rattle.ft_plan_names.specs.Numbers.{Numbering, after_line, after_words, all_lines, is_step, line_end, numbered_line, numbered_lines, numbered_words, spaced}
use Rattle.ft_transfer.specs.Transfers.{reading, writing}
use Rattle.ft_plan_files.specs.FileLines.{get_text, put_text}
use Rattle.ft_plan_files.specs.Laws.{AreBytes, get_calls, put_calls, said_steps, tried_or_not}
use Rattle.ft_plan_files.proofs.Ends.{IsEnd, end_of, no_end}
use Rattle.ft_plan_files.proofs.Printed.{data_read, decimal_is_word, integer_read, is_word, no_data_read, number_read, path_read}
use Rattle.ft_plan_files.proofs.StepWords.{AreWords, close_are, close_words, closes, data_words, get_lines, get_open_are, get_opens, get_reads, line_after, line_numbered, line_words, open_words, opened_are, opened_words, put_lines, put_open_are, put_opens, put_sizes, put_writes, read_are, read_words, size_are, size_words, with_try, write_are, write_words}

-- ---- numbers in place of names

-- words, and what they are with numbers after these steps; they are a step, and these are the steps
-- after it
pub record IsStep (steps next : Numbering) (words after : List (List ℕ)) : Type 0 where
  pub are : AreWords words
  pub are_after : AreWords after
  pub numbered : numbered_words steps words ≡ after
  pub next_is : after_words steps words ≡ next
  pub is : is_step after ≡ true

-- `@` and a number
abbrev pub at_number : ℕ → List ℕ
at_number number = 64 ∷ decimal number

-- a name that stands for a number
abbrev pub given : List ℕ → ℕ → Naming → Naming
given name number names = with_name name (Some number) names

number_is_word : (number : ℕ) → is_word (at_number number) ≡ true
number_is_word number = decimal_is_word number

module _ (count : ℕ) (names : Naming) where
  pub put_opens_is : (is_tried : Bool) (path : List ℕ) → IsStep (count, names) (suc count, given (codes "put") (suc count) names) (with_try is_tried (open_words (codes "wct") path (codes "put"))) (with_try is_tried (opened_words (codes "wct") path))
  put_opens_is true path = record { are = put_open_are true path; are_after = opened_are true (codes "wct") path refl; numbered = refl; next_is = refl; is = refl }
  put_opens_is false path = record { are = put_open_are false path; are_after = opened_are false (codes "wct") path refl; numbered = refl; next_is = refl; is = refl }

  pub get_opens_is : (is_tried : Bool) (path : List ℕ) → IsStep (count, names) (suc count, given (codes "get") (suc count) names) (with_try is_tried (open_words (codes "r") path (codes "get"))) (with_try is_tried (opened_words (codes "r") path))
  get_opens_is true path = record { are = get_open_are true path; are_after = opened_are true (codes "r") path refl; numbered = refl; next_is = refl; is = refl }
  get_opens_is false path = record { are = get_open_are false path; are_after = opened_are false (codes "r") path refl; numbered = refl; next_is = refl; is = refl }

  -- the others, whose name stands for the number of that step
  module _ (opened : ℕ) where
    pub put_sizes_is : (is_tried : Bool) (size : ℕ) → IsStep (count, given (codes "put") opened names) (suc count, given (codes "put") opened names) (with_try is_tried (size_words (codes "@put") size)) (with_try is_tried (size_words (at_number opened) size))
    put_sizes_is true size = record { are = size_are true (codes "@put") size refl; are_after = size_are true (at_number opened) size (number_is_word opened); numbered = refl; next_is = refl; is = refl }
    put_sizes_is false size = record { are = size_are false (codes "@put") size refl; are_after = size_are false (at_number opened) size (number_is_word opened); numbered = refl; next_is = refl; is = refl }

    pub put_writes_is : (is_tried : Bool) (bytes : List ℕ) → IsStep (count, given (codes "put") opened names) (suc count, given (codes "put") opened names) (with_try is_tried (write_words (codes "@put") bytes)) (with_try is_tried (write_words (at_number opened) bytes))
    put_writes_is true bytes = record { are = write_are true (codes "@put") bytes refl; are_after = write_are true (at_number opened) bytes (number_is_word opened); numbered = refl; next_is = refl; is = refl }
    put_writes_is false bytes = record { are = write_are false (codes "@put") bytes refl; are_after = write_are false (at_number opened) bytes (number_is_word opened); numbered = refl; next_is = refl; is = refl }

    pub get_reads_is : (is_tried : Bool) (most : ℕ) → IsStep (count, given (codes "get") opened names) (suc count, given (codes "get") opened names) (with_try is_tried (read_words (codes "@get") most)) (with_try is_tried (read_words (at_number opened) most))
    get_reads_is true most = record { are = read_are true (codes "@get") most refl; are_after = read_are true (at_number opened) most (number_is_word opened); numbered = refl; next_is = refl; is = refl }
    get_reads_is false most = record { are = read_are false (codes "@get") most refl; are_after = read_are false (at_number opened) most (number_is_word opened); numbered = refl; next_is = refl; is = refl }

    pub put_closes_is : (is_tried : Bool) → IsStep (count, given (codes "put") opened names) (suc count, given (codes "put") opened names) (with_try is_tried (close_words (codes "@put"))) (with_try is_tried (close_words (at_number opened)))
    put_closes_is true = record { are = close_are true (codes "@put") refl; are_after = close_are true (at_number opened) (number_is_word opened); numbered = refl; next_is = refl; is = refl }
    put_closes_is false = record { are = close_are false (codes "@put") refl; are_after = close_are false (at_number opened) (number_is_word opened); numbered = refl; next_is = refl; is = refl }

    pub get_closes_is : (is_tried : Bool) → IsStep (count, given (codes "get") opened names) (suc count, given (codes "get") opened names) (with_try is_tried (close_words (codes "@get"))) (with_try is_tried (close_words (at_number opened)))
    get_closes_is true = record { are = close_are true (codes "@get") refl; are_after = close_are true (at_number opened) (number_is_word opened); numbered = refl; next_is = refl; is = refl }
    get_closes_is false = record { are = close_are false (codes "@get") refl; are_after = close_are false (at_number opened) (number_is_word opened); numbered = refl; next_is = refl; is = refl }

-- ---- calls

-- the words of a call
abbrev IsVerb : List ℕ → Type 0
IsVerb verb = (bytes_eq verb (codes "job") ≡ false) × (bytes_eq verb (codes "after") ≡ false) × (bytes_eq verb (codes "try") ≡ false) × (look_up lone_steps verb ≡ None)

call_said : (strict is_tried : Bool) (verb : List ℕ) (words : List (List ℕ)) (step : Step) → (is_tried ≡ true → strict ≡ true) → IsVerb verb → call_step verb words ≡ Some step
    → line_of strict (with_try is_tried (verb ∷ words)) ≡ Some (plan_line.Step (tried_or_not is_tried step))
call_said true true verb words step may is call = ap (λ (o : Option Step). option_map plan_line.Step (option_map tried o)) call
call_said false true verb words step may is call = absurd (false≢true (may refl))
call_said true false verb words step may is call =
    ap (λ b. cond b (job_line true words) (cond (bytes_eq verb (codes "after")) (after_names words) (option_map plan_line.Step (cond (bytes_eq verb (codes "try")) (tried_step words) (plain_step verb words))))) is.0
    ∙ ap (λ b. cond b (after_names words) (option_map plan_line.Step (cond (bytes_eq verb (codes "try")) (tried_step words) (plain_step verb words)))) is.1
    ∙ ap (λ b. option_map plan_line.Step (cond b (tried_step words) (plain_step verb words))) is.2
    ∙ ap (λ (o : Option Step). option_map plan_line.Step (option_map_or (alone words) o (call_step verb words))) is.3
    ∙ ap (λ (o : Option Step). option_map plan_line.Step o) call
call_said false false verb words step may is call =
    ap (λ b. cond b (job_line false words) (option_map plan_line.Step (plain_step verb words))) is.0
    ∙ ap (λ (o : Option Step). option_map plan_line.Step (option_map_or (alone words) o (call_step verb words))) is.3
    ∙ ap (λ (o : Option Step). option_map plan_line.Step o) call

-- a call on what a step opened
on_said : (verb word : List ℕ) (words : List (List ℕ)) (call : Call) → read_by descriptor_calls verb (word ∷ words) ≡ Some call → call_step verb ((64 ∷ word) ∷ words) ≡ Some (plan_step.CallOn call)
on_said verb word words call is = ap (λ (o : Option Call). option_map_or Some (option_map plan_step.CallOn o) (option_map plan_step.Call (parse_call verb ((64 ∷ word) ∷ words)))) is

both_read : {A B : Type 0} (read : List ℕ → Option A) (others : List (List ℕ) → Option B) (word : List ℕ) (words : List (List ℕ)) (a : A) (b : B) → read word ≡ Some a → others words ≡ Some b → both read others (word ∷ words) ≡ Some (a, b)
both_read {A} {B} read others word words a b h k =
    ap (option_and_then {U = A × B} (λ x. option_map {U = A × B} (λ y. (x, y)) (others words))) h
    ∙ ap (option_map {U = A × B} (λ y. (a, y))) k

-- ---- each step

pub opens_said : (strict is_tried : Bool) (path word : List ℕ) (flags : OpenFlags) → (is_tried ≡ true → strict ≡ true) → AreBytes path → IsNulFree path → call_step (codes "open") (word ∷ coded path ∷ []) ≡ option_map plan_step.Call (option_map (λ (a : OpenFlags × List ℕ). calls.Open a.1 a.0) (both parse_flags (last parse_path) (word ∷ coded path ∷ []))) → parse_flags word ≡ Some flags
    → line_of strict (with_try is_tried (opened_words word path)) ≡ Some (plan_line.Step (tried_or_not is_tried (plan_step.Call (calls.Open path flags))))
opens_said strict is_tried path word flags may small no_nul is flags_are =
    call_said strict is_tried (codes "open") (word ∷ coded path ∷ []) (plan_step.Call (calls.Open path flags)) may (refl, refl, refl, refl)
    (is ∙ ap (λ (o : Option (OpenFlags × List ℕ)). option_map plan_step.Call (option_map (λ (a : OpenFlags × List ℕ). calls.Open a.1 a.0) o)) (both_read parse_flags (last parse_path) word (coded path ∷ []) flags path flags_are (path_read path small no_nul)))

module _ (strict is_tried : Bool) (may : is_tried ≡ true → strict ≡ true) (opened : ℕ) (fits : opened < 2 ^ 64) where
  on_opened_said : (verb : List ℕ) (words : List (List ℕ)) (call : Call) → IsVerb verb → read_by descriptor_calls verb (decimal opened ∷ words) ≡ Some call → line_of strict (with_try is_tried (verb ∷ at_number opened ∷ words)) ≡ Some (plan_line.Step (tried_or_not is_tried (plan_step.CallOn call)))
  on_opened_said verb words call is read = call_said strict is_tried verb (at_number opened ∷ words) (plan_step.CallOn call) may is (on_said verb (decimal opened) words call read)

  sizes_said : (size : ℕ) → size < 2 ^ 63 → line_of strict (with_try is_tried (size_words (at_number opened) size)) ≡ Some (plan_line.Step (tried_or_not is_tried (plan_step.CallOn (calls.Ftruncate opened (pos size)))))
  sizes_said size small =
      on_opened_said (codes "ftruncate") (decimal size ∷ []) (calls.Ftruncate opened (pos size)) (refl, refl, refl, refl)
      (ap (option_map (λ (a : ℕ × ℤ). calls.Ftruncate a.0 a.1)) (both_read parse_u64 (only parse_i64) (decimal opened) (decimal size ∷ []) opened (pos size) (number_read opened fits) (integer_read size small)))

  data_said : (bytes : List ℕ) → AreBytes bytes → last parse_data (data_words bytes) ≡ Some bytes
  data_said [] small = no_data_read
  data_said (b ∷ bs) small = data_read (b ∷ bs) small

  writes_said : (bytes : List ℕ) → AreBytes bytes → line_of strict (with_try is_tried (write_words (at_number opened) bytes)) ≡ Some (plan_line.Step (tried_or_not is_tried (plan_step.CallOn (calls.Write opened bytes))))
  writes_said bytes small =
      on_opened_said (codes "write") (data_words bytes) (calls.Write opened bytes) (refl, refl, refl, refl)
      (ap (option_map (λ (a : ℕ × List ℕ). calls.Write a.0 a.1)) (both_read parse_u64 (last parse_data) (decimal opened) (data_words bytes) opened bytes (number_read opened fits) (data_said bytes small)))

  pub reads_said : (most : ℕ) → most < 2 ^ 64 → line_of strict (with_try is_tried (read_words (at_number opened) most)) ≡ Some (plan_line.Step (tried_or_not is_tried (plan_step.CallOn (calls.Read opened most))))
  reads_said most small =
      on_opened_said (codes "read") (decimal most ∷ []) (calls.Read opened most) (refl, refl, refl, refl)
      (ap (option_map (λ (a : ℕ × ℕ). calls.Read a.0 a.1)) (both_read parse_u64 (only parse_u64) (decimal opened) (decimal most ∷ []) opened most (number_read opened fits) (number_read most small)))

  closes_said : line_of strict (with_try is_tried (close_words (at_number opened))) ≡ Some (plan_line.Step (tried_or_not is_tried (plan_step.CallOn (calls.Close opened))))
  closes_said = on_opened_said (codes "close") [] (calls.Close opened) (refl, refl, refl, refl) (ap (option_map calls.Close) (number_read opened fits))

-- ---- lines

said_more : (strict : Bool) (line : List ℕ) (lines words : List (List ℕ)) (first : PlanLine) (more : List PlanLine) → words_of_line line ≡ Some words → line_of strict words ≡ Some first → said strict lines ≡ Some more → said strict (line ∷ lines) ≡ Some (first ∷ more)
said_more strict line lines words first more h k m =
    ap (λ (o : Option (List (List ℕ))). option_map_or (λ ws. option_and_then (λ f. option_map (λ fs. f ∷ fs) (said strict lines)) (line_of strict ws)) o (said strict lines)) h
    ∙ ap (option_and_then (λ f. option_map (λ fs. f ∷ fs) (said strict lines))) k
    ∙ ap (option_map (λ fs. first ∷ fs)) m

module _ (steps next : Numbering) (words after : List (List ℕ)) (step : IsStep steps next words after) (line end : List ℕ) (is_end : IsEnd end) (is : line ≡ spaced words ++ end) where
  -- the words of its line, with numbers
  pub step_line_words : words_of_line (numbered_line steps line) ≡ Some after
  step_line_words =
      ap (λ l. words_of_line (numbered_line steps l)) is
      ∙ ap words_of_line (line_numbered words step.are steps end is_end)
      ∙ ap (λ ws. words_of_line (spaced ws ++ end)) step.numbered
      ∙ line_words after step.are_after end is_end

  -- the steps after its line
  pub step_line_after : after_line steps line ≡ next
  step_line_after = ap (after_line steps) is ∙ line_after words step.are steps end is_end ∙ step.next_is

  step_said : (strict : Bool) (lines : List (List ℕ)) (first : PlanLine) (more : List PlanLine) → line_of strict after ≡ Some first → said strict (numbered_lines next lines) ≡ Some more → said strict (numbered_lines steps (line ∷ lines)) ≡ Some (first ∷ more)
  step_said strict lines first more meaning rest =
      said_more strict (numbered_line steps line) (numbered_lines (after_line steps line) lines) after first more step_line_words meaning
      (ap (λ (s : Numbering). said strict (numbered_lines s lines)) step_line_after ∙ rest)

-- ---- the laws

module _ (strict is_tried : Bool) (may : is_tried ≡ true → strict ≡ true) (count : ℕ) (names : Naming) (fits : suc count < 2 ^ 64) (end : List ℕ) (is_end : IsEnd end) where
  -- the steps after this many more of a `put` or a `get`
  abbrev put_after : ℕ → Numbering
  put_after more = (more, given (codes "put") (suc count) names)

  abbrev get_after : ℕ → Numbering
  get_after more = (more, given (codes "get") (suc count) names)

  put_closed : said strict (numbered_lines (put_after (suc (suc (suc count)))) ((closes is_tried (codes "@put") ++ end) ∷ [])) ≡ Some (said_steps is_tried (plan_step.CallOn (calls.Close (suc count)) ∷ []))
  put_closed =
      step_said (put_after (suc (suc (suc count)))) (put_after (suc (suc (suc (suc count))))) (with_try is_tried (close_words (codes "@put"))) (with_try is_tried (close_words (at_number (suc count)))) (put_closes_is (suc (suc (suc count))) names (suc count) is_tried) (closes is_tried (codes "@put") ++ end) end is_end refl strict []
      (plan_line.Step (tried_or_not is_tried (plan_step.CallOn (calls.Close (suc count))))) [] (closes_said strict is_tried may (suc count) fits) refl

  put_written : (bytes : List ℕ) → AreBytes bytes → said strict (numbered_lines (put_after (suc (suc count))) (put_writes is_tried bytes ∷ (closes is_tried (codes "@put") ++ end) ∷ [])) ≡ Some (said_steps is_tried (plan_step.CallOn (calls.Write (suc count) bytes) ∷ plan_step.CallOn (calls.Close (suc count)) ∷ []))
  put_written bytes small =
      step_said (put_after (suc (suc count))) (put_after (suc (suc (suc count)))) (with_try is_tried (write_words (codes "@put") bytes)) (with_try is_tried (write_words (at_number (suc count)) bytes)) (put_writes_is (suc (suc count)) names (suc count) is_tried bytes) (put_writes is_tried bytes) [] no_end (sym (append-nil (put_writes is_tried bytes))) strict ((closes is_tried (codes "@put") ++ end) ∷ [])
      (plan_line.Step (tried_or_not is_tried (plan_step.CallOn (calls.Write (suc count) bytes)))) (said_steps is_tried (plan_step.CallOn (calls.Close (suc count)) ∷ [])) (writes_said strict is_tried may (suc count) fits bytes small) put_closed

  put_sized : (bytes : List ℕ) → AreBytes bytes → length bytes < 2 ^ 63 → said strict (numbered_lines (put_after (suc count)) (put_sizes is_tried bytes ∷ put_writes is_tried bytes ∷ (closes is_tried (codes "@put") ++ end) ∷ []))
      ≡ Some (said_steps is_tried (plan_step.CallOn (calls.Ftruncate (suc count) (pos (length bytes))) ∷ plan_step.CallOn (calls.Write (suc count) bytes) ∷ plan_step.CallOn (calls.Close (suc count)) ∷ []))
  put_sized bytes small short =
      step_said (put_after (suc count)) (put_after (suc (suc count))) (with_try is_tried (size_words (codes "@put") (length bytes))) (with_try is_tried (size_words (at_number (suc count)) (length bytes))) (put_sizes_is (suc count) names (suc count) is_tried (length bytes)) (put_sizes is_tried bytes) [] no_end (sym (append-nil (put_sizes is_tried bytes))) strict (put_writes is_tried bytes ∷ (closes is_tried (codes "@put") ++ end) ∷ [])
      (plan_line.Step (tried_or_not is_tried (plan_step.CallOn (calls.Ftruncate (suc count) (pos (length bytes)))))) (said_steps is_tried (plan_step.CallOn (calls.Write (suc count) bytes) ∷ plan_step.CallOn (calls.Close (suc count)) ∷ [])) (sizes_said strict is_tried may (suc count) fits (length bytes) short) (put_written bytes small)

  put_opened : (path bytes : List ℕ) → AreBytes path → IsNulFree path → AreBytes bytes → length bytes < 2 ^ 63 → said strict (numbered_lines (count, names) (put_opens is_tried path ∷ put_sizes is_tried bytes ∷ put_writes is_tried bytes ∷ (closes is_tried (codes "@put") ++ end) ∷ [])) ≡ Some (said_steps is_tried (put_calls (suc count) path bytes))
  put_opened path bytes path_small no_nul small short =
      step_said (count, names) (put_after (suc count)) (with_try is_tried (open_words (codes "wct") path (codes "put"))) (with_try is_tried (opened_words (codes "wct") path)) (put_opens_is count names is_tried path) (put_opens is_tried path) [] no_end (sym (append-nil (put_opens is_tried path))) strict (put_sizes is_tried bytes ∷ put_writes is_tried bytes ∷ (closes is_tried (codes "@put") ++ end) ∷ [])
      (plan_line.Step (tried_or_not is_tried (plan_step.Call (calls.Open path writing)))) (said_steps is_tried (plan_step.CallOn (calls.Ftruncate (suc count) (pos (length bytes))) ∷ plan_step.CallOn (calls.Write (suc count) bytes) ∷ plan_step.CallOn (calls.Close (suc count)) ∷ []))
      (opens_said strict is_tried path (codes "wct") writing may path_small no_nul refl refl) (put_sized bytes small short)

  get_closed : said strict (numbered_lines (get_after (suc (suc count))) ((closes is_tried (codes "@get") ++ end) ∷ [])) ≡ Some (said_steps is_tried (plan_step.CallOn (calls.Close (suc count)) ∷ []))
  get_closed =
      step_said (get_after (suc (suc count))) (get_after (suc (suc (suc count)))) (with_try is_tried (close_words (codes "@get"))) (with_try is_tried (close_words (at_number (suc count)))) (get_closes_is (suc (suc count)) names (suc count) is_tried) (closes is_tried (codes "@get") ++ end) end is_end refl strict []
      (plan_line.Step (tried_or_not is_tried (plan_step.CallOn (calls.Close (suc count))))) [] (closes_said strict is_tried may (suc count) fits) refl

  get_read : said strict (numbered_lines (get_after (suc count)) (get_reads is_tried ∷ (closes is_tried (codes "@get") ++ end) ∷ [])) ≡ Some (said_steps is_tried (plan_step.CallOn (calls.Read (suc count) (2 ^ 64 - 1)) ∷ plan_step.CallOn (calls.Close (suc count)) ∷ []))
  get_read =
      step_said (get_after (suc count)) (get_after (suc (suc count))) (with_try is_tried (read_words (codes "@get") (2 ^ 64 - 1))) (with_try is_tried (read_words (at_number (suc count)) (2 ^ 64 - 1))) (get_reads_is (suc count) names (suc count) is_tried (2 ^ 64 - 1)) (get_reads is_tried) [] no_end (sym (append-nil (get_reads is_tried))) strict ((closes is_tried (codes "@get") ++ end) ∷ [])
      (plan_line.Step (tried_or_not is_tried (plan_step.CallOn (calls.Read (suc count) (2 ^ 64 - 1))))) (said_steps is_tried (plan_step.CallOn (calls.Close (suc count)) ∷ [])) (reads_said strict is_tried may (suc count) fits (2 ^ 64 - 1) (omega arith)) get_closed

  get_opened : (path : List ℕ) → AreBytes path → IsNulFree path → said strict (numbered_lines (count, names) (get_opens is_tried path ∷ get_reads is_tried ∷ (closes is_tried (codes "@get") ++ end) ∷ [])) ≡ Some (said_steps is_tried (get_calls (suc count) path))
  get_opened path small no_nul =
      step_said (count, names) (get_after (suc count)) (with_try is_tried (open_words (codes "r") path (codes "get"))) (with_try is_tried (opened_words (codes "r") path)) (get_opens_is count names is_tried path) (get_opens is_tried path) [] no_end (sym (append-nil (get_opens is_tried path))) strict (get_reads is_tried ∷ (closes is_tried (codes "@get") ++ end) ∷ [])
      (plan_line.Step (tried_or_not is_tried (plan_step.Call (calls.Open path reading)))) (said_steps is_tried (plan_step.CallOn (calls.Read (suc count) (2 ^ 64 - 1)) ∷ plan_step.CallOn (calls.Close (suc count)) ∷ [])) (opens_said strict is_tried path (codes "r") reading may small no_nul refl refl) get_read

pub put_said : (strict is_tried : Bool) (steps : Numbering) (path bytes line : List ℕ) → (is_tried ≡ true → strict ≡ true) → suc steps.0 < 2 ^ 64 → AreBytes path → IsNulFree path → AreBytes bytes → length bytes < 2 ^ 63
    → said strict (numbered_lines steps (all_lines (put_text is_tried path bytes ++ line_end line))) ≡ Some (said_steps is_tried (put_calls (suc steps.0) path bytes))
put_said strict is_tried steps path bytes line may fits path_small no_nul small short =
    ap (λ ls. said strict (numbered_lines steps ls)) (put_lines is_tried path bytes (line_end line) (end_of line))
    ∙ put_opened strict is_tried may steps.0 steps.1 fits (line_end line) (end_of line) path bytes path_small no_nul small short

pub get_said : (strict is_tried : Bool) (steps : Numbering) (path line : List ℕ) → (is_tried ≡ true → strict ≡ true) → suc steps.0 < 2 ^ 64 → AreBytes path → IsNulFree path
    → said strict (numbered_lines steps (all_lines (get_text is_tried path ++ line_end line))) ≡ Some (said_steps is_tried (get_calls (suc steps.0) path))
get_said strict is_tried steps path line may fits small no_nul =
    ap (λ ls. said strict (numbered_lines steps ls)) (get_lines is_tried path (line_end line) (end_of line))
    ∙ get_opened strict is_tried may steps.0 steps.1 fits (line_end line) (end_of line) path small no_nul
