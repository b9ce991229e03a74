-- At each place stands the read of its `get`.
use Rattle.std.proofs.Common.{◌≡◌, ◌⊎◌, inl, inr, ℕ, suc, ◌+◌, ◌-◌, ◌*◌, ◌^◌, ◌<◌, Bool, true, false, cond, not, ◌||◌, List, [], ◌∷◌, ◌++◌, length, Option, None, Some, is_some, refl, sym, ap, subst, ◌∙◌, arith, append-nil}
use Rattle.std.proofs.lemmas.Bool.{false≢true}
use Rattle.std.specs.Prelude.{MatchOption, codes, option_map}
use Rattle.std.specs.Fmt.{decimal}
use Rattle.std.specs.List.{AllByRecursion, AllZip, flat_map}
use Rattle.std.specs.Option.{option_map_or}
use Rattle.std.specs.Str.Lines.{strip_carriage_return}
use Rattle.ft_path.specs.Name.{IsNulFree}
use Rattle.ft_posix.specs.declared.call.Call.TheVariants as calls
use Rattle.ft_words.proofs.Bytes.{is_false}
use Rattle.ft_words.specs.Spelling.{IsFreeOf, is_silent, words_of}
use Rattle.ft_plan.specs.declared.job.Step.{Step}
use Rattle.ft_plan.specs.declared.job.Step.TheVariants as plan_step
use Rattle.ft_plan.specs.declared.line.PlanLine.{PlanLine}
use Rattle.ft_plan.specs.declared.line.PlanLine.TheVariants as plan_line
use Rattle.ft_plan.specs.Lines.{line_of}
use Rattle.ft_plan.specs.Plans.{said}
use Rattle.ft_plan_names.specs.Laws.{is_job_line, is_step_line}
use Rattle.ft_plan_names.specs.Numbers.{Numbering, after_line, after_step, after_words, all_lines, begins, is_step, line_end, no_steps, numbered_line, numbered_lines}
use Rattle.ft_plan_names.proofs.Counting.{counted}
use Rattle.ft_plan_names.proofs.Planned.{no_step, no_value}
use Rattle.ft_transfer.specs.declared.transfer.Direction.{Direction}
use Rattle.ft_transfer.specs.declared.transfer.Direction.TheVariants.{Put, Get}
use Rattle.ft_transfer.specs.Disk.{FileTold}
use Rattle.ft_transfer.specs.Transfers.{reading}
use Rattle.ft_plan_files.specs.declared.file_line.FileLine.{FileLine}
use Rattle.ft_plan_files.specs.declared.places.GetPlace.{GetPlace}
use Rattle.ft_plan_files.specs.FileLines.{file_line_of}
use Rattle.ft_plan_files.specs.Laws.{AreBytes, get_of, gets_of_line, tried_or_not}
use Rattle.ft_plan_files.specs.Places.{Count, get_in, get_to, gets_in, line_count, plain_count, steps_to, words_count}
use Rattle.ft_plan_files.specs.WrittenOut.{AreStepsOf, AreStepsTo, AreWrittenLines, IsWrittenLine}
use Rattle.ft_plan_files.proofs.CarriedPaths.{path_is}
use Rattle.ft_plan_files.proofs.Counts.{line_near}
use Rattle.ft_plan_files.proofs.Cutting.{AllFree, cut_free}
use Rattle.ft_plan_files.proofs.Ends.{end_of, no_end}
use Rattle.ft_plan_files.proofs.StillLines.{IsStepStill, kinds}
use Rattle.ft_plan_files.proofs.Saying.{StandsStill, one_stands, says_first, says_nothing, says_one, says_step}
use Rattle.ft_plan_files.proofs.Standing.{StandsAt}
use Rattle.ft_plan_files.proofs.Staying.{silent_none}
use Rattle.ft_plan_files.proofs.StepCalls.{at_number, given, get_closes_is, get_opens_is, get_reads_is, put_closes_is, put_opens_is, put_sizes_is, put_writes_is, opens_said, reads_said}
use Rattle.ft_plan_files.proofs.StepWords.{closes, get_lines, get_opens, get_reads, put_lines, put_opens, put_sizes, put_writes, with_try}

-- ---- the read that stands at a place

-- the steps of a `get` stand among these lines, after so many jobs and steps
pub record ReadsFrom (count : Count) (all : List PlanLine) (line : FileLine) (place : GetPlace) : Type 0 where
  pub file : place.file ≡ line.file
  pub opens : StandsAt count all place.job (place.step - 1) (tried_or_not line.tried (plan_step.Call (calls.Open line.path reading)))
  pub reads : StandsAt count all place.job place.step (tried_or_not line.tried (plan_step.CallOn (calls.Read (place.step - 1) (2 ^ 64 - 1))))

all_both : (R : FileLine → GetPlace → Type 0) (gets others : List FileLine) (places more : List GetPlace) → AllZip R gets places → AllZip R others more → AllZip R (gets ++ others) (places ++ more)
all_both R [] others [] more h k = k
all_both R [] others (place ∷ places) more h k = absurd h
all_both R (line ∷ gets) others [] more h k = absurd h
all_both R (line ∷ gets) others (place ∷ places) more h k = (h.0, all_both R gets others places more h.1 k)

all_still : (new old : Count) (more all : List PlanLine) (gets : List FileLine) (places : List GetPlace) → StandsStill new more old all → AllZip (ReadsFrom new more) gets places → AllZip (ReadsFrom old all) gets places
all_still new old more all [] [] still h = tt
all_still new old more all [] (place ∷ places) still h = absurd h
all_still new old more all (line ∷ gets) [] still h = absurd h
all_still new old more all (line ∷ gets) (place ∷ places) still h = (
  record {
    file = h.0.file;
    opens = still place.job (place.step - 1) _ h.0.opens;
    reads = still place.job place.step _ h.0.reads;
  },
  all_still new old more all gets places still h.1,
)

-- ---- a line of the file, and what is said from it on

-- What is said after a line of the file, if all this is said from it on: what stands there stands
-- among all of it, and so do the reads of its places.
pub record GoesOn (strict : Bool) (count : Count) (line : List ℕ) (lines : List (List ℕ)) (all : List PlanLine) : Type 0 where
  pub new : Count
  pub new_is : line_count count line ≡ new
  pub next : Numbering
  pub same_steps : next.0 ≡ new.1
  pub more : List PlanLine
  pub more_is : said strict (numbered_lines next lines) ≡ Some more
  pub still : StandsStill new more count all
  pub gets : List FileLine
  pub gets_are : gets_of_line line ≡ gets
  pub places : List GetPlace
  pub places_are : get_in count line ≡ places
  pub reads : AllZip (ReadsFrom count all) gets places

-- ---- a line that carries nothing

module _ (count : Count) (line : List ℕ) (none : file_line_of line ≡ None) where
  abbrev words : List (List ℕ)
  words = words_of (strip_carriage_return line)

  pub no_places : get_in count line ≡ []
  no_places = ap (λ (o : Option FileLine). option_map_or (λ (found : FileLine). get_to found.direction count found.file) o []) none

  pub no_gets : gets_of_line line ≡ []
  no_gets = ap (λ (o : Option FileLine). option_map_or (λ (found : FileLine). get_of found.direction found) o []) none

  pub silent_count : is_silent (strip_carriage_return line) ≡ true → line_count count line ≡ count
  silent_count silent = ap (λ b. cond b count (words_count count words)) silent

  pub plain_counted : (job step : Bool) → is_silent (strip_carriage_return line) ≡ false → begins (codes "job") words ≡ job → is_step words ≡ step → line_count count line ≡ cond {A = Count} job (suc count.0, 0) (count.0, count.1 + cond step 1 0)
  plain_counted job step loud is_job is_one =
      ap (λ b. cond b count (words_count count words)) loud
      ∙ ap (λ (o : Option FileLine). option_map_or {U = Count} (λ (found : FileLine). (count.0, count.1 + steps_to found.direction)) o (plain_count count words)) none
      ∙ ap (λ b. cond {A = Count} b (suc count.0, 0) (count.0, count.1 + cond (is_step words) 1 0)) is_job
      ∙ ap (λ b. cond {A = Count} job (suc count.0, 0) (count.0, count.1 + cond b 1 0)) is_one

pub silent_after : (steps : Numbering) (line : List ℕ) → is_silent (strip_carriage_return line) ≡ true → after_line steps line ≡ steps
silent_after steps line silent = ap (λ b. cond b steps (after_words steps (words_of (strip_carriage_return line)))) silent

pub after_counted : (steps : Numbering) (line : List ℕ) (job step : Bool) → is_silent (strip_carriage_return line) ≡ false → begins (codes "job") (words_of (strip_carriage_return line)) ≡ job → is_step (words_of (strip_carriage_return line)) ≡ step
    → after_line steps line ≡ cond step (after_step steps (words_of (strip_carriage_return line))) (cond job no_steps steps)
after_counted steps line job step loud is_job is_one =
    let words = words_of (strip_carriage_return line) in
    ap (λ b. cond b steps (after_words steps words)) loud
    ∙ ap (λ b. cond b (after_step steps words) (cond (begins (codes "job") words) no_steps steps)) is_one
    ∙ ap (λ b. cond step (after_step steps words) (cond b no_steps steps)) is_job

-- a step begins no job
no_job : (words : List (List ℕ)) → is_step words ≡ true → begins (codes "job") words ≡ false
no_job words is = is_false (begins (codes "job") words) (λ job. false≢true (sym (ap (λ b. not (b || (begins (codes "after") words || begins (codes "strict") words))) job) ∙ is))

module _ (strict : Bool) (count : Count) (steps : Numbering) (line : List ℕ) (lines : List (List ℕ)) (all : List PlanLine) (none : file_line_of line ≡ None) (same_steps : steps.0 ≡ count.1) where
  abbrev line_text : List ℕ
  line_text = strip_carriage_return line

  -- the line is a step
  goes_on_step : (more : List PlanLine) (step : Step) → is_silent line_text ≡ false → is_step (words_of line_text) ≡ true → said strict (numbered_lines (after_line steps line) lines) ≡ Some more → all ≡ plan_line.Step step ∷ more → GoesOn strict count line lines all
  goes_on_step more step loud is more_is all_is =
      let job = no_job (words_of line_text) is in
      record {
        new = (count.0, count.1 + 1);
        new_is = plain_counted count line none false true loud job is;
        next = after_step steps (words_of line_text);
        same_steps = omega (arith, same_steps);
        more = more;
        more_is = ap (λ (s : Numbering). said strict (numbered_lines s lines)) (sym (after_counted steps line false true loud job is)) ∙ more_is;
        still = λ j n s stands. one_stands count step more all all_is j n s (subst (λ m. StandsAt (count.0, m) more j n s) (omega arith) stands);
        gets = [];
        gets_are = no_gets count line none;
        places = [];
        places_are = no_places count line none;
        reads = tt;
      }

  -- the line is as it was
  goes_on_first : (more : List PlanLine) (first : PlanLine) → is_silent line_text ≡ false → is_step (words_of line_text) ≡ is_step_line first → begins (codes "job") (words_of line_text) ≡ is_job_line first → said strict (numbered_lines (after_line steps line) lines) ≡ Some more → all ≡ first ∷ more
      → GoesOn strict count line lines all
  goes_on_first more (plan_line.Step step) loud step_is job_is more_is all_is = goes_on_step more step loud step_is more_is all_is
  goes_on_first more (plan_line.Job name parent kind) loud step_is job_is more_is all_is = record {
    new = (suc count.0, 0);
    new_is = plain_counted count line none true false loud job_is step_is;
    next = no_steps;
    same_steps = refl;
    more = more;
    more_is = ap (λ (s : Numbering). said strict (numbered_lines s lines)) (sym (after_counted steps line true false loud job_is step_is)) ∙ more_is;
    still = λ j n s stands. subst (λ ls. StandsAt count ls j n s) (sym all_is) stands;
    gets = [];
    gets_are = no_gets count line none;
    places = [];
    places_are = no_places count line none;
    reads = tt;
  }
  goes_on_first more (plan_line.After names) loud step_is job_is more_is all_is = record {
    new = (count.0, count.1 + 0);
    new_is = plain_counted count line none false false loud job_is step_is;
    next = steps;
    same_steps = omega (arith, same_steps);
    more = more;
    more_is = ap (λ (s : Numbering). said strict (numbered_lines s lines)) (sym (after_counted steps line false false loud job_is step_is)) ∙ more_is;
    still = λ j n s stands. subst (λ ls. StandsAt count ls j n s) (sym all_is) (subst (λ m. StandsAt (count.0, m) more j n s) (omega arith) stands);
    gets = [];
    gets_are = no_gets count line none;
    places = [];
    places_are = no_places count line none;
    reads = tt;
  }

  goes_on_same : said strict (line ∷ numbered_lines (after_line steps line) lines) ≡ Some all → GoesOn strict count line lines all
  goes_on_same k = either (is_silent line_text) refl
    where
      either : (b : Bool) → is_silent line_text ≡ b → GoesOn strict count line lines all
      either true silent = record {
        new = count;
        new_is = silent_count count line none silent;
        next = steps;
        same_steps = same_steps;
        more = all;
        more_is =
            ap (λ (s : Numbering). said strict (numbered_lines s lines)) (sym (silent_after steps line silent))
            ∙ sym (says_nothing strict line (numbered_lines (after_line steps line) lines) (ap (λ b. cond {A = Option (List (List ℕ))} b None (Some (words_of line_text))) silent))
            ∙ k;
        still = λ j n s stands. stands;
        gets = [];
        gets_are = no_gets count line none;
        places = [];
        places_are = no_places count line none;
        reads = tt;
      }
      either false loud =
          let says = says_first strict line (numbered_lines (after_line steps line) lines) (words_of line_text) all (ap (λ b. cond {A = Option (List (List ℕ))} b None (Some (words_of line_text))) loud) k in
          let are = counted strict (words_of line_text) says.first says.first_is in
          goes_on_first says.more says.first loud are.0 are.1 says.more_is says.all_is

  goes_on_still : IsStepStill steps line → said strict (numbered_line steps line ∷ numbered_lines (after_line steps line) lines) ≡ Some all → GoesOn strict count line lines all
  goes_on_still still k =
      let says = says_first strict (numbered_line steps line) (numbered_lines (after_line steps line) lines) still.says.words all still.says.said k in
      let one = says_one strict still.says.words (numbered_lines (after_line steps line) lines) all still.says.is says in
      goes_on_step one.more one.step still.loud still.was one.more_is one.all_is

  goes_on_plain : said strict (numbered_lines steps (line ∷ lines)) ≡ Some all → GoesOn strict count line lines all
  goes_on_plain k = either (kinds steps line)
    where
      either : (numbered_line steps line ≡ line) ⊎ IsStepStill steps line → GoesOn strict count line lines all
      either (inl is) = goes_on_same (ap (λ l. said strict (l ∷ numbered_lines (after_line steps line) lines)) (sym is) ∙ k)
      either (inr still) = goes_on_still still k

-- ---- a line that carries a file

module _ (count : Count) (line : List ℕ) (carrying : FileLine) (is : file_line_of line ≡ Some carrying) where
  carried_loud : is_silent (strip_carriage_return line) ≡ false
  carried_loud =
      is_false (is_silent (strip_carriage_return line))
      (λ silent. false≢true (sym (ap (λ (o : Option FileLine). not (is_some o)) is) ∙ silent_none (strip_carriage_return line) silent))

  carried_count : (direction : Direction) → carrying.direction ≡ direction → line_count count line ≡ (count.0, count.1 + steps_to direction)
  carried_count direction to =
      ap (λ b. cond b count (words_count count (words_of (strip_carriage_return line)))) carried_loud
      ∙ ap (λ (o : Option FileLine). option_map_or {U = Count} (λ (found : FileLine). (count.0, count.1 + steps_to found.direction)) o (plain_count count (words_of (strip_carriage_return line)))) is
      ∙ ap (λ (d : Direction). (count.0, count.1 + steps_to d)) to

  carried_gets : (direction : Direction) → carrying.direction ≡ direction → gets_of_line line ≡ get_of direction carrying
  carried_gets direction to =
      ap (λ (o : Option FileLine). option_map_or (λ (found : FileLine). get_of found.direction found) o []) is ∙ ap (λ (d : Direction). get_of d carrying) to

  carried_places : (direction : Direction) → carrying.direction ≡ direction → get_in count line ≡ get_to direction count carrying.file
  carried_places direction to =
      ap (λ (o : Option FileLine). option_map_or (λ (found : FileLine). get_to found.direction count found.file) o []) is ∙ ap (λ (d : Direction). get_to d count carrying.file) to

module _ (strict : Bool) (count : Count) (steps : Numbering) (line : List ℕ) (lines : List (List ℕ)) (all : List PlanLine) (carrying : FileLine) (is : file_line_of line ≡ Some carrying) (same_steps : steps.0 ≡ count.1) where
  abbrev is_tried : Bool
  is_tried = carrying.tried

  abbrev opened : ℕ
  opened = suc steps.0

  abbrev on_put : ℕ → Numbering
  on_put so_far = (so_far, given (codes "put") opened steps.1)

  abbrev on_get : ℕ → Numbering
  on_get so_far = (so_far, given (codes "get") opened steps.1)

  goes_on_put : (bytes : List ℕ) → carrying.direction ≡ Put → said strict (numbered_lines steps (put_opens is_tried carrying.path ∷ put_sizes is_tried bytes ∷ put_writes is_tried bytes ∷ (closes is_tried (codes "@put") ++ line_end line) ∷ lines)) ≡ Some all → GoesOn strict count line lines all
  goes_on_put bytes to k =
      let one = says_step steps (on_put (suc steps.0)) _ _ (put_opens_is steps.0 steps.1 is_tried carrying.path) (put_opens is_tried carrying.path) [] no_end (sym (append-nil (put_opens is_tried carrying.path))) strict (put_sizes is_tried bytes ∷ put_writes is_tried bytes ∷ (closes is_tried (codes "@put") ++ line_end line) ∷ lines) all k in
      let two = says_step (on_put (suc steps.0)) (on_put (suc (suc steps.0))) _ _ (put_sizes_is (suc steps.0) steps.1 opened is_tried (length bytes)) (put_sizes is_tried bytes) [] no_end (sym (append-nil (put_sizes is_tried bytes))) strict (put_writes is_tried bytes ∷ (closes is_tried (codes "@put") ++ line_end line) ∷ lines) one.more one.more_is in
      let three = says_step (on_put (suc (suc steps.0))) (on_put (suc (suc (suc steps.0)))) _ _ (put_writes_is (suc (suc steps.0)) steps.1 opened is_tried bytes) (put_writes is_tried bytes) [] no_end (sym (append-nil (put_writes is_tried bytes))) strict ((closes is_tried (codes "@put") ++ line_end line) ∷ lines) two.more two.more_is in
      let four = says_step (on_put (suc (suc (suc steps.0)))) (on_put (suc (suc (suc (suc steps.0))))) _ _ (put_closes_is (suc (suc (suc steps.0))) steps.1 opened is_tried) (closes is_tried (codes "@put") ++ line_end line) (line_end line) (end_of line) refl strict lines three.more three.more_is in
      record {
        new = (count.0, count.1 + 4);
        new_is = carried_count count line carrying is Put to;
        next = on_put (suc (suc (suc (suc steps.0))));
        same_steps = omega (arith, same_steps);
        more = four.more;
        more_is = four.more_is;
        still = λ j n s stands.
            one_stands count one.step one.more all one.all_is j n s
            (one_stands (count.0, suc count.1) two.step two.more one.more two.all_is j n s
            (one_stands (count.0, suc (suc count.1)) three.step three.more two.more three.all_is j n s
            (one_stands (count.0, suc (suc (suc count.1))) four.step four.more three.more four.all_is j n s
            (subst (λ m. StandsAt (count.0, m) four.more j n s) (omega arith) stands))));
        gets = [];
        gets_are = carried_gets count line carrying is Put to;
        places = [];
        places_are = carried_places count line carrying is Put to;
        reads = tt;
      }

  -- only a strict plan has steps that are tried
  may_try : (verb : List ℕ) (words : List (List ℕ)) (first : PlanLine) → line_of strict (with_try is_tried (verb ∷ words)) ≡ Some first → is_tried ≡ true → strict ≡ true
  may_try verb words first k = either strict is_tried k
    where
      either : (s t : Bool) → line_of s (with_try t (verb ∷ words)) ≡ Some first → t ≡ true → s ≡ true
      either true t h tries = refl
      either false false h tries = absurd (false≢true tries)
      either false true h tries = no_value {P = _} (line_of false (codes "try" ∷ verb ∷ words)) first (ap (λ (o : Option Step). option_map plan_line.Step o) (no_step (codes "try") (verb ∷ words) refl refl refl)) h

  said_same : (step other : Step) → Some (plan_line.Step step) ≡ Some (plan_line.Step other) → step ≡ other
  said_same step other h = cc

  abbrev the_open : Step
  the_open = tried_or_not is_tried (plan_step.Call (calls.Open carrying.path reading))

  abbrev the_read : ℕ → Step
  the_read fd = tried_or_not is_tried (plan_step.CallOn (calls.Read fd (2 ^ 64 - 1)))

  goes_on_get : AreBytes carrying.path × IsNulFree carrying.path → opened < 2 ^ 64 → carrying.direction ≡ Get → said strict (numbered_lines steps (get_opens is_tried carrying.path ∷ get_reads is_tried ∷ (closes is_tried (codes "@get") ++ line_end line) ∷ lines)) ≡ Some all → GoesOn strict count line lines all
  goes_on_get path fits to k =
      let one = says_step steps (on_get (suc steps.0)) _ _ (get_opens_is steps.0 steps.1 is_tried carrying.path) (get_opens is_tried carrying.path) [] no_end (sym (append-nil (get_opens is_tried carrying.path))) strict (get_reads is_tried ∷ (closes is_tried (codes "@get") ++ line_end line) ∷ lines) all k in
      let two = says_step (on_get (suc steps.0)) (on_get (suc (suc steps.0))) _ _ (get_reads_is (suc steps.0) steps.1 opened is_tried (2 ^ 64 - 1)) (get_reads is_tried) [] no_end (sym (append-nil (get_reads is_tried))) strict ((closes is_tried (codes "@get") ++ line_end line) ∷ lines) one.more one.more_is in
      let three = says_step (on_get (suc (suc steps.0))) (on_get (suc (suc (suc steps.0)))) _ _ (get_closes_is (suc (suc steps.0)) steps.1 opened is_tried) (closes is_tried (codes "@get") ++ line_end line) (line_end line) (end_of line) refl strict lines two.more two.more_is in
      let may = may_try (codes "read") (at_number opened ∷ decimal (2 ^ 64 - 1) ∷ []) (plan_line.Step two.step) two.step_is in
      let open_is : one.step ≡ the_open = said_same one.step the_open (sym one.step_is ∙ opens_said strict is_tried carrying.path (codes "r") reading may path.0 path.1 refl refl) in
      let read_is : two.step ≡ the_read opened = said_same two.step (the_read opened) (sym two.step_is ∙ reads_said strict is_tried may opened fits (2 ^ 64 - 1) (omega arith)) in
      let number : opened ≡ count.1 + 2 - 1 = omega (arith, same_steps) in
      record {
        new = (count.0, count.1 + 3);
        new_is = carried_count count line carrying is Get to;
        next = on_get (suc (suc (suc steps.0)));
        same_steps = omega (arith, same_steps);
        more = three.more;
        more_is = three.more_is;
        still = λ j n s stands.
            one_stands count one.step one.more all one.all_is j n s
            (one_stands (count.0, suc count.1) two.step two.more one.more two.all_is j n s
            (one_stands (count.0, suc (suc count.1)) three.step three.more two.more three.all_is j n s
            (subst (λ m. StandsAt (count.0, m) three.more j n s) (omega arith) stands)));
        gets = carrying ∷ [];
        gets_are = carried_gets count line carrying is Get to;
        places = get_to Get count carrying.file;
        places_are = carried_places count line carrying is Get to;
        reads = (
          record {
            file = refl;
            opens = subst (λ ls. StandsAt count ls (count.0 - 1) (count.1 + 2 - 1) the_open) (sym one.all_is) (inl (refl, omega arith, open_is));
            reads =
                one_stands count one.step one.more all one.all_is (count.0 - 1) (count.1 + 2) (the_read (count.1 + 2 - 1))
                (subst (λ ls. StandsAt (count.0, suc count.1) ls (count.0 - 1) (count.1 + 2) (the_read (count.1 + 2 - 1))) (sym two.all_is)
                (inl (refl, omega arith, read_is ∙ ap the_read number)));
          },
          tt,
        );
      }

-- ---- each line

module _ (tells : FileTold → Type 0) where
  goes_on : (strict : Bool) (count : Count) (steps : Numbering) (line text : List ℕ) (lines : List (List ℕ)) (all : List PlanLine) → AreBytes line → IsFreeOf 10 line → IsWrittenLine tells line text → steps.0 ≡ count.1 → suc steps.0 < 2 ^ 64 → said strict (numbered_lines steps (all_lines text ++ lines)) ≡ Some all → GoesOn strict count line lines all
  goes_on strict count steps line text lines all bytes free written same_steps fits k = either (file_line_of line) refl written
    where
      by_direction : (direction : Direction) (carrying : FileLine) (made : List ℕ) → file_line_of line ≡ Some carrying → carrying.direction ≡ direction → AreStepsTo tells direction carrying made → text ≡ made ++ line_end line → GoesOn strict count line lines all
      by_direction Put carrying made is to are text_is =
          goes_on_put strict count steps line lines all carrying is same_steps are.0 to
          (sym (ap (λ t. said strict (numbered_lines steps (all_lines t ++ lines))) (text_is ∙ ap (λ m. m ++ line_end line) are.2) ∙ ap (λ ls. said strict (numbered_lines steps (ls ++ lines))) (put_lines carrying.tried carrying.path are.0 (line_end line) (end_of line))) ∙ k)
      by_direction Get carrying made is to are text_is =
          goes_on_get strict count steps line lines all carrying is same_steps (path_is line carrying bytes is) fits to
          (sym (ap (λ t. said strict (numbered_lines steps (all_lines t ++ lines))) (text_is ∙ ap (λ m. m ++ line_end line) are) ∙ ap (λ ls. said strict (numbered_lines steps (ls ++ lines))) (get_lines carrying.tried carrying.path (line_end line) (end_of line))) ∙ k)

      either : (o : Option FileLine) → file_line_of line ≡ o → MatchOption o (text ≡ line) (λ carrying. (made : List ℕ) × AreStepsOf tells carrying made × (text ≡ made ++ line_end line)) → GoesOn strict count line lines all
      either None none is =
          goes_on_plain strict count steps line lines all none same_steps
          (sym (ap (λ t. said strict (numbered_lines steps (all_lines t ++ lines))) is ∙ ap (λ ls. said strict (numbered_lines steps (ls ++ lines))) (cut_free 10 line free)) ∙ k)
      either (Some carrying) is w = by_direction carrying.direction carrying w.0 is refl w.1 w.2

  pub reads_stand : (strict : Bool) (lines texts : List (List ℕ)) (count : Count) (steps : Numbering) (all : List PlanLine) → AreWrittenLines tells lines texts → AllFree 10 lines → AllByRecursion AreBytes lines → steps.0 ≡ count.1 → count.1 + 4 * length lines < 2 ^ 64 → said strict (numbered_lines steps (flat_map all_lines texts)) ≡ Some all
      → AllZip (ReadsFrom count all) (flat_map gets_of_line lines) (gets_in count lines)
  reads_stand strict [] texts count steps all written free bytes same_steps small k = tt
  reads_stand strict (line ∷ lines) [] count steps all written free bytes same_steps small k = absurd written
  reads_stand strict (line ∷ lines) (text ∷ texts) count steps all written free bytes same_steps small k =
      let on = goes_on strict count steps line text (flat_map all_lines texts) all bytes.0 free.0 written.0 same_steps (omega (arith, small, same_steps)) k in
      let near = line_near count line in
      let new_is = ap (λ (c : Count). c.1) on.new_is in
      let fewer : on.new.1 + 4 * length lines < 2 ^ 64 = omega (arith, small, near.steps, new_is) in
      let rest = reads_stand strict lines texts on.new on.next on.more written.1 free.1 bytes.1 on.same_steps fewer on.more_is in
      let places_are : on.places ++ gets_in on.new lines ≡ gets_in count (line ∷ lines) =
      ap (λ g. g ++ gets_in on.new lines) (sym on.places_are) ∙ ap (λ (c : Count). get_in count line ++ gets_in c lines) (sym on.new_is) in
      let gets_are : on.gets ++ flat_map gets_of_line lines ≡ flat_map gets_of_line (line ∷ lines) = ap (λ g. g ++ flat_map gets_of_line lines) (sym on.gets_are) in
      subst (AllZip (ReadsFrom count all) (flat_map gets_of_line (line ∷ lines))) places_are
      (subst (λ g. AllZip (ReadsFrom count all) g (on.places ++ gets_in on.new lines)) gets_are
      (all_both (ReadsFrom count all) on.gets (flat_map gets_of_line lines) on.places (gets_in on.new lines) on.reads (all_still on.new count on.more all (flat_map gets_of_line lines) (gets_in on.new lines) on.still rest)))
