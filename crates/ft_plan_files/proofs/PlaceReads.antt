-- Each place of a plan is that of the read of its `get`.
use Rattle.std.proofs.Common.{◌≡◌, ◌⊎◌, inl, inr, ℕ, ◌+◌, ◌-◌, ◌≤◌, true, false, List, [], ◌∷◌, ◌++◌, length, Option, None, Some, refl, sym, ap, subst, ◌∙◌, arith, append-nil, length-append}
use Rattle.std.proofs.lemmas.List.Concat.{flat_map-append}
use Rattle.std.specs.Prelude.{slice_get}
use Rattle.std.specs.List.{AllZip, flat_map}
use Rattle.std.specs.Option.{option_map_or}
use Rattle.ft_words.specs.Spelling.{lines_of}
use Rattle.ft_plan.specs.declared.job.Job.{Job}
use Rattle.ft_plan.specs.Lines.{behind_strict}
use Rattle.ft_plan.specs.Plans.{IsPlanOf, plan_lines, plan_said, said, step_at}
use Rattle.ft_plan_names.specs.Numbers.{all_lines, no_steps, numbered_lines, numbered_plan}
use Rattle.ft_plan_names.proofs.Places.{lines_keep_places}
use Rattle.ft_transfer.specs.Disk.{FileTold}
use Rattle.ft_plan_files.specs.declared.file_line.FileLine.{FileLine}
use Rattle.ft_plan_files.specs.declared.places.GetPlace.{GetPlace}
use Rattle.ft_plan_files.specs.declared.writing.TheConstants.{LONGEST_PLAN}
use Rattle.ft_plan_files.specs.Laws.{AreBytes, IsPlaceOf, gets_of, gets_of_line}
use Rattle.ft_plan_files.specs.Places.{Count, get_in, gets_in, line_count, places_of}
use Rattle.ft_plan_files.specs.WrittenOut.{IsWrittenOut}
use Rattle.ft_plan_files.proofs.CarriedPaths.{parts_bytes}
use Rattle.ft_plan_files.proofs.Counts.{lines_few}
use Rattle.ft_plan_files.proofs.Cutting.{parts_free}
use Rattle.ft_plan_files.proofs.Reading.{ReadsFrom, reads_stand}
use Rattle.ft_plan_files.proofs.Saying.{same}
use Rattle.ft_plan_files.proofs.Sources.{all_lines_are, lines_written}
use Rattle.ft_plan_files.proofs.Standing.{among_jobs}
use Rattle.ft_plan_files.proofs.StrictPlans.{plan_empty, strict_from}

-- an empty line has no place
gets_empty : (lines : List (List ℕ)) (count : Count) → gets_in count (lines ++ [] ∷ []) ≡ gets_in count lines
gets_empty [] count = refl
gets_empty (line ∷ lines) count = ap (λ g. get_in count line ++ g) (gets_empty lines (line_count count line))

all_gets : (text : List ℕ) → gets_in (0, 0) (all_lines text) ≡ places_of text
all_gets text = either (all_lines_are text)
  where
    either : (all_lines text ≡ lines_of text) ⊎ (all_lines text ≡ lines_of text ++ [] ∷ []) → gets_in (0, 0) (all_lines text) ≡ gets_in (0, 0) (lines_of text)
    either (inl is) = ap (gets_in (0, 0)) is
    either (inr is) = ap (gets_in (0, 0)) is ∙ gets_empty (lines_of text) (0, 0)

all_said : (bytes : List ℕ) (jobs : List Job) → IsPlanOf bytes jobs → plan_said (all_lines bytes) ≡ Some (plan_lines jobs)
all_said bytes jobs plan = either (all_lines_are bytes)
  where
    either : (all_lines bytes ≡ lines_of bytes) ⊎ (all_lines bytes ≡ lines_of bytes ++ [] ∷ []) → plan_said (all_lines bytes) ≡ Some (plan_lines jobs)
    either (inl is) = ap plan_said is ∙ plan.lines
    either (inr is) = ap plan_said is ∙ plan_empty (lines_of bytes) ∙ plan.lines

all_lines_few : (text : List ℕ) → length (all_lines text) ≤ length text + 1
all_lines_few text = either (all_lines_are text)
  where
    either : (all_lines text ≡ lines_of text) ⊎ (all_lines text ≡ lines_of text ++ [] ∷ []) → length (all_lines text) ≤ length text + 1
    either (inl is) = omega (arith, ap length is, lines_few text)
    either (inr is) = omega (arith, ap length is, length-append (lines_of text) ([] ∷ []), lines_few text)

all_gets_of : (text : List ℕ) → flat_map gets_of_line (all_lines text) ≡ gets_of text
all_gets_of text = either (all_lines_are text)
  where
    either : (all_lines text ≡ lines_of text) ⊎ (all_lines text ≡ lines_of text ++ [] ∷ []) → flat_map gets_of_line (all_lines text) ≡ flat_map gets_of_line (lines_of text)
    either (inl is) = ap (flat_map gets_of_line) is
    either (inr is) = ap (flat_map gets_of_line) is ∙ flat_map-append gets_of_line (lines_of text) ([] ∷ []) ∙ append-nil (flat_map gets_of_line (lines_of text))

-- ---- the reads among the jobs

place_there : (jobs : List Job) (line : FileLine) (place : GetPlace) → ReadsFrom (0, 0) (plan_lines jobs) line place → IsPlaceOf jobs line place
place_there jobs line place from =
    let opens = among_jobs jobs 0 0 place.job (place.step - 1) _ from.opens in
    let reads = among_jobs jobs 0 0 place.job place.step _ from.reads in
    let same_job : opens.job ≡ reads.job = same reads.job opens.job (sym reads.found ∙ opens.found) in
    let same_place : place.job ≡ place.job - 0 = omega arith in
    record {
      file = from.file;
      job = reads.job;
      found = ap (slice_get jobs) same_place ∙ reads.found;
      opens = ap (λ (job : Job). step_at job.steps (place.step - 1)) (sym same_job) ∙ opens.step_is;
      reads = reads.step_is;
    }

all_there : (jobs : List Job) (gets : List FileLine) (places : List GetPlace) → AllZip (ReadsFrom (0, 0) (plan_lines jobs)) gets places → AllZip (IsPlaceOf jobs) gets places
all_there jobs [] [] from = tt
all_there jobs [] (place ∷ places) from = absurd from
all_there jobs (line ∷ gets) [] from = absurd from
all_there jobs (line ∷ gets) (place ∷ places) from = (place_there jobs line place from.0, all_there jobs gets places from.1)

module _ (tells : FileTold → Type 0) (text made : List ℕ) (jobs : List Job) (bytes : AreBytes text) (short : length text ≤ LONGEST_PLAN) (written : IsWrittenOut tells text made) (plan : IsPlanOf (numbered_plan made) jobs) where
  abbrev lines : List (List ℕ)
  lines = numbered_lines no_steps (flat_map all_lines written.0)

  lines_are : all_lines (numbered_plan made) ≡ lines
  lines_are = lines_keep_places made ∙ ap (numbered_lines no_steps) (lines_written tells text made written)

  reads_there : (o : Option (List (List ℕ))) → behind_strict lines ≡ o → option_map_or (said true) o (said false lines) ≡ Some (plan_lines jobs) → AllZip (ReadsFrom (0, 0) (plan_lines jobs)) (flat_map gets_of_line (all_lines text)) (gets_in (0, 0) (all_lines text))
  reads_there None none k =
      reads_stand tells false (all_lines text) written.0 (0, 0) no_steps (plan_lines jobs) written.1 (parts_free 10 text) (parts_bytes 10 text bytes) refl (omega (arith, short, all_lines_few text)) k
  reads_there (Some more) is k =
      let from = strict_from tells (all_lines text) written.0 more written.1 (parts_free 10 text) (parts_bytes 10 text bytes) is in
      let few = from.few in
      subst (AllZip (ReadsFrom (0, 0) (plan_lines jobs)) (flat_map gets_of_line (all_lines text))) (sym from.places)
      (subst (λ g. AllZip (ReadsFrom (0, 0) (plan_lines jobs)) g (gets_in (0, 0) from.rest)) (sym from.gets)
      (reads_stand tells true from.rest from.texts (0, 0) no_steps (plan_lines jobs) from.written from.free from.bytes refl (omega (arith, few, short, all_lines_few text)) (ap (said true) (sym from.more_is) ∙ k)))

  pub places_read : AllZip (IsPlaceOf jobs) (gets_of text) (places_of text)
  places_read =
      let said_is : plan_said lines ≡ Some (plan_lines jobs) = ap plan_said (sym lines_are) ∙ all_said (numbered_plan made) jobs plan in
      subst (AllZip (IsPlaceOf jobs) (gets_of text)) (all_gets text)
      (subst (λ g. AllZip (IsPlaceOf jobs) g (gets_in (0, 0) (all_lines text))) (all_gets_of text)
      (all_there jobs (flat_map gets_of_line (all_lines text)) (gets_in (0, 0) (all_lines text)) (reads_there (behind_strict lines) refl said_is)))
