-- What stays as it is where a plan is written out, what its steps say, from which lines they come,
-- and what stands at the places.
use Rattle.std.specs.Prelude.{◌≡◌, ◌-◌, ◌^◌, ◌<◌, ◌≤◌, ℕ, suc, pos, All, Bool, true, false, not, List, [], ◌∷◌, ◌++◌, length, map, take, Some, is_some}
use Rattle.std.specs.List.{AllZip, flat_map, list_all, slice_get}
use Rattle.std.specs.Option.{option_map_or}
use Rattle.ft_path.specs.Name.{IsNulFree}
use Rattle.ft_words.specs.Spelling.{lines_of}
use Rattle.ft_posix.specs.declared.call.Call.TheVariants.{Close, Ftruncate, Open, Read, Write}
use Rattle.ft_plan.specs.declared.job.Job.{Job}
use Rattle.ft_plan.specs.declared.job.Step.{Step}
use Rattle.ft_plan.specs.declared.job.Step.TheVariants as plan_step
use Rattle.ft_plan.specs.declared.line.PlanLine.{PlanLine}
use Rattle.ft_plan.specs.declared.line.PlanLine.TheVariants as plan_line
use Rattle.ft_plan.specs.Lines.{tried}
use Rattle.ft_plan.specs.Plans.{IsPlanOf, said, step_at}
use Rattle.ft_plan_names.specs.Numbers.{Numbering, all_lines, line_end, numbered_lines, numbered_plan}
use Rattle.ft_transfer.specs.declared.transfer.Direction.{Direction}
use Rattle.ft_transfer.specs.declared.transfer.Direction.TheVariants.{Put, Get}
use Rattle.ft_transfer.specs.Disk.{FileTold}
use Rattle.ft_transfer.specs.Transfers.{reading, writing}
use Rattle.ft_plan_files.specs.declared.file_line.FileLine.{FileLine}
use Rattle.ft_plan_files.specs.declared.places.GetPlace.{GetPlace}
use Rattle.ft_plan_files.specs.declared.writing.TheConstants.{LONGEST_PLAN}
use Rattle.ft_plan_files.specs.FileLines.{file_line_of, get_text, put_text}
use Rattle.ft_plan_files.specs.Places.{line_of_file, places_of}
use Rattle.ft_plan_files.specs.WrittenOut.{IsWrittenOut}

-- whatever the disk has told
abbrev pub anything : FileTold → Type 0
anything told = Unit {0}

-- ---- what stays

-- the line carries no file
abbrev pub has_no_file : List ℕ → Bool
has_no_file line = not (is_some (file_line_of line))

-- A text whose lines carry no file stays, byte for byte.
abbrev pub TextLaw : Type 0
TextLaw = (text made : List ℕ) → list_all has_no_file (all_lines text) ≡ true → IsWrittenOut anything text made → made ≡ text

-- So does each plan that has neither `put` nor `get`: what is a plan as it is.
abbrev pub PlanLaw : Type 0
PlanLaw = (bytes made : List ℕ) (jobs : List Job) → IsPlanOf bytes jobs → IsWrittenOut anything bytes made → made ≡ bytes

-- ---- what the steps say

-- each of them is a byte
abbrev pub AreBytes : List ℕ → Type 0
AreBytes bytes = All (λ b. b < 2 ^ 8) bytes

-- a step, tried or not
abbrev pub tried_or_not : Bool → Step → Step
tried_or_not true step = tried step
tried_or_not false step = step

-- steps, each on its line, tried or not
abbrev pub said_steps : Bool → List Step → List PlanLine
said_steps is_tried steps = map (λ step. plan_line.Step (tried_or_not is_tried step)) steps

-- The steps of a `put` of these bytes. The first has this number, and the others are on what it
-- opened.
abbrev pub put_calls : ℕ → List ℕ → List ℕ → List Step
put_calls opened path bytes =
    plan_step.Call (Open path writing)
    ∷ plan_step.CallOn (Ftruncate opened (pos (length bytes)))
    ∷ plan_step.CallOn (Write opened bytes)
    ∷ plan_step.CallOn (Close opened)
    ∷ []

-- those of a `get`
abbrev pub get_calls : ℕ → List ℕ → List Step
get_calls opened path =
    plan_step.Call (Open path reading)
    ∷ plan_step.CallOn (Read opened (2 ^ 64 - 1))
    ∷ plan_step.CallOn (Close opened)
    ∷ []

-- The steps that are written out for a `put` say just these calls, with numbers in place of names,
-- whatever steps of the job come before them, and whatever ends the line.
abbrev pub PutLaw : Type 0
PutLaw =
    (strict is_tried : Bool) (steps : Numbering) (path bytes line : List ℕ) → (is_tried ≡ true → strict ≡ true) → suc steps.0 < 2 ^ 64 → AreBytes path → IsNulFree path → AreBytes bytes → length bytes < 2 ^ 63
    → said strict (numbered_lines steps (all_lines (put_text is_tried path bytes ++ line_end line))) ≡ Some (said_steps is_tried (put_calls (suc steps.0) path bytes))

-- So do those of a `get`.
abbrev pub GetLaw : Type 0
GetLaw =
    (strict is_tried : Bool) (steps : Numbering) (path line : List ℕ) → (is_tried ≡ true → strict ≡ true) → suc steps.0 < 2 ^ 64 → AreBytes path → IsNulFree path
    → said strict (numbered_lines steps (all_lines (get_text is_tried path ++ line_end line))) ≡ Some (said_steps is_tried (get_calls (suc steps.0) path))

-- The path of a line that carries a file is one as these laws need it.
abbrev pub PathLaw : Type 0
PathLaw = (line : List ℕ) (carrying : FileLine) → AreBytes line → file_line_of line ≡ Some carrying → AreBytes carrying.path × IsNulFree carrying.path

-- ---- from which lines they come

-- how many lines the first texts have, as many texts as this number
abbrev pub lines_in : List (List ℕ) → ℕ → ℕ
lines_in texts count = length (flat_map all_lines (take count texts))

-- The lines of the plan that is written out are those of the texts for the lines of its file, one text
-- after another.
abbrev pub LinesLaw : Type 0
LinesLaw = (text made : List ℕ) (written : IsWrittenOut anything text made) → all_lines made ≡ flat_map all_lines written.0

-- If a line of that plan is one of the text for a line of the file, `line_of_file` returns the number
-- of that line of the file. Both are counted from 1.
abbrev pub SourceLaw : Type 0
SourceLaw =
    (text made : List ℕ) (written : IsWrittenOut anything text made) (before number : ℕ) → lines_in written.0 before < number → number ≤ lines_in written.0 (suc before) → line_of_file text number ≡ suc before

-- ---- what stands at the places

-- a line that carries a file, if it is a `get`
abbrev pub get_of : Direction → FileLine → List FileLine
get_of Put line = []
get_of Get line = line ∷ []

-- the `get` that a line is, if it is one
abbrev pub gets_of_line : List ℕ → List FileLine
gets_of_line line = option_map_or (λ (found : FileLine). get_of found.direction found) (file_line_of line) []

-- the `get`s of a text, in the order of their lines
abbrev pub gets_of : List ℕ → List FileLine
gets_of text = flat_map gets_of_line (lines_of text)

-- Among these jobs, the place is that of the read of this `get`. The step before opens the file of
-- the tree, and the step of this number reads as much as a read can, on what that one opened.
pub record IsPlaceOf (jobs : List Job) (line : FileLine) (place : GetPlace) : Type 0 where
  pub file : place.file ≡ line.file
  pub job : Job
  pub found : slice_get jobs place.job ≡ Some job
  pub opens : step_at job.steps (place.step - 1) ≡ Some (tried_or_not line.tried (plan_step.Call (Open line.path reading)))
  pub reads : step_at job.steps place.step ≡ Some (tried_or_not line.tried (plan_step.CallOn (Read (place.step - 1) (2 ^ 64 - 1))))

-- If the plan that is written out is one of these jobs, with numbers in place of names, then each
-- place is that of the read of its `get`.
abbrev pub PlaceLaw : Type 0
PlaceLaw = (text made : List ℕ) (jobs : List Job) → AreBytes text → length text ≤ LONGEST_PLAN → IsWrittenOut anything text made → IsPlanOf (numbered_plan made) jobs → AllZip (IsPlaceOf jobs) (gets_of text) (places_of text)
