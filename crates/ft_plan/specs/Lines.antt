-- The meaning of a line of a plan. (The format of plans is this project's own: docs/SCRIPT.md,
-- Plans.)
use Rattle.std.specs.Prelude.{◌==◌, ◌||◌, ◌&&◌, ℕ, Bool, false, nat_le, List, [], ◌∷◌, length, codes, if◌then◌else◌, Option, None, Some, option_and_then, option_map}
use Rattle.std.specs.Char.{is_ascii_digit, is_ascii_lowercase}
use Rattle.std.specs.List.{list_all}
use Rattle.std.specs.Option.{option_map_or}
use Rattle.std.specs.Str.{bytes_eq}
use Rattle.ft_words.specs.declared.parse_error.ParseError.{ParseError}
use Rattle.ft_words.specs.declared.parse_error.ParseError.TheVariants.{Misspelt, NoMemory}
use Rattle.ft_words.specs.Spelling.{stripped, words_of_line}
use Rattle.ft_words.specs.Calls.{look_up, parse_call, read_by, descriptor_calls}
use Rattle.ft_plan.specs.declared.fault.JobFault.{JobFault}
use Rattle.ft_plan.specs.declared.fault.JobFault.TheVariants as faults
use Rattle.ft_plan.specs.declared.job.JobKind.{JobKind}
use Rattle.ft_plan.specs.declared.job.JobKind.TheVariants.{Free, Strict, Must}
use Rattle.ft_plan.specs.declared.job.Step.{Step}
use Rattle.ft_plan.specs.declared.job.Step.TheVariants.{Call, CallOn, Try, TryOn, Subs, Commit, Abort}
use Rattle.ft_plan.specs.declared.line.PlanLine.{PlanLine}
use Rattle.ft_plan.specs.declared.line.PlanLine.TheVariants as line

-- BadPlan for words that spell nothing, Memory if there is not enough memory
abbrev pub fault_from : ParseError → JobFault
fault_from Misspelt = faults.BadPlan
fault_from NoMemory = faults.Memory

-- one of the bytes a to z, 0 to 9, `_` and `-`
abbrev pub is_name_byte : ℕ → Bool
is_name_byte b = is_ascii_lowercase b || is_ascii_digit b || (b == 95) || (b == 45)

-- A name is 1 to 32 of these bytes.
abbrev pub is_job_name : List ℕ → Bool
is_job_name word = nat_le 1 (length word) && nat_le (length word) 32 && list_all is_name_byte word

-- the word, if it is a name
abbrev pub job_name_of : List ℕ → Option (List ℕ)
job_name_of word = if is_job_name word then Some word else None

-- ---- the line with which a job begins

-- a job under another one, by their names
abbrev pub subheading : JobKind → List ℕ → List ℕ → Option PlanLine
subheading kind name parent = option_and_then (λ n. option_map (λ p. line.Job n (Some p) kind) (job_name_of parent)) (job_name_of name)

-- a name, and at most one more, that of the job which is around it
abbrev pub heading : JobKind → List ℕ → List (List ℕ) → Option PlanLine
heading kind name [] = option_map (λ n. line.Job n None kind) (job_name_of name)
heading kind name (parent ∷ []) = subheading kind name parent
heading kind name (parent ∷ other ∷ words) = None

-- after `must`: both names
abbrev pub must_line : List (List ℕ) → Option PlanLine
must_line [] = None
must_line (name ∷ []) = None
must_line (name ∷ parent ∷ []) = subheading Must name parent
must_line (name ∷ parent ∷ other ∷ words) = None

-- after `job` in a strict plan
abbrev pub strict_job_line : List ℕ → List (List ℕ) → Option PlanLine
strict_job_line word words = if bytes_eq word (codes "must") then must_line words else heading Strict word words

-- after `job`
abbrev pub job_line : Bool → List (List ℕ) → Option PlanLine
job_line strict [] = None
job_line strict (word ∷ words) = if strict then strict_job_line word words else heading Free word words

-- ---- what it comes after

-- the names that all these words are
abbrev pub names_of : List (List ℕ) → Option (List (List ℕ))
names_of [] = Some []
names_of (word ∷ words) = option_and_then (λ name. option_map (λ names. name ∷ names) (names_of words)) (job_name_of word)

-- those of a line, which are one at least
abbrev pub line_after : List (List ℕ) → Option PlanLine
line_after [] = None
line_after (name ∷ names) = Some (line.After (name ∷ names))

-- after `after`
abbrev pub after_line : List (List ℕ) → Option PlanLine
after_line words = option_and_then line_after (names_of words)

-- ---- steps

-- `subs`, `commit` and `abort`, each the only word of its line
abbrev pub lone_steps : List (List ℕ × Step)
lone_steps = (codes "subs", Subs) ∷ (codes "commit", Commit) ∷ (codes "abort", Abort) ∷ []

-- the step, if nothing comes after its word
abbrev pub alone : List (List ℕ) → Step → Option Step
alone [] step = Some step
alone (word ∷ words) step = None

-- A call with `@` and the number of a step in place of the descriptor: it is read as the call on
-- the descriptor of that number, and marked as `CallOn`.
abbrev pub on_opened : List ℕ → List (List ℕ) → Option Step
on_opened name words = option_map CallOn (option_and_then (read_by descriptor_calls name) (stripped 64 words))

-- a call, as `on_opened` or as in a script
abbrev pub call_step : List ℕ → List (List ℕ) → Option Step
call_step name words = option_map_or Some (on_opened name words) (option_map Call (parse_call name words))

-- a step that is not tried, by its first word and the others
abbrev pub plain_step : List ℕ → List (List ℕ) → Option Step
plain_step word others = option_map_or (alone others) (look_up lone_steps word) (call_step word others)

-- the step if its call may fail
abbrev pub tried : Step → Step
tried (Call call) = Try call
tried (CallOn call) = TryOn call
tried step = step

-- after `try`: a call
abbrev pub tried_step : List (List ℕ) → Option Step
tried_step [] = None
tried_step (word ∷ others) = option_map tried (call_step word others)

-- a step; in a strict plan `try` may come before a call
abbrev pub step_of : Bool → List ℕ → List (List ℕ) → Option Step
step_of strict word others = if strict && bytes_eq word (codes "try") then tried_step others else plain_step word others

-- a line that begins no job: what the job comes after, in a strict plan, or a step
abbrev pub inner_line : Bool → List ℕ → List (List ℕ) → Option PlanLine
inner_line strict word others = if strict && bytes_eq word (codes "after") then after_line others else option_map line.Step (step_of strict word others)

-- The meaning of the words of a line of a plan; `None` if they have none. Some words have a meaning
-- only in a strict plan.
abbrev pub line_of : Bool → List (List ℕ) → Option PlanLine
line_of strict [] = None
line_of strict (word ∷ others) = if bytes_eq word (codes "job") then job_line strict others else inner_line strict word others

-- ---- the line with which a strict plan begins

-- `strict`, and nothing else
abbrev pub is_strict_line : List (List ℕ) → Bool
is_strict_line [] = false
is_strict_line (word ∷ []) = bytes_eq word (codes "strict")
is_strict_line (word ∷ other ∷ words) = false

-- The lines after that one, if all before it are silent; `None` if another says something first, or
-- none does.
abbrev pub behind_strict : List (List ℕ) → Option (List (List ℕ))
behind_strict [] = None
behind_strict (bytes ∷ lines) = option_map_or (λ words. if is_strict_line words then Some lines else None) (words_of_line bytes) (behind_strict lines)
