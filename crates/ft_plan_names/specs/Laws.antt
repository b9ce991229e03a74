-- What numbers in place of names leave as it is, and which lines are counted.
use Rattle.std.specs.Prelude.{◌≡◌, ℕ, Bool, true, false, List, codes, Some}
use Rattle.std.specs.List.{list_all}
use Rattle.ft_plan.specs.declared.job.Job.{Job}
use Rattle.ft_plan.specs.declared.line.PlanLine.{PlanLine}
use Rattle.ft_plan.specs.declared.line.PlanLine.TheVariants as line
use Rattle.ft_plan.specs.Lines.{line_of}
use Rattle.ft_plan.specs.Plans.{IsPlanOf}
use Rattle.ft_plan_names.specs.Numbers.{Numbering, all_lines, begins, is_plain_line, is_step, no_steps, numbered_line, numbered_lines, numbered_plan}

-- A line that gives no name and has none stays, byte for byte.
abbrev pub LineLaw : Type 0
LineLaw = (steps : Numbering) (line : List ℕ) → is_plain_line line ≡ true → numbered_line steps line ≡ line

-- So does a text of such lines.
abbrev pub TextLaw : Type 0
TextLaw = (text : List ℕ) → list_all is_plain_line (all_lines text) ≡ true → numbered_plan text ≡ text

-- So does each plan without names: what is a plan as it is.
abbrev pub PlanLaw : Type 0
PlanLaw = (bytes : List ℕ) (jobs : List Job) → IsPlanOf bytes jobs → numbered_plan bytes ≡ bytes

-- Each line keeps its place.
abbrev pub PlaceLaw : Type 0
PlaceLaw = (text : List ℕ) → all_lines (numbered_plan text) ≡ numbered_lines no_steps (all_lines text)

-- whether a line of a plan is a step
abbrev pub is_step_line : PlanLine → Bool
is_step_line (line.Job name parent kind) = false
is_step_line (line.After names) = false
is_step_line (line.Step step) = true

-- whether it begins a job
abbrev pub is_job_line : PlanLine → Bool
is_job_line (line.Job name parent kind) = true
is_job_line (line.After names) = false
is_job_line (line.Step step) = false

-- Just the steps among the lines of a plan are counted, and the count begins with each job.
abbrev pub CountLaw : Type 0
CountLaw = (strict : Bool) (words : List (List ℕ)) (said : PlanLine) → line_of strict words ≡ Some said → (is_step words ≡ is_step_line said) × (begins (codes "job") words ≡ is_job_line said)
