-- The jobs of the lines so far. No public clause cites them.
use Rattle.std.specs.Prelude.{◌≡◌, ℕ, Bool, true, false, ◌&&◌, List, [], ◌∷◌, ◌++◌, Option, None, Some, option_map, map}
use Rattle.ft_plan.specs.declared.job.Job.{Job}
use Rattle.ft_plan.specs.declared.line.PlanLine.{PlanLine}
use Rattle.ft_plan.specs.declared.line.PlanLine.TheVariants as line
use Rattle.ft_plan.specs.declared.parsing.Begun.{Begun}
use Rattle.ft_plan.specs.Plans.{after_lines, plan_lines, said}

-- the lines of the job that has begun, if one has
abbrev pub begun_lines : Option Begun → List PlanLine
begun_lines None = []
begun_lines (Some begun) = line.Job begun.name begun.parent begun.kind ∷ after_lines begun.after.items ++ map line.Step begun.steps.items

-- before the first job none has ended
abbrev pub HasBegun : List Job → Option Begun → Type 0
HasBegun ended None = ended ≡ []
HasBegun ended (Some begun) = Unit {0}

-- the place of a line
pub data Place : Type 0 where
  -- before the first job
  Ahead : Place
  -- after the line that begins a job
  Opened : Place
  -- further after it
  Within : Place

-- the place of the next line
abbrev pub place_behind : PlanLine → Place
place_behind (line.Job name parent kind) = Opened
place_behind (line.After names) = Within
place_behind (line.Step step) = Within

-- the place of the next line after these
abbrev pub place_after : Place → List PlanLine → Place
place_after place [] = place
place_after place (first ∷ lines) = place_after (place_behind first) lines

-- a step is in a job
abbrev pub takes_step : Place → Bool
takes_step Ahead = false
takes_step Opened = true
takes_step Within = true

-- what a job comes after is on the line after the one that begins it
abbrev pub takes_after : Place → Bool
takes_after Ahead = false
takes_after Opened = true
takes_after Within = false

-- the line may be there
abbrev pub fits : Place → PlanLine → Bool
fits place (line.Job name parent kind) = true
fits place (line.After []) = false
fits place (line.After (name ∷ names)) = takes_after place
fits place (line.Step step) = takes_step place

-- a line that may not come after these
abbrev pub IsStray : List PlanLine → PlanLine → Type 0
IsStray lines next = fits (place_after Ahead lines) next ≡ false

-- the meaning of lines after others
abbrev pub behind_all : List PlanLine → Option (List PlanLine) → Option (List PlanLine)
behind_all so_far more = option_map (λ lines. so_far ++ lines) more

-- the job that has begun, with the steps so far as all its steps
abbrev pub job_of : Begun → Job
job_of begun = record { name = begun.name; parent = begun.parent; kind = begun.kind; after = begun.after.items; steps = begun.steps.items }

-- whatever lines come after a line, they mean after the new jobs what the line and they mean after
-- the old
abbrev pub TakesLine : Bool → List ℕ → List PlanLine → List PlanLine → Type 0
TakesLine strict bytes old new = (lines : List (List ℕ)) → behind_all old (said strict (bytes ∷ lines)) ≡ behind_all new (said strict lines)

-- whatever lines come after a line, it and they are no plan after these
abbrev pub IsInNoPlan : Bool → List ℕ → List PlanLine → Type 0
IsInNoPlan strict bytes so_far = (lines : List (List ℕ)) (jobs : List Job) → behind_all so_far (said strict (bytes ∷ lines)) ≡ Some (plan_lines jobs) → ⊥
