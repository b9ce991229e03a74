-- The definition of a plan. (The format of plans is this project's own: docs/SCRIPT.md, Plans.)
use Rattle.std.specs.Prelude.{◌≡◌, ◌==◌, ◌&&◌, not, ℕ, zero, suc, Bool, true, false, nat_le, List, [], ◌∷◌, ◌++◌, length, if◌then◌else◌, Option, None, Some, option_map, option_and_then, map}
use Rattle.std.specs.List.{flat_map, list_all, list_any, slice_get, count_by}
use Rattle.std.specs.Option.{option_map_or}
use Rattle.std.specs.Str.{bytes_eq}
use Rattle.ft_posix.specs.declared.call.Call.{Call}
use Rattle.ft_posix.specs.declared.call.Call.TheVariants as calls
use Rattle.ft_words.specs.Spelling.{lines_of, words_of_line}
use Rattle.ft_plan.specs.declared.job.Job.{Job}
use Rattle.ft_plan.specs.declared.job.JobKind.{JobKind}
use Rattle.ft_plan.specs.declared.job.JobKind.TheVariants.{Free, Strict, Must}
use Rattle.ft_plan.specs.declared.job.Step.{Step}
use Rattle.ft_plan.specs.declared.job.Step.TheVariants as steps
use Rattle.ft_plan.specs.declared.line.PlanLine.{PlanLine}
use Rattle.ft_plan.specs.declared.line.PlanLine.TheVariants as line
use Rattle.ft_plan.specs.Lines.{line_of, behind_strict}

-- ---- how a plan is written

-- the meaning of the lines, silent ones left out; `None` if one of the others has none
abbrev pub said : Bool → List (List ℕ) → Option (List PlanLine)
said strict [] = Some []
said strict (bytes ∷ lines) =
    option_map_or (λ words. option_and_then (λ first. option_map (λ more. first ∷ more) (said strict lines)) (line_of strict words)) (words_of_line bytes) (said strict lines)

-- the same of all lines of a plan, the one left out by which it is strict
abbrev pub plan_said : List (List ℕ) → Option (List PlanLine)
plan_said lines = option_map_or (said true) (behind_strict lines) (said false lines)

-- the line of the jobs that a job comes after, if there is one
abbrev pub after_lines : List (List ℕ) → List PlanLine
after_lines [] = []
after_lines (name ∷ names) = line.After (name ∷ names) ∷ []

-- a job as it is written: the line that begins it, what it comes after, and its steps
abbrev pub job_lines : Job → List PlanLine
job_lines job = line.Job job.name job.parent job.kind ∷ after_lines job.after ++ map line.Step job.steps

-- all jobs, one after another
abbrev pub plan_lines : List Job → List PlanLine
plan_lines jobs = flat_map job_lines jobs

-- ---- the rules for jobs

-- of a plan that is not strict
abbrev pub is_free_kind : JobKind → Bool
is_free_kind Free = true
is_free_kind Strict = false
is_free_kind Must = false

-- whether one of the jobs has this name
abbrev pub is_named : List Job → List ℕ → Bool
is_named jobs name = list_any (λ job. bytes_eq job.name name) jobs

-- each passes a test with those before it
abbrev pub all_behind : {A : Type 0} → (List A → A → Bool) → List A → List A → Bool
all_behind test before [] = true
all_behind test before (x ∷ xs) = test before x && all_behind test (before ++ x ∷ []) xs

-- two jobs are under the same one, or both under none
abbrev pub is_same_parent : Option (List ℕ) → Option (List ℕ) → Bool
is_same_parent None None = true
is_same_parent (Some name) (Some other) = bytes_eq name other
is_same_parent parent other = false

-- the job has this name, and that parent
abbrev pub is_sibling : Option (List ℕ) → List ℕ → Job → Bool
is_sibling parent name job = bytes_eq job.name name && is_same_parent job.parent parent

-- Behind these jobs: each job that this one comes after is one of them, and has the same parent.
abbrev pub comes_after : List Job → Job → Bool
comes_after before job = list_all (λ name. list_any (is_sibling job.parent name) before) job.after

-- Behind these jobs: the name is new, the parent, if it names one, is one of them, and so is each
-- job that it comes after.
abbrev pub is_opened : List Job → Job → Bool
is_opened before job = not (is_named before job.name) && (option_map_or (is_named before) job.parent true && comes_after before job)

-- whether the job names this one as its parent
abbrev pub is_subjob_of : List ℕ → Job → Bool
is_subjob_of name job = option_map_or (λ parent. bytes_eq parent name) job.parent false

-- ---- the rules for the steps of a job

-- a commit or an abort
abbrev pub is_end : Step → Bool
is_end steps.Commit = true
is_end steps.Abort = true
is_end (steps.Call call) = false
is_end (steps.CallOn call) = false
is_end (steps.Try call) = false
is_end (steps.TryOn call) = false
is_end steps.Subs = false

-- The last step is a commit or an abort, and no other is.
abbrev pub ends_last : List Step → Bool
ends_last [] = false
ends_last (step ∷ []) = is_end step
ends_last (step ∷ next ∷ others) = not (is_end step) && ends_last (next ∷ others)

-- the step that starts the subjobs
abbrev pub is_subs : Step → Bool
is_subs steps.Subs = true
is_subs (steps.Call call) = false
is_subs (steps.CallOn call) = false
is_subs (steps.Try call) = false
is_subs (steps.TryOn call) = false
is_subs steps.Commit = false
is_subs steps.Abort = false

-- a step that is a call `open`
abbrev pub is_open : Step → Bool
is_open (steps.Call (calls.Open path flags)) = true
is_open (steps.Try (calls.Open path flags)) = true
is_open step = false

-- the descriptor that a call is on, or 0
abbrev pub descriptor : Call → ℕ
descriptor (calls.Close fd) = fd
descriptor (calls.Read fd len) = fd
descriptor (calls.Write fd bytes) = fd
descriptor (calls.Pread fd off len) = fd
descriptor (calls.Pwrite fd off bytes) = fd
descriptor (calls.Lseek fd whence off) = fd
descriptor (calls.Ftruncate fd len) = fd
descriptor (calls.Fstat fd) = fd
descriptor (calls.Fchmod fd mode) = fd
descriptor (calls.Fchown fd owner group) = fd
descriptor (calls.Futime fd time) = fd
descriptor call = 0

-- the step of this number, counted from 1
abbrev pub step_at : List Step → ℕ → Option Step
step_at steps zero = None
step_at steps (suc before) = slice_get steps before

-- Behind these steps: a call on what a step opened is on what one of them opened.
abbrev pub is_on_opened : List Step → Step → Bool
is_on_opened before (steps.CallOn call) = option_map_or is_open (step_at before (descriptor call)) false
is_on_opened before (steps.TryOn call) = option_map_or is_open (step_at before (descriptor call)) false
is_on_opened before step = true

-- Among these jobs: it starts its subjobs in exactly one step if it has any, and else in none.
abbrev pub starts_subjobs : List Job → Job → Bool
starts_subjobs jobs job = count_by is_subs job.steps == (if list_any (is_subjob_of job.name) jobs then 1 else 0)

-- Among these jobs: the steps are those that it may have.
abbrev pub is_job : List Job → Job → Bool
is_job jobs job = ends_last job.steps && (all_behind is_on_opened [] job.steps && starts_subjobs jobs job)

-- ---- the plan

-- its calls may all fail
abbrev pub is_free : Job → Bool
is_free job = is_free_kind job.kind

-- the most jobs of a plan: fewer if one of them is free
abbrev pub most_jobs : List Job → ℕ
most_jobs jobs = if list_any is_free jobs then 64 else 4096

-- 1 to 64 jobs, or 4,096 if all are strict, each opened by those before it, and with the steps that
-- it may have
abbrev pub is_plan : List Job → Bool
is_plan jobs = (nat_le 1 (length jobs) && nat_le (length jobs) (most_jobs jobs)) && (all_behind is_opened [] jobs && list_all (is_job jobs) jobs)

-- The lines of the bytes are those of exactly these jobs, and the jobs are a plan.
pub record IsPlanOf (bytes : List ℕ) (jobs : List Job) : Type 0 where
  pub lines : plan_said (lines_of bytes) ≡ Some (plan_lines jobs)
  pub rules : is_plan jobs ≡ true
