-- A plan from its file, ready to be run. (The format is this project's own: docs/SCRIPT.md, Plans.)
use Rattle.std.specs.Prelude.{◌≡◌, ℕ, List}
use Rattle.ft_transfer.specs.Disk.{FileTold}
use Rattle.ft_plan_names.specs.Numbers.{numbered_plan}
use Rattle.ft_plan_files.specs.declared.plan.WrittenPlan.{WrittenPlan}
use Rattle.ft_plan_files.specs.Places.{places_of}
use Rattle.ft_plan_files.specs.WrittenOut.{IsWrittenOut}

-- The steps of the plan of this text are written out, numbers stand in place of their names, and these
-- are the places of its `get`s.
abbrev pub IsWrittenPlan : (FileTold → Type 0) → List ℕ → WrittenPlan → Type 0
IsWrittenPlan tells text plan = (made : List ℕ) × IsWrittenOut tells text made × (plan.bytes.items ≡ numbered_plan made) × (plan.gets.items ≡ places_of text)
