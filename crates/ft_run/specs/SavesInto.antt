-- The result of a save into a directory that exists.
use Rattle.std.specs.Prelude.{◌≡◌, ℕ, Bool, List, [], ◌∷◌, ◌++◌, codes, Option, MatchBool}
use Rattle.std.specs.Io.KnownBytes.{Appends}
use Rattle.std.specs.List.{flat_map}
use Rattle.ft_copy.specs.declared.limits.CopyLimits.{CopyLimits}
use Rattle.ft_copy.specs.Told.{Told}
use Rattle.ft_into.specs.declared.step.Step.{Step}
use Rattle.ft_into.specs.declared.wishes.Wishes.{Wishes}
use Rattle.ft_into.specs.Carries.{CarriesOut}
use Rattle.ft_into.specs.Compares.{ComparesTree}
use Rattle.ft_into.specs.Makes.{Making}
use Rattle.ft_into.specs.Steps.{step_text}
use Rattle.ft_save.specs.declared.row.Row.{Row}
use Rattle.ft_save.specs.Saves.{IsLast}
use Rattle.ft_save.specs.Trees.{Tells}
use Rattle.ft_words.specs.Texts.{coded}

-- a step on a line
abbrev pub step_line : Step → List ℕ
step_line step = step_text step ++ 10 ∷ []

abbrev pub step_lines : List Step → List ℕ
step_lines steps = flat_map step_line steps

-- a path that a killed run has left, on a line
abbrev pub left_line : List ℕ → List ℕ
left_line path = codes "left " ++ coded path ++ 10 ∷ []

abbrev pub left_lines : List (List ℕ) → List ℕ
left_lines left = flat_map left_line left

-- the steps were carried out, or nothing was done if they were only listed
abbrev pub IsDone : {M : Type 0} → Bool → (M → Making → M → Type 0) → List Step → M → M → Type 0
IsDone is_dry does steps old new = MatchBool is_dry (new ≡ old) (CarriesOut does steps old new)

-- The replies were read to their end. The steps from the directory to the tree of the report with
-- which they end were listed, with what a killed run has left, and were done.
abbrev pub SavesInto : {M : Type 0} → CopyLimits → Wishes → Bool → Option (List ℕ) → Option (List ℕ) → (Told → Type 0) → Option (List ℕ) → Option (List ℕ) → (M → Making → M → Type 0) → M → M → Type 0
SavesInto limits wishes is_dry replies replies_after disk list list_after does old new =
    (rows : List Row) × (steps : List Step) × (left : List (List ℕ)) × IsLast replies replies_after rows × ComparesTree disk wishes limits (Tells rows) steps
    × Appends list list_after (step_lines steps ++ left_lines left) × IsDone is_dry does steps old new
