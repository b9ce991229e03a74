-- Where the lines of the jobs stand that have been read so far.
use Rattle.std.proofs.Common.{◌≡◌, ℕ, false, List, [], ◌∷◌, ◌++◌, Option, Some, refl, ap, ◌∙◌}
use Rattle.std.specs.Prelude.{map}
use Rattle.ft_plan.specs.declared.job.Job.{Job}
use Rattle.ft_plan.specs.declared.job.Step.{Step}
use Rattle.ft_plan.specs.declared.line.PlanLine.{PlanLine}
use Rattle.ft_plan.specs.declared.line.PlanLine.TheVariants as line
use Rattle.ft_plan.specs.declared.parsing.Begun.{Begun}
use Rattle.ft_plan.specs.Plans.{after_lines, plan_lines}
use Rattle.ft_plan.specs.Parsing.Place.{Ahead, Opened, Within}
use Rattle.ft_plan.specs.Parsing.{Place, begun_lines, fits, place_after, takes_after}

place_append : (place : Place) (lines more : List PlanLine) → place_after place (lines ++ more) ≡ place_after (place_after place lines) more
place_append place [] more = refl
place_append place (first ∷ lines) more = place_append _ lines more

within_steps : (steps : List Step) → place_after Within (map line.Step steps) ≡ Within
within_steps [] = refl
within_steps (step ∷ steps) = within_steps steps

abbrev inner : List (List ℕ) → List Step → List PlanLine
inner after steps = after_lines after ++ map line.Step steps

begun_place : (ended : List Job) (begun : Begun) → place_after Ahead (plan_lines ended ++ begun_lines (Some begun)) ≡ place_after Opened (inner begun.after.items begun.steps.items)
begun_place ended begun = place_append Ahead (plan_lines ended) (begun_lines (Some begun))

not_new : (after : List (List ℕ)) (steps : List Step) → (after ≡ [] → steps ≡ [] → ⊥) → takes_after (place_after Opened (inner after steps)) ≡ false
not_new [] [] h = absurd (h refl refl)
not_new [] (step ∷ steps) h = ap takes_after (within_steps steps)
not_new (name ∷ names) steps h = ap takes_after (within_steps steps)

by_names : (place : Place) (names : List (List ℕ)) → takes_after place ≡ false → fits place (line.After names) ≡ false
by_names place [] h = refl
by_names place (name ∷ names) h = h

-- what a job comes after may not stand behind its first line
pub stray_after : (ended : List Job) (begun : Begun) (names : List (List ℕ)) → (begun.after.items ≡ [] → begun.steps.items ≡ [] → ⊥)
    → fits (place_after Ahead (plan_lines ended ++ begun_lines (Some begun))) (line.After names) ≡ false
stray_after ended begun names h = by_names _ names (ap takes_after (begun_place ended begun) ∙ not_new begun.after.items begun.steps.items h)
