use Rattle.std.proofs.Common.{◌≡◌, ◌++◌, Some, sym, ap, ◌∙◌, rules}
use Rattle.std.proofs.lemmas.Bool.{false≢true}
use Rattle.ft_plan.specs.declared.line.PlanLine.TheVariants as line
use Rattle.ft_plan.specs.Plans.{plan_lines}
use Rattle.ft_plan.specs.Parsing.Place.{Ahead}
use Rattle.ft_plan.specs.Parsing.{begun_lines, fits, place_after}
use Rattle.ft_plan.proofs.Placing.{stray_after}
use Rattle.ft_plan.proofs.parsing.Jobs.come_after.Goals as goal

pub returns-then-not-is_new-clause-bad : goal.returns-then-not-is_new-clause-bad
returns-then-not-is_new-clause-bad c =
    let ended = c.self.inside.ended.items in
    let begun = c.in-Some.begun in
    let names = c.args.names in
    let lines_are : c.args.self.now ≡ plan_lines ended ++ begun_lines (Some begun) = search rules in
    let stray = stray_after ended begun names (λ after steps. false≢true (sym c.if-not-is_new.true ∙ c.is_new.ensures.1 (after, steps))) in
    λ bad. ap (λ lines. fits (place_after Ahead lines) (line.After names)) lines_are ∙ stray
