use Rattle.std.proofs.Common.{◌≡◌, ◌+◌, ◌≤◌, ◌++◌, length}
use Rattle.ft_plan_names.specs.Numbers.{all_lines, no_steps, numbering_of}
use Rattle.ft_plan_names.proofs.Lining.{text_of}
use Rattle.ft_plan_names.proofs.numbering.numbered_plan.Given as goal

-- what was put, and then the lines that are left; each step so far was in a line before them
abbrev pub invariant-loop-line : goal.invariant-loop-line
invariant-loop-line l = (text_of no_steps (all_lines l.fn.text) ≡ l.made.items ++ text_of (numbering_of l.steps) (all_lines l.rest)) × (l.steps.count + length l.rest ≤ length l.fn.text)

abbrev pub decreases-loop-line : goal.decreases-loop-line
decreases-loop-line l = length l.rest
