use Rattle.std.proofs.Common.{◌≡◌, ◌+◌, ◌*◌, ◌≤◌, ◌++◌, length}
use Rattle.ft_words.specs.Spelling.{lines_of}
use Rattle.ft_plan_files.specs.Counting.{count_of}
use Rattle.ft_plan_files.specs.Places.{gets_in}
use Rattle.ft_plan_files.proofs.places.places_of.Given as goal

-- the places of all lines are those so far, and then those of the lines that are left
abbrev pub invariant-loop-line : goal.invariant-loop-line
invariant-loop-line l = record {
  able : (goal.iterator-loop-line).can_next l.line-iterator;
  finite : (goal.iterator-loop-line).is_finite l.line-iterator;
  places : gets_in (0, 0) (lines_of l.fn.text) ≡ l.gets.places.items ++ gets_in (count_of l.gets) l.line-iterator;
  jobs : l.gets.jobs + length l.line-iterator ≤ length (lines_of l.fn.text);
  steps : l.gets.steps + 4 * length l.line-iterator ≤ 4 * length (lines_of l.fn.text);
}
