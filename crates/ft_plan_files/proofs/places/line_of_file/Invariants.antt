use Rattle.std.proofs.Common.{◌≡◌, ◌+◌, ◌≤◌}
use Rattle.ft_words.specs.Spelling.{lines_of}
use Rattle.ft_plan_files.specs.Places.{line_behind}
use Rattle.ft_plan_files.proofs.places.line_of_file.Given as goal

-- the lines so far, and then those up to the one that is sought
abbrev pub invariant-loop-line : goal.invariant-loop-line
invariant-loop-line l = record {
  able : (goal.iterator-loop-line).can_next l.line-iterator;
  finite : (goal.iterator-loop-line).is_finite l.line-iterator;
  behind : line_behind (lines_of l.fn.text) l.number + 1 ≡ l.here + line_behind l.line-iterator l.left;
  some : 1 ≤ l.here;
  few : l.here + l.left ≤ l.number + 1;
}
