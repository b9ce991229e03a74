use Rattle.std.proofs.Common.{◌≡◌, ◌⊎◌, ◌<◌, ◌≤◌, []}
use Rattle.ft_script.specs.Gathering.{Gathers}
use Rattle.ft_script.specs.Reading.{cut_count, uncut, unscanned}
use Rattle.ft_strict.specs.Strict.{AnswersStrictly}
use Rattle.ft_names.specs.Names.{moment}
use Rattle.ft_script.proofs.strictly.answer_strictly.Given as goal

-- the lines that were cut were carried out, and their replies are gathered
abbrev pub invariant-loop-script : goal.invariant-loop-script
invariant-loop-script g l = record {
  gathers : Gathers (AnswersStrictly (g.F.DiskFiles.tells l.files)) (uncut l.fn.script.lines) (uncut l.script.lines) (cut_count l.fn.script.lines) (cut_count l.script.lines) l.script.replies.items (moment l.fn.core l.fn.names) (moment l.core l.names);
  reads : l.script.lines.reads_left ≡ l.fn.script.lines.reads_left;
  within : unscanned l.script.lines ≤ unscanned l.fn.script.lines;
  less : (l.script.replies.items ≡ []) ⊎ (unscanned l.script.lines < unscanned l.fn.script.lines);
}

abbrev pub decreases-loop-script : goal.decreases-loop-script
decreases-loop-script g l = unscanned l.script.lines
