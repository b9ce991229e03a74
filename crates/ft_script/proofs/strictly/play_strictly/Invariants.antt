use Rattle.std.proofs.Common.{◌≡◌, []}
use Rattle.ft_script.specs.Reading.{cut_count, to_read, uncut}
use Rattle.ft_strict.specs.Strict.{AnswersStrictly}
use Rattle.ft_script.proofs.Stopping.{Taken}
use Rattle.ft_names.specs.Names.{moment, no_names}
use Rattle.ft_script.proofs.strictly.play_strictly.Given as goal

-- of what was read, the lines that were cut were taken, and their replies written
abbrev pub invariant-loop-script : goal.invariant-loop-script
invariant-loop-script g l =
    Taken (AnswersStrictly (g.F.DiskFiles.tells l.files)) (g.R.Read.remaining l.initial.reader) (g.R.Read.remaining l.reader) (uncut l.script.lines) (cut_count l.script.lines)
    (g.W.Write.contents l.initial.writer) (g.W.Write.contents l.writer) (l.initial.core.state, no_names) (moment l.core l.names)
    × (l.script.replies.items ≡ [])

abbrev pub decreases-loop-script : goal.decreases-loop-script
decreases-loop-script g l = to_read l.script.lines
