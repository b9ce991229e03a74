use Rattle.std.proofs.Common.{length}
use Rattle.ft_plan_files.proofs.WrittenLines.{SoFar}
use Rattle.ft_plan_files.proofs.writing.write_lines.Given as goal

-- the lines before what is left were written out
abbrev pub invariant-loop-line : goal.invariant-loop-line
invariant-loop-line g l = SoFar (g.F.DiskFiles.tells l.files) l.fn.text l.made.items l.rest

abbrev pub decreases-loop-line : goal.decreases-loop-line
decreases-loop-line g l = length l.rest
