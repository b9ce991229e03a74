use Rattle.std.proofs.Common.{◌≡◌, length}
use Rattle.ft_dot.specs.Reading.{last_report, later}
use Rattle.ft_dot.proofs.reading.last_report.Given as goal

-- the last report of the lines so far and of those that are left is that of all
abbrev pub invariant-loop-line : goal.invariant-loop-line
invariant-loop-line l = last_report l.initial.rest ≡ later l.last (last_report l.rest)

abbrev pub decreases-loop-line : goal.decreases-loop-line
decreases-loop-line l = length l.rest
