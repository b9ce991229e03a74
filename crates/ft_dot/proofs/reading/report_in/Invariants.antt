use Rattle.std.proofs.Common.{◌≡◌}
use Rattle.std.specs.Prelude.{option_map}
use Rattle.ft_dot.specs.Reading.{report_of}
use Rattle.ft_dot.proofs.Reports.{with_edges}
use Rattle.ft_dot.proofs.reading.report_in.Given as goal

-- the edges so far, and then what is left
abbrev pub invariant-loop-left : goal.invariant-loop-left
invariant-loop-left l = report_of l.count l.initial.rest ≡ option_map (with_edges l.edges.items) (report_of l.left l.rest)

abbrev pub decreases-loop-left : goal.decreases-loop-left
decreases-loop-left l = l.left
