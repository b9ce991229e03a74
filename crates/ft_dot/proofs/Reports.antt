-- How a report is read piece by piece.
use Rattle.std.proofs.Common.{List, ◌++◌}
use Rattle.ft_waits.specs.declared.edge.Edge.{Edge}
use Rattle.ft_dot.specs.declared.report.Report.{Report}

-- a report behind edges that were read already
abbrev pub with_edges : List Edge → Report → Report
with_edges edges report = record { edges = edges ++ report.edges; verdict = report.verdict }
