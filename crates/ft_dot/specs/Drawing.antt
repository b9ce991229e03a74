-- The text of a drawing in the DOT language of Graphviz.
use Rattle.std.specs.Prelude.{ℕ, List, [], ◌∷◌, ◌++◌, codes, Option, None, Some}
use Rattle.std.specs.Fmt.{decimal}
use Rattle.std.specs.List.{flat_map}
use Rattle.ft_waits.specs.declared.edge.Edge.{Edge}
use Rattle.ft_waits.specs.declared.edge.EdgeKind.{EdgeKind}
use Rattle.ft_waits.specs.declared.edge.EdgeKind.TheVariants.{Lock, Child}
use Rattle.ft_waits.specs.declared.verdict.Verdict.{Verdict}
use Rattle.ft_waits.specs.declared.verdict.Verdict.TheVariants.{Cycle, Ranked}
use Rattle.ft_dot.specs.declared.report.Report.{Report}
use Rattle.ft_dot.specs.Reading.{last_report}

-- an edge for a lock is drawn whole, and one to a child in dashes
abbrev pub style_of : EdgeKind → List ℕ
style_of Lock = codes "solid"
style_of Child = codes "dashed"

-- the line of an edge
abbrev pub edge_text : Edge → List ℕ
edge_text edge = codes "  " ++ decimal edge.from ++ codes " -> " ++ decimal edge.to ++ codes " [style=" ++ style_of edge.kind ++ codes "];" ++ 10 ∷ []

-- a transaction of a cycle is red
unfoldable pub cycle_mark : List ℕ
cycle_mark = codes "color=red"

-- the line of a member of a cycle
abbrev pub member_text : ℕ → List ℕ
member_text txn = codes "  " ++ decimal txn ++ codes " [" ++ cycle_mark ++ codes "];" ++ 10 ∷ []

-- the line of a transaction with its rank
abbrev pub rank_text : ℕ × ℕ → List ℕ
rank_text entry = codes "  " ++ decimal entry.0 ++ codes " [label=\"" ++ decimal entry.0 ++ codes " (rank " ++ decimal entry.1 ++ codes ")\"];" ++ 10 ∷ []

-- the lines of transactions
abbrev pub verdict_text : Verdict → List ℕ
verdict_text (Cycle members) = flat_map member_text members
verdict_text (Ranked ranks) = flat_map rank_text ranks

-- the lines of a report, which are between the braces; none if there is no report
abbrev pub report_text : Option Report → List ℕ
report_text None = []
report_text (Some report) = verdict_text report.verdict ++ flat_map edge_text report.edges

-- the whole text
abbrev pub digraph : Option Report → List ℕ
digraph report = codes "digraph waits {" ++ 10 ∷ report_text report ++ codes "}" ++ 10 ∷ []

-- The drawing of the last report among the lines of replies.
abbrev pub dot_of : List (List ℕ) → List ℕ
dot_of lines = digraph (last_report lines)
