use Rattle.std.proofs.Common.{take}
use Rattle.std.specs.Fmt.{HasWritten, IsPlainFormatter}
use Rattle.ft_words.specs.Texts.{lines_text}
use Rattle.ft_line.specs.Reports.{edge_text}
use Rattle.ft_line.proofs.wait_text.EdgeLinesDisplay.fmt.Given as goal

-- the text so far is that of the edges so far
abbrev pub invariant-loop-edge : goal.invariant-loop-edge
invariant-loop-edge g l =
    IsPlainFormatter l.initial.f → HasWritten g.W.Write.write_str_gives l.initial.f (lines_text edge_text (take l.edge-index l.edge-items)) l.f
