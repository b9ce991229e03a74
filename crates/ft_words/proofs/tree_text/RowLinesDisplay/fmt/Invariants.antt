use Rattle.std.proofs.Common.{take}
use Rattle.std.specs.Fmt.{HasWritten, IsPlainFormatter}
use Rattle.std.specs.FinMap as finite
use Rattle.ft_words.specs.Texts.{lines_text, row_text}
use Rattle.ft_words.proofs.tree_text.RowLinesDisplay.fmt.Given as goal

-- the text so far is that of the rows so far
abbrev pub invariant-loop-row : goal.invariant-loop-row
invariant-loop-row g l =
    IsPlainFormatter l.initial.f → HasWritten g.W.Write.write_str_gives l.initial.f (lines_text (row_text (finite.contains_key l.fn.self.links.now)) (take l.row-index l.row-items)) l.f
