use Rattle.std.proofs.Common.{take}
use Rattle.ft_words.proofs.LinkRows.{Gathers}
use Rattle.ft_words.proofs.tree_text.links_of.Given as goal

-- the numbers so far are those of the links to which the rows so far lead
abbrev pub invariant-loop-row : goal.invariant-loop-row
invariant-loop-row l = Gathers l.links (take l.row-index l.fn.rows)
