use Rattle.std.proofs.Common.{take}
use Rattle.std.specs.Fmt.{HasWritten, IsPlainFormatter}
use Rattle.ft_line.specs.Reports.{rank_list}
use Rattle.ft_line.proofs.wait_text.RankListDisplay.fmt.Given as goal

-- the text so far is that of the ranks so far
abbrev pub invariant-loop-txn : goal.invariant-loop-txn
invariant-loop-txn g l =
    IsPlainFormatter l.initial.f → HasWritten g.W.Write.write_str_gives l.initial.f (rank_list (take l.txn-index l.txn-items)) l.f
