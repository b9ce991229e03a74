use Rattle.std.proofs.Common.{take}
use Rattle.std.specs.Fmt.{HasWritten, IsPlainFormatter}
use Rattle.ft_line.specs.Texts.{txn_list}
use Rattle.ft_line.proofs.text.TxnListDisplay.fmt.Given as goal

-- the text so far is that of the numbers so far
abbrev pub invariant-loop-txn : goal.invariant-loop-txn
invariant-loop-txn g l =
    IsPlainFormatter l.initial.f → HasWritten g.W.Write.write_str_gives l.initial.f (txn_list (take l.txn-index l.txn-items)) l.f
