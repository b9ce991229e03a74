use Rattle.std.proofs.Common.{take}
use Rattle.std.specs.Fmt.{HasWritten, IsPlainFormatter}
use Rattle.std.specs.List.{flat_map}
use Rattle.ft_dot.specs.Drawing.{member_text}
use Rattle.ft_dot.proofs.drawing.MemberLinesDisplay.fmt.Given as goal

-- the text so far is that of the members so far
abbrev pub invariant-loop-txn : goal.invariant-loop-txn
invariant-loop-txn g l =
    IsPlainFormatter l.initial.f → HasWritten g.W.Write.write_str_gives l.initial.f (flat_map member_text (take l.txn-index l.txn-items)) l.f
