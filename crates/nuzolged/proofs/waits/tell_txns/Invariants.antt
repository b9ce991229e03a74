use Rattle.std.proofs.Common.{◌≡◌, ◌++◌, take, drop}
use Rattle.nuzolged.proofs.waits.tell_txns.Given as goal

-- the numbers so far are copied
abbrev pub invariant-loop-place : goal.invariant-loop-place
invariant-loop-place l = l.txns ≡ take l.place l.list ++ drop l.place l.fn.txns
