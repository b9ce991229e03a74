use Rattle.std.proofs.Common.{inl}
use Rattle.nuzolged.proofs.lines.execute.Goals as goal

pub returns-in-Ok : goal.returns-in-Ok
returns-in-Ok c = inl (c.in-Ok.ensures.ok, c.told_of.ensures)
