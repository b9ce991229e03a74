use Rattle.std.proofs.Common.{sym, ◌∙◌}
use Rattle.ft_locks.proofs.Hashed.{hashed-nothing}
use Rattle.ft_locks.proofs.cells.LockedCells.seed.Goals as goal

pub invariant_of-self : goal.invariant_of-self
invariant_of-self c = record {
  keyed = c.self.invariant.keyed;
  hashed = hashed-nothing c.self.inside.locked c.self.inside.index.index c.self.inside.index.seed c.args.seed (sym c.is_empty.ensures ∙ c.if-is_empty.true) c.self.invariant.hashed;
  placed = c.self.invariant.placed;
  nameless = c.self.invariant.nameless;
}
