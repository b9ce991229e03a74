use Rattle.std.proofs.Common.{ap, sym, subst, ◌∙◌, is_some}
use Rattle.std.specs.FinMap as finite
use Rattle.ft_lock_rules.specs.Holdings.{AreSingle}
use Rattle.ft_lock_rules.specs.Cells.{Keyed}
use Rattle.ft_lock_rules.specs.Seen.{is_kept_at}
use Rattle.ft_locks.specs.BulkReleased.{left_in, is_left}
use Rattle.ft_locks.proofs.GivenUp.{at_some, given-left, given-single}
use Rattle.ft_locks.proofs.Hashed.{keyed-empty, hashed-empty, cells-empty}
use Rattle.ft_locks.proofs.EntryKeys.{placed-none}
use Rattle.ft_locks.proofs.Nameless.{nameless-none}
use Rattle.ft_locks.proofs.cells.LockedCells.give_up.Goals as goal

pub fill-requires : goal.fill-requires
fill-requires c = λ k some. c.requires k (sym (ap (λ (m : Keyed). is_some (finite.get m.at k)) c.self.view_is) ∙ at_some c.self.inside.locked k some)

pub invariant_of-self : goal.invariant_of-self
invariant_of-self c = record {
  keyed = keyed-empty c.fill.new.cells c.fill.ensures.empty;
  hashed = hashed-empty c.fill.new.cells c.fill.ensures.empty c.clear.new.self c.self.inside.index.seed c.clear.ensures;
  placed = placed-none c.fill.new.cells c.clear-2.new.self c.fill.ensures.empty c.clear-2.ensures;
  nameless = λ _. nameless-none c.fill.new.cells c.fill.ensures.empty;
}

pub returns-clause-single : goal.returns-clause-single
returns-clause-single c = λ all. subst (λ es. AreSingle (left_in all es)) (sym c.fill.ensures.filled) (given-single all c.self.inside.locked c.self.invariant.keyed)

pub returns-clause-given : goal.returns-clause-given
returns-clause-given c = λ all d.
    ap (λ es. is_left all es d) c.fill.ensures.filled ∙ given-left all c.self.inside.locked c.self.invariant.keyed d ∙ ap (λ (m : Keyed). is_kept_at all m.cells d) c.self.view_is

pub returns-clause-cells : goal.returns-clause-cells
returns-clause-cells c = cells-empty c.fill.new.cells c.fill.ensures.empty
