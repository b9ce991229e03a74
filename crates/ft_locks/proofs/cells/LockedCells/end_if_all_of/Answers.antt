use Rattle.std.proofs.Common.{true, ap, sym, ◌∙◌, is_some}
use Rattle.std.specs.FinMap as finite
use Rattle.ft_lock_rules.specs.Cells.{Keyed, marks_at}
use Rattle.ft_locks.proofs.GivenUp.{before_end, all_of, nobody-else, some_at}
use Rattle.ft_locks.proofs.cells.LockedCells.end_if_all_of.Goals as goal

pub returns-clause-alone : goal.returns-clause-alone
returns-clause-alone c = λ d u apart.
    ap (λ (m : Keyed). marks_at m.cells d u) (sym c.self.view_is)
    ∙ nobody-else true c.self.inside.locked c.self.invariant.keyed c.args.owner
    (all_of c.self.inside.locked c.args.owner c.len-end.result c.len-end.ensures (c.are_only_of.ensures c.if-not-are_only_of.false)) d u apart

pub returns-clause-end : goal.returns-clause-end
returns-clause-end c = λ k some.
    let one = some_at c.self.inside.locked k (ap (λ (m : Keyed). is_some (finite.get m.at k)) c.self.view_is ∙ some) in
    before_end c.self.inside.locked c.args.owner c.len-end.result c.len-end.ensures (c.are_only_of.ensures c.if-not-are_only_of.false) k (ap is_some one.1)
