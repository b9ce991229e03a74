use Rattle.std.proofs.Common.{◌≡◌, Some, sym, ap, subst, ◌∙◌}
use Rattle.std.specs.Option.{IfSome}
use Rattle.std.specs.FinMap as finite
use Rattle.ft_lock_rules.specs.Cells.{Keyed}
use Rattle.ft_locks.specs.Slots.{at_of, keys_in}
use Rattle.ft_locks.proofs.Slots.{seen-key}
use Rattle.ft_locks.proofs.Hashed.{found_there, nothing-there}
use Rattle.ft_locks.proofs.cells.LockedCells.key_of.Goals as goal

pub find-requires : goal.find-requires
find-requires c = c.self.invariant.hashed

pub returns-clause-at : goal.returns-clause-at
returns-clause-at c = subst (λ (k : Keyed). IfSome c.find.result (λ key. finite.get k.at key ≡ Some c.args.cell.now)) c.self.view_is c.find.ensures.some

pub returns-clause-there : goal.returns-clause-there
returns-clause-there c =
    found_there (at_of c.self.inside.locked) c.args.cell.now c.find.result c.self.invariant.keyed c.find.ensures.some c.find.ensures.none
    ∙ seen-key c.self.inside.locked (keys_in (at_of c.self.inside.locked)) c.args.self.now c.self.view_is c.args.cell.now

pub returns-then-is_empty-clause-there : goal.returns-then-is_empty-clause-there
returns-then-is_empty-clause-there c =
    sym (nothing-there c.self.inside.locked c.self.invariant.keyed (sym c.is_empty.ensures ∙ c.if-is_empty.true) c.args.cell.now)
    ∙ ap (λ (k : Keyed). finite.contains_key k.cells c.args.cell.now) c.self.view_is
