use Rattle.std.proofs.Common.{Some, None, MutBor, Option, ap, sym, subst, ◌∙◌}
use mathlib.Core.Logic.{inr}
use Rattle.std.specs.Option.{ghost_name_of, option_copied_mut}
use borrow.Follows.Closed.{read_of}
use Rattle.ft_lock_rules.specs.CellLocks.{Owners}
use Rattle.ft_locks.specs.Slots.{AreKeyed, at_of, keys_in}
use Rattle.ft_locks.specs.Hashes.{AreHashed}
use Rattle.ft_locks.specs.Lending.{with_holders}
use Rattle.ft_locks.proofs.Loans.{same_lent}
use Rattle.ft_locks.proofs.EntryKeys.{placed-lent}
use Rattle.ft_locks.proofs.Nameless.{nameless-same}
use Rattle.ft_locks.proofs.Slots.{seen-under, lent-at, lent-keyed}
use Rattle.ft_locks.proofs.cells.LockedCells.get_mut.Goals as goal

pub returns-in_err-locked : goal.returns-in_err-locked
returns-in_err-locked c = (
  (λ i. inr (c.self.view_is i)) ∙ ap (λ (o : Option (MutBor Owners)). read_of (ghost_name_of o) (with_holders c.args.self.now c.args.key) c.args.self.now) (sym c.from_residual.ensures),
  record {
    writes_back = tt;
    value =
        ap option_copied_mut c.from_residual.ensures
        ∙ seen-under c.self.inside.locked (keys_in (at_of c.self.inside.locked)) c.args.self.now c.self.view_is c.self.invariant.keyed c.args.key None (sym c.get_mut.ensures.value ∙ ap option_copied_mut c.in_err-locked.was);
  },
)

pub invariant_of-self-lent : goal.invariant_of-self-lent
invariant_of-self-lent c = λ w.
    let there = sym c.get_mut.ensures.value ∙ ap option_copied_mut c.in_ok-locked.was in
    let same = lent-at c.self.inside.locked (keys_in (at_of c.self.inside.locked)) c.args.self.now c.self.view_is c.self.invariant.keyed c.args.key c.in_ok-locked.locked.now there w in
    record {
      keyed = subst (λ at. AreKeyed at (keys_in at)) (sym same) c.self.invariant.keyed;
      hashed = subst (AreHashed c.self.inside.index.index c.self.inside.index.seed) (sym same) c.self.invariant.hashed;
      placed = placed-lent c.self.inside.locked c.self.inside.entries.keys c.args.key c.in_ok-locked.locked.now w there c.self.invariant.placed;
      nameless = λ has_none. nameless-same _ _ same (c.self.invariant.nameless has_none);
    }

pub returns : goal.returns
returns c =
    let there = sym c.get_mut.ensures.value ∙ ap option_copied_mut c.in_ok-locked.was in (
      same_lent _ _ _ (lent-keyed c.self.inside.locked c.args.self.now c.self.view_is c.self.invariant.keyed c.args.key c.in_ok-locked.locked.now there),
      record {
        writes_back = tt;
        value = seen-under c.self.inside.locked (keys_in (at_of c.self.inside.locked)) c.args.self.now c.self.view_is c.self.invariant.keyed c.args.key (Some c.in_ok-locked.locked.now) there;
      },
    )
