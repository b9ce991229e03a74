use Rattle.std.proofs.Common.{subst, sym, ap, ◌∙◌}
use Rattle.ft_lock_rules.specs.CellLocks.{AreApart, IsIndexIf}
use Rattle.ft_lock_rules.proofs.HolderLists.{seen, front_apart, last_had, last_taken}
use Rattle.ft_lock_rules.proofs.crowd.Crowd.take_last.Goals as goal

pub invariant_of-self-2 : goal.invariant_of-self-2
invariant_of-self-2 c =
    let apart = subst AreApart c.in_ok-last.ensures.items c.self.invariant.0 in (
      front_apart c.pop.new.self.items c.in_ok-last.last apart,
      c.index_without.ensures c.pop.new.self.items apart (subst (IsIndexIf c.self.inside.index) c.in_ok-last.ensures.items c.self.invariant.1),
    )

pub returns-clause-had : goal.returns-clause-had
returns-clause-had c =
    last_had c.args.self.now c.pop.new.self.items c.in_ok-last.last (ap seen (sym c.in_ok-last.ensures.items) ∙ c.self.view_is) (subst AreApart c.in_ok-last.ensures.items c.self.invariant.0)

pub returns-clause-taken : goal.returns-clause-taken
returns-clause-taken c =
    last_taken c.args.self.now c.pop.new.self.items c.in_ok-last.last (ap seen (sym c.in_ok-last.ensures.items) ∙ c.self.view_is) (subst AreApart c.in_ok-last.ensures.items c.self.invariant.0)
