use Rattle.std.proofs.Common.{arith, sym, subst, ◌∙◌}
use Rattle.std.specs.Iterator.{YieldsFirst}
use Rattle.ft_paged.specs.Paged.{joined_places}
use Rattle.ft_base.proofs.Shorter.{shorter}
use Rattle.ft_paged.proofs.Maps.{first-left, none-left}
use Rattle.ft_paged.proofs.paged_map.PagedEntriesIterator.next.Goals as goal

pub returns-in_err-number-clause-steps : goal.returns-in_err-number-clause-steps
returns-in_err-number-clause-steps g c =
    let none = sym c.self.view_is ∙ none-left (joined_places c.self.inside.groups.now) c.self.inside.from c.in_err-number.ensures.first in
    subst (λ r. YieldsFirst (λ rest. rest) c.args.self.now r c.args.self.now) (sym c.from_residual.ensures) (none, none)

pub overflow_add-self : goal.overflow_add-self
overflow_add-self g c = let few = c.in_ok-number.ensures.number in omega arith

pub returns-clause-steps : goal.returns-clause-steps
returns-clause-steps g c = sym c.self.view_is ∙ first-left (joined_places c.self.inside.groups.now) c.self.inside.from c.in_ok-number.number c.in_ok-number.value c.in_ok-number.ensures.first

pub returns-clause-goes : goal.returns-clause-goes
returns-clause-goes g c = record {
  on = λ _. (tt, tt, shorter c.args.self.now _ (c.in_ok-number.number, c.in_ok-number.value) (sym c.self.view_is ∙ first-left (joined_places c.self.inside.groups.now) c.self.inside.from c.in_ok-number.number c.in_ok-number.value c.in_ok-number.ensures.first));
  keeps = tt;
  rests = λ _. tt;
}
