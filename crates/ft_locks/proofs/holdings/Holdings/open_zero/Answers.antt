use Rattle.std.proofs.Common.{ℕ, Ok, refl, sym, ap, subst, ◌∙◌}
use Rattle.std.specs.FinMap as finite
use Rattle.ft_owned_lists.specs.OwnedLists.{list_in}
use Rattle.ft_lock_rules.specs.Holdings.{Held, AreUsed, cells_under, lists_under}
use Rattle.ft_lock_rules.proofs.Joining.{joined-same, opened_lists}
use Rattle.ft_lock_rules.proofs.Under.{list-under, insert-under, open-under}
use Rattle.ft_locks.proofs.holdings.Holdings.open_zero.Goals as goal

pub open_zero-requires : goal.open_zero-requires
open_zero-requires c = sym (open-under c.self.inside.cells.at c.self.inside.chains 0) ∙ ap (λ (h : Held). finite.contains_key h.lists 0) c.self.view_is ∙ c.requires

pub invariant_of-self : goal.invariant_of-self
invariant_of-self c =
    let same = opened_lists {T = ℕ} {E = Unit {0}} (Ok tt) c.self.inside.chains c.open_zero.new.self 0 c.open_zero.ensures tt in
    let at = c.self.inside.cells.at in
    record {
      joined = joined-same _ _ c.self.invariant.joined _ (lists_under at c.open_zero.new.self) (λ d u. refl)
          (λ u. list-under at c.open_zero.new.self u ∙ ap (cells_under at) (same u) ∙ sym (list-under at c.self.inside.chains u));
      used = λ u. subst (AreUsed at) (sym (same u)) (c.self.invariant.used u);
    }

pub returns-clause-lists : goal.returns-clause-lists
returns-clause-lists c =
    ap (lists_under c.self.inside.cells.at) c.open_zero.ensures ∙ insert-under c.self.inside.cells.at c.self.inside.chains 0 (list_in c.self.inside.chains 0)
    ∙ ap (λ l. finite.insert (lists_under c.self.inside.cells.at c.self.inside.chains) 0 l) (sym (list-under c.self.inside.cells.at c.self.inside.chains 0))
    ∙ ap (λ (h : Held). finite.insert h.lists 0 (list_in h.lists 0)) c.self.view_is
