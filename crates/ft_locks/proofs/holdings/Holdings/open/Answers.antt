use Rattle.std.proofs.Common.{refl, sym, ap, subst, ◌∙◌}
use Rattle.std.specs.FinMap as finite
use Rattle.ft_owned_lists.specs.OwnedLists.{list_in}
use Rattle.ft_lock_rules.specs.Holdings.{Held, AreUsed, cells_under, lists_under}
use Rattle.ft_lock_rules.proofs.Cases.{ok_then, err_then}
use Rattle.ft_lock_rules.proofs.Joining.{joined-same, opened_lists}
use Rattle.ft_lock_rules.proofs.Under.{list-under, insert-under}
use Rattle.ft_locks.proofs.holdings.Holdings.open.Goals as goal

pub invariant_of-self : goal.invariant_of-self
invariant_of-self c =
    let same = opened_lists c.open.result c.self.inside.chains c.open.new.self c.args.owner c.open.ensures.ok c.open.ensures.err in
    let at = c.self.inside.cells.at in
    record {
      joined = joined-same _ _ c.self.invariant.joined _ (lists_under at c.open.new.self) (λ d u. refl)
          (λ u. list-under at c.open.new.self u ∙ ap (cells_under at) (same u) ∙ sym (list-under at c.self.inside.chains u));
      used = λ u. subst (AreUsed at) (sym (same u)) (c.self.invariant.used u);
    }

pub returns-clause-ok : goal.returns-clause-ok
returns-clause-ok c = ok_then c.open.result _ _
    (λ (is : _). ap (lists_under c.self.inside.cells.at) is ∙ insert-under c.self.inside.cells.at c.self.inside.chains c.args.owner (list_in c.self.inside.chains c.args.owner)
    ∙ ap (λ l. finite.insert (lists_under c.self.inside.cells.at c.self.inside.chains) c.args.owner l) (sym (list-under c.self.inside.cells.at c.self.inside.chains c.args.owner))
    ∙ ap (λ (h : Held). finite.insert h.lists c.args.owner (list_in h.lists c.args.owner)) c.self.view_is)
    c.open.ensures.ok

pub returns-clause-err : goal.returns-clause-err
returns-clause-err c = err_then c.open.result _ _
    (λ (is : _). (λ i. record { cells = c.self.inside.cells.cells; lists = lists_under c.self.inside.cells.at (is i) }) ∙ c.self.view_is)
    c.open.ensures.err
