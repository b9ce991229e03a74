use Rattle.std.proofs.Common.{[], ap, sym, refl, ◌∙◌}
use Rattle.std.specs.FinMap as finite
use Rattle.ft_owned_lists.specs.OwnedLists.{list_in}
use Rattle.ft_lock_rules.specs.Holdings.{Held, lists_under}
use Rattle.ft_lock_rules.proofs.Joining.{list-remove, list_again, joined-same}
use Rattle.ft_lock_rules.proofs.Under.{list-under, remove-under, none-under, used-closed}
use Rattle.ft_locks.proofs.holdings.Holdings.close.Goals as goal

pub close-requires : goal.close-requires
close-requires c =
    none-under c.self.inside.cells.at (list_in c.self.inside.chains c.args.owner) (c.self.invariant.used c.args.owner)
    (sym (list-under c.self.inside.cells.at c.self.inside.chains c.args.owner) ∙ ap (λ (h : Held). list_in h.lists c.args.owner) c.self.view_is ∙ c.requires)

pub invariant_of-self : goal.invariant_of-self
invariant_of-self c =
    let lists = lists_under c.self.inside.cells.at c.self.inside.chains in
    record {
      joined =
          joined-same _ _ c.self.invariant.joined _ (lists_under c.self.inside.cells.at c.close.new.self) (λ d u. refl)
          (λ u. ap (λ m. list_in m u) (ap (lists_under c.self.inside.cells.at) c.close.ensures ∙ remove-under c.self.inside.cells.at c.self.inside.chains c.args.owner) ∙ list-remove lists c.args.owner u
          ∙ list_again lists c.args.owner [] (sym (ap (λ (h : Held). list_in h.lists c.args.owner) c.self.view_is ∙ c.requires)) u);
      used = used-closed c.self.inside.cells.at c.self.inside.chains c.close.new.self c.args.owner c.close.ensures c.self.invariant.used;
    }

pub returns-clause-lists : goal.returns-clause-lists
returns-clause-lists c =
    ap (lists_under c.self.inside.cells.at) c.close.ensures ∙ remove-under c.self.inside.cells.at c.self.inside.chains c.args.owner
    ∙ ap (λ (h : Held). finite.remove h.lists c.args.owner) c.self.view_is
