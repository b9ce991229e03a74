use Rattle.std.proofs.Common.{◌≤◌, ap, sym, subst, ◌∙◌}
use Rattle.ft_tree.specs.Tidy.{tidy}
use Rattle.ft_forest.specs.declared.TheConstants.{LAST_NUMBER}
use Rattle.ft_core.specs.Journals.{IsBaseTree}
use Rattle.ft_core.specs.Sweeps.{HasNoUselessPlace}
use Rattle.ft_core.specs.States.{Base, State, StoredState, tree_of}
use Rattle.ft_record.proofs.recorded.Recorded.of.Goals as goal

pub invariant_of-result : goal.invariant_of-result
invariant_of-result c =
    let s : State = c.args.core.state in
    let copy = c.in_ok-base.ensures in
    let base = ap (λ (k : StoredState). k.state.base) c.of-recent.ensures.core in
    record {
      all = c.of-recent.ensures.forgotten;
      tree = ap tidy copy ∙ c.tree.ensures.headline.tree ∙ ap tree_of c.requires ∙ ap (λ (b : Base). b.tree) (sym base);
      base_is = subst (λ (b : Base). IsBaseTree c.in_ok-base.base b.last_stamp) (sym base)
          (subst (λ k. IsBaseTree c.in_ok-base.base k) (ap (λ (q : State). q.last_stamp) c.requires) (subst (λ x. IsBaseTree x s.last_stamp) (sym copy) c.tree.ensures.base));
      last = subst (λ (b : Base). b.last_stamp ≤ LAST_NUMBER) (sym base) (subst (λ k. k ≤ LAST_NUMBER) (ap (λ (q : State). q.last_stamp) c.requires) c.tree.ensures.last);
      bare = subst HasNoUselessPlace (sym copy) (c.tree.ensures.bare (ap (λ (q : State). q.events) c.requires));
    }
