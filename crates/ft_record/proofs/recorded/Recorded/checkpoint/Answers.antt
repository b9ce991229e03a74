use Rattle.std.proofs.Common.{◌≡◌, ◌≤◌, sym, ap, subst, ◌∙◌}
use Rattle.ft_tree.specs.Tidy.{tidy}
use Rattle.ft_forest.specs.declared.TheConstants.{LAST_NUMBER}
use Rattle.ft_core.specs.declared.request.Request.TheVariants as request
use Rattle.ft_core.specs.Journals.{IsBaseTree}
use Rattle.ft_core.specs.Living.{NoneIsLive}
use Rattle.ft_core.specs.States.{Base, State, StoredState, tree_of}
use Rattle.ft_core.specs.Sweeps.{HasNoUselessPlace}
use Rattle.ft_record.proofs.Records.{unchanged, still-recorded, cleared-is}
use Rattle.ft_record.proofs.recorded.Recorded.checkpoint.Goals as goal

pub invariant_of-self : goal.invariant_of-self
invariant_of-self c =
    let i = c.self.inside in
    still-recorded i.recent c.sweep.new.self i.base c.self.invariant (ap (λ (s : State). s.base) c.sweep.ensures.same) c.sweep.ensures.forgotten

pub invariant_of-self-in_err-checkpoint : goal.invariant_of-self-in_err-checkpoint
invariant_of-self-in_err-checkpoint c =
    let i = c.self.inside in
    let swept = c.sweep.new.self in
    let new = c.checkpoint.new.self in
    still-recorded i.recent new i.base c.self.invariant
    (ap (λ (s : State). s.base) (unchanged swept.core.state new.core.state request.Checkpoint c.in_err-checkpoint.field-0.0 c.in_err-checkpoint.ensures.step ∙ c.sweep.ensures.same)) (c.in_err-checkpoint.ensures.err ∙ c.sweep.ensures.forgotten)

pub invariant_of-self-2 : goal.invariant_of-self-2
invariant_of-self-2 c =
    let s : State = c.sweep.new.self.core.state in
    let now = c.core-2.ensures in
    let copy = c.in_ok-base.ensures in
    let base = ap (λ (q : State). q.base) (cleared-is s c.checkpoint.new.self.core.state c.in_ok-checkpoint.ensures.step) in
    let stamp : c.core-2.result.now.state.last_stamp ≡ s.last_stamp = ap (λ (k : StoredState). k.state.last_stamp) now in
    let none : NoneIsLive c.self.inside.recent.core.state = subst (λ (k : StoredState). NoneIsLive k.state) c.core.ensures c.in_ok-may_checkpoint.ensures.none_live in
    record {
      all = c.in_ok-checkpoint.ensures.ok;
      tree = ap tidy copy ∙ c.tree.ensures.headline.tree ∙ ap (λ (k : StoredState). tree_of k.state) now ∙ ap (λ (b : Base). b.tree) (sym base);
      base_is = subst (λ (b : Base). IsBaseTree c.in_ok-base.base b.last_stamp) (sym base) (subst (λ k. IsBaseTree c.in_ok-base.base k) stamp (subst (λ x. IsBaseTree x c.core-2.result.now.state.last_stamp) (sym copy) c.tree.ensures.base));
      last = subst (λ (b : Base). b.last_stamp ≤ LAST_NUMBER) (sym base) (subst (λ k. k ≤ LAST_NUMBER) stamp c.tree.ensures.last);
      bare = subst HasNoUselessPlace (sym (copy ∙ c.tree.ensures.stored ∙ ap (λ (k : StoredState). k.cells) now)) (c.sweep.ensures.none_left none);
    }
