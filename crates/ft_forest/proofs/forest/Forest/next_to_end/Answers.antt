use Rattle.std.proofs.Common.{◌≡◌, ◌≢◌, ◌∙◌, Option, Some, None, true, sym, ap, subst, arith}
use Rattle.ft_forest.specs.declared.fault.ForestFault.{ForestFault}
use Rattle.ft_forest.specs.declared.state.State.{State}
use Rattle.ft_forest.specs.declared.state.State.TheVariants.{Live}
use Rattle.ft_forest.specs.Transactions.{state_in, over_in, IsNextToEnd}
use Rattle.ft_forest.specs.Refusals.{refusal_of}
use Rattle.ft_forest.specs.Records.{number_at, transactions_of, IsYoungest, links_of}
use Rattle.ft_forest.proofs.Seeing.{value-laws, live-over, over-child, child-sibling, state-at}
use Rattle.ft_forest.proofs.Changing.{live-links, live-begun}
use Rattle.ft_forest.proofs.forest.Forest.next_to_end.Goals as goal

-- where a fault stands for whatever comes later, the transaction is not live
not_live : (state : Option State) (fault : ForestFault) → ((later : Option ForestFault) → refusal_of state later ≡ Some fault) → state ≢ Some Live
not_live state fault due live = absurd (none_fault (sym (ap (λ o. refusal_of o None) live) ∙ due None))
  where
    none_fault : None ≡ Some fault → ⊥
    none_fault e = cc

pub returns-in_default-clause-none : goal.returns-in_default-clause-none
returns-in_default-clause-none c = λ x over live.
    not_live (state_in c.args.self.now c.args.txn) c.in_default.field-0 c.in_default.ensures.refused
    (subst (λ m. over_in m c.args.txn x ≡ true → state_in m x ≡ Some Live → state_in m c.args.txn ≡ Some Live) c.self.view_is (live-over c.self.inside.limits c.self.inside.base c.self.inside.records c.self.invariant c.args.txn x) over live)

pub loop-child-init : goal.loop-child-init
loop-child-init c =
    let limits = c.self.inside.limits in
    let base = c.self.inside.base in
    let r = c.self.inside.records in
    let is = c.in-Ok.ensures.place ∙ ap (λ m. number_at m.base c.in-Ok.place) (sym c.self.view_is) in
    let live = live-links limits base r c.self.invariant c.in-Ok.place c.args.txn is (ap (λ m. state_in m c.args.txn) c.self.view_is ∙ c.in-Ok.ensures.live) in
    record {
      within = live-begun limits base r c.self.invariant c.in-Ok.place live;
      live = live;
      below = subst (λ m. over_in m c.args.txn (number_at base c.in-Ok.place) ≡ true) c.self.view_is (subst (λ x. over_in (transactions_of limits base r) c.args.txn x ≡ true) is ((value-laws limits base r c.self.invariant).itself c.args.txn));
    }

pub loop-child-smaller : goal.loop-child-smaller
loop-child-smaller c =
    let r = c.self.inside.records in
    let youngest = subst (IsYoungest (links_of r) (Some c.loop-child.place)) (sym c.youngest_of.ensures ∙ c.in-Some.is) (c.self.invariant.linked.youngest (Some c.loop-child.place)) in
    let above = c.self.invariant.linked.lower c.in-Some.child c.loop-child.place youngest.0.parent in
    let within = live-begun c.self.inside.limits c.self.inside.base r c.self.invariant c.in-Some.child youngest.0.live in
    omega arith

pub loop-child-preserved : goal.loop-child-preserved
loop-child-preserved c =
    let limits = c.self.inside.limits in
    let base = c.self.inside.base in
    let r = c.self.inside.records in
    let youngest = subst (IsYoungest (links_of r) (Some c.loop-child.place)) (sym c.youngest_of.ensures ∙ c.in-Some.is) (c.self.invariant.linked.youngest (Some c.loop-child.place)) in
    record {
      within = live-begun limits base r c.self.invariant c.in-Some.child youngest.0.live;
      live = youngest.0.live;
      below = subst (λ m. over_in m c.args.txn (number_at base c.in-Some.child) ≡ true) c.self.view_is
          (over-child limits base r c.self.invariant c.args.txn c.loop-child.place c.in-Some.child (subst (λ m. over_in m c.args.txn (number_at base c.loop-child.place) ≡ true) (sym c.self.view_is) c.loop-child.invariant.below) youngest.0.parent);
    }

pub returns-clause-next : goal.returns-clause-next
returns-clause-next c =
    let limits = c.self.inside.limits in
    let base = c.self.inside.base in
    let r = c.self.inside.records in
    let youngest = subst (IsYoungest (links_of r) (Some c.loop-child.place)) (sym c.youngest_of.ensures ∙ c.in_default-youngest_of.is) (c.self.invariant.linked.youngest (Some c.loop-child.place)) in
    subst (λ m. IsNextToEnd m c.args.txn (number_at base c.loop-child.place)) c.self.view_is
    (record {
      below = subst (λ m. over_in m c.args.txn (number_at base c.loop-child.place) ≡ true) (sym c.self.view_is) c.loop-child.invariant.below;
      live = state-at limits base r c.loop-child.place ∙ c.loop-child.invariant.live;
      no_child = λ y is. let j = child-sibling limits base r c.self.invariant c.loop-child.place y is in youngest j.0 j.1;
    })
