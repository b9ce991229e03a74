use Rattle.std.proofs.Common.{◌≡◌, ◌++◌, ℕ, List, Option, IfSome, IfNone, true, length, take, drop, nat_eq, arith, rules, sym, ap, subst, ◌∙◌}
use Rattle.std.specs.List.{IsDistinct}
use Rattle.std.specs.FinMap as finite
use Rattle.std.proofs.Math.Seq.{take-append_seam}
use Rattle.ft_waits.specs.declared.edge.Edge.{Edge}
use Rattle.ft_waits.specs.Waits.{IsCycle, IsToldCycle, AreToldRanks}
use Rattle.ft_waits.specs.Walk.{IsWalk, AreInOrder}
use Rattle.ft_waits.proofs.Ranked.{ranked-on, same-there}
use Rattle.ft_waits.proofs.Verdicts.{told-cycle, told-ranks}
use Rattle.ft_waits.proofs.verdict.judge_sorted.Goals as goal

pub returns-in-Some : goal.returns-in-Some
returns-in-Some c =
    let edges = c.args.edges.now in
    let walk = c.loop-edge.walk in
    let members = c.in-Some.members.items in
    let cycle : IsCycle walk.edges.now members = subst (λ (found : Option _). IfSome found (λ list. IsCycle walk.edges.now list.items)) c.in-Some.is c.in_ok-members.ensures.cycle in
    let distinct : IsDistinct nat_eq members = subst (λ (found : Option _). IfSome found (λ list. IsDistinct nat_eq list.items)) c.in-Some.is c.in_ok-members.ensures.distinct in
    let old = c.deref_mut.result.now in
    let new = c.turn_to_least.new.members in
    let value = c.deref_mut.ensures.value in
    let rest = drop (length new) members in
    let long : c.in-Some.members.len ≡ length new = sym (c.turn_to_least.auto.members ∙ c.deref_mut.ensures.len) in
    let whole : c.into.result ≡ new = c.into.ensures ∙ ap (λ n. take n (new ++ rest)) long ∙ take-append_seam new rest in
    subst (λ (list : List ℕ). IsToldCycle edges list) (sym whole)
    (told-cycle edges old new c.turn_to_least.ensures.turned (subst (λ (list : List ℕ). IsCycle edges list) (sym value) (subst (λ (es : List Edge). IsCycle es members) c.loop-edge.invariant.edges cycle))
    (subst (λ (list : List ℕ). IsDistinct nat_eq list) (sym value) distinct) c.turn_to_least.ensures.least)

pub returns : goal.returns
returns c =
    let walk = c.loop-edge.walk in
    let edges = c.args.edges.now in
    let items = c.into-2.ensures ∙ c.in_ok-ranks_list.ensures in
    let stands : IsWalk edges walk.unseen walk.ranks _ = subst (λ (es : List Edge). IsWalk es walk.unseen walk.ranks _) c.loop-edge.invariant.edges c.loop-edge.invariant.stands in
    subst (λ (list : List (ℕ × ℕ)). AreToldRanks edges list) (sym items) (told-ranks edges walk.unseen walk.ranks stands (λ k e lt. c.loop-edge.invariant.ranked k e (let past = c.loop-edge-test.false in omega arith)))

pub visit-requires-clause-in_order : goal.visit-requires-clause-in_order
visit-requires-clause-in_order c = subst (λ (edges : List Edge). AreInOrder edges) (sym c.loop-edge.invariant.edges) c.requires

pub loop-edge-preserved : goal.loop-edge-preserved
loop-edge-preserved c =
    let ranks = c.visit.new.self.ranks in
    let root : finite.contains_key ranks c.edge-item.result.from ≡ true = subst (λ (found : Option _). IfNone found (finite.contains_key ranks c.edge-item.result.from ≡ true)) c.in_default.is c.in_ok-members.ensures.ranked in
    record {
      edges = search rules;
      stands = search rules;
      at_rest = search rules;
      ranked = ranked-on c.args.edges.now c.loop-edge.walk.ranks ranks c.loop-edge.edge-index c.visit.ensures.keeps c.loop-edge.invariant.ranked
          (λ e. subst (λ (edge : Edge). finite.contains_key ranks edge.from ≡ true) (c.edge-item.is ∙ same-there c.args.edges.now c.loop-edge.edge-index c.edge-item.result e c.loop-edge-test.true) root);
    }
