use Rattle.std.proofs.Common.{◌≡◌, [], ◌∷◌, ◌++◌, List, Option, Bor, IfNone, option_to_list, append-nil, nat_eq, sym, ap, subst, ◌∙◌}
use Rattle.std.specs.List.{IsDistinct}
use Rattle.std.specs.FinMap as finite
use Rattle.ft_waits.specs.declared.edge.Edge.{Edge}
use Rattle.ft_waits.specs.declared.walk.Step.{Step}
use Rattle.ft_waits.specs.declared.walk.Walk.{Walk}
use Rattle.ft_waits.specs.Waits.{IsNamed, IsPath, IsCycle}
use Rattle.ft_waits.specs.Walk.{Ranks, Txns, KeepsRanks, IsWalk, path_txns, from_first}
use Rattle.ft_waits.proofs.Paths.{path-front}
use Rattle.ft_waits.proofs.Walks.{txns-push, gone-none}
use Rattle.ft_waits.proofs.Cycles.{root-ranked, path-further, found-cycle, found-distinct}
use Rattle.ft_waits.proofs.walk.Walk.visit.Goals as goal

pub returns-in-None-enter-clause-cycle : goal.returns-in-None-enter-clause-cycle
returns-in-None-enter-clause-cycle c =
    let walk = c.loop-next.self in
    let told = c.in-Some-advance.ensures in
    let next = c.in-Some-advance.next in
    let seen = c.in-None-enter.ensures.seen in
    let items = ap (λ (w : Walk). w.path.items) seen.0 ∙ c.in_ok-push-in-Some-advance.ensures.items in
    let members = c.in_ok-path_from-in-None-enter.ensures ∙ ap (λ (steps : List Step). from_first next (path_txns steps)) items in
    let cycle = found-cycle walk.edges.now walk.path.items c.advance.new.top c.loop-next.top.txn next told.txn c.loop-next.invariant.path told.edge walk.unseen walk.ranks told.stands told.unranked seen.1 in
    subst (λ (edges : Bor (List Edge)). IsCycle edges.now c.in_ok-path_from-in-None-enter.field-0.items) c.loop-next.invariant.edges (subst (λ txns. IsCycle walk.edges.now txns) (sym members) cycle)

pub returns-in-None-enter-clause-distinct : goal.returns-in-None-enter-clause-distinct
returns-in-None-enter-clause-distinct c =
    let walk = c.loop-next.self in
    let told = c.in-Some-advance.ensures in
    let next = c.in-Some-advance.next in
    let seen = c.in-None-enter.ensures.seen in
    let items = ap (λ (w : Walk). w.path.items) seen.0 ∙ c.in_ok-push-in-Some-advance.ensures.items in
    let members = c.in_ok-path_from-in-None-enter.ensures ∙ ap (λ (steps : List Step). from_first next (path_txns steps)) items in
    subst (λ txns. IsDistinct nat_eq txns) (sym members)
    (found-distinct walk.edges.now walk.path.items c.advance.new.top c.loop-next.top.txn next told.txn c.loop-next.invariant.path told.edge walk.unseen walk.ranks told.stands told.unranked seen.1)

pub returns-in-None-2-clause-ranked : goal.returns-in-None-2-clause-ranked
returns-in-None-2-clause-ranked c =
    let left = c.in_ok-below-in-None.ensures in
    let new = c.leave.new.self in
    let empty : new.path.items ≡ [] = subst (λ (below : Option Step). IfNone below (new.path.items ≡ [])) c.in-None-2.is left.empty in
    let items = left.path ∙ ap (λ (below : Option Step). new.path.items ++ option_to_list below) c.in-None-2.is ∙ append-nil new.path.items ∙ empty in
    let named = subst (λ (edges : Bor (List Edge)). IsNamed edges.now c.args.root) (sym (left.edges ∙ c.loop-next.invariant.edges)) c.requires.named in
    root-ranked new.edges.now new.unseen new.ranks c.loop-next.self.path.items c.args.root left.stands items named (ap (λ (m : Txns). finite.get m c.args.root) left.unseen ∙ c.loop-next.invariant.gone)

pub loop-next-preserved-in-Some-enter : goal.loop-next-preserved-in-Some-enter
loop-next-preserved-in-Some-enter c =
    let walk = c.loop-next.self in
    let told = c.in-Some-advance.ensures in
    let next = c.in-Some-advance.next in
    let new = c.enter-in-Some-advance.new.self in
    let entered = c.in-Some-enter.ensures in
    let edges_same = ap (λ (w : Walk). w.edges) entered.others in
    let items = ap (λ (w : Walk). w.path.items) entered.others ∙ c.in_ok-push-in-Some-advance.ensures.items in
    let further = path-further walk.edges.now walk.path.items c.advance.new.top c.loop-next.top.txn next told.txn c.loop-next.invariant.path told.edge in
    record {
      edges = edges_same ∙ c.loop-next.invariant.edges;
      stands = subst (λ (steps : List Step). IsWalk new.edges.now new.unseen new.ranks (steps ++ c.in-Some-enter.step ∷ [])) (sym items) (entered.stands (walk.path.items ++ c.advance.new.top ∷ []) told.stands);
      path = subst (λ (edges : Bor (List Edge)). IsPath edges.now (path_txns new.path.items) c.in-Some-enter.step.txn) (sym edges_same)
          (subst (λ (steps : List Step). IsPath walk.edges.now (path_txns steps) c.in-Some-enter.step.txn) (sym items) (subst (λ txn. IsPath walk.edges.now (path_txns (walk.path.items ++ c.advance.new.top ∷ [])) txn) (sym entered.txn) further));
      gone = ap (λ (m : Txns). finite.get m c.args.root) entered.unseen ∙ gone-none walk.unseen next c.args.root c.loop-next.invariant.gone;
      keeps = subst (λ (ranks : Ranks). KeepsRanks c.args.self.now.ranks ranks) (sym (ap (λ (w : Walk). w.ranks) entered.others)) c.loop-next.invariant.keeps;
    }

pub loop-next-preserved : goal.loop-next-preserved
loop-next-preserved c =
    let walk = c.loop-next.self in
    let left = c.in_ok-below-in-None.ensures in
    let new = c.leave.new.self in
    let below = c.in-Some-2.below in
    let items = left.path ∙ ap (λ (below : Option Step). new.path.items ++ option_to_list below) c.in-Some-2.is in
    record {
      edges = left.edges ∙ c.loop-next.invariant.edges;
      stands = subst (λ (steps : List Step). IsWalk new.edges.now new.unseen new.ranks steps) items left.stands;
      path = subst (λ (edges : Bor (List Edge)). IsPath edges.now (path_txns new.path.items) below.txn) (sym left.edges)
          (path-front walk.edges.now (path_txns new.path.items) (below.txn ∷ []) c.loop-next.top.txn (subst (λ txns. IsPath walk.edges.now txns c.loop-next.top.txn) (ap (λ (steps : List Step). path_txns steps) items ∙ txns-push new.path.items below) c.loop-next.invariant.path));
      gone = ap (λ (m : Txns). finite.get m c.args.root) left.unseen ∙ c.loop-next.invariant.gone;
      keeps = λ txn rank some. left.keeps txn rank (c.loop-next.invariant.keeps txn rank some);
    }
