use Rattle.std.proofs.Common.{◌≡◌, ◌+◌, List, Some, get_or, refl, sym, ap, subst, inl, ◌∙◌}
use Rattle.std.specs.FinMap as finite
use Rattle.ft_waits.specs.declared.edge.Edge.{Edge}
use Rattle.ft_waits.specs.declared.walk.Step.{Step}
use Rattle.ft_waits.specs.Waits.{HasEdge}
use Rattle.ft_waits.specs.Walk.{LeadTo}
use Rattle.ft_waits.proofs.Steps.{ahead-cons, step-pass}
use Rattle.ft_waits.proofs.Walks.{walk-pass, small-rank, last-step}
use Rattle.ft_waits.proofs.walk.Walk.advance.Goals as goal

pub loop-top-init : goal.loop-top-init
loop-top-init c = record {
  txn = refl;
  step = last-step c.args.self.now.edges.now c.args.self.now.unseen c.args.self.now.ranks c.args.self.now.path.items c.args.top.now c.requires;
}

pub returns-in-None-clause-stands : goal.returns-in-None-clause-stands
returns-in-None-clause-stands c =
    walk-pass c.args.self.now.edges.now c.args.self.now.unseen c.args.self.now.ranks c.args.self.now.path.items c.args.top.now c.loop-top.top c.loop-top.invariant.txn (λ _. c.loop-top.invariant.step) c.requires

pub returns-clause-stands : goal.returns-clause-stands
returns-clause-stands c =
    walk-pass c.args.self.now.edges.now c.args.self.now.unseen c.args.self.now.ranks c.args.self.now.path.items c.args.top.now c.loop-top.top c.loop-top.invariant.txn (λ _. c.loop-top.invariant.step) c.requires

pub returns-in-None-clause-edge : goal.returns-in-None-clause-edge
returns-in-None-clause-edge c =
    let edges = c.args.self.now.edges.now in
    let step = c.loop-top.top in
    let edge = c.index-self-top.result in
    let leads = subst (λ (es : List Edge). LeadTo es (get_or edges step.next edge).to) (sym (ahead-cons edges step.next step.end edge c.loop-top-test.true c.loop-top.invariant.step.within)) (inl refl) in
    subst (λ txn. HasEdge edges txn (get_or edges step.next edge).to) c.loop-top.invariant.txn (c.loop-top.invariant.step.out _ leads)

pub loop-top-preserved : goal.loop-top-preserved
loop-top-preserved c =
    let ranks = c.args.self.now.ranks in
    let step = c.loop-top.top in
    let edge = c.index-self-top.result in
    let new : Step = record { txn = step.txn; next = step.next + 1; end = step.end; rank = c.max-top.result } in
    let ranked : finite.get ranks edge.to ≡ Some c.in-Some.rank.now = ap (λ (e : Edge). finite.get ranks e.to) c.index-self-top.is ∙ ap (λ txn. finite.get ranks txn) (sym c.next.view_is) ∙ sym c.in-Some.ensures in
    record {
      txn = c.loop-top.invariant.txn;
      step = step-pass c.args.self.now.edges.now ranks step new edge c.in-Some.rank.now refl refl refl c.loop-top-test.true (sym c.index-self-top.is) c.max-top.ensures ranked
          (small-rank c.args.self.now.edges.now c.args.self.now.unseen ranks c.args.self.now.path.items c.args.top.now c.requires _ _ ranked).0 c.loop-top.invariant.step;
    }
