use Rattle.std.proofs.Common.{◌≡◌, sym, ap, ◌∙◌, arith}
use Rattle.std.specs.FinMap as finite
use Rattle.ft_waits.specs.declared.edge.Edge.{Edge}
use Rattle.ft_waits.proofs.Named.{none-named, only-more, all-more}
use Rattle.ft_waits.proofs.walk.txns_named.Goals as goal

pub loop-edge-init : goal.loop-edge-init
loop-edge-init c = record {
  named = none-named c.args.edges.now c.new-txns.result c.new-txns.ensures;
  all = λ k e lt. absurd (omega arith);
}

pub loop-edge-preserved : goal.loop-edge-preserved
loop-edge-preserved c =
    let edges = c.args.edges.now in
    let n = c.loop-edge.edge-index in
    let edge = c.edge-item.result in
    let first : c.insert.new.self ≡ finite.insert c.loop-edge.txns edge.from tt = c.in_ok-insert.ensures.ok ∙ ap (λ (e : Edge). finite.insert c.loop-edge.txns e.from tt) c.edge.view_is in
    let second : c.insert-in-loop-edge.new.self ≡ finite.insert c.insert.new.self edge.to tt = c.in_ok-insert-2.ensures.ok ∙ ap (λ (e : Edge). finite.insert c.insert.new.self e.to tt) c.edge.view_is in
    record {
      named = only-more edges n edge c.loop-edge.txns c.insert.new.self c.insert-in-loop-edge.new.self c.loop-edge-test.true (sym c.edge-item.is) first second c.loop-edge.invariant.named;
      all = all-more edges n edge c.loop-edge.txns c.insert.new.self c.insert-in-loop-edge.new.self c.loop-edge-test.true (sym c.edge-item.is) first second c.loop-edge.invariant.all;
    }
