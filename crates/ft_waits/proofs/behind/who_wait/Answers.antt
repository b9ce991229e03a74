use Rattle.std.proofs.Common.{◌∙◌, arith, ap, sym}
use Rattle.std.specs.FinMap as finite
use Rattle.ft_waits.proofs.Passing.{t-alone, pass-more, pass-last}
use Rattle.ft_waits.proofs.behind.who_wait.Goals as goal

pub loop-found-init : goal.loop-found-init
loop-found-init c = t-alone c.args.edges.items c.args.txn c.new-found.result c.insert.new.self c.new-found.ensures (c.in_ok-insert.ensures.ok ∙ ap (λ t. finite.insert c.new-found.result t tt) c.txn.view_is)

pub loop-found-preserved : goal.loop-found-preserved
loop-found-preserved c =
    let l = c.loop-found in
    pass-more c.args.edges.items l.rest.items c.in_ok-rest.rest.items c.args.txn (λ u. finite.contains_key l.found u) (λ u. finite.contains_key c.pass.new.found u) l.invariant c.in_ok-rest.ensures

pub returns-then-len-before : goal.returns-then-len-before
returns-then-len-before c =
    let l = c.loop-found in
    pass-last c.args.edges.items l.rest.items c.in_ok-rest.rest.items c.args.txn (λ u. finite.contains_key l.found u) (λ u. finite.contains_key c.pass.new.found u) l.invariant c.in_ok-rest.ensures
    (let same = sym c.len.ensures ∙ c.if-len-before.true ∙ c.len-before.ensures in omega arith)
