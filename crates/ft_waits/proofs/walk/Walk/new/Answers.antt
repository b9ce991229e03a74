use Rattle.std.proofs.Common.{◌<◌, ◌^◌, arith}
use Rattle.std.specs.FinMap as finite
use Rattle.ft_waits.proofs.Walks.{walk-fresh}
use Rattle.ft_waits.proofs.walk.Walk.new.Goals as goal

pub returns-clause-stands : goal.returns-clause-stands
returns-clause-stands c =
    let few : finite.len c.in_ok-unseen.unseen < 2 ^ 64 = omega (arith, c.len.ensures, c.len.type_inv) in
    walk-fresh c.args.edges.now c.in_ok-unseen.unseen c.new.result c.in_ok-unseen.ensures c.new.ensures few
