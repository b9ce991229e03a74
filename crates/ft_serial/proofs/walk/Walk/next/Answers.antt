use Rattle.std.proofs.Common.{subst}
use Rattle.ft_serial.specs.Walks.{IsTaken}
use Rattle.ft_serial.proofs.walk.Walk.next.Goals as goal

pub loop-call-preserved : goal.loop-call-preserved
loop-call-preserved c = λ given n all was.
    let core = c.args.core.now in
    let none = subst (λ r. IsTaken n c.take_closing.new.self core.state given r) c.in_default.is (c.take_closing.ensures.taken given n (c.loop-call.invariant given n all was)) in
    c.in_ok-pass.ensures.ok given n all none.0 none.1
