use Rattle.std.proofs.Common.{Option, subst}
use Rattle.ft_session.specs.declared.session.Session.{Session}
use Rattle.nuzolged.specs.Waits.{IsCycleTold, HasCycle}
use Rattle.nuzolged.proofs.waits.cycle.Goals as goal

pub returns-in-Some-clause-told : goal.returns-in-Some-clause-told
returns-in-Some-clause-told c =
    let told = c.tell_cycle-told.result in let before = c.args.txns.now in let after = c.tell_cycle-told.new.txns in
    subst (λ (o : Option Session). IsCycleTold o told before after) c.in-Some.ensures.taken
    (subst (λ (s : Session). HasCycle s.core.state told before after) c.deref.ensures c.tell_cycle-told.ensures)
