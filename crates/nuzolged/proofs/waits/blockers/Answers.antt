use Rattle.std.proofs.Common.{Option, subst}
use Rattle.ft_session.specs.declared.session.Session.{Session}
use Rattle.nuzolged.specs.Waits.{AreBlockersTold, HasBlockers}
use Rattle.nuzolged.proofs.waits.blockers.Goals as goal

pub returns-in-Some-clause-told : goal.returns-in-Some-clause-told
returns-in-Some-clause-told c =
    let told = c.tell_blockers-told.result in let before = c.args.txns.now in let after = c.tell_blockers-told.new.txns in
    subst (λ (o : Option Session). AreBlockersTold o c.args.txn told before after) c.in-Some.ensures.taken
    (subst (λ (s : Session). HasBlockers s c.args.txn told before after) c.deref.ensures c.tell_blockers-told.ensures)
