use Rattle.std.proofs.Common.{Option, subst}
use Rattle.ft_session.specs.declared.session.Session.{Session}
use Rattle.nuzolged.specs.Locks.{AreLocksTold, HasLocks}
use Rattle.nuzolged.proofs.locks.locks.Goals as goal

pub returns-in-Some-clause-told : goal.returns-in-Some-clause-told
returns-in-Some-clause-told c =
    let told = c.tell_locks-told.result in let before = c.args.buffer.now in let after = c.tell_locks-told.new.buffer in
    subst (λ (o : Option Session). AreLocksTold o c.args.txn told before after) c.in-Some.ensures.taken
    (subst (λ (s : Session). HasLocks s.core.state c.args.txn told before after) c.deref.ensures c.tell_locks-told.ensures)
