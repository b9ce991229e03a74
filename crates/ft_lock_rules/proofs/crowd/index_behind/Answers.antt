use Rattle.std.proofs.Common.{subst}
use Rattle.ft_lock_rules.specs.CellLocks.{IsIndexIf}
use Rattle.ft_lock_rules.proofs.HolderReaders.{index_push}
use Rattle.ft_lock_rules.proofs.crowd.index_behind.Goals as goal

pub returns-in_ok-put-clause-ok : goal.returns-in_ok-put-clause-ok
returns-in_ok-put-clause-ok c =
    index_push c.in-Some.index c.put.new.self c.args.list.now c.args.holding (subst (λ x. IsIndexIf x c.args.list.now) c.in-Some.is c.begin_index.ensures) c.requires.absent
    c.in_ok-put.ensures.places c.in_ok-put.ensures.later c.in_ok-put.ensures.writer
