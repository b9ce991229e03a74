use Rattle.ft_names.specs.Names.{names_of}
use Rattle.ft_strict.proofs.Answering.{same_moment}
use Rattle.ft_strict.proofs.Refused.{wanting_stays}
use Rattle.ft_strict.proofs.well.try_execute.Goals as goal

pub returns-then-wants_memory-clause-err : goal.returns-then-wants_memory-clause-err
returns-then-wants_memory-clause-err c =
    let old = c.args.core.now.state in
    let new = c.execute-answer.new.core.state in
    same_moment old new (names_of c.args.names.now) (names_of c.reserve.new.self)
    (wanting_stays old new c.args.request c.execute-answer.result c.execute-answer.ensures (c.wants_memory.ensures.0 c.if-wants_memory.true)) c.reserve.ensures.same
