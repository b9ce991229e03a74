use Rattle.ft_copy.proofs.Stopping.{reaches}
use Rattle.ft_copy.proofs.copying.copy.Goals as goal

pub returns-in-Err-clause-err : goal.returns-in-Err-clause-err
returns-in-Err-clause-err g c =
    let copied = c.copy_whole.new.target in
    (copied, reaches c.args.limits (g.S.Source.tells c.args.source.now) g.T.Target.does g.T.Target.fails c.in-Err.stopped c.args.target.now copied c.in-Err.ensures.err, c.give_up.ensures)
