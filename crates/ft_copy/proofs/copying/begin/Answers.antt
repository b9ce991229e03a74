use Rattle.std.proofs.Common.{[], ◌∷◌}
use Rattle.ft_copy.specs.Asked.{Start}
use Rattle.ft_copy.specs.Stops.{IsCauseAtRoot}
use Rattle.ft_copy.proofs.Doing.{does_one}
use Rattle.ft_copy.proofs.Stopping.{at_fault, root_unread, stops_after, stops_nothing}
use Rattle.ft_copy.proofs.copying.begin.Goals as goal

pub returns-in_err-enter-clause-err : goal.returns-in_err-enter-clause-err
returns-in_err-enter-clause-err g c =
    let does = g.T.Target.does in
    let fails = g.T.Target.fails in
    let tells = g.S.Source.tells c.args.source.now in
    let target = c.start.new.self in
    let old = c.args.target.now in
    let begun = does_one does old target Start c.in_ok-start.ensures.ok in
    at_fault c.from_residual-in_err-enter.result c.from_residual-in_err-enter.ensures.1
    (λ t is. stops_after does fails (IsCauseAtRoot tells t) t (Start ∷ []) [] old target target begun (stops_nothing does fails (IsCauseAtRoot tells t) t [] target
    (root_unread tells c.in_ok-top.top c.as_slice.result.now t _ c.as_slice.ensures is c.in_ok-top.ensures.ok c.in_err-enter.ensures.err)))
