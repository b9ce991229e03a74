use Rattle.ft_into.specs.Views.{seen}
use Rattle.ft_into.proofs.Allowed.{allowed}
use Rattle.ft_into.proofs.Whole.{compared}
use Rattle.ft_into.proofs.differences.compare.Goals as goal

pub returns-in-Ok-left_in-clause-steps : goal.returns-in-Ok-left_in-clause-steps
returns-in-Ok-left_in-clause-steps g c =
    compared (seen g.S.File.Read.remaining) (λ comparing. comparing.wishes) (λ comparing. comparing.disk.now) g.S.Source.tells c.args.wishes c.args.disk.now c.args.limits (g.T.Source.tells c.args.tree.now)
    _ c.copy.new.target c.in-Ok.ensures.seen c.in-Ok.ensures.wishes c.in-Ok.ensures.disk c.in_ok-copy.ensures.ok

pub returns-in-Ok-left_in-clause-allowed : goal.returns-in-Ok-left_in-clause-allowed
returns-in-Ok-left_in-clause-allowed g c =
    allowed (g.S.Source.tells c.args.disk.now) c.args.wishes c.args.limits (g.T.Source.tells c.args.tree.now) c.copy.new.target.steps.items.items
    (compared (seen g.S.File.Read.remaining) (λ comparing. comparing.wishes) (λ comparing. comparing.disk.now) g.S.Source.tells c.args.wishes c.args.disk.now c.args.limits (g.T.Source.tells c.args.tree.now)
    _ c.copy.new.target c.in-Ok.ensures.seen c.in-Ok.ensures.wishes c.in-Ok.ensures.disk c.in_ok-copy.ensures.ok)
