use Rattle.std.proofs.Common.{sym, ap, subst, ◌∙◌}
use Rattle.std.specs.FinMap as finite
use Rattle.ft_waits.specs.declared.walk.Step.{Step}
use Rattle.ft_waits.specs.Walk.{Ranks, KeepsRanks, IsWalk}
use Rattle.ft_waits.proofs.Walks.{walk-rank, rank-keeps}
use Rattle.ft_waits.proofs.walk.Walk.leave.Goals as goal

pub returns-clause-stands : goal.returns-clause-stands
returns-clause-stands c =
    let walk = c.args.self.now in
    let put = c.in_ok-insert.ensures.ok ∙ ap (λ (s : Step). finite.insert walk.ranks s.txn s.rank) c.top.view_is in
    subst (λ (ranks : Ranks). IsWalk walk.edges.now walk.unseen ranks walk.path.items) (sym put) (walk-rank walk.edges.now walk.unseen walk.ranks walk.path.items c.args.top c.requires.stands c.requires.done)

pub returns-clause-keeps : goal.returns-clause-keeps
returns-clause-keeps c =
    let walk = c.args.self.now in
    let put = c.in_ok-insert.ensures.ok ∙ ap (λ (s : Step). finite.insert walk.ranks s.txn s.rank) c.top.view_is in
    subst (λ (ranks : Ranks). KeepsRanks walk.ranks ranks) (sym put) (rank-keeps walk.edges.now walk.unseen walk.ranks walk.path.items c.args.top c.requires.stands c.requires.done)
