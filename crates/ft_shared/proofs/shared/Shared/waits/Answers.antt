use Rattle.std.proofs.Common.{List, sym, subst}
use Rattle.std.proofs.lemmas.Result.{IfOk-weaker}
use Rattle.ft_waits.specs.declared.edge.Edge.{Edge}
use Rattle.ft_waits.specs.Edges.{AreEdgesOf}
use Rattle.ft_shared.specs.Guarded.{OfCoreFrom}
use Rattle.ft_shared.proofs.shared.Shared.waits.Goals as goal

pub returns-clause-edges : goal.returns-clause-edges
returns-clause-edges g c =
    IfOk-weaker c.with_verdict.result _ _
    (λ told same. subst (λ (edges : List Edge). OfCoreFrom g.J.Sharing.origin.from (λ state. AreEdgesOf state edges)) (sym same) c.in_ok-edges.ensures)
    c.with_verdict.ensures.edges
