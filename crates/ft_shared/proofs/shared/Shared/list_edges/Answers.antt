use Rattle.std.proofs.Common.{sym, subst}
use Rattle.std.proofs.lemmas.Result.{IfOk-weaker}
use Rattle.ft_waits.specs.Edges.{AreEdgesOf}
use Rattle.ft_core.specs.States.{StoredState}
use Rattle.ft_shared.specs.Guarded.{OfCoreFrom, IsOfCoreFrom}
use Rattle.ft_shared.proofs.Staying.{some-core}
use Rattle.ft_shared.proofs.shared.Shared.list_edges.Goals as goal

pub returns : goal.returns
returns g c =
    let is = subst (λ (k : StoredState). IsOfCoreFrom g.J.Sharing.origin.from k.state) (sym c.core.ensures.core) c.core.ensures.from in
    IfOk-weaker c.edges-edges.result (λ edges. AreEdgesOf c.core.result.now.state edges.items) (λ edges. OfCoreFrom g.J.Sharing.origin.from (λ state. AreEdgesOf state edges.items))
    (λ edges listed. some-core (λ state. AreEdgesOf state edges.items) is listed) c.edges-edges.ensures
