use Rattle.std.proofs.Common.{subst, IfSome}
use mathlib.Core.List.{IsPrefix}
use Rattle.ft_core.specs.Reached.{IsReached}
use Rattle.ft_serial.specs.Serials.{committed_calls}
use Rattle.ft_shared.specs.Publishing.{Backed, Calls}
use Rattle.ft_shared.proofs.Staying.{stands-on}
use Rattle.ft_shared.proofs.guarded.Guarded.stands.Goals as goal

pub returns-in-Some-clause-published : goal.returns-in-Some-clause-published
returns-in-Some-clause-published g c =
    subst (λ (b : Backed). IfSome b.published (λ (calls : Calls). IsPrefix calls (committed_calls b.core.state))) c.self.view_is
    (stands-on g.J.Sharing.origin.shown (g.C.Shareable.stored c.self.inside.core) (g.C.Shareable.forgotten c.self.inside.core) c.self.inside.publisher c.in-Some.publisher c.in-Some.is (subst IsReached c.core.ensures c.reached.ensures) c.self.invariant.views c.stands.ensures)
