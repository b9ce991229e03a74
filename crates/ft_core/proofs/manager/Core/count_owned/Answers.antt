use Rattle.std.proofs.Common.{◌<◌, ◌^◌, ◌∙◌, ℕ, ap, sym, subst, length, arith}
use Rattle.ft_owned_lists.specs.OwnedLists.{list_in}
use Rattle.ft_core.specs.States.{State, count_owned}
use Rattle.ft_core.proofs.Gathered.{state-is}
use Rattle.ft_core.proofs.Known.{call_laws}
use Rattle.ft_core.proofs.Tallies.{owned-is, few-owned}
use Rattle.ft_core.proofs.manager.Core.count_owned.Goals as goal

pub len-requires : goal.len-requires
len-requires c =
    let few = few-owned call_laws c.self.invariant.0 c.args.txn in
    let within = c.self.invariant.0.kept.started.within in
    record { few = subst (λ (n : ℕ). length (list_in c.self.inside.parts.logs n) < 2 ^ 64) (sym c.txn.view_is) (omega arith) }

pub returns : goal.returns
returns c =
    c.len.ensures.count ∙ ap (λ (n : ℕ). length (list_in c.self.inside.parts.logs n)) c.txn.view_is
    ∙ owned-is call_laws c.self.invariant.0 c.args.txn ∙ ap (λ (q : State). count_owned q c.args.txn) (state-is c.self.view_is)
