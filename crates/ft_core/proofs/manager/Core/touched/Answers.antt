use Rattle.std.proofs.Common.{◌≡◌, ◌∙◌, ap, subst}
use Rattle.ft_posix.specs.Accesses.{accesses_of}
use Rattle.ft_undo.proofs.Fresh.{no_bytes}
use Rattle.ft_core.specs.States.{accesses_now}
use Rattle.ft_core.proofs.Asks.{next-free, touched-now}
use Rattle.ft_core.proofs.Gathered.{state-is}
use Rattle.ft_core.proofs.Known.{call_laws, lock_laws}
use Rattle.ft_core.proofs.manager.Core.touched.Goals as goal

pub accesses-requires : goal.accesses-requires
accesses-requires c = no_bytes (next-free call_laws lock_laws c.self.inside.parts c.self.inside.journal c.self.invariant.0 c.next_stamp-stamp.result c.next_stamp-stamp.ensures)

pub returns : goal.returns
returns c =
    let i = c.self.inside in
    let call = c.args.call.now in
    subst (λ s. c.in_ok-touched.touched.items ≡ accesses_now s call) (state-is c.self.view_is)
    (c.in_ok-touched.ensures ∙ ap (λ n. accesses_of i.parts.tree n call) c.next_stamp-stamp.ensures ∙ touched-now call_laws lock_laws i.parts i.journal c.self.invariant.0 call)
