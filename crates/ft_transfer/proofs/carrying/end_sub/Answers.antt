use Rattle.std.proofs.Common.{Ok, inl, refl, subst, sym}
use Rattle.ft_transfer.specs.Transfers.{EndsSub, Made}
use Rattle.ft_transfer.proofs.carrying.end_sub.Goals as goal

pub returns-in_ok-done-in-Ok : goal.returns-in_ok-done-in-Ok
returns-in_ok-done-in-Ok c =
    let new = c.done.new.core.state in
    subst (λ (made : Made). EndsSub c.args.sub c.args.core.now.state made (Ok c.in-Ok.last) new) (sym c.in-Ok.is) (inl (tt, new, c.in_ok-done-in-Ok.ensures, (refl, refl)))
