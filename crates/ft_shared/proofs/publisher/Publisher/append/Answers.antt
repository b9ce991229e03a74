use Rattle.std.proofs.Common.{◌≡◌, ◌++◌, ◌∷◌, [], Option, Some, ap, sym, ◌∙◌, subst}
use Rattle.ft_posix.specs.declared.stamped.StampedCall.{StampedCall}
use Rattle.ft_shared.specs.Publishing.{Publishing, listed}
use Rattle.ft_shared.proofs.Feeding.{given_on}
use Rattle.ft_shared.proofs.publisher.Publisher.append.Goals as goal

pub invariant_of-self-in-Ok : goal.invariant_of-self-in-Ok
invariant_of-self-in-Ok g c =
    let old = c.self.inside in
    let call = c.in-Some.call in
    let held_is : old.held ≡ Some call = sym c.in-Some.ensures.value in
    let told_is : old.told.calls ≡ old.fed.calls ++ call ∷ [] =
    subst (λ (p : Publishing). p.told ≡ p.fed ++ listed p.held) (sym c.self.view_is) c.requires ∙ ap (λ (h : Option StampedCall). old.fed.calls ++ listed h) held_is in
    rw (c.again.ensures, c.in-Ok.ensures.desk, c.in-Some.ensures.after)
    (given_on g.J.ViewsBrand.opened g.J.ViewsBrand.shows old.book old.writer.desk.shown.value old.writer.behind c.append.new.self.behind old.writer.log.items c.append.new.self.log.items old.fed old.told old.held
    (record { call = call; front = c.again-front.result }) old.commits c.self.invariant held_is c.in-Ok.ensures.pending c.again-front.ensures told_is)
