use Rattle.std.proofs.Common.{List, sym, subst}
use mathlib.Core.List.{IsPrefix}
use Rattle.ft_posix.specs.declared.stamped.StampedCall.{StampedCall}
use Rattle.ft_core.specs.declared.request.Event.{Event}
use Rattle.ft_serial.specs.Serials.{committed_in}
use Rattle.ft_shared.proofs.Feeding.{not_taken}
use Rattle.ft_shared.proofs.publisher.Publisher.forget.Goals as goal

pub invariant_of-self : goal.invariant_of-self
invariant_of-self g c =
    let old = c.self.inside in
    let new = c.forget.new.self in
    not_taken g.J.ViewsBrand.opened g.J.ViewsBrand.shows old.book old.writer.desk.shown.value old.writer.behind old.writer.log.items old.fed old.told old.held old.commits new
    c.self.invariant c.forget.ensures.given
    (subst (λ (es : List Event). IsPrefix new.given (committed_in es)) (sym c.forget.ensures.events)
    (subst (λ (calls : List StampedCall). IsPrefix calls (committed_in old.commits.events)) (sym c.forget.ensures.given) c.self.invariant.stands))
