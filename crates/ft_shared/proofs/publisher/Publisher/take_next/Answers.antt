use Rattle.ft_shared.proofs.Feeding.{not_taken}
use Rattle.ft_shared.proofs.publisher.Publisher.take_next.Goals as goal

pub invariant_of-self : goal.invariant_of-self
invariant_of-self g c =
    let old = c.self.inside in
    not_taken g.J.ViewsBrand.opened g.J.ViewsBrand.shows old.book old.writer.desk.shown.value old.writer.behind old.writer.log.items old.fed old.told old.held old.commits c.next.new.self
    c.self.invariant c.in_err-self-inside.ensures.err c.next.ensures.kept
