use Rattle.std.proofs.Common.{sym, subst}
use Rattle.ft_shared.specs.Publishing.{Publishing}
use Rattle.ft_shared.proofs.Feeding.{may_be_shown, shown_on}
use Rattle.ft_shared.proofs.publisher.Publisher.show.Goals as goal

pub replace_with-requires : goal.replace_with-requires
replace_with-requires g c =
    let old = c.self.inside in
    may_be_shown g.J.ViewsBrand.opened g.J.ViewsBrand.shows old.book old.writer.desk.shown.value old.writer.behind old.writer.log.items old.fed old.told old.held old.commits c.self.invariant
    (subst (λ (p : Publishing). g.J.ViewsBrand.shows p.fed) (sym c.self.view_is) c.requires)

pub invariant_of-self : goal.invariant_of-self
invariant_of-self g c =
    let old = c.self.inside in
    let new = c.replace_with.new.dest in
    let whole = may_be_shown g.J.ViewsBrand.opened g.J.ViewsBrand.shows old.book old.writer.desk.shown.value old.writer.behind old.writer.log.items old.fed old.told old.held old.commits c.self.invariant
    (subst (λ (p : Publishing). g.J.ViewsBrand.shows p.fed) (sym c.self.view_is) c.requires) in
    shown_on g.J.ViewsBrand.opened g.J.ViewsBrand.shows old.book old.writer.desk.shown.value new.desk.shown.value old.writer.behind new.behind old.writer.log.items new.log.items old.fed old.told old.held old.commits c.replace_with.result c.self.invariant whole c.replace_with.ensures
