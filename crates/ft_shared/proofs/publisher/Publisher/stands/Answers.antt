use Rattle.std.proofs.Common.{subst}
use mathlib.Core.List.{IsPrefix}
use Rattle.ft_serial.specs.Serials.{committed_in}
use Rattle.ft_shared.specs.Publishing.{Publishing}
use Rattle.ft_shared.proofs.Feeding.{stands_by}
use Rattle.ft_shared.proofs.publisher.Publisher.stands.Goals as goal

pub returns : goal.returns
returns g c =
    let p = c.self.inside in
    subst (λ (v : Publishing). IsPrefix v.published (committed_in v.commits.events)) c.self.view_is
    (stands_by g.J.ViewsBrand.opened g.J.ViewsBrand.shows p.book p.writer.desk.shown.value p.writer.behind p.writer.log.items p.fed p.told p.held p.commits c.self.invariant)
