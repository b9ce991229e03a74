use Rattle.std.proofs.Common.{Some, sym, ap, ◌∙◌}
use Rattle.ft_shared.specs.Origins.{Origin}
use Rattle.ft_shared.specs.Opening.{Opening}
use Rattle.ft_shared.proofs.Feeding.{nothing-first}
use Rattle.ft_shared.proofs.opened.Opened.named.Goals as goal

pub with_views-requires : goal.with_views-requires
with_views-requires g c =
    let core = (g.C.Shareable.stored c.self.inside.core).state in
    let made = c.in-Ok.publisher in record {
      from = sym (ap (λ (o : Opening). o.core.state) c.self.view_is ∙ ap (λ (o : Origin). o.from) c.requires);
      shown = sym (ap (λ (o : Origin). o.shown) c.requires);
      publisher = record {
        passed = nothing-first core.events made.commits.events c.in-Ok.ensures.passed;
        forgotten_is = c.self.invariant.0 ∙ ap Some (sym c.in-Ok.ensures.forgotten);
      };
    }
