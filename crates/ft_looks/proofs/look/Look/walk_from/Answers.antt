use Rattle.std.proofs.Common.{◌∙◌, ap, Ok, Err}
use Rattle.ft_path.specs.declared.path.Parts.{Parts}
use Rattle.ft_looks.proofs.Resting.{leads_from}
use Rattle.ft_looks.proofs.look.Look.walk_from.Goals as goal

pub returns-in-Ok : goal.returns-in-Ok
returns-in-Ok c =
    leads_from c.args.self.now c.walk_from.new.reader c.args.follow c.args.start c.as_slice.result.now c.args.path.now.names c.in_ok-parts.parts.trailing c.args.path.now.trailing
    (c.as_slice.ensures ∙ ap (λ (p : Parts). p.names) c.in_ok-parts.ensures) (ap (λ (p : Parts). p.trailing) c.in_ok-parts.ensures)
    c.in_ok-spot.field-0 (Ok c.in-Ok.spot) c.in-Ok.is c.in_ok-spot.ensures.end c.in_ok-spot.ensures.noted

pub returns : goal.returns
returns c =
    leads_from c.args.self.now c.walk_from.new.reader c.args.follow c.args.start c.as_slice.result.now c.args.path.now.names c.in_ok-parts.parts.trailing c.args.path.now.trailing
    (c.as_slice.ensures ∙ ap (λ (p : Parts). p.names) c.in_ok-parts.ensures) (ap (λ (p : Parts). p.trailing) c.in_ok-parts.ensures)
    c.in_ok-spot.field-0 (Err c.in-Err.errno) c.in-Err.is c.in_ok-spot.ensures.end c.in_ok-spot.ensures.noted
