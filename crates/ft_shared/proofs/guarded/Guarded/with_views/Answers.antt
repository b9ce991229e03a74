use Rattle.std.proofs.Common.{◌≡◌, [], All, rules, subst, sym}
use Rattle.std.proofs.lemmas.List.Elements.{All-nil}
use Rattle.ft_core.specs.Reached.{IsReached}
use Rattle.ft_shared.specs.Victims.{WasVictim}
use Rattle.ft_shared.proofs.Staying.{goes_from, of-reached}
use Rattle.ft_shared.proofs.guarded.Guarded.with_views.Goals as goal

pub invariant_of-result : goal.invariant_of-result
invariant_of-result g c =
    let core = g.C.Shareable.stored c.args.core in
    let none : c.new.result.items ≡ [] = search rules in
    record {
      from = record { of_core = of-reached core (subst IsReached c.core.ensures c.alloc.ensures); goes_on = goes_from g.J.Sharing.origin core.state c.requires.from };
      views = (c.requires.shown, c.requires.publisher);
      victims_are = subst (All (WasVictim core.state)) (sym none) (All-nil (WasVictim core.state));
    }
