use Rattle.std.proofs.Common.{List, [], ◌∷◌, ◌++◌, refl, sym, ap, subst, ◌∙◌}
use Rattle.ft_into.specs.declared.step.Step.{Step}
use Rattle.ft_into.specs.Removes.{TakesAll, removal}
use Rattle.ft_into.proofs.Removed.{takes_more}
use Rattle.ft_into.proofs.gone.add_removals.Goals as goal

pub loop-turns-preserved : goal.loop-turns-preserved
loop-turns-preserved g c =
    let tells = g.S.Source.tells c.args.disk.now in
    let here = c.in_ok-found.ensures in
    let step = removal c.in-Some.place c.in_ok-found.found in
    let pushed = c.in_ok-push-2.ensures.items ∙ ap (λ (s : Step). c.loop-turns.removals.items ++ s ∷ []) c.removal_of.ensures in
    record {
      taken = subst (λ (steps : List Step). TakesAll tells (c.args.place ∷ []) steps c.look_into.new.left.items) (sym pushed)
          (takes_more tells (c.args.place ∷ []) c.loop-turns.removals.items c.loop-turns.left.items step c.look_into.new.left.items c.loop-turns.invariant.taken
          (c.pop.new.self.items, c.in-Some.place, c.in_ok-found.found, here.0, c.in-Some.ensures.items, here.1, here.2, refl, here.3));
      steps = c.loop-turns.invariant.steps;
    }
