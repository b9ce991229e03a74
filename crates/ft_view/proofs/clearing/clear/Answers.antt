use Rattle.std.proofs.Common.{List, refl, sym, subst, ◌∙◌}
use Rattle.std.specs.Vec.Iter.{into_iter_items}
use Rattle.ft_posix.specs.declared.call.Access.{Access}
use Rattle.ft_view.proofs.Cleared.{IsLeft, left-first, left-next, left-last, no_more, swept-free}
use Rattle.ft_view.proofs.clearing.clear.Goals as goal

pub loop-access-init : goal.loop-access-init
loop-access-init c = record {
  same = refl;
  left = subst (λ (rest : List Access). IsLeft c.args.accesses.items rest c.args.tree.now c.args.tree.now) (sym c.into_iter-access-iterator.ensures.into_iter_gives.0) (left-first c.args.accesses.items c.args.tree.now);
  sound = λ s. s;
  free = λ k f. f;
}

pub loop-access-preserved : goal.loop-access-preserved
loop-access-preserved c =
    let was = c.loop-access.invariant in
    let swept = c.sweep.ensures in
    record {
      same = swept.tidy ∙ was.same;
      left = left-next c.args.accesses.items (into_iter_items c.next.new.self) c.in-Some.access c.args.tree.now c.loop-access.tree c.sweep.new.self
          (subst (λ (rest : List Access). IsLeft c.args.accesses.items rest c.args.tree.now c.loop-access.tree) c.in-Some.ensures.steps.0 was.left) swept.clean;
      sound = λ s. swept.sound (was.sound s);
      free = λ k f. swept-free _ _ _ swept.swept k (was.free k f);
    }

pub returns-clause-tidy : goal.returns-clause-tidy
returns-clause-tidy c = c.loop-access.invariant.same

pub returns-clause-dropped : goal.returns-clause-dropped
returns-clause-dropped c =
    let rest = c.loop-access.access-iterator.rest in
    left-last c.args.accesses.items c.args.tree.now c.loop-access.tree
    (subst (λ (rest : List Access). IsLeft c.args.accesses.items rest c.args.tree.now c.loop-access.tree) (no_more rest.len rest.items rest.ok.0 c.in-None.ensures.steps.0) c.loop-access.invariant.left)

pub returns-clause-sound : goal.returns-clause-sound
returns-clause-sound c = c.loop-access.invariant.sound

pub returns-clause-free : goal.returns-clause-free
returns-clause-free c = c.loop-access.invariant.free
