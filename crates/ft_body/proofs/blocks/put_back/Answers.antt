use Rattle.std.proofs.Common.{◌≡◌, List, [], sym, subst, arith}
use Rattle.std.proofs.lemmas.Grind.{common_steps}
use Rattle.ft_body.specs.declared.blocks.Placed.{Placed}
use Rattle.ft_body.specs.Blocks.{Undoes}
use Rattle.ft_body.proofs.StepsBack.{undoes_less}
use Rattle.ft_body.proofs.blocks.put_back.Goals as goal

pub put_step_back-requires : goal.put_step_back-requires
put_step_back-requires c =
    (undoes_less c.pop.new.self.items c.in-Some.lost c.loop-lost.blocks.items c.loop-lost.invariant.0.0 (rw (← c.in-Some.ensures.items) c.loop-lost.invariant.0.1)).0

pub loop-lost-preserved : goal.loop-lost-preserved
loop-lost-preserved c =
    let step = λ (before : List Placed) (u : Undoes c.loop-lost.steps.items c.loop-lost.blocks.items before).
    let back : Undoes c.pop.new.self.items c.put_step_back.new.blocks.items before =
    rw c.put_step_back.ensures (undoes_less c.pop.new.self.items c.in-Some.lost c.loop-lost.blocks.items before (rw (← c.in-Some.ensures.items) u)).1 in back in
    ((c.loop-lost.invariant.0.0, step c.loop-lost.invariant.0.0 c.loop-lost.invariant.0.1), λ before u. step before (c.loop-lost.invariant.1 before u))

pub returns : goal.returns
returns c = λ before u.
    let none : c.loop-lost.steps.items ≡ [] = grind (arith, common_steps) in
    sym (subst (λ steps. Undoes steps c.loop-lost.blocks.items before) none (c.loop-lost.invariant.1 before u))
