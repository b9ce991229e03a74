use Rattle.std.proofs.Common.{subst, rules}
use Rattle.ft_into.specs.Makes as makes
use Rattle.ft_into.proofs.Carried.{removes_more}
use Rattle.ft_into.proofs.carrying.Carrying.remove_next.Goals as goal

pub loop-step-preserved : goal.loop-step-preserved
loop-step-preserved g c =
    let does = g.M.Maker.does in
    let step = c.in-Some.step.now in
    record {
      removed = removes_more does c.args.self.now.maker c.loop-step.self.maker c.remove.new.self c.args.self.now.rest.now c.loop-step.rest.now step c.in-Some.more.now c.loop-step.invariant.removed c.in-Some.ensures.cases.0
          (search rules) (subst (λ path. does c.loop-step.self.maker (makes.Remove step.thing path) c.remove.new.self) c.as_slice.ensures c.in_ok-remove.ensures);
      is_open = c.loop-step.invariant.is_open;
    }
