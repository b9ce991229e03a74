use Rattle.std.proofs.Common.{◌≡◌, ◌∙◌, ◌==◌, ◌||◌, false, sym, ap}
use Rattle.std.specs.Cmp.{nat_eq_equiv}
use Rattle.ft_history.specs.Forest.{above}
use Rattle.ft_history.proofs.Forest.{above_child}
use Rattle.ft_forest.specs.Transactions.{parent_in}
use Rattle.ft_forest.proofs.forest.Forest.is_below.Goals as goal

pub loop-parent-preserved : goal.loop-parent-preserved
loop-parent-preserved c =
    let other : (c.args.upper == c.loop-parent.at) ≡ false = nat_eq_equiv.symm c.args.upper c.loop-parent.at ∙ sym c.eq.ensures ∙ c.if-eq.false in
    c.loop-parent.invariant
    ∙ above_child (parent_in c.args.self.now) c.in-Some.ensures.forest c.args.upper c.loop-parent.at c.in-Some.parent (sym c.in-Some.ensures.parent)
    ∙ ap (λ b. b || above (parent_in c.args.self.now) c.args.upper c.in-Some.parent) other
