use Rattle.std.proofs.Common.{◌≡◌, ap, ◌∙◌}
use Rattle.ft_posix.specs.Exec.{exec}
use Rattle.ft_tree.specs.Tidy.{tidy}
use Rattle.ft_view.specs.Shown.{Shown}
use Rattle.ft_view.proofs.view.ViewAbsorbPublished.absorb_first.Goals as goal

pub invariant_of-self-2 : goal.invariant_of-self-2
invariant_of-self-2 c = c.make.ensures.readable

pub returns-clause-absorbed : goal.returns-clause-absorbed
returns-clause-absorbed c =
    let call = c.args.operation.now.call in
    let tree : tidy c.make.new.tree ≡ (exec c.args.self.now.tree call.stamp call.call).0 = c.in-Ok.ensures.made ∙ ap (λ (s : Shown). (exec s.tree call.stamp call.call).0) c.self.view_is in
    λ i. record { tree = tree i; front = c.again.ensures i }
