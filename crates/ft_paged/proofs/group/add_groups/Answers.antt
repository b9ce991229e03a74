use Rattle.std.proofs.Common.{◌≡◌, ◌++◌, replicate, arith, ap, ◌∙◌}
use Rattle.ft_paged.specs.Paged.{blank_group}
use Rattle.ft_paged.proofs.group.add_groups.Goals as goal

pub returns-clause-ok : goal.returns-clause-ok
returns-clause-ok g c =
    let most = c.loop.auto.counter-end in let least = c.loop-test.false in let ended : c.loop.counter ≡ c.args.count = omega arith in
    c.loop.invariant.made ∙ ap (λ n. c.args.groups.now.items ++ replicate n blank_group) ended
