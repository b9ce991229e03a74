use Rattle.std.proofs.Common.{sym, subst, refl}
use Rattle.ft_body.specs.Blocks.{Undoes}
use Rattle.ft_body.proofs.spread.write.Goals as goal

pub returns-in-Err-clause-err : goal.returns-in-Err-clause-err
returns-in-Err-clause-err c =
    c.put_back.ensures c.args.blocks.now.items
    (c.in-Err.ensures.lost c.args.blocks.now.items (subst (λ steps. Undoes steps c.args.blocks.now.items c.args.blocks.now.items) (sym c.new-steps.ensures.items) refl))
