use Rattle.std.proofs.Common.{refl}
use Rattle.std.proofs.lemmas.Result.{on_ok_weaker}
use Rattle.ft_into.proofs.Carried.{steps_done, tree_done}
use Rattle.ft_into.proofs.carrying.carry_out.Goals as goal

pub returns-clause-steps : goal.returns-clause-steps
returns-clause-steps g c =
    on_ok_weaker c.copy-copied.result (steps_done g.M.Maker.does c.args.limits (g.S.Source.tells c.args.tree.now) _ c.copy-copied.new.target) c.copy-copied.ensures.ok

pub returns-clause-tree : goal.returns-clause-tree
returns-clause-tree g c =
    on_ok_weaker c.copy-copied.result (tree_done g.M.Maker.does c.args.limits (g.S.Source.tells c.args.tree.now) _ c.copy-copied.new.target refl) c.copy-copied.ensures.ok
