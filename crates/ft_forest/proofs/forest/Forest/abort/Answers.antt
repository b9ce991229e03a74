use Rattle.std.proofs.Common.{refl}
use Rattle.ft_forest.proofs.Aborting.{not_started}
use Rattle.ft_forest.proofs.forest.Forest.abort.Goals as goal

pub loop-next-init : goal.loop-next-init
loop-next-init c = record {
  aborting = not_started c.args.self.now c.args.txn;
  last = λ other. absurd (other refl);
}
