use Rattle.std.proofs.Common.{refl, sym, subst}
use Rattle.std.specs.FinMap as finite
use Rattle.ft_core.specs.Journals.{Journaled, state_of}
use Rattle.ft_core.specs.Kept.{IsCoreOf}
use Rattle.ft_core.proofs.Cores.{core-asks, dropped}
use Rattle.ft_core.proofs.manager.Core.drop_ask.Goals as goal

pub invariant_of-self : goal.invariant_of-self
invariant_of-self c = (
  (let i = c.self.inside in
      let asks = finite.remove i.journal.asks c.args.txn in
      subst (λ (j : Journaled). IsCoreOf (state_of i.parts.forest j) i.parts j) (sym c.drop_ask.ensures)
      (core-asks c.self.invariant.0 asks (dropped c.self.invariant.0 c.args.txn) (record i.journal { asks = asks }) refl refl refl)),
  c.self.invariant.1,
)
