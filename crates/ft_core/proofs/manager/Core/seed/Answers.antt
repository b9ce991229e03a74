use Rattle.std.proofs.Common.{refl, sym, ap, subst, ◌∙◌}
use Rattle.ft_cells.specs.Cells.{Cells}
use Rattle.ft_lock_rules.specs.Locks.{LockTable}
use Rattle.ft_core.specs.Journals.{state_of}
use Rattle.ft_core.specs.Memos.{IsTrueOf}
use Rattle.ft_core.proofs.Asks.{core-unmade}
use Rattle.ft_core.proofs.Known.{call_laws, lock_laws}
use Rattle.ft_core.proofs.manager.Core.seed.Goals as goal

pub invariant_of-self : goal.invariant_of-self
invariant_of-self c = (
  (let i = c.self.inside in
      core-unmade call_laws lock_laws i.parts i.journal c.self.invariant.0 (record i.parts { tree = c.seed.new.self; locks = c.seed-2.new.self }) i.journal
      (record { forest = refl; cells = c.seed.ensures; locks = c.seed-2.ensures; listed = λ t. refl; open_still = λ t. refl }) refl),
  subst (λ (cells : Cells). IsTrueOf c.self.inside.memo cells c.seed-2.new.self) (sym c.seed.ensures) (subst (λ (table : LockTable). IsTrueOf c.self.inside.memo c.self.inside.parts.tree table) (sym c.seed-2.ensures) c.self.invariant.1),
)

pub returns : goal.returns
returns c = ap (λ (cells : Cells). record { state = state_of c.self.inside.parts.forest c.self.inside.journal; cells = cells }) c.seed.ensures ∙ c.self.view_is
