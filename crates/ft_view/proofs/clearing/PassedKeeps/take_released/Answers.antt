use Rattle.ft_view.proofs.Cleared.{taken-has, taken-told}
use Rattle.ft_view.proofs.clearing.PassedKeeps.take_released.Goals as goal

pub returns-clause-cell : goal.returns-clause-cell
returns-clause-cell c = taken-has c.args.self.now.cell c.take.result c.take.ensures.value

pub returns-clause-taken : goal.returns-clause-taken
returns-clause-taken c = taken-told c.args.self.now.cell c.take.result c.take.new.self c.take.ensures.value c.take.ensures.after
