use Rattle.std.proofs.Common.{ap}
use Rattle.ft_path.specs.declared.path.Parts.{Parts}
use Rattle.ft_path.proofs.Fronting.{slash_ends}
use Rattle.ft_path.proofs.judged.JudgedPath.as_bytes.Goals as goal

pub returns-clause-slash : goal.returns-clause-slash
returns-clause-slash c = slash_ends c.self.inside.bytes.now c.args.self.now.trailing (ap (λ (p : Parts). p.trailing) c.self.view_is)
