use Rattle.std.proofs.Common.{◌/◌, arith}
use Rattle.ft_body.proofs.Made.{hole_is_zeros}
use Rattle.ft_body.proofs.body.Body.pages.Goals as goal

pub returns-clause-holes : goal.returns-clause-holes
returns-clause-holes c = λ k h. hole_is_zeros c.args.self.now (k / 4096) k h (omega arith) (omega arith)
