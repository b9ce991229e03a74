use Rattle.std.proofs.Common.{ap, ◌∙◌}
use Rattle.std.proofs.lemmas.Result.{IfOk-weaker}
use Rattle.clap.specs.Simple.{app_of_fields}
use Rattle.ft_command.proofs.choice.named.Goals as goal

pub returns : goal.returns
returns c = IfOk-weaker c.bin_name.result _ _ (λ command h. ap app_of_fields h.0 ∙ c.bare.ensures) c.bin_name.ensures
