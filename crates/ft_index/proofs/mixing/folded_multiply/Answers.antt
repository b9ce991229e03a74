use Rattle.std.proofs.Common.{refl}
use Rattle.ft_index.specs.Mix.{folded}
use Rattle.ft_index.proofs.mixing.folded_multiply.Goals as goal

pub returns : goal.returns
unfolding folded
returns c = refl
