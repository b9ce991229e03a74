use Rattle.ft_index.specs.Mix.{mix}
use Rattle.ft_index.proofs.mixing.mix.Goals as goal

pub returns : goal.returns
unfolding mix
returns c = c.folded_multiply.ensures
