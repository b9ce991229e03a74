use Rattle.std.proofs.Common.{eqb}
use Rattle.ft_words.proofs.SixteenBytes.{marked_by}
use Rattle.ft_words.proofs.lanes.percent_bits.Goals as goal

pub returns : goal.returns
returns c k below is = marked_by eqb c.args.lanes 37 k c.fits-lanes.0 below is
