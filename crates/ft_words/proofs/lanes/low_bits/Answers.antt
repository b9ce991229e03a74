use Rattle.std.proofs.Common.{leb}
use Rattle.ft_words.proofs.SixteenBytes.{marked_by}
use Rattle.ft_words.proofs.lanes.low_bits.Goals as goal

pub returns : goal.returns
returns c k below is = marked_by leb c.args.lanes 32 k c.fits-lanes.0 below is
