use Rattle.std.proofs.Common.{leb}
use Rattle.ft_words.proofs.SixteenBytes.{marked_from}
use Rattle.ft_words.proofs.lanes.high_bits.Goals as goal

pub returns : goal.returns
returns c k below is = marked_from leb 127 c.args.lanes k c.fits-lanes.0 below is
