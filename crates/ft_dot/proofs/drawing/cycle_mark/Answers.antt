use Rattle.std.proofs.Common.{refl}
use Rattle.ft_dot.specs.Drawing.{cycle_mark}
use Rattle.ft_dot.proofs.drawing.cycle_mark.Goals as goal

pub returns : goal.returns
unfolding cycle_mark
returns c = refl
