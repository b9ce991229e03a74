use Rattle.std.proofs.Common.{ap}
use Rattle.std.specs.FinMap as finite
use Rattle.ft_looks.specs.Notes.{with_notes}
use Rattle.ft_looks.proofs.access_set.AccessSet.new.Goals as goal

pub returns : goal.returns
returns c = ap (with_notes finite.empty) c.new.ensures.items
