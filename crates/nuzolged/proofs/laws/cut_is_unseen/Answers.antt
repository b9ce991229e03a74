use Rattle.nuzolged.proofs.CutLaws.{cut_law}
use Rattle.nuzolged.proofs.laws.cut_is_unseen.Goals as goal

pub returns : goal.returns
returns c = cut_law
