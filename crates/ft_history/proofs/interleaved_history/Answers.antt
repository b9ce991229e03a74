use Rattle.std.proofs.Common.{refl}
use Rattle.ft_history.proofs.Example.{interleaved_legal}
use Rattle.ft_history.proofs.interleaved_history.Goals as goal

pub returns : goal.returns
returns c = record { legal = interleaved_legal; standing = refl; made = refl; undone = refl; aborted = refl; left = refl }
