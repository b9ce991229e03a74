use Rattle.std.proofs.Common.{[], inl, refl}
use Rattle.ft_into.proofs.carrying.CarryingTarget.start.Goals as goal

pub returns-clause-ok : goal.returns-clause-ok
returns-clause-ok g c = record { removed = []; own = []; is_own = inl refl; did = refl; taken = refl; opened = refl; done = tt }
