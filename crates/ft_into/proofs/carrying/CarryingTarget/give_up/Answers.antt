use Rattle.std.proofs.Common.{[], inl, refl}
use Rattle.ft_into.proofs.carrying.CarryingTarget.give_up.Goals as goal

pub returns : goal.returns
returns g c = record { removed = []; own = []; is_own = inl refl; did = (c.give_up.new.self, c.give_up.ensures, refl); taken = refl; opened = refl; done = tt }
