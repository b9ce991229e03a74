-- The end of the lists if the newest value of one is lent to be written.
use Rattle.std.specs.Prelude.{ℕ, ◌∷◌, drop, Option}
use Rattle.std.specs.Borrow.{LendsIf, MutBor, Fml, RattleType}
use Rattle.std.specs.FinMap as finite
use Rattle.ft_owned_lists.specs.OwnedLists.{Lists, list_in}
use Rattle.ft_owned_lists.specs.contracts.owned_lists.OwnedLists.{the_row}

-- the owner's list ends with the last value of r as its newest; if nothing is lent, no list changes
-- (as Rust's `slice::first_mut`)
abbrev pub LendsFirst : (T : RattleType) → MutBor (Lists T.Denot) → ℕ → Option (MutBor T.Denot) → Fml
LendsFirst T lists owner r = LendsIf (the_row T) T lists r (λ value. finite.insert lists.now owner (value ∷ drop 1 (list_in lists.now owner))) lists.now
