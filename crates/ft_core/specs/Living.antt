-- Whether some transaction is live.
use Rattle.std.specs.Prelude.{◌≡◌, ℕ, Some}
use Rattle.ft_history.specs.History.Fate.{Live}
use Rattle.ft_core.specs.States.{State, fate_of}

-- some transaction is live (Moss)
abbrev pub SomeIsLive : State → Type 0
SomeIsLive s = (t : ℕ) × (fate_of s t ≡ Some Live)

-- none is
abbrev pub NoneIsLive : State → Type 0
NoneIsLive s = ¬ SomeIsLive s
