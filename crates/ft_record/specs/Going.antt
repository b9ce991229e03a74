-- How a state goes on from another one.
use Rattle.std.specs.Prelude.{◌≡◌}
use mathlib.Core.List.{IsPrefix}
use Rattle.ft_core.specs.States.{State}

-- The base, the rule and the limits are the same, and the earlier events come first among the
-- events. This holds after all requests except a checkpoint.
pub record GoesOn (from s : State) : Type 0 where
  pub base : s.base ≡ from.base
  pub rule : s.rule ≡ from.rule
  pub limits : s.limits ≡ from.limits
  pub events : IsPrefix from.events s.events
