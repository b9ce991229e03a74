-- What a transaction waits for whose retry is not refused.
use Rattle.std.proofs.Common.{◌≡◌, ℕ, Option, Some, None, refl}
use Rattle.std.specs.FinMap as finite
use Rattle.ft_posix.specs.declared.call.Call.{Call}
use Rattle.ft_history.specs.History.{Fate}
use Rattle.ft_history.specs.History.Fate.{Live, Committed, Aborted}
use Rattle.ft_core.specs.declared.fault.Fault.{Fault}
use Rattle.ft_core.specs.declared.request.Request.TheVariants.{Retry}
use Rattle.ft_core.specs.States.{State, fate_of}
use Rattle.ft_core.specs.Steps.{fault_of_fate, fault_of_ask, refusal_of}

asked : (fate : Option Fate) (ask : Option Call) (later : Option Fault) → fault_of_fate fate (fault_of_ask ask later) ≡ None → (call : Call) × (ask ≡ Some call)
asked None ask later e = let none : ⊥ = cc in absurd none
asked (Some Live) None later e = let none : ⊥ = cc in absurd none
asked (Some Live) (Some call) later e = (call, refl)
asked (Some Committed) ask later e = let none : ⊥ = cc in absurd none
asked (Some Aborted) ask later e = let none : ⊥ = cc in absurd none

-- a transaction whose retry is not refused waits for a call
pub waiting : (s : State) (t : ℕ) → refusal_of s (Retry t) ≡ None → (call : Call) × (finite.get s.asks t ≡ Some call)
waiting s t e = asked (fate_of s t) (finite.get s.asks t) _ e
