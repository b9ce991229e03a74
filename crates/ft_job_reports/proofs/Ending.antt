-- What a core tells of a transaction, as its fate.
use Rattle.std.proofs.Common.{◌≡◌, Bool, true, false, cond, not, Option, Some, None, refl, subst}
use Rattle.std.specs.Prelude.{◌↔◌, IsTrue}
use Rattle.ft_forest.specs.declared.state.State.{State as Life}
use Rattle.ft_forest.specs.declared.state.State.TheVariants.{Live as LiveState, Committed as CommittedState, Aborted as AbortedState}
use Rattle.ft_history.specs.History.{Fate}
use Rattle.ft_history.specs.History.Fate.{Committed as WasCommitted, Aborted as WasAborted}
use Rattle.ft_core.specs.States.{fate_in}

-- whether it has ended so
abbrev pub has_ended_as : Option Life → Bool → Bool
has_ended_as (Some CommittedState) committed = committed
has_ended_as (Some AbortedState) committed = not committed
has_ended_as (Some LiveState) committed = false
has_ended_as None committed = false

pub ended_is : (o : Option Life) (fate : Option Fate) (committed : Bool) → fate_in o ≡ fate → IsTrue (has_ended_as o committed) ↔ (fate ≡ Some (cond committed WasCommitted WasAborted))
ended_is o fate committed is = subst (λ f. IsTrue (has_ended_as o committed) ↔ (f ≡ Some (cond committed WasCommitted WasAborted))) is (by_cases o committed)
  where
    by_cases : (o : Option Life) (committed : Bool) → IsTrue (has_ended_as o committed) ↔ (fate_in o ≡ Some (cond committed WasCommitted WasAborted))
    by_cases (Some CommittedState) true = (λ h. refl, λ h. refl)
    by_cases (Some CommittedState) false = (λ h. absurd (cc), λ h. absurd (cc))
    by_cases (Some AbortedState) true = (λ h. absurd (cc), λ h. absurd (cc))
    by_cases (Some AbortedState) false = (λ h. refl, λ h. refl)
    by_cases (Some LiveState) true = (λ h. absurd (cc), λ h. absurd (cc))
    by_cases (Some LiveState) false = (λ h. absurd (cc), λ h. absurd (cc))
    by_cases None true = (λ h. absurd (cc), λ h. absurd (cc))
    by_cases None false = (λ h. absurd (cc), λ h. absurd (cc))
