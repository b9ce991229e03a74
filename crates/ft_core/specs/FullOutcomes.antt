-- The outcome of a call that was requested, with all that was made of it.
use Rattle.std.specs.Prelude.{◌≡◌, ℕ, Bool, cond, Some, None}
use Rattle.std.specs.FinMap as finite
use Rattle.ft_posix.specs.declared.call.Call.{Call}
use Rattle.ft_core.specs.declared.parts.Made.{Made}
use Rattle.ft_core.specs.declared.parts.Tried.{Tried}
use Rattle.ft_core.specs.declared.parts.Tried.TheVariants.{Made as WasMade, Blocked}
use Rattle.ft_core.specs.declared.request.Outcome.{Outcome}
use Rattle.ft_core.specs.declared.request.Outcome.TheVariants as outcome
use Rattle.ft_core.specs.declared.request.FullOutcome.{FullOutcome}
use Rattle.ft_core.specs.declared.request.FullOutcome.TheVariants as full
use Rattle.ft_core.specs.declared.request.Answer.{Answer}
use Rattle.ft_core.specs.Steps.{outcome_answer}
use Rattle.ft_core.specs.States.{State, accesses_now}

-- the outcome that its asker gets
abbrev pub outcome_of : FullOutcome → Outcome
outcome_of (full.Granted k call reply kept accesses) = outcome.Granted k reply
outcome_of (full.Waits blockers) = outcome.Waits blockers

-- as an answer
abbrev pub full_answer : FullOutcome → Answer
full_answer w = outcome_answer (outcome_of w)

-- if it was made: the call, a copy of its reply, and its accesses on the tree of the state
abbrev pub IsToldInFull : State → Call → FullOutcome → Type 0
IsToldInFull s call (full.Granted k made reply kept accesses) = (made ≡ call) × (kept ≡ Some reply) × (accesses.items ≡ accesses_now s call)
IsToldInFull s call (full.Waits blockers) = Unit {0}

-- all that was made of the call that t waits for
abbrev pub IsPendingToldInFull : State → ℕ → FullOutcome → Type 0
IsPendingToldInFull s t outcome = (call : Call) × (finite.get s.asks t ≡ Some call) × IsToldInFull s call outcome

-- the reply of a call that was tried and made, a second time if that was wanted
abbrev pub IsTwice : Bool → Made → Tried → Type 0
IsTwice twice made WasMade = made.kept ≡ cond twice (Some made.reply) None
IsTwice twice made (Blocked blockers) = Unit {0}
