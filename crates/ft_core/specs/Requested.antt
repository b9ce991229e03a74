-- The outcome of a call that is requested now, or that its asker waits for already.
use Rattle.std.specs.Prelude.{◌≡◌, ℕ, Option, Some, List}
use Rattle.std.specs.FinMap as finite
use Rattle.ft_posix.specs.declared.call.Call.{Call}
use Rattle.ft_core.specs.declared.fairness.Behind.{Behind}
use Rattle.ft_core.specs.declared.request.Outcome.{Outcome}
use Rattle.ft_core.specs.declared.request.FullOutcome.{FullOutcome}
use Rattle.ft_core.specs.Fairness.{holders_of}
use Rattle.ft_core.specs.FullOutcomes.{IsToldInFull, full_answer}
use Rattle.ft_core.specs.Journals.{asked_for}
use Rattle.ft_core.specs.States.{State, after_wait}
use Rattle.ft_core.specs.Steps.{BlockingRule, IsAsked, exact_rule, outcome_answer}

-- the call that t requests now or, without one, waits for is granted, or t waits for it
abbrev pub IsRequested : BlockingRule → State → State → ℕ → Option Call → Outcome → Type 0
IsRequested rule old new t asked outcome = (call : Call) × (asked_for asked (finite.get old.asks t) ≡ Some call) × IsAsked rule old t call (outcome_answer outcome) new

-- so it is by the rule of the state, with all that was made of the call
abbrev pub IsRequestedInFull : State → State → ℕ → Option Call → FullOutcome → Type 0
IsRequestedInFull old new t asked outcome = (call : Call) × (asked_for asked (finite.get old.asks t) ≡ Some call) × IsAsked exact_rule old t call (full_answer outcome) new × IsToldInFull old call outcome

-- t waits for the call that it requests now or, without one, for the same as before
abbrev pub WaitsFor : State → State → ℕ → Option Call → Type 0
WaitsFor old new t asked = (call : Call) → asked_for asked (finite.get old.asks t) ≡ Some call → new ≡ after_wait old t call

-- those of the transactions that wait, each with its call, that hold this one back
abbrev pub holders_among : State → Behind → List (ℕ × Call) → List ℕ
holders_among s behind asks = holders_of behind.ahead.now s behind.txn behind.touched.now asks
