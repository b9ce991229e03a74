-- A call that is asked for now, as a step.
use Rattle.std.proofs.Common.{◌≡◌, ℕ, Bool, true, false, Option, Some, None, Result, Ok, Err, IfOk, IfErr, IsErrAnd, OnErr, refl, sym, subst}
use Rattle.ft_posix.specs.declared.call.Call.{Call}
use Rattle.ft_history.specs.History.{Fate}
use Rattle.ft_history.specs.History.Fate.{Live, Committed as WasCommitted, Aborted as WasAborted}
use Rattle.ft_core.specs.declared.fault.Fault.{Fault}
use Rattle.ft_core.specs.declared.fault.Fault.TheVariants.{Memory, Full}
use Rattle.ft_core.specs.declared.request.Answer.TheVariants.{Refused}
use Rattle.ft_core.specs.declared.request.Outcome.{Outcome}
use Rattle.ft_core.specs.declared.request.Outcome.TheVariants.{Granted as GrantedOutcome, Waits as WaitsOutcome}
use Rattle.ft_core.specs.declared.request.FullOutcome.{FullOutcome}
use Rattle.ft_core.specs.declared.request.FullOutcome.TheVariants as full
use Rattle.ft_core.specs.FullOutcomes.{IsToldInFull, full_answer, IsPendingToldInFull}
use Rattle.ft_core.specs.declared.request.Request.TheVariants.{Ask}
use Rattle.ft_core.specs.States.{State, fate_of, has_most_calls}
use Rattle.ft_core.specs.Steps.{IsStep, IsAsked, IsAnswered, exact_rule, answer_with, outcome_answer, fault_if, fault_of_fate, refusal_of}
use Rattle.ft_core.proofs.Ended.{step-allowed}
use Rattle.ft_core.specs.Requested.{IsRequested, IsRequestedInFull}

-- where nothing refuses a call, its asker is live, and there may be one call more
pub may-ask : (s : State) (t : ℕ) (call : Call) → refusal_of s (Ask t call) ≡ None → (fate_of s t ≡ Some Live) × (has_most_calls s ≡ false)
may-ask s t call fine = by_fate (fate_of s t) (has_most_calls s) fine
  where
    refuses : {x : Fault} → Some x ≡ None → ⊥
    refuses e = cc

    by_fate : (o : Option Fate) (full : Bool) → fault_of_fate o (fault_if full Full None) ≡ None → (o ≡ Some Live) × (full ≡ false)
    by_fate None full e = absurd (refuses e)
    by_fate (Some Live) true e = absurd (refuses e)
    by_fate (Some Live) false e = (refl, refl)
    by_fate (Some WasCommitted) full e = absurd (refuses e)
    by_fate (Some WasAborted) full e = absurd (refuses e)

-- a call that is asked for now was made, or waits, and all that was made of it is told
module _ (s s' : State) (t : ℕ) (call : Call) where
  one : {a b : Call} → Some a ≡ Some b → b ≡ a
  one e = cc

  about : (w : FullOutcome) → IsAsked exact_rule s t call (full_answer w) s' → IsAnswered exact_rule s (Ask t call) (full_answer w) s'
  about (full.Granted k made reply kept accesses) h = h
  about (full.Waits blockers) h = h

  answered-in-full : (result : Result FullOutcome Fault) → IfOk result (IsRequestedInFull s s' t (Some call)) → IfErr result (λ fault. fault ≡ Memory) → OnErr result (s' ≡ s) → IsAnswered exact_rule s (Ask t call) (answer_with full_answer result) s'
  answered-in-full (Ok w) h memory same = about w (subst (λ x. IsAsked exact_rule s t x (full_answer w) s') (one h.1) h.2)
  answered-in-full (Err fault) h memory same = (memory, tt, same)

  pub step-in-full : (result : Result FullOutcome Fault) → refusal_of s (Ask t call) ≡ None → IfOk result (IsRequestedInFull s s' t (Some call)) → IfErr result (λ fault. fault ≡ Memory) → OnErr result (s' ≡ s) → IsStep exact_rule s (Ask t call) (answer_with full_answer result) s'
  step-in-full result fine asked memory same = step-allowed exact_rule s s' (Ask t call) (answer_with full_answer result) fine (answered-in-full result asked memory same)

  pub told-in-full : (result : Result FullOutcome Fault) → IfOk result (IsRequestedInFull s s' t (Some call)) → IfOk result (IsToldInFull s call)
  told-in-full (Ok w) h = subst (λ x. IsToldInFull s x w) (one h.1) h.3
  told-in-full (Err fault) h = tt

-- a call that was waited for was made, or waits on, and all that was made of it is told
pub told-waited : (s s' : State) (t : ℕ) (result : Result FullOutcome Fault) → IfOk result (IsRequestedInFull s s' t None) → IfOk result (IsPendingToldInFull s t)
told-waited s s' t (Ok w) h = (h.0, h.1, h.3)
told-waited s s' t (Err fault) h = tt

-- memory was wanting for its copy
pub step-wanting : (s : State) (t : ℕ) (call : Call) (result : Result Outcome Fault) → refusal_of s (Ask t call) ≡ None → IsErrAnd result (λ fault. fault ≡ Memory) → IsStep exact_rule s (Ask t call) (answer_with outcome_answer result) s
step-wanting s t call (Ok outcome) fine is = absurd is
step-wanting s t call (Err fault) fine is = step-allowed exact_rule s s (Ask t call) (Refused fault) fine (is, tt, refl)

pub step-asked : (s s' : State) (t : ℕ) (call : Call) (result : Result Outcome Fault) → refusal_of s (Ask t call) ≡ None
    → IfOk result (IsRequested exact_rule s s' t (Some call)) → IfErr result (λ fault. fault ≡ Memory) → OnErr result (s' ≡ s)
    → IsStep exact_rule s (Ask t call) (answer_with outcome_answer result) s'
step-asked s s' t call result fine asked memory same = step-allowed exact_rule s s' (Ask t call) (answer_with outcome_answer result) fine (answered result asked memory same)
  where
    one : (a b : Call) → Some a ≡ Some b → a ≡ b
    one a b e = cc

    about : (outcome : Outcome) → IsAsked exact_rule s t call (outcome_answer outcome) s' → IsAnswered exact_rule s (Ask t call) (outcome_answer outcome) s'
    about (GrantedOutcome k reply) h = h
    about (WaitsOutcome blockers) h = h

    answered : (result : Result Outcome Fault) → IfOk result (λ outcome. (x : Call) × (Some call ≡ Some x) × IsAsked exact_rule s t x (outcome_answer outcome) s') → IfErr result (λ fault. fault ≡ Memory) → OnErr result (s' ≡ s) → IsAnswered exact_rule s (Ask t call) (answer_with outcome_answer result) s'
    answered (Ok outcome) h memory same = about outcome (subst (λ x. IsAsked exact_rule s t x (outcome_answer outcome) s') (sym (one call h.0 h.1)) h.2)
    answered (Err fault) h memory same = (memory, tt, same)
