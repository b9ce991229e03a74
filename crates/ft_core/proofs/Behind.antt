-- Asking for a call that waits behind others.
use Rattle.std.proofs.Common.{◌≡◌, ◌∙◌, ◌||◌, ℕ, List, [], ◌∷◌, Option, Some, None, Result, Ok, Err, IfOk, IfErr, IsErrAnd, OnErr, MatchOption, refl, sym, ap, subst}
use Rattle.std.specs.FinMap as finite
use Rattle.ft_posix.specs.declared.call.Call.{Call}
use Rattle.ft_posix.specs.declared.call.Access.{Access}
use Rattle.ft_posix.specs.Posix.{posix_calls}
use Rattle.ft_forest.specs.Transactions.{Transactions, over_in, parent_in}
use Rattle.ft_history.specs.Forest.{above}
use Rattle.ft_history.specs.History.{parent}
use Rattle.ft_core.specs.declared.fault.Fault.{Fault}
use Rattle.ft_core.specs.declared.fault.Fault.TheVariants.{Memory}
use Rattle.ft_core.specs.declared.request.Answer.{Answer}
use Rattle.ft_core.specs.declared.request.Answer.TheVariants.{Granted, Waits, Refused}
use Rattle.ft_core.specs.declared.request.Outcome.{Outcome}
use Rattle.ft_core.specs.declared.request.Outcome.TheVariants.{Granted as GrantedOutcome, Waits as WaitsOutcome}
use Rattle.ft_core.specs.declared.request.Request.{Request}
use Rattle.ft_core.specs.declared.request.Request.TheVariants.{Ask}
use Rattle.ft_core.specs.Fairness.{are_related, fair_rule, holders, holders_of, or_else}
use Rattle.ft_core.specs.Journals.{asked_for}
use Rattle.ft_core.specs.States.{State, history, accesses_now}
use Rattle.ft_core.specs.Steps.{BlockingRule, IsStep, IsAsked, IsAnswered, exact_rule, answer_with, outcome_answer, refusal_of}
use Rattle.ft_core.proofs.Ended.{step-allowed}
use Rattle.ft_core.specs.Requested.{IsRequested}

-- ---- the rule

or_else-none : (xs : List ℕ) → or_else xs [] ≡ xs
or_else-none [] = refl
or_else-none (x ∷ xs) = refl

-- where nobody is ahead nobody holds a call back
none-hold : (s : State) (t : ℕ) (accesses : List Access) (asks : List (ℕ × Call)) → holders_of [] s t accesses asks ≡ []
none-hold s t accesses [] = refl
none-hold s t accesses (ask ∷ asks) = none-hold s t accesses asks

-- and the fair rule is that of the state
pub fair-exact : (s : State) (t : ℕ) (accesses : List Access) → fair_rule [] s t accesses ≡ exact_rule s t accesses
fair-exact s t accesses = ap (or_else (exact_rule s t accesses)) (none-hold s t accesses (finite.entries s.asks)) ∙ or_else-none (exact_rule s t accesses)

none-first : (xs ys : List ℕ) → or_else xs ys ≡ [] → xs ≡ []
none-first [] ys e = refl
none-first (x ∷ xs) ys e = e

-- where nobody is in the way by the fair rule, nobody is by the rule of the state
pub fair-none : (ahead : List ℕ) (s : State) (t : ℕ) (accesses : List Access) → fair_rule ahead s t accesses ≡ [] → fair_rule ahead s t accesses ≡ exact_rule s t accesses
fair-none ahead s t accesses e = e ∙ sym (none-first (exact_rule s t accesses) (holders ahead s t accesses) e)

-- ---- a call that is asked for

-- by a rule that tells the same of it
pub asked-same : (r q : BlockingRule) (s s' : State) (t : ℕ) (call : Call) (a : Answer) → q s t (accesses_now s call) ≡ r s t (accesses_now s call) → IsAsked r s t call a s' → IsAsked q s t call a s'
asked-same r q s s' t call (Granted k reply) same h = (same ∙ h.0, h.1, h.2, h.3)
asked-same r q s s' t call (Waits blockers) same h = (h.0, h.1 ∙ sym same, h.2)
asked-same r q s s' t call other same h = absurd h

module _ (rule : BlockingRule) (s s' : State) (t : ℕ) where
  one : (a b : Call) → Some a ≡ Some b → a ≡ b
  one a b e = cc

  about-ask : (call : Call) (outcome : Outcome) → IsAsked rule s t call (outcome_answer outcome) s' → IsAnswered rule s (Ask t call) (outcome_answer outcome) s'
  about-ask call (GrantedOutcome k reply) h = h
  about-ask call (WaitsOutcome blockers) h = h

  answered-ask : (call : Call) (result : Result Outcome Fault) → IfOk result (IsRequested rule s s' t (Some call)) → IfErr result (λ fault. fault ≡ Memory) → OnErr result (s' ≡ s) → IsAnswered rule s (Ask t call) (answer_with outcome_answer result) s'
  answered-ask call (Ok outcome) h memory same = about-ask call outcome (subst (λ x. IsAsked rule s t x (outcome_answer outcome) s') (sym (one call h.0 h.1)) h.2)
  answered-ask call (Err fault) h memory same = (memory, tt, same)

  pub step-ask : (call : Call) (result : Result Outcome Fault) → refusal_of s (Ask t call) ≡ None → IfOk result (IsRequested rule s s' t (Some call)) → IfErr result (λ fault. fault ≡ Memory) → OnErr result (s' ≡ s)
      → IsStep rule s (Ask t call) (answer_with outcome_answer result) s'
  step-ask call result fine asked memory same = step-allowed rule s s' (Ask t call) (answer_with outcome_answer result) fine (answered-ask call result asked memory same)

-- a refusal that is due is a legal step by any rule
pub step-refused-by : {A : Type 0} (rule : BlockingRule) (s : State) (r : Request) (told : A → Answer) (result : Result A Fault) (f : Fault) → IsErrAnd result (λ e. e ≡ f) → refusal_of s r ≡ Some f → IsStep rule s r (answer_with told result) s
step-refused-by rule s r told (Ok x) f is due = absurd is
step-refused-by rule s r told (Err y) f is due = subst (λ o. MatchOption o (IsAnswered rule s r (Refused y) s) (λ fault. (Refused y ≡ Refused fault) × (s ≡ s))) (sym due) (ap Refused is, refl)

-- what was asked for by the rule of the state was so by the fair rule, where that tells the same
pub fairly-asked : (ahead : List ℕ) (s s' : State) (t : ℕ) (asked : Option Call) (outcome : Outcome) → ((call : Call) → asked_for asked (finite.get s.asks t) ≡ Some call → fair_rule ahead s t (accesses_now s call) ≡ exact_rule s t (accesses_now s call))
    → IsRequested exact_rule s s' t asked outcome → IsRequested (fair_rule ahead) s s' t asked outcome
fairly-asked ahead s s' t asked outcome same h = (h.0, h.1, asked-same exact_rule (fair_rule ahead) s s' t h.0 (outcome_answer outcome) (same h.0 h.1) h.2)

pub fairly-if : (ahead : List ℕ) (s s' : State) (t : ℕ) (asked : Option Call) (result : Result Outcome Fault) → ((call : Call) → asked_for asked (finite.get s.asks t) ≡ Some call → fair_rule ahead s t (accesses_now s call) ≡ exact_rule s t (accesses_now s call))
    → IfOk result (IsRequested exact_rule s s' t asked) → IfOk result (IsRequested (fair_rule ahead) s s' t asked)
fairly-if ahead s s' t asked (Ok outcome) same h = fairly-asked ahead s s' t asked outcome same h
fairly-if ahead s s' t asked (Err fault) same h = tt

-- ---- one that holds a call back

-- to be above one another is told by the parents alone
pub related-same : (s now : State) → s ≡ now → (forest : Transactions) → ((x : ℕ) → parent_in forest x ≡ parent posix_calls (history s) x) → (t u : ℕ) → (over_in forest t u || over_in forest u t) ≡ are_related now t u
related-same s now is forest parents t u = (λ i. above (λ x. parents x i) t u || above (λ x. parents x i) u t) ∙ ap (λ q. are_related q t u) is
