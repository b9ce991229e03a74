-- Calls that wait in turn.
use Rattle.std.proofs.Common.{◌≡◌, ◌∙◌, ℕ, Bool, true, false, List, [], Option, Some, None, Result, Ok, Err, IsErrAnd, MatchOption, refl, sym, ap, subst}
use Rattle.std.specs.Prelude.{MatchBool}
use Rattle.std.specs.FinMap as finite
use Rattle.std.proofs.lemmas.Bool.{false≢true}
use Rattle.ft_posix.specs.declared.call.Call.{Call}
use Rattle.ft_core.specs.declared.fault.Fault.{Fault}
use Rattle.ft_core.specs.declared.fault.Fault.TheVariants.{Memory}
use Rattle.ft_core.specs.declared.request.Answer.{Answer}
use Rattle.ft_core.specs.declared.request.Answer.TheVariants.{Refused}
use Rattle.ft_core.specs.declared.request.Outcome.{Outcome}
use Rattle.ft_core.specs.declared.request.Outcome.TheVariants.{Granted, Waits}
use Rattle.ft_core.specs.declared.request.Request.{Request}
use Rattle.ft_core.specs.declared.request.Request.TheVariants.{Begin, Sub, Ask, Retry, Drop, Commit, Abort, Undo, Checkpoint}
use Rattle.ft_core.specs.Fairness.{fair_rule}
use Rattle.ft_core.specs.Reports.{blockers_now}
use Rattle.ft_core.specs.States.{State, accesses_now}
use Rattle.ft_core.specs.Steps.{IsStep, IsAnswered, MayWantMemory, answer_with, exact_rule, outcome_answer, refusal_of}
use Rattle.ft_core.proofs.Behind.{fair-exact}
use Rattle.ft_session.specs.Turns.{AreInTheWay, IsFairly, IsInTurn, turns_after, turns_for}
use Rattle.ft_session.proofs.Refused.{due, wanting}
use Rattle.ft_waits.specs.Behind.{AreAhead}

-- ---- who is in the way

module _ (s : State) (turns : List ℕ) (t : ℕ) (ahead blockers : List ℕ) where
  by_fair : (fair : Bool) (call : Call) → MatchBool fair (AreAhead s turns t ahead) (ahead ≡ []) → blockers ≡ fair_rule ahead s t (accesses_now s call)
      → MatchBool fair ((these : List ℕ) × AreAhead s turns t these × (blockers ≡ fair_rule these s t (accesses_now s call))) (blockers ≡ blockers_now s t call)
  by_fair true call are is = (ahead, are, is)
  by_fair false call none is = is ∙ ap (λ xs. fair_rule xs s t (accesses_now s call)) none ∙ fair-exact s t (accesses_now s call)

  by_ask : (fair : Bool) (o : Option Call) → MatchBool fair (AreAhead s turns t ahead) (ahead ≡ []) → MatchOption o (blockers ≡ []) (λ call. blockers ≡ fair_rule ahead s t (accesses_now s call))
      → MatchOption o (blockers ≡ []) (λ call. MatchBool fair ((these : List ℕ) × AreAhead s turns t these × (blockers ≡ fair_rule these s t (accesses_now s call))) (blockers ≡ blockers_now s t call))
  by_ask fair None are is = is
  by_ask fair (Some call) are is = by_fair fair call are is

  -- those behind which the call waits, where calls wait in turn, and else none
  pub in-the-way : (fair : Bool) → MatchBool fair (AreAhead s turns t ahead) (ahead ≡ []) → MatchOption (finite.get s.asks t) (blockers ≡ []) (λ call. blockers ≡ fair_rule ahead s t (accesses_now s call)) → AreInTheWay fair s turns t blockers
  in-the-way fair are is = by_ask fair (finite.get s.asks t) are is

-- ---- one of two

pub if-true : (b : Bool) (A B : Type 0) → b ≡ true → A → MatchBool b A B
if-true true A B is h = h
if-true false A B is h = absurd (false≢true is)

pub if-false : (b : Bool) (A B : Type 0) → b ≡ false → B → MatchBool b A B
if-false true A B is h = absurd (false≢true (sym is))
if-false false A B is h = h

pub both-ways : (b : Bool) (A : Type 0) → A → MatchBool b A A
both-ways true A h = h
both-ways false A h = h

-- ---- a request that is no call

pub plainly : (s s' : State) (turns turns' : List ℕ) (r : Request) (a : Answer) → ((t : ℕ) (call : Call) → r ≡ Ask t call → ⊥) → ((t : ℕ) → r ≡ Retry t → ⊥) → IsStep exact_rule s r a s' → turns' ≡ turns → IsFairly s turns r a s' turns'
plainly s s' turns turns' Begin a ask retry step same = (step, same)
plainly s s' turns turns' (Sub t) a ask retry step same = (step, same)
plainly s s' turns turns' (Ask t call) a ask retry step same = absurd (ask t call refl)
plainly s s' turns turns' (Retry t) a ask retry step same = absurd (retry t refl)
plainly s s' turns turns' (Drop t) a ask retry step same = (step, same)
plainly s s' turns turns' (Commit t) a ask retry step same = (step, same)
plainly s s' turns turns' (Abort t) a ask retry step same = (step, same)
plainly s s' turns turns' (Undo t) a ask retry step same = (step, same)
plainly s s' turns turns' Checkpoint a ask retry step same = (step, same)

-- ---- a call in its turn

-- a refusal is one by any rule
refused-by : (ahead : List ℕ) (s s' : State) (r : Request) (fault : Fault) (o : Option Fault) → MatchOption o (IsAnswered (fair_rule ahead) s r (Refused fault) s') (λ x. (Refused fault ≡ Refused x) × (s' ≡ s)) → MatchOption o (IsAnswered exact_rule s r (Refused fault) s') (λ x. (Refused fault ≡ Refused x) × (s' ≡ s))
refused-by ahead s s' r fault None h = h
refused-by ahead s s' r fault (Some x) h = h

module _ (s s' : State) (turns turns' : List ℕ) (t : ℕ) (Keeps : Bool → Type 0) (r : Request) where
  -- it was asked for
  pub turn-taken : (keeps : Bool) → Keeps keeps → (later : List ℕ) → later ≡ turns_for s turns t keeps → (ahead : List ℕ) → AreAhead s later t ahead → (result : Result Outcome Fault) → IsStep (fair_rule ahead) s r (answer_with outcome_answer result) s'
      → turns' ≡ turns_after (answer_with outcome_answer result) turns later → IsInTurn s turns t Keeps r (answer_with outcome_answer result) s' turns'
  turn-taken keeps kept later is ahead are (Ok (Granted k reply)) step same = (keeps, kept, (ahead, subst (λ xs. AreAhead s xs t ahead) is are, step), same)
  turn-taken keeps kept later is ahead are (Ok (Waits blockers)) step same = (keeps, kept, (ahead, subst (λ xs. AreAhead s xs t ahead) is are, step), same ∙ is)
  turn-taken keeps kept later is ahead are (Err fault) step same = (refused-by ahead s s' r fault (refusal_of s r) step, same)

module _ (s : State) (turns : List ℕ) (t : ℕ) (Keeps : Bool → Type 0) (r : Request) where
  -- it is refused
  pub turn-refused : (result : Result Outcome Fault) (fault : Fault) → IsErrAnd result (λ e. e ≡ fault) → refusal_of s r ≡ Some fault → IsInTurn s turns t Keeps r (answer_with outcome_answer result) s turns
  turn-refused (Ok outcome) fault is why = absurd is
  turn-refused (Err e) fault is why = (due s r e (why ∙ ap Some (sym is)), refl)

  -- there was no memory for the turns
  pub turn-wanting : (result : Result Outcome Fault) → IsErrAnd result (λ e. e ≡ Memory) → refusal_of s r ≡ None → MayWantMemory r → IsInTurn s turns t Keeps r (answer_with outcome_answer result) s turns
  turn-wanting (Ok outcome) is fine may = absurd is
  turn-wanting (Err e) is fine may = (subst (λ (f : Fault). IsStep exact_rule s r (Refused f) s) (sym is) (wanting s r fine may), refl)
