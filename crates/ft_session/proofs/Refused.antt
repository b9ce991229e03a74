-- A refusal that is due is a legal step, and so is want of memory where none is.
use Rattle.std.proofs.Common.{◌≡◌, Option, Some, None, MatchOption, refl, sym, subst}
use Rattle.ft_core.specs.declared.fault.Fault.{Fault}
use Rattle.ft_core.specs.declared.fault.Fault.TheVariants.{Memory}
use Rattle.ft_core.specs.declared.request.Answer.TheVariants.{Refused}
use Rattle.ft_core.specs.declared.request.Request.{Request}
use Rattle.ft_core.specs.States.{State}
use Rattle.ft_core.specs.Steps.{IsStep, IsAnswered, MayWantMemory, exact_rule, refusal_of}

module _ (s : State) (r : Request) where
  step : (fault : Fault) (o : Option Fault) → refusal_of s r ≡ o → MatchOption o (IsAnswered exact_rule s r (Refused fault) s) (λ due. (Refused fault ≡ Refused due) × (s ≡ s)) → IsStep exact_rule s r (Refused fault) s
  step fault o is = subst (λ p. MatchOption p (IsAnswered exact_rule s r (Refused fault) s) (λ due. (Refused fault ≡ Refused due) × (s ≡ s))) (sym is)

  pub due : (fault : Fault) → refusal_of s r ≡ Some fault → IsStep exact_rule s r (Refused fault) s
  due fault is = step fault (Some fault) is (refl, refl)

  pub wanting : refusal_of s r ≡ None → MayWantMemory r → IsStep exact_rule s r (Refused Memory) s
  wanting is may = step Memory None is (refl, may, refl)
