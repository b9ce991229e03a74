-- What a refused request leaves.
use Rattle.std.proofs.Common.{◌≡◌, Option, None, Some, MatchOption, subst}
use Rattle.ft_core.specs.declared.fault.Fault.{Fault}
use Rattle.ft_core.specs.declared.fault.Fault.TheVariants.{Memory as MemoryFault}
use Rattle.ft_core.specs.declared.request.Answer.{Answer}
use Rattle.ft_core.specs.declared.request.Answer.TheVariants.{Refused}
use Rattle.ft_core.specs.declared.request.Request.{Request}
use Rattle.ft_core.specs.States.{State}
use Rattle.ft_core.specs.Steps.{IsStep, MayWantMemory, exact_rule, refusal_of}

-- a request that is refused changes nothing
pub refused_stays : (old new : State) (request : Request) (fault : Fault) → IsStep exact_rule old request (Refused fault) new → new ≡ old
refused_stays old new request fault h = either (refusal_of old request) h
  where
    either : (refusal : Option Fault) → MatchOption refusal ((fault ≡ MemoryFault) × MayWantMemory request × (new ≡ old)) (λ other. (Refused fault ≡ Refused other) × (new ≡ old)) → new ≡ old
    either (Some other) k = k.1
    either None k = k.2

-- so does one for which there is no memory
pub wanting_stays : (old new : State) (request : Request) (answer : Answer) → IsStep exact_rule old request answer new → answer ≡ Refused MemoryFault → new ≡ old
wanting_stays old new request answer h is = refused_stays old new request MemoryFault (subst (λ (a : Answer). IsStep exact_rule old request a new) is h)
