-- Runs.
use Rattle.std.proofs.Common.{List, [], ◌∷◌, ◌++◌, refl, subst}
use Rattle.ft_core.specs.declared.request.Request.{Request}
use Rattle.ft_core.specs.declared.request.Answer.{Answer}
use Rattle.ft_core.specs.States.{State}
use Rattle.ft_core.specs.Steps.{BlockingRule, IsStep, IsRun}

-- one more request
pub run-push : (rule : BlockingRule) (s : State) (requests : List Request) (answers : List Answer) (m : State) (r : Request) (a : Answer) (s' : State)
    → IsRun rule s requests answers m → IsStep rule m r a s' → IsRun rule s (requests ++ r ∷ []) (answers ++ a ∷ []) s'
run-push rule s [] [] m r a s' ran step = (s', subst (λ q. IsStep rule q r a s') ran step, refl)
run-push rule s [] (b ∷ answers) m r a s' ran step = absurd ran
run-push rule s (q ∷ requests) [] m r a s' ran step = absurd ran
run-push rule s (q ∷ requests) (b ∷ answers) m r a s' ran step = (ran.0, ran.1, run-push rule ran.0 requests answers m r a s' ran.2 step)
