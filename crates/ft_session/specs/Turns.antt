-- The turns of calls in a fair session. (Rules of this project.)
use Rattle.std.specs.Prelude.{◌≡◌, ◌↔◌, ◌==◌, ◌&&◌, ◌||◌, ℕ, Bool, true, not, cond, List, [], ◌∷◌, ◌++◌, Some, MatchBool, MatchOption, filter, is_some}
use Rattle.std.specs.FinMap as finite
use Rattle.std.specs.List.{list_any}
use Rattle.ft_core.specs.declared.request.Answer.{Answer}
use Rattle.ft_core.specs.declared.request.Answer.TheVariants.{Waits, Refused}
use Rattle.ft_core.specs.declared.request.Request.{Request}
use Rattle.ft_core.specs.declared.request.Request.TheVariants.{Ask, Retry}
use Rattle.ft_core.specs.States.{State, accesses_now}
use Rattle.ft_core.specs.Steps.{IsStep, exact_rule}
use Rattle.ft_core.specs.Fairness.{fair_rule}
use Rattle.ft_core.specs.Reports.{blockers_now}
use Rattle.ft_waits.specs.Behind.{AreAhead}

-- the turns of transactions that still wait for a call; that of t only if it keeps its turn
abbrev pub kept_turns : State → List ℕ → ℕ → Bool → List ℕ
kept_turns s turns t keeps = filter (λ u. is_some (finite.get s.asks u) && (keeps || not (u == t))) turns

-- the same with a turn for t, the last if it had none
abbrev pub with_turn : List ℕ → ℕ → List ℕ
with_turn turns t = cond (list_any (λ x. x == t) turns) turns (turns ++ t ∷ [])

-- the turns when t asks: it keeps its own if it asks for what it waits for already
abbrev pub turns_for : State → List ℕ → ℕ → Bool → List ℕ
turns_for s turns t keeps = with_turn (kept_turns s turns t keeps) t

-- those turns stay if the call has to wait
abbrev pub turns_after : Answer → List ℕ → List ℕ → List ℕ
turns_after (Waits blockers) turns later = later
turns_after other turns later = turns

-- The core made one legal step, by which the call of t waits behind all that are ahead of it.
abbrev pub IsBehind : State → List ℕ → ℕ → Request → Answer → State → Type 0
IsBehind s turns t request answer s' = (ahead : List ℕ) × AreAhead s turns t ahead × IsStep (fair_rule ahead) s request answer s'

-- It did so in the turn of t, which it keeps or not; or the request is refused, and nothing
-- changes.
abbrev pub IsInTurn : State → List ℕ → ℕ → (Bool → Type 0) → Request → Answer → State → List ℕ → Type 0
IsInTurn s turns t Keeps request (Refused fault) s' turns' = IsStep exact_rule s request (Refused fault) s' × (turns' ≡ turns)
IsInTurn s turns t Keeps request answer s' turns' = (keeps : Bool) × Keeps keeps × IsBehind s (turns_for s turns t keeps) t request answer s' × (turns' ≡ turns_after answer turns (turns_for s turns t keeps))

-- A call is made, or waits, in the turn of its transaction, which keeps its turn if it waits for
-- this call already. All else is one legal step, and the turns stay.
abbrev pub IsFairly : State → List ℕ → Request → Answer → State → List ℕ → Type 0
IsFairly s turns (Ask t call) answer s' turns' = IsInTurn s turns t (λ keeps. (keeps ≡ true) ↔ (finite.get s.asks t ≡ Some call)) (Ask t call) answer s' turns'
IsFairly s turns (Retry t) answer s' turns' = IsInTurn s turns t (λ keeps. keeps ≡ true) (Retry t) answer s' turns'
IsFairly s turns request answer s' turns' = IsStep exact_rule s request answer s' × (turns' ≡ turns)

-- the blockers of the call that t waits for; none if it waits for no call
abbrev pub AreInTheWay : Bool → State → List ℕ → ℕ → List ℕ → Type 0
AreInTheWay fair s turns t blockers =
    MatchOption (finite.get s.asks t) (blockers ≡ []) (λ call. MatchBool fair ((ahead : List ℕ) × AreAhead s turns t ahead × (blockers ≡ fair_rule ahead s t (accesses_now s call))) (blockers ≡ blockers_now s t call))
