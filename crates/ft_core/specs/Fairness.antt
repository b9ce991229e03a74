-- Fair waiting: a call that nothing blocks waits behind older asks that conflict with it.
-- The caller says which transaction has asked before which. (Rules of this project.)
use Rattle.std.specs.Prelude.{◌≡◌, ℕ, Bool, cond, not, ◌==◌, ◌&&◌, ◌||◌, nat_lt, List, [], ◌∷◌, Option, Some, None, MatchOption, map, position, take}
use Rattle.std.specs.FinMap as finite
use Rattle.std.specs.List.{list_any}
use Rattle.ft_cells.specs.CellOrder.{cell_number}
use Rattle.ft_posix.specs.declared.call.Call.{Call}
use Rattle.ft_posix.specs.declared.call.Access.{Access}
use Rattle.ft_posix.specs.Accesses.{conflict}
use Rattle.ft_posix.specs.Posix.{posix_calls}
use Rattle.ft_history.specs.History.{over}
use Rattle.ft_core.specs.States.{State, history, next_stamp, accesses_now}
use Rattle.ft_core.specs.Steps.{BlockingRule, exact_rule}

-- one of two transactions is the other or above it
abbrev pub are_related : State → ℕ → ℕ → Bool
are_related s t u = over posix_calls (history s) t u || over posix_calls (history s) u t

-- Some access of one list conflicts with some of another on what is there: its number is below the
-- next stamp. What a call makes gets the stamp as its number, so as things stand all calls that
-- make something access the same number there; but no two of them will be made with one stamp.
abbrev pub conflict_there : State → List Access → List Access → Bool
conflict_there s xs ys = list_any (λ a. nat_lt (cell_number a.cell) (next_stamp s) && list_any (conflict a) ys) xs

-- u, which waits for a call, holds back a call of t with these accesses: it is one of those ahead,
-- it is neither t nor above or below it, and the two calls conflict on what is there
abbrev pub holds_back : List ℕ → State → ℕ → List Access → ℕ → Call → Bool
holds_back ahead s t accesses u call = list_any (λ x. x == u) ahead && not (are_related s t u) && conflict_there s (accesses_now s call) accesses

-- one more, if it holds back
abbrev pub with_holder : Bool → ℕ → List ℕ → List ℕ
with_holder holds u rest = cond holds (u ∷ rest) rest

-- the transactions, among some that wait, each with its call, that hold the call back
abbrev pub holders_of : List ℕ → State → ℕ → List Access → List (ℕ × Call) → List ℕ
holders_of ahead s t accesses [] = []
holders_of ahead s t accesses (ask ∷ asks) = with_holder (holds_back ahead s t accesses ask.0 ask.1) ask.0 (holders_of ahead s t accesses asks)

-- all transactions that hold it back, in rising order
abbrev pub holders : List ℕ → BlockingRule
holders ahead s t accesses = holders_of ahead s t accesses (finite.entries s.asks)

-- a list, or another if it is empty
abbrev pub or_else : List ℕ → List ℕ → List ℕ
or_else [] ys = ys
or_else (x ∷ xs) ys = x ∷ xs

-- The fair rule: the blockers of a call by the rule of the state and, if there are none, those that
-- hold it back. So it grants no call that the rule of the state does not grant.
abbrev pub fair_rule : List ℕ → BlockingRule
fair_rule ahead s t accesses = or_else (exact_rule s t accesses) (holders ahead s t accesses)

-- what is in front of a place, if there is one; else all
abbrev pub front_of : Option ℕ → List ℕ → List ℕ
front_of None xs = xs
front_of (Some place) xs = take place xs

-- those in front of t in a queue; all of it if t is not in it
abbrev pub in_front : List ℕ → ℕ → List ℕ
in_front queue t = front_of (position (λ x. x == t) queue) queue

-- each of these with the blockers of its call, if it waits behind those in front of it
abbrev pub waits_behind_from : State → List ℕ → List (ℕ × Call) → List (ℕ × List ℕ)
waits_behind_from s queue asks = map (λ ask. (ask.0, fair_rule (in_front queue ask.0) s ask.0 (accesses_now s ask.1))) asks

-- each transaction that waits for a call, in rising order, with its blockers now
abbrev pub waits_behind : State → List ℕ → List (ℕ × List ℕ)
waits_behind s queue = waits_behind_from s queue (finite.entries s.asks)

-- the blockers of the call that t waits for, if it waits behind these; none if it waits for no call
abbrev pub AreBlockersBehind : List ℕ → State → ℕ → List ℕ → Type 0
AreBlockersBehind ahead s t blockers = MatchOption (finite.get s.asks t) (blockers ≡ []) (λ call. blockers ≡ fair_rule ahead s t (accesses_now s call))
