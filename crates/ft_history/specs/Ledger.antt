-- The lists of what can be undone.
use Rattle.std.specs.Prelude.{ℕ, cond, ◌==◌, Option, Some, None, List, [], ◌∷◌}
use Rattle.ft_laws.specs.Calls.{Calls, Done}
use Rattle.ft_history.specs.Logs.{pushed, popped, handed, emptied}
use Rattle.ft_history.specs.History.{Event, number, parent, over}
use Rattle.ft_history.specs.History.Event.{Begin, Call, Undo, Commit, Abort}

module _ (C : Calls) where
  -- the transaction that asked for the call with this stamp
  abbrev pub asker_of : List (Event C) → ℕ → Option ℕ
  asker_of [] k = None
  asker_of (Call c ∷ h) k = cond (k == number C c) (Some c.asker) (asker_of h k)
  asker_of (other ∷ h) k = asker_of h k

  -- The lists in log order, newest first, from the events alone. A grant adds to the asker's list,
  -- and an undo removes its newest. A commit adds the child's list to its parent's, as newer. An
  -- abort empties the lists of all transactions at or below it (a rule of this project).
  abbrev pub lists : List (Event C) → ℕ → List (Done C)
  lists [] = λ t. []
  lists (Begin n p ∷ h) = lists h
  lists (Call c ∷ h) = pushed (lists h) c.asker c
  lists (Undo k ∷ h) = popped (lists h) (asker_of h k)
  lists (Commit t ∷ h) = handed (lists h) t (parent C h t)
  lists (Abort t ∷ h) = emptied (over C h) (lists h) t
