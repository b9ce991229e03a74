-- What has happened, and what follows from it alone. A history is a list of events, newest first. A
-- list of what can be undone is newest first too. Lists of calls that are run are oldest first.
-- Definitions about only transactions and stamps take the last number of the base, and not its
-- store. (Moss is J. E. B. Moss, Nested Transactions, MIT 1981. A definition that names no source
-- is a rule of this project.)
use Rattle.std.specs.Prelude.{◌≡◌, ◌<◌, ℕ, Bool, true, false, cond, not, nat_lt, nat_le, ◌==◌, ◌||◌, ◌&&◌, Option, Some, None, List, [], ◌∷◌, ◌++◌, reverse}
use Rattle.ft_laws.specs.Calls.{Calls, Done}
use Rattle.ft_history.specs.Forest.{is_some_and, above, nearest}
use Rattle.ft_history.specs.Logs.{put, passing}

-- the fate of a transaction (Moss)
pub data Fate : Type 0 where
  Live : Fate
  Committed : Fate
  Aborted : Fate

-- the transaction exists and is live
abbrev pub is_live : Option Fate → Bool
is_live None = false
is_live (Some Live) = true
is_live (Some Committed) = false
is_live (Some Aborted) = false

module _ (C : Calls) where
  -- the start of a history: a store, the last transaction's number and the last stamp
  pub record Base : Type 0 where
    pub store : C.Store
    pub transaction : ℕ
    pub stamp : ℕ

  -- No number above the last stamp is in the store: each call with a later stamp may be made there
  -- (a rule of this project: what a call makes is numbered by its stamp).
  abbrev pub IsFresh : Base → Type 0
  IsFresh base = (a : C.Call) → base.stamp < C.stamp a → C.IsReady a base.store

  -- An event. For a granted call it has the asker, the call with its stamp, its accesses and its
  -- reply, and no inverse.
  pub data Event : Type 0 where
    -- a new transaction, with its parent if it is a subtransaction
    Begin : ℕ → Option ℕ → Event
    -- a granted call
    Call : Done C → Event
    -- the call with this stamp is undone
    Undo : ℕ → Event
    Commit : ℕ → Event
    Abort : ℕ → Event

  -- the stamp of a granted call
  abbrev pub number : Done C → ℕ
  number c = C.stamp c.call

  -- the last transaction's number, if that of the base is `first`
  abbrev pub last_transaction : ℕ → List Event → ℕ
  last_transaction first [] = first
  last_transaction first (Begin n p ∷ h) = n
  last_transaction first (other ∷ h) = last_transaction first h

  -- the last stamp, if that of the base is `first`
  abbrev pub last_stamp : ℕ → List Event → ℕ
  last_stamp first [] = first
  last_stamp first (Call c ∷ h) = number c
  last_stamp first (other ∷ h) = last_stamp first h

  -- the transactions begun since the base, oldest first
  abbrev pub begun : List Event → List ℕ
  begun [] = []
  begun (Begin n p ∷ h) = begun h ++ n ∷ []
  begun (other ∷ h) = begun h

  -- the parent of a subtransaction begun since the base
  abbrev pub parent : List Event → ℕ → Option ℕ
  parent [] = λ t. None
  parent (Begin n p ∷ h) = put (parent h) n p
  parent (other ∷ h) = parent h

  -- u is a child of t
  abbrev pub is_child : List Event → ℕ → ℕ → Bool
  is_child h t u = is_some_and (parent h u) (λ p. p == t)

  -- y is x or an ancestor of x (Moss: a superior)
  abbrev pub over : List Event → ℕ → ℕ → Bool
  over h = above (parent h)

  -- the transactions begun since the base that are at or below t, newest first
  abbrev pub newest_below : List Event → ℕ → List ℕ
  newest_below h t = reverse (passing (over h t) (begun h))

  -- x has committed in this history
  abbrev pub is_committed : List Event → ℕ → Bool
  is_committed [] x = false
  is_committed (Commit t ∷ h) x = (x == t) || is_committed h x
  is_committed (other ∷ h) x = is_committed h x

  -- the history has the abort of a transaction that passes the test
  abbrev pub some_abort : List Event → (ℕ → Bool) → Bool
  some_abort [] p = false
  some_abort (Abort t ∷ h) p = p t || some_abort h p
  some_abort (other ∷ h) p = some_abort h p

  -- An aborted transaction is at or above x. If x had committed, it stays committed, but its calls
  -- are removed all the same (Moss: a commit is relative to the superiors).
  abbrev pub is_gone : List Event → ℕ → Bool
  is_gone h x = some_abort h (λ u. over h u x)

  -- The fate of a transaction begun since the base, where `first` is the last number of the base.
  -- It is committed if its commit has happened. Otherwise it is aborted if it or one above it was
  -- aborted, or else live (Moss).
  abbrev pub fate : ℕ → List Event → ℕ → Option Fate
  fate first h t = cond (nat_lt first t && nat_le t (last_transaction first h)) (Some (cond (is_committed h t) Committed (cond (is_gone h t) Aborted Live))) None

  -- its fate is Live
  abbrev pub IsLive : ℕ → List Event → ℕ → Type 0
  IsLive first h t = fate first h t ≡ Some Live

  -- the live children of t, oldest first
  abbrev pub live_children : ℕ → List Event → ℕ → List ℕ
  live_children first h t = passing (λ x. is_child h t x && is_live (fate first h x)) (begun h)

  -- The owner of t's calls: the nearest transaction at or above t that isn't committed (Moss: at a
  -- commit the parent inherits). There is none if an aborted transaction is at or above t, or if
  -- all are committed.
  abbrev pub owner_of : List Event → ℕ → Option ℕ
  owner_of h t = cond (is_gone h t) None (nearest (parent h) (is_committed h) t)

  -- all granted calls, oldest first
  abbrev pub grants : List Event → List (Done C)
  grants [] = []
  grants (Call c ∷ h) = grants h ++ c ∷ []
  grants (other ∷ h) = grants h

  -- the call with this stamp is undone
  abbrev pub is_undone : List Event → ℕ → Bool
  is_undone [] k = false
  is_undone (Undo j ∷ h) k = (k == j) || is_undone h k
  is_undone (other ∷ h) k = is_undone h k

  -- a granted call that isn't undone and has no aborted transaction at or above its asker
  abbrev pub is_standing : List Event → Done C → Bool
  is_standing h c = not (is_undone h (number c)) && not (is_gone h c.asker)

  -- the standing calls, oldest first
  abbrev pub standing : List Event → List (Done C)
  standing h = passing (is_standing h) (grants h)
