-- Which event may come next.
use Rattle.std.specs.Prelude.{◌≡◌, ◌<◌, ℕ, Option, Some, List, [], ◌∷◌, suc}
use Rattle.ft_laws.specs.Calls.{Calls, Done, Fits}
use Rattle.ft_laws.specs.Runs.{run}
use Rattle.ft_history.specs.History.{Base, Event, number, last_transaction, last_stamp, IsLive, live_children, standing}
use Rattle.ft_history.specs.History.Event.{Begin, Call, Undo, Commit, Abort}
use Rattle.ft_history.specs.Locks.{blockers_of}
use Rattle.ft_history.specs.Undoing.{MayUndo}

module _ (C : Calls) where
  -- the store that the standing calls leave, made one after another from the base: no locks, no
  -- logs, no transactions
  abbrev pub outcome : Base C → List (Event C) → C.Store
  outcome base h = run C base.store (standing C h)

  -- A new transaction has the next number. If it has a parent, the parent is live.
  pub record MayBegin (first : ℕ) (h : List (Event C)) (n : ℕ) (p : Option ℕ) : Type 0 where
    pub next : n ≡ suc (last_transaction C first h)
    pub live : (q : ℕ) → p ≡ Some q → IsLive C first h q

  -- A call is granted only if its asker is live and nothing blocks it. Its stamp is new and numbers
  -- nothing at the base. Its accesses and reply are those that it has after the standing calls.
  -- (Only if: a stricter rule makes fewer histories legal, and every claim about legal histories
  -- still holds.)
  pub record MayGrant (base : Base C) (h : List (Event C)) (c : Done C) : Type 0 where
    pub live : IsLive C base.transaction h c.asker
    pub next : last_stamp C base.stamp h < number C c
    pub ready : C.IsReady c.call base.store
    pub fits : Fits C (outcome base h) c
    pub unblocked : blockers_of C h c.asker c.accesses ≡ []

  -- A transaction commits only if it has no live child (Moss: a parent may not commit before its
  -- children have ended).
  pub record MayCommit (first : ℕ) (h : List (Event C)) (t : ℕ) : Type 0 where
    pub live : IsLive C first h t
    pub no_child : live_children C first h t ≡ []

  -- The event may come next. An abort may end any live transaction, with whatever is live below it
  -- (Moss: the abort of a superior undoes all below it).
  abbrev pub Allowed : Base C → List (Event C) → Event C → Type 0
  Allowed base h (Begin n p) = MayBegin base.transaction h n p
  Allowed base h (Call c) = MayGrant base h c
  Allowed base h (Undo k) = (t : ℕ) × (d : Done C) × MayUndo C base.transaction h t d × (number C d ≡ k)
  Allowed base h (Commit t) = MayCommit base.transaction h t
  Allowed base h (Abort t) = IsLive C base.transaction h t

  -- each event was allowed when it came
  abbrev pub Legal : Base C → List (Event C) → Type 0
  Legal base [] = Unit {0}
  Legal base (e ∷ h) = Allowed base h e × Legal base h
