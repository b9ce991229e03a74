-- Which locks exist, which transactions block a call, and what each event does to the locks.
use Rattle.std.specs.Prelude.{◌≡◌, ℕ, Bool, not, ◌==◌, ◌&&◌, ◌||◌, List, ◌∷◌}
use Rattle.ft_laws.specs.Lists.{any}
use Rattle.ft_laws.specs.Calls.{Calls, Done}
use Rattle.ft_history.specs.Forest.{is_some_and}
use Rattle.ft_history.specs.Logs.{passing}
use Rattle.ft_history.specs.History.{Event, begun, is_child, over, owner_of, grants}
use Rattle.ft_history.specs.History.Event.{Begin, Call, Undo, Commit, Abort}

-- A lock is identified by a test of accesses, for example whether one of them writes a cell. The
-- locks are those of granted calls. An undone call counts too (a rule of this project: locks stay
-- until the owner's commit or abort).
module _ (C : Calls) where
  -- y owns the call now (Moss: at a commit the parent inherits)
  abbrev pub is_owner : List (Event C) → ℕ → Done C → Bool
  is_owner h y c = is_some_and (owner_of C h c.asker) (λ o. o == y)

  -- y holds a lock on accesses that pass the test: y asked for them itself (Moss: to hold a lock).
  abbrev pub holds_lock : List (Event C) → ℕ → (C.Accesses → Bool) → Bool
  holds_lock h y test = any (λ c. is_owner h y c && ((c.asker == y) && test c.accesses)) (grants C h)

  -- y retains such a lock: y inherited it at the commit of a subtransaction (Moss: to retain a
  -- lock).
  abbrev pub retains_lock : List (Event C) → ℕ → (C.Accesses → Bool) → Bool
  retains_lock h y test = any (λ c. is_owner h y c && (not (c.asker == y) && test c.accesses)) (grants C h)

  -- y holds or retains such a lock
  abbrev pub owns_lock : List (Event C) → ℕ → (C.Accesses → Bool) → Bool
  owns_lock h y test = holds_lock h y test || retains_lock h y test

  -- y blocks a call of t with these accesses: y owns a conflicting lock, and is neither t nor an
  -- ancestor of t (Moss: all who retain a conflicting lock must be superiors; a rule of this
  -- project: an ancestor that holds is treated as one that retains).
  abbrev pub is_blocker : List (Event C) → ℕ → C.Accesses → ℕ → Bool
  is_blocker h t f y = owns_lock h y (λ g. C.conflict g f) && not (over C h y t)

  -- all blockers, oldest first
  abbrev pub blockers_of : List (Event C) → ℕ → C.Accesses → List ℕ
  blockers_of h t f = passing (is_blocker h t f) (begun C h)

  -- y blocks the call by Moss's own rule for holders: no transaction other than t, not even an
  -- ancestor, may hold a conflicting lock, and all who retain one must be superiors (Moss, the
  -- locking rules).
  abbrev pub is_moss_blocker : List (Event C) → ℕ → C.Accesses → ℕ → Bool
  is_moss_blocker h t f y = (holds_lock h y (λ g. C.conflict g f) && not (y == t)) || (retains_lock h y (λ g. C.conflict g f) && not (over C h y t))

  -- all blockers by Moss's own rule for holders, oldest first
  abbrev pub moss_blockers_of : List (Event C) → ℕ → C.Accesses → List ℕ
  moss_blockers_of h t f = passing (is_moss_blocker h t f) (begun C h)

  -- what each transaction holds and retains in this history
  pub record AreLocks (h : List (Event C)) (holds retains : ℕ → (C.Accesses → Bool) → Bool) : Type 0 where
    pub held : (y : ℕ) (test : C.Accesses → Bool) → holds_lock h y test ≡ holds y test
    pub retained : (y : ℕ) (test : C.Accesses → Bool) → retains_lock h y test ≡ retains y test

  -- the effect of each event on the locks
  abbrev pub LocksAfter : Event C → List (Event C) → Type 0
  LocksAfter (Begin n p) h = AreLocks (Begin n p ∷ h) (holds_lock h) (retains_lock h)
  -- The asker holds the call's locks in addition to its own.
  LocksAfter (Call c) h = AreLocks (Call c ∷ h) (λ y test. holds_lock h y test || ((c.asker == y) && test c.accesses)) (retains_lock h)
  -- An undo keeps all locks (a rule of this project).
  LocksAfter (Undo k) h = AreLocks (Undo k ∷ h) (holds_lock h) (retains_lock h)
  -- The parent retains what t held or retained, in addition to its own. t keeps none, and at the
  -- top level its locks are released (Moss: commit of a transaction).
  LocksAfter (Commit t) h =
      AreLocks (Commit t ∷ h) (λ y test. not (y == t) && holds_lock h y test) (λ y test. not (y == t) && (retains_lock h y test || (is_child C h y t && owns_lock h t test)))
  -- The locks of t and of all transactions below it are discarded. All others keep their own (Moss:
  -- abort of a transaction).
  LocksAfter (Abort t) h = AreLocks (Abort t ∷ h) (λ y test. not (over C h t y) && holds_lock h y test) (λ y test. not (over C h t y) && retains_lock h y test)
