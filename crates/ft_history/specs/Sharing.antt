-- Which transactions own conflicting locks at the same time. (Moss, Nested Transactions, MIT 1981,
-- the locking rules.)
use Rattle.std.specs.Prelude.{◌≡◌, ℕ, Bool, true, ◌||◌, List, []}
use Rattle.ft_laws.specs.Calls.{Calls}
use Rattle.ft_history.specs.History.{Event, over, live_children}
use Rattle.ft_history.specs.Locks.{owns_lock}
use Rattle.ft_history.specs.Promises.{OfHistories}

module _ (C : Calls) where
  -- x owns a lock, and y owns one that conflicts with it
  pub record OwnConflicting (h : List (Event C)) (x y : ℕ) : Type 0 where
    pub one : C.Accesses → Bool
    pub other : C.Accesses → Bool
    pub conflicts : (f g : C.Accesses) → one f ≡ true → other g ≡ true → C.conflict f g ≡ true
    pub first : owns_lock C h x one ≡ true
    pub second : owns_lock C h y other ≡ true

  -- owners of conflicting locks are above one another
  pub record AreShared (first : ℕ) (h : List (Event C)) : Type 0 where
    -- If two transactions own conflicting locks, one is the other or an ancestor of it (Moss: all
    -- who retain a conflicting lock must be superiors).
    pub related : (x y : ℕ) → OwnConflicting h x y → (over C h x y || over C h y x) ≡ true
    -- A transaction without a live child therefore shares them only with its ancestors.
    pub alone : (t y : ℕ) → live_children C first h t ≡ [] → OwnConflicting h t y → over C h y t ≡ true

  -- This holds in every legal history.
  abbrev pub Sharing : Type 0
  Sharing = OfHistories C (λ base h. AreShared base.transaction h)
