-- Transactions above one another. A parent has a smaller number than its child, so a walk up from x
-- has at most x steps.
use Rattle.std.specs.Prelude.{◌≡◌, ◌<◌, ℕ, Bool, false, cond, ◌==◌, ◌||◌, Option, Some, None, zero, suc}

-- there is a number, and it passes the test
abbrev pub is_some_and : Option ℕ → (ℕ → Bool) → Bool
is_some_and None p = false
is_some_and (Some x) p = p x

-- what follows from the number, if there is one
abbrev pub and_then : Option ℕ → (ℕ → Option ℕ) → Option ℕ
and_then None f = None
and_then (Some x) f = f x

-- what follows from the number, or the other value if there is none
abbrev pub map_or : ℕ → Option ℕ → (ℕ → ℕ) → ℕ
map_or other None f = other
map_or other (Some x) f = f x

module _ (parent : ℕ → Option ℕ) where
  -- a parent was begun before its child (Moss: the transaction tree)
  abbrev pub IsForest : Type 0
  IsForest = (x p : ℕ) → parent x ≡ Some p → p < x

  -- y is met within so many steps on the way up from x
  abbrev pub meets : ℕ → ℕ → ℕ → Bool
  meets zero y x = y == x
  meets (suc k) y x = (y == x) || is_some_and (parent x) (meets k y)

  -- y is x or an ancestor of x (Moss: a superior)
  abbrev pub above : ℕ → ℕ → Bool
  above y x = meets x y x

  -- the first transaction on the way up from x, within so many steps, that isn't skipped
  abbrev pub first_up : (ℕ → Bool) → ℕ → ℕ → Option ℕ
  first_up skip zero x = cond (skip x) None (Some x)
  first_up skip (suc k) x = cond (skip x) (and_then (parent x) (first_up skip k)) (Some x)

  -- the nearest transaction at or above x that isn't skipped
  abbrev pub nearest : (ℕ → Bool) → ℕ → Option ℕ
  nearest skip x = first_up skip x x

  -- the last transaction on the way up from x, within so many steps
  abbrev pub last_up : ℕ → ℕ → ℕ
  last_up zero x = x
  last_up (suc k) x = map_or x (parent x) (last_up k)

  -- the top-level transaction at or above x
  abbrev pub root : ℕ → ℕ
  root x = last_up x x
