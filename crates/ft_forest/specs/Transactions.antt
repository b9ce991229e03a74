-- The transactions of a forest: how they are nested, and the state of each. `Forest` of ft_history
-- defines when a transaction is above another, by the parents in a forest. (Moss is J. E. B. Moss,
-- Nested Transactions, MIT 1981. A definition that names no source is a rule of this project.)
use Rattle.std.specs.Prelude.{◌≡◌, ◌≢◌, ◌<◌, ◌≤◌, ◌⊎◌, ◌+◌, ◌-◌, ◌==◌, ◌&&◌, ℕ, zero, suc, Bool, true, false, cond, nat_lt, Option, Some, None, List, [], length, slice_get, count_by}
use Rattle.ft_history.specs.Forest.{above, is_some_and, map_or}
use Rattle.ft_history.specs.Logs.{put}
use Rattle.ft_forest.specs.declared.limits.ForestLimits.{ForestLimits}
use Rattle.ft_forest.specs.declared.state.State.{State}
use Rattle.ft_forest.specs.declared.state.State.TheVariants.{Live, Committed, Aborted}

-- the parent, if it is a subtransaction, and the state
pub record Transaction : Type 0 where
  pub parent : Option ℕ
  pub state : State

-- The transactions begun since a base, in the order of their numbers, and their limits. The numbers
-- continue from the base's last one.
pub record Transactions : Type 0 where
  pub limits : ForestLimits
  pub base : ℕ
  pub list : List Transaction

-- no transaction has begun since this base
abbrev pub none_since : ForestLimits → ℕ → Transactions
none_since limits base = record { limits = limits; base = base; list = [] }

-- the transaction with this number, if there is one since the base
abbrev pub transaction_in : Transactions → ℕ → Option Transaction
transaction_in m t = cond (nat_lt m.base t) (slice_get m.list (t - (m.base + 1))) None

-- the parent, if there is a transaction and it has one
abbrev pub parent_of : Option Transaction → Option ℕ
parent_of None = None
parent_of (Some x) = x.parent

-- the state, if there is a transaction
abbrev pub state_of : Option Transaction → Option State
state_of None = None
state_of (Some x) = Some x.state

-- the parent of the transaction with this number, if there is a transaction and it has one
abbrev pub parent_in : Transactions → ℕ → Option ℕ
parent_in m t = parent_of (transaction_in m t)

-- the state of the transaction with this number, if there is one
abbrev pub state_in : Transactions → ℕ → Option State
state_in m t = state_of (transaction_in m t)

-- the last transaction's number, or the base's last one
abbrev pub last_in : Transactions → ℕ
last_in m = m.base + length m.list

-- y is x or an ancestor of x (Moss: a superior)
abbrev pub over_in : Transactions → ℕ → ℕ → Bool
over_in m = above (parent_in m)

-- it has not ended
abbrev pub is_live_state : State → Bool
is_live_state Live = true
is_live_state Committed = false
is_live_state Aborted = false

-- there is a transaction, and it has not ended
abbrev pub is_live : Option State → Bool
is_live None = false
is_live (Some state) = is_live_state state

-- how many transactions there are on the way up from x, within so many steps, including x itself
abbrev pub depth_within : (ℕ → Option ℕ) → ℕ → ℕ → ℕ
depth_within parent zero x = 1
depth_within parent (suc n) x = map_or 1 (parent x) (λ p. suc (depth_within parent n p))

-- A top-level transaction has depth 1, and a subtransaction one more than its parent.
abbrev pub depth_in : Transactions → ℕ → ℕ
depth_in m t = depth_within (parent_in m) t t

-- x is live, and a child of the parent; without a parent, it is live at the top level (Moss: a
-- parent may not commit before its children have ended)
pub record IsLiveUnder (m : Transactions) (parent : Option ℕ) (x : ℕ) : Type 0 where
  pub child : parent_in m x ≡ parent
  pub live : state_in m x ≡ Some Live

-- x is a live child of t
abbrev pub IsLiveChild : Transactions → ℕ → ℕ → Type 0
IsLiveChild m t x = IsLiveUnder m (Some t) x

-- the youngest live child, which has the greatest number, if there is one; without a parent, the
-- youngest live top-level transaction
abbrev pub IsYoungestChild : Transactions → Option ℕ → Option ℕ → Type 0
IsYoungestChild m parent None = (x : ℕ) → IsLiveUnder m parent x → ⊥
IsYoungestChild m parent (Some y) = IsLiveUnder m parent y × ((x : ℕ) → IsLiveUnder m parent x → x ≤ y)

-- the youngest of t's live siblings that are older, if there is one
abbrev pub IsOlderSibling : Transactions → ℕ → Option ℕ → Type 0
IsOlderSibling m t None = (x : ℕ) → IsLiveUnder m (parent_in m t) x → t ≤ x
IsOlderSibling m t (Some y) = IsLiveUnder m (parent_in m t) y × (y < t) × ((x : ℕ) → IsLiveUnder m (parent_in m t) x → (x ≤ y) ⊎ (t ≤ x))

-- the transaction is a live child of t
abbrev pub is_live_child : ℕ → Transaction → Bool
is_live_child t x = is_some_and x.parent (λ p. p == t) && is_live_state x.state

-- how many live children t has
abbrev pub live_children_in : Transactions → ℕ → ℕ
live_children_in m t = count_by (is_live_child t) m.list

-- how many numbers below n pass the test
abbrev pub count_below : (ℕ → Bool) → ℕ → ℕ
count_below test zero = 0
count_below test (suc n) = count_below test n + cond (test n) 1 0

-- how many transactions are live
abbrev pub live_count : Transactions → ℕ
live_count m = count_below (λ x. is_live (state_in m x)) (suc (last_in m))

-- there is one more live transaction, with the next number and this parent, and all else is
-- unchanged
pub record HasBegun (old new : Transactions) (up : Option ℕ) : Type 0 where
  pub limits : new.limits ≡ old.limits
  pub base : new.base ≡ old.base
  pub last : last_in new ≡ last_in old + 1
  pub parents : (x : ℕ) → parent_in new x ≡ put (parent_in old) (last_in old + 1) up x
  pub states : (x : ℕ) → state_in new x ≡ put (state_in old) (last_in old + 1) (Some Live) x

-- the transactions now have these states, and nothing else has changed
pub record HaveStates (old new : Transactions) (now : ℕ → Option State) : Type 0 where
  pub limits : new.limits ≡ old.limits
  pub base : new.base ≡ old.base
  pub last : last_in new ≡ last_in old
  pub parents : (x : ℕ) → parent_in new x ≡ parent_in old x
  pub states : (x : ℕ) → state_in new x ≡ now x

-- t has ended, with this state, and all others keep theirs (Moss: commit of a transaction)
abbrev pub HasEnded : Transactions → Transactions → ℕ → State → Type 0
HasEnded old new t state = HaveStates old new (put (state_in old) t (Some state))

-- t is aborted, with everything live at or below it (Moss: the abort of a superior aborts its live
-- inferiors; what had committed stays committed)
abbrev pub HasAborted : Transactions → Transactions → ℕ → Type 0
HasAborted old new t = HaveStates old new (λ x. cond (over_in old t x && is_live (state_in old x)) (Some Aborted) (state_in old x))

-- x is live, at or below t, and has no live child (Moss: children end before their parents)
pub record IsNextToEnd (m : Transactions) (t x : ℕ) : Type 0 where
  pub below : over_in m t x ≡ true
  pub live : state_in m x ≡ Some Live
  pub no_child : (y : ℕ) → IsLiveChild m x y → ⊥

-- An abort of t is in progress: the only change since the old transactions is that some of the live
-- ones at or below t are aborted.
pub record IsAborting (old now : Transactions) (t : ℕ) : Type 0 where
  pub limits : now.limits ≡ old.limits
  pub base : now.base ≡ old.base
  pub last : last_in now ≡ last_in old
  pub parents : (x : ℕ) → parent_in now x ≡ parent_in old x
  pub states : (x : ℕ) → (state_in now x ≡ state_in old x) ⊎ ((over_in old t x ≡ true) × (state_in old x ≡ Some Live) × (state_in now x ≡ Some Aborted))

-- The transaction that an abort of t in progress aborted last, or at first t itself. If it is not
-- t, it is below t, and its parent is live.
abbrev pub IsLastOf : Transactions → ℕ → ℕ → Type 0
IsLastOf m t last = last ≢ t → (over_in m t last ≡ true) × ((p : ℕ) → parent_in m last ≡ Some p → state_in m p ≡ Some Live)
