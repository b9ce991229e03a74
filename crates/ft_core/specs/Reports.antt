-- The reports of a core: its locks, which transaction waits for which, and live children.
use Rattle.std.specs.Prelude.{◌≡◌, ◌<◌, ◌↔◌, ◌++◌, ℕ, true, Option, Some, None, List, [], ◌∷◌, map}
use Rattle.std.specs.FinMap as finite
use Rattle.std.specs.Ordering.{nat_cmp, ordering_then}
use Rattle.std.specs.declared.cmp.Ordering.{Ordering}
use Rattle.std.specs.declared.cmp.Ordering.TheVariants.{Less}
use Rattle.ft_laws.specs.Lists.{Pairs, In}
use Rattle.ft_posix.specs.declared.call.Call.{Call}
use Rattle.ft_lock_rules.specs.declared.line.LockLine.{LockLine}
use Rattle.ft_lock_rules.specs.Locks.{line_cmp}
use Rattle.ft_lock_rules.specs.Law.{is_lock}
use Rattle.ft_forest.specs.Transactions.{Transactions, parent_in}
use Rattle.ft_history.specs.History.Fate.{Live}
use Rattle.ft_core.specs.declared.reports.Pending.{Pending}
use Rattle.ft_core.specs.declared.reports.LiveChild.{LiveChild}
use Rattle.ft_core.specs.States.{State, history, fate_of, live_children, accesses_now}
use Rattle.ft_core.specs.Steps.{exact_rule}

-- The list has each lock of the history once: by cell, owner, mode and kind (Moss
-- 1981, holding and retaining).
pub record AreLockLines (s : State) (lines : List LockLine) : Type 0 where
  pub order : Pairs (λ x y. line_cmp x y ≡ Less) lines
  pub exact : (l : LockLine) → In l lines ↔ (is_lock (history s) l ≡ true)

-- the blockers of a call now: by the rule, with the accesses that the call has on the tree of the
-- state
abbrev pub blockers_now : State → ℕ → Call → List ℕ
blockers_now s t call = exact_rule s t (accesses_now s call)

-- each of these with the blockers of its call
abbrev pub waits_from : State → List (ℕ × Call) → List (ℕ × List ℕ)
waits_from s asks = map (λ ask. (ask.0, blockers_now s ask.0 ask.1)) asks

-- each transaction that waits for a call, in rising order, with its blockers now
abbrev pub waits : State → List (ℕ × List ℕ)
waits s = waits_from s (finite.entries s.asks)

-- what is listed of one that waits, as such a pair
abbrev pub as_wait : Pending → ℕ × List ℕ
as_wait p = (p.txn, p.blockers.items)

-- these waits are listed after those that were
abbrev pub AddsWaits : List Pending → List Pending → List (ℕ × List ℕ) → Type 0
AddsWaits old new added = map as_wait new ≡ map as_wait old ++ added

-- its blockers are in rising order, each once
abbrev pub HasRisingBlockers : Pending → Type 0
HasRisingBlockers p = Pairs (λ x y. x < y) p.blockers.items

-- by parent, and then by child
abbrev pub child_cmp : LiveChild → LiveChild → Ordering
child_cmp x y = ordering_then (nat_cmp x.parent y.parent) (nat_cmp x.child y.child)

-- The list has each live transaction with each live child once: by parent, and then by child
-- (Moss: a parent waits for its live children).
pub record AreLiveChildren (s : State) (list : List LiveChild) : Type 0 where
  pub order : Pairs (λ x y. child_cmp x y ≡ Less) list
  pub exact : (x : LiveChild) → In x list ↔ ((fate_of s x.parent ≡ Some Live) × In x.child (live_children s x.parent))

-- the child with its parent, if it has one, and the rest
abbrev pub below : Option ℕ → ℕ → List LiveChild → List LiveChild
below None child rest = rest
below (Some parent) child rest = record { parent = parent; child = child } ∷ rest

-- those of these transactions that have a parent, each with its parent
abbrev pub with_parents : Transactions → List ℕ → List LiveChild
with_parents forest [] = []
with_parents forest (x ∷ xs) = below (parent_in forest x) x (with_parents forest xs)
