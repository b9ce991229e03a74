-- How transactions are numbered, and what their fates are.
use Rattle.std.specs.Prelude.{◌≡◌, ◌<◌, ◌≤◌, ◌↔◌, ◌&&◌, ℕ, false, cond, Some, None, List, ◌∷◌}
use Rattle.ft_laws.specs.Lists.{Pairs, In}
use Rattle.ft_laws.specs.Calls.{Calls}
use Rattle.ft_history.specs.Logs.{put}
use Rattle.ft_history.specs.History.{Event, last_transaction, begun, parent, over, is_committed, is_gone, fate, is_live, IsLive, live_children}
use Rattle.ft_history.specs.History.Fate.{Live, Committed, Aborted}
use Rattle.ft_history.specs.History.Event.{Begin, Call, Undo, Commit, Abort}

module _ (C : Calls) where
  -- The numbers of transactions continue from `first`, the base's last one (a rule of this
  -- project).
  pub record AreNumbered (first : ℕ) (h : List (Event C)) : Type 0 where
    -- They rise in the order of the begins, and none is left out.
    pub rising : Pairs (λ x y. x < y) (begun C h)
    pub complete : (x : ℕ) → In x (begun C h) ↔ ((first < x) × (x ≤ last_transaction C first h))
    -- A parent was begun before its child.
    pub parents : (x p : ℕ) → parent C h x ≡ Some p → (first < p) × (p < x) × (x ≤ last_transaction C first h)
    -- A later number has no parent, has not committed and is not gone.
    pub later : (x : ℕ) → last_transaction C first h < x → (parent C h x ≡ None) × (is_committed C h x ≡ false) × (is_gone C h x ≡ false)

  -- the effect of each event on the fates
  abbrev pub FatesAfter : ℕ → Event C → List (Event C) → Type 0
  -- The new transaction is live.
  FatesAfter first (Begin n p) h = (x : ℕ) → fate C first (Begin n p ∷ h) x ≡ put (fate C first h) n (Some Live) x
  FatesAfter first (Call c) h = (x : ℕ) → fate C first (Call c ∷ h) x ≡ fate C first h x
  FatesAfter first (Undo k) h = (x : ℕ) → fate C first (Undo k ∷ h) x ≡ fate C first h x
  -- t is committed.
  FatesAfter first (Commit t) h = (x : ℕ) → fate C first (Commit t ∷ h) x ≡ put (fate C first h) t (Some Committed) x
  -- What is live at or below t becomes aborted. What had committed there stays committed (Moss: the
  -- abort of a superior undoes all below it).
  FatesAfter first (Abort t) h = (x : ℕ) → fate C first (Abort t ∷ h) x ≡ cond (over C h t x && is_live (fate C first h x)) (Some Aborted) (fate C first h x)

  -- The list has all live children of t, each once, in the order of their numbers.
  pub record AreLiveChildren (first : ℕ) (h : List (Event C)) (t : ℕ) : Type 0 where
    pub rising : Pairs (λ x y. x < y) (live_children C first h t)
    pub exact : (x : ℕ) → In x (live_children C first h t) ↔ (IsLive C first h x × (parent C h x ≡ Some t))
