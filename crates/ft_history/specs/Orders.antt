-- How owners and lists order two calls, and in which order an abort takes its lists.
use Rattle.std.specs.Prelude.{◌≡◌, ◌≢◌, ◌<◌, ℕ, Bool, true, false, Option, Some, None, List}
use Rattle.ft_laws.specs.Lists.{Each, Pairs, In}
use Rattle.ft_laws.specs.Calls.{Calls, Done}
use Rattle.ft_history.specs.History.{Event, number, over, IsLive}

-- If there is a first owner, there is a second one, at or below the first.
abbrev pub Covers : (ℕ → ℕ → Bool) → Option ℕ → Option ℕ → Type 0
Covers above None x = Unit {0}
Covers above (Some y) None = ⊥
Covers above (Some y) (Some x) = above y x ≡ true

module _ (C : Calls) where
  -- b was granted before a. If they conflict and b has an owner, a has an owner too, at or below
  -- b's.
  abbrev pub IsNested : (ℕ → ℕ → Bool) → (Done C → Option ℕ) → Done C → Done C → Type 0
  IsNested above owner b a = C.conflict b.accesses a.accesses ≡ true → Covers above (owner b) (owner a)

  -- a comes before b in a list: it is another call, and a later one if they conflict.
  abbrev pub IsInFront : Done C → Done C → Type 0
  IsInFront a b = (number C a ≢ number C b) × (C.conflict a.accesses b.accesses ≡ true → number C b < number C a)

  -- An order of transactions in which an abort of t may take their lists. (A rule of this project.)
  pub record IsAbortOrder (first : ℕ) (h : List (Event C)) (t : ℕ) (xs : List ℕ) : Type 0 where
    -- All that are listed are at or below t.
    pub below : Each (λ x. over C h t x ≡ true) xs
    -- None comes after itself or after one above it: each comes once, and before its parent.
    pub before : Pairs (λ x y. over C h x y ≡ false) xs
    -- No live transaction at or below t is left out.
    pub all : (x : ℕ) → over C h t x ≡ true → IsLive C first h x → In x xs
