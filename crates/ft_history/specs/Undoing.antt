-- What an undo undoes, and what it means to have run alone.
use Rattle.std.specs.Prelude.{◌≡◌, ℕ, Bool, Option, None, true, cond, ◌==◌, ◌&&◌, Some, List, [], ◌∷◌, ◌++◌}
use Rattle.ft_laws.specs.Lists.{Each, In}
use Rattle.ft_laws.specs.Calls.{Calls, Done}
use Rattle.ft_history.specs.History.{Event, number, last_stamp, is_child, over, IsLive, live_children, grants, is_standing}
use Rattle.ft_history.specs.History.Event.{Begin, Call, Undo, Commit, Abort}

module _ (C : Calls) where
  -- What an undo of t finds, searching back from the newest event: a standing call of t's own, the
  -- commit of a child of t, or neither.
  pub data Target : Type 0 where
    Found : Done C → Target
    SubSince : Target
    Nothing : Target

  -- c is a standing call of t's own
  abbrev pub is_own : List (Event C) → ℕ → Done C → Bool
  is_own all t c = (c.asker == t) && is_standing C all c

  -- what a search finds in these events, the older part of the whole history `all`
  abbrev pub find_back : List (Event C) → ℕ → List (Event C) → Target
  find_back all t [] = Nothing
  find_back all t (Call c ∷ h) = cond (is_own all t c) (Found c) (find_back all t h)
  find_back all t (Commit u ∷ h) = cond (is_child C h t u) SubSince (find_back all t h)
  find_back all t (other ∷ h) = find_back all t h

  -- the undo target of t (a rule of this project)
  abbrev pub undo_target : List (Event C) → ℕ → Target
  undo_target h t = find_back h t h

  -- the last stamp at the time when a child of t last committed: a commit of a child sets it, and
  -- no other event changes it
  abbrev pub last_sub : ℕ → List (Event C) → ℕ → Option ℕ
  last_sub first [] t = None
  last_sub first (Commit u ∷ h) t = cond (is_child C h t u) (Some (last_stamp C first h)) (last_sub first h t)
  last_sub first (other ∷ h) t = last_sub first h t

  -- An undo of t may undo the call d: t is live and has no live child, and an undo finds d.
  pub record MayUndo (first : ℕ) (h : List (Event C)) (t : ℕ) (d : Done C) : Type 0 where
    pub live : IsLive C first h t
    pub no_child : live_children C first h t ≡ []
    pub target : undo_target h t ≡ Found d

  -- The event is a begin, a commit, or a call, an undo or an abort of t or a transaction below it.
  abbrev pub IsWithin : List (Event C) → ℕ → Event C → Type 0
  IsWithin all t (Begin n p) = Unit {0}
  IsWithin all t (Call c) = over C all t c.asker ≡ true
  IsWithin all t (Undo k) = (c : Done C) → In c (grants C all) → number C c ≡ k → over C all t c.asker ≡ true
  IsWithin all t (Commit u) = Unit {0}
  IsWithin all t (Abort u) = over C all t u ≡ true

  -- t is live, and began right after the history `before`. All calls, undos and aborts since then
  -- are of t or of transactions below it (a rule of this project).
  pub record RanAlone (first : ℕ) (all : List (Event C)) (t : ℕ) (before : List (Event C)) : Type 0 where
    pub live : IsLive C first all t
    pub up : Option ℕ
    pub later : List (Event C)
    pub split : all ≡ later ++ Begin t up ∷ before
    pub within : Each (IsWithin all t) later
