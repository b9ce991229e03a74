-- The serial order: the committed transactions one after another, then the others.
use Rattle.std.specs.Prelude.{◌≡◌, ◌<◌, ◌↔◌, ℕ, true, cond, not, is_some, ◌==◌, List, [], ◌∷◌, ◌++◌, ◌⊎◌, suc}
use Rattle.ft_laws.specs.Lists.{Pairs, In, any}
use Rattle.ft_laws.specs.Calls.{Calls, Same, Done}
use Rattle.ft_laws.specs.Runs.{run, Faithful, Able}
use Rattle.ft_history.specs.Forest.{root}
use Rattle.ft_history.specs.Logs.{passing, joined}
use Rattle.ft_history.specs.History.{Base, Event, parent, standing}
use Rattle.ft_history.specs.History.Event.{Commit}
use Rattle.ft_history.specs.Legal.{outcome, Legal}
use Rattle.ft_history.specs.Promises.{OfHistories}

-- the place at which a number first occurs in a list, or the list's length if it is not there
abbrev pub place : List ℕ → ℕ → ℕ
place [] x = 0
place (r ∷ rs) x = cond (x == r) 0 (suc (place rs x))

module _ (C : Calls) where
  -- the top-level transaction at or above a call's asker
  abbrev pub root_of : List (Event C) → Done C → ℕ
  root_of h c = root (parent C h) c.asker

  -- the committed top-level transactions, in order of commit
  abbrev pub committed_roots : List (Event C) → List ℕ
  committed_roots [] = []
  committed_roots (Commit t ∷ h) = cond (is_some (parent C h t)) (committed_roots h) (committed_roots h ++ t ∷ [])
  committed_roots (other ∷ h) = committed_roots h

  -- the standing calls at or below a top-level transaction, oldest first
  abbrev pub calls_under : List (Event C) → ℕ → List (Done C)
  calls_under h r = passing (λ c. root_of h c == r) (standing C h)

  -- the standing calls of each committed top-level transaction, in order of commit
  abbrev pub committed_part : List (Event C) → List (Done C)
  committed_part h = joined (calls_under h) (committed_roots h)

  -- all other standing calls, oldest first
  abbrev pub open_part : List (Event C) → List (Done C)
  open_part h = passing (λ c. not (any (λ r. root_of h c == r) (committed_roots h))) (standing C h)

  -- the serial list (a rule of this project)
  abbrev pub serial_list : List (Event C) → List (Done C)
  serial_list h = committed_part h ++ open_part h

  -- b was granted before a. If they conflict, either they have the same root, or b's root
  -- committed, and a's root committed later or not at all.
  abbrev pub IsSerialPair : List (Event C) → Done C → Done C → Type 0
  IsSerialPair h b a = C.conflict b.accesses a.accesses ≡ true → (root_of h b ≡ root_of h a) ⊎ (place (committed_roots h) (root_of h b) < place (committed_roots h) (root_of h a))

  -- the serial order law
  abbrev pub SerialOrder : Type 0
  SerialOrder = OfHistories C (λ base h. Pairs (IsSerialPair h) (standing C h))

  -- The calls can be made from the base, and no two have the same stamp. Each then has its recorded
  -- accesses and reply.
  pub record AreMade (base : Base C) (cs : List (Done C)) : Type 0 where
    pub able : Able C base.store cs
    pub replies : Faithful C base.store cs

  -- the serial list can be made, and leaves the same store
  pub record IsSerial (base : Base C) (h : List (Event C)) : Type 0 where
    -- The serial list has exactly the standing calls.
    pub all : (c : Done C) → In c (serial_list h) ↔ In c (standing C h)
    -- Made in that order, the calls leave the same store.
    pub made : AreMade base (serial_list h)
    pub store : Same C (outcome C base h) (run C base.store (serial_list h))
    -- The committed part alone can be made.
    pub committed : AreMade base (committed_part h)

  -- The serial store: this holds for every legal history.
  abbrev pub Serial : Type 0
  Serial = OfHistories C IsSerial

  -- the calls that an event adds to the committed part: the commit of a top-level transaction adds
  -- those at or below it
  abbrev pub newly_committed : List (Event C) → Event C → List (Done C)
  newly_committed h (Commit t) = cond (is_some (parent C h t)) [] (calls_under h t)
  newly_committed h other = []

  -- What has committed stays: an event leaves the committed part as it is. Only the commit of a
  -- top-level transaction adds to it: the calls at or below the transaction, at the end.
  abbrev pub CommittedSteps : Type 0
  CommittedSteps = (base : Base C) → C.IsSound base.store → (h : List (Event C)) (e : Event C) → Legal C base (e ∷ h) → committed_part (e ∷ h) ≡ committed_part h ++ newly_committed h e
