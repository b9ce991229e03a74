-- Runs, which are calls made one after another from one store, and their laws. (Moss 1981, serial
-- execution and serializability: the effect of the transactions must be that of some serial order
-- of them. The laws are this project's own.)
use Rattle.std.specs.Prelude.{◌≡◌, ◌≢◌, ◌≤◌, ℕ, true, false, cond, nat_lt, List, [], ◌∷◌, ◌++◌}
use Rattle.ft_laws.specs.Lists.{Each, Pairs}
use Rattle.ft_laws.specs.Calls.{Calls, Same, Agree, PutBack, Reverts, Done, Fits, made}

module _ (C : Calls) where
  -- the store after the calls
  abbrev pub run : C.Store → List (Done C) → C.Store
  run s [] = s
  run s (c ∷ cs) = run (C.act s c.call) cs

  -- the records of the calls, made one after another for the transaction t
  abbrev pub made_all : C.Store → ℕ → List C.Call → List (Done C)
  made_all s t [] = []
  made_all s t (a ∷ more) = made C s t a ∷ made_all (C.act s a) t more

  -- P holds of each call and the store in which it is made.
  abbrev pub Along : (C.Store → Done C → Type 0) → C.Store → List (Done C) → Type 0
  Along P s [] = Unit {0}
  Along P s (c ∷ cs) = P s c × Along P (C.act s c.call) cs

  -- Each call, made in its turn, has the accesses and the reply that are kept of it.
  abbrev pub Faithful : C.Store → List (Done C) → Type 0
  Faithful = Along (Fits C)

  -- The calls may be made from s, in any order: each may be made in s,
  -- and no two have the same stamp.
  pub record Able (s : C.Store) (cs : List (Done C)) : Type 0 where
    pub sound : C.IsSound s
    pub ready : Each (λ c. C.IsReady c.call s) cs
    pub distinct : Pairs (λ a b. C.stamp a.call ≢ C.stamp b.call) cs

  -- a conflicts with none of the calls.
  abbrev pub Clear : Done C → List (Done C) → Type 0
  Clear a cs = Each (λ c. C.conflict a.accesses c.accesses ≡ false) cs

  -- If the property holds of a call in one store, it holds in each store that agrees on what the
  -- call touches.
  abbrev pub IsLocal : (C.Store → Done C → Type 0) → Type 0
  IsLocal P = (s t : C.Store) (c : Done C) → C.IsSound s → C.IsSound t → C.IsReady c.call s → C.IsReady c.call t → Fits C s c → Agree C c.accesses s t → P s c → P t c

  -- The exchange law: two neighbours without conflict can be made in the other order.
  abbrev pub Exchange : Type 0
  Exchange = (s : C.Store) (a b : Done C) → Able s (a ∷ b ∷ []) → Faithful s (a ∷ b ∷ []) → C.conflict a.accesses b.accesses ≡ false
      → Faithful s (b ∷ a ∷ []) × Same C (run s (a ∷ b ∷ [])) (run s (b ∷ a ∷ []))

  -- The deletion law: a call that conflicts with no later one can be left out. Each other call
  -- does the same, and only the cells that it wrote differ: they have their values from before it.
  abbrev pub Deletion : Type 0
  Deletion = (s : C.Store) (xs : List (Done C)) (a : Done C) (ys : List (Done C)) → Able s (xs ++ a ∷ ys) → Faithful s (xs ++ a ∷ ys) → Clear a ys
      → Faithful s (xs ++ ys) × PutBack C a.accesses (run s xs) (run s (xs ++ a ∷ ys)) (run s (xs ++ ys))

  -- Applying an inverse is a deletion. The inverse of a call that conflicts with no later one may
  -- be put to a store that is as the run left it, and gives the run without the call.
  abbrev pub Undoing : Type 0
  Undoing = (s : C.Store) (xs : List (Done C)) (a : Done C) (ys : List (Done C)) (u : C.Inverse) (t : C.Store) → Able s (xs ++ a ∷ ys) → Faithful s (xs ++ a ∷ ys) → Clear a ys
      → Reverts C (run s xs) a.call a.accesses u → Same C (run s (xs ++ a ∷ ys)) t
      → Faithful s (xs ++ ys) × C.MayRevert t u × Same C (run s (xs ++ ys)) (C.revert t u)

  -- A call that conflicts with no earlier one may go first.
  abbrev pub MayGoFirst : Type 0
  MayGoFirst = (s : C.Store) (xs : List (Done C)) (a : Done C) (ys : List (Done C)) → Able s (xs ++ a ∷ ys) → Faithful s (xs ++ a ∷ ys) → Each (λ x. C.conflict x.accesses a.accesses ≡ false) xs
      → Able s (a ∷ (xs ++ ys)) × Faithful s (a ∷ (xs ++ ys)) × Same C (run s (xs ++ a ∷ ys)) (run s (a ∷ (xs ++ ys)))

  -- the list with c put before the first call whose rank is not less
  abbrev pub insert_by : (Done C → ℕ) → Done C → List (Done C) → List (Done C)
  insert_by rank c [] = c ∷ []
  insert_by rank c (d ∷ ds) = cond (nat_lt (rank d) (rank c)) (d ∷ insert_by rank c ds) (c ∷ d ∷ ds)

  -- the calls by rising ranks, and within one rank in their order
  abbrev pub sort_by : (Done C → ℕ) → List (Done C) → List (Done C)
  sort_by rank [] = []
  sort_by rank (c ∷ cs) = insert_by rank c (sort_by rank cs)

  -- The rank respects conflicts: if two calls conflict, the rank of the later one is not less.
  abbrev pub Respects : (Done C → ℕ) → List (Done C) → Type 0
  Respects rank cs = Pairs (λ b a. C.conflict b.accesses a.accesses ≡ true → rank b ≤ rank a) cs

  -- Calls may be made by rising ranks, if the rank respects conflicts.
  abbrev pub MayBeSorted : Type 0
  MayBeSorted = (rank : Done C → ℕ) (s : C.Store) (cs : List (Done C)) → Able s cs → Faithful s cs → Respects rank cs
      → Faithful s (sort_by rank cs) × Same C (run s cs) (run s (sort_by rank cs))
