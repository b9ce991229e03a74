-- What is promised of every legal history, for any calls C.
use Rattle.std.specs.Prelude.{◌≡◌, ◌↔◌, ◌≢◌, ◌<◌, ◌≤◌, ◌+◌, ℕ, Bool, Option, Some, None, List, [], ◌∷◌, length, true, false}
use Rattle.ft_laws.specs.Lists.{Pairs, In}
use Rattle.ft_laws.specs.Calls.{Calls, Same, Done}
use Rattle.ft_laws.specs.Laws.{Hides}
use Rattle.ft_laws.specs.Runs.{Faithful}
use Rattle.ft_history.specs.Logs.{passing, joined, pushed, put, handed, emptied}
use Rattle.ft_history.specs.History.{Base, IsFresh, Event, number, last_stamp, parent, over, newest_below, IsLive, live_children, owner_of, grants, standing}
use Rattle.ft_history.specs.History.Event.{Begin, Call, Undo, Commit, Abort}
use Rattle.ft_history.specs.Fates.{AreNumbered, AreLiveChildren, FatesAfter}
use Rattle.ft_history.specs.Locks.{owns_lock, is_blocker, blockers_of, is_moss_blocker, moss_blockers_of, LocksAfter}
use Rattle.ft_history.specs.Undoing.{last_sub, undo_target, MayUndo, RanAlone}
use Rattle.ft_history.specs.Undoing.Target.{Found, SubSince, Nothing}
use Rattle.ft_history.specs.Legal.{outcome, MayBegin, MayCommit, Legal}
use Rattle.ft_history.specs.Ledger.{lists}
use Rattle.ft_history.specs.Orders.{IsNested, IsInFront, IsAbortOrder}
use Rattle.ft_history.specs.Core.{Entry, take_back, MayTakeBack, machine, IsMade, IsSweep, checkpoint, IsCore}

-- ys are the transactions that pass the test, each once and in the order of their numbers
pub record AreThose (test : ℕ → Bool) (ys : List ℕ) : Type 0 where
  pub rising : Pairs (λ x y. x < y) ys
  pub exact : (y : ℕ) → In y ys ↔ (test y ≡ true)

module _ (C : Calls) where
  -- P holds of each history that is legal from a sound base
  abbrev pub OfHistories : (Base C → List (Event C) → Type 0) → Type 0
  OfHistories P = (base : Base C) → C.IsSound base.store → (h : List (Event C)) → Legal C base h → P base h

  -- the store is that of the standing calls alone
  pub record IsHeadline (base : Base C) (h : List (Event C)) : Type 0 where
    -- The store that was changed in place is that of the standing calls alone, made one after
    -- another from the base.
    pub store : Same C (outcome C base h) (machine C base h).store
    -- Each standing call then has its recorded accesses and reply.
    pub replies : Faithful C base.store (standing C h)
    -- The standing calls are in the order of their stamps.
    pub order : Pairs (λ b a. number C b < number C a) (standing C h)

  -- the headline
  abbrev pub Headline : Type 0
  Headline = OfHistories IsHeadline

  -- The ownership law. If two standing calls conflict and the earlier one has an owner, the later
  -- one has an owner too. The earlier call's owner is at or above the later call's owner. A call
  -- that remains therefore never depends on a call that is removed.
  abbrev pub Ownership : Type 0
  Ownership = OfHistories (λ base h. Pairs (IsNested C (over C h) (λ c. owner_of C h c.asker)) (standing C h))

  -- The log-order law: in each list, a call comes before every older call that it conflicts with.
  abbrev pub LogOrder : Type 0
  LogOrder = OfHistories (λ base h. (t : ℕ) → Pairs (IsInFront C) (lists C h t))

  -- The abort-order law. Amid the calls of others, an abort may take the lists in any order in
  -- which each comes before its parent's. It takes each list from its newest end. This leaves the
  -- store of the remaining standing calls, whatever files were swept before.
  abbrev pub AbortOrder : Type 0
  AbortOrder = (base : Base C) → C.IsSound base.store → (h : List (Event C)) (hidden : C.File → Bool) (s : C.Store) (log : ℕ → List (Entry C)) → IsCore C base h hidden s log
      → (t : ℕ) (xs : List ℕ) → IsLive C base.transaction h t → IsAbortOrder C base.transaction h t xs → Hides C hidden (outcome C base (Abort t ∷ h)) (take_back C (joined log xs) s)

  -- The standing calls and the store are the same as before.
  pub record IsAsBefore (base : Base C) (after before : List (Event C)) : Type 0 where
    pub standing : standing C after ≡ standing C before
    pub store : Same C (machine C base after).store (machine C base before).store

  -- If the asker of the call just made has no live child, an undo finds that call and gives back
  -- the store before it.
  abbrev pub JustMade : Type 0
  JustMade = (base : Base C) → C.IsSound base.store → (h : List (Event C)) (c : Done C) → Legal C base (Call c ∷ h) → live_children C base.transaction (Call c ∷ h) c.asker ≡ []
      → MayUndo C base.transaction (Call c ∷ h) c.asker c × IsAsBefore base (Undo (number C c) ∷ Call c ∷ h) h

  -- The abort of a transaction that ran alone gives back the store of its begin.
  abbrev pub AbortAlone : Type 0
  AbortAlone = OfHistories (λ base h. (t : ℕ) (before : List (Event C)) → RanAlone C base.transaction h t before → IsAsBefore base (Abort t ∷ h) before)

  -- Transactions are numbered one after another.
  abbrev pub Numbered : Type 0
  Numbered = OfHistories (λ base h. AreNumbered C base.transaction h)

  -- the live children of each transaction
  abbrev pub LiveChildren : Type 0
  LiveChildren = OfHistories (λ base h. (t : ℕ) → AreLiveChildren C base.transaction h t)

  -- A transaction is live from its begin until it commits, or until it or one above it is aborted.
  abbrev pub FateRules : Type 0
  FateRules = (base : Base C) → C.IsSound base.store → (h : List (Event C)) (e : Event C) → Legal C base (e ∷ h) → FatesAfter C base.transaction e h

  -- Moss's lock rules hold for the locks of every history.
  abbrev pub LockRules : Type 0
  LockRules = (base : Base C) → C.IsSound base.store → (h : List (Event C)) (e : Event C) → Legal C base (e ∷ h) → LocksAfter C e h

  -- the owners of calls and locks are live
  pub record AreLiveOwners (first : ℕ) (h : List (Event C)) : Type 0 where
    -- the owner of a granted call is live, and at or above its asker
    pub above : (c : Done C) (y : ℕ) → In c (grants C h) → owner_of C h c.asker ≡ Some y → IsLive C first h y × (over C h y c.asker ≡ true)
    -- an owner of a lock is therefore live
    pub live : (y : ℕ) (test : C.Accesses → Bool) → owns_lock C h y test ≡ true → IsLive C first h y
    -- a live transaction owns its calls itself
    pub itself : (t : ℕ) → IsLive C first h t → owner_of C h t ≡ Some t

  -- Owners are live.
  abbrev pub LiveOwners : Type 0
  LiveOwners = OfHistories (λ base h. AreLiveOwners base.transaction h)

  -- the blockers of a call, each once and in the order of their numbers
  pub record AreBlockers (h : List (Event C)) (t : ℕ) (f : C.Accesses) : Type 0 where
    -- All blockers are listed: an owner is live and therefore begun, so none is missed.
    pub own : AreThose (is_blocker C h t f) (blockers_of C h t f)
    -- The same holds for the blockers by Moss's own rule.
    pub moss : AreThose (is_moss_blocker C h t f) (moss_blockers_of C h t f)
    -- That rule grants no call that the other rule refuses.
    pub stricter : moss_blockers_of C h t f ≡ [] → blockers_of C h t f ≡ []

  -- The blockers of a call of t with any accesses, by both rules.
  abbrev pub Blockers : Type 0
  Blockers = OfHistories (λ base h. (t : ℕ) (f : C.Accesses) → AreBlockers h t f)

  -- how many standing calls are at or below t
  abbrev pub calls_below : List (Event C) → ℕ → ℕ
  calls_below h t = length (passing (λ c. over C h t c.asker) (standing C h))

  -- what an abort of t removes, if its lists are taken in this order
  pub record IsAbortCount (h : List (Event C)) (t : ℕ) (xs : List ℕ) : Type 0 where
    -- This many calls are removed.
    pub calls : length (standing C (Abort t ∷ h)) + calls_below h t ≡ length (standing C h)
    -- As many entries are undone.
    pub entries : length (joined (lists C h) xs) ≡ calls_below h t

  -- An abort removes all standing calls at or below the transaction, and puts as many inverses to
  -- the store. This holds in whichever order it takes the lists.
  abbrev pub AbortCount : Type 0
  AbortCount = OfHistories (λ base h. (t : ℕ) (xs : List ℕ) → IsLive C base.transaction h t → IsAbortOrder C base.transaction h t xs → IsAbortCount h t xs)

  -- An abort may take the lists from the newest transaction on.
  abbrev pub NewestFirst : Type 0
  NewestFirst = OfHistories (λ base h. (t : ℕ) → IsAbortOrder C base.transaction h t (newest_below C h t))

  -- the list of t has each standing call that t owns, once, and no other call
  pub record IsExact (first : ℕ) (h : List (Event C)) (t : ℕ) : Type 0 where
    pub owned : (c : Done C) → In c (lists C h t) → In c (standing C h) × (owner_of C h c.asker ≡ Some t)
    pub all : (c : Done C) → In c (standing C h) → owner_of C h c.asker ≡ Some t → In c (lists C h t)
    pub once : Pairs (λ a b. number C a ≢ number C b) (lists C h t)
    pub live : lists C h t ≢ [] → IsLive C first h t

  -- The ledger has one entry for each standing call with an owner, in its owner's list, and no
  -- other entry. Only live transactions therefore have lists.
  abbrev pub ExactLedger : Type 0
  ExactLedger = OfHistories (λ base h. (t : ℕ) → IsExact base.transaction h t)

  -- what an undo of t finds, by two stamps
  pub record IsTargetByStamps (first : ℕ) (h : List (Event C)) (t : ℕ) : Type 0 where
    -- the newest of t's list, if it came after the last commit of a child
    pub found : (d : Done C) (ds : List (Done C)) → lists C h t ≡ d ∷ ds → ((k : ℕ) → last_sub C first h t ≡ Some k → k < number C d) → undo_target C h t ≡ Found d
    -- a child's commit, if it came after all of the list
    pub since : (k : ℕ) → last_sub C first h t ≡ Some k → ((d : Done C) (ds : List (Done C)) → lists C h t ≡ d ∷ ds → number C d ≤ k) → undo_target C h t ≡ SubSince
    -- neither, if there is no such commit and the list is empty
    pub nothing : last_sub C first h t ≡ None → lists C h t ≡ [] → undo_target C h t ≡ Nothing

  -- The newest call of a live transaction's list and the last commit of a child decide what an undo
  -- finds.
  abbrev pub TargetByStamps : Type 0
  TargetByStamps = OfHistories (λ base h. (t : ℕ) → IsLive C base.transaction h t → IsTargetByStamps base.stamp h t)

  -- The commit of u sets the stamp of its parent's last child commit to the last stamp. It changes
  -- that of no other transaction.
  pub record IsSubCommitted (first : ℕ) (h : List (Event C)) (u : ℕ) : Type 0 where
    pub under : (p : ℕ) → parent C h u ≡ Some p → (t : ℕ) → last_sub C first (Commit u ∷ h) t ≡ put (last_sub C first h) p (Some (last_stamp C first h)) t
    pub top : parent C h u ≡ None → (t : ℕ) → last_sub C first (Commit u ∷ h) t ≡ last_sub C first h t

  -- The stamp of the last child commit, after a commit. No other event changes it, by its
  -- definition.
  abbrev pub SubCommits : Type 0
  SubCommits = (first : ℕ) (h : List (Event C)) (u : ℕ) → IsSubCommitted first h u

  -- P holds of each core: of a sound base, a history, the hidden files, a store and lists
  abbrev pub OfCores : ((base : Base C) → List (Event C) → (C.File → Bool) → C.Store → (ℕ → List (Entry C)) → Type 0) → Type 0
  OfCores P = (base : Base C) → C.IsSound base.store → (h : List (Event C)) (hidden : C.File → Bool) (s : C.Store) (log : ℕ → List (Entry C)) → IsCore C base h hidden s log → P base h hidden s log

  -- A begin: the store and the lists stay as they are.
  abbrev pub BeginKeeps : Type 0
  BeginKeeps = OfCores (λ base h hidden s log. (n : ℕ) (p : Option ℕ) → MayBegin C base.transaction h n p → IsCore C base (Begin n p ∷ h) hidden s log)

  -- An ask, with any files hidden: the call is made, and its inverse is added to the asker's list.
  abbrev pub AskKeeps : Type 0
  AskKeeps = OfCores (λ base h hidden s log. (c : Done C) (u : C.Inverse) → IsMade C base h s c u
      → IsCore C base (Call c ∷ h) hidden (C.act s c.call) (pushed log c.asker (record { done = c; inverse = u })))

  -- An undo: the newest entry of t's list has the undo target. Its inverse may be put to the store,
  -- and the undo does so.
  abbrev pub UndoKeeps : Type 0
  UndoKeeps = OfCores (λ base h hidden s log. (t : ℕ) (d : Done C) → MayUndo C base.transaction h t d
      → (u : C.Inverse) × (es : List (Entry C)) × (log t ≡ record { done = d; inverse = u } ∷ es) × C.MayRevert s u × IsCore C base (Undo (number C d) ∷ h) hidden (C.revert s u) (put log t es))

  -- A commit: the store stays as it is, and the list is added to the parent's, as newer.
  abbrev pub CommitKeeps : Type 0
  CommitKeeps = OfCores (λ base h hidden s log. (t : ℕ) → MayCommit C base.transaction h t → IsCore C base (Commit t ∷ h) hidden s (handed log t (parent C h t)))

  -- An abort: the lists may be taken in any order in which each comes before its parent's, each
  -- from its newest end. Every inverse may be put to the store when its turn comes. All these lists
  -- are empty afterwards.
  abbrev pub AbortKeeps : Type 0
  AbortKeeps = OfCores (λ base h hidden s log. (t : ℕ) (xs : List ℕ) → IsLive C base.transaction h t → IsAbortOrder C base.transaction h t xs
      → MayTakeBack C (joined log xs) s × IsCore C base (Abort t ∷ h) hidden (take_back C (joined log xs) s) (emptied (over C h) log t))

  -- A sweep: the history stays as it is, and more files are hidden.
  abbrev pub SweepKeeps : Type 0
  SweepKeeps = OfCores (λ base h hidden s log. (more : C.File → Bool) (new : C.Store) → IsSweep C base.stamp h hidden more s new → IsCore C base h more new log)

  -- The store is sound as a base, and with no history it is a core. A number that was fresh stays
  -- fresh.
  pub record IsCheckpoint (base : Base C) (h : List (Event C)) (s : C.Store) (log : ℕ → List (Entry C)) : Type 0 where
    pub sound : C.IsSound s
    pub core : IsCore C (checkpoint C base h s) [] (λ i. false) s log
    pub fresh : IsFresh C base → IsFresh C (checkpoint C base h s)

  -- A checkpoint: if no transaction is live, the history can be forgotten, and what was fresh stays
  -- fresh.
  abbrev pub CheckpointKeeps : Type 0
  CheckpointKeeps = OfCores (λ base h hidden s log. ((t : ℕ) → IsLive C base.transaction h t → ⊥) → IsCheckpoint base h s log)
