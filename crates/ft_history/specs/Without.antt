-- Each rule is needed. These laws lack a part of a rule, or reverse it, and each has what refutes
-- it. All of them are false of the tiny tree, by histories of two to seven events, as public
-- functions of this crate state. Definitions were also changed in a copy, and the check then failed
-- (in brackets the first lemmas of `proofs` that failed):
-- - aborts: a live transaction left out of the order (History.lists_order), each list oldest first
--   (Aborting.take_push), a parent's list before its child's (History.newest_order), the child's
--   list dropped at its commit (Machine.machine_core, History.sound_commit) or added to its
--   parent's as older (Kept.joined_kept), only the end of the transaction itself considered
--   (History.owner_live);
-- - begins, calls and commits: a subtransaction of one that has ended (History.begin_forest), a
--   stamp used twice (History.call_newer), a commit with a live child (History.sound_commit);
-- - locks: only holders block (History.unblocked_over), only the asker owns (History.owner_there),
--   ancestors reported too (Locks.blockers); at a commit what is inherited is held, the parent's
--   own locks are lost, only held locks are inherited, or the child keeps its own; at an abort only
--   its own locks are discarded, or those of superiors too; at an undo locks are released
--   (Locks.lock_rules);
-- - ownership without its strong part (Kept.covered); an undo with a live child (Legal.both_all),
--   or past the commit of a child (Undoing.found);
-- - sweeps of a file that a lock covers, even if it is retained, of one that something names, or of
--   a number above the last stamp (Methods.core_swept);
-- - the serial order by another order of commits (Serial.roots_committed), or with separate places
--   for subtransactions (Serial.call_pair);
-- - counts of only the transaction's own calls (Promises.abort_count); calls or undos of others in
--   a transaction that ran alone (Promises.own_grants, not_undone); a committed transaction below
--   an aborted one aborted too, or an abort of only one transaction (Fates.fate_rules); ended
--   children listed (History.child_listed).
use Rattle.std.specs.Prelude.{◌≡◌, ◌<◌, ◌≤◌, ℕ, Bool, true, false, not, ◌==◌, Option, Some, None, List, [], ◌∷◌, ◌++◌, reverse}
use Rattle.ft_laws.specs.Lists.{Pairs, In}
use Rattle.ft_laws.specs.Calls.{Calls, Same, Done, Fits}
use Rattle.ft_laws.specs.Laws.{Hides}
use Rattle.ft_laws.specs.Runs.{Faithful, Able}
use Rattle.ft_history.specs.Logs.{passing, joined}
use Rattle.ft_history.specs.History.{Base, Event, number, last_stamp, parent, over, newest_below, IsLive, live_children, standing}
use Rattle.ft_history.specs.History.Event.{Call, Undo, Abort}
use Rattle.ft_history.specs.Locks.{holds_lock}
use Rattle.ft_history.specs.Undoing.{undo_target}
use Rattle.ft_history.specs.Undoing.Target.{Found}
use Rattle.ft_history.specs.Legal.{outcome, MayCommit, Allowed}
use Rattle.ft_history.specs.Ledger.{lists}
use Rattle.ft_history.specs.Orders.{IsInFront}
use Rattle.ft_history.specs.Core.{Entry, take_back, machine}
use Rattle.ft_history.specs.Promises.{OfHistories}
use Rattle.ft_history.specs.Serial.{committed_roots, calls_under, open_part}

-- If there are two owners, the first is at or above the second. If there is only a first, this says
-- nothing.
abbrev pub CoversWeakly : (ℕ → ℕ → Bool) → Option ℕ → Option ℕ → Type 0
CoversWeakly above (Some y) (Some x) = above y x ≡ true
CoversWeakly above o w = Unit {0}

-- there is an owner, and it is at or below t
abbrev pub is_owned_below : (ℕ → ℕ → Bool) → ℕ → Option ℕ → Bool
is_owned_below above t None = false
is_owned_below above t (Some x) = above t x

module _ (C : Calls) where
  -- The ownership law without its strong part is enough for an abort. (A live transaction makes a
  -- directory, and a committed one makes a file in it. The first aborts, and the file's call is
  -- left without its directory.)
  abbrev pub WeakOwnership : Type 0
  WeakOwnership = (above : ℕ → ℕ → Bool) (owner : Done C → Option ℕ) (s : C.Store) (cs : List (Done C)) (t : ℕ) → Able C s cs → Faithful C s cs
      → Pairs (λ b a. C.conflict b.accesses a.accesses ≡ true → CoversWeakly above (owner b) (owner a)) cs
      → Faithful C s (passing (λ c. not (is_owned_below above t (owner c))) cs)

  -- An abort takes each list oldest first. (A file made and unlinked under one name comes back.)
  abbrev pub AbortOldestFirst : Type 0
  AbortOldestFirst = OfHistories C (λ base h. (t : ℕ) → IsLive C base.transaction h t
      → Same C (outcome C base (Abort t ∷ h)) (take_back C (joined (λ x. reverse ((machine C base h).log x)) (newest_below C h t)) (machine C base h).store))

  -- An abort takes the lists by rising transaction number, each parent's before its child's. (The
  -- parent makes the file, and the child unlinks it.)
  abbrev pub AbortRising : Type 0
  AbortRising = OfHistories C (λ base h. (t : ℕ) → IsLive C base.transaction h t
      → Same C (outcome C base (Abort t ∷ h)) (take_back C (joined (machine C base h).log (reverse (newest_below C h t))) (machine C base h).store))

  -- An abort skips the calls of committed children. (A committed child's directory stays.)
  abbrev pub AbortOwnAlone : Type 0
  AbortOwnAlone = OfHistories C (λ base h. (t : ℕ) → IsLive C base.transaction h t
      → Same C (outcome C base (Abort t ∷ h)) (take_back C (joined (λ x. passing (λ e. e.done.asker == x) ((machine C base h).log x)) (newest_below C h t)) (machine C base h).store))

  -- An abort takes only t's own list, and leaves those of its live descendants.
  abbrev pub AbortLeavesDescendants : Type 0
  AbortLeavesDescendants = OfHistories C (λ base h. (t : ℕ) → IsLive C base.transaction h t → Same C (outcome C base (Abort t ∷ h)) (take_back C ((machine C base h).log t) (machine C base h).store))

  -- A commit adds the child's list to the parent's as older than all of it.
  abbrev pub CommitInFront : Type 0
  CommitInFront = OfHistories C (λ base h. (t p : ℕ) → parent C h t ≡ Some p → MayCommit C base.transaction h t → Pairs (IsInFront C) (lists C h p ++ lists C h t))

  -- Only transactions that hold a conflicting lock block the call: the locks that a parent would
  -- inherit at a child's commit are released.
  pub record MayGrantLoosely (base : Base C) (h : List (Event C)) (c : Done C) : Type 0 where
    pub live : IsLive C base.transaction h c.asker
    pub next : last_stamp C base.stamp h < number C c
    pub ready : C.IsReady c.call base.store
    pub fits : Fits C (outcome C base h) c
    pub unblocked : (y : ℕ) → holds_lock C h y (λ f. C.conflict f c.accesses) ≡ true → over C h y c.asker ≡ true

  -- each event was allowed under this looser rule when it came
  abbrev pub LooselyLegal : Base C → List (Event C) → Type 0
  LooselyLegal base [] = Unit {0}
  LooselyLegal base (Call c ∷ h) = MayGrantLoosely base h c × LooselyLegal base h
  LooselyLegal base (other ∷ h) = Allowed C base h other × LooselyLegal base h

  -- The locks are released at a child's commit. (A third transaction makes a file in the committed
  -- child's directory. The parent aborts, and the file's call then has another reply.)
  abbrev pub LocksLetGo : Type 0
  LocksLetGo = (base : Base C) → C.IsSound base.store → (h : List (Event C)) → LooselyLegal base h → Faithful C base.store (standing C h)

  -- The newest inverse of a live transaction's list may be put to the store even if a child is
  -- live. (The child has unlinked the file whose making would be undone.)
  abbrev pub RevertOverChild : Type 0
  RevertOverChild = OfHistories C (λ base h. (t : ℕ) (e : Entry C) (es : List (Entry C)) → IsLive C base.transaction h t → (machine C base h).log t ≡ e ∷ es → C.MayRevert (machine C base h).store e.inverse)

  -- An undo may undo a call although a child is live. (The parent's file is removed after its live
  -- child has looked at it.)
  abbrev pub UndoOverChild : Type 0
  UndoOverChild = OfHistories C (λ base h. (t : ℕ) (d : Done C) → IsLive C base.transaction h t → undo_target C h t ≡ Found d → Faithful C base.store (standing C (Undo (number C d) ∷ h)))

  -- An undo undoes the newest standing call of t's own, even if a child's commit came after it.
  -- (The file is removed after the committed child has looked at it.)
  abbrev pub UndoPastCommit : Type 0
  UndoPastCommit = OfHistories C (λ base h. (t : ℕ) (d : Done C) → IsLive C base.transaction h t → live_children C base.transaction h t ≡ [] → In d (standing C h) → d.asker ≡ t
      → ((c : Done C) → In c (standing C h) → c.asker ≡ t → number C c ≤ number C d) → Faithful C base.store (standing C (Undo (number C d) ∷ h)))

  -- The committed transactions are made in the reverse order of commit. (One makes a file and
  -- commits, another looks at it and commits.)
  abbrev pub SerialReversed : Type 0
  SerialReversed = OfHistories C (λ base h. Faithful C base.store (joined (calls_under C h) (reverse (committed_roots C h)) ++ open_part C h))

  -- A sweep drops a file that nothing names, although a lock covers it. (The file has no name,
  -- because of an unlink that is then aborted.)
  abbrev pub SweepLocked : Type 0
  SweepLocked = OfHistories C (λ base h. (hidden : C.File → Bool) (new : C.Store) → Hides C hidden (machine C base h).store new → (t : ℕ) → IsLive C base.transaction h t
      → Hides C hidden (outcome C base (Abort t ∷ h)) (take_back C (joined (machine C base h).log (newest_below C h t)) new))
