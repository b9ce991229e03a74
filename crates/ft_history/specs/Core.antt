-- A core: one store, changed in place, and for each transaction a list of inverses.
use Rattle.std.specs.Prelude.{◌≡◌, ◌<◌, ℕ, Bool, true, false, Option, Some, None, List, [], ◌∷◌, map}
use Rattle.ft_laws.specs.Lists.{In}
use Rattle.ft_laws.specs.Calls.{Calls, Reverts, Done, Fits}
use Rattle.ft_laws.specs.Laws.{is_hidden, Hides}
use Rattle.ft_laws.specs.Hiding.{Unseen}
use Rattle.ft_laws.specs.Runs.{Along}
use Rattle.ft_history.specs.Logs.{joined, pushed, popped, handed, emptied}
use Rattle.ft_history.specs.History.{Base, Event, number, last_transaction, last_stamp, parent, over, newest_below, IsLive, owner_of, standing}
use Rattle.ft_history.specs.History.Event.{Begin, Call, Undo, Commit, Abort}
use Rattle.ft_history.specs.Locks.{owns_lock, blockers_of}
use Rattle.ft_history.specs.Legal.{outcome, Legal}
use Rattle.ft_history.specs.Ledger.{asker_of, lists}

module _ (C : Calls) where
  -- a call that can be undone, with its inverse (Moss, state restoration)
  pub record Entry : Type 0 where
    pub done : Done C
    pub inverse : C.Inverse

  -- the store after the inverses of a list are put to it, from the newest on
  abbrev pub take_back : List Entry → C.Store → C.Store
  take_back [] s = s
  take_back (e ∷ es) s = take_back es (C.revert s e.inverse)

  -- each of these inverses may be put to the store when its turn comes
  abbrev pub MayTakeBack : List Entry → C.Store → Type 0
  MayTakeBack [] s = Unit {0}
  MayTakeBack (e ∷ es) s = C.MayRevert s e.inverse × MayTakeBack es (C.revert s e.inverse)

  -- one store, and for each transaction a list of inverses
  pub record Machine : Type 0 where
    pub store : C.Store
    pub log : ℕ → List Entry

  -- the machine after a granted call: the call is made, and its inverse is kept
  abbrev pub grant : Machine → Done C → Machine
  grant m c = record { store = C.act m.store c.call; log = pushed m.log c.asker (record { done = c; inverse = C.inverse m.store c.call }) }

  -- the store after the newest inverse of the list is put to it
  abbrev pub take_newest : List Entry → C.Store → C.Store
  take_newest [] s = s
  take_newest (e ∷ es) s = C.revert s e.inverse

  -- the machine after the newest call of the asker's list is undone
  abbrev pub undo : Machine → Option ℕ → Machine
  undo m None = m
  undo m (Some t) = record { store = take_newest (m.log t) m.store; log = popped m.log (Some t) }

  -- what a core does with a history: the store is changed in place, and no call is ever made again
  abbrev pub machine : Base C → List (Event C) → Machine
  machine base [] = record { store = base.store; log = λ t. [] }
  machine base (Begin n p ∷ h) = machine base h
  machine base (Call c ∷ h) = grant (machine base h) c
  machine base (Undo k ∷ h) = undo (machine base h) (asker_of C h k)
  machine base (Commit t ∷ h) = record { store = (machine base h).store; log = handed (machine base h).log t (parent C h t) }
  machine base (Abort t ∷ h) = record {
    store = take_back (joined (machine base h).log (newest_below C h t)) (machine base h).store;
    log = emptied (over C h) (machine base h).log t;
  }

  -- the inverses that the lists have for c revert it, if it was made at the store s
  abbrev pub AreInverses : (ℕ → List Entry) → C.Store → Done C → Type 0
  AreInverses log s c = (u : C.Inverse) (t : ℕ) → In (record { done = c; inverse = u }) (log t) → Reverts C s c.call c.accesses u

  -- A live transaction's call can be made in the core's store s, with the inverse u, and nothing
  -- blocks it.
  pub record IsMade (base : Base C) (h : List (Event C)) (s : C.Store) (c : Done C) (u : C.Inverse) : Type 0 where
    pub live : IsLive C base.transaction h c.asker
    pub next : last_stamp C base.stamp h < number C c
    pub ready : C.IsReady c.call base.store
    pub fits : Fits C s c
    pub unblocked : blockers_of C h c.asker c.accesses ≡ []
    pub inverse : Reverts C s c.call c.accesses u

  -- A sweep hides more files, which nothing stored names and no lock covers. It blanks their cells
  -- and changes no other cell (POSIX.1-2017, unlink and close: a file without a name and without an
  -- open description is gone).
  pub record IsSweep (first : ℕ) (h : List (Event C)) (hidden more : C.File → Bool) (s new : C.Store) : Type 0 where
    pub kept : (i : C.File) → hidden i ≡ true → more i ≡ true
    pub old : (a : C.Call) → last_stamp C first h < C.stamp a → more (C.own a) ≡ false
    pub unnamed : (x : C.Cell) (i : C.File) → more i ≡ true → C.names x (C.cell s x) i ≡ false
    pub unlocked : (y : ℕ) (x : C.Cell) → is_hidden C more x ≡ true → is_hidden C hidden x ≡ false → owns_lock C h y (λ f. C.touches f x) ≡ false
    pub others : (x : C.Cell) → is_hidden C more x ≡ false → C.cell new x ≡ C.cell s x
    pub blanked : (x : C.Cell) → is_hidden C more x ≡ true → C.cell new x ≡ C.blank x

  -- The base of a checkpoint: the store as it is, with the last transaction and the last stamp.
  abbrev pub checkpoint : Base C → List (Event C) → C.Store → Base C
  checkpoint base h s = record { store = s; transaction = last_transaction C base.transaction h; stamp = last_stamp C base.stamp h }

  -- The invariant of a core, where the files that its sweeps dropped are hidden.
  pub record IsCore (base : Base C) (h : List (Event C)) (hidden : C.File → Bool) (s : C.Store) (log : ℕ → List Entry) : Type 0 where
    pub legal : Legal C base h
    -- The store is that of the standing calls, without the hidden files.
    pub store : Hides C hidden (outcome C base h) s
    -- The lists are those of the ledger.
    pub listed : (t : ℕ) → map (λ e. e.done) (log t) ≡ lists C h t
    -- Each inverse in the lists reverts its call.
    pub inverses : Along C (AreInverses log) base.store (standing C h)
    -- What a standing call with an owner touched is not hidden: its locks protect it from a sweep.
    pub spared : (c : Done C) (y : ℕ) → In c (standing C h) → owner_of C h c.asker ≡ Some y → Unseen C hidden c.accesses
    -- A new file is not hidden.
    pub old : (a : C.Call) → last_stamp C base.stamp h < C.stamp a → hidden (C.own a) ≡ false
