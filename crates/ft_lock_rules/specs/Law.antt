-- How the lock table follows the history of the calls on a tree. What the history says of locks is
-- defined in ft_history. (Moss, Nested Transactions, MIT 1981, the locking rules.)
use Rattle.std.specs.Prelude.{◌≡◌, ℕ, Bool, true, false, cond, not, ◌==◌, ◌&&◌, ◌||◌, Option, Some, None, List, [], ◌∷◌, map}
use Rattle.ft_laws.specs.Lists.{any}
use Rattle.ft_laws.specs.Calls.{Done}
use Rattle.ft_laws.specs.Effects.{Access as PlaceAccess}
use Rattle.ft_cells.specs.declared.cell.Cell.{Cell}
use Rattle.ft_cells.specs.CellOrder.{same_cell}
use Rattle.ft_posix.specs.declared.call.Mode.{Mode}
use Rattle.ft_posix.specs.declared.call.Mode.TheVariants.{Read as ReadMode, Write as WriteMode}
use Rattle.ft_posix.specs.declared.call.Access.{Access}
use Rattle.ft_posix.specs.Posix.{as_place, file_of, posix_calls}
use Rattle.ft_history.specs.History.{Base, Event, parent, over, IsLive, live_children}
use Rattle.ft_history.specs.History.Event.{Begin, Call, Undo, Commit, Abort}
use Rattle.ft_history.specs.Locks.{holds_lock, retains_lock, owns_lock, blockers_of, moss_blockers_of}
use Rattle.ft_history.specs.Legal.{Legal}
use Rattle.ft_forest.specs.Transactions.{Transactions, parent_in}
use Rattle.ft_lock_rules.specs.declared.line.LockLine.{LockLine}
use Rattle.ft_lock_rules.specs.declared.rule.Rule.{Rule}
use Rattle.ft_lock_rules.specs.declared.rule.Rule.TheVariants.{Profile, Moss}
use Rattle.ft_lock_rules.specs.Locks.{LockTable, no_locks, has_lock, is_locked, is_held, AreGranted, AreInherited, AreReleased, AreBlockers}
use Rattle.ft_lock_rules.specs.Rules.{is_strict}
use Rattle.ft_lock_rules.specs.Surveys.{HasItsCellsAlone, HasNoHolderAbove}

-- what has happened to the tree
abbrev pub History : Type 0
History = List (Event posix_calls)

-- an access that writes, or does not write, is in this mode
abbrev pub is_mode : Mode → Bool → Bool
is_mode ReadMode writes = not writes
is_mode WriteMode writes = writes

-- some access is to the line's cell in its mode: the test by which ft_history identifies this lock
abbrev pub is_of : LockLine → List (PlaceAccess Cell) → Bool
is_of l accesses = any (λ a. same_cell a.place l.cell && is_mode l.mode a.writes) accesses

-- The line is a lock of the history: its owner holds or retains it, by its kind (Moss, to hold and
-- to retain a lock).
abbrev pub is_lock : History → LockLine → Bool
is_lock h l = cond (is_held l.kind) (holds_lock posix_calls h l.owner (is_of l)) (retains_lock posix_calls h l.owner (is_of l))

-- The table has exactly the locks of the history.
abbrev pub AreLocksOf : History → LockTable → Type 0
AreLocksOf h t = (l : LockLine) → has_lock t l ≡ is_lock h l

-- All locks of the owners that pass the test are dropped, and other owners keep theirs (Moss,
-- abort).
abbrev pub AreDropped : LockTable → LockTable → (ℕ → Bool) → Type 0
AreDropped old new gone = (l : LockLine) → has_lock new l ≡ (not (gone l.owner) && has_lock old l)

-- P holds for each sound base, each history from it and the table with the history's locks
abbrev pub OfLocks : (Base posix_calls → History → LockTable → Type 0) → Type 0
OfLocks P = (base : Base posix_calls) → posix_calls.IsSound base.store → (h : History) (t : LockTable) → AreLocksOf h t → P base h t

-- At first there is no lock.
abbrev pub FirstLaw : Type 0
FirstLaw = AreLocksOf [] no_locks

-- A transaction that has a lock is live.
abbrev pub OwnerLaw : Type 0
OwnerLaw = OfLocks (λ base h t. Legal posix_calls base h → (l : LockLine) → has_lock t l ≡ true → IsLive posix_calls base.transaction h l.owner)

-- A begin keeps the table.
abbrev pub BeginLaw : Type 0
BeginLaw = OfLocks (λ base h t. (n : ℕ) (up : Option ℕ) → Legal posix_calls base (Begin n up ∷ h) → AreLocksOf (Begin n up ∷ h) t)

-- After a granted call, its asker is granted the accesses.
abbrev pub GrantLaw : Type 0
GrantLaw = OfLocks (λ base h t. (c : Done posix_calls) (accesses : List Access) (new : LockTable) → Legal posix_calls base (Call c ∷ h) → c.accesses ≡ map as_place accesses
    → AreGranted t new c.asker accesses → AreLocksOf (Call c ∷ h) new)

-- An undo keeps the table.
abbrev pub UndoLaw : Type 0
UndoLaw = OfLocks (λ base h t. (k : ℕ) → Legal posix_calls base (Undo k ∷ h) → AreLocksOf (Undo k ∷ h) t)

-- When a subtransaction commits, its parent inherits its locks. When a top-level transaction
-- commits, its locks are released.
pub record CommitLaw : Type 0 where
  pub under : OfLocks (λ base h t. (txn up : ℕ) (new : LockTable) → Legal posix_calls base (Commit txn ∷ h) → parent posix_calls h txn ≡ Some up → AreInherited t new txn up → AreLocksOf (Commit txn ∷ h) new)
  pub top : OfLocks (λ base h t. (txn : ℕ) (new : LockTable) → Legal posix_calls base (Commit txn ∷ h) → parent posix_calls h txn ≡ None → AreReleased t new txn → AreLocksOf (Commit txn ∷ h) new)

-- An abort drops the locks of all live transactions at or below it.
abbrev pub AbortLaw : Type 0
AbortLaw = OfLocks (λ base h t. (txn : ℕ) (gone : ℕ → Bool) (new : LockTable) → Legal posix_calls base (Abort txn ∷ h)
    → ((y : ℕ) → IsLive posix_calls base.transaction h y → gone y ≡ over posix_calls h txn y) → AreDropped t new gone → AreLocksOf (Abort txn ∷ h) new)

-- Releases one after another drop the locks of all those transactions.
abbrev pub ReleaseLaw : Type 0
ReleaseLaw = (old mid new : LockTable) (gone : ℕ → Bool) (txn : ℕ) → AreDropped old mid gone → AreReleased mid new txn → AreDropped old new (λ y. (y == txn) || gone y)

-- the blockers of a call of t by a rule, in rising order: by Moss's own, or by that of this
-- project, for which an ancestor that holds a lock is one that retains it
abbrev pub blockers_by : Rule → History → ℕ → List (PlaceAccess Cell) → List ℕ
blockers_by Profile h t accesses = blockers_of posix_calls h t accesses
blockers_by Moss h t accesses = moss_blockers_of posix_calls h t accesses

-- The blockers by the table are the blockers by the history, by either rule.
abbrev pub BlockLaw : Type 0
BlockLaw = OfLocks (λ base h t. Legal posix_calls base h → (forest : Transactions) → ((x : ℕ) → parent_in forest x ≡ parent posix_calls h x) → (rule : Rule) (txn : ℕ) (accesses : List Access) (ys : List ℕ)
    → AreBlockers rule t forest txn accesses ys → ys ≡ blockers_by rule h txn (map as_place accesses))

-- Neither rule grants a call if a transaction that is neither its asker nor an ancestor of the
-- asker owns a conflicting lock.
abbrev pub ForeignLaw : Type 0
ForeignLaw = (base : Base posix_calls) → posix_calls.IsSound base.store → (h : History) → Legal posix_calls base h → (rule : Rule) (txn : ℕ) (accesses : List (PlaceAccess Cell)) → blockers_by rule h txn accesses ≡ [] → blockers_of posix_calls h txn accesses ≡ []

-- A transaction without live children shares what it has locked only with its ancestors.
abbrev pub AloneLaw : Type 0
AloneLaw = OfLocks (λ base h t. Legal posix_calls base h → (forest : Transactions) → ((x : ℕ) → parent_in forest x ≡ parent posix_calls h x) → (txn : ℕ) → live_children posix_calls base.transaction h txn ≡ [] → HasItsCellsAlone t forest txn)

-- the forest has the parents of the history
abbrev pub HasParentsOf : History → Transactions → Type 0
HasParentsOf h forest = (x : ℕ) → parent_in forest x ≡ parent posix_calls h x

-- If all calls are granted by Moss's rule, no strict ancestor of an owner ever holds a lock that
-- conflicts with one of the owner's.
pub record HolderLaw : Type 0 where
  pub first : (forest : Transactions) → HasNoHolderAbove no_locks forest
  pub begun : OfLocks (λ base h t. (n : ℕ) (up : Option ℕ) → Legal posix_calls base (Begin n up ∷ h) → (old new : Transactions) → HasParentsOf h old → HasParentsOf (Begin n up ∷ h) new → HasNoHolderAbove t old → HasNoHolderAbove t new)
  pub granted : OfLocks (λ base h t. Legal posix_calls base h → (forest : Transactions) → HasParentsOf h forest → (rule : Rule) → is_strict rule ≡ true → (txn : ℕ) (accesses : List Access) (new : LockTable)
      → AreBlockers rule t forest txn accesses [] → AreGranted t new txn accesses → HasNoHolderAbove t forest → HasNoHolderAbove new forest)
  pub inherited : OfLocks (λ base h t. Legal posix_calls base h → (forest : Transactions) → HasParentsOf h forest → (child up : ℕ) → parent posix_calls h child ≡ Some up → (new : LockTable) → AreInherited t new child up → HasNoHolderAbove t forest → HasNoHolderAbove new forest)
  -- there is no new lock, and the parents are the same
  pub fewer : (old new : LockTable) → ((l : LockLine) → has_lock new l ≡ true → has_lock old l ≡ true) → (forest now : Transactions) → ((x : ℕ) → parent_in now x ≡ parent_in forest x) → HasNoHolderAbove old forest → HasNoHolderAbove new now

-- If a file's cell has no lock in the table, no lock of the history touches it, so it may be swept.
abbrev pub CoverLaw : Type 0
CoverLaw = OfLocks (λ base h t. (c : Cell) (file : ℕ) → file_of c ≡ Some file → is_locked t c ≡ false → (y : ℕ) → owns_lock posix_calls h y (λ accesses. posix_calls.touches accesses (Some c)) ≡ false)

-- The cell of each lock is locked.
abbrev pub LockedLaw : Type 0
LockedLaw = (t : LockTable) (l : LockLine) → has_lock t l ≡ true → is_locked t l.cell ≡ true
