-- The place to which the front of a path leads a transaction.
use Rattle.std.specs.Prelude.{◌≡◌, ◌≢◌, ℕ, List, [], ◌∷◌, Option, None, Some}
use Rattle.ft_laws.specs.Lists.{In}
use Rattle.ft_cells.specs.declared.cell.Cell.{Cell}
use Rattle.ft_cells.specs.declared.cell.Cell.TheVariants.{Entry as EntryCell}
use Rattle.ft_cells.specs.declared.entry.Entry.{Entry as EntryOf}
use Rattle.ft_cells.specs.Cells.{Cells}
use Rattle.ft_tree.specs.declared.front.Front.{Front}
use Rattle.ft_tree.specs.Views.{view_of}
use Rattle.ft_tree.specs.Fronts.{Leads, front_entries}
use Rattle.ft_cells.specs.Looks.{View}
use Rattle.ft_posix.specs.declared.call.Access.{Access}
use Rattle.ft_posix.specs.declared.intent.Edit.{Edit}
use Rattle.ft_posix.specs.declared.intent.Edit.TheVariants.{Entry, Parent, Links, Overwrite, Resize, Open, DirAttributes, FileAttributes, Time}
use Rattle.ft_posix.specs.Besides.{reads_of}
use Rattle.ft_forest.specs.Transactions.{Transactions}
use Rattle.ft_lock_rules.specs.Locks.{LockTable, AreGranted}
use Rattle.ft_lock_rules.specs.Surveys.{HasItsCellsAlone}
use Rattle.ft_core.specs.declared.memo.Memo.{Memo}

-- The front leads to its directory, and the transaction holds the lock of a read of each entry on
-- its way.
pub record IsHeld (cells : Cells) (table : LockTable) (txn : ℕ) (front : Front) : Type 0 where
  pub leads : Leads (view_of cells) front
  pub held : AreGranted table table txn (reads_of (front_entries front))

-- so it is with the front that there may be
abbrev pub IsHeldIfAny : Cells → LockTable → ℕ → Option Front → Type 0
IsHeldIfAny cells table txn None = Unit {0}
IsHeldIfAny cells table txn (Some front) = IsHeld cells table txn front

-- if there is one, the transaction shares what it has locked only with its ancestors
abbrev pub IsAloneIfAny : LockTable → Transactions → ℕ → Option Front → Type 0
IsAloneIfAny table forest txn None = Unit {0}
IsAloneIfAny table forest txn (Some front) = HasItsCellsAlone table forest txn

-- a memo is true
abbrev pub IsTrueOf : Memo → Cells → LockTable → Type 0
IsTrueOf memo cells table = (txn : ℕ) → memo.txn ≡ Some txn → IsHeld cells table txn memo.front

-- none of these entries is in the directory
abbrev pub StandElsewhere : List Cell → ℕ → Type 0
StandElsewhere entries dir = (e : EntryOf) → In (EntryCell e) entries → e.dir ≢ dir

-- so it is of the entries that are edited
abbrev pub AreElsewhere : List Cell → List Edit → Type 0
AreElsewhere entries [] = Unit {0}
AreElsewhere entries (Entry entry to ∷ es) = StandElsewhere entries entry.dir × AreElsewhere entries es
AreElsewhere entries (Parent d to ∷ es) = AreElsewhere entries es
AreElsewhere entries (Links i to ∷ es) = AreElsewhere entries es
AreElsewhere entries (Overwrite i at bytes ∷ es) = AreElsewhere entries es
AreElsewhere entries (Resize i size ∷ es) = AreElsewhere entries es
AreElsewhere entries (Open f to ∷ es) = AreElsewhere entries es
AreElsewhere entries (DirAttributes d to ∷ es) = AreElsewhere entries es
AreElsewhere entries (FileAttributes i to ∷ es) = AreElsewhere entries es
AreElsewhere entries (Time i to ∷ es) = AreElsewhere entries es

-- a memo that still knows a front knew it before, and none of these edits is of an entry in a
-- directory on its way
abbrev pub KeepsUnpassed : Memo → Memo → List Edit → Type 0
KeepsUnpassed old new edits = (txn : ℕ) → new.txn ≡ Some txn → (old.txn ≡ Some txn) × (new.front ≡ old.front) × AreElsewhere (front_entries old.front) edits

-- these are the reads of the entries on the way of a front that leads there
pub record IsLearnt (v : View) (front : Front) (reads : List Access) : Type 0 where
  pub leads : Leads v front
  pub reads_are : reads ≡ reads_of (front_entries front)
