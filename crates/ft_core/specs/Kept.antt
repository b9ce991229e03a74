-- The invariant of a core.
use Rattle.std.specs.Prelude.{◌≡◌, ◌≤◌, ◌+◌, ℕ, Bool, true, false, is_some, List, [], ◌∷◌, Some, None, length, map}
use Rattle.std.specs.FinMap as finite
use Rattle.ft_owned_lists.specs.OwnedLists.{Lists, list_in}
use Rattle.ft_laws.specs.Lists.{Each, Pairs, In}
use Rattle.ft_laws.specs.Effects.{Has, Write as CellWrite}
use Rattle.ft_cells.specs.declared.cell.Cell.{Cell}
use Rattle.ft_cells.specs.declared.cell.Cell.TheVariants.{Entry as EntryCell, Names as NamesCell, Parent as ParentCell, Links as LinksCell, Bytes as BytesCell, Fd as FdCell, DirAttributes as DirAttributesCell, FileAttributes as FileAttributesCell}
use Rattle.ft_cells.specs.CellOrder.{same_cell}
use Rattle.ft_cells.specs.Cells.{Cells, HasFilePlace}
use Rattle.ft_tree.specs.Held.{Holds, IsStored}
use Rattle.ft_tree.specs.Sound.{AreSoundCells}
use Rattle.ft_tree.specs.Sweep.{IsAccounted}
use Rattle.ft_tree.specs.Tidy.{tidy}
use Rattle.ft_posix.specs.Posix.{posix, posix_calls}
use Rattle.ft_posix.specs.RunLaws.{writes_cell}
use Rattle.ft_undo.specs.declared.logs.LogRecord.{LogRecord}
use Rattle.ft_undo.specs.Logs.{is_open}
use Rattle.ft_undo.specs.Undone.{given_back, CanGiveAllBack}
use Rattle.ft_forest.specs.declared.TheConstants.{LAST_NUMBER}
use Rattle.ft_forest.specs.Transactions.{Transactions, parent_in, state_in, last_in}
use Rattle.ft_lock_rules.specs.Locks.{LockTable, is_kept, is_released, is_opened}
use Rattle.ft_lock_rules.specs.Law.{AreLocksOf}
use Rattle.ft_lock_rules.specs.Rules.{is_strict}
use Rattle.ft_lock_rules.specs.Surveys.{HasNoHolderAbove}
use Rattle.ft_history.specs.History.{Base as HistoryBase, IsFresh, last_transaction, last_stamp, begun, parent, fate, grants, IsLive}
use Rattle.ft_history.specs.Core.{Entry, IsCore}
use Rattle.ft_history.specs.Undoing.{last_sub}
use Rattle.ft_core.specs.Histories.{History}
use Rattle.ft_core.specs.declared.parts.Parts.{Parts}
use Rattle.ft_core.specs.declared.limits.Limits.{Limits}
use Rattle.ft_core.specs.Limits.{greatest_limits, are_within}
use Rattle.ft_core.specs.States.{Base, State, Asks, fate_in, history}
use Rattle.ft_core.specs.Sweeps.{HasNoUselessPlace}
use Rattle.ft_core.specs.Journals.{Journaled}

-- a call that can be undone, with its inverse
abbrev pub Item : Type 0
Item = Entry posix_calls

-- what the history starts from, if the base is stored in these cells
abbrev pub start_of : Base → Cells → HistoryBase posix_calls
start_of base store = record { store = store; transaction = base.last_txn; stamp = base.last_stamp }

-- The base is a tree that is stored in some cells, and the history goes from
-- its last numbers up to these.
pub record IsStarted (base : Base) (h : History) (last_txn last_number : ℕ) : Type 0 where
  pub store : Cells
  pub sound : AreSoundCells store
  pub tree : tidy store ≡ base.tree
  pub fresh : IsFresh posix_calls (start_of base store)
  pub last_txn_is : last_txn ≡ last_transaction posix_calls base.last_txn h
  pub last_stamp_is : last_number ≡ last_stamp posix_calls base.last_stamp h
  -- no number is left out
  pub counted : base.last_txn + length (begun posix_calls h) ≡ last_txn
  pub stamped : base.last_stamp + length (grants posix_calls h) ≡ last_number
  pub within : last_number ≤ LAST_NUMBER

-- The cells are those of the standing calls, except files that a sweep took away, and the lists can
-- undo each call that has an owner: they are what a core of ft_history keeps, with sound cells.
pub record IsKept (base : Base) (h : History) (last_txn last_number : ℕ) (cells : Cells) (log : ℕ → List Item) : Type 0 where
  pub started : IsStarted base h last_txn last_number
  pub hidden : ℕ → Bool
  pub core : IsCore posix_calls (start_of base started.store) h hidden cells log
  pub sound : AreSoundCells cells

-- The transactions of the history.

-- The forest is that of the history.
pub record AreTransactions (base : Base) (h : History) (last_txn : ℕ) (forest : Transactions) : Type 0 where
  pub base_is : forest.base ≡ base.last_txn
  pub last : last_in forest ≡ last_txn
  pub parents : (x : ℕ) → parent_in forest x ≡ parent posix_calls h x
  pub fates : (x : ℕ) → fate_in (state_in forest x) ≡ fate posix_calls base.last_txn h x

-- The inverses of calls.

-- a cell with a value that it gets
abbrev pub Change : Type 0
Change = CellWrite Cell Holds

-- the file of a description that comes back is stored
abbrev pub file_is_stored : (cells : Cells) (c : Cell) → Holds c → Type 0
file_is_stored cells (EntryCell entry) to = Unit {0}
file_is_stored cells (NamesCell d) to = Unit {0}
file_is_stored cells (ParentCell d) to = Unit {0}
file_is_stored cells (LinksCell i) to = Unit {0}
file_is_stored cells (BytesCell i) to = Unit {0}
file_is_stored cells (FdCell f) None = Unit {0}
file_is_stored cells (FdCell f) (Some o) = HasFilePlace cells o.file
file_is_stored cells (DirAttributesCell d) to = Unit {0}
file_is_stored cells (FileAttributesCell i) to = Unit {0}

-- The inverse of a call is of cells that the call wrote, of each one once.
pub record IsOfWritten (e : Item) : Type 0 where
  pub before : Each (λ (w : Change). writes_cell e.done.accesses w.cell ≡ true) e.inverse.before
  pub after : Each (λ (w : Change). writes_cell e.done.accesses w.cell ≡ true) e.inverse.after
  pub apart : Pairs (λ (v w : Change). same_cell v.cell w.cell ≡ false) e.inverse.before

-- The written cells have their places, and so has each file that comes back.
pub record ArePlaced (cells : Cells) (e : Item) : Type 0 where
  pub own : IsOfWritten e
  pub written : Each (λ (w : Change). IsStored cells w.cell) e.inverse.after
  pub files : Each (λ (w : Change). file_is_stored cells w.cell w.value) e.inverse.before

-- A stored inverse does what the call's inverse does, and may do so if the cells have their places
-- and hold what the call left.
pub record TakesBack (e : Item) (x : LogRecord) : Type 0 where
  pub stamp : x.stamp ≡ e.done.call.stamp
  pub same : map given_back x.undo ≡ e.inverse.before
  pub may : (cells : Cells) → Each (λ (w : Change). IsStored cells w.cell) e.inverse.after → Has posix cells e.inverse.after → CanGiveAllBack cells x.undo

-- the list of stored inverses is that of the calls and their inverses
abbrev pub AreLogged : List Item → List LogRecord → Type 0
AreLogged [] [] = Unit {0}
AreLogged [] (x ∷ xs) = ⊥
AreLogged (e ∷ es) [] = ⊥
AreLogged (e ∷ es) (x ∷ xs) = TakesBack e x × AreLogged es xs

-- The logs have the inverse of each call in the lists, and each may be put to the cells.
pub record AreLogs (cells : Cells) (log : ℕ → List Item) (lists : Lists LogRecord) : Type 0 where
  pub logged : (t : ℕ) → AreLogged (log t) (list_in lists t)
  pub placed : (t : ℕ) (e : Item) → In e (log t) → ArePlaced cells e

-- A live transaction is open in the lock table and in the logs, and what is noted of its
-- children's commits is there.
pub record IsReady (base : Base) (h : History) (table : LockTable) (lists : Lists LogRecord) (j : Journaled) (t : ℕ) : Type 0 where
  pub locks : is_opened table t ≡ true
  pub log : is_open lists t ≡ true
  pub sub : finite.get j.subs t ≡ Some (last_sub posix_calls base.last_stamp h t)

-- what is allowed: of the tree by its base, and of the history by the forest and the journal
abbrev pub allowed : Base → Transactions → Journaled → Limits
allowed base forest j = record {
  file_size = base.tree.limits.file_size;
  links = base.tree.limits.links;
  depth = forest.limits.depth;
  transactions = forest.limits.transactions;
  calls = j.calls;
}

-- The invariant of a core: its tree, its transactions, its locks and its lists are those of its
-- history, whatever can be undone has its places, and a lock keeps each place of no use or it was
-- released.
pub record IsCoreAt (base : Base) (h : History) (asks : Asks) (last_txn last_number : ℕ) (cells : Cells) (forest : Transactions) (table : LockTable) (lists : Lists LogRecord) (j : Journaled) : Type 0 where
  pub log : ℕ → List Item
  pub kept : IsKept base h last_txn last_number cells log
  pub transactions : AreTransactions base h last_txn forest
  pub locks : AreLocksOf h table
  -- by Moss's rule no strict ancestor of an owner holds a lock that
  -- conflicts with one of the owner's
  pub no_holder : is_strict j.rule ≡ true → HasNoHolderAbove table forest
  pub logs : AreLogs cells log lists
  pub ready : (t : ℕ) → IsLive posix_calls base.last_txn h t → IsReady base h table lists j t
  -- only live transactions wait
  pub waiting : (t : ℕ) → is_some (finite.get asks t) ≡ true → IsLive posix_calls base.last_txn h t
  pub accounted : IsAccounted (is_kept table) (is_released table) cells
  -- no limit is above the greatest
  pub within : are_within (allowed base forest j) greatest_limits ≡ true
  -- if nothing has happened no place is of no use
  pub bare : h ≡ [] → HasNoUselessPlace cells

-- a state, the parts of its core and its journal are such
abbrev pub IsCoreOf : State → Parts → Journaled → Type 0
IsCoreOf s p j = IsCoreAt s.base (history s) s.asks s.last_txn s.last_stamp p.tree p.forest p.locks p.logs j
