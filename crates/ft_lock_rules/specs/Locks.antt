-- The locks of transactions, as callers see them, and what each call does to them. (Moss, Nested
-- Transactions, MIT 1981, the locking rules.)
use Rattle.std.specs.Prelude.{◌≡◌, ◌↔◌, ◌<◌, ℕ, Bool, true, false, cond, not, ◌==◌, ◌&&◌, ◌||◌, List, is_some, refl}
use Rattle.std.specs.List.{list_any}
use Rattle.std.specs.declared.cmp.Ordering.{Ordering}
use Rattle.std.specs.declared.cmp.Ordering.TheVariants.{Less}
use Rattle.std.specs.Ordering.{nat_cmp, ordering_then}
use Rattle.std.specs.Cmp.{IsTotalOrder, nat_cmp_total, on_total, then_total}
use Rattle.std.specs.FinSet as set
use Rattle.ft_cells.specs.declared.cell.Cell.{Cell}
use Rattle.ft_cells.specs.CellOrder.{cell_cmp, cell_cmp_total, same_cell}
use Rattle.ft_posix.specs.declared.call.Mode.{Mode}
use Rattle.ft_posix.specs.declared.call.Mode.TheVariants.{Read as ReadMode, Write as WriteMode}
use Rattle.ft_posix.specs.declared.call.Access.{Access}
use Rattle.ft_posix.specs.Accesses.{is_write, conflict}
use Rattle.ft_posix.specs.Posix.{file_of}
use Rattle.ft_laws.specs.Lists.{Pairs, In}
use Rattle.ft_forest.specs.Transactions.{Transactions, over_in}
use Rattle.ft_lock_rules.specs.declared.line.LockKind.{LockKind}
use Rattle.ft_lock_rules.specs.declared.line.LockKind.TheVariants.{Held, Retained}
use Rattle.ft_lock_rules.specs.declared.line.LockLine.{LockLine}
use Rattle.ft_lock_rules.specs.contracts.line.LockLine as line
use Rattle.ft_lock_rules.specs.declared.rule.Rule.{Rule}
use Rattle.ft_lock_rules.specs.Rules.{is_strict}
use Rattle.ft_lock_rules.specs.Ranks.{mode_rank, kind_rank}
use Rattle.ft_cells.specs.contracts.cell.Cell as cell
use Rattle.std.specs.Coded.{Coded, code_by, coded×, coded_bool, coded_ℕ}

-- the order of locks: by cell, then by owner, Read before Write, and Held before Retained
abbrev pub line_cmp : LockLine → LockLine → Ordering
line_cmp x y = ordering_then (cell_cmp x.cell y.cell) (ordering_then (nat_cmp x.owner y.owner) (ordering_then (nat_cmp (mode_rank x.mode) (mode_rank y.mode)) (nat_cmp (kind_rank x.kind) (kind_rank y.kind))))

-- the order is total
pub line_cmp_total : IsTotalOrder line_cmp
line_cmp_total = then_total (on_total (λ (l : LockLine). l.cell) cell_cmp_total) (then_total (on_total (λ (l : LockLine). l.owner) nat_cmp_total) (then_total (on_total (λ (l : LockLine). mode_rank l.mode) nat_cmp_total) (on_total (λ (l : LockLine). kind_rank l.kind) nat_cmp_total)))

-- the locks; the cells that were released, and neither reported nor locked since; the transactions
-- that may be given locks; and whether each lock keeps its cell from a sweep, and not only those
-- that may have emptied it
pub record LockTable : Type 0 where
  pub lines : set.FinSet line_cmp
  pub released_cells : set.FinSet cell_cmp
  pub opened : set.FinSet nat_cmp
  pub keeps_all : Bool

-- a code of lock tables, which a model needs
abbrev pub coded_table : Coded LockTable
coded_table =
    code_by (set.FinSet line_cmp × (set.FinSet cell_cmp × (set.FinSet nat_cmp × Bool))) (coded× (set.code line.the_row.coded) (coded× (set.code cell.the_row.coded) (coded× (set.code coded_ℕ) coded_bool)))
    (λ t. (t.lines, (t.released_cells, (t.opened, t.keeps_all)))) (λ p. record { lines = p.0; released_cells = p.1.0; opened = p.1.1.0; keeps_all = p.1.1.1 }) (λ _. refl)

-- no lock, no released cell, and no open transaction
abbrev pub no_locks : LockTable
no_locks = record { lines = set.empty; released_cells = set.empty; opened = set.empty; keeps_all = false }

-- the lock is there
abbrev pub has_lock : LockTable → LockLine → Bool
has_lock t line = set.contains t.lines line

-- the cell was released, and it has been neither reported nor locked since
abbrev pub is_released : LockTable → Cell → Bool
is_released t cell = set.contains t.released_cells cell

-- the transaction may be given locks: from its begin until its own commit or abort
abbrev pub is_opened : LockTable → ℕ → Bool
is_opened t txn = set.contains t.opened txn

-- any owner has a lock on the cell
abbrev pub is_locked : LockTable → Cell → Bool
is_locked t cell = list_any (λ l. same_cell l.cell cell) (set.items t.lines)

-- An access in this mode may leave the place of its cell without use: it writes, or the cell is of
-- a file. (A close only looks at the links of the file that it lets go, and writes no cell of it.)
abbrev pub may_empty : Cell → Mode → Bool
may_empty cell mode = is_write mode || is_some (file_of cell)

-- any owner has a lock on the cell by which it may have emptied the cell's place
abbrev pub may_be_emptied : LockTable → Cell → Bool
may_be_emptied t cell = list_any (λ l. same_cell l.cell cell && may_empty l.cell l.mode) (set.items t.lines)

-- a lock keeps the cell from a sweep: any lock, or one that may have emptied it
abbrev pub is_kept_by : Bool → LockTable → Cell → Bool
is_kept_by all t cell = cond all (is_locked t cell) (may_be_emptied t cell)

-- a lock keeps the cell from a sweep
abbrev pub is_kept : LockTable → Cell → Bool
is_kept t cell = is_kept_by t.keeps_all t cell

-- the place of the cell may be without use: a lock keeps it from a sweep, or a sweep is to look at
-- it
abbrev pub may_be_useless : LockTable → Cell → Bool
may_be_useless t cell = is_kept t cell || is_released t cell

-- the lock is held, not retained
abbrev pub is_held : LockKind → Bool
is_held Held = true
is_held Retained = false

-- the two modes are the same
abbrev pub same_mode : Mode → Mode → Bool
same_mode ReadMode m = not (is_write m)
same_mode WriteMode m = is_write m

-- the owner has a lock on the cell in this mode, held or retained
abbrev pub owns_lock : LockTable → ℕ → Cell → Mode → Bool
owns_lock t owner cell mode = has_lock t (record { cell = cell; owner = owner; mode = mode; kind = Held }) || has_lock t (record { cell = cell; owner = owner; mode = mode; kind = Retained })

-- an access of the list is to this cell in this mode
abbrev pub has_access : List Access → Cell → Mode → Bool
has_access accesses cell mode = list_any (λ a. same_cell a.cell cell && same_mode a.mode mode) accesses

-- an access of the list is to this cell
abbrev pub is_accessed : List Access → Cell → Bool
is_accessed accesses cell = list_any (λ a. same_cell a.cell cell) accesses

-- the line is a lock that the owner holds by one of these accesses
abbrev pub is_given : ℕ → List Access → LockLine → Bool
is_given owner accesses l = is_held l.kind && (l.owner == owner) && has_access accesses l.cell l.mode

-- an access of the list may leave the place of this cell without use
abbrev pub may_empty_cell : List Access → Cell → Bool
may_empty_cell accesses cell = list_any (λ a. same_cell a.cell cell && may_empty a.cell a.mode) accesses

-- The transaction holds the locks of the accesses, and all earlier locks are kept. A cell that it
-- locks is no longer a released one (Moss, holding a lock).
pub record AreGiven (old new : LockTable) (txn : ℕ) (accesses : List Access) : Type 0 where
  pub lines : (l : LockLine) → has_lock new l ≡ (has_lock old l || is_given txn accesses l)
  pub released_cells : (c : Cell) → is_released new c ≡ (is_released old c && not (is_accessed accesses c))
  pub opened : new.opened ≡ old.opened

-- The same, and no cell whose place may be without use is forgotten.
pub record AreGranted (old new : LockTable) (txn : ℕ) (accesses : List Access) : Type 0 where
  pub given : AreGiven old new txn accesses
  pub useless : (c : Cell) → may_be_useless old c ≡ true → may_be_useless new c ≡ true

-- The parent retains in the same mode what the child held or retained, and keeps its own. The child
-- has no lock and is closed (Moss, commit of a subtransaction).
pub record AreInherited (old new : LockTable) (child parent : ℕ) : Type 0 where
  pub lines : (l : LockLine) → has_lock new l ≡ (not (l.owner == child) && (has_lock old l || ((l.owner == parent) && not (is_held l.kind) && owns_lock old child l.cell l.mode)))
  pub released_cells : new.released_cells ≡ old.released_cells
  pub opened : new.opened ≡ set.remove old.opened child
  pub keeps_all : new.keeps_all ≡ old.keeps_all

-- The transaction has no lock and is closed, and the others keep theirs (Moss, commit of a
-- top-level transaction, and abort). A cell that locks kept from a sweep becomes a released cell
-- once none does: any locks, or those that may have emptied it.
pub record AreFreed (all : Bool) (old new : LockTable) (txn : ℕ) : Type 0 where
  pub lines : (l : LockLine) → has_lock new l ≡ (not (l.owner == txn) && has_lock old l)
  pub released_cells : (c : Cell) → is_released new c ≡ (is_released old c || (is_kept_by all old c && not (is_kept_by all new c)))
  pub opened : new.opened ≡ set.remove old.opened txn

-- The same, by all locks if each keeps its cell from a sweep before or afterwards. Where only those
-- that may have emptied it do so afterwards, no cell is locked any more.
pub record AreReleased (old new : LockTable) (txn : ℕ) : Type 0 where
  pub freed : AreFreed (old.keeps_all || new.keeps_all) old new txn
  pub free : new.keeps_all ≡ false → (c : Cell) → is_locked new c ≡ false

-- the access that the lock is of
abbrev pub line_access : LockLine → Access
line_access l = record { cell = l.cell; mode = l.mode }

-- A lock counts against a call of txn if its owner is neither txn nor an ancestor of txn (Moss: all
-- who retain a conflicting lock must be superiors). By Moss's rule, it also counts if an ancestor
-- holds it (Moss: no other transaction may hold a conflicting lock). By the other rule, of this
-- project, an ancestor that holds a lock is treated as one that retains it.
abbrev pub counts : Rule → Transactions → ℕ → LockLine → Bool
counts rule forest txn l = not (over_in forest l.owner txn) || (is_strict rule && is_held l.kind && not (l.owner == txn))

-- y owns a lock that counts against a call of txn with these accesses
-- and conflicts with one of them
pub record IsInTheWay (rule : Rule) (t : LockTable) (forest : Transactions) (txn : ℕ) (accesses : List Access) (y : ℕ) : Type 0 where
  pub line : LockLine
  pub there : has_lock t line ≡ true
  pub owner : line.owner ≡ y
  pub conflicts : list_any (λ a. conflict (line_access line) a) accesses ≡ true
  pub counted : counts rule forest txn line ≡ true

-- The blockers of a call: the owners of such locks, in rising order and each once.
pub record AreBlockers (rule : Rule) (t : LockTable) (forest : Transactions) (txn : ℕ) (accesses : List Access) (ys : List ℕ) : Type 0 where
  pub rising : Pairs (λ x y. x < y) ys
  pub sound : (y : ℕ) → In y ys → IsInTheWay rule t forest txn accesses y
  pub all : (y : ℕ) → IsInTheWay rule t forest txn accesses y → In y ys

-- The list has each lock once, in their order.
pub record AreListed (t : LockTable) (lines : List LockLine) : Type 0 where
  pub order : Pairs (λ x y. line_cmp x y ≡ Less) lines
  pub exact : (l : LockLine) → In l lines ↔ (has_lock t l ≡ true)
