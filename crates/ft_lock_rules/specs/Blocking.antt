-- Which owners block an access, cell by cell.
use Rattle.std.specs.Prelude.{◌≡◌, ◌==◌, ◌&&◌, ◌||◌, ℕ, Bool, true, false, cond, not, List, Option, Some, None, unwrap_or}
use Rattle.std.specs.List.{list_any}
use Rattle.std.specs.Ordering.{nat_cmp}
use Rattle.std.specs.FinMap as finite
use Rattle.ft_cells.specs.declared.cell.Cell.{Cell}
use Rattle.ft_cells.specs.declared.cell.Cell.TheVariants.{Entry, Names, Parent, Links, Bytes, Fd, DirAttributes, FileAttributes}
use Rattle.ft_posix.specs.declared.call.Mode.{Mode}
use Rattle.ft_posix.specs.declared.call.Access.{Access}
use Rattle.ft_lock_rules.specs.declared.lock_modes.LockModes.{LockModes}
use Rattle.ft_lock_rules.specs.declared.cell_locks.OwnerLocks.{OwnerLocks}
use Rattle.ft_lock_rules.specs.declared.rule.Rule.{Rule}
use Rattle.ft_lock_rules.specs.Rules.{is_strict}
use Rattle.ft_lock_rules.specs.LockModes.{no_marks, held_of, conflicts_with}
use Rattle.ft_lock_rules.specs.CellLocks.{Owners}
use Rattle.ft_laws.specs.Lists.{In}
use Rattle.ft_forest.specs.Transactions.{Transactions, over_in}
use Rattle.ft_lock_rules.specs.Cells.{Cells, Keyed, marks_at}

-- the numbers of the blockers that were found
abbrev pub Found : Type 0
Found = finite.FinMap nat_cmp (Unit {0})

-- those that pass the test are added
abbrev pub AreNoted : Found → Found → (ℕ → Bool) → Type 0
AreNoted old new p = (u : ℕ) → finite.contains_key new u ≡ (finite.contains_key old u || p u)

-- which of an owner's locks on a cell count
abbrev pub Counted : Type 0
Counted = ℕ → LockModes → LockModes

-- The locks that count against a call of txn. All locks of an owner count if it is neither txn nor
-- an ancestor of txn. Those of txn itself do not count. By Moss's rule, the locks that an ancestor
-- holds count.
abbrev pub against : Rule → Transactions → ℕ → Counted
against rule forest txn u marks = cond (over_in forest u txn) (cond (is_strict rule && not (u == txn)) (held_of marks) no_marks) marks

-- one of the locks that count conflicts with an access in this mode, if the owner has a place there
abbrev pub is_in_way : Counted → ℕ → Option LockModes → Mode → Bool
is_in_way counted u None mode = false
is_in_way counted u (Some marks) mode = conflicts_with (counted u marks) mode

-- whether an owner's locks on a cell count and conflict with an access in this mode to a cell that
-- overlaps it
abbrev pub way : Counted → Cells → Cell → Mode → ℕ → Bool
way counted m c mode u = is_in_way counted u (marks_at m c u) mode

-- whether an owner's locks among the holders of the cell, if there are any, count and conflict
abbrev pub is_holder_in_way : Counted → Option Owners → Mode → ℕ → Bool
is_holder_in_way counted holders mode u = is_in_way counted u (finite.get (unwrap_or holders finite.empty) u) mode

-- whether an owner's locks in a list of holders count and conflict
abbrev pub is_listed_in_way : Counted → List OwnerLocks → Mode → ℕ → Bool
is_listed_in_way counted list mode u = list_any (λ h. (h.owner == u) && conflicts_with (counted u h.marks) mode) list

-- the cell is an entry of this directory
abbrev pub is_entry_of : ℕ → Cell → Bool
is_entry_of d (Entry entry) = d == entry.dir
is_entry_of d (Names e) = false
is_entry_of d (Parent e) = false
is_entry_of d (Links i) = false
is_entry_of d (Bytes i) = false
is_entry_of d (Fd f) = false
is_entry_of d (DirAttributes e) = false
is_entry_of d (FileAttributes i) = false

-- these are the keys of a directory's entries
pub record AreEntriesOf (k : Keyed) (d : ℕ) (keys : List ℕ) : Type 0 where
  pub each : (key : ℕ) → In key keys → (c : Cell) × (finite.get k.at key ≡ Some c) × (is_entry_of d c ≡ true)
  pub all : (c : Cell) → finite.contains_key k.cells c ≡ true → is_entry_of d c ≡ true → (key : ℕ) × (finite.get k.at key ≡ Some c) × In key keys

-- whether an owner blocks the access by a cell that overlaps this one, other than the cell itself
abbrev pub beside : Counted → Cells → Cell → Mode → ℕ → Bool
beside counted m (Entry entry) mode u = way counted m (Names entry.dir) mode u
beside counted m (Names d) mode u = list_any (λ c. is_entry_of d c && way counted m c mode u) (finite.keys m)
beside counted m (Parent d) mode u = false
beside counted m (Links i) mode u = false
beside counted m (Bytes i) mode u = false
beside counted m (Fd f) mode u = false
beside counted m (DirAttributes d) mode u = false
beside counted m (FileAttributes i) mode u = false

-- whether an owner blocks the access, by its cell or by one that overlaps it
abbrev pub blocks : Counted → Cells → Access → ℕ → Bool
blocks counted m a u = way counted m a.cell a.mode u || beside counted m a.cell a.mode u
