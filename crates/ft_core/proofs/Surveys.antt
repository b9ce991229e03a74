-- One look at the locks of a call.
use Rattle.std.proofs.Common.{◌≡◌, ◌∙◌, ◌&&◌, ◌||◌, ◌==◌, ℕ, Bool, true, false, not, List, take, drop, Result, Ok, Err, refl, sym, ap}
use Rattle.std.proofs.lemmas.Bool.{false≢true}
use Rattle.std.specs.Result.{is_err, OnOk}
use Rattle.std.proofs.lemmas.List.{take-append-drop}
use Rattle.std.proofs.lemmas.List.Folds.{list_any-append}
use Rattle.ft_owned_lists.specs.OwnedLists.{Lists}
use Rattle.ft_cells.specs.Cells.{Cells}
use Rattle.ft_cells.specs.declared.cell.Cell.{Cell}
use Rattle.ft_cells.specs.CellOrder.{same_cell}
use Rattle.ft_posix.specs.declared.call.Access.{Access}
use Rattle.ft_posix.specs.declared.call.Mode.{Mode}
use Rattle.ft_undo.specs.declared.logs.LogRecord.{LogRecord}
use Rattle.ft_forest.specs.Transactions.{Transactions}
use Rattle.ft_lock_rules.specs.Locks.{LockTable, has_lock, is_released, is_held, same_mode, has_access, is_accessed, AreGranted}
use Rattle.ft_core.specs.Histories.{History}
use Rattle.ft_core.specs.States.{Base, Asks}
use Rattle.ft_core.specs.Journals.{Journaled}
use Rattle.ft_core.specs.Kept.{IsCoreAt}
use Rattle.ft_core.specs.Laws.{CallLaws, LockLaws}
use Rattle.ft_core.specs.Surveys.{IsAloneIfChildless}
use Rattle.ft_core.proofs.Children.{no-child}
use Rattle.ft_core.proofs.Joining.{start, values}

-- the locks of a core are so
pub alone-there : CallLaws → LockLaws → {base : Base} {h : History} {asks : Asks} {last_txn last_number : ℕ} {cells : Cells} {forest : Transactions} {table : LockTable} {lists : Lists LogRecord} {j : Journaled}
    → IsCoreAt base h asks last_txn last_number cells forest table lists j → (t : ℕ) → IsAloneIfChildless table forest t
alone-there W K {h = h} {forest = forest} {table = table} core t none =
    K.alone (start W core.kept) (values W core.kept) h table core.locks core.kept.core.legal forest core.transactions.parents t
    (no-child W core t none)

-- The first accesses were granted before, and the rest are granted now.
pub granted-rest : (old new : LockTable) (t : ℕ) (xs : List Access) (k : ℕ) → AreGranted old old t (take k xs) → AreGranted old new t (drop k xs) → AreGranted old new t xs
granted-rest old new t xs k before now = record {
  given = record {
    lines = λ l.
        now.given.lines l
        ∙ both-lines (has_lock old l) (is_held l.kind) (l.owner == t) (has_access (take k xs) l.cell l.mode) (has_access (drop k xs) l.cell l.mode) (before.given.lines l)
        ∙ ap (λ b. has_lock old l || (is_held l.kind && (l.owner == t) && b)) (accesses-split l.cell l.mode);
    released_cells = λ c.
        now.given.released_cells c
        ∙ both-cells (is_released old c) (is_accessed (take k xs) c) (is_accessed (drop k xs) c) (before.given.released_cells c)
        ∙ ap (λ b. is_released old c && not b) (accessed-split c);
    opened = now.given.opened;
  };
  useless = now.useless;
}
  where
    accesses-split : (c : Cell) (m : Mode) → (has_access (take k xs) c m || has_access (drop k xs) c m) ≡ has_access xs c m
    accesses-split c m = sym (list_any-append (λ (a : Access). same_cell a.cell c && same_mode a.mode m) (take k xs) (drop k xs)) ∙ ap (λ ys. has_access ys c m) (take-append-drop k xs)

    accessed-split : (c : Cell) → (is_accessed (take k xs) c || is_accessed (drop k xs) c) ≡ is_accessed xs c
    accessed-split c = sym (list_any-append (λ (a : Access). same_cell a.cell c) (take k xs) (drop k xs)) ∙ ap (λ ys. is_accessed ys c) (take-append-drop k xs)

    both-lines : (o k e p q : Bool) → o ≡ (o || (k && e && p)) → (o || (k && e && q)) ≡ (o || (k && e && (p || q)))
    both-lines true k e p q was = refl
    both-lines false false e p q was = refl
    both-lines false true false p q was = refl
    both-lines false true true true q was = ap (λ b. b || q) was
    both-lines false true true false q was = refl

    both-cells : (o p q : Bool) → o ≡ (o && not p) → (o && not q) ≡ (o && not (p || q))
    both-cells false p q was = refl
    both-cells true false q was = refl
    both-cells true true q was = ap (λ b. b && not q) was

-- what stands at Ok, where there was no error
pub on-ok : {A E : Type 0} (r : Result A E) (P : Type 0) → false ≡ is_err r → OnOk r P → P
on-ok (Ok x) P none h = h
on-ok (Err y) P none h = absurd (false≢true none)
