-- What a core allows stays, whatever is made on its tree and in its history.
use Rattle.std.proofs.Common.{◌≡◌, ◌∙◌, ℕ, true, List, [], ◌∷◌, ap, refl}
use Rattle.std.specs.FinMap as finite
use Rattle.ft_laws.specs.Calls.{Done}
use Rattle.ft_cells.specs.declared.cell.Cell.{Cell}
use Rattle.ft_cells.specs.declared.cell.Cell.TheVariants as cell
use Rattle.ft_cells.specs.Cells.{Cells}
use Rattle.ft_cells.specs.Looks.{answer}
use Rattle.ft_cells.specs.Plain.{PlainTree, view_in}
use Rattle.ft_tree.specs.Held.{Holds}
use Rattle.ft_posix.specs.declared.call.Call.{Call as PosixCall}
use Rattle.ft_posix.specs.Exec.{exec, put_all_plain, set_plain}
use Rattle.ft_posix.specs.Outcomes.{Write}
use Rattle.ft_posix.specs.Posix.{posix_calls}
use Rattle.ft_posix.specs.RunLaws.{tree_after}
use Rattle.ft_posix.specs.Steps.{steps}
use Rattle.ft_forest.specs.Transactions.{Transactions}
use Rattle.ft_core.specs.Histories.{History}
use Rattle.ft_core.specs.States.{Base}
use Rattle.ft_core.specs.Laws.{CallLaws}
use Rattle.ft_core.specs.Journals.{Journaled}
use Rattle.ft_core.specs.Limits.{greatest_limits, are_within}
use Rattle.ft_core.specs.Kept.{Item, IsKept, allowed}
use Rattle.ft_core.proofs.Joining.{tree_is}
use Rattle.ft_history.specs.History.{standing}

-- a cell that is set, and cells that are
limits-set : (p : PlainTree) (c : Cell) (to : Holds c) → (set_plain p c to).limits ≡ p.limits
limits-set p (cell.Entry entry) to = refl
limits-set p (cell.Names d) to = refl
limits-set p (cell.Parent d) to = refl
limits-set p (cell.Links i) to = refl
limits-set p (cell.Bytes i) to = refl
limits-set p (cell.Fd f) to = refl
limits-set p (cell.DirAttributes d) to = refl
limits-set p (cell.FileAttributes i) to = refl

limits-put_all : (ws : List Write) (p : PlainTree) → (put_all_plain p ws).limits ≡ p.limits
limits-put_all [] p = refl
limits-put_all (w ∷ ws) p = limits-put_all ws (set_plain p w.cell w.value) ∙ limits-set p w.cell w.value

pub limits-exec : (p : PlainTree) (stamp : ℕ) (call : PosixCall) → (exec p stamp call).0.limits ≡ p.limits
limits-exec p stamp call = limits-put_all (answer (steps p.limits (finite.len p.dirs) stamp call) (view_in p)).writes p

pub limits-after : (p : PlainTree) (cs : List (Done posix_calls)) → (tree_after p cs).limits ≡ p.limits
limits-after p [] = refl
limits-after p (c ∷ cs) = limits-after (exec p c.call.stamp c.call.call).0 cs ∙ limits-exec p c.call.stamp c.call.call

-- so the cells of a core allow what its base does
pub limits-kept : (W : CallLaws) {base : Base} {h : History} {last_txn last_number : ℕ} {cells : Cells} {log : ℕ → List Item} (kept : IsKept base h last_txn last_number cells log) → cells.limits ≡ base.tree.limits
limits-kept W {base = base} {h = h} kept = ap (λ (p : PlainTree). p.limits) (tree_is W kept) ∙ limits-after base.tree (standing posix_calls h)

-- the forest and the journal allow what they did
pub still-within : (base : Base) (forest forest' : Transactions) (j j' : Journaled) → forest'.limits ≡ forest.limits → j'.calls ≡ j.calls
    → are_within (allowed base forest j) greatest_limits ≡ true → are_within (allowed base forest' j') greatest_limits ≡ true
still-within base forest forest' j j' limits calls was =
    (λ i. are_within (record { file_size = base.tree.limits.file_size; links = base.tree.limits.links; depth = (limits i).depth; transactions = (limits i).transactions; calls = calls i }) greatest_limits) ∙ was

-- something has happened
pub happened : {A B : Type 0} {x : A} {xs : List A} → x ∷ xs ≡ [] → B
happened e = absurd (cc)
