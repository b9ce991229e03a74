-- What an owned call wrote, its owner has locked.
use Rattle.std.proofs.Common.{◌≡◌, ℕ, true, Some, inl, inr, refl, subst, ◌∙◌}
use Rattle.std.proofs.lemmas.Bool.{or_cases}
use Rattle.ft_owned_lists.specs.OwnedLists.{Lists}
use Rattle.ft_laws.specs.Lists.{In}
use Rattle.ft_cells.specs.declared.cell.Cell.{Cell}
use Rattle.ft_cells.specs.Cells.{Cells}
use Rattle.ft_posix.specs.declared.call.Mode.TheVariants.{Write as WriteMode}
use Rattle.ft_posix.specs.Posix.{posix_calls}
use Rattle.ft_posix.specs.RunLaws.{writes_cell}
use Rattle.ft_undo.specs.declared.logs.LogRecord.{LogRecord}
use Rattle.ft_forest.specs.Transactions.{Transactions}
use Rattle.ft_lock_rules.specs.declared.line.LockKind.{LockKind}
use Rattle.ft_lock_rules.specs.declared.line.LockKind.TheVariants.{Held, Retained}
use Rattle.ft_lock_rules.specs.declared.line.LockLine.{LockLine}
use Rattle.ft_lock_rules.specs.Locks.{LockTable, is_kept, has_lock}
use Rattle.ft_history.specs.History.{Base as HistoryBase, standing}
use Rattle.ft_history.specs.Locks.{holds_lock, retains_lock}
use Rattle.ft_history.proofs.Words.{In-map}
use Rattle.ft_history.proofs.Owning.{one_owns}
use Rattle.ft_history.proofs.History.{Sound, owner, stands}
use Rattle.ft_core.specs.Histories.{History}
use Rattle.ft_core.specs.States.{Base, Asks}
use Rattle.ft_core.specs.Journals.{Journaled}
use Rattle.ft_core.specs.Kept.{Item, IsCoreAt}
use Rattle.ft_core.specs.Laws.{CallLaws, LockLaws}
use Rattle.ft_core.proofs.Joining.{start, past}

-- a lock of t's for writing
abbrev pub write_line : ℕ → Cell → LockKind → LockLine
write_line t c kind = record { cell = c; owner = t; mode = WriteMode; kind = kind }

module _ (W : CallLaws) (K : LockLaws) {base : Base} {h : History} {asks : Asks} {last_txn last_number : ℕ} {cells : Cells} {forest : Transactions} {table : LockTable} {lists : Lists LogRecord} {j : Journaled} (core : IsCoreAt base h asks last_txn last_number cells forest table lists j) where
  abbrev from : HistoryBase posix_calls
  from = start W core.kept

  sound : Sound posix_calls W.lawful from h
  sound = past W core.kept

  module _ (t : ℕ) (e : Item) (i : In e (core.log t)) where
    -- what can be taken back stands, and has an owner
    pub owned-by : In e.done (standing posix_calls h) × (owner posix_calls h e.done ≡ Some t)
    owned-by = sound.runs.kept.owned t e.done (subst (In e.done) (core.kept.core.listed t) (In-map (λ (x : Item). x.done) e (core.log t) i))

    -- its owner has a lock on each cell that it wrote
    pub has-lock : (c : Cell) → writes_cell e.done.accesses c ≡ true → (kind : LockKind) × (has_lock table (write_line t c kind) ≡ true)
    has-lock c writes =
        let owns = one_owns posix_calls h t (λ f. writes_cell f c) (record { call = e.done; granted = (stands posix_calls W.lawful from h sound e.done owned-by.0).0; owner = owned-by.1; asker = refl; passes = writes }) in
        elim (or_cases (holds_lock posix_calls h t (λ f. writes_cell f c)) (retains_lock posix_calls h t (λ f. writes_cell f c)) owns) [
          | inl held ↦ (Held, core.locks (write_line t c Held) ∙ held)
          | inr retained ↦ (Retained, core.locks (write_line t c Retained) ∙ retained)
        ]

    -- which keeps the cell from a sweep
    pub written-kept : (c : Cell) → writes_cell e.done.accesses c ≡ true → is_kept table c ≡ true
    written-kept c writes = let lock = has-lock c writes in K.known.written table (write_line t c lock.0) lock.1 refl
