use Rattle.std.proofs.Common.{◌≡◌}
use Rattle.ft_lock_rules.proofs.Cases.{on_any}
use Rattle.ft_locks.specs.Hashes.{cell_hash}
use Rattle.ft_locks.proofs.Hashed.{added_there, taken_back}
use Rattle.ft_locks.proofs.cells.note_key.Goals as goal

pub remove-requires : goal.remove-requires
remove-requires c = added_there c.args.index.now.index c.add.new.self.index c.args.index.now.seed c.add.new.self.seed c.args.key c.args.cell.now c.in_ok-add.ensures.ok c.add.ensures.seed

pub returns-then-is_err-clause-index_kept : goal.returns-then-is_err-clause-index_kept
returns-then-is_err-clause-index_kept c =
    on_any c.note-noted.result (c.remove.new.self.index ≡ c.args.index.now.index)
    (taken_back c.args.index.now.index c.add.new.self.index c.remove.new.self.index c.args.key (cell_hash c.args.index.now.seed c.args.cell.now) c.requires c.in_ok-add.ensures.ok c.remove.ensures.index)
