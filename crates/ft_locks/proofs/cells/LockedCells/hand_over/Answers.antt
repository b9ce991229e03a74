use Rattle.std.proofs.Common.{◌≡◌, ℕ, cond, IsSome, ap, sym, ◌∙◌}
use Rattle.std.specs.Option.{option_copied_mut}
use Rattle.std.specs.FinMap as finite
use Rattle.ft_cells.specs.declared.cell.Cell.{Cell}
use Rattle.ft_cells.specs.CellOrder.{same_cell}
use Rattle.ft_lock_rules.specs.CellLocks.{handed}
use Rattle.ft_lock_rules.specs.Cells.{marks_at, after_hand, holders_of}
use Rattle.ft_locks.proofs.Loans.{lent_somewhere}
use Rattle.ft_locks.proofs.Slots.{some_and, changed_under}
use Rattle.ft_lock_rules.proofs.Places.{marks-found, in_table, changed_cell, got-handed, hand_same}
use Rattle.ft_locks.proofs.cells.LockedCells.hand_over.Goals as goal

pub unwrap-holders-requires : goal.unwrap-holders-requires
unwrap-holders-requires c =
    let cell = some_and (finite.get c.args.self.now.at c.args.key) (λ d. IsSome (marks_at c.args.self.now.cells d c.args.from)) c.requires.there in
    lent_somewhere c.get_mut.result (in_table c.args.self.now.cells cell.0 c.args.from _ (c.get_mut.ensures.value ∙ ap (holders_of c.args.self.now.cells) cell.1) cell.2)

pub returns-clause-after : goal.returns-clause-after
returns-clause-after c =
    let m = c.args.self.now.cells in
    let holders = c.unwrap-holders.result.now in
    let cell = some_and (finite.get c.args.self.now.at c.args.key) (λ d. IsSome (marks_at c.args.self.now.cells d c.args.from)) c.requires.there in
    let there = sym (ap (λ r. option_copied_mut r) c.unwrap-holders.ensures) ∙ c.get_mut.ensures.value ∙ ap (holders_of c.args.self.now.cells) cell.1 in
    changed_under m (finite.get c.args.self.now.at c.args.key) cell.0 c.hand_over.new.self
    (λ n k. (d : Cell) (u : ℕ) → marks_at n d u ≡ cond (same_cell d k) (after_hand c.args.from c.args.to (marks_at c.args.self.now.cells d) u) (marks_at c.args.self.now.cells d u)) cell.1
    (changed_cell c.args.self.now.cells cell.0 c.hand_over.new.self (after_hand c.args.from c.args.to)
    (λ u. ap (λ o. finite.get o u) c.hand_over.ensures.after
    ∙ ap (λ x. finite.get (handed holders c.args.from c.args.to x) u) c.handed_to.ensures
    ∙ got-handed holders c.args.from c.args.to c.unwrap-own.result (sym c.get.ensures ∙ c.unwrap-own.ensures) c.requires.apart u
    ∙ hand_same c.args.from c.args.to _ _ (marks-found c.args.self.now.cells cell.0 holders there) u))
