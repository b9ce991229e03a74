use Rattle.std.proofs.Common.{◌≡◌, ℕ, None, IsSome, refl, cond, ◌==◌, ap, sym, is_some, ◌∙◌}
use Rattle.std.specs.Option.{option_copied_mut}
use Rattle.std.specs.FinMap as finite
use Rattle.ft_cells.specs.declared.cell.Cell.{Cell}
use Rattle.ft_lock_rules.specs.Cells.{marks_at, is_at, holders_of}
use Rattle.ft_locks.specs.Lending.{with_holders_of}
use Rattle.ft_locks.proofs.Loans.{lent_somewhere}
use Rattle.ft_locks.proofs.Slots.{some_and, changed_under, known_if, if_known, out-others}
use Rattle.ft_lock_rules.proofs.Places.{marks-found, in_table, changed_at, got-removed, put_back, last_out, last_gone, at_itself}
use Rattle.ft_locks.proofs.cells.LockedCells.take_out.Goals as goal

pub unwrap-holders-requires : goal.unwrap-holders-requires
unwrap-holders-requires c =
    let cell = some_and (finite.get c.args.self.now.at c.args.key) (λ d. IsSome (marks_at c.args.self.now.cells d c.args.owner)) c.requires in
    lent_somewhere c.get_mut.result (in_table c.args.self.now.cells cell.0 c.args.owner _ (c.get_mut.ensures.value ∙ ap (holders_of c.args.self.now.cells) cell.1) cell.2)

pub returns-then-not-is_last-clause-after : goal.returns-then-not-is_last-clause-after
returns-then-not-is_last-clause-after c =
    let holders = c.unwrap-holders.result.now in
    let cell = some_and (finite.get c.args.self.now.at c.args.key) (λ d. IsSome (marks_at c.args.self.now.cells d c.args.owner)) c.requires in
    let there = sym (ap (λ r. option_copied_mut r) c.unwrap-holders.ensures) ∙ c.get_mut.ensures.value ∙ ap (holders_of c.args.self.now.cells) cell.1 in
    changed_under c.args.self.now.cells (finite.get c.args.self.now.at c.args.key) cell.0 c.remove.new.self
    (λ n k. (d : Cell) (u : ℕ) → marks_at n d u ≡ cond (is_at k c.args.owner d u) None (marks_at c.args.self.now.cells d u)) cell.1
    (changed_at c.args.self.now.cells cell.0 c.remove.new.self c.args.owner (λ _. None)
    (λ v. ap (λ o. finite.get o v) c.remove.ensures ∙ got-removed holders c.args.owner v
    ∙ ap (cond (v == c.args.owner) None) (marks-found c.args.self.now.cells cell.0 holders there v)))

pub returns-then-not-is_last-clause-more : goal.returns-then-not-is_last-clause-more
returns-then-not-is_last-clause-more c =
    let cell = some_and (finite.get c.args.self.now.at c.args.key) (λ d. IsSome (marks_at c.args.self.now.cells d c.args.owner)) c.requires in
    let some = c.if-not-is_last.ensures.some refl in
    changed_under c.args.self.now.cells (finite.get c.args.self.now.at c.args.key) cell.0 c.remove.new.self (λ n k. (u : ℕ) × IsSome (marks_at n k u)) cell.1
    (some.0, ap (λ o. is_some o) (at_itself c.args.self.now.cells cell.0 c.remove.new.self some.0 ∙ ap (λ o. finite.get o some.0) c.remove.ensures) ∙ some.1)

pub returns-clause-after : goal.returns-clause-after
returns-clause-after c =
    let holders = c.unwrap-holders.result.now in
    let cell = some_and (finite.get c.args.self.now.at c.args.key) (λ d. IsSome (marks_at c.args.self.now.cells d c.args.owner)) c.requires in
    let there = sym (ap (λ r. option_copied_mut r) c.unwrap-holders.ensures) ∙ c.get_mut.ensures.value ∙ ap (holders_of c.args.self.now.cells) cell.1 in
    let less = if_known c.remove-2.result cell.0 _ (c.remove-2.ensures.cell ∙ cell.1) c.remove-2.ensures.cells
    ∙ ap (λ o. finite.remove (with_holders_of c.args.self.now.cells o holders) cell.0) cell.1 ∙ ap (λ m. finite.remove m cell.0) (put_back c.args.self.now.cells cell.0 holders there) in
    known_if (finite.get c.args.self.now.at c.args.key) cell.0 (λ k. (d : Cell) (u : ℕ) → marks_at c.remove-2.new.self.cells d u ≡ cond (is_at k c.args.owner d u) None (marks_at c.args.self.now.cells d u)) cell.1
    (λ d u. ap (λ m. marks_at m d u) less ∙ last_out c.args.self.now.cells cell.0 holders c.args.owner there (c.if-not-is_last.ensures.none refl) d u)

pub returns-clause-gone : goal.returns-clause-gone
returns-clause-gone c =
    let cell = some_and (finite.get c.args.self.now.at c.args.key) (λ d. IsSome (marks_at c.args.self.now.cells d c.args.owner)) c.requires in
    let less = if_known c.remove-2.result cell.0 _ (c.remove-2.ensures.cell ∙ cell.1) c.remove-2.ensures.cells in
    known_if c.remove-2.result cell.0 (λ k. (u : ℕ) → marks_at c.remove-2.new.self.cells k u ≡ None) (c.remove-2.ensures.cell ∙ cell.1)
    (λ u. ap (λ m. marks_at m cell.0 u) less ∙ last_gone _ cell.0 u)

pub returns-clause-keys : goal.returns-clause-keys
returns-clause-keys c =
    let cell = some_and (finite.get c.args.self.now.at c.args.key) (λ d. IsSome (marks_at c.args.self.now.cells d c.args.owner)) c.requires in
    let less = if_known c.remove-2.result cell.0 _ (c.remove-2.ensures.cell ∙ cell.1) c.remove-2.ensures.cells in
    out-others c.args.self.now.at c.remove-2.new.self.at c.args.key cell.0 c.remove-2.new.self.cells cell.1 c.remove-2.ensures.at (λ u. ap (λ m. marks_at m cell.0 u) less ∙ last_gone _ cell.0 u)
