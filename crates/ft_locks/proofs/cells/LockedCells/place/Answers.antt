use Rattle.std.proofs.Common.{Some, cond, ◌==◌, ap, sym, ◌∙◌}
use Rattle.std.specs.Option.{option_copied_mut}
use Rattle.std.specs.Ordering.{nat_cmp}
use Rattle.std.specs.FinMap as finite
use Rattle.ft_lock_rules.specs.Cells.{marks_at, holders_of}
use Rattle.ft_locks.specs.Lending.{with_holders_of, with_holders}
use Rattle.ft_lock_rules.proofs.Cases.{on_any}
use Rattle.ft_locks.proofs.Slots.{there_if, put-there, put-others, back_under}
use Rattle.ft_lock_rules.proofs.Places.{marks-found, marks-missing, changed_at, got-inserted}
use Rattle.ft_locks.proofs.cells.LockedCells.place.Goals as goal

pub returns-in_err-had-clause-err : goal.returns-in_err-had-clause-err
returns-in_err-had-clause-err c =
    let there = sym (ap (λ r. option_copied_mut r) c.unwrap-holders.ensures) ∙ c.get_mut.ensures.value ∙ ap (holders_of c.args.self.now.cells) c.in-Some.ensures.at in
    on_any c.from_residual.result _
    (ap (with_holders c.args.self.now c.in-Some.key) c.in_err-had.ensures.err ∙ back_under c.args.self.now c.in-Some.key c.args.cell.now c.unwrap-holders.result.now c.in-Some.ensures.at there)

pub returns-in-Some-clause-placed : goal.returns-in-Some-clause-placed
returns-in-Some-clause-placed c = λ none d u.
    let holders = c.unwrap-holders.result.now in
    let there = sym (ap (λ r. option_copied_mut r) c.unwrap-holders.ensures) ∙ c.get_mut.ensures.value ∙ ap (holders_of c.args.self.now.cells) c.in-Some.ensures.at in
    ap (λ o. marks_at (with_holders_of c.args.self.now.cells o c.place.new.self) d u) c.in-Some.ensures.at
    ∙ changed_at c.args.self.now.cells c.args.cell.now c.place.new.self c.args.owner (λ _. Some c.args.marks)
    (λ v. ap (λ o. finite.get o v) (c.in_ok-had.ensures.placed none) ∙ got-inserted holders c.args.owner c.args.marks v
    ∙ ap (cond (v == c.args.owner) (Some c.args.marks)) (marks-found c.args.self.now.cells c.args.cell.now holders there v)) d u

pub returns-in-Some-clause-kept : goal.returns-in-Some-clause-kept
returns-in-Some-clause-kept c = λ some.
    let there = sym (ap (λ r. option_copied_mut r) c.unwrap-holders.ensures) ∙ c.get_mut.ensures.value ∙ ap (holders_of c.args.self.now.cells) c.in-Some.ensures.at in
    ap (with_holders c.args.self.now c.in-Some.key) (c.in_ok-had.ensures.kept some) ∙ back_under c.args.self.now c.in-Some.key c.args.cell.now c.unwrap-holders.result.now c.in-Some.ensures.at there

pub add-requires : goal.add-requires
add-requires c = ap (λ o. finite.get o c.args.owner) c.new-holders.ensures ∙ finite.get-empty nat_cmp c.args.owner

pub returns-clause-key : goal.returns-clause-key
returns-clause-key c = put-there c.args.self.now.at c.insert.new.self.at c.in_ok-key.key c.args.cell.now c.in_ok-key.ensures.at

pub returns-clause-had : goal.returns-clause-had
returns-clause-had c = sym (marks-missing c.args.self.now.cells c.args.cell.now (there_if (finite.get c.args.self.now.cells c.args.cell.now) c.in_default.ensures.there) c.args.owner)

pub returns-clause-placed : goal.returns-clause-placed
returns-clause-placed c = λ _ d u.
    let none = there_if (finite.get c.args.self.now.cells c.args.cell.now) c.in_default.ensures.there in
    ap (λ m. marks_at m d u) c.in_ok-key.ensures.cells
    ∙ changed_at c.args.self.now.cells c.args.cell.now c.add.new.self c.args.owner (λ _. Some c.args.marks)
    (λ v. ap (λ o. finite.get o v) c.in_ok-add.ensures.ok ∙ got-inserted c.new-holders.result c.args.owner c.args.marks v
    ∙ ap (cond (v == c.args.owner) (Some c.args.marks)) (ap (λ o. finite.get o v) c.new-holders.ensures ∙ finite.get-empty nat_cmp v ∙ sym (marks-missing c.args.self.now.cells c.args.cell.now none v))) d u

pub returns-clause-others : goal.returns-clause-others
returns-clause-others c = put-others c.args.self.now.at c.insert.new.self.at c.in_ok-key.key c.args.cell.now c.in_ok-key.ensures.at c.in_ok-key.ensures.fresh
