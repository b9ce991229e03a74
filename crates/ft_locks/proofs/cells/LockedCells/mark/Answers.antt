use Rattle.std.proofs.Common.{refl, cond, ◌==◌, sym, ap, ◌∙◌, Option}
use Rattle.std.specs.Option.{option_map, option_copied_mut}
use Rattle.std.specs.FinMap as finite
use Rattle.ft_lock_rules.specs.declared.lock_modes.LockModes.{LockModes}
use Rattle.ft_lock_rules.specs.LockModes.{with_marks}
use Rattle.ft_lock_rules.specs.Cells.{marks_at, holders_of}
use Rattle.ft_locks.specs.Lending.{with_holders_of}
use Rattle.ft_locks.proofs.Slots.{there_if}
use Rattle.ft_lock_rules.proofs.Places.{marks-found, changed_at, unchanged_at, got-marked}
use Rattle.ft_locks.proofs.cells.LockedCells.mark.Goals as goal

pub returns-in-Some-clause-marks : goal.returns-in-Some-clause-marks
returns-in-Some-clause-marks c = λ d u.
    let holders = c.unwrap-holders.result.now in
    let there = sym (ap (λ r. option_copied_mut r) c.unwrap-holders.ensures) ∙ c.get_mut.ensures.value ∙ ap (holders_of c.args.self.now.cells) c.in-Some.ensures.at in
    ap (λ o. marks_at (with_holders_of c.args.self.now.cells o c.mark.new.self) d u) c.in-Some.ensures.at
    ∙ changed_at c.args.self.now.cells c.args.cell.now c.mark.new.self c.args.owner (option_map (λ own. with_marks own c.args.marks))
    (λ v. ap (λ o. finite.get o v) c.mark.ensures ∙ got-marked holders c.args.owner c.args.marks v
    ∙ ap (λ (x : Option LockModes). cond (v == c.args.owner) (option_map (λ own. with_marks own c.args.marks) x) x) (marks-found c.args.self.now.cells c.args.cell.now holders there v)) d u

pub returns-in_default-clause-marks : goal.returns-in_default-clause-marks
returns-in_default-clause-marks c =
    unchanged_at c.args.self.now.cells c.args.cell.now c.args.owner (option_map (λ own. with_marks own c.args.marks)) (there_if (finite.get c.args.self.now.cells c.args.cell.now) c.in_default.ensures.there) refl
