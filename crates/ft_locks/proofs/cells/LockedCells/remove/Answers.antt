use Rattle.std.proofs.Common.{None, Some, ap, sym, refl, ◌∙◌}
use Rattle.std.specs.FinMap as finite
use Rattle.ft_lock_rules.specs.Cells.{Keyed}
use Rattle.ft_locks.specs.EntryKeys.{spot_of}
use Rattle.ft_locks.specs.Slots.{at_of, keys_in, cells_of}
use Rattle.ft_locks.proofs.Slots.{seen-at, at-there, at-out, at-shown, cells-out, cells-shown}
use Rattle.ft_locks.proofs.Nameless.{nameless-left, nameless-same, nameless-empty}
use Rattle.ft_locks.proofs.Hashed.{keyed-gone, keys-gone, hashed_out, hash-there}
use Rattle.ft_locks.proofs.EntryKeys.{key-left, gap-left, placed-left, no_spot}
use Rattle.ft_locks.proofs.cells.LockedCells.remove.Goals as goal
use Rattle.ft_locks.proofs.cells.LockedCells.remove.Goals.{in-Entry, in_default}

pub returns-in_err-cell-clause-cell : goal.returns-in_err-cell-clause-cell
returns-in_err-cell-clause-cell c =
    c.from_residual.ensures ∙ seen-at c.self.inside.locked (keys_in (at_of c.self.inside.locked)) c.args.self.now c.self.view_is c.args.key None (sym c.try_remove.ensures.value ∙ c.in_err-cell.was)

pub returns-in_err-cell-clause-at : goal.returns-in_err-cell-clause-at
returns-in_err-cell-clause-at c = at-out c.self.inside.locked c.try_remove.new.self c.args.key None c.try_remove.ensures.updates refl ∙ ap (λ (m : Keyed). finite.remove m.at c.args.key) c.self.view_is

pub close_gap-requires-clause-there : goal.close_gap-requires-clause-there
close_gap-requires-clause-there c = key-left c.self.inside.locked c.try_remove.new.self c.self.inside.entries.keys c.args.key c.in_ok-cell.field-0 c.self.invariant.placed (sym c.try_remove.ensures.value ∙ c.in_ok-cell.was) c.try_remove.ensures.updates c.in-Entry.entry.dir c.in_ok-cell.field-0.place (ap (λ x. spot_of x c.in_ok-cell.field-0.place) c.in-Entry.is)

pub close_gap-requires-clause-gap : goal.close_gap-requires-clause-gap
close_gap-requires-clause-gap c = gap-left c.self.inside.locked c.try_remove.new.self c.self.inside.entries.keys c.args.key c.in_ok-cell.field-0 c.self.invariant.placed (sym c.try_remove.ensures.value ∙ c.in_ok-cell.was) c.try_remove.ensures.updates c.in-Entry.entry.dir c.in_ok-cell.field-0.place (ap (λ x. spot_of x c.in_ok-cell.field-0.place) c.in-Entry.is)

pub remove-requires : goal.remove-requires
remove-requires c =
    hash-there c.self.inside.index.index c.self.inside.index.seed (at_of c.self.inside.locked) (at_of c.self.inside.locked) c.args.key c.in_ok-cell.field-0.cell c.self.invariant.hashed
    (at-there c.self.inside.locked c.args.key c.in_ok-cell.field-0 (sym c.try_remove.ensures.value ∙ c.in_ok-cell.was))

pub invariant_of-self-in-Entry : goal.invariant_of-self-in-Entry
invariant_of-self-in-Entry c =
    let there = sym c.try_remove.ensures.value ∙ c.in_ok-cell.was in
    let shown = at-shown c.try_remove.new.self c.close_gap.new.locked c.close_gap.ensures.same in
    let gone = shown ∙ at-out c.self.inside.locked c.try_remove.new.self c.args.key None c.try_remove.ensures.updates refl in
    record {
      keyed = keyed-gone (at_of c.self.inside.locked) (at_of c.close_gap.new.locked) c.args.key c.in_ok-cell.field-0.cell c.self.invariant.keyed gone (at-there c.self.inside.locked c.args.key c.in_ok-cell.field-0 there);
      hashed = hashed_out c.self.inside.index.index c.remove.new.self.index c.self.inside.index.seed c.remove.new.self.seed (at_of c.self.inside.locked) (at_of c.close_gap.new.locked) c.args.key c.self.invariant.hashed gone c.remove.ensures.index c.remove.ensures.seed;
      placed = c.close_gap.ensures.placed;
      nameless = nameless-left (at_of c.self.inside.locked) (at_of c.close_gap.new.locked) c.args.key c.self.inside.has_names c.is_empty.result gone
          (λ is. nameless-same _ _ shown (nameless-empty c.try_remove.new.self (sym c.is_empty.ensures ∙ is))) c.self.invariant.nameless;
    }

pub invariant_of-self-in_default : goal.invariant_of-self-in_default
invariant_of-self-in_default c =
    let there = sym c.try_remove.ensures.value ∙ c.in_ok-cell.was in
    let gone = at-out c.self.inside.locked c.try_remove.new.self c.args.key None c.try_remove.ensures.updates refl in
    record {
      keyed = keyed-gone (at_of c.self.inside.locked) (at_of c.try_remove.new.self) c.args.key c.in_ok-cell.field-0.cell c.self.invariant.keyed gone (at-there c.self.inside.locked c.args.key c.in_ok-cell.field-0 there);
      hashed = hashed_out c.self.inside.index.index c.remove.new.self.index c.self.inside.index.seed c.remove.new.self.seed (at_of c.self.inside.locked) (at_of c.try_remove.new.self) c.args.key c.self.invariant.hashed gone c.remove.ensures.index c.remove.ensures.seed;
      placed = placed-left c.self.inside.locked c.try_remove.new.self c.self.inside.entries.keys c.args.key c.in_ok-cell.field-0 c.self.invariant.placed (sym c.try_remove.ensures.value ∙ c.in_ok-cell.was) c.try_remove.ensures.updates (no_spot c.in_ok-cell.field-0.cell c.in_ok-cell.field-0.place c.in_default.not-Entry);
      nameless = nameless-left (at_of c.self.inside.locked) (at_of c.try_remove.new.self) c.args.key c.self.inside.has_names c.is_empty.result gone
          (λ is. nameless-empty c.try_remove.new.self (sym c.is_empty.ensures ∙ is)) c.self.invariant.nameless;
    }

pub returns-clause-cell : goal.returns-clause-cell
returns-clause-cell c =
    seen-at c.self.inside.locked (keys_in (at_of c.self.inside.locked)) c.args.self.now c.self.view_is c.args.key (Some c.in_ok-cell.field-0) (sym c.try_remove.ensures.value ∙ c.in_ok-cell.was)

pub returns-clause-cells : goal.returns-clause-cells
returns-clause-cells c =
    let there = sym c.try_remove.ensures.value ∙ c.in_ok-cell.was in
    let gone = at-out c.self.inside.locked c.try_remove.new.self c.args.key None c.try_remove.ensures.updates refl in
    let out = cells-out c.self.inside.locked c.try_remove.new.self c.args.key None c.try_remove.ensures.updates (keys_in (at_of c.self.inside.locked)) c.self.invariant.keyed (keys_in (at_of c.try_remove.new.self)) c.in_ok-cell.field-0.cell
    (at-there c.self.inside.locked c.args.key c.in_ok-cell.field-0 there)
    (keys-gone (at_of c.self.inside.locked) (at_of c.try_remove.new.self) c.args.key c.in_ok-cell.field-0.cell c.self.invariant.keyed gone (at-there c.self.inside.locked c.args.key c.in_ok-cell.field-0 there))
    ∙ ap (λ (m : Keyed). finite.remove m.cells c.in_ok-cell.field-0.cell) c.self.view_is in
    elim c.match-cell.branch [
      | in-Entry w ↦ ap (λ (k : Keyed). k.cells) w.self-is
          ∙ cells-shown c.try_remove.new.self w.close_gap.new.locked w.close_gap.ensures.same (keys_in (at_of w.close_gap.new.locked))
          ∙ ap (λ at. cells_of c.try_remove.new.self (keys_in at)) (at-shown c.try_remove.new.self w.close_gap.new.locked w.close_gap.ensures.same)
          ∙ out
      | in_default w ↦ ap (λ (k : Keyed). k.cells) w.self-is ∙ out
    ]

pub returns-clause-at : goal.returns-clause-at
returns-clause-at c = elim c.match-cell.branch [
  | in-Entry w ↦ ap (λ (k : Keyed). k.at) w.self-is ∙ at-shown c.try_remove.new.self w.close_gap.new.locked w.close_gap.ensures.same ∙ (at-out c.self.inside.locked c.try_remove.new.self c.args.key None c.try_remove.ensures.updates refl ∙ ap (λ (m : Keyed). finite.remove m.at c.args.key) c.self.view_is)
  | in_default w ↦ ap (λ (k : Keyed). k.at) w.self-is ∙ (at-out c.self.inside.locked c.try_remove.new.self c.args.key None c.try_remove.ensures.updates refl ∙ ap (λ (m : Keyed). finite.remove m.at c.args.key) c.self.view_is)
]
