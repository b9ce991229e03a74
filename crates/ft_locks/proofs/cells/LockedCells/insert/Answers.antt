use Rattle.std.proofs.Common.{cond, Some, ap, sym, ◌∙◌}
use Rattle.std.specs.FinMap as finite
use Rattle.slab.specs.Slab.{Slab, get}
use Rattle.ft_locks.specs.declared.cells.Locked.{Locked}
use Rattle.ft_lock_rules.specs.Cells.{Keyed}
use Rattle.ft_locks.specs.EntryKeys.{key_at, is_spot, spot_of}
use Rattle.ft_locks.specs.Slots.{at_of, keys_in, is_names}
use Rattle.ft_locks.proofs.Slots.{at-none, at-put, cells-put, no_key, updates-after}
use Rattle.ft_locks.proofs.Hashed.{keyed-come, keys-come, hashed_put, hash-free}
use Rattle.ft_locks.proofs.EntryKeys.{placed-put}
use Rattle.ft_locks.proofs.Nameless.{nameless-put, no-left, no-right}
use Rattle.ft_locks.proofs.cells.LockedCells.insert.Goals as goal

pub note_key-requires : goal.note_key-requires
note_key-requires c =
    hash-free c.self.inside.index.index c.self.inside.index.seed (at_of c.self.inside.locked) (at_of c.self.inside.locked) c.vacant_key-key.result c.args.cell.now c.self.invariant.hashed
    (at-none c.self.inside.locked c.vacant_key-key.result (sym (ap (λ (t : Slab Locked). get t c.vacant_key-key.result) c.in_ok-reserve.ensures.rest_kept) ∙ c.vacant_key-key.ensures.vacant))

pub invariant_of-self-2 : goal.invariant_of-self-2
invariant_of-self-2 c =
    let changes = updates-after c.self.inside.locked c.reserve.new.self c.insert_reserved.new.self c.insert_reserved.result _ c.in_ok-reserve.ensures.rest_kept c.insert_reserved.ensures.updates in
    let free = sym (ap (λ (t : Slab Locked). get t c.insert_reserved.result) c.in_ok-reserve.ensures.rest_kept) ∙ c.insert_reserved.ensures.was_vacant in
    let key = c.vacant_key-key.ensures.value ∙ sym c.insert_reserved.ensures.key in
    let absent = no_key c.self.inside.locked (keys_in (at_of c.self.inside.locked)) c.args.self.now c.self.view_is c.args.cell.now c.requires in
    let come = at-put c.self.inside.locked c.insert_reserved.new.self c.insert_reserved.result _ changes c.args.cell.now (ap Some c.in_ok-cell.ensures.cases) in
    record {
      keyed = keyed-come (at_of c.self.inside.locked) (at_of c.insert_reserved.new.self) c.insert_reserved.result c.args.cell.now c.self.invariant.keyed come (at-none c.self.inside.locked c.insert_reserved.result free) absent;
      hashed = hashed_put c.self.inside.index.index c.note_key.new.index.index c.self.inside.index.seed c.note_key.new.index.seed (at_of c.self.inside.locked) (at_of c.insert_reserved.new.self) c.insert_reserved.result c.args.cell.now
          c.vacant_key-key.result c.in_ok-cell.cell c.self.invariant.hashed come key c.in_ok-cell.ensures.cases c.in_ok-place.ensures.hashed c.note_key.ensures.seed;
      placed = placed-put c.self.inside.locked c.insert_reserved.new.self c.self.inside.entries.keys c.note_key.new.entries.keys c.insert_reserved.result _ c.self.invariant.placed free changes c.in_ok-place.ensures.free
          (λ t. c.in_ok-place.ensures.listed t ∙ ap (λ j. cond (is_spot (spot_of c.in_ok-cell.cell c.in_ok-place.place) t) (Some j) (key_at c.self.inside.entries.keys t.0 t.1)) key);
      nameless = λ has_none. nameless-put (at_of c.self.inside.locked) _ c.insert_reserved.result c.args.cell.now come
          (ap is_names (sym c.in_ok-cell.ensures.cases) ∙ sym c.is_names.ensures ∙ no-right c.self.inside.has_names c.is_names.result has_none)
          (c.self.invariant.nameless (no-left c.self.inside.has_names c.is_names.result has_none));
    }

pub returns-clause-fresh : goal.returns-clause-fresh
returns-clause-fresh c =
    let free = sym (ap (λ (t : Slab Locked). get t c.insert_reserved.result) c.in_ok-reserve.ensures.rest_kept) ∙ c.insert_reserved.ensures.was_vacant in
    sym (ap (λ (m : Keyed). finite.get m.at c.insert_reserved.result) c.self.view_is) ∙ at-none c.self.inside.locked c.insert_reserved.result free

pub returns-clause-cells : goal.returns-clause-cells
returns-clause-cells c =
    let changes = updates-after c.self.inside.locked c.reserve.new.self c.insert_reserved.new.self c.insert_reserved.result _ c.in_ok-reserve.ensures.rest_kept c.insert_reserved.ensures.updates in
    let free = sym (ap (λ (t : Slab Locked). get t c.insert_reserved.result) c.in_ok-reserve.ensures.rest_kept) ∙ c.insert_reserved.ensures.was_vacant in
    let absent = no_key c.self.inside.locked (keys_in (at_of c.self.inside.locked)) c.args.self.now c.self.view_is c.args.cell.now c.requires in
    let come = at-put c.self.inside.locked c.insert_reserved.new.self c.insert_reserved.result _ changes c.args.cell.now (ap Some c.in_ok-cell.ensures.cases) in
    cells-put c.self.inside.locked c.insert_reserved.new.self c.insert_reserved.result _ changes (keys_in (at_of c.self.inside.locked)) c.self.invariant.keyed (keys_in (at_of c.insert_reserved.new.self)) c.args.cell.now free
    (keys-come (at_of c.self.inside.locked) (at_of c.insert_reserved.new.self) c.insert_reserved.result c.args.cell.now c.self.invariant.keyed come (at-none c.self.inside.locked c.insert_reserved.result free) absent)
    ∙ ap (λ (m : Keyed). finite.insert m.cells c.args.cell.now c.args.holders) c.self.view_is

pub returns-clause-at : goal.returns-clause-at
returns-clause-at c =
    let changes = updates-after c.self.inside.locked c.reserve.new.self c.insert_reserved.new.self c.insert_reserved.result _ c.in_ok-reserve.ensures.rest_kept c.insert_reserved.ensures.updates in
    at-put c.self.inside.locked c.insert_reserved.new.self c.insert_reserved.result _ changes c.args.cell.now (ap Some c.in_ok-cell.ensures.cases)
    ∙ ap (λ (m : Keyed). finite.insert m.at c.insert_reserved.result c.args.cell.now) c.self.view_is
