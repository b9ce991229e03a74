use Rattle.std.proofs.Common.{◌==◌, ◌&&◌, ◌||◌, take, arith, ap, sym, ◌∙◌, is_some}
use Rattle.std.proofs.lemmas.Bool.{and_parts, eqb-true}
use Rattle.std.specs.FinMap as finite
use Rattle.ft_cells.specs.CellOrder.{same_cell, same_cell-is}
use Rattle.ft_lock_rules.specs.declared.line.LockLine.{LockLine}
use Rattle.ft_lock_rules.specs.Locks.{is_held, same_mode, is_accessed, is_given}
use Rattle.ft_lock_rules.specs.Holdings.{has_place, after_back}
use Rattle.ft_lock_rules.specs.Seen.{has_line}
use Rattle.ft_lock_rules.proofs.CellViews.{turned_cell}
use Rattle.ft_lock_rules.proofs.Granting.{added_back, added_line, added_place, added_still, accessed_more, given_more, lines_kept, lines_made, line_there, in_either, in_place, or_with, place_kept, place_made, some-placed}
use Rattle.ft_locks.proofs.holdings.Holdings.reserve.Goals as goal

pub loop-access-preserved-in-Some : goal.loop-access-preserved-in-Some
loop-access-preserved-in-Some c =
    let before = c.loop-access.self in
    let own = sym c.in-Some.is ∙ c.in-Ok.ensures.had in
    let same = c.in-Ok.ensures.kept (ap (λ o. is_some o) c.in-Some.is) in
    let more = given_more c.args.accesses.now c.loop-access.access-index c.access-item.result c.loop-access-test.true c.access-item.is c.args.owner in
    let given = λ (x : LockLine). is_given c.args.owner (take c.loop-access.access-index c.args.accesses.now) x in
    let next = λ (x : LockLine). is_held x.kind && (x.owner == c.args.owner) && (same_cell c.access-item.result.cell x.cell && same_mode c.access-item.result.mode x.mode) in
    record {
      back = λ d u. (λ i. after_back c.loop-access.made c.args.owner (same i).cells (same i).lists d u) ∙ c.loop-access.invariant.back d u;
      lines = λ x.
          (λ i. has_line (same i).cells x || more x i)
          ∙ lines_kept (has_line before.cells x) (given x) (has_line c.args.self.now.cells x) (next x) (c.loop-access.invariant.lines x)
          ∙ sym (ap (λ b. has_line c.args.self.now.cells x || b) (more x));
      all = λ has x is.
          let both = and_parts c.loop-access.has_all c.has-has_all.result has in
          (λ i. has_line (same i).cells x)
          ∙ in_either (given x) (next x) (has_line before.cells x) (sym (more x) ∙ is)
          (λ was. c.loop-access.invariant.all both.0 x was)
          (λ now. line_there before.cells c.args.owner c.access-item.result c.in-Some.own own (sym c.has-has_all.ensures ∙ both.1) x now);
      places = λ d u.
          (λ i. has_place (same i).cells d u)
          ∙ place_kept (has_place before.cells d u) (has_place c.args.self.now.cells d u) (u == c.args.owner) (is_accessed (take c.loop-access.access-index c.args.accesses.now) d) (same_cell c.access-item.result.cell d)
          (c.loop-access.invariant.places d u)
          (λ who at. (λ i. has_place before.cells (sym (same_cell-is c.access-item.result.cell d at) i) (eqb-true u c.args.owner who i)) ∙ some-placed _ c.in-Some.own (sym own))
          ∙ ap (λ b. has_place c.args.self.now.cells d u || ((u == c.args.owner) && b)) (sym (accessed_more c.args.accesses.now c.loop-access.access-index c.access-item.result c.loop-access-test.true c.access-item.is d));
      still = λ u. (λ i. finite.contains_key (same i).lists u) ∙ c.loop-access.invariant.still u;
      few = omega (arith, c.loop-access.invariant.few);
    }

pub loop-access-preserved : goal.loop-access-preserved
loop-access-preserved c =
    let before = c.loop-access.self in
    let absent = sym c.in-Ok.ensures.had ∙ c.in_default.is in
    let marks = c.in-Ok.ensures.placed c.in_default.is in
    let list = c.in-Ok.ensures.list c.in_default.is in
    let more = given_more c.args.accesses.now c.loop-access.access-index c.access-item.result c.loop-access-test.true c.access-item.is c.args.owner in
    let given = λ (x : LockLine). is_given c.args.owner (take c.loop-access.access-index c.args.accesses.now) x in
    let next = λ (x : LockLine). is_held x.kind && (x.owner == c.args.owner) && (same_cell c.access-item.result.cell x.cell && same_mode c.access-item.result.mode x.mode) in
    let line = added_line before c.place.new.self c.args.owner c.access-item.result.cell c.held.result absent marks list c.access-item.result.mode c.held.ensures in
    record {
      back = λ d u. added_back before c.place.new.self c.args.owner c.access-item.result.cell c.held.result absent marks list c.loop-access.made d u ∙ c.loop-access.invariant.back d u;
      lines = λ x.
          (λ i. line x i || more x i)
          ∙ lines_made (has_line before.cells x) (given x) (has_line c.args.self.now.cells x) (next x) (c.loop-access.invariant.lines x)
          ∙ sym (ap (λ b. has_line c.args.self.now.cells x || b) (more x));
      all = λ has x is.
          line x ∙ or_with (has_line before.cells x) (next x)
          (in_place (given x) (next x) (has_line before.cells x) (sym (more x) ∙ is) (c.loop-access.invariant.all has x));
      places = λ d u.
          added_place before c.place.new.self c.args.owner c.access-item.result.cell c.held.result absent marks list d u
          ∙ ap (λ b. b && (u == c.args.owner) || has_place before.cells d u) (turned_cell d c.access-item.result.cell)
          ∙ place_made (has_place before.cells d u) (has_place c.args.self.now.cells d u) (u == c.args.owner) (is_accessed (take c.loop-access.access-index c.args.accesses.now) d) (same_cell c.access-item.result.cell d)
          (c.loop-access.invariant.places d u)
          ∙ ap (λ b. has_place c.args.self.now.cells d u || ((u == c.args.owner) && b)) (sym (accessed_more c.args.accesses.now c.loop-access.access-index c.access-item.result c.loop-access-test.true c.access-item.is d));
      still = λ u. added_still before c.place.new.self c.args.owner c.access-item.result.cell c.held.result absent marks list (c.loop-access.invariant.still c.args.owner ∙ c.requires) u ∙ c.loop-access.invariant.still u;
      few = omega (arith, c.loop-access.invariant.few);
    }
