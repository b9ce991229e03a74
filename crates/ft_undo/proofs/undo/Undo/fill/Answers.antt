use Rattle.std.proofs.Common.{◌≡◌, ◌++◌, [], ◌∷◌, suc, length, slice_get, arith, sym, ap, subst, ◌∙◌}
use Rattle.std.proofs.lemmas.Option.{slice_get_within}
use Rattle.ft_cells.specs.Cells.{Cells}
use Rattle.ft_undo.specs.declared.undo.BeforeImage.{BeforeImage}
use Rattle.ft_undo.specs.Undone.{restored, CanRestoreAll}
use Rattle.ft_posix.proofs.Setting.{setting}
use Rattle.ft_posix.proofs.Restoring.{restoring}
use Rattle.ft_undo.proofs.Undoing.{under-way-back, under-way-same, one-longer, next-can, next-made, none-left}
use Rattle.ft_undo.proofs.undo.Undo.fill.Goals as goal

pub set-requires : goal.set-requires
set-requires c =
    let backs = c.loop-edit.self-inside.items.items in
    let all = c.args.edits.now in
    let next = ap (slice_get all) (sym (c.len-in-loop-edit.ensures ∙ c.loop-edit.self-inside.items.ok.0)) ∙ sym c.in-Some.ensures in
    next-can c.args.tree.now all c.loop-edit.tree backs c.loop-edit.invariant.on c.in-Some.edit.now next c.requires.places

pub unwind-requires : goal.unwind-requires
unwind-requires c =
    let backs = c.loop-edit.self-inside.items.items in
    subst (λ (s : Cells). CanRestoreAll s backs) (sym c.in-Err.ensures.err)
    (under-way-back c.args.tree.now c.args.edits.now c.loop-edit.tree backs setting restoring _ c.requires.places c.loop-edit.invariant.on)

pub returns-in-Err : goal.returns-in-Err
returns-in-Err c =
    let backs = c.loop-edit.self-inside.items.items in (
      c.unwind.ensures.tree ∙ ap (λ (s : Cells). restored s backs) c.in-Err.ensures.err
          ∙ under-way-same c.args.tree.now c.args.edits.now c.loop-edit.tree backs setting restoring _ c.requires.places c.loop-edit.invariant.on,
      c.unwind.ensures.none,
    )

pub loop-edit-preserved : goal.loop-edit-preserved
loop-edit-preserved c =
    let backs = c.loop-edit.self-inside.items.items in
    let all = c.args.edits.now in
    let next = ap (slice_get all) (sym (c.len-in-loop-edit.ensures ∙ c.loop-edit.self-inside.items.ok.0)) ∙ sym c.in-Some.ensures in
    record {
      on =
          next-made c.args.tree.now all c.loop-edit.tree backs c.loop-edit.invariant.on c.in-Some.edit.now next c.set.new.tree c.push_reserved.new.self.items c.in-Ok.ensures.after
          (c.push_reserved.ensures.items ∙ ap (λ (b : BeforeImage). backs ++ b ∷ []) c.in-Ok.ensures.back);
      room = let room = c.loop-edit.invariant.room in let capacity = c.push_reserved.ensures.capacity in omega arith;
    }

pub loop-edit-smaller : goal.loop-edit-smaller
loop-edit-smaller c =
    let backs = c.loop-edit.self-inside.items.items in
    let all = c.args.edits.now in
    let within = slice_get_within all (length backs) c.in-Some.edit.now (ap (slice_get all) (sym (c.len-in-loop-edit.ensures ∙ c.loop-edit.self-inside.items.ok.0)) ∙ sym c.in-Some.ensures) in
    let longer : suc (length backs) ≡ length c.push_reserved.new.self.items = one-longer backs c.in-Ok.back ∙ sym (ap length c.push_reserved.ensures.items) in
    omega arith

pub returns : goal.returns
returns c =
    let all = c.args.edits.now in
    none-left c.args.tree.now all c.loop-edit.tree c.loop-edit.self-inside.items.items c.loop-edit.invariant.on (ap (slice_get all) (sym (c.len-in-loop-edit.ensures ∙ c.loop-edit.self-inside.items.ok.0)) ∙ sym c.in_default.ensures)
