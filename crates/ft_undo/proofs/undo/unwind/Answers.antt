use Rattle.std.proofs.Common.{sym, ap, subst, ◌∙◌}
use Rattle.ft_cells.specs.Cells.{Cells}
use Rattle.ft_undo.specs.Undone.{restored, CanRestoreAll}
use Rattle.ft_undo.proofs.Undoing.{can-last, restored-last}
use Rattle.ft_undo.proofs.undo.unwind.Goals as goal

pub restore-requires : goal.restore-requires
restore-requires c =
    (can-last c.pop.new.self.items c.in-Some.back c.loop-back.tree (subst (CanRestoreAll c.loop-back.tree) c.in-Some.ensures.items c.loop-back.invariant.can)).0

pub loop-back-preserved : goal.loop-back-preserved
loop-back-preserved c =
    let left = c.pop.new.self.items in
    let can = can-last left c.in-Some.back c.loop-back.tree (subst (CanRestoreAll c.loop-back.tree) c.in-Some.ensures.items c.loop-back.invariant.can) in
    record {
      can = subst (λ (s : Cells). CanRestoreAll s left) (sym c.restore.ensures) can.1;
      same = ap (λ (s : Cells). restored s left) c.restore.ensures ∙ sym (restored-last left c.in-Some.back c.loop-back.tree)
          ∙ ap (restored c.loop-back.tree) (sym c.in-Some.ensures.items) ∙ c.loop-back.invariant.same;
    }
