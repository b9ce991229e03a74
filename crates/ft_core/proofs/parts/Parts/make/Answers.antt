use Rattle.std.proofs.Common.{◌-◌, length, drop, arith, refl, subst}
use Rattle.std.specs.Prelude.{slice_range}
use Rattle.std.proofs.lemmas.List.{take_all, length-drop}
use Rattle.ft_owned_lists.specs.OwnedLists.{list_in}
use Rattle.ft_history.specs.Logs.{pushed}
use Rattle.ft_lock_rules.specs.Locks.{AreGranted}
use Rattle.ft_undo.specs.Logs.{AreLists}
use Rattle.ft_core.specs.declared.parts.Asker.{Asker}
use Rattle.ft_core.proofs.Surveys.{granted-rest, on-ok}
use Rattle.ft_core.proofs.parts.Parts.make.Goals as goal

pub returns-clause-made : goal.returns-clause-made
returns-clause-made c =
    let old = c.args.self.now in
    let ys = c.args.accesses.now in
    let k = c.args.held in
    let size = length-drop k ys in
    let granted = on-ok c.grant.result (AreGranted old.locks c.grant.new.self c.args.asker.txn (slice_range ys k (length ys))) c.if-is_err.ensures.value c.grant.ensures.ok in
    let made = c.in_ok-apply.ensures.made in
    record {
      forest = refl;
      cells = made.cells;
      undo = made.undo;
      left = made.left;
      inverse = made.inverse;
      may = made.may_revert;
      granted = granted-rest old.locks c.grant.new.self c.args.asker.txn ys k c.requires.held
          (subst (AreGranted old.locks c.grant.new.self c.args.asker.txn) (take_all (length ys - k) (drop k ys) (omega (arith, size))) granted);
      listed = subst (λ (a : Asker). AreLists c.apply.new.self (pushed (list_in old.logs) a.txn (record { stamp = a.stamp; undo = made.undo }))) c.asker.view_is made.listed;
      open_still = c.apply.ensures.opened;
    }
