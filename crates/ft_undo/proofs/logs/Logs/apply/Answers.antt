use Rattle.std.proofs.Common.{refl, ap, subst, ◌∙◌}
use Rattle.ft_owned_lists.specs.OwnedLists.{Lists, list_in}
use Rattle.ft_undo.specs.declared.logs.LogRecord.{LogRecord}
use Rattle.ft_undo.specs.Logs.{is_open, AreLists}
use Rattle.ft_posix.proofs.Setting.{setting}
use Rattle.ft_posix.proofs.Restoring.{restoring}
use Rattle.ft_posix.proofs.Applying.{editing}
use Rattle.ft_undo.proofs.Applied.{made, left, inverse, may_revert, can_take_back, taken_back}
use Rattle.ft_undo.proofs.Keeping.{newest-there, newest-is, kept-as, kept-open, dropped-lists}
use Rattle.ft_undo.proofs.logs.Logs.apply.Goals as goal

pub unwrap-logged-requires : goal.unwrap-logged-requires
unwrap-logged-requires c = newest-there c.self.inside.chains c.push_front.new.self c.args.txn _ c.in_default.ensures.ok c.first_mut.result c.first_mut.ensures.value

pub fill-requires-clause-empty : goal.fill-requires-clause-empty
fill-requires-clause-empty c =
    ap (λ (l : LogRecord). l.undo) (newest-is c.self.inside.chains c.push_front.new.self c.args.txn _ c.in_default.ensures.ok c.first_mut.result c.unwrap-logged.result c.first_mut.ensures.value c.unwrap-logged.ensures) ∙ c.new-undo.ensures

pub returns-in-Err-fill-clause-kept : goal.returns-in-Err-fill-clause-kept
returns-in-Err-fill-clause-kept c =
    let there = ap (λ m. is_open m c.args.txn) c.self.view_is ∙ c.requires.open in
    subst (λ (m : Lists LogRecord). AreLists c.take_last.new.self (list_in m)) c.self.view_is
    (dropped-lists c.self.inside.chains c.push_front.new.self c.args.txn _ c.in_default.ensures.ok there _ _ refl c.take_last.new.self c.take_last.ensures.lists)

pub returns-in-Err-fill-clause-opened : goal.returns-in-Err-fill-clause-opened
returns-in-Err-fill-clause-opened c x =
    let there = ap (λ m. is_open m c.args.txn) c.self.view_is ∙ c.requires.open in
    c.take_last.ensures.opened x ∙ kept-open c.self.inside.chains c.push_front.new.self c.args.txn _ c.in_default.ensures.ok there _ _ refl x ∙ ap (λ m. is_open m x) c.self.view_is

pub returns-clause-opened : goal.returns-clause-opened
returns-clause-opened c x =
    let there = ap (λ m. is_open m c.args.txn) c.self.view_is ∙ c.requires.open in
    kept-open c.self.inside.chains c.push_front.new.self c.args.txn _ c.in_default.ensures.ok there _ _ refl x ∙ ap (λ m. is_open m x) c.self.view_is

pub returns-clause-made : goal.returns-clause-made
returns-clause-made c =
    let old = c.args.tree.now in
    let edits = c.args.edits.now in
    let cells = c.in_default-fill.ensures.0 in
    let backs = c.in_default-fill.ensures.1 in
    let there = ap (λ m. is_open m c.args.txn) c.self.view_is ∙ c.requires.open in
    let stamp = ap (λ (l : LogRecord). l.stamp) (newest-is c.self.inside.chains c.push_front.new.self c.args.txn _ c.in_default.ensures.ok c.first_mut.result c.unwrap-logged.result c.first_mut.ensures.value c.unwrap-logged.ensures) in
    record {
      cells = made editing setting old edits c.requires.apart c.fill.new.tree c.fill.new.self cells backs;
      left = left editing setting old edits c.requires.apart c.fill.new.tree c.fill.new.self cells backs c.requires.places;
      undo = c.fill.new.self;
      inverse = inverse editing setting old edits c.requires.apart c.fill.new.tree c.fill.new.self cells backs;
      may_revert = may_revert editing setting old edits c.requires.apart c.fill.new.tree c.fill.new.self cells backs;
      can_take_back = can_take_back editing setting old edits c.requires.apart c.fill.new.tree c.fill.new.self cells backs restoring c.requires.places;
      taken_back = taken_back editing setting old edits c.requires.apart c.fill.new.tree c.fill.new.self cells backs restoring c.requires.places;
      listed = kept-as c.self.inside.chains c.push_front.new.self c.args.txn _ c.in_default.ensures.ok there _ _ refl c.args.self.now c.args.stamp c.self.view_is stamp;
    }
