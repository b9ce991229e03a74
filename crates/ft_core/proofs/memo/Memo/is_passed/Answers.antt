use Rattle.std.proofs.Common.{[], ◌∷◌, Option, sym, subst}
use Rattle.std.specs.Borrow.{Bor}
use Rattle.std.specs.Option.{option_copied, option_to_list}
use Rattle.ft_tree.specs.Fronts.{front_entries}
use Rattle.ft_posix.specs.declared.intent.Edit.{Edit}
use Rattle.ft_core.specs.Memos.{AreElsewhere}
use Rattle.ft_core.proofs.memo.Memo.is_passed.Goals as goal

pub returns-in-Entry : goal.returns-in-Entry
returns-in-Entry c = λ none.
    let entries = front_entries c.args.self.now.front in
    subst (λ (o : Option (Bor Edit)). AreElsewhere entries (option_to_list (option_copied o))) (sym c.in-Some.is)
    (subst (λ (e : Edit). AreElsewhere entries (e ∷ [])) (sym c.in-Entry.is) (c.passes.ensures none, tt))
