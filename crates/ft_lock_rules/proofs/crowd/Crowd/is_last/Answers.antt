use Rattle.std.proofs.Common.{not, ◌==◌, sym, ap, ◌∙◌}
use Rattle.std.specs.List.{list_any}
use Rattle.ft_lock_rules.proofs.HolderLists.{turned, others_found, others_missing}
use Rattle.ft_lock_rules.proofs.crowd.Crowd.is_last.Goals as goal

pub returns-clause-none : goal.returns-clause-none
returns-clause-none c = λ e.
    others_missing c.args.self.now c.self.inside.list.items c.args.owner c.self.view_is
    (sym (c.has_others.ensures ∙ ap (λ l. list_any (λ h. not (h.owner == c.args.owner)) l) c.as_slice.ensures) ∙ turned c.has_others.result e)

pub returns-clause-some : goal.returns-clause-some
returns-clause-some c = λ e.
    others_found c.args.self.now c.self.inside.list.items c.args.owner c.self.view_is
    (sym (c.has_others.ensures ∙ ap (λ l. list_any (λ h. not (h.owner == c.args.owner)) l) c.as_slice.ensures) ∙ turned c.has_others.result e)
