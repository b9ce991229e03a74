use Rattle.std.proofs.Common.{sym, ap, ◌∙◌}
use Rattle.std.specs.List.{list_any}
use Rattle.ft_lock_rules.specs.LockModes.{is_marked, is_marked_of}
use Rattle.ft_lock_rules.proofs.HolderLists.{get-list, marked_in_list, unmarked_in_list}
use Rattle.ft_lock_rules.proofs.crowd.Crowd.is_locked.Goals as goal

pub returns-clause-some : goal.returns-clause-some
returns-clause-some c = λ e.
    let found = marked_in_list c.self.inside.list.items c.self.invariant.0 (sym (c.is_any_marked.ensures ∙ ap (λ l. list_any (λ h. is_marked h.marks) l) c.as_slice.ensures) ∙ e) in
    (found.0, ap is_marked_of (get-list c.args.self.now c.self.inside.list.items c.self.view_is found.0) ∙ found.1)

pub returns-clause-none : goal.returns-clause-none
returns-clause-none c = λ e u.
    ap is_marked_of (get-list c.args.self.now c.self.inside.list.items c.self.view_is u)
    ∙ unmarked_in_list c.self.inside.list.items (sym (c.is_any_marked.ensures ∙ ap (λ l. list_any (λ h. is_marked h.marks) l) c.as_slice.ensures) ∙ e) u
