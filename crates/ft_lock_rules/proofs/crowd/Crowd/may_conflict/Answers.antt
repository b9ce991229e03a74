use Rattle.std.proofs.Common.{◌+◌, take, subst, sym, ap, ◌∙◌}
use Rattle.ft_lock_rules.specs.LockModes.{conflicts_with}
use Rattle.ft_lock_rules.specs.CellLocks.{marks_in, AreApart, IsIndexIf, ReadFrom}
use Rattle.ft_lock_rules.proofs.HolderLists.{get-list}
use Rattle.ft_lock_rules.proofs.HolderReaders.{first_all, first_had, first_apart}
use Rattle.ft_lock_rules.proofs.crowd.Crowd.may_conflict.Goals as goal

pub returns-in-Read-Some-clause-all : goal.returns-in-Read-Some-clause-all
returns-in-Read-Some-clause-all c = λ u marks e way.
    let index = subst (λ x. IsIndexIf x c.self.inside.list.items) c.in-Read-Some.is-1 c.self.invariant.1 in
    ap (λ l. marks_in (take (c.last_writer-in-Read-Some.result + 1) l) u) c.as_slice-list.ensures
    ∙ first_all (c.last_writer-in-Read-Some.result + 1) c.self.inside.list.items u marks
    (subst (λ n. ReadFrom (n + 1) c.self.inside.list.items) (sym c.last_writer-in-Read-Some.ensures) index.readers)
    (sym (get-list c.args.self.now c.self.inside.list.items c.self.view_is u) ∙ e)
    (sym (ap (conflicts_with marks) c.in-Read-Some.is-0) ∙ way)

pub returns-in-Read-Some-clause-had : goal.returns-in-Read-Some-clause-had
returns-in-Read-Some-clause-had c = λ u marks e.
    get-list c.args.self.now c.self.inside.list.items c.self.view_is u ∙ sym (ap (λ l. marks_in l u) c.as_slice-list.ensures) ∙ first_had _ c.as_slice-list.result.now u marks e

pub returns-in-Read-Some-clause-apart : goal.returns-in-Read-Some-clause-apart
returns-in-Read-Some-clause-apart c = first_apart _ c.as_slice-list.result.now (subst AreApart (sym c.as_slice-list.ensures) c.self.invariant.0)

pub returns-in_default-clause-all : goal.returns-in_default-clause-all
returns-in_default-clause-all c = λ u marks e way.
    ap (λ l. marks_in l u) c.as_slice-list.ensures ∙ sym (get-list c.args.self.now c.self.inside.list.items c.self.view_is u) ∙ e

pub returns-in_default-clause-had : goal.returns-in_default-clause-had
returns-in_default-clause-had c = λ u marks e.
    get-list c.args.self.now c.self.inside.list.items c.self.view_is u ∙ sym (ap (λ l. marks_in l u) c.as_slice-list.ensures) ∙ e

pub returns-in_default-2-clause-all : goal.returns-in_default-2-clause-all
returns-in_default-2-clause-all c = λ u marks e way.
    ap (λ l. marks_in l u) c.as_slice-list.ensures ∙ sym (get-list c.args.self.now c.self.inside.list.items c.self.view_is u) ∙ e

pub returns-in_default-2-clause-had : goal.returns-in_default-2-clause-had
returns-in_default-2-clause-had c = λ u marks e.
    get-list c.args.self.now c.self.inside.list.items c.self.view_is u ∙ sym (ap (λ l. marks_in l u) c.as_slice-list.ensures) ∙ e

pub returns-in_default-3-clause-all : goal.returns-in_default-3-clause-all
returns-in_default-3-clause-all c = λ u marks e way.
    ap (λ l. marks_in l u) c.as_slice-list.ensures ∙ sym (get-list c.args.self.now c.self.inside.list.items c.self.view_is u) ∙ e

pub returns-in_default-3-clause-had : goal.returns-in_default-3-clause-had
returns-in_default-3-clause-had c = λ u marks e.
    get-list c.args.self.now c.self.inside.list.items c.self.view_is u ∙ sym (ap (λ l. marks_in l u) c.as_slice-list.ensures) ∙ e
