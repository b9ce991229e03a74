use Rattle.std.proofs.Common.{◌≡◌, ◌<◌, ◌∙◌, ℕ, length, sym, ap, subst}
use Rattle.ft_forest.specs.Transactions.{live_children_in, IsLiveChild}
use Rattle.ft_forest.specs.Records.{transactions_of}
use Rattle.ft_forest.proofs.Seeing.{children-seen, some-child, no-child, absent-children}
use Rattle.ft_forest.proofs.forest.Forest.live_children.Goals as goal

pub returns-in-Some-clause-count : goal.returns-in-Some-clause-count
returns-in-Some-clause-count c =
    c.children_of.ensures ∙ c.self.invariant.linked.children c.in-Some.place
    ∙ sym (children-seen c.self.inside.limits c.self.inside.base c.self.inside.records c.in-Some.place)
    ∙ ap (live_children_in (transactions_of c.self.inside.limits c.self.inside.base c.self.inside.records)) (sym c.in-Some.ensures.there)
    ∙ ap (λ m. live_children_in m c.args.txn) c.self.view_is

pub returns-in-Some-clause-some : goal.returns-in-Some-clause-some
returns-in-Some-clause-some c = λ lt. some-child c.args.self.now c.args.txn (subst (λ n. 0 < n) (returns-in-Some-clause-count c) lt)

pub returns-in-Some-clause-none : goal.returns-in-Some-clause-none
returns-in-Some-clause-none c = λ none. no-child c.args.self.now c.args.txn (sym (returns-in-Some-clause-count c) ∙ none)

pub returns-in-None-clause-count : goal.returns-in-None-clause-count
returns-in-None-clause-count c =
    let count : c.len.result ≡ length c.self.inside.records.list.items = c.len.ensures in
    sym (ap (λ m. live_children_in m c.args.txn) (sym c.self.view_is) ∙ absent-children c.self.inside.limits c.self.inside.base c.self.inside.records c.self.invariant c.args.txn (λ i lt. c.in-None.ensures.none i (subst (λ n. i < n) (sym count) lt)))

pub returns-in-None-clause-none : goal.returns-in-None-clause-none
returns-in-None-clause-none c = λ none. no-child c.args.self.now c.args.txn (sym (returns-in-None-clause-count c))
