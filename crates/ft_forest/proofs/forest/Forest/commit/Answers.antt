use Rattle.std.proofs.Common.{◌≡◌, ◌<◌, ◌≤◌, ◌∙◌, ℕ, None, length, sym, ap, subst, arith}
use Rattle.std.specs.Option.{option_map}
use Rattle.std.specs.Prelude.{nat_lt}
use Rattle.std.proofs.lemmas.Bool.{lt-ltb, le-ltb}
use Rattle.std.proofs.lemmas.List.{length-map}
use Rattle.ft_forest.specs.declared.fault.ForestFault.TheVariants.{ChildLive}
use Rattle.ft_forest.specs.Transactions.{Transactions, live_children_in, parent_in, IsLiveChild}
use Rattle.ft_forest.specs.Refusals.{refusal_of, fault_if}
use Rattle.ft_forest.specs.Records.{number_at, transaction_from, transactions_of}
use Rattle.ft_forest.proofs.Seeing.{children-seen, no-child, parent-at}
use Rattle.ft_forest.proofs.forest.Forest.commit.Goals as goal
use Rattle.ft_forest.proofs.forest.Forest.commit.Goals.{After-children_of}

-- as many live children are kept of it as it has
count-is : (c : After-children_of) → c.children_of.result ≡ live_children_in c.args.self.now c.args.txn
count-is c =
    let limits = c.self.inside.limits in
    let base = c.self.inside.base in
    let r = c.self.inside.records in
    let is = c.in_ok-place.ensures.place ∙ ap (λ m. number_at m.base c.in_ok-place.place) (sym c.self.view_is) in
    c.children_of.ensures ∙ c.self.invariant.linked.children c.in_ok-place.place
    ∙ sym (children-seen limits base r c.in_ok-place.place)
    ∙ ap (live_children_in (transactions_of limits base r)) (sym is)
    ∙ ap (λ m. live_children_in m c.args.txn) c.self.view_is

pub returns-then-children_of-gt0-clause-refused : goal.returns-then-children_of-gt0-clause-refused
returns-then-children_of-gt0-clause-refused c =
    let count = live_children_in c.args.self.now c.args.txn in
    let is = count-is (goal.at.returns-then-children_of-gt0-clause-refused c).After-children_of in
    ap (λ o. refusal_of o (fault_if (nat_lt 0 count) ChildLive None)) c.in_ok-place.ensures.live
    ∙ ap (λ b. fault_if b ChildLive None) (lt-ltb 0 count (subst (λ n. 0 < n) is c.if-children_of-gt0.true))

pub end-requires-clause-no_child : goal.end-requires-clause-no_child
end-requires-clause-no_child c =
    let is = count-is (goal.at.end-requires-clause-no_child c).After-children_of in
    let none : live_children_in c.args.self.now c.args.txn ≡ 0 = omega arith in
    no-child c.args.self.now c.args.txn none

pub returns-clause-refused : goal.returns-clause-refused
returns-clause-refused c =
    let count = live_children_in c.args.self.now c.args.txn in
    let is = count-is (goal.at.returns-clause-refused c).After-children_of in
    ap (λ o. refusal_of o (fault_if (nat_lt 0 count) ChildLive None)) c.in_ok-place.ensures.live
    ∙ ap (λ b. fault_if b ChildLive None) (le-ltb 0 count (subst (λ n. n ≤ 0) is c.if-children_of-gt0.false))

pub numbered-parent-requires : goal.numbered-parent-requires
numbered-parent-requires c = λ p is.
    let place = c.in_ok-place.place in
    let count : length c.args.self.now.list ≡ length c.self.inside.records.list.items = ap (λ (m : Transactions). length m.list) (sym c.self.view_is) ∙ length-map c.self.inside.records.list.items (transaction_from c.self.inside.base) in
    let lt : place < length c.self.inside.records.list.items = subst (λ n. place < n) count c.in_ok-place.ensures.within in
    let up = c.self.invariant.linked.lower place p (sym c.parent_of.ensures ∙ is) in
    let small = c.self.invariant.numbers place lt in
    omega arith

pub returns-clause-parent : goal.returns-clause-parent
returns-clause-parent c =
    let limits = c.self.inside.limits in
    let base = c.self.inside.base in
    let is = c.in_ok-place.ensures.place ∙ ap (λ m. number_at m.base c.in_ok-place.place) (sym c.self.view_is) in
    c.numbered-parent.ensures ∙ ap (option_map (number_at base)) c.parent_of.ensures
    ∙ sym (ap (λ m. parent_in m c.args.txn) (sym c.self.view_is) ∙ ap (parent_in (transactions_of limits base c.self.inside.records)) is ∙ parent-at limits base c.self.inside.records c.in_ok-place.place)
