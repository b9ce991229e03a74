use Rattle.std.proofs.Common.{ℕ, Some, ◌≡◌, ◌<◌, ◌∙◌, length, sym, ap, subst, arith}
use Rattle.std.specs.Option.{option_map}
use Rattle.ft_history.specs.Forest.{IsForest}
use Rattle.ft_forest.specs.declared.state.State.TheVariants.{Live}
use Rattle.ft_forest.specs.Transactions.{parent_in, state_in}
use Rattle.ft_forest.specs.Records.{number_at, transactions_of}
use Rattle.ft_forest.proofs.Seeing.{parent-at, parent-absent, value-forest, live-parent}
use Rattle.ft_forest.proofs.forest.Forest.parent.Goals as goal

pub returns-in_err-place-clause-parent : goal.returns-in_err-place-clause-parent
returns-in_err-place-clause-parent c =
    let count : c.len.result ≡ length c.self.inside.records.list.items = c.len.ensures in
    c.from_residual.ensures
    ∙ sym (ap (λ m. parent_in m c.args.txn) (sym c.self.view_is) ∙ parent-absent c.self.inside.limits c.self.inside.base c.self.inside.records c.args.txn (λ i lt. c.in_err-place.ensures.none i (subst (λ n. i < n) (sym count) lt)))

pub returns-in_err-place-clause-forest : goal.returns-in_err-place-clause-forest
returns-in_err-place-clause-forest c = subst (λ m. IsForest (parent_in m)) c.self.view_is (value-forest c.self.inside.limits c.self.inside.base c.self.inside.records c.self.invariant)

pub returns-clause-parent : goal.returns-clause-parent
returns-clause-parent c =
    let limits = c.self.inside.limits in
    let base = c.self.inside.base in
    c.numbered.ensures ∙ ap (option_map (number_at base)) c.parent_of.ensures
    ∙ sym (ap (λ m. parent_in m c.args.txn) (sym c.self.view_is) ∙ ap (parent_in (transactions_of limits base c.self.inside.records)) c.in_ok-place.ensures.there ∙ parent-at limits base c.self.inside.records c.in_ok-place.place)

pub returns-clause-forest : goal.returns-clause-forest
returns-clause-forest c = subst (λ m. IsForest (parent_in m)) c.self.view_is (value-forest c.self.inside.limits c.self.inside.base c.self.inside.records c.self.invariant)

pub returns-in_err-place-clause-live : goal.returns-in_err-place-clause-live
returns-in_err-place-clause-live c = λ x p up live. subst (λ m. (x p : ℕ) → parent_in m x ≡ Some p → state_in m x ≡ Some Live → state_in m p ≡ Some Live) c.self.view_is (λ x p up live. live-parent c.self.inside.limits c.self.inside.base c.self.inside.records c.self.invariant x p live up) x p up live

pub returns-clause-live : goal.returns-clause-live
returns-clause-live c = λ x p up live. subst (λ m. (x p : ℕ) → parent_in m x ≡ Some p → state_in m x ≡ Some Live → state_in m p ≡ Some Live) c.self.view_is (λ x p up live. live-parent c.self.inside.limits c.self.inside.base c.self.inside.records c.self.invariant x p live up) x p up live

pub numbered-requires : goal.numbered-requires
numbered-requires c = λ p is.
    let count : c.len.result ≡ length c.self.inside.records.list.items = c.len.ensures in
    let lt = subst (λ n. c.in_ok-place.place < n) count c.in_ok-place.ensures.within in
    let up = c.self.invariant.linked.lower c.in_ok-place.place p (sym c.parent_of.ensures ∙ is) in
    let small = c.self.invariant.numbers c.in_ok-place.place lt in
    omega arith
