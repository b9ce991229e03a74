use Rattle.std.proofs.Common.{◌≡◌, ◌<◌, ◌≤◌, ◌==◌, ◌∙◌, ℕ, Some, None, length, sym, ap, subst, arith}
use Rattle.std.specs.Prelude.{Contains}
use Rattle.std.specs.List.{IsDistinct}
use Rattle.std.proofs.lemmas.List.Sorted.{Contains-permutation, IsPermutation-sym}
use Rattle.ft_forest.specs.Transactions.{Transactions, IsLiveUnder}
use Rattle.ft_forest.specs.Records.{number_at}
use Rattle.ft_forest.specs.Places.{HasChildrenBehind}
use Rattle.ft_forest.proofs.Listing.{none_twice, sorted-rising, roots-listed, few-listed, fresh-children, listed-after, next-listed, all-listed, forest-seen, parents-live}
use Rattle.ft_forest.proofs.forest.Forest.live.Goals as goal

pub list_children-requires-clause-once : goal.list_children-requires-clause-once
list_children-requires-clause-once c = subst (IsDistinct ◌==◌) (sym c.new-live.ensures.items) none_twice

pub loop-index-init : goal.loop-index-init
loop-index-init c = roots-listed c.args.self.now c.list_children.new.live.items (subst (λ xs. HasChildrenBehind c.args.self.now None xs c.list_children.new.live.items) c.new-live.ensures.items c.in_ok-list_children.ensures)

pub begun_place-place-requires : goal.begun_place-place-requires
begun_place-place-requires c =
    let lt : c.loop-index.index < length c.loop-index.live.items = subst (λ n. c.loop-index.index < n) (c.len.ensures ∙ c.loop-index.live.ok.0) c.loop-index-test.true in
    let after = listed-after c.args.self.now c.loop-index.index c.loop-index.live.items c.loop-index.invariant lt c.index.result.now c.index.ensures in
    subst (λ base. base < c.index.result.now) (sym (ap (λ (m : Transactions). m.base) c.self.view_is)) after

pub list_children-requires-in-loop-index-clause-fresh : goal.list_children-requires-in-loop-index-clause-fresh
list_children-requires-in-loop-index-clause-fresh c =
    let m = c.args.self.now in
    let lt : c.loop-index.index < length c.loop-index.live.items = subst (λ n. c.loop-index.index < n) (c.len.ensures ∙ c.loop-index.live.ok.0) c.loop-index-test.true in
    let place = c.begun_place-place.ensures ∙ ap (λ (m : Transactions). number_at m.base c.begun_place-place.result) c.self.view_is in
    subst (λ t. (x : ℕ) → IsLiveUnder m (Some t) x → Contains c.loop-index.live.items x → ⊥) place (fresh-children m c.loop-index.index c.loop-index.live.items c.loop-index.invariant lt c.index.result.now c.index.ensures)

pub loop-index-smaller : goal.loop-index-smaller
loop-index-smaller c =
    let few = few-listed c.args.self.now c.loop-index.index c.loop-index.live.items c.loop-index.invariant in
    let lt : c.loop-index.index < length c.loop-index.live.items = subst (λ n. c.loop-index.index < n) (c.len.ensures ∙ c.loop-index.live.ok.0) c.loop-index-test.true in
    omega arith

pub loop-index-preserved : goal.loop-index-preserved
loop-index-preserved c =
    let m = c.args.self.now in
    let xs = c.loop-index.live.items in
    let ys = c.list_children-in-loop-index.new.live.items in
    let lt : c.loop-index.index < length xs = subst (λ n. c.loop-index.index < n) (c.len.ensures ∙ c.loop-index.live.ok.0) c.loop-index-test.true in
    let place = c.begun_place-place.ensures ∙ ap (λ (m : Transactions). number_at m.base c.begun_place-place.result) c.self.view_is in
    next-listed m c.loop-index.index xs c.loop-index.invariant lt c.index.result.now c.index.ensures ys (subst (λ t. HasChildrenBehind m (Some t) xs ys) (sym place) c.in_ok-list_children-2.ensures)

pub returns-clause-rising : goal.returns-clause-rising
returns-clause-rising c = sorted-rising c.loop-index.live.items c.sort.new.self.items c.loop-index.invariant.once c.sort.ensures.permutation c.in_ok-sort.ensures.sorted

pub returns-clause-sound : goal.returns-clause-sound
returns-clause-sound c = λ x i. c.loop-index.invariant.live x (Contains-permutation c.sort.new.self.items c.loop-index.live.items x (IsPermutation-sym c.loop-index.live.items c.sort.new.self.items c.sort.ensures.permutation) i)

pub returns-clause-all : goal.returns-clause-all
returns-clause-all c = λ x live.
    let forest = forest-seen c.self.inside.limits c.self.inside.base c.self.inside.records c.self.invariant c.args.self.now c.self.view_is in
    let up = parents-live c.self.inside.limits c.self.inside.base c.self.inside.records c.self.invariant c.args.self.now c.self.view_is in
    let done : length c.loop-index.live.items ≤ c.loop-index.index = subst (λ n. n ≤ c.loop-index.index) (c.len.ensures ∙ c.loop-index.live.ok.0) c.loop-index-test.false in
    Contains-permutation c.loop-index.live.items c.sort.new.self.items x c.sort.ensures.permutation (all-listed c.args.self.now c.loop-index.index c.loop-index.live.items c.loop-index.invariant forest up done x live)
