use Rattle.std.proofs.Common.{◌≡◌, Some, ℕ, None, sym, subst, arith}
use Rattle.std.specs.Option.{option_map}
use Rattle.ft_forest.specs.declared.state.State.TheVariants.{Live}
use Rattle.ft_forest.specs.Transactions.{state_in, HasBegun}
use Rattle.ft_forest.specs.Refusals.{begin_refusal}
use Rattle.ft_forest.specs.Places.{IsDepthBelow}
use Rattle.ft_forest.specs.Records.{number_at, transactions_of}
use Rattle.ft_forest.proofs.Changing.{few-children, has-room, parent-begun, above-kept, youngest-kept, records-begun, value-begun, records-same}
use Rattle.ft_forest.proofs.forest.Forest.add.Goals as goal

pub begin-requires-clause-parent : goal.begin-requires-clause-parent
begin-requires-clause-parent c =
    let full = subst (λ m. begin_refusal m ≡ None) (sym c.self.view_is) c.requires.room in
    let live = subst (λ m. (p : ℕ) → c.args.parent ≡ Some p → state_in m (number_at m.base p) ≡ Some Live) (sym c.self.view_is) c.requires.live in
    let deeper = subst (λ m. IsDepthBelow m c.args.parent c.args.depth) (sym c.self.view_is) c.requires.deeper in
    parent-begun c.self.inside.limits c.self.inside.base c.self.inside.records c.self.invariant full c.args.parent c.args.depth live deeper

pub begin-requires-clause-few : goal.begin-requires-clause-few
begin-requires-clause-few c =
    let full = subst (λ m. begin_refusal m ≡ None) (sym c.self.view_is) c.requires.room in
    let live = subst (λ m. (p : ℕ) → c.args.parent ≡ Some p → state_in m (number_at m.base p) ≡ Some Live) (sym c.self.view_is) c.requires.live in
    let deeper = subst (λ m. IsDepthBelow m c.args.parent c.args.depth) (sym c.self.view_is) c.requires.deeper in
    let lt = has-room c.self.inside.limits c.self.inside.base c.self.inside.records c.self.invariant full c.args.parent c.args.depth live deeper in
    omega arith

pub begin-requires-clause-kept : goal.begin-requires-clause-kept
begin-requires-clause-kept c =
    let full = subst (λ m. begin_refusal m ≡ None) (sym c.self.view_is) c.requires.room in
    let live = subst (λ m. (p : ℕ) → c.args.parent ≡ Some p → state_in m (number_at m.base p) ≡ Some Live) (sym c.self.view_is) c.requires.live in
    let deeper = subst (λ m. IsDepthBelow m c.args.parent c.args.depth) (sym c.self.view_is) c.requires.deeper in
    above-kept c.self.inside.limits c.self.inside.base c.self.inside.records c.self.invariant full c.args.parent c.args.depth live deeper

pub begin-requires-clause-youngest : goal.begin-requires-clause-youngest
begin-requires-clause-youngest c = youngest-kept c.self.inside.limits c.self.inside.base c.self.inside.records c.self.invariant c.args.parent

pub begin-requires-clause-children : goal.begin-requires-clause-children
begin-requires-clause-children c = few-children c.self.inside.limits c.self.inside.base c.self.inside.records c.self.invariant

pub invariant_of-self : goal.invariant_of-self
invariant_of-self c = records-same c.self.inside.limits c.self.inside.base c.self.inside.records c.begin.new.self c.self.invariant c.in_err-begin.ensures.same_list c.in_err-begin.ensures.same_youngest c.in_err-begin.ensures.same_live

pub invariant_of-self-2 : goal.invariant_of-self-2
invariant_of-self-2 c =
    let full = subst (λ m. begin_refusal m ≡ None) (sym c.self.view_is) c.requires.room in
    let live = subst (λ m. (p : ℕ) → c.args.parent ≡ Some p → state_in m (number_at m.base p) ≡ Some Live) (sym c.self.view_is) c.requires.live in
    let deeper = subst (λ m. IsDepthBelow m c.args.parent c.args.depth) (sym c.self.view_is) c.requires.deeper in
    records-begun c.self.inside.limits c.self.inside.base c.self.inside.records c.self.invariant full c.args.parent c.args.depth live deeper c.begin.new.self c.in_ok-begin.ensures.ok

pub returns-clause-begun : goal.returns-clause-begun
returns-clause-begun c =
    let full = subst (λ m. begin_refusal m ≡ None) (sym c.self.view_is) c.requires.room in
    let live = subst (λ m. (p : ℕ) → c.args.parent ≡ Some p → state_in m (number_at m.base p) ≡ Some Live) (sym c.self.view_is) c.requires.live in
    let deeper = subst (λ m. IsDepthBelow m c.args.parent c.args.depth) (sym c.self.view_is) c.requires.deeper in
    subst (λ m. HasBegun m (transactions_of c.self.inside.limits c.self.inside.base c.begin.new.self) (option_map (number_at m.base) c.args.parent)) c.self.view_is
    (value-begun c.self.inside.limits c.self.inside.base c.self.inside.records c.self.invariant full c.args.parent c.args.depth live deeper c.begin.new.self c.in_ok-begin.ensures.ok)
