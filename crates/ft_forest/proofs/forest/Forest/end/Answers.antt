use Rattle.std.proofs.Common.{◌<◌, ◌∙◌, ℕ, sym, ap, subst}
use Rattle.ft_forest.specs.Transactions.{Transactions, state_in, IsLiveChild, HasEnded}
use Rattle.ft_forest.specs.Records.{transactions_of}
use Rattle.ft_forest.proofs.Changing.{live-links, live-begun, live-kept, parent-kept, older-kept, younger-kept, records-ended, value-ended}
use Rattle.ft_forest.proofs.Aborting.{begun-after}
use Rattle.ft_forest.proofs.forest.Forest.end.Goals as goal

pub begun_place-place-requires : goal.begun_place-place-requires
begun_place-place-requires c = subst (λ base. base < c.args.txn) (sym (ap (λ (m : Transactions). m.base) c.self.view_is)) (begun-after c.args.self.now c.args.txn c.requires.live)

pub end-requires-clause-there : goal.end-requires-clause-there
end-requires-clause-there c =
    let live = live-links c.self.inside.limits c.self.inside.base c.self.inside.records c.self.invariant c.begun_place-place.result c.args.txn c.begun_place-place.ensures (ap (λ m. state_in m c.args.txn) c.self.view_is ∙ c.requires.live) in
    live-begun c.self.inside.limits c.self.inside.base c.self.inside.records c.self.invariant c.begun_place-place.result live

pub end-requires-clause-kept : goal.end-requires-clause-kept
end-requires-clause-kept c =
    let live = live-links c.self.inside.limits c.self.inside.base c.self.inside.records c.self.invariant c.begun_place-place.result c.args.txn c.begun_place-place.ensures (ap (λ m. state_in m c.args.txn) c.self.view_is ∙ c.requires.live) in
    live-kept c.self.inside.limits c.self.inside.base c.self.inside.records c.self.invariant c.begun_place-place.result live

pub end-requires-clause-parent : goal.end-requires-clause-parent
end-requires-clause-parent c =
    let live = live-links c.self.inside.limits c.self.inside.base c.self.inside.records c.self.invariant c.begun_place-place.result c.args.txn c.begun_place-place.ensures (ap (λ m. state_in m c.args.txn) c.self.view_is ∙ c.requires.live) in
    parent-kept c.self.inside.limits c.self.inside.base c.self.inside.records c.self.invariant c.begun_place-place.result live

pub end-requires-clause-older : goal.end-requires-clause-older
end-requires-clause-older c =
    let live = live-links c.self.inside.limits c.self.inside.base c.self.inside.records c.self.invariant c.begun_place-place.result c.args.txn c.begun_place-place.ensures (ap (λ m. state_in m c.args.txn) c.self.view_is ∙ c.requires.live) in
    older-kept c.self.inside.limits c.self.inside.base c.self.inside.records c.self.invariant c.begun_place-place.result live

pub end-requires-clause-younger : goal.end-requires-clause-younger
end-requires-clause-younger c =
    let live = live-links c.self.inside.limits c.self.inside.base c.self.inside.records c.self.invariant c.begun_place-place.result c.args.txn c.begun_place-place.ensures (ap (λ m. state_in m c.args.txn) c.self.view_is ∙ c.requires.live) in
    younger-kept c.self.inside.limits c.self.inside.base c.self.inside.records c.self.invariant c.begun_place-place.result live

pub invariant_of-self : goal.invariant_of-self
invariant_of-self c =
    let live = ap (λ m. state_in m c.args.txn) c.self.view_is ∙ c.requires.live in
    let childless = subst (λ m. (x : ℕ) → IsLiveChild m c.args.txn x → ⊥) (sym c.self.view_is) c.requires.no_child in
    records-ended c.self.inside.limits c.self.inside.base c.self.inside.records c.self.invariant c.begun_place-place.result c.args.txn c.begun_place-place.ensures live childless c.args.state c.requires.ended c.end.new.self c.end.ensures

pub returns : goal.returns
returns c =
    let live = ap (λ m. state_in m c.args.txn) c.self.view_is ∙ c.requires.live in
    let childless = subst (λ m. (x : ℕ) → IsLiveChild m c.args.txn x → ⊥) (sym c.self.view_is) c.requires.no_child in
    subst (λ m. HasEnded m (transactions_of c.self.inside.limits c.self.inside.base c.end.new.self) c.args.txn c.args.state) c.self.view_is
    (value-ended c.self.inside.limits c.self.inside.base c.self.inside.records c.self.invariant c.begun_place-place.result c.args.txn c.begun_place-place.ensures live childless c.args.state c.requires.ended c.end.new.self c.end.ensures)
