use Rattle.std.proofs.Common.{◌≡◌, ◌<◌, ◌∙◌, length, refl, sym, ap, subst}
use Rattle.std.proofs.lemmas.Option.{slice_get_read}
use Rattle.ft_forest.specs.Records.{state_from}
use Rattle.ft_forest.specs.Transactions.{state_in}
use Rattle.ft_forest.proofs.Seeing.{state-here, state-absent}
use Rattle.ft_forest.proofs.forest.Forest.state.Goals as goal

pub returns-in_err-place : goal.returns-in_err-place
returns-in_err-place c =
    let count : c.len.result ≡ length c.self.inside.records.list.items = c.len.ensures in
    c.from_residual.ensures
    ∙ sym (ap (λ m. state_in m c.args.txn) (sym c.self.view_is) ∙ state-absent c.self.inside.limits c.self.inside.base c.self.inside.records c.args.txn (λ i lt. c.in_err-place.ensures.none i (subst (λ n. i < n) (sym count) lt)))

pub returns : goal.returns
returns c =
    c.state_of.ensures
    ∙ sym (ap (λ m. state_in m c.args.txn) (sym c.self.view_is) ∙ state-here c.self.inside.limits c.self.inside.base c.self.inside.records c.in_ok-place.place c.args.txn c.in_ok-place.ensures.there)
