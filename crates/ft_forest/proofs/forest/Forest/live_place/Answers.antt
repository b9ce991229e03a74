use Rattle.std.proofs.Common.{◌<◌, ◌≤◌, ◌∙◌, sym, ap, subst}
use Rattle.ft_forest.specs.Transactions.{state_in}
use Rattle.ft_forest.specs.Refusals.{refusal_of}
use Rattle.ft_forest.specs.Records.{links_of}
use Rattle.ft_forest.proofs.Seeing.{state-here, live-of}
use Rattle.ft_forest.proofs.Refusing.{ended_refused}
use Rattle.ft_forest.proofs.forest.Forest.live_place.Goals as goal

pub returns-then-is_live-clause-live : goal.returns-then-is_live-clause-live
returns-then-is_live-clause-live c =
    let r = c.self.inside.records in
    let live = live-of ((links_of r).state c.begun_place-place.result) (sym (c.self.invariant.linked.kept c.begun_place-place.result) ∙ sym c.is_live.ensures ∙ c.if-is_live.true) in
    ap (λ m. state_in m c.args.txn) (sym c.self.view_is) ∙ state-here c.self.inside.limits c.self.inside.base r c.begun_place-place.result c.args.txn c.begun_place-place.ensures ∙ live

pub returns-then-place-len-clause-refused : goal.returns-then-place-len-clause-refused
returns-then-place-len-clause-refused c =
    let r = c.self.inside.records in
    let place = c.begun_place-place.result in
    let there = c.self.invariant.linked.begun place (subst (λ n. place < n) c.len.ensures c.if-place-len.true) in
    let dead = sym (c.self.invariant.linked.kept place) ∙ sym c.is_live.ensures ∙ c.if-is_live.false in
    let is = ap (λ m. state_in m c.args.txn) (sym c.self.view_is) ∙ state-here c.self.inside.limits c.self.inside.base r place c.args.txn c.begun_place-place.ensures in
    λ later. ap (λ o. refusal_of o later) is ∙ ended_refused ((links_of r).state place) there dead later

pub returns-clause-refused : goal.returns-clause-refused
returns-clause-refused c =
    let r = c.self.inside.records in
    let place = c.begun_place-place.result in
    let none = c.self.invariant.linked.unbegun place (subst (λ n. n ≤ place) c.len.ensures c.if-place-len.false) in
    let is = ap (λ m. state_in m c.args.txn) (sym c.self.view_is) ∙ state-here c.self.inside.limits c.self.inside.base r place c.args.txn c.begun_place-place.ensures in
    λ later. ap (λ o. refusal_of o later) (is ∙ none)
