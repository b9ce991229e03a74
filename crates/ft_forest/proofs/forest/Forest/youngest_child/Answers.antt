use Rattle.std.proofs.Common.{◌≡◌, ◌<◌, ◌∙◌, length, Some, None, sym, ap, subst}
use Rattle.std.specs.Option.{option_map}
use Rattle.ft_forest.specs.Transactions.{IsYoungestChild}
use Rattle.ft_forest.specs.Records.{IsYoungest, links_of, number_at, transactions_of}
use Rattle.ft_forest.proofs.Seeing.{youngest-seen, numbers-fit, no-child, absent-children}
use Rattle.ft_forest.proofs.forest.Forest.youngest_child.Goals as goal

pub returns-in_err-place-in-Some : goal.returns-in_err-place-in-Some
returns-in_err-place-in-Some c =
    let limits = c.self.inside.limits in
    let base = c.self.inside.base in
    let r = c.self.inside.records in
    let count : c.len.result ≡ length r.list.items = c.len.ensures in
    let none = no-child (transactions_of limits base r) c.in-Some.txn (absent-children limits base r c.self.invariant c.in-Some.txn (λ i lt. c.in_err-place-in-Some.ensures.none i (subst (λ n. i < n) (sym count) lt))) in
    subst (λ o. IsYoungestChild c.args.self.now c.args.parent o) (sym c.from_residual.ensures)
    (subst (λ m. IsYoungestChild m c.args.parent None) c.self.view_is (subst (λ p. IsYoungestChild (transactions_of limits base r) p None) (sym c.in-Some.is) none))

pub numbered-requires : goal.numbered-requires
numbered-requires c = λ y is.
    let limits = c.self.inside.limits in
    let base = c.self.inside.base in
    let r = c.self.inside.records in
    numbers-fit limits base r c.self.invariant y (subst (IsYoungest (links_of r) (Some c.in_ok-place-in-Some.place)) (sym c.youngest_of.ensures ∙ is) (c.self.invariant.linked.youngest (Some c.in_ok-place-in-Some.place))).0.live

pub numbered-requires-in-None : goal.numbered-requires-in-None
numbered-requires-in-None c = λ y is.
    numbers-fit c.self.inside.limits c.self.inside.base c.self.inside.records c.self.invariant y (subst (IsYoungest (links_of c.self.inside.records) None) is (c.self.invariant.linked.youngest None)).0.live

pub returns-in_ok-place-in-Some : goal.returns-in_ok-place-in-Some
returns-in_ok-place-in-Some c =
    let limits = c.self.inside.limits in
    let base = c.self.inside.base in
    let r = c.self.inside.records in
    subst (λ m. IsYoungestChild m c.args.parent c.numbered.result) c.self.view_is
    (subst (λ p. IsYoungestChild (transactions_of limits base r) p c.numbered.result) (sym (c.in-Some.is ∙ ap Some c.in_ok-place-in-Some.ensures.there))
    (subst (IsYoungestChild (transactions_of limits base r) (Some (number_at base c.in_ok-place-in-Some.place))) (sym (c.numbered.ensures ∙ ap (option_map (number_at base)) c.youngest_of.ensures)) (youngest-seen limits base r c.self.invariant (Some c.in_ok-place-in-Some.place))))

pub returns-in-None : goal.returns-in-None
returns-in-None c =
    let limits = c.self.inside.limits in
    let base = c.self.inside.base in
    let r = c.self.inside.records in
    subst (λ m. IsYoungestChild m c.args.parent c.numbered-in-None.result) c.self.view_is
    (subst (λ p. IsYoungestChild (transactions_of limits base r) p c.numbered-in-None.result) (sym c.in-None.is)
    (subst (IsYoungestChild (transactions_of limits base r) None) (sym c.numbered-in-None.ensures) (youngest-seen limits base r c.self.invariant None)))
