use Rattle.std.proofs.Common.{◌≡◌, ◌+◌, ◌++◌, ◌∷◌, [], Option, Some, None, IfNone, sym, ap, subst, ◌∙◌}
use Rattle.std.specs.FinMap as finite
use Rattle.ft_waits.specs.Waits.{HasEdge}
use Rattle.ft_waits.specs.Walk.{Txns, LeadTo, ahead_of, IsWalk}
use Rattle.ft_waits.proofs.Maps.{gone-absent, len-gone}
use Rattle.ft_waits.proofs.Walks.{walk-enter}
use Rattle.ft_waits.proofs.walk.Walk.enter.Goals as goal

if_none : {X : Type 0} {P : Type 0} (o : Option X) → P → IfNone o P
if_none None p = p
if_none (Some x) p = tt

pub returns-in_err-remove-clause-unseen : goal.returns-in_err-remove-clause-unseen
returns-in_err-remove-clause-unseen c = c.in_err-remove.ensures.after ∙ ap (λ n. finite.remove c.args.self.now.unseen n) c.txn.view_is

pub returns-in_err-remove-clause-seen : goal.returns-in_err-remove-clause-seen
returns-in_err-remove-clause-seen c =
    let seen : finite.get c.args.self.now.unseen c.txn.inside.0 ≡ None = sym c.in_err-remove.ensures.value in
    let same : c.remove.new.self ≡ c.args.self.now.unseen = c.in_err-remove.ensures.after ∙ gone-absent c.args.self.now.unseen c.txn.inside.0 seen in
    if_none c.from_residual.result (ap (λ (m : Txns). record c.args.self.now { unseen = m }) same, ap (λ n. finite.get c.args.self.now.unseen n) (sym c.txn.view_is) ∙ seen)

pub returns-clause-unseen : goal.returns-clause-unseen
returns-clause-unseen c = c.in_ok-remove.ensures.after ∙ ap (λ n. finite.remove c.args.self.now.unseen n) c.txn.view_is

pub returns-clause-fewer : goal.returns-clause-fewer
returns-clause-fewer c =
    ap (λ (m : Txns). finite.len m + 1) c.in_ok-remove.ensures.after ∙ len-gone c.args.self.now.unseen c.txn.inside.0 tt (sym c.in_ok-remove.ensures.value)

pub returns-clause-stands : goal.returns-clause-stands
returns-clause-stands c =
    let walk = c.args.self.now in
    let new = c.new.result in
    let key : c.txn.inside.0 ≡ new.txn = c.txn.view_is ∙ sym c.new.ensures.txn in
    let was_unseen : finite.get walk.unseen new.txn ≡ Some tt = ap (λ n. finite.get walk.unseen n) (sym key) ∙ sym c.in_ok-remove.ensures.value in
    let left : c.remove.new.self ≡ finite.remove walk.unseen new.txn = c.in_ok-remove.ensures.after ∙ ap (λ n. finite.remove walk.unseen n) key in
    λ steps stands. subst (λ (m : Txns). IsWalk walk.edges.now m walk.ranks (steps ++ new ∷ [])) (sym left)
    (walk-enter walk.edges.now walk.unseen walk.ranks steps new stands was_unseen
    (λ to. subst (λ txn. (LeadTo (ahead_of walk.edges.now new) to → HasEdge walk.edges.now txn to) × (HasEdge walk.edges.now txn to → LeadTo (ahead_of walk.edges.now new) to)) (sym c.new.ensures.txn) (c.new.ensures.ahead to))
    c.new.ensures.rank c.new.ensures.within)
