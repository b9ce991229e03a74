use Rattle.std.proofs.Common.{◌≡◌, [], arith, false, true, refl, sym, subst}
use Rattle.std.proofs.lemmas.Grind.{common_steps}
use Rattle.ft_waits.specs.Behind.{AreAhead}
use Rattle.ft_session.proofs.Turning.{if-false, if-true, in-the-way}
use Rattle.ft_session.proofs.session.Session.blockers.Goals as goal

pub returns-then-not-self : goal.returns-then-not-self
returns-then-not-self c =
    let s = c.args.self.now in
    let unfair : s.is_fair ≡ false = grind (arith, common_steps) in
    in-the-way s.core.state s.turns.items c.args.txn [] c.in_ok-blockers.blockers.items s.is_fair (if-false s.is_fair _ _ unfair refl) c.in_ok-blockers.ensures

pub returns : goal.returns
returns c =
    let s = c.args.self.now in
    let fair : s.is_fair ≡ true = grind (arith, common_steps) in
    let ahead = c.as_slice-2.result.now in
    let are = subst (λ xs. AreAhead s.core.state s.turns.items c.args.txn xs) (sym c.as_slice-2.ensures.value) (subst (λ xs. AreAhead s.core.state xs c.args.txn c.in_ok-ahead.ahead.items) c.as_slice.ensures.value c.in_ok-ahead.ensures) in
    in-the-way s.core.state s.turns.items c.args.txn ahead c.in_ok-blockers-2.blockers.items s.is_fair (if-true s.is_fair _ _ fair are) c.in_ok-blockers-2.ensures
