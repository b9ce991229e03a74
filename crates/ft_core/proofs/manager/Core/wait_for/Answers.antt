use Rattle.std.proofs.Common.{◌∙◌, ap}
use Rattle.std.specs.FinMap as finite
use Rattle.ft_core.specs.Journals.{asked_for, state_of}
use Rattle.ft_core.specs.States.{State, after_wait, fate_of}
use Rattle.ft_core.proofs.Asks.{core-waits, waits-on}
use Rattle.ft_core.proofs.Gathered.{state-is}
use Rattle.ft_core.proofs.Known.{call_laws, lock_laws}
use Rattle.ft_core.proofs.manager.Core.wait_for.Goals as goal

pub invariant_of-self-2 : goal.invariant_of-self-2
invariant_of-self-2 c =
    let i = c.self.inside in
    let live = ap (λ (q : State). fate_of q c.args.txn) (state-is c.self.view_is) ∙ c.requires.live in
    (core-waits call_laws lock_laws i.parts i.journal c.self.invariant.0 c.args.txn c.args.asked live c.wait.new.self c.in_ok-wait.ensures.ok, c.self.invariant.1)

pub returns-clause-ok : goal.returns-clause-ok
returns-clause-ok c = λ call is.
    let i = c.self.inside in
    let same = state-is c.self.view_is in
    ap (state_of i.parts.forest) c.in_ok-wait.ensures.ok
    ∙ waits-on i.parts.forest i.journal c.args.txn c.args.asked call (ap (λ (q : State). asked_for c.args.asked (finite.get q.asks c.args.txn)) same ∙ is)
    ∙ ap (λ (q : State). after_wait q c.args.txn call) same
