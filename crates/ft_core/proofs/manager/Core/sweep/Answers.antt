use Rattle.std.proofs.Common.{sym, ap, subst}
use Rattle.ft_core.proofs.Memos.{forgotten}
use Rattle.ft_lock_rules.specs.Locks.{LockTable, is_kept}
use Rattle.ft_core.specs.States.{State}
use Rattle.ft_core.specs.Journals.{state_of}
use Rattle.ft_core.specs.Living.{NoneIsLive}
use Rattle.ft_core.specs.Sweeps.{EachUselessIsLocked}
use Rattle.ft_core.proofs.Accounts.{none-useless, useless-locked}
use Rattle.ft_core.proofs.Gathered.{state-is}
use Rattle.ft_core.proofs.Known.{call_laws, lock_laws}
use Rattle.ft_core.proofs.Sweeps.{core-swept, nobody-locks}
use Rattle.ft_core.proofs.manager.Core.sweep.Goals as goal

pub invariant_of-self : goal.invariant_of-self
invariant_of-self c = (
  (let core = c.self.invariant.0 in
      let swept = c.sweep.ensures in
      core-swept call_laws lock_laws core c.sweep.new.self swept.swept (swept.none_left core.accounted) (swept.sound core.kept.sound) c.sweep.new.keeps (ap (λ (t : LockTable). t.lines) swept.told) (ap (λ (t : LockTable). t.opened) swept.told) (ap (λ (t : LockTable). t.keeps_all) swept.told)),
  forgotten c.forget.new.self _ _ c.forget.ensures,
)

pub returns-clause-none_left : goal.returns-clause-none_left
returns-clause-none_left c = λ none.
    let i = c.self.inside in
    let core = c.self.invariant.0 in
    none-useless (is_kept i.parts.locks) c.sweep.new.self (nobody-locks call_laws lock_laws (state_of i.parts.forest i.journal) i.parts i.journal core (subst NoneIsLive (sym (state-is c.self.view_is)) none)) (c.sweep.ensures.none_left core.accounted)

pub returns-clause-locked : goal.returns-clause-locked
returns-clause-locked c =
    let i = c.self.inside in
    let core = c.self.invariant.0 in
    subst (λ (s : State). EachUselessIsLocked s c.sweep.new.self) (state-is c.self.view_is)
    (useless-locked lock_laws (state_of i.parts.forest i.journal) i.parts.locks c.sweep.new.self core.locks (c.sweep.ensures.none_left core.accounted))
