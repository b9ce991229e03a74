use Rattle.std.proofs.Common.{◌≡◌, ◌∙◌, ap, subst, sym}
use Rattle.ft_posix.specs.Accesses.{accesses_of}
use Rattle.ft_lock_rules.specs.Locks.{AreBlockers}
use Rattle.ft_lock_rules.specs.Rules.{is_strict}
use Rattle.ft_core.specs.Reports.{blockers_now}
use Rattle.ft_undo.proofs.Fresh.{no_bytes}
use Rattle.ft_core.proofs.Asks.{blocked, next-free}
use Rattle.ft_core.proofs.Gathered.{state-is}
use Rattle.ft_core.proofs.Known.{call_laws, lock_laws}
use Rattle.ft_core.proofs.Surveys.{alone-there}
use Rattle.ft_core.proofs.manager.Core.blockers_now.Goals as goal

pub accesses-requires : goal.accesses-requires
accesses-requires c = no_bytes (next-free call_laws lock_laws c.self.inside.parts c.self.inside.journal c.self.invariant.0 c.next_stamp-stamp.result c.next_stamp-stamp.ensures)

pub check-requires-clause-no_holder : goal.check-requires-clause-no_holder
check-requires-clause-no_holder c strict = c.self.invariant.0.no_holder (sym (ap is_strict c.rule-rule.ensures) ∙ strict)

pub check-requires-clause-alone : goal.check-requires-clause-alone
check-requires-clause-alone c = alone-there call_laws lock_laws c.self.invariant.0 c.args.txn

pub returns-clause-blockers : goal.returns-clause-blockers
returns-clause-blockers c =
    let i = c.self.inside in
    let call = c.args.call.now in
    let found = c.in_ok-blockers.field-0.blockers.items in
    subst (λ s. found ≡ blockers_now s c.args.txn call) (state-is c.self.view_is)
    (blocked call_laws lock_laws i.parts i.journal c.self.invariant.0 c.args.txn call c.as_slice.result.now found (c.as_slice.ensures.value ∙ c.in_ok-touched.ensures ∙ ap (λ n. accesses_of i.parts.tree n call) c.next_stamp-stamp.ensures)
    (subst (λ r. AreBlockers r i.parts.locks i.parts.forest c.args.txn c.as_slice.result.now found) c.rule-rule.ensures c.in_ok-blockers.ensures.blockers))
