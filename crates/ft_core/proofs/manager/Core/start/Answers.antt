use Rattle.std.proofs.Common.{◌+◌, refl, ap, subst, ◌∙◌}
use Rattle.ft_core.proofs.Memos.{forgotten}
use Rattle.ft_core.specs.declared.fault.Fault.TheVariants.{Memory as MemoryFault}
use Rattle.ft_core.specs.Faults.{fault_from}
use Rattle.ft_core.specs.Journals.{state_of, with_begin}
use Rattle.ft_core.specs.Opens.{AreAsBefore, IsOpenFor, add_refusal}
use Rattle.ft_core.specs.Steps.{refusal_of, begin_request}
use Rattle.ft_core.proofs.Begins.{core-started}
use Rattle.ft_core.proofs.Gathered.{parts, state-is}
use Rattle.ft_core.proofs.Known.{call_laws, lock_laws}
use Rattle.ft_core.proofs.Refusing.{add-same, only-memory, err-is}
use Rattle.ft_core.proofs.manager.Core.start.Goals as goal

pub invariant_of-self-2 : goal.invariant_of-self-2
invariant_of-self-2 c = (
  (let i = c.self.inside in
      let up = c.args.parent in
      let fine = ap (λ q. refusal_of q (begin_request up)) (state-is c.self.view_is) ∙ c.requires in
      let next = ap (λ k. k + 1) c.last-next.ensures in
      let same = subst (AreAsBefore i.journal c.open.new.journal i.parts.locks c.open.new.locks i.parts.logs c.open.new.logs) next c.in_ok-open.ensures.same in
      let ready = subst (IsOpenFor c.open.new.journal c.open.new.locks c.open.new.logs) next c.in_ok-open.ensures.ready in
      core-started call_laws lock_laws i.parts (parts i.parts.tree c.add.new.forest c.open.new.locks c.open.new.logs) i.journal c.open.new.journal c.begin.new.self up c.self.invariant.0 fine same ready c.in_ok-txn.ensures.begun refl
      (c.begin.ensures ∙ ap (λ t. with_begin c.open.new.journal t up) c.in_ok-txn.ensures.number)),
  forgotten c.forget.new.self _ _ c.forget.ensures,
)

pub returns-in_err-txn-clause-memory : goal.returns-in_err-txn-clause-memory
returns-in_err-txn-clause-memory c =
    let i = c.self.inside in
    let up = c.args.parent in
    let s = state_of i.parts.forest i.journal in
    let core = c.self.invariant.0 in
    let fine = ap (λ q. refusal_of q (begin_request up)) (state-is c.self.view_is) ∙ c.requires in
    let memory = only-memory (add_refusal i.parts.forest up) (refusal_of s (begin_request up)) c.in_err-txn.field-0.0 (add-same i.journal i.parts.forest core.transactions core.kept.started up) fine c.in_err-txn.ensures.refused in
    err-is c.from_residual-in_err-txn.result (fault_from c.in_err-txn.field-0.0) MemoryFault c.from_residual-in_err-txn.ensures.1 memory
