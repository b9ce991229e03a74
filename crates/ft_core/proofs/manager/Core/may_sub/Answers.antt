use Rattle.std.proofs.Common.{◌≡◌, Option, Some, None, Result, Ok, Err, IsErrAnd, sym, ap, subst, ◌∙◌}
use Rattle.std.specs.Option.{option_map}
use Rattle.ft_core.specs.declared.fault.Fault.{Fault}
use Rattle.ft_core.specs.declared.request.Request.TheVariants.{Sub}
use Rattle.ft_core.specs.Faults.{fault_from}
use Rattle.ft_core.specs.Journals.{state_of}
use Rattle.ft_core.specs.States.{State}
use Rattle.ft_core.specs.Steps.{refusal_of, refused_with}
use Rattle.ft_core.proofs.Gathered.{state-is}
use Rattle.ft_core.proofs.Refusing.{sub-same}
use Rattle.ft_core.proofs.manager.Core.may_sub.Goals as goal

with-fault : (due : Option Fault) (fault : Fault) (result : Result (Unit {0}) Fault) → due ≡ Some fault → IsErrAnd result (λ f. f ≡ fault) → due ≡ refused_with result
with-fault due fault (Ok done) is told = absurd told
with-fault due fault (Err f) is told = is ∙ ap Some (sym told)

pub returns-in_err-check_sub : goal.returns-in_err-check_sub
returns-in_err-check_sub c =
    let i = c.self.inside in
    let s : State = state_of i.parts.forest i.journal in
    let core = c.self.invariant.0 in
    let fault = c.in_err-check_sub.field-0.0 in
    let due : refusal_of s (Sub c.args.txn) ≡ Some (fault_from fault) = sym (sub-same i.journal i.parts.forest core.transactions core.kept.started c.args.txn) ∙ ap (option_map fault_from) c.in_err-check_sub.ensures in
    subst (λ (q : State). refusal_of q (Sub c.args.txn) ≡ refused_with c.from_residual.result) (state-is c.self.view_is)
    (with-fault (refusal_of s (Sub c.args.txn)) (fault_from fault) c.from_residual.result due c.from_residual.ensures.1)

pub returns : goal.returns
returns c =
    let i = c.self.inside in
    let s : State = state_of i.parts.forest i.journal in
    let core = c.self.invariant.0 in
    subst (λ (q : State). refusal_of q (Sub c.args.txn) ≡ None) (state-is c.self.view_is)
    (sym (sub-same i.journal i.parts.forest core.transactions core.kept.started c.args.txn) ∙ ap (option_map fault_from) c.in_ok-check_sub.ensures)
