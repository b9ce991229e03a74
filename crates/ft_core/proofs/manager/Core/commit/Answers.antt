use Rattle.std.proofs.Common.{◌≡◌, ◌∙◌, refl, ap, sym, subst}
use Rattle.ft_core.proofs.Memos.{forgotten}
use Rattle.std.specs.FinMap as finite
use Rattle.std.specs.Option.{option_map}
use Rattle.ft_forest.specs.Transactions.{Transactions}
use Rattle.ft_core.specs.declared.request.Answer.TheVariants.{Committed}
use Rattle.ft_core.specs.declared.request.Event.TheVariants.{Commit as CommitEvent}
use Rattle.ft_core.specs.declared.request.Request.TheVariants.{Commit}
use Rattle.ft_core.specs.declared.parts.Parts.{Parts}
use Rattle.ft_core.specs.Faults.{fault_from}
use Rattle.ft_core.specs.Journals.{Journaled, state_of, with_event, without, noted_up}
use Rattle.ft_core.specs.Kept.{IsCoreOf}
use Rattle.ft_core.specs.States.{State, after_commit}
use Rattle.ft_core.specs.Steps.{IsStep, exact_rule, answer_with, refusal_of}
use Rattle.ft_core.proofs.Gathered.{state-is}
use Rattle.ft_core.proofs.Known.{call_laws, lock_laws}
use Rattle.ft_core.proofs.Commits.{core-commit, may-hand, may-note}
use Rattle.ft_core.proofs.Ended.{core-ended, state-ended, told-commit, step-commit}
use Rattle.ft_core.proofs.Refusing.{commit-same, commit-allowed, step-refused}
use Rattle.ft_core.proofs.manager.Core.commit.Goals as goal

pub returns-in_err-parent : goal.returns-in_err-parent
returns-in_err-parent c =
    let i = c.self.inside in
    let now = c.args.self.now.state in
    let fault = c.in_err-parent.field-0.0 in
    let answer = answer_with (λ done. Committed) c.from_residual.result in
    let refused : IsStep exact_rule now (Commit c.args.txn) answer now =
    step-refused now (Commit c.args.txn) (λ done. Committed) c.from_residual.result (fault_from fault) c.from_residual.ensures.1
    (ap (λ (q : State). refusal_of q (Commit c.args.txn)) (sym (state-is c.self.view_is))
    ∙ sym (commit-same call_laws i.parts i.journal c.self.invariant.0 c.args.txn) ∙ ap (option_map fault_from) c.in_err-parent.ensures.refused) in
    subst (λ (f : Transactions). IsStep exact_rule now (Commit c.args.txn) answer (state_of f i.journal)) (sym c.in_err-parent.ensures.same)
    (subst (λ (q : State). IsStep exact_rule now (Commit c.args.txn) answer q) (sym (state-is c.self.view_is)) refused)

pub hand_up-requires-clause-parent : goal.hand_up-requires-clause-parent
hand_up-requires-clause-parent c =
    let i = c.self.inside in
    let may = commit-allowed call_laws i.parts i.journal c.self.invariant.0 c.args.txn c.in_ok-parent.ensures.refused in
    may-hand call_laws lock_laws c.self.invariant.0 c.args.txn may.0 may.1 c.in_ok-parent.parent c.in_ok-parent.ensures.parent

pub note_sub-requires : goal.note_sub-requires
note_sub-requires c =
    let i = c.self.inside in
    let may = commit-allowed call_laws i.parts i.journal c.self.invariant.0 c.args.txn c.in_ok-parent.ensures.refused in
    may-note call_laws lock_laws c.self.invariant.0 c.args.txn may.0 may.1 c.in_ok-parent.parent c.in_ok-parent.ensures.parent

pub invariant_of-self-2 : goal.invariant_of-self-2
invariant_of-self-2 c = (
  (let i = c.self.inside in
      let s : State = state_of i.parts.forest i.journal in
      let may = commit-allowed call_laws i.parts i.journal c.self.invariant.0 c.args.txn c.in_ok-parent.ensures.refused in
      let told : c.tell.new.self ≡ with_event (without (noted_up i.journal c.in_ok-parent.parent) c.args.txn) (CommitEvent c.args.txn) =
      c.tell.ensures ∙ ap (λ (q : Journaled). with_event q (CommitEvent c.args.txn)) (c.forget-2.ensures ∙ ap (λ (q : Journaled). without q c.args.txn) c.note_sub.ensures) in
      subst (λ (p : Parts). IsCoreOf (state_of p.forest c.tell.new.self) p c.tell.new.self) (sym c.hand_up.ensures.others)
      (core-ended s (state_of c.commit.new.self c.tell.new.self) (CommitEvent c.args.txn) (finite.remove i.journal.asks c.args.txn)
      (state-ended i.parts.forest c.commit.new.self i.journal c.tell.new.self (CommitEvent c.args.txn) (finite.remove i.journal.asks c.args.txn) c.in_ok-parent.ensures.committed.limits c.in_ok-parent.ensures.committed.base c.in_ok-parent.ensures.committed.last
      (told-commit i.journal c.tell.new.self c.args.txn c.in_ok-parent.parent told))
      (core-commit call_laws lock_laws c.self.invariant.0 c.args.txn may.0 may.1 refl c.in_ok-parent.parent c.in_ok-parent.ensures.parent
      c.commit.new.self c.in_ok-parent.ensures.committed c.hand_up.new.self.locks c.hand_up.ensures.locks c.hand_up.new.self.logs c.hand_up.ensures.lists c.hand_up.ensures.opened c.tell.new.self told))),
  forgotten c.forget.new.self _ _ c.forget.ensures,
)

pub returns : goal.returns
returns c =
    let i = c.self.inside in
    let told : c.tell.new.self ≡ with_event (without (noted_up i.journal c.in_ok-parent.parent) c.args.txn) (CommitEvent c.args.txn) =
    c.tell.ensures ∙ ap (λ (q : Journaled). with_event q (CommitEvent c.args.txn)) (c.forget-2.ensures ∙ ap (λ (q : Journaled). without q c.args.txn) c.note_sub.ensures) in
    let state = state-ended i.parts.forest c.commit.new.self i.journal c.tell.new.self (CommitEvent c.args.txn) (finite.remove i.journal.asks c.args.txn) c.in_ok-parent.ensures.committed.limits c.in_ok-parent.ensures.committed.base c.in_ok-parent.ensures.committed.last
    (told-commit i.journal c.tell.new.self c.args.txn c.in_ok-parent.parent told) in
    let fine = sym (commit-same call_laws i.parts i.journal c.self.invariant.0 c.args.txn) ∙ ap (option_map fault_from) c.in_ok-parent.ensures.refused in
    step-commit exact_rule c.args.self.now.state (state_of c.hand_up.new.self.forest c.tell.new.self) c.args.txn
    (ap (λ (q : State). refusal_of q (Commit c.args.txn)) (sym (state-is c.self.view_is)) ∙ fine)
    (ap (λ (p : Parts). state_of p.forest c.tell.new.self) c.hand_up.ensures.others ∙ state ∙ ap (λ (q : State). after_commit q c.args.txn) (state-is c.self.view_is))
