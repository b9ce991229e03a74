use Rattle.std.proofs.Common.{◌≡◌, ◌∙◌, ℕ, Some, None, true, false, Result, Ok, Err, List, ◌∷◌, refl, ap, sym, subst, arith}
use Rattle.ft_core.proofs.Memos.{forgotten}
use Rattle.ft_owned_lists.specs.OwnedLists.{list_in}
use Rattle.ft_posix.specs.Posix.{posix_calls}
use Rattle.ft_undo.specs.declared.logs.LogRecord.{LogRecord}
use Rattle.ft_undo.specs.Undone.{CanGiveAllBack}
use Rattle.ft_forest.specs.Transactions.{IsLiveChild}
use Rattle.ft_history.specs.History.{live_children}
use Rattle.ft_history.specs.History.Fate.{Live}
use Rattle.ft_history.specs.Logs.{put, rest}
use Rattle.ft_history.specs.Undoing.{undo_target}
use Rattle.ft_history.specs.Undoing.Target.{Found}
use Rattle.ft_core.specs.declared.fault.Fault.{Fault}
use Rattle.ft_core.specs.declared.fault.Fault.TheVariants.{ChildLive}
use Rattle.ft_core.specs.declared.request.Answer.TheVariants.{Undone}
use Rattle.ft_core.specs.declared.request.Event.TheVariants.{Undo as UndoEvent}
use Rattle.ft_core.specs.declared.request.Request.TheVariants.{Undo}
use Rattle.ft_core.specs.Histories.{Granted}
use Rattle.ft_core.specs.declared.parts.Parts.{Parts}
use Rattle.ft_core.specs.Journals.{state_of, with_event}
use Rattle.ft_core.specs.Kept.{IsCoreOf, IsKept}
use Rattle.ft_core.specs.States.{State, history, fate_of, has_live_child, after_undo}
use Rattle.ft_core.specs.Steps.{exact_rule, answer_with, fault_if, fault_of_fate, fault_of_target}
use Rattle.ft_core.proofs.Gathered.{state-is}
use Rattle.ft_core.proofs.Known.{call_laws, lock_laws}
use Rattle.ft_core.proofs.Alone.{step-last, just-live}
use Rattle.ft_core.proofs.Children.{no-child, some-child}
use Rattle.ft_core.proofs.Ended.{core-ended, state-ended, told-event, step-child, step-undo, longer-none, live-refused}
use Rattle.ft_core.proofs.Refusing.{step-refused}
use Rattle.ft_core.proofs.Undoes.{core-undo}
use Rattle.ft_core.proofs.manager.Core.undo_call.Goals as goal

one : {x y : LogRecord} {xs ys : List LogRecord} → x ∷ xs ≡ y ∷ ys → x ≡ y
one e = cc

pub returns-then-live_children-gt0-clause-step : goal.returns-then-live_children-gt0-clause-step
returns-then-live_children-gt0-clause-step c =
    let i = c.self.inside in
    let s : State = state_of i.parts.forest i.journal in
    let child = c.live_children.ensures.some (omega arith) in
    let some : has_live_child s c.args.txn ≡ true = some-child call_laws c.self.invariant.0 c.args.txn child.0 child.1 in
    step-child exact_rule c.args.self.now.state c.args.txn c.in_ok-check_live.ensures.live (ap (λ (q : State). has_live_child q c.args.txn) (sym (state-is c.self.view_is)) ∙ some)

pub returns-in_err-stamp-clause-step : goal.returns-in_err-stamp-clause-step
returns-in_err-stamp-clause-step c =
    let i = c.self.inside in
    let s : State = state_of i.parts.forest i.journal in
    let childless = no-child call_laws c.self.invariant.0 c.args.txn (c.live_children.ensures.none (omega arith)) in
    let no_child : has_live_child s c.args.txn ≡ false = longer-none (live_children posix_calls i.parts.forest.base (history s) c.args.txn) childless in
    let none : has_live_child c.args.self.now.state c.args.txn ≡ false = ap (λ (q : State). has_live_child q c.args.txn) (sym (state-is c.self.view_is)) ∙ no_child in
    let target = undo_target posix_calls (history c.args.self.now.state) c.args.txn in
    step-refused c.args.self.now.state (Undo c.args.txn) Undone c.from_residual-in_err-stamp.result c.in_err-stamp.field-0.0 c.from_residual-in_err-stamp.ensures.1
    ((λ k. fault_of_fate (c.in_ok-check_live.ensures.live k) (fault_if (none k) ChildLive (fault_of_target target))) ∙ c.in_err-stamp.ensures.refused)

pub take_newest-requires : goal.take_newest-requires
take_newest-requires c = λ x xs e.
    let i = c.self.inside in
    let s : State = state_of i.parts.forest i.journal in
    let live : fate_of s c.args.txn ≡ Some Live = ap (λ (q : State). fate_of q c.args.txn) (state-is c.self.view_is) ∙ c.in_ok-check_live.ensures.live in
    let none : (x : ℕ) → IsLiveChild i.parts.forest c.args.txn x → ⊥ = c.live_children.ensures.none (omega arith) in
    let d : Granted = c.in_ok-stamp.ensures.found.0 in
    let found : undo_target posix_calls (history s) c.args.txn ≡ Found d = ap (λ (q : State). undo_target posix_calls (history q) c.args.txn) (state-is c.self.view_is) ∙ c.in_ok-stamp.ensures.found.1 in
    let undoes = core-undo call_laws lock_laws c.self.invariant.0 c.args.txn live none d found in
    subst (λ (y : LogRecord). CanGiveAllBack i.parts.tree y.undo) (one (sym undoes.list ∙ e)) undoes.can

pub invariant_of-self : goal.invariant_of-self
invariant_of-self c = (
  (let i = c.self.inside in
      let s : State = state_of i.parts.forest i.journal in
      let live : fate_of s c.args.txn ≡ Some Live = ap (λ (q : State). fate_of q c.args.txn) (state-is c.self.view_is) ∙ c.in_ok-check_live.ensures.live in
      let none : (x : ℕ) → IsLiveChild i.parts.forest c.args.txn x → ⊥ = c.live_children.ensures.none (omega arith) in
      let d : Granted = c.in_ok-stamp.ensures.found.0 in
      let found : undo_target posix_calls (history s) c.args.txn ≡ Found d = ap (λ (q : State). undo_target posix_calls (history q) c.args.txn) (state-is c.self.view_is) ∙ c.in_ok-stamp.ensures.found.1 in
      let undoes = core-undo call_laws lock_laws c.self.invariant.0 c.args.txn live none d found in
      let told : c.tell.new.self ≡ with_event i.journal (UndoEvent d.call.stamp) = c.tell.ensures ∙ ap (λ k. with_event i.journal (UndoEvent k)) (sym c.in_ok-stamp.ensures.found.2) in
      subst (λ (p : Parts). IsCoreOf (state_of p.forest c.tell.new.self) p c.tell.new.self) (sym c.take_newest.ensures.others)
      (core-ended s (state_of i.parts.forest c.tell.new.self) (UndoEvent d.call.stamp) s.asks
      (state-ended i.parts.forest i.parts.forest i.journal c.tell.new.self (UndoEvent d.call.stamp) s.asks refl refl refl (told-event i.journal c.tell.new.self (UndoEvent d.call.stamp) told))
      (undoes.after c.take_newest.new.self.tree (c.take_newest.ensures.cells undoes.newest undoes.rest undoes.list) c.take_newest.new.self.logs
      (λ x. c.take_newest.ensures.lists x ∙ ap (λ (ys : List LogRecord). put (list_in i.parts.logs) c.args.txn (rest ys) x) undoes.list) c.take_newest.ensures.opened c.tell.new.self told))),
  forgotten c.forget.new.self _ _ c.forget.ensures,
)

pub returns-clause-step : goal.returns-clause-step
returns-clause-step c =
    let i = c.self.inside in
    let s : State = state_of i.parts.forest i.journal in
    let childless = no-child call_laws c.self.invariant.0 c.args.txn (c.live_children.ensures.none (omega arith)) in
    let no_child : has_live_child s c.args.txn ≡ false = longer-none (live_children posix_calls i.parts.forest.base (history s) c.args.txn) childless in
    let d : Granted = c.in_ok-stamp.ensures.found.0 in
    let found : undo_target posix_calls (history s) c.args.txn ≡ Found d = ap (λ (q : State). undo_target posix_calls (history q) c.args.txn) (state-is c.self.view_is) ∙ c.in_ok-stamp.ensures.found.1 in
    let k = c.in_ok-stamp.stamp in
    step-undo exact_rule c.args.self.now.state (state_of c.take_newest.new.self.forest c.tell.new.self) c.args.txn k d c.in_ok-check_live.ensures.live (ap (λ (q : State). has_live_child q c.args.txn) (sym (state-is c.self.view_is)) ∙ no_child)
    c.in_ok-stamp.ensures.found.1 c.in_ok-stamp.ensures.found.2
    (ap (λ (p : Parts). state_of p.forest c.tell.new.self) c.take_newest.ensures.others ∙ state-ended i.parts.forest i.parts.forest i.journal c.tell.new.self (UndoEvent k) s.asks refl refl refl (told-event i.journal c.tell.new.self (UndoEvent k) c.tell.ensures) ∙ ap (λ (q : State). after_undo q k) (state-is c.self.view_is))

-- An undo of the call just made gives back the tree before it.

undone : (result : Result ℕ Fault) (k : ℕ) → answer_with Undone result ≡ Undone k → result ≡ Ok k
undone (Ok stamp) k e = cc
undone (Err fault) k e = cc

pub returns-then-live_children-gt0-clause-just_made : goal.returns-then-live_children-gt0-clause-just_made
returns-then-live_children-gt0-clause-just_made c = λ before k just.
    let last = step-last call_laws exact_rule before c.args.self.now.state c.args.self.now.state c.args.txn k (answer_with Undone (Err ChildLive)) c.self.inside.parts.tree c.self.invariant.0.log
    (subst (λ (s : State). IsKept s.base (history s) s.last_txn s.last_stamp c.self.inside.parts.tree c.self.invariant.0.log) (state-is c.self.view_is) c.self.invariant.0.kept) just (returns-then-live_children-gt0-clause-step c) in
    (undone (Err ChildLive) k last.0, last.1)

pub returns-in_err-stamp-clause-just_made : goal.returns-in_err-stamp-clause-just_made
returns-in_err-stamp-clause-just_made c = λ before k just.
    let last = step-last call_laws exact_rule before c.args.self.now.state c.args.self.now.state c.args.txn k (answer_with Undone c.from_residual-in_err-stamp.result) c.self.inside.parts.tree c.self.invariant.0.log
    (subst (λ (s : State). IsKept s.base (history s) s.last_txn s.last_stamp c.self.inside.parts.tree c.self.invariant.0.log) (state-is c.self.view_is) c.self.invariant.0.kept) just (returns-in_err-stamp-clause-step c) in
    (undone c.from_residual-in_err-stamp.result k last.0, last.1)

pub returns-clause-just_made : goal.returns-clause-just_made
returns-clause-just_made c = λ before k just.
    let last = step-last call_laws exact_rule before c.args.self.now.state (state_of c.take_newest.new.self.forest c.tell.new.self) c.args.txn k (answer_with Undone (Ok c.in_ok-stamp.stamp)) c.self.inside.parts.tree c.self.invariant.0.log
    (subst (λ (s : State). IsKept s.base (history s) s.last_txn s.last_stamp c.self.inside.parts.tree c.self.invariant.0.log) (state-is c.self.view_is) c.self.invariant.0.kept) just (returns-clause-step c) in
    (undone (Ok c.in_ok-stamp.stamp) k last.0, last.1)

pub returns-in_err-check_live-clause-just_made : goal.returns-in_err-check_live-clause-just_made
returns-in_err-check_live-clause-just_made c = λ before k just.
    let kept = subst (λ (s : State). IsKept s.base (history s) s.last_txn s.last_stamp c.self.inside.parts.tree c.self.invariant.0.log) (state-is c.self.view_is) c.self.invariant.0.kept in
    absurd (live-refused c.args.self.now.state c.args.txn c.in_err-check_live.field-0.0 (just-live call_laws before c.args.self.now.state c.args.txn k c.self.inside.parts.tree c.self.invariant.0.log kept just) (c.in_err-check_live.ensures.refused None))
