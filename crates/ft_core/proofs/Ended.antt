-- A core after the end of a transaction, or after an undo, and what the request is answered.
use Rattle.std.proofs.Common.{◌≡◌, ℕ, true, false, List, [], ◌∷◌, ◌++◌, Option, Some, None, Result, Ok, Err, IfOk, IfErr, OnOk, OnErr, MatchOption, length, refl, sym, ap, subst, ◌∙◌}
use Rattle.std.specs.Prelude.{nat_lt}
use Rattle.std.specs.FinMap as finite
use Rattle.ft_owned_lists.specs.OwnedLists.{Lists}
use Rattle.ft_cells.specs.Cells.{Cells}
use Rattle.ft_posix.specs.Posix.{posix_calls}
use Rattle.ft_undo.specs.declared.logs.LogRecord.{LogRecord}
use Rattle.ft_forest.specs.Transactions.{Transactions, last_in}
use Rattle.ft_lock_rules.specs.Locks.{LockTable}
use Rattle.ft_history.specs.History.Fate.{Live}
use Rattle.ft_core.specs.declared.fault.Fault.{Fault}
use Rattle.ft_core.specs.declared.fault.Fault.TheVariants.{Memory, ChildLive}
use Rattle.ft_core.specs.declared.request.Request.{Request}
use Rattle.ft_core.specs.declared.request.Request.TheVariants.{Commit as CommitRequest, Abort as AbortRequest, Undo as UndoRequest}
use Rattle.ft_core.specs.declared.request.Answer.{Answer}
use Rattle.ft_core.specs.declared.request.Answer.TheVariants.{Txn, Committed, Aborted, Undone, Refused}
use Rattle.ft_core.specs.declared.request.Event.{Event}
use Rattle.ft_core.specs.declared.request.Event.TheVariants.{Commit}
use Rattle.ft_history.specs.Undoing.{undo_target}
use Rattle.ft_history.specs.Undoing.Target.{Found}
use Rattle.ft_core.specs.Histories.{Granted, as_happening}
use Rattle.ft_core.specs.Journals.{Journaled, state_of, with_event, without, noted_up}
use Rattle.ft_core.specs.Kept.{IsCoreAt, IsCoreOf}
use Rattle.ft_core.specs.States.{State, Asks, history, fate_of, has_live_child, next_txn, after_begin, after_commit, after_abort, after_undo, count_standing}
use Rattle.ft_core.specs.Steps.{BlockingRule, IsStep, IsAnswered, exact_rule, answer_with, begin_request, refusal_of, fault_if, fault_of_fate, fault_of_target, IsUndone}
use Rattle.ft_core.proofs.Told.{told-push}
use Rattle.ft_core.proofs.Gathered.{parts}

-- the state with one event more, and these asks
abbrev pub ended : State → Event → Asks → State
ended s e asks = record s { events = s.events ++ e ∷ []; asks = asks }

-- the journal has one event more, and these asks
pub record HasTold (j j' : Journaled) (e : Event) (asks : Asks) : Type 0 where
  pub events : j'.events ≡ j.events ++ e ∷ []
  pub asks_are : j'.asks ≡ asks
  pub rule : j'.rule ≡ j.rule
  pub calls : j'.calls ≡ j.calls
  pub base_tree : j'.base_tree ≡ j.base_tree
  pub base_stamp : j'.base_stamp ≡ j.base_stamp
  pub last_stamp : j'.last_stamp ≡ j.last_stamp

pub state-ended : (forest forest' : Transactions) (j j' : Journaled) (e : Event) (asks : Asks) → forest'.limits ≡ forest.limits → forest'.base ≡ forest.base → last_in forest' ≡ last_in forest → HasTold j j' e asks → state_of forest' j' ≡ ended (state_of forest j) e asks
state-ended forest forest' j j' e asks limits base last has =
    λ i. record { rule = has.rule i; limits = record { depth = (limits i).depth; transactions = (limits i).transactions; calls = has.calls i }; base = record { tree = has.base_tree i; last_txn = base i; last_stamp = has.base_stamp i }; events = has.events i; asks = has.asks_are i; last_txn = last i; last_stamp = has.last_stamp i }

pub core-ended : (s s' : State) (e : Event) (asks : Asks) {cells : Cells} {forest : Transactions} {table : LockTable} {lists : Lists LogRecord} {j : Journaled} → s' ≡ ended s e asks
    → IsCoreAt s.base (as_happening e ∷ history s) asks s.last_txn s.last_stamp cells forest table lists j → IsCoreOf s' (parts cells forest table lists) j
core-ended s s' e asks {cells} {forest} {table} {lists} {j} is core =
    subst (λ (q : State). IsCoreOf q (parts cells forest table lists) j) (sym is)
    (subst (λ h. IsCoreAt s.base h asks s.last_txn s.last_stamp cells forest table lists j) (sym (told-push s.events e)) core)

pub told-commit : (j j' : Journaled) (t : ℕ) (up : Option ℕ) → j' ≡ with_event (without (noted_up j up) t) (Commit t) → HasTold j j' (Commit t) (finite.remove j.asks t)
told-commit j j' t None is = record { events = ap (λ (q : Journaled). q.events) is; asks_are = ap (λ (q : Journaled). q.asks) is; rule = ap (λ (q : Journaled). q.rule) is; calls = ap (λ (q : Journaled). q.calls) is; base_tree = ap (λ (q : Journaled). q.base_tree) is; base_stamp = ap (λ (q : Journaled). q.base_stamp) is; last_stamp = ap (λ (q : Journaled). q.last_stamp) is }
told-commit j j' t (Some p) is = record { events = ap (λ (q : Journaled). q.events) is; asks_are = ap (λ (q : Journaled). q.asks) is; rule = ap (λ (q : Journaled). q.rule) is; calls = ap (λ (q : Journaled). q.calls) is; base_tree = ap (λ (q : Journaled). q.base_tree) is; base_stamp = ap (λ (q : Journaled). q.base_stamp) is; last_stamp = ap (λ (q : Journaled). q.last_stamp) is }

pub told-event : (j j' : Journaled) (e : Event) → j' ≡ with_event j e → HasTold j j' e j.asks
told-event j j' e is = record { events = ap (λ (q : Journaled). q.events) is; asks_are = ap (λ (q : Journaled). q.asks) is; rule = ap (λ (q : Journaled). q.rule) is; calls = ap (λ (q : Journaled). q.calls) is; base_tree = ap (λ (q : Journaled). q.base_tree) is; base_stamp = ap (λ (q : Journaled). q.base_stamp) is; last_stamp = ap (λ (q : Journaled). q.last_stamp) is }

-- asks and marks went before
pub told-less : (j₀ j j' : Journaled) (e : Event) (asks : Asks) → j ≡ record j₀ { asks = j.asks; subs = j.subs } → j.asks ≡ asks → j' ≡ with_event j e → HasTold j₀ j' e asks
told-less j₀ j j' e asks less are is = record {
  events = ap (λ (q : Journaled). q.events) is ∙ ap (λ (q : Journaled). q.events ++ e ∷ []) less;
  asks_are = ap (λ (q : Journaled). q.asks) is ∙ are;
  rule = ap (λ (q : Journaled). q.rule) is ∙ ap (λ (q : Journaled). q.rule) less;
  calls = ap (λ (q : Journaled). q.calls) is ∙ ap (λ (q : Journaled). q.calls) less;
  base_tree = ap (λ (q : Journaled). q.base_tree) is ∙ ap (λ (q : Journaled). q.base_tree) less;
  base_stamp = ap (λ (q : Journaled). q.base_stamp) is ∙ ap (λ (q : Journaled). q.base_stamp) less;
  last_stamp = ap (λ (q : Journaled). q.last_stamp) is ∙ ap (λ (q : Journaled). q.last_stamp) less;
}

-- Steps.

pub refused : (rule : BlockingRule) (s : State) (r : Request) (fault : Fault) → refusal_of s r ≡ Some fault → IsStep rule s r (Refused fault) s
refused rule s r fault is = subst (λ (o : Option Fault). MatchOption o (IsAnswered rule s r (Refused fault) s) (λ f. (Refused fault ≡ Refused f) × (s ≡ s))) (sym is) (refl, refl)

pub step-allowed : (rule : BlockingRule) (s s' : State) (r : Request) (a : Answer) → refusal_of s r ≡ None → IsAnswered rule s r a s' → IsStep rule s r a s'
step-allowed rule s s' r a is answered = subst (λ (o : Option Fault). MatchOption o (IsAnswered rule s r a s') (λ f. (a ≡ Refused f) × (s' ≡ s))) (sym is) answered

pub step-child : (rule : BlockingRule) (s : State) (t : ℕ) → fate_of s t ≡ Some Live → has_live_child s t ≡ true → IsStep rule s (UndoRequest t) (Refused ChildLive) s
step-child rule s t live some = refused rule s (UndoRequest t) ChildLive (λ i. fault_of_fate (live i) (fault_if (some i) ChildLive (fault_of_target (undo_target posix_calls (history s) t))))

pub step-commit : (rule : BlockingRule) (s s' : State) (t : ℕ) → refusal_of s (CommitRequest t) ≡ None → s' ≡ after_commit s t → IsStep rule s (CommitRequest t) Committed s'
step-commit rule s s' t fine is = step-allowed rule s s' (CommitRequest t) Committed fine is

pub step-abort : (rule : BlockingRule) (s s' : State) (t n : ℕ) → fate_of s t ≡ Some Live → n ≡ count_standing s t → s' ≡ after_abort s t → IsStep rule s (AbortRequest t) (Aborted n) s'
step-abort rule s s' t n live count is = step-allowed rule s s' (AbortRequest t) (Aborted n) (λ i. fault_of_fate (live i) None) (count, is)

pub step-undo : (rule : BlockingRule) (s s' : State) (t k : ℕ) (d : Granted) → fate_of s t ≡ Some Live → has_live_child s t ≡ false → undo_target posix_calls (history s) t ≡ Found d → d.call.stamp ≡ k → s' ≡ after_undo s k → IsStep rule s (UndoRequest t) (Undone k) s'
step-undo rule s s' t k d live none found stamp is =
    step-allowed rule s s' (UndoRequest t) (Undone k) (λ i. fault_of_fate (live i) (fault_if (none i) ChildLive (fault_of_target (found i))))
    (subst (λ x. IsUndone s x k s') (sym found) (sym stamp, is))

pub longer-none : (xs : List ℕ) → xs ≡ [] → nat_lt 0 (length xs) ≡ false
longer-none xs e = ap (λ ys. nat_lt 0 (length ys)) e

-- who is live is not refused as one that is not
pub live-refused : (s : State) (t : ℕ) (fault : Fault) → fate_of s t ≡ Some Live → fault_of_fate (fate_of s t) None ≡ Some fault → ⊥
live-refused s t fault live is = none (subst (λ o. fault_of_fate o None ≡ Some fault) live is)
  where
    none : None ≡ Some fault → ⊥
    none e = cc

-- a begin that nothing refuses but, perhaps, want of memory
pub step-begun : (s s' : State) (up : Option ℕ) (result : Result ℕ Fault) → refusal_of s (begin_request up) ≡ None → IfOk result (λ t. t ≡ next_txn s) → OnOk result (s' ≡ after_begin s up) → IfErr result (λ f. f ≡ Memory) → OnErr result (s' ≡ s)
    → IsStep exact_rule s (begin_request up) (answer_with Txn result) s'
step-begun s s' up (Ok t) fine number begun memory same = step-allowed exact_rule s s' (begin_request up) (Txn t) fine (by_parent up number begun)
  where
    by_parent : (up : Option ℕ) → t ≡ next_txn s → s' ≡ after_begin s up → IsAnswered exact_rule s (begin_request up) (Txn t) s'
    by_parent None is begun = (is, begun)
    by_parent (Some p) is begun = (is, begun)
step-begun s s' up (Err f) fine number begun memory same = step-allowed exact_rule s s' (begin_request up) (Refused f) fine (by_parent up memory same)
  where
    by_parent : (up : Option ℕ) → f ≡ Memory → s' ≡ s → IsAnswered exact_rule s (begin_request up) (Refused f) s'
    by_parent None is same = (is, tt, same)
    by_parent (Some p) is same = (is, tt, same)
