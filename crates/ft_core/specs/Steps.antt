-- The answer and the new state that a request may have, and a run of requests.
use Rattle.std.specs.Prelude.{◌≡◌, ◌≢◌, ℕ, Bool, cond, List, [], ◌∷◌, Option, Some, None, MatchOption, Result, Ok, Err, map}
use Rattle.std.specs.FinMap as finite
use Rattle.ft_posix.specs.declared.call.Call.{Call}
use Rattle.ft_posix.specs.declared.call.Access.{Access}
use Rattle.ft_posix.specs.Posix.{as_place, posix_calls}
use Rattle.ft_history.specs.History.{Fate}
use Rattle.ft_history.specs.History.Fate.{Live, Committed as WasCommitted, Aborted as WasAborted}
use Rattle.ft_lock_rules.specs.Law.{blockers_by}
use Rattle.ft_history.specs.Undoing.{Target, undo_target}
use Rattle.ft_history.specs.Undoing.Target.{Found, SubSince as SubSinceTarget, Nothing}
use Rattle.ft_core.specs.declared.fault.Fault.{Fault}
use Rattle.ft_core.specs.declared.fault.Fault.TheVariants.{Memory, NoTxn, Ended, ChildLive, NothingToUndo, SubSince, Full, Deep, Live as LiveFault, NoAsk}
use Rattle.ft_core.specs.declared.request.Request.{Request}
use Rattle.ft_core.specs.declared.request.Request.TheVariants.{Begin, Sub, Ask, Retry, Drop, Commit, Abort, Undo, Checkpoint}
use Rattle.ft_core.specs.declared.request.Answer.{Answer}
use Rattle.ft_core.specs.declared.request.Answer.TheVariants.{Txn, Granted, Waits, Dropped, Committed, Aborted, Undone, Cleared, Refused}
use Rattle.ft_core.specs.declared.request.Outcome.{Outcome}
use Rattle.ft_core.specs.declared.request.Outcome.TheVariants.{Granted as GrantedOutcome, Waits as WaitsOutcome}
use Rattle.ft_core.specs.States.{State, history, fate_of, has_live_child, has_live, is_deepest, has_most_transactions, has_most_calls, next_txn, next_stamp, after_begin, reply_of, accesses_now, after_grant, after_wait, after_drop, after_undo, after_commit, after_abort, after_checkpoint, count_standing}

-- Refusals, in their order: NoTxn, Ended, Deep, ChildLive, NothingToUndo or SubSince, NoAsk, Full;
-- of a checkpoint Live. (Rules of this project.)

-- a fault, if a test holds, and else what comes later
abbrev pub fault_if : Bool → Fault → Option Fault → Option Fault
fault_if test fault later = cond test (Some fault) later

-- NoTxn if there is no such transaction, Ended if it is not live, and else what comes later
abbrev pub fault_of_fate : Option Fate → Option Fault → Option Fault
fault_of_fate None later = Some NoTxn
fault_of_fate (Some Live) later = later
fault_of_fate (Some WasCommitted) later = Some Ended
fault_of_fate (Some WasAborted) later = Some Ended

-- why an undo that comes upon this is refused
abbrev pub fault_of_target : Target posix_calls → Option Fault
fault_of_target (Found c) = None
fault_of_target SubSinceTarget = Some SubSince
fault_of_target Nothing = Some NothingToUndo

-- NoAsk if no call is waited for, and else what comes later
abbrev pub fault_of_ask : Option Call → Option Fault → Option Fault
fault_of_ask None later = Some NoAsk
fault_of_ask (Some call) later = later

-- why a request is refused, whatever memory there is, in the order above
abbrev pub refusal_of : State → Request → Option Fault
refusal_of s Begin = fault_if (has_most_transactions s) Full None
refusal_of s (Sub t) = fault_of_fate (fate_of s t) (fault_if (is_deepest s t) Deep (fault_if (has_most_transactions s) Full None))
refusal_of s (Ask t call) = fault_of_fate (fate_of s t) (fault_if (has_most_calls s) Full None)
refusal_of s (Retry t) = fault_of_fate (fate_of s t) (fault_of_ask (finite.get s.asks t) (fault_if (has_most_calls s) Full None))
refusal_of s (Drop t) = fault_of_fate (fate_of s t) (fault_of_ask (finite.get s.asks t) None)
refusal_of s (Commit t) = fault_of_fate (fate_of s t) (fault_if (has_live_child s t) ChildLive None)
refusal_of s (Abort t) = fault_of_fate (fate_of s t) None
refusal_of s (Undo t) = fault_of_fate (fate_of s t) (fault_if (has_live_child s t) ChildLive (fault_of_target (undo_target posix_calls (history s) t)))
refusal_of s Checkpoint = fault_if (has_live s) LiveFault None

-- the fault with which something is refused, if it is
abbrev pub refused_with : Result (Unit {0}) Fault → Option Fault
refused_with (Ok done) = None
refused_with (Err fault) = Some fault

-- requests that may want memory; an abort, an undo, a commit and a drop never do
abbrev pub MayWantMemory : Request → Type 0
MayWantMemory Begin = Unit {0}
MayWantMemory (Sub t) = Unit {0}
MayWantMemory (Ask t call) = Unit {0}
MayWantMemory (Retry t) = Unit {0}
MayWantMemory (Drop t) = ⊥
MayWantMemory (Commit t) = ⊥
MayWantMemory (Abort t) = ⊥
MayWantMemory (Undo t) = ⊥
MayWantMemory Checkpoint = Unit {0}

-- A rule returns the blockers of a call of a transaction with these accesses, in a state: its base
-- counts too, since two states with the same events may have different trees.
abbrev pub BlockingRule : Type 0
BlockingRule = State → ℕ → List Access → List ℕ

-- by the rule of the state, in rising order (Moss, the locking rules): each transaction that owns a
-- conflicting lock and is neither the asker nor an ancestor of it, and by Moss's own rule also each
-- ancestor that holds one
abbrev pub exact_rule : BlockingRule
exact_rule s t accesses = blockers_by s.rule (history s) t (map as_place accesses)

-- A call that t asked for is granted exactly if nobody blocks it (Moss): its stamp is the next, and
-- its reply and accesses are those on the tree of the state. Else the answer names its blockers,
-- and t waits for it.
abbrev pub IsAsked : BlockingRule → State → ℕ → Call → Answer → State → Type 0
IsAsked rule s t call (Granted k reply) s' = (rule s t (accesses_now s call) ≡ []) × (k ≡ next_stamp s) × (reply ≡ reply_of s call) × (s' ≡ after_grant s t call)
IsAsked rule s t call (Waits blockers) s' = (blockers ≢ []) × (blockers ≡ rule s t (accesses_now s call)) × (s' ≡ after_wait s t call)
IsAsked rule s t call other s' = ⊥

-- the call that an undo undoes, by its stamp
abbrev pub IsUndone : State → Target posix_calls → ℕ → State → Type 0
IsUndone s (Found c) k s' = (k ≡ c.call.stamp) × (s' ≡ after_undo s k)
IsUndone s SubSinceTarget k s' = ⊥
IsUndone s Nothing k s' = ⊥

-- The answer to a request that nothing refuses except, perhaps, lack of memory, with the state
-- after it.
abbrev pub IsAnswered : BlockingRule → State → Request → Answer → State → Type 0
IsAnswered rule s r (Refused fault) s' = (fault ≡ Memory) × MayWantMemory r × (s' ≡ s)
IsAnswered rule s Begin (Txn t) s' = (t ≡ next_txn s) × (s' ≡ after_begin s None)
IsAnswered rule s (Sub p) (Txn t) s' = (t ≡ next_txn s) × (s' ≡ after_begin s (Some p))
IsAnswered rule s (Ask t call) answer s' = IsAsked rule s t call answer s'
IsAnswered rule s (Retry t) answer s' = (call : Call) × (finite.get s.asks t ≡ Some call) × IsAsked rule s t call answer s'
IsAnswered rule s (Drop t) Dropped s' = s' ≡ after_drop s t
IsAnswered rule s (Commit t) Committed s' = s' ≡ after_commit s t
IsAnswered rule s (Abort t) (Aborted n) s' = (n ≡ count_standing s t) × (s' ≡ after_abort s t)
IsAnswered rule s (Undo t) (Undone k) s' = IsUndone s (undo_target posix_calls (history s) t) k s'
IsAnswered rule s Checkpoint Cleared s' = s' ≡ after_checkpoint s
IsAnswered rule s r other s' = ⊥

-- A legal step: a refusal occurs exactly when its definition says, and changes nothing.
abbrev pub IsStep : BlockingRule → State → Request → Answer → State → Type 0
IsStep rule s r a s' = MatchOption (refusal_of s r) (IsAnswered rule s r a s') (λ fault. (a ≡ Refused fault) × (s' ≡ s))

-- A legal run: one answer to each request, each a legal step.
abbrev pub IsRun : BlockingRule → State → List Request → List Answer → State → Type 0
IsRun rule s [] [] s' = s' ≡ s
IsRun rule s [] (a ∷ answers) s' = ⊥
IsRun rule s (r ∷ requests) [] s' = ⊥
IsRun rule s (r ∷ requests) (a ∷ answers) s' = (middle : State) × IsStep rule s r a middle × IsRun rule middle requests answers s'

-- the request that begins a transaction under a parent, or at the top
abbrev pub begin_request : Option ℕ → Request
begin_request None = Begin
begin_request (Some t) = Sub t

-- The results of the methods, as answers to requests.

-- the answer of a method that can be refused
abbrev pub answer_with : {A : Type 0} → (A → Answer) → Result A Fault → Answer
answer_with told (Ok x) = told x
answer_with told (Err fault) = Refused fault

-- the answer to a call that was asked for
abbrev pub outcome_answer : Outcome → Answer
outcome_answer (GrantedOutcome k reply) = Granted k reply
outcome_answer (WaitsOutcome blockers) = Waits blockers
