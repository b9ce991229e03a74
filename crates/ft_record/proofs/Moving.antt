-- What a step leaves as it was.
use Rattle.std.proofs.Common.{◌≡◌, ◌≢◌, ℕ, Bool, true, false, [], ◌∷◌, ◌++◌, Option, Some, None, MatchOption, refl, sym, ap, ◌∙◌, append-nil}
use Rattle.std.proofs.lemmas.Bool.{false≢true}
use Rattle.ft_posix.specs.declared.call.Call.{Call}
use Rattle.ft_posix.specs.Posix.{posix_calls}
use Rattle.ft_history.specs.Undoing.{Target, undo_target}
use Rattle.ft_history.specs.Undoing.Target.{Found, SubSince as SubSinceTarget, Nothing}
use Rattle.ft_core.specs.declared.fault.Fault.{Fault}
use Rattle.ft_core.specs.declared.request.Request.{Request}
use Rattle.ft_core.specs.declared.request.Request.TheVariants.{Begin, Sub, Ask, Retry, Drop, Commit, Abort, Undo, Checkpoint}
use Rattle.ft_core.specs.declared.request.Answer.{Answer}
use Rattle.ft_core.specs.declared.request.Answer.TheVariants.{Txn, Granted, Waits, Dropped, Committed, Aborted, Undone, Refused}
use Rattle.ft_core.specs.declared.request.Event.{Event}
use Rattle.ft_core.specs.declared.request.Event.TheVariants.{Begin as BeginEvent, Call as CallEvent, Undo as UndoEvent, Commit as CommitEvent, Abort as AbortEvent}
use Rattle.ft_core.specs.States.{State, history, next_txn, next_stamp, reply_of, accesses_now, after_grant, after_wait}
use Rattle.ft_core.specs.Steps.{BlockingRule, exact_rule, refusal_of, IsAsked, IsUndone, IsAnswered, IsStep}
use Rattle.ft_record.specs.Going.{GoesOn}

stays : (s s' : State) → s'.base ≡ s.base → s'.rule ≡ s.rule → s'.limits ≡ s.limits → s'.events ≡ s.events → GoesOn s s'
stays s s' base rule limits events = record { base = base; rule = rule; limits = limits; events = ([], append-nil s.events ∙ sym events) }

same : (s s' : State) → s' ≡ s → GoesOn s s'
same s s' e = stays s s' (ap (λ (x : State). x.base) e) (ap (λ (x : State). x.rule) e) (ap (λ (x : State). x.limits) e) (ap (λ (x : State). x.events) e)

adds : (s s' : State) (e : Event) → s'.base ≡ s.base → s'.rule ≡ s.rule → s'.limits ≡ s.limits → s'.events ≡ s.events ++ e ∷ [] → GoesOn s s'
adds s s' e base rule limits events = record { base = base; rule = rule; limits = limits; events = (e ∷ [], sym events) }

granted : (s s' : State) (t : ℕ) (call : Call) → s' ≡ after_grant s t call → GoesOn s s'
granted s s' t call e = adds s s' (CallEvent (next_stamp s) t call (reply_of s call) (accesses_now s call)) (ap (λ (x : State). x.base) e) (ap (λ (x : State). x.rule) e) (ap (λ (x : State). x.limits) e) (ap (λ (x : State). x.events) e)

waits : (s s' : State) (t : ℕ) (call : Call) → s' ≡ after_wait s t call → GoesOn s s'
waits s s' t call e = stays s s' (ap (λ (x : State). x.base) e) (ap (λ (x : State). x.rule) e) (ap (λ (x : State). x.limits) e) (ap (λ (x : State). x.events) e)

undone : (s s' : State) (k : ℕ) (target : Target posix_calls) → IsUndone s target k s' → GoesOn s s'
undone s s' k (Found c) h = adds s s' (UndoEvent k) (ap (λ (x : State). x.base) h.1) (ap (λ (x : State). x.rule) h.1) (ap (λ (x : State). x.limits) h.1) (ap (λ (x : State). x.events) h.1)
undone s s' k SubSinceTarget h = absurd h
undone s s' k Nothing h = absurd h

answered : (rule : BlockingRule) (s : State) (r : Request) (a : Answer) (s' : State) → r ≢ Checkpoint → IsAnswered rule s r a s' → GoesOn s s'
answered rule s Begin (Txn n) s' ne h = adds s s' (BeginEvent (next_txn s) None) (ap (λ (x : State). x.base) h.1) (ap (λ (x : State). x.rule) h.1) (ap (λ (x : State). x.limits) h.1) (ap (λ (x : State). x.events) h.1)
answered rule s Begin (Refused fault) s' ne h = same s s' h.2
answered rule s (Sub p) (Txn n) s' ne h = adds s s' (BeginEvent (next_txn s) (Some p)) (ap (λ (x : State). x.base) h.1) (ap (λ (x : State). x.rule) h.1) (ap (λ (x : State). x.limits) h.1) (ap (λ (x : State). x.events) h.1)
answered rule s (Sub p) (Refused fault) s' ne h = same s s' h.2
answered rule s (Ask t call) (Granted k reply) s' ne h = granted s s' t call h.3
answered rule s (Ask t call) (Waits blockers) s' ne h = waits s s' t call h.2
answered rule s (Ask t call) (Refused fault) s' ne h = same s s' h.2
answered rule s (Retry t) (Granted k reply) s' ne h = let call = h.0 in let g : IsAsked rule s t call (Granted k reply) s' = h.2 in granted s s' t call g.3
answered rule s (Retry t) (Waits blockers) s' ne h = let call = h.0 in let g : IsAsked rule s t call (Waits blockers) s' = h.2 in waits s s' t call g.2
answered rule s (Retry t) (Refused fault) s' ne h = same s s' h.2
answered rule s (Retry t) other s' ne h = absurd h.2
answered rule s (Drop t) Dropped s' ne h = stays s s' (ap (λ (x : State). x.base) h) (ap (λ (x : State). x.rule) h) (ap (λ (x : State). x.limits) h) (ap (λ (x : State). x.events) h)
answered rule s (Drop t) (Refused fault) s' ne h = same s s' h.2
answered rule s (Commit t) Committed s' ne h = adds s s' (CommitEvent t) (ap (λ (x : State). x.base) h) (ap (λ (x : State). x.rule) h) (ap (λ (x : State). x.limits) h) (ap (λ (x : State). x.events) h)
answered rule s (Commit t) (Refused fault) s' ne h = same s s' h.2
answered rule s (Abort t) (Aborted n) s' ne h = adds s s' (AbortEvent t) (ap (λ (x : State). x.base) h.1) (ap (λ (x : State). x.rule) h.1) (ap (λ (x : State). x.limits) h.1) (ap (λ (x : State). x.events) h.1)
answered rule s (Abort t) (Refused fault) s' ne h = same s s' h.2
answered rule s (Undo t) (Undone k) s' ne h = undone s s' k (undo_target posix_calls (history s) t) h
answered rule s (Undo t) (Refused fault) s' ne h = same s s' h.2
answered rule s Checkpoint a s' ne h = absurd (ne refl)
answered rule s r other s' ne h = absurd h

pub moved : (rule : BlockingRule) (s : State) (r : Request) (a : Answer) (s' : State) (refusal : Option Fault) → r ≢ Checkpoint → MatchOption refusal (IsAnswered rule s r a s') (λ fault. (a ≡ Refused fault) × (s' ≡ s)) → GoesOn s s'
moved rule s r a s' None ne h = answered rule s r a s' ne h
moved rule s r a s' (Some fault) ne h = same s s' h.1

abbrev pub is_checkpoint : Request → Bool
is_checkpoint Checkpoint = true
is_checkpoint other = false

-- whatever is asked but a checkpoint
pub goes-on : (s s' : State) (r : Request) (a : Answer) → is_checkpoint r ≡ false → IsStep exact_rule s r a s' → GoesOn s s'
goes-on s s' r a ne step = moved exact_rule s r a s' (refusal_of s r) (λ e. false≢true (sym ne ∙ ap is_checkpoint e)) step
