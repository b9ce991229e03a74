-- What a step does to what is recorded.
use Rattle.std.proofs.Common.{◌≡◌, ◌≤◌, ◌<◌, ◌+◌, ◌-◌, ℕ, suc, List, [], ◌∷◌, ◌++◌, drop, Option, Some, None, is_some, Result, Ok, Err, MatchOption, IsErrAnd, inl, length, length-append, arith, add-one, refl, sym, ap, subst, ◌∙◌}
use Rattle.std.specs.Prelude.{nat_lt}
use Rattle.std.specs.FinMap as finite
use Rattle.std.proofs.lemmas.Bool.{lt-ltb}
use Rattle.std.proofs.lemmas.List.{drop-append-le, drop_all}
use Rattle.ft_laws.specs.Lists.{In}
use Rattle.ft_cells.specs.Cells.{Cells}
use Rattle.ft_posix.specs.declared.call.Call.{Call}
use Rattle.ft_posix.specs.declared.call.Reply.{Reply}
use Rattle.ft_posix.specs.declared.call.Access.{Access}
use Rattle.ft_posix.specs.Posix.{posix_calls}
use Rattle.ft_history.specs.History.Fate.{Live}
use Rattle.ft_history.specs.Legal.{MayBegin, MayCommit}
use Rattle.ft_history.specs.Undoing.{undo_target, Target}
use Rattle.ft_history.specs.Undoing.Target.{Found, SubSince, Nothing}
use Rattle.ft_history.proofs.Legal.{target_newest}
use Rattle.ft_core.specs.declared.fault.Fault.{Fault}
use Rattle.ft_core.specs.declared.fault.Fault.TheVariants.{Memory, Full, ChildLive}
use Rattle.ft_core.specs.declared.request.Event.{Event}
use Rattle.ft_core.specs.declared.request.Event.TheVariants.{Begin, Call as CallEvent, Undo, Commit, Abort}
use Rattle.ft_core.specs.declared.request.Request.{Request}
use Rattle.ft_core.specs.declared.request.Request.TheVariants as request
use Rattle.ft_core.specs.declared.request.FullOutcome.{FullOutcome}
use Rattle.ft_core.specs.declared.request.FullOutcome.TheVariants as full
use Rattle.ft_core.specs.FullOutcomes.{IsToldInFull, full_answer}
use Rattle.ft_lock_rules.specs.declared.rule.Rule.{Rule}
use Rattle.ft_core.specs.declared.request.Answer.{Answer}
use Rattle.ft_core.specs.declared.request.Answer.TheVariants.{Txn, Granted, Waits, Dropped, Committed, Aborted, Undone, Cleared, Refused}
use Rattle.ft_core.specs.Histories.{as_happening, told, granted}
use Rattle.ft_forest.specs.declared.TheConstants.{LAST_NUMBER}
use Rattle.ft_core.specs.Journals.{IsBaseTree}
use Rattle.ft_core.specs.Kept.{start_of}
use Rattle.ft_core.specs.Laws.{CallLaws, LockLaws}
use Rattle.ft_core.specs.Reached.{IsLegalAt}
use Rattle.ft_core.specs.Limits.{HistoryLimits}
use Rattle.ft_core.specs.States.{Base, State, history, next_txn, next_stamp, after_begin, reply_of, accesses_now, fate_of, has_live_child, live_children, has_most_calls, count_live, at_base, after_checkpoint}
use Rattle.ft_core.specs.Steps.{IsStep, IsAnswered, MayWantMemory, IsAsked, IsUndone, exact_rule, answer_with, begin_request, refusal_of, fault_if, fault_of_fate, fault_of_ask, fault_of_target}
use Rattle.ft_core.proofs.Begins.{live-parent, live-fault}
use Rattle.ft_core.proofs.Joining.{sound_values}
use Rattle.ft_core.proofs.Legally.{legal-step}
use Rattle.ft_core.proofs.Told.{told-push}
use Rattle.ft_record.specs.Recording.{Recording, HasReplyTwice, with_outcome}
use Rattle.ft_record.specs.Recent.{Remembered, IsRecent, events_kept, freed_by_commit}
use Rattle.ft_record.specs.Recorded.{IsRecorded}
use Rattle.ft_record.proofs.Places.{sound, events-begin, events-call, events-commit, events-abort, some-below, events-undo}

-- the same base and the same events
pub recent-same : (s s' : State) (r r' : Recording) (gone : ℕ) → IsRecent s r gone → s'.base ≡ s.base → s'.events ≡ s.events → IsLegalAt s' → r'.events ≡ r.events → r'.spare ≡ r.spare → IsRecent s' r' gone
recent-same s s' r r' gone was same same_events legal events spare = record {
  events = events ∙ was.events ∙ ap (drop gone) (sym same_events);
  within = let le = was.within in subst (λ (es : List Event). gone ≤ length es) (sym same_events) le;
  legal = legal;
  spare =
      let is = was.spare in
      let kept : events_kept s'.base.last_txn (history s') ≡ events_kept s.base.last_txn (history s) = λ i. events_kept (same i).last_txn (told (same_events i)) in
      omega arith;
}

-- The event takes a place that was kept, and after that n more may be given back.
pub record IsTold (s' : State) (r : Recording) (gone : ℕ) (e : Event) (n : ℕ) : Type 0 where
  pub some : 0 < r.spare
  pub within : n ≤ r.spare - 1
  pub recent : (r' : Recording) → r'.events ≡ r.events ++ e ∷ [] → r'.spare ≡ r.spare - 1 - n → IsRecent s' r' gone

-- one event more, in a new place or in one that was kept
module _ (s s' : State) (r : Recording) (gone : ℕ) (e : Event) (was : IsRecent s r gone) (same : s'.base ≡ s.base) (same_events : s'.events ≡ s.events ++ e ∷ []) (legal : IsLegalAt s') where
  kept-is : events_kept s'.base.last_txn (history s') ≡ events_kept s.base.last_txn (as_happening e ∷ history s)
  kept-is = (λ i. events_kept (same i).last_txn (told (same_events i))) ∙ ap (events_kept s.base.last_txn) (told-push s.events e)

  recent-events : (r' : Recording) → r'.events ≡ r.events ++ e ∷ [] → r'.spare ≡ events_kept s'.base.last_txn (history s') → IsRecent s' r' gone
  recent-events r' events spare = record {
    events = events ∙ ap (λ (es : List Event). es ++ e ∷ []) was.events ∙ sym (drop-append-le gone s.events (e ∷ []) was.within) ∙ ap (drop gone) (sym same_events);
    within = subst (λ (es : List Event). gone ≤ length es) (sym same_events) (let both = length-append s.events (e ∷ []) in let le = was.within in omega arith);
    legal = legal;
    spare = spare;
  }

  pub recent-new : events_kept s.base.last_txn (as_happening e ∷ history s) ≡ events_kept s.base.last_txn (history s) + 1 → (r' : Recording) → r'.events ≡ r.events ++ e ∷ [] → r'.spare ≡ r.spare + 1 → IsRecent s' r' gone
  recent-new more r' events spare = recent-events r' events (let was_is = was.spare in let is = kept-is in omega arith)

  -- n others cannot come any more
  pub recent-told : (n : ℕ) → events_kept s.base.last_txn (as_happening e ∷ history s) + 1 + n ≡ events_kept s.base.last_txn (history s) → IsTold s' r gone e n
  recent-told n fewer = record {
    some = let was_is = was.spare in omega arith;
    within = let was_is = was.spare in omega arith;
    recent = λ r' events spare. recent-events r' events (let was_is = was.spare in let is = kept-is in omega arith);
  }

-- Steps.

-- an answer that is no refusal was given where none was due
allowed : {A : Type 0} (o : Option Fault) (a : Answer) (P : Fault → Type 0) → MatchOption o A (λ f. (a ≡ Refused f) × P f) → ((f : Fault) → a ≡ Refused f → ⊥) → (o ≡ None) × A
allowed None a P h never = (refl, h)
allowed (Some f) a P h never = absurd (never f h.0)

-- who is refused has changed nothing
pub unchanged : (s s' : State) (r : Request) (f : Fault) → IsStep exact_rule s r (Refused f) s' → s' ≡ s
unchanged s s' r f step = by_refusal (refusal_of s r) (answered r) step
  where
    answered : (r : Request) → IsAnswered exact_rule s r (Refused f) s' → s' ≡ s
    answered request.Begin h = h.2
    answered (request.Sub t) h = h.2
    answered (request.Ask t call) h = h.2
    answered (request.Retry t) h = h.2
    answered (request.Drop t) h = h.2
    answered (request.Commit t) h = h.2
    answered (request.Abort t) h = h.2
    answered (request.Undo t) h = h.2
    answered request.Checkpoint h = h.2

    by_refusal : {A : Type 0} (o : Option Fault) → (A → s' ≡ s) → MatchOption o A (λ g. (Refused f ≡ Refused g) × (s' ≡ s)) → s' ≡ s
    by_refusal None same h = same h
    by_refusal (Some g) same h = h.1

-- who is refused whatever memory there is
pub step-due : {A : Type 0} (told : A → Answer) (s : State) (r : Request) (fault : Fault) (result : Result A Fault) → refusal_of s r ≡ Some fault → IsErrAnd result (λ f. f ≡ fault) → IsStep exact_rule s r (answer_with told result) s
step-due told s r fault (Ok x) due is = absurd is
step-due told s r fault (Err f) due is = subst (λ o. MatchOption o (IsAnswered exact_rule s r (Refused f) s) (λ g. (Refused f ≡ Refused g) × (s ≡ s))) (sym (due ∙ ap Some (sym is))) (refl, refl)

-- who is refused for want of memory alone
pub step-wanting : {A : Type 0} (told : A → Answer) (s : State) (r : Request) (result : Result A Fault) → refusal_of s r ≡ None → MayWantMemory r → IsErrAnd result (λ f. f ≡ Memory) → IsStep exact_rule s r (answer_with told result) s
step-wanting told s r (Ok x) fine may is = absurd is
step-wanting told s r (Err f) fine may is = subst (λ o. MatchOption o (IsAnswered exact_rule s r (Refused f) s) (λ g. (Refused f ≡ Refused g) × (s ≡ s))) (sym fine) (is, may, refl)

pub recent-refused : (s s' : State) (r : Request) (f : Fault) (was : Recording) (gone : ℕ) → IsRecent s was gone → IsStep exact_rule s r (Refused f) s' → (now : Recording) → now.events ≡ was.events → now.spare ≡ was.spare → IsRecent s' now gone
recent-refused s s' r f was gone h step now events spare =
    let same = unchanged s s' r f step in
    recent-same s s' was now gone h (ap (λ (q : State). q.base) same) (ap (λ (q : State). q.events) same) (subst IsLegalAt (sym same) h.legal) events spare

-- a pending call that is forgotten, or is not
pub recent-dropped : (s s' : State) (t : ℕ) (result : Result (Unit {0}) Fault) (r : Recording) (gone : ℕ) → IsRecent s r gone → IsStep exact_rule s (request.Drop t) (answer_with (λ done. Dropped) result) s' → IsRecent s' r gone
recent-dropped s s' t (Ok done) r gone h step =
    let is = (allowed (refusal_of s (request.Drop t)) Dropped (λ f. s' ≡ s) step (λ f e. cc)).1 in
    recent-same s s' r r gone h (ap (λ (q : State). q.base) is) (ap (λ (q : State). q.events) is) (subst IsLegalAt (sym is) h.legal) refl refl
recent-dropped s s' t (Err f) r gone h step = recent-refused s s' (request.Drop t) f r gone h step r refl refl

-- the reply of a call that was made in full is there a second time
pub has-reply : (s : State) (call : Call) (w : FullOutcome) → IsToldInFull s call w → HasReplyTwice w
has-reply s call (full.Granted k made reply kept accesses) told = ap is_some told.1
has-reply s call (full.Waits blockers) told = tt

-- from a base on
pub recent-at : (rule : Rule) (limits : HistoryLimits) (b : Base) (s : State) → s ≡ at_base rule limits b → (r : Recording) → r.events ≡ [] → r.spare ≡ 0 → IsLegalAt s → IsRecent s r 0
recent-at rule limits b s is r none none_kept legal = record {
  events = none ∙ ap (λ (q : State). q.events) (sym is);
  within = omega arith;
  legal = legal;
  spare = none_kept ∙ sym (ap (λ (q : State). events_kept q.base.last_txn (history q)) is);
}

pub cleared-is : (s s' : State) → IsStep exact_rule s request.Checkpoint Cleared s' → s' ≡ after_checkpoint s
cleared-is s s' step = (allowed (refusal_of s request.Checkpoint) Cleared (λ f. s' ≡ s) step (λ f e. cc)).1

-- who asks where nothing else refuses it is live
lives : (s : State) (t : ℕ) (later : Option Fault) → fault_of_fate (fate_of s t) later ≡ None → (fate_of s t ≡ Some Live) × (later ≡ None)
lives s t later e =
    let live = live-fault (fate_of s t) later e in
    (live, sym (ap (λ o. fault_of_fate o later) live) ∙ e)

-- who is not refused is live, and has an answer to the call
asked-now : (s s' : State) (t : ℕ) (call : Call) (w : FullOutcome) → IsStep exact_rule s (request.Ask t call) (full_answer w) s' → (fate_of s t ≡ Some Live) × IsAsked exact_rule s t call (full_answer w) s'
asked-now s s' t call (full.Granted k made reply kept accesses) step =
    let is = allowed (refusal_of s (request.Ask t call)) (Granted k reply) (λ f. s' ≡ s) step (λ f e. cc) in
    ((lives s t (fault_if (has_most_calls s) Full None) is.0).0, is.1)
asked-now s s' t call (full.Waits blockers) step =
    let is = allowed (refusal_of s (request.Ask t call)) (Waits blockers) (λ f. s' ≡ s) step (λ f e. cc) in
    ((lives s t (fault_if (has_most_calls s) Full None) is.0).0, is.1)

asked-again : (s s' : State) (t : ℕ) (w : FullOutcome) → IsStep exact_rule s (request.Retry t) (full_answer w) s' → (fate_of s t ≡ Some Live) × (call : Call) × (finite.get s.asks t ≡ Some call) × IsAsked exact_rule s t call (full_answer w) s'
asked-again s s' t (full.Granted k made reply kept accesses) step =
    let is = allowed (refusal_of s (request.Retry t)) (Granted k reply) (λ f. s' ≡ s) step (λ f e. cc) in
    ((lives s t (fault_of_ask (finite.get s.asks t) (fault_if (has_most_calls s) Full None)) is.0).0, is.1.0, is.1.1, is.1.2)
asked-again s s' t (full.Waits blockers) step =
    let is = allowed (refusal_of s (request.Retry t)) (Waits blockers) (λ f. s' ≡ s) step (λ f e. cc) in
    ((lives s t (fault_of_ask (finite.get s.asks t) (fault_if (has_most_calls s) Full None)) is.0).0, is.1.0, is.1.1, is.1.2)

module _ (W : CallLaws) (K : LockLaws) (s : State) where
  stepped : (s' : State) (request : Request) (answer : Answer) (r : Recording) (gone : ℕ) → IsRecent s r gone → IsStep exact_rule s request answer s' → IsLegalAt s'
  stepped s' request answer r gone was = legal-step W K s s' request answer was.legal

  -- a begin
  pub begun-is : (up : Option ℕ) (t : ℕ) (s' : State) → IsStep exact_rule s (begin_request up) (Txn t) s' → (refusal_of s (begin_request up) ≡ None) × ((t ≡ next_txn s) × (s' ≡ after_begin s up))
  begun-is None t s' step = allowed (refusal_of s request.Begin) (Txn t) (λ f. s' ≡ s) step (λ f e. cc)
  begun-is (Some p) t s' step = allowed (refusal_of s (request.Sub p)) (Txn t) (λ f. s' ≡ s) step (λ f e. cc)

  pub recent-begun : (up : Option ℕ) (t : ℕ) (s' : State) (r : Recording) (gone : ℕ) → IsRecent s r gone → IsStep exact_rule s (begin_request up) (Txn t) s' → (r' : Recording) → r'.events ≡ r.events ++ Begin t up ∷ [] → r'.spare ≡ r.spare + 1 → IsRecent s' r' gone
  recent-begun up t s' r gone was step r' events spare =
      let is = begun-is up t s' step in
      let started = was.legal.started in
      let may : MayBegin posix_calls s.base.last_txn (history s) (next_txn s) up = record { next = add-one s.last_txn ∙ ap suc started.last_txn_is; live = live-parent s up is.0 } in
      recent-new s s' r gone (Begin (next_txn s) up) was (ap (λ (q : State). q.base) is.1.1) (ap (λ (q : State). q.events) is.1.1) (stepped s' (begin_request up) (Txn t) r gone was step)
      (events-begin W started was.legal.legal (next_txn s) up may refl) r' (events ∙ ap (λ n. r.events ++ Begin n up ∷ []) is.1.0) spare

  -- a call that was granted
  pub recent-granted : (t k : ℕ) (call : Call) (reply : Reply) (s' : State) (r : Recording) (gone : ℕ) → IsRecent s r gone → IsLegalAt s' → fate_of s t ≡ Some Live → IsAsked exact_rule s t call (Granted k reply) s'
      → (made : Call) → made ≡ call → (kept : Reply) → kept ≡ reply → (accesses : List Access) → accesses ≡ accesses_now s call
      → (r' : Recording) → r'.events ≡ r.events ++ CallEvent k t made kept accesses ∷ [] → r'.spare ≡ r.spare + 1 → IsRecent s' r' gone
  recent-granted t k call reply s' r gone was legal live is made made_is kept kept_is accesses accesses_are r' events spare =
      let e : Event = CallEvent (next_stamp s) t call (reply_of s call) (accesses_now s call) in
      let same : CallEvent k t made kept accesses ≡ e = (λ i. CallEvent (is.1 i) t (made_is i) ((kept_is ∙ is.2) i) (accesses_are i)) in
      recent-new s s' r gone e was (ap (λ (q : State). q.base) is.3) (ap (λ (q : State). q.events) is.3) legal
      (events-call W was.legal.started was.legal.legal (granted (next_stamp s) t call (reply_of s call) (accesses_now s call)) live (let last = was.legal.started.last_stamp_is in omega arith)) r' (events ∙ ap (λ x. r.events ++ x ∷ []) same) spare

  -- a call that was asked for is told, if it was made
  recent-made : (t : ℕ) (call : Call) (w : FullOutcome) (s' : State) (r : Recording) (gone : ℕ) → IsRecent s r gone → IsLegalAt s' → fate_of s t ≡ Some Live → IsAsked exact_rule s t call (full_answer w) s' → IsToldInFull s call w
      → (ready : Recording) → ready ≡ record r { room = ready.room } → (r' : Recording) → r' ≡ with_outcome ready t w → IsRecent s' r' gone
  recent-made t call (full.Granted k made reply None accesses) s' r gone was legal live asked told ready same r' is = absurd (never told.1)
    where
      never : {x : Reply} → None ≡ Some x → ⊥
      never e = cc
  recent-made t call (full.Granted k made reply (Some kept) accesses) s' r gone was legal live asked told ready same r' is =
      recent-granted t k call reply s' r gone was legal live asked made told.0 kept (one told.1) accesses.items told.2 r'
      (ap (λ (q : Recording). q.events) is ∙ ap (λ (q : Recording). q.events ++ CallEvent k t made kept accesses.items ∷ []) same)
      (ap (λ (q : Recording). q.spare) is ∙ ap (λ (q : Recording). q.spare + 1) same)
    where
      one : {x y : Reply} → Some x ≡ Some y → x ≡ y
      one e = cc
  recent-made t call (full.Waits blockers) s' r gone was legal live asked told ready same r' is =
      recent-same s s' r r' gone was (ap (λ (q : State). q.base) asked.2) (ap (λ (q : State). q.events) asked.2) legal (ap (λ (q : Recording). q.events) (is ∙ same)) (ap (λ (q : Recording). q.spare) (is ∙ same))

  -- one that is asked for now
  pub recent-asked : (t : ℕ) (call : Call) (w : FullOutcome) (s' : State) (r : Recording) (gone : ℕ) → IsRecent s r gone → IsStep exact_rule s (request.Ask t call) (full_answer w) s' → IsToldInFull s call w
      → (ready : Recording) → ready ≡ record r { room = ready.room } → (r' : Recording) → r' ≡ with_outcome ready t w → IsRecent s' r' gone
  recent-asked t call w s' r gone was step told ready same r' is =
      let asked = asked-now s s' t call w step in
      recent-made t call w s' r gone was (stepped s' (request.Ask t call) (full_answer w) r gone was step) asked.0 asked.1 told ready same r' is

  -- one that was waited for
  pub recent-retried : (t : ℕ) (w : FullOutcome) (s' : State) (r : Recording) (gone : ℕ) → IsRecent s r gone → IsStep exact_rule s (request.Retry t) (full_answer w) s' → (call : Call) × (finite.get s.asks t ≡ Some call) × IsToldInFull s call w
      → (ready : Recording) → ready ≡ record r { room = ready.room } → (r' : Recording) → r' ≡ with_outcome ready t w → IsRecent s' r' gone
  recent-retried t w s' r gone was step told ready same r' is =
      let asked = asked-again s s' t w step in
      let one : told.0 ≡ asked.1 = only (sym told.1 ∙ asked.2) in
      recent-made t asked.1 w s' r gone was (stepped s' (request.Retry t) (full_answer w) r gone was step) asked.0 asked.3 (subst (λ x. IsToldInFull s x w) one told.2) ready same r' is
    where
      only : {x y : Call} → Some x ≡ Some y → x ≡ y
      only e = cc

  -- a commit
  pub recent-committed : (t : ℕ) (s' : State) (r : Recording) (gone : ℕ) → IsRecent s r gone → IsStep exact_rule s (request.Commit t) Committed s' → IsTold s' r gone (Commit t) (freed_by_commit s t)
  recent-committed t s' r gone was step =
      let is = allowed (refusal_of s (request.Commit t)) Committed (λ f. s' ≡ s) step (λ f e. cc) in
      let live = lives s t (fault_if (has_live_child s t) ChildLive None) is.0 in
      let may : MayCommit posix_calls s.base.last_txn (history s) t = record { live = live.0; no_child = childless (live_children s t) live.1 } in
      recent-told s s' r gone (Commit t) was (ap (λ (q : State). q.base) is.1) (ap (λ (q : State). q.events) is.1) (stepped s' (request.Commit t) Committed r gone was step)
      (freed_by_commit s t) (events-commit W was.legal.started was.legal.legal t may)
    where
      childless : (xs : List ℕ) → fault_if (nat_lt 0 (length xs)) ChildLive None ≡ None → xs ≡ []
      childless [] e = refl
      childless (x ∷ xs) e = absurd (some (sym (ap (λ b. fault_if b ChildLive None) (lt-ltb 0 (length (x ∷ xs)) (omega arith))) ∙ e))
        where
          some : Some ChildLive ≡ None → ⊥
          some e = cc

  -- an abort
  pub some-ended : (t n : ℕ) (s' : State) (r : Recording) (gone : ℕ) → IsRecent s r gone → IsStep exact_rule s (request.Abort t) (Aborted n) s' → 0 < count_live s t
  some-ended t n s' r gone was step =
      let is = allowed (refusal_of s (request.Abort t)) (Aborted n) (λ f. s' ≡ s) step (λ f e. cc) in
      some-below W was.legal.started was.legal.legal t (lives s t None is.0).0

  pub recent-aborted : (t n : ℕ) (s' : State) (r : Recording) (gone : ℕ) → IsRecent s r gone → IsStep exact_rule s (request.Abort t) (Aborted n) s' → IsTold s' r gone (Abort t) (count_live s t - 1 + n)
  recent-aborted t n s' r gone was step =
      let is = allowed (refusal_of s (request.Abort t)) (Aborted n) (λ f. s' ≡ s) step (λ f e. cc) in
      let live = lives s t None is.0 in
      let some = some-ended t n s' r gone was step in
      let fewer = events-abort W was.legal.started was.legal.legal t live.0 in
      let count = is.1.0 in
      recent-told s s' r gone (Abort t) was (ap (λ (q : State). q.base) is.1.1) (ap (λ (q : State). q.events) is.1.1) (stepped s' (request.Abort t) (Aborted n) r gone was step)
      (count_live s t - 1 + n) (omega arith)

  -- an undo
  pub recent-undone : (t k : ℕ) (s' : State) (r : Recording) (gone : ℕ) → IsRecent s r gone → IsStep exact_rule s (request.Undo t) (Undone k) s' → IsTold s' r gone (Undo k) 0
  recent-undone t k s' r gone was step =
      let is = allowed (refusal_of s (request.Undo t)) (Undone k) (λ f. s' ≡ s) step (λ f e. cc) in
      let live = lives s t (fault_if (has_live_child s t) ChildLive (fault_of_target (undo_target posix_calls (history s) t))) is.0 in
      by_target live.0 (undo_target posix_calls (history s) t) refl is.1
    where
      by_target : fate_of s t ≡ Some Live → (x : Target posix_calls) → undo_target posix_calls (history s) t ≡ x → IsUndone s x k s' → IsTold s' r gone (Undo k) 0
      by_target live (Found d) found is =
          let from = start_of s.base was.legal.started.store in
          let newest = target_newest posix_calls W.lawful from (sound_values was.legal.started.store was.legal.started.sound) (history s) was.legal.legal t d live found in
          let there = ((sound W was.legal.started was.legal.legal).runs.kept.owned t d (subst (In d) (sym newest.1) (inl refl))).0 in
          let fewer = events-undo W was.legal.started was.legal.legal t d live there newest.2 in
          recent-told s s' r gone (Undo k) was (ap (λ (q : State). q.base) is.1) (ap (λ (q : State). q.events) is.1) (stepped s' (request.Undo t) (Undone k) r gone was step) 0
          (subst (λ n. events_kept s.base.last_txn (as_happening (Undo n) ∷ history s) + 1 + 0 ≡ events_kept s.base.last_txn (history s)) (sym is.0) (omega (arith, fewer)))
      by_target live SubSince found is = absurd is
      by_target live Nothing found is = absurd is

-- all is forgotten
pub recent-forgotten : (s : State) (r r' : Recording) (gone n : ℕ) → IsRecent s r gone → n ≡ length s.events → r'.events ≡ [] → r'.spare ≡ r.spare → IsRecent s r' n
recent-forgotten s r r' gone n was all none spare = record {
  events = none ∙ sym (drop_all n s.events (omega (arith, all)));
  within = omega (arith, all);
  legal = was.legal;
  spare = spare ∙ was.spare;
}

-- The base of a record stays, whatever is asked of it but a checkpoint.
pub still-recorded : (r r' : Remembered) (base : Cells) → IsRecorded r base → r'.core.state.base ≡ r.core.state.base → r'.forgotten ≡ r.forgotten → IsRecorded r' base
still-recorded r r' base was same forgotten = record {
  all = forgotten ∙ was.all;
  tree = was.tree ∙ ap (λ (b : Base). b.tree) (sym same);
  base_is = subst (λ (b : Base). IsBaseTree base b.last_stamp) (sym same) was.base_is;
  last = subst (λ (b : Base). b.last_stamp ≤ LAST_NUMBER) (sym same) was.last;
  bare = was.bare;
}
