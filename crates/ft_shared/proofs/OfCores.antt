-- A legal step leads from the state of some core to that of some core.
use Rattle.std.proofs.Common.{◌≡◌, ◌≢◌, ◌&&◌, ◌++◌, ◌∷◌, [], ℕ, true, not, cond, is_some, Option, Some, None, MatchOption, refl, sym, ap, subst, ◌∙◌, eq-eqb, ne_eqb}
use Rattle.std.proofs.lemmas.Bool.{false≢true}
use Rattle.std.specs.Ordering.{nat_cmp}
use Rattle.std.specs.Cmp.{nat_cmp_total, unsigned_tied}
use Rattle.std.specs.FinMap as finite
use Rattle.ft_laws.proofs.Tests.{by_test}
use Rattle.ft_posix.specs.declared.call.Call.{Call}
use Rattle.ft_posix.specs.Posix.{posix_calls}
use Rattle.ft_posix.specs.RunLaws.{tree_after}
use Rattle.ft_history.specs.Fates.{FatesAfter}
use Rattle.ft_history.specs.History.{fate, is_live, over}
use Rattle.ft_history.specs.History.Fate.{Live, Committed as WasCommitted, Aborted as WasAborted}
use Rattle.ft_history.specs.Legal.{outcome}
use Rattle.ft_history.specs.Undoing.{Target, undo_target}
use Rattle.ft_history.specs.Undoing.Target.{Found, SubSince, Nothing}
use Rattle.ft_history.proofs.Fates.{fate_rules}
use Rattle.ft_history.proofs.Legal.{sound_all}
use Rattle.ft_history.proofs.Words.{by_number, put_same, put_other}
use Rattle.ft_core.specs.declared.fault.Fault.{Fault}
use Rattle.ft_core.specs.declared.fault.Fault.TheVariants.{Full}
use Rattle.ft_core.specs.declared.request.Request.{Request}
use Rattle.ft_core.specs.declared.request.Request.TheVariants.{Begin, Sub, Ask, Retry, Drop, Commit, Abort, Undo, Checkpoint}
use Rattle.ft_core.specs.declared.request.Answer.{Answer}
use Rattle.ft_core.specs.declared.request.Answer.TheVariants.{Txn, Granted as GrantedAnswer, Waits, Dropped, Committed, Aborted, Undone, Cleared, Refused}
use Rattle.ft_core.specs.declared.request.Event.{Event}
use Rattle.ft_core.specs.declared.request.Event.TheVariants.{Begin as BeginEvent, Call as CallEvent, Undo as UndoEvent, Commit as CommitEvent, Abort as AbortEvent}
use Rattle.ft_core.specs.Histories.{told, as_happening}
use Rattle.ft_core.specs.States.{Asks, State, standing_calls, history, fate_of, has_most_calls, next_txn, next_stamp, reply_of, accesses_now, after_begin, after_grant, after_wait, after_drop, after_undo, after_commit, after_abort, after_checkpoint}
use Rattle.ft_core.specs.Steps.{IsStep, IsAsked, IsAnswered, IsUndone, exact_rule, refusal_of, fault_if, fault_of_ask}
use Rattle.ft_core.specs.Kept.{start_of}
use Rattle.ft_core.specs.Reached.{IsLegalFrom, IsLegalAt}
use Rattle.ft_core.specs.Laws.{CallLaws, LockLaws}
use Rattle.ft_core.proofs.Begins.{live-fault}
use Rattle.ft_core.proofs.Joining.{sound_values, runs-plainly}
use Rattle.ft_core.proofs.Legally.{legal-step, legal-replies}
use Rattle.ft_core.proofs.Told.{told-push}
use Rattle.ft_shared.specs.Guarded.{IsOfCore}

-- only live transactions wait
abbrev AreWaiting : State → Type 0
AreWaiting s = (t : ℕ) → is_some (finite.get s.asks t) ≡ true → fate_of s t ≡ Some Live

-- What waits, after one transaction waits or does not wait any more.

inserted-other : (m : Asks) (n : ℕ) (call : Call) (t : ℕ) → t ≢ n → finite.get (finite.insert m n call) t ≡ finite.get m t
inserted-other m n call t ne = finite.get-insert nat_cmp_total m n call t ∙ ap (λ b. cond b (Some call) (finite.get m t)) (unsigned_tied t n ∙ ne_eqb t n ne)

removed-same : (m : Asks) (n t : ℕ) → t ≡ n → finite.get (finite.remove m n) t ≡ None
removed-same m n t is = finite.get-remove nat_cmp_total m n t ∙ ap (λ b. cond b None (finite.get m t)) (unsigned_tied t n ∙ eq-eqb t n is)

removed-other : (m : Asks) (n t : ℕ) → t ≢ n → finite.get (finite.remove m n) t ≡ finite.get m t
removed-other m n t ne = finite.get-remove nat_cmp_total m n t ∙ ap (λ b. cond b None (finite.get m t)) (unsigned_tied t n ∙ ne_eqb t n ne)

-- the state after an undo
undone-is : (s s' : State) (x : Target posix_calls) (k : ℕ) → IsUndone s x k s' → s' ≡ after_undo s k
undone-is s s' (Found d) k h = h.1
undone-is s s' SubSince k h = absurd h
undone-is s s' Nothing k h = absurd h

module _ (W : CallLaws) where
  -- what has become of a transaction after one event more
  fate-pushed : (s : State) (e : Event) (x : ℕ) → fate posix_calls s.base.last_txn (told (s.events ++ e ∷ [])) x ≡ fate posix_calls s.base.last_txn (as_happening e ∷ history s) x
  fate-pushed s e x = ap (λ h. fate posix_calls s.base.last_txn h x) (told-push s.events e)

  fates-after : (s : State) (e : Event) (last_txn last_stamp : ℕ) → IsLegalFrom s.base (told (s.events ++ e ∷ [])) last_txn last_stamp → FatesAfter posix_calls s.base.last_txn (as_happening e) (history s)
  fates-after s e last_txn last_stamp at =
      let at_push = subst (λ h. IsLegalFrom s.base h last_txn last_stamp) (told-push s.events e) at in
      fate_rules posix_calls W.lawful (start_of s.base at_push.started.store) (sound_values at_push.started.store at_push.started.sound) (history s) (as_happening e) at_push.legal

  -- The waiting transactions are live after each event.

  waiting-begun : (s : State) (up : Option ℕ) → IsLegalAt (after_begin s up) → AreWaiting s → AreWaiting (after_begin s up)
  waiting-begun s up at waits x some =
      let n = next_txn s in
      fate-pushed s (BeginEvent n up) x ∙ fates-after s (BeginEvent n up) n s.last_stamp at x
      ∙ by_number x n (λ is. put_same (fate_of s) n (Some Live) x is) (λ ne. put_other (fate_of s) n (Some Live) x ne ∙ waits x some)

  waiting-dropped : (s : State) (t : ℕ) → AreWaiting s → AreWaiting (after_drop s t)
  waiting-dropped s t waits x some = by_number x t
      (λ is. absurd (false≢true (sym (ap is_some (removed-same s.asks t x is)) ∙ some)))
      (λ ne. waits x (sym (ap is_some (removed-other s.asks t x ne)) ∙ some))

  waiting-granted : (s : State) (t : ℕ) (call : Call) → IsLegalAt (after_grant s t call) → AreWaiting s → AreWaiting (after_grant s t call)
  waiting-granted s t call at waits x some =
      let e = CallEvent (next_stamp s) t call (reply_of s call) (accesses_now s call) in
      fate-pushed s e x ∙ fates-after s e s.last_txn (next_stamp s) at x ∙ waiting-dropped s t waits x some

  waiting-asked-again : (s : State) (t : ℕ) (call : Call) → fate_of s t ≡ Some Live → AreWaiting s → AreWaiting (after_wait s t call)
  waiting-asked-again s t call live waits x some = by_number x t
      (λ is. ap (fate_of s) is ∙ live)
      (λ ne. waits x (sym (ap is_some (inserted-other s.asks t call x ne)) ∙ some))

  waiting-undone : (s : State) (k : ℕ) → IsLegalAt (after_undo s k) → AreWaiting s → AreWaiting (after_undo s k)
  waiting-undone s k at waits x some = fate-pushed s (UndoEvent k) x ∙ fates-after s (UndoEvent k) s.last_txn s.last_stamp at x ∙ waits x some

  waiting-committed : (s : State) (t : ℕ) → IsLegalAt (after_commit s t) → AreWaiting s → AreWaiting (after_commit s t)
  waiting-committed s t at waits x some = by_number x t
      (λ is. absurd (false≢true (sym (ap is_some (removed-same s.asks t x is)) ∙ some)))
      (λ ne.
      fate-pushed s (CommitEvent t) x ∙ fates-after s (CommitEvent t) s.last_txn s.last_stamp at x ∙ put_other (fate_of s) t (Some WasCommitted) x ne
      ∙ waits x (sym (ap is_some (removed-other s.asks t x ne)) ∙ some))

  waiting-aborted : (s : State) (t : ℕ) → IsLegalAt (after_abort s t) → AreWaiting s → AreWaiting (after_abort s t)
  waiting-aborted s t at waits x some = by_test (over posix_calls (history s) t x)
      (λ a. absurd (false≢true (sym (ap is_some (kept ∙ ap (λ b. cond (not b) (finite.get s.asks x) None) a)) ∙ some)))
      (λ out.
      fate-pushed s (AbortEvent t) x ∙ fates-after s (AbortEvent t) s.last_txn s.last_stamp at x
      ∙ ap (λ b. cond (b && is_live (fate_of s x)) (Some WasAborted) (fate_of s x)) out
      ∙ waits x (sym (ap is_some (kept ∙ ap (λ b. cond (not b) (finite.get s.asks x) None) out)) ∙ some))
    where
      kept : finite.get (finite.retain_keys s.asks (λ u. not (over posix_calls (history s) t u))) x ≡ cond (not (over posix_calls (history s) t x)) (finite.get s.asks x) None
      kept = finite.get-retain_keys s.asks (λ u. not (over posix_calls (history s) t u)) x (λ y e. ap (λ u. not (over posix_calls (history s) t u)) (sym (finite.nat_cmp-IsAntisymmetric x y e)))

  waiting-cleared : (s : State) → AreWaiting (after_checkpoint s)
  waiting-cleared s x some = absurd (false≢true (sym (ap is_some (finite.get-empty {X = Call} nat_cmp x)) ∙ some))

  -- After each answer.

  waiting-asked : (s s' : State) (t : ℕ) (call : Call) (a : Answer) → IsLegalAt s' → fate_of s t ≡ Some Live → AreWaiting s → IsAsked exact_rule s t call a s' → AreWaiting s'
  waiting-asked s s' t call (GrantedAnswer k reply) at live waits h = subst AreWaiting (sym h.3) (waiting-granted s t call (subst IsLegalAt h.3 at) waits)
  waiting-asked s s' t call (Waits blockers) at live waits h = subst AreWaiting (sym h.2) (waiting-asked-again s t call live waits)
  waiting-asked s s' t call other at live waits h = absurd h

  waiting-answered : (s s' : State) (r : Request) (a : Answer) → IsLegalAt s' → refusal_of s r ≡ None → AreWaiting s → IsAnswered exact_rule s r a s' → AreWaiting s'
  waiting-answered s s' r (Refused fault) at fine waits h = subst AreWaiting (sym h.2) waits
  waiting-answered s s' Begin (Txn t) at fine waits h = subst AreWaiting (sym h.1) (waiting-begun s None (subst IsLegalAt h.1 at) waits)
  waiting-answered s s' (Sub p) (Txn t) at fine waits h = subst AreWaiting (sym h.1) (waiting-begun s (Some p) (subst IsLegalAt h.1 at) waits)
  waiting-answered s s' (Ask t call) a at fine waits h = waiting-asked s s' t call a at (live-fault (fate_of s t) (fault_if (has_most_calls s) Full None) fine) waits h
  waiting-answered s s' (Retry t) a at fine waits h =
      waiting-asked s s' t h.0 a at (live-fault (fate_of s t) (fault_of_ask (finite.get s.asks t) (fault_if (has_most_calls s) Full None)) fine) waits h.2
  waiting-answered s s' (Drop t) Dropped at fine waits h = subst AreWaiting (sym h) (waiting-dropped s t waits)
  waiting-answered s s' (Commit t) Committed at fine waits h = subst AreWaiting (sym h) (waiting-committed s t (subst IsLegalAt h at) waits)
  waiting-answered s s' (Abort t) (Aborted n) at fine waits h = subst AreWaiting (sym h.1) (waiting-aborted s t (subst IsLegalAt h.1 at) waits)
  waiting-answered s s' (Undo t) (Undone k) at fine waits h =
      let is = undone-is s s' (undo_target posix_calls (history s) t) k h in
      subst AreWaiting (sym is) (waiting-undone s k (subst IsLegalAt is at) waits)
  waiting-answered s s' Checkpoint Cleared at fine waits h = subst AreWaiting (sym h) (waiting-cleared s)
  waiting-answered s s' r other at fine waits h = absurd h

  waiting-step : (s s' : State) (r : Request) (a : Answer) → IsLegalAt s' → AreWaiting s → IsStep exact_rule s r a s' → AreWaiting s'
  waiting-step s s' r a at waits = stepped (refusal_of s r) refl
    where
      stepped : (o : Option Fault) → refusal_of s r ≡ o → MatchOption o (IsAnswered exact_rule s r a s') (λ fault. (a ≡ Refused fault) × (s' ≡ s)) → AreWaiting s'
      stepped None fine answered = waiting-answered s s' r a at fine waits answered
      stepped (Some fault) due refused = subst AreWaiting (sym refused.1) waits

-- If its history is legal and only live transactions wait, a state is that of some core: the
-- standing calls, made one after another, leave cells that hold its tree.
of-legal : CallLaws → (s : State) → IsLegalAt s → AreWaiting s → IsOfCore s
of-legal W s at waits =
    let start = start_of s.base at.started.store in
    let plainly = runs-plainly W at.started at.legal in
    let past = sound_all posix_calls W.lawful start (sound_values at.started.store at.started.sound) (history s) at.legal in (
      outcome posix_calls start (history s),
      record {
        started = at.started;
        legal = at.legal;
        waiting = waits;
        headline = record {
          tree = plainly.plain ∙ ap (λ p. tree_after p (standing_calls s)) at.started.tree;
          replies = legal-replies W s at;
          order = past.runs.kept.rising;
        };
        sound = plainly.sound;
      },
    )

-- A legal step leads from the state of some core to that of some core.
pub of-core-step : CallLaws → LockLaws → (s s' : State) (r : Request) (a : Answer) → IsOfCore s → IsStep exact_rule s r a s' → IsOfCore s'
of-core-step W K s s' r a was step =
    let at : IsLegalAt s = record { started = was.1.started; legal = was.1.legal } in
    let now : IsLegalAt s' = legal-step W K s s' r a at step in
    of-legal W s' now (waiting-step W s s' r a now was.1.waiting step)
