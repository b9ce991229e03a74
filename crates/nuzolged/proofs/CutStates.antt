-- States that are alike answer alike.
use Rattle.std.proofs.Common.{◌≡◌, ◌∙◌, ℕ, Bool, true, false, not, cond, ◌||◌, nat_le, nat_lt, List, [], ◌∷◌, ◌++◌, length, map, option_map, Option, Some, None, MatchOption, is_some, unwrap_or, ◌+◌, ap, sym, refl, subst}
use Rattle.std.specs.FinMap as finite
use Rattle.std.specs.Cmp.{nat_cmp_total}
use Rattle.std.specs.Ordering.{nat_cmp, eq_by_cmp}
use Rattle.std.proofs.lemmas.Bool.{false≢true}
use Rattle.std.proofs.lemmas.List.{map-append, length-map}
use Rattle.ft_cells.specs.declared.limits.TreeLimits.{TreeLimits}
use Rattle.ft_posix.specs.declared.call.Call.{Call}
use Rattle.ft_posix.specs.declared.call.Access.{Access}
use Rattle.ft_posix.specs.Posix.{as_place, posix_calls}
use Rattle.ft_posix.specs.Exec.{exec}
use Rattle.ft_posix.specs.RunLaws.{accesses_in, tree_after}
use Rattle.ft_history.specs.History.{is_live, begun, parent, over, fate, live_children as live_children_of, grants, standing}
use Rattle.ft_history.specs.Logs.{passing}
use Rattle.ft_history.specs.Undoing.{Target, undo_target}
use Rattle.ft_history.specs.Undoing.Target.{Found, SubSince as SubSinceTarget, Nothing}
use Rattle.ft_history.specs.Promises.{calls_below}
use Rattle.ft_forest.specs.Transactions.{depth_within}
use Rattle.ft_forest.specs.declared.TheConstants.{LAST_NUMBER}
use Rattle.ft_lock_rules.specs.declared.line.LockLine.{LockLine}
use Rattle.ft_lock_rules.specs.Locks.{is_held}
use Rattle.ft_lock_rules.specs.Law.{is_of, is_lock, blockers_by}
use Rattle.ft_core.specs.declared.fault.Fault.{Fault}
use Rattle.ft_core.specs.declared.fault.Fault.TheVariants.{Memory, Full, Deep, ChildLive, Live as LiveFault}
use Rattle.ft_core.specs.declared.request.Event.{Event}
use Rattle.ft_core.specs.declared.request.Event.TheVariants as event
use Rattle.ft_core.specs.declared.request.Request.{Request}
use Rattle.ft_core.specs.declared.request.Request.TheVariants.{Begin, Sub, Ask, Retry, Drop, Commit, Abort, Undo, Checkpoint}
use Rattle.ft_core.specs.declared.request.Answer.{Answer}
use Rattle.ft_core.specs.declared.request.Answer.TheVariants.{Txn, Granted, Waits, Dropped, Committed, Aborted, Undone, Cleared, Refused}
use Rattle.ft_core.specs.Histories.{History, told_after, as_happening}
use Rattle.ft_core.specs.States.{State, Base, Asks, history, fate_of, has_live_child, has_live, live_children, is_deepest, has_most_transactions, has_most_calls, next_txn, next_stamp, after_begin, reply_of, accesses_now, after_grant, after_wait, after_drop, after_undo, after_commit, after_abort, after_checkpoint, count_standing, tree_of}
use Rattle.ft_core.specs.Steps.{IsAnswered, IsAsked, IsUndone, MayWantMemory, exact_rule, refusal_of, fault_if, fault_of_fate, fault_of_target, fault_of_ask}
use Rattle.ft_core.proofs.Allowing.{limits-after}
use Rattle.nuzolged.specs.Cuts.{cut_of, cut_event, limits_in, AreAlike, AnswerAlike}
use Rattle.nuzolged.proofs.CutHistories.{begun-cut, parent-cut, grants-cut, fate-cut, over-cut, live_children-cut, standing-cut, calls_below-cut, blockers-cut, holds-cut, retains-cut, find_back-cut, exec-cut, accesses-cut, tree-cut, cut_done, cut_history, cut_target}

abbrev pub left : (limits : TreeLimits) → Option Call → Option Call
left limits = option_map (cut_of limits)

told_after-cut : (limits : TreeLimits) (h : History) (events : List Event) → cut_history limits (told_after h events) ≡ told_after (cut_history limits h) (map (cut_event limits) events)
told_after-cut limits h [] = refl
told_after-cut limits h (event.Begin t parent ∷ events) = told_after-cut limits (as_happening (event.Begin t parent) ∷ h) events
told_after-cut limits h (event.Call k t call reply accesses ∷ events) = told_after-cut limits (as_happening (event.Call k t call reply accesses) ∷ h) events
told_after-cut limits h (event.Undo k ∷ events) = told_after-cut limits (as_happening (event.Undo k) ∷ h) events
told_after-cut limits h (event.Commit t ∷ events) = told_after-cut limits (as_happening (event.Commit t) ∷ h) events
told_after-cut limits h (event.Abort t ∷ events) = told_after-cut limits (as_happening (event.Abort t) ∷ h) events

-- ---- what is asked for

-- one of two, by the same test
pick : (limits : TreeLimits) (b : Bool) (x x' y y' : Option Call) → left limits x' ≡ left limits x → left limits y' ≡ left limits y → left limits (cond b x' y') ≡ left limits (cond b x y)
pick limits true x x' y y' e f = e
pick limits false x x' y y' e f = f

abbrev AlikeAsks : (limits : TreeLimits) → Asks → Asks → Type 0
AlikeAsks limits m m' = (t : ℕ) → left limits (finite.get m' t) ≡ left limits (finite.get m t)

removed-alike : (limits : TreeLimits) (m m' : Asks) (t : ℕ) → AlikeAsks limits m m' → AlikeAsks limits (finite.remove m t) (finite.remove m' t)
removed-alike limits m m' t alike u =
    ap (left limits) (finite.get-remove nat_cmp_total m' t u) ∙ pick limits (eq_by_cmp nat_cmp u t) None None (finite.get m u) (finite.get m' u) refl (alike u) ∙ sym (ap (left limits) (finite.get-remove nat_cmp_total m t u))

inserted-alike : (limits : TreeLimits) (m m' : Asks) (t : ℕ) (call call' : Call) → cut_of limits call' ≡ cut_of limits call → AlikeAsks limits m m' → AlikeAsks limits (finite.insert m t call) (finite.insert m' t call')
inserted-alike limits m m' t call call' e alike u =
    ap (left limits) (finite.get-insert nat_cmp_total m' t call' u) ∙ pick limits (eq_by_cmp nat_cmp u t) (Some call) (Some call') (finite.get m u) (finite.get m' u) (ap Some e) (alike u)
    ∙ sym (ap (left limits) (finite.get-insert nat_cmp_total m t call u))

retained-get : (m : Asks) (p : ℕ → Bool) (u : ℕ) → finite.get (finite.retain_keys m p) u ≡ cond (p u) (finite.get m u) None
retained-get m p u = finite.get-retain_keys m p u (λ x e. ap p (sym (finite.nat_cmp-IsAntisymmetric u x e)))

retained-alike : (limits : TreeLimits) (m m' : Asks) (p p' : ℕ → Bool) → ((u : ℕ) → p' u ≡ p u) → AlikeAsks limits m m' → AlikeAsks limits (finite.retain_keys m p) (finite.retain_keys m' p')
retained-alike limits m m' p p' same alike u =
    ap (left limits) (retained-get m' p' u) ∙ ap (λ b. left limits (cond b (finite.get m' u) None)) (same u) ∙ pick limits (p u) (finite.get m u) (finite.get m' u) None None (alike u) refl ∙ sym (ap (left limits) (retained-get m p u))

-- the fault does not depend on what is cut
fault_of_ask-left : (limits : TreeLimits) (o : Option Call) (later : Option Fault) → fault_of_ask (left limits o) later ≡ fault_of_ask o later
fault_of_ask-left limits None later = refl
fault_of_ask-left limits (Some call) later = refl

fault_of_target-left : (limits : TreeLimits) (target : Target posix_calls) → fault_of_target (cut_target limits target) ≡ fault_of_target target
fault_of_target-left limits (Found c) = refl
fault_of_target-left limits SubSinceTarget = refl
fault_of_target-left limits Nothing = refl

-- a call that is asked for, of which the same is left
pub record IsAlikeAsk (limits : TreeLimits) (o : Option Call) (call : Call) : Type 0 where
  pub other : Call
  pub is : o ≡ Some other
  pub alike : cut_of limits other ≡ cut_of limits call

pub alike_ask : (limits : TreeLimits) (o : Option Call) (call : Call) → left limits o ≡ Some (cut_of limits call) → IsAlikeAsk limits o call
alike_ask limits None call e = absurd (false≢true (ap is_some e))
alike_ask limits (Some other) call e = record { other = other; is = refl; alike = ap (λ o. unwrap_or o (cut_of limits call)) e }

-- ---- what an undo comes upon

to_left : (limits : TreeLimits) (s : State) (target : Target posix_calls) (k : ℕ) (after : State) → IsUndone s target k after → IsUndone s (cut_target limits target) k after
to_left limits s (Found c) k after is = is
to_left limits s SubSinceTarget k after is = is
to_left limits s Nothing k after is = is

from_left : (limits : TreeLimits) (s : State) (target : Target posix_calls) (k : ℕ) (after : State) → IsUndone s (cut_target limits target) k after → IsUndone s target k after
from_left limits s (Found c) k after is = is
from_left limits s SubSinceTarget k after is = is
from_left limits s Nothing k after is = is

retried : (s : State) (t : ℕ) (call : Call) (a : Answer) (after : State) → finite.get s.asks t ≡ Some call → IsAsked exact_rule s t call a after → IsAnswered exact_rule s (Retry t) a after
retried s t call (Granted k reply) after is has = (call, is, has)
retried s t call (Waits blockers) after is has = (call, is, has)
retried s t call other after is has = absurd has

-- ---- states that are alike

module _ (s s' : State) (alike : AreAlike s s') where
  abbrev limits : TreeLimits
  limits = limits_in s

  cut_alike : cut_history limits (history s') ≡ cut_history limits (history s)
  cut_alike = told_after-cut limits [] s'.events ∙ ap (told_after []) alike.events ∙ sym (told_after-cut limits [] s.events)

  -- what does not depend on what is cut is the same
  same_of : {A : Type 0} (f : History → A) → ((h : History) → f (cut_history limits h) ≡ f h) → f (history s') ≡ f (history s)
  same_of f kept = sym (kept (history s')) ∙ ap f cut_alike ∙ kept (history s)

  begun-same : begun posix_calls (history s') ≡ begun posix_calls (history s)
  begun-same = same_of (begun posix_calls) (begun-cut limits)

  over-same : (t u : ℕ) → over posix_calls (history s') t u ≡ over posix_calls (history s) t u
  over-same t u = same_of (λ h. over posix_calls h t u) (λ h. over-cut limits h t u)

  pub fate-same : (t : ℕ) → fate_of s' t ≡ fate_of s t
  fate-same t = same_of (λ h. fate posix_calls s'.base.last_txn h t) (λ h. fate-cut limits s'.base.last_txn h t) ∙ ap (λ b. fate posix_calls b.last_txn (history s) t) alike.base

  pub children-same : (t : ℕ) → live_children s' t ≡ live_children s t
  children-same t =
      same_of (λ h. live_children_of posix_calls s'.base.last_txn h t) (λ h. live_children-cut limits s'.base.last_txn h t) ∙ ap (λ b. live_children_of posix_calls b.last_txn (history s) t) alike.base

  has_live_child-same : (t : ℕ) → has_live_child s' t ≡ has_live_child s t
  has_live_child-same t = ap (λ xs. nat_lt 0 (length xs)) (children-same t)

  has_live-same : has_live s' ≡ has_live s
  has_live-same = λ i. nat_lt 0 (length (passing (λ t. is_live (fate-same t i)) (begun-same i)))

  most_transactions-same : has_most_transactions s' ≡ has_most_transactions s
  most_transactions-same = λ i. nat_le (alike.limits i).transactions (length (begun-same i)) || nat_le LAST_NUMBER (alike.last_txn i)

  grants-same : length (grants posix_calls (history s')) ≡ length (grants posix_calls (history s))
  grants-same = same_of (λ h. length (grants posix_calls h)) (λ h. ap length (grants-cut limits h) ∙ length-map (grants posix_calls h) (cut_done limits))

  most_calls-same : has_most_calls s' ≡ has_most_calls s
  most_calls-same = λ i. nat_le (alike.limits i).calls (grants-same i) || nat_le LAST_NUMBER (alike.last_stamp i)

  deepest-same : (t : ℕ) → is_deepest s' t ≡ is_deepest s t
  deepest-same t = λ i. nat_le (alike.limits i).depth (depth_within (same_of (parent posix_calls) (parent-cut limits) i) t t)

  next_stamp-same : next_stamp s' ≡ next_stamp s
  next_stamp-same = ap (λ k. k + 1) alike.last_stamp

  pub tree-same : tree_of s' ≡ tree_of s
  tree-same =
      same_of (λ h. tree_after s'.base.tree (standing posix_calls h)) (λ h. ap (tree_after s'.base.tree) (standing-cut limits h) ∙ tree-cut limits s'.base.tree (ap (λ (b : Base). b.tree.limits) alike.base) (standing posix_calls h))
      ∙ ap (λ b. tree_after b.tree (standing posix_calls (history s))) alike.base

  count-same : (t : ℕ) → count_standing s' t ≡ count_standing s t
  count-same t = same_of (λ h. calls_below posix_calls h t) (λ h. calls_below-cut limits h t)

  target-alike : (t : ℕ) → cut_target limits (undo_target posix_calls (history s') t) ≡ cut_target limits (undo_target posix_calls (history s) t)
  target-alike t = sym (find_back-cut limits (history s') t (history s')) ∙ ap (λ h. undo_target posix_calls h t) cut_alike ∙ find_back-cut limits (history s) t (history s)

  -- ---- a call

  -- what is left of a call on the one tree is left of it on the other
  cuts-same : (call call' : Call) → cut_of limits call' ≡ cut_of limits call → cut_of (tree_of s').limits call' ≡ cut_of (tree_of s).limits call
  cuts-same call call' e =
      ap (λ l. cut_of l call') (limits-after s'.base.tree (standing posix_calls (history s')) ∙ ap (λ (b : Base). b.tree.limits) alike.base) ∙ e
      ∙ ap (λ l. cut_of l call) (sym (limits-after s.base.tree (standing posix_calls (history s))))

  pub accesses-same : (call call' : Call) → cut_of limits call' ≡ cut_of limits call → accesses_now s' call' ≡ accesses_now s call
  accesses-same call call' e =
      sym (accesses-cut (tree_of s') (next_stamp s') call') ∙ (λ i. accesses_in (tree-same i) (next_stamp-same i) (cuts-same call call' e i)) ∙ accesses-cut (tree_of s) (next_stamp s) call

  pub reply-same : (call call' : Call) → cut_of limits call' ≡ cut_of limits call → reply_of s' call' ≡ reply_of s call
  reply-same call call' e =
      ap (λ r. r.1) (sym (exec-cut (tree_of s') (next_stamp s') call') ∙ (λ i. exec (tree-same i) (next_stamp-same i) (cuts-same call call' e i)) ∙ exec-cut (tree_of s) (next_stamp s) call)

  pub blockers-same : (t : ℕ) (accesses accesses' : List Access) → accesses' ≡ accesses → exact_rule s' t accesses' ≡ exact_rule s t accesses
  blockers-same t accesses accesses' e =
      (λ i. blockers_by (alike.rule i) (history s') t (map as_place (e i))) ∙ same_of (λ h. blockers_by s.rule h t (map as_place accesses)) (λ h. blockers-cut limits s.rule h t (map as_place accesses))

  pub lock-same : (l : LockLine) → is_lock (history s') l ≡ is_lock (history s) l
  lock-same l = same_of (λ h. is_lock h l) (λ h. λ i. cond (is_held l.kind) (holds-cut limits h l.owner (is_of l) i) (retains-cut limits h l.owner (is_of l) i))

  -- ---- refusals

  refusal-asked : (t : ℕ) (call call' : Call) → refusal_of s' (Ask t call') ≡ refusal_of s (Ask t call)
  refusal-asked t call call' = λ i. fault_of_fate (fate-same t i) (fault_if (most_calls-same i) Full None)

  ask-same : (t : ℕ) (later : Option Fault) → fault_of_ask (finite.get s'.asks t) later ≡ fault_of_ask (finite.get s.asks t) later
  ask-same t later = sym (fault_of_ask-left limits (finite.get s'.asks t) later) ∙ ap (λ o. fault_of_ask o later) (alike.asks t) ∙ fault_of_ask-left limits (finite.get s.asks t) later

  fault-same : (t : ℕ) → fault_of_target (undo_target posix_calls (history s') t) ≡ fault_of_target (undo_target posix_calls (history s) t)
  fault-same t =
      sym (fault_of_target-left limits (undo_target posix_calls (history s') t)) ∙ ap fault_of_target (target-alike t) ∙ fault_of_target-left limits (undo_target posix_calls (history s) t)

  refusal-same : (r : Request) → refusal_of s' r ≡ refusal_of s r
  refusal-same Begin = λ i. fault_if (most_transactions-same i) Full None
  refusal-same (Sub t) = λ i. fault_of_fate (fate-same t i) (fault_if (deepest-same t i) Deep (fault_if (most_transactions-same i) Full None))
  refusal-same (Ask t call) = refusal-asked t call call
  refusal-same (Retry t) =
      ap (λ o. fault_of_fate (fate_of s' t) o) (ask-same t (fault_if (has_most_calls s') Full None)) ∙ (λ i. fault_of_fate (fate-same t i) (fault_of_ask (finite.get s.asks t) (fault_if (most_calls-same i) Full None)))
  refusal-same (Drop t) = λ i. fault_of_fate (fate-same t i) (ask-same t None i)
  refusal-same (Commit t) = λ i. fault_of_fate (fate-same t i) (fault_if (has_live_child-same t i) ChildLive None)
  refusal-same (Abort t) = λ i. fault_of_fate (fate-same t i) None
  refusal-same (Undo t) = λ i. fault_of_fate (fate-same t i) (fault_if (has_live_child-same t i) ChildLive (fault-same t i))
  refusal-same Checkpoint = λ i. fault_if (has_live-same i) LiveFault None

  -- ---- what is left

  more : (e e' : Event) → cut_event limits e' ≡ cut_event limits e → map (cut_event limits) (s'.events ++ e' ∷ []) ≡ map (cut_event limits) (s.events ++ e ∷ [])
  more e e' same = map-append (cut_event limits) s'.events (e' ∷ []) ∙ (λ i. alike.events i ++ same i ∷ []) ∙ sym (map-append (cut_event limits) s.events (e ∷ []))

  begin-alike : (up : Option ℕ) → AreAlike (after_begin s up) (after_begin s' up)
  begin-alike up = record {
    rule = alike.rule;
    limits = alike.limits;
    base = alike.base;
    events = more (event.Begin (next_txn s) up) (event.Begin (next_txn s') up) (λ i. event.Begin (alike.last_txn i + 1) up);
    asks = alike.asks;
    last_txn = λ i. alike.last_txn i + 1;
    last_stamp = alike.last_stamp;
  }

  pub grant-alike : (t : ℕ) (call call' : Call) → cut_of limits call' ≡ cut_of limits call → AreAlike (after_grant s t call) (after_grant s' t call')
  grant-alike t call call' e = record {
    rule = alike.rule;
    limits = alike.limits;
    base = alike.base;
    events = more (event.Call (next_stamp s) t call (reply_of s call) (accesses_now s call)) (event.Call (next_stamp s') t call' (reply_of s' call') (accesses_now s' call'))
        (λ i. event.Call (next_stamp-same i) t (e i) (reply-same call call' e i) (accesses-same call call' e i));
    asks = removed-alike limits s.asks s'.asks t alike.asks;
    last_txn = alike.last_txn;
    last_stamp = next_stamp-same;
  }

  pub wait-alike : (t : ℕ) (call call' : Call) → cut_of limits call' ≡ cut_of limits call → AreAlike (after_wait s t call) (after_wait s' t call')
  wait-alike t call call' e = record { rule = alike.rule; limits = alike.limits; base = alike.base; events = alike.events; asks = inserted-alike limits s.asks s'.asks t call call' e alike.asks; last_txn = alike.last_txn; last_stamp = alike.last_stamp }

  drop-alike : (t : ℕ) → AreAlike (after_drop s t) (after_drop s' t)
  drop-alike t = record { rule = alike.rule; limits = alike.limits; base = alike.base; events = alike.events; asks = removed-alike limits s.asks s'.asks t alike.asks; last_txn = alike.last_txn; last_stamp = alike.last_stamp }

  undo-alike : (k : ℕ) → AreAlike (after_undo s k) (after_undo s' k)
  undo-alike k = record { rule = alike.rule; limits = alike.limits; base = alike.base; events = more (event.Undo k) (event.Undo k) refl; asks = alike.asks; last_txn = alike.last_txn; last_stamp = alike.last_stamp }

  commit-alike : (t : ℕ) → AreAlike (after_commit s t) (after_commit s' t)
  commit-alike t = record {
    rule = alike.rule;
    limits = alike.limits;
    base = alike.base;
    events = more (event.Commit t) (event.Commit t) refl;
    asks = removed-alike limits s.asks s'.asks t alike.asks;
    last_txn = alike.last_txn;
    last_stamp = alike.last_stamp;
  }

  abort-alike : (t : ℕ) → AreAlike (after_abort s t) (after_abort s' t)
  abort-alike t = record {
    rule = alike.rule;
    limits = alike.limits;
    base = alike.base;
    events = more (event.Abort t) (event.Abort t) refl;
    asks = retained-alike limits s.asks s'.asks (λ u. not (over posix_calls (history s) t u)) (λ u. not (over posix_calls (history s') t u)) (λ u. ap not (over-same t u)) alike.asks;
    last_txn = alike.last_txn;
    last_stamp = alike.last_stamp;
  }

  checkpoint-alike : AreAlike (after_checkpoint s) (after_checkpoint s')
  checkpoint-alike = record {
    rule = alike.rule;
    limits = alike.limits;
    base = λ i. record { tree = tree-same i; last_txn = alike.last_txn i; last_stamp = alike.last_stamp i };
    events = refl;
    asks = λ t. refl;
    last_txn = alike.last_txn;
    last_stamp = alike.last_stamp;
  }

  -- ---- answers

  -- a state after the request with this answer, alike
  record HasAlike (r : Request) (a : Answer) (after : State) : Type 0 where
    pub after' : State
    pub answered : IsAnswered exact_rule s' r a after'
    pub is_alike : AreAlike after after'

  record HasAskedAlike (t : ℕ) (call : Call) (a : Answer) (after : State) : Type 0 where
    pub after' : State
    pub asked : IsAsked exact_rule s' t call a after'
    pub is_alike : AreAlike after after'

  -- alike to what is the state after
  alike_from : (mine after after' : State) → after ≡ mine → AreAlike mine after' → AreAlike after after'
  alike_from mine after after' is has = subst (λ (x : State). AreAlike x after') (sym is) has

  asked-alike : (t : ℕ) (call call' : Call) → cut_of limits call' ≡ cut_of limits call → (a : Answer) (after : State) → IsAsked exact_rule s t call a after → HasAskedAlike t call' a after
  asked-alike t call call' e (Granted k reply) after has = record {
    after' = after_grant s' t call';
    asked = (blockers-same t (accesses_now s call) (accesses_now s' call') (accesses-same call call' e) ∙ has.0, has.1 ∙ sym next_stamp-same, has.2 ∙ sym (reply-same call call' e), refl);
    is_alike = alike_from (after_grant s t call) after (after_grant s' t call') has.3 (grant-alike t call call' e);
  }
  asked-alike t call call' e (Waits blockers) after has = record {
    after' = after_wait s' t call';
    asked = (has.0, has.1 ∙ sym (blockers-same t (accesses_now s call) (accesses_now s' call') (accesses-same call call' e)), refl);
    is_alike = alike_from (after_wait s t call) after (after_wait s' t call') has.2 (wait-alike t call call' e);
  }
  asked-alike t call call' e other after has = absurd has

  retried-alike : (t : ℕ) (call : Call) (a : Answer) (after : State) → finite.get s.asks t ≡ Some call → IsAsked exact_rule s t call a after → HasAlike (Retry t) a after
  retried-alike t call a after is has =
      let other = alike_ask limits (finite.get s'.asks t) call (alike.asks t ∙ ap (left limits) is) in
      let asked = asked-alike t call other.other other.alike a after has in
      record { after' = asked.after'; answered = retried s' t other.other a asked.after' other.is asked.asked; is_alike = asked.is_alike }

  undone-alike : (target : Target posix_calls) (k : ℕ) (after : State) → IsUndone s target k after → IsUndone s' target k (after_undo s' k) × (after ≡ after_undo s k)
  undone-alike (Found c) k after has = ((has.0, refl), has.1)
  undone-alike SubSinceTarget k after has = absurd has
  undone-alike Nothing k after has = absurd has

  undo-answered : (t k : ℕ) (after : State) → IsUndone s (undo_target posix_calls (history s) t) k after → HasAlike (Undo t) (Undone k) after
  undo-answered t k after has =
      let mine : IsUndone s (cut_target limits (undo_target posix_calls (history s') t)) k after =
      subst (λ (x : Target posix_calls). IsUndone s x k after) (sym (target-alike t)) (to_left limits s (undo_target posix_calls (history s) t) k after has) in
      let both = undone-alike (undo_target posix_calls (history s') t) k after (from_left limits s (undo_target posix_calls (history s') t) k after mine) in
      record { after' = after_undo s' k; answered = both.0; is_alike = alike_from (after_undo s k) after (after_undo s' k) both.1 (undo-alike k) }

  -- nothing has changed
  refused-alike : (r : Request) (fault : Fault) (after : State) → (fault ≡ Memory) × MayWantMemory r × (after ≡ s) → ((fault ≡ Memory) × MayWantMemory r × (s' ≡ s') → IsAnswered exact_rule s' r (Refused fault) s') → HasAlike r (Refused fault) after
  refused-alike r fault after has into = record { after' = s'; answered = into (has.0, has.1, refl); is_alike = alike_from s after s' has.2 alike }

  answer-alike : (r : Request) (a : Answer) (after : State) → IsAnswered exact_rule s r a after → HasAlike r a after
  answer-alike Begin (Refused fault) after has = refused-alike Begin fault after has (λ x. x)
  answer-alike Begin (Txn t) after has = record { after' = after_begin s' None; answered = (has.0 ∙ sym (ap (λ n. n + 1) alike.last_txn), refl); is_alike = alike_from (after_begin s None) after (after_begin s' None) has.1 (begin-alike None) }
  answer-alike Begin other after has = absurd has
  answer-alike (Sub p) (Refused fault) after has = refused-alike (Sub p) fault after has (λ x. x)
  answer-alike (Sub p) (Txn t) after has =
      record { after' = after_begin s' (Some p); answered = (has.0 ∙ sym (ap (λ n. n + 1) alike.last_txn), refl); is_alike = alike_from (after_begin s (Some p)) after (after_begin s' (Some p)) has.1 (begin-alike (Some p)) }
  answer-alike (Sub p) other after has = absurd has
  answer-alike (Ask t call) (Refused fault) after has = refused-alike (Ask t call) fault after has (λ x. x)
  answer-alike (Ask t call) (Granted k reply) after has = let a = asked-alike t call call refl (Granted k reply) after has in record { after' = a.after'; answered = a.asked; is_alike = a.is_alike }
  answer-alike (Ask t call) (Waits blockers) after has = let a = asked-alike t call call refl (Waits blockers) after has in record { after' = a.after'; answered = a.asked; is_alike = a.is_alike }
  answer-alike (Ask t call) other after has = absurd has
  answer-alike (Retry t) (Refused fault) after has = refused-alike (Retry t) fault after has (λ x. x)
  answer-alike (Retry t) (Granted k reply) after has = retried-alike t has.0 (Granted k reply) after has.1 has.2
  answer-alike (Retry t) (Waits blockers) after has = retried-alike t has.0 (Waits blockers) after has.1 has.2
  answer-alike (Retry t) other after has = absurd has.2
  answer-alike (Drop t) (Refused fault) after has = absurd has.1
  answer-alike (Drop t) Dropped after has = record { after' = after_drop s' t; answered = refl; is_alike = alike_from (after_drop s t) after (after_drop s' t) has (drop-alike t) }
  answer-alike (Drop t) other after has = absurd has
  answer-alike (Commit t) (Refused fault) after has = absurd has.1
  answer-alike (Commit t) Committed after has = record { after' = after_commit s' t; answered = refl; is_alike = alike_from (after_commit s t) after (after_commit s' t) has (commit-alike t) }
  answer-alike (Commit t) other after has = absurd has
  answer-alike (Abort t) (Refused fault) after has = absurd has.1
  answer-alike (Abort t) (Aborted n) after has = record { after' = after_abort s' t; answered = (has.0 ∙ sym (count-same t), refl); is_alike = alike_from (after_abort s t) after (after_abort s' t) has.1 (abort-alike t) }
  answer-alike (Abort t) other after has = absurd has
  answer-alike (Undo t) (Refused fault) after has = absurd has.1
  answer-alike (Undo t) (Undone k) after has = undo-answered t k after has
  answer-alike (Undo t) other after has = absurd has
  answer-alike Checkpoint (Refused fault) after has = refused-alike Checkpoint fault after has (λ x. x)
  answer-alike Checkpoint Cleared after has = record { after' = after_checkpoint s'; answered = refl; is_alike = alike_from (after_checkpoint s) after (after_checkpoint s') has checkpoint-alike }
  answer-alike Checkpoint other after has = absurd has

  -- a step by what refuses the request, or nothing
  record Steps (o : Option Fault) (r : Request) (a : Answer) (after : State) : Type 0 where
    pub after' : State
    pub step : MatchOption o (IsAnswered exact_rule s' r a after') (λ fault. (a ≡ Refused fault) × (after' ≡ s'))
    pub is_alike : AreAlike after after'

  steps : (o : Option Fault) (r r' : Request) (a : Answer) (after : State) → (IsAnswered exact_rule s r a after → HasAlike r' a after)
      → MatchOption o (IsAnswered exact_rule s r a after) (λ fault. (a ≡ Refused fault) × (after ≡ s)) → Steps o r' a after
  steps None r r' a after answers has = let x = answers has in record { after' = x.after'; step = x.answered; is_alike = x.is_alike }
  steps (Some fault) r r' a after answers has = record { after' = s'; step = (has.0, refl); is_alike = alike_from s after s' has.1 alike }

  stepped : (r r' : Request) → refusal_of s' r' ≡ refusal_of s r → ((a : Answer) (after : State) → IsAnswered exact_rule s r a after → HasAlike r' a after) → AnswerAlike s r s' r'
  stepped r r' same answers a after has =
      let x = subst (λ (o : Option Fault). Steps o r' a after) (sym same) (steps (refusal_of s r) r r' a after (answers a after) has) in (x.after', x.step, x.is_alike)

  pub requests : (r : Request) → AnswerAlike s r s' r
  requests r = stepped r r (refusal-same r) (answer-alike r)

  call-answered : (t : ℕ) (call call' : Call) → cut_of limits call' ≡ cut_of limits call → (a : Answer) (after : State) → IsAnswered exact_rule s (Ask t call) a after → HasAlike (Ask t call') a after
  call-answered t call call' e (Refused fault) after has = refused-alike (Ask t call') fault after has (λ x. x)
  call-answered t call call' e (Granted k reply) after has = let a = asked-alike t call call' e (Granted k reply) after has in record { after' = a.after'; answered = a.asked; is_alike = a.is_alike }
  call-answered t call call' e (Waits blockers) after has = let a = asked-alike t call call' e (Waits blockers) after has in record { after' = a.after'; answered = a.asked; is_alike = a.is_alike }
  call-answered t call call' e other after has = absurd has

  pub calls : (t : ℕ) (call call' : Call) → cut_of limits call' ≡ cut_of limits call → AnswerAlike s (Ask t call) s' (Ask t call')
  calls t call call' e = stepped (Ask t call) (Ask t call') (refusal-asked t call call') (call-answered t call call' e)
