-- Asking for a call.
use Rattle.std.proofs.Common.{◌≡◌, ◌<◌, ◌≤◌, ◌+◌, ◌-◌, ◌||◌, ℕ, Bool, false, List, [], Option, Some, None, nat_le, cond, ◌==◌, eqb-true, length, map, arith, refl, sym, ap, subst, ◌∙◌}
use Rattle.std.specs.FinMap as finite
use Rattle.std.specs.Cmp.{nat_cmp_total, unsigned_tied}
use Rattle.std.proofs.lemmas.Bool.{or_parts, leb-false}
use Rattle.std.proofs.lemmas.Option.{same_Some}
use Rattle.ft_laws.proofs.Tests.{by_test}
use Rattle.ft_posix.specs.declared.call.Call.{Call}
use Rattle.ft_posix.specs.declared.call.Reply.{Reply}
use Rattle.ft_posix.specs.declared.call.Access.{Access}
use Rattle.ft_tree.specs.Sound.{IsFree}
use Rattle.ft_posix.specs.Accesses.{accesses_of}
use Rattle.ft_posix.specs.Stored.{outcome}
use Rattle.ft_posix.specs.Posix.{as_place, posix_calls}
use Rattle.ft_forest.specs.declared.TheConstants.{LAST_NUMBER}
use Rattle.ft_forest.specs.Transactions.{Transactions}
use Rattle.ft_lock_rules.specs.Locks.{AreBlockers}
use Rattle.ft_history.specs.History.{grants}
use Rattle.ft_history.specs.History.Fate.{Live}
use Rattle.ft_core.specs.declared.request.Answer.TheVariants.{Granted}
use Rattle.ft_core.specs.declared.request.Event.TheVariants.{Call as CallEvent}
use Rattle.ft_core.specs.States.{State, history, fate_of, next_stamp, reply_of, accesses_now, has_most_calls, after_call, after_grant, after_wait}
use Rattle.ft_core.specs.Journals.{Journaled, asked_for, is_full, with_ask, with_call, state_of}
use Rattle.ft_core.specs.Kept.{IsCoreAt, IsCoreOf}
use Rattle.ft_core.specs.Laws.{CallLaws, LockLaws}
use Rattle.ft_core.specs.Makes.{IsMadeOn, IsUnmade}
use Rattle.ft_core.specs.Tries.{IsMade}
use Rattle.ft_core.specs.declared.parts.Parts.{Parts}
use Rattle.ft_core.specs.declared.parts.Made.{Made}
use Rattle.ft_core.specs.Reports.{blockers_now}
use Rattle.ft_core.specs.Steps.{IsAsked, exact_rule}
use Rattle.ft_core.proofs.Cores.{dropped, core-asks, awaited}
use Rattle.ft_core.proofs.Begins.{core-opened}
use Rattle.ft_core.proofs.Grants.{core-granted}
use Rattle.ft_core.proofs.Joining.{start, values, free, accesses-are, reply-is}
use Rattle.ft_core.proofs.Told.{told-push}

-- below the limits there is a stamp more
pub next-fits : (full : Bool) (last : ℕ) → (full || nat_le LAST_NUMBER last) ≡ false → last + 1 ≤ LAST_NUMBER
next-fits full last few =
    let below : last < LAST_NUMBER = leb-false LAST_NUMBER last (or_parts full (nat_le LAST_NUMBER last) few).1 in
    omega arith

pub one-more : (j : Journaled) → is_full j ≡ false → j.last_stamp + 1 ≤ LAST_NUMBER
one-more j few = next-fits (nat_le j.calls (j.last_stamp - j.base_stamp)) j.last_stamp few

module _ (W : CallLaws) (K : LockLaws) (p : Parts) (j : Journaled) (core : IsCoreOf (state_of p.forest j) p j) where
  abbrev s : State
  s = state_of p.forest j

  -- as many calls as there may be
  pub full-same : is_full j ≡ has_most_calls s
  full-same =
      let stamped = core.kept.started.stamped in
      let count : j.last_stamp - j.base_stamp ≡ length (grants posix_calls (history s)) = omega arith in
      (λ i. nat_le j.calls (count i) || nat_le LAST_NUMBER j.last_stamp)

  -- the stamp of the next call numbers nothing yet
  pub next-free : (k : ℕ) → k ≡ next_stamp s → IsFree p.tree k
  next-free k next = free W core.kept k (omega arith)

  pub touched-now : (call : Call) → accesses_of p.tree (next_stamp s) call ≡ accesses_now s call
  touched-now call = accesses-are W core.kept (next_stamp s) call

  -- who is in the way by the table is so by the rule
  pub blocked : (t : ℕ) (call : Call) (accesses : List Access) (ys : List ℕ) → accesses ≡ accesses_of p.tree (next_stamp s) call → AreBlockers s.rule p.locks p.forest t accesses ys → ys ≡ blockers_now s t call
  blocked t call accesses ys touched are =
      K.block (start W core.kept) (values W core.kept) (history s) p.locks core.locks core.kept.core.legal p.forest core.transactions.parents s.rule t accesses ys are
      ∙ ap (exact_rule s t) (touched ∙ touched-now call)

  -- nothing has changed but places
  pub core-unmade : (p' : Parts) (j' : Journaled) → IsUnmade p p' → j' ≡ j → IsCoreOf (state_of p'.forest j') p' j'
  core-unmade p' j' un is =
      let same : IsCoreOf s (record p { logs = p'.logs }) j =
      core-opened W K core p.locks p'.logs j (record { journal = refl; subs = λ t ne. refl; locks = refl; opened = λ t e. e; listed = un.listed; open_still = λ t e. un.open_still t ∙ e }) in
      let whole : p' ≡ record p { logs = p'.logs } = λ i. record { tree = un.cells i; forest = un.forest i; locks = un.locks i; logs = p'.logs } in
      subst (λ (r : Journaled). IsCoreOf (state_of p'.forest r) p' r) (sym is) (subst (λ (r : Parts). IsCoreOf (state_of r.forest j) r j) (sym whole) same)

  pub record IsGranted (t : ℕ) (call : Call) (reply : Reply) (p' : Parts) (j' : Journaled) : Type 0 where
    pub asked : IsAsked exact_rule s t call (Granted (next_stamp s) reply) (state_of p'.forest j')
    pub kept : IsCoreOf (state_of p'.forest j') p' j'

  -- a call is granted and made
  pub core-called : (t : ℕ) (call : Call) (reply : Reply) (accesses : List Access) → fate_of s t ≡ Some Live → is_full j ≡ false → accesses ≡ accesses_of p.tree (next_stamp s) call → reply ≡ (outcome p.tree (next_stamp s) call).reply → AreBlockers s.rule p.locks p.forest t accesses []
      → (p' : Parts) → IsMadeOn p p' (outcome p.tree (next_stamp s) call).writes t (next_stamp s) accesses → (j' : Journaled) → j' ≡ with_call j t call reply accesses → IsGranted t call reply p' j'
  core-called t call reply accesses live few touched answered are p' made j' is =
      let none : exact_rule s t (accesses_now s call) ≡ [] = sym (blocked t call accesses [] touched are) in
      let told : reply ≡ reply_of s call = answered ∙ reply-is W core.kept (next_stamp s) call (omega arith) in
      let seen : accesses ≡ accesses_now s call = touched ∙ touched-now call in
      let state : state_of p'.forest j' ≡ after_grant s t call = (λ i. state_of (made.forest i) (is i)) ∙ (λ i. after_call s t call (told i) (seen i)) in
      let q : Journaled = with_call j t call reply accesses in
      let at = core-granted W K core t call reply accesses (next_stamp s) refl (one-more j few) live touched answered
      (K.foreign (start W core.kept) (values W core.kept) (history s) core.kept.core.legal s.rule t (map as_place accesses) (ap (exact_rule s t) seen ∙ none)) p' made (finite.remove s.asks t)
      (dropped core t) are q refl refl refl in
      let whole : IsCoreOf (state_of p.forest q) (record p' { forest = p.forest }) q =
      subst (λ h. IsCoreAt s.base h (finite.remove s.asks t) s.last_txn (next_stamp s) p'.tree p.forest p'.locks p'.logs q) (sym (told-push s.events (CallEvent (next_stamp s) t call reply accesses))) at in
      record {
        asked = (none, refl, told, state);
        kept = subst (λ (r : Journaled). IsCoreOf (state_of p'.forest r) p' r) (sym is) (subst (λ (f : Transactions). IsCoreOf (state_of f q) (record p' { forest = f }) q) (sym made.forest) whole);
      }

  -- a call that was tried and made is granted
  pub core-made : (t : ℕ) (call : Call) → fate_of s t ≡ Some Live → is_full j ≡ false → (stamp : ℕ) → stamp ≡ next_stamp s → (p' : Parts) (made : Made) → IsMade s.rule p p' t stamp call made
      → (j' : Journaled) → j' ≡ with_call j t call made.reply (accesses_of p.tree stamp call) → IsGranted t call made.reply p' j'
  core-made t call live few stamp next p' made is j' told =
      core-called t call made.reply (accesses_of p.tree stamp call) live few (ap (λ n. accesses_of p.tree n call) next) (is.reply ∙ ap (λ n. (outcome p.tree n call).reply) next) is.free p'
      (subst (λ n. IsMadeOn p p' (outcome p.tree n call).writes t n (accesses_of p.tree stamp call)) next is.made_on)
      j' told

  asked-now : (now : State) → s ≡ now → (t : ℕ) (call : Call) (stamp : ℕ) → stamp ≡ next_stamp s → (reply : Reply) (p' : Parts) (j' : Journaled) → IsGranted t call reply p' j'
      → IsAsked exact_rule now t call (Granted stamp reply) (state_of p'.forest j')
  asked-now now is t call stamp next reply p' j' g =
      subst (λ a. IsAsked exact_rule now t call a (state_of p'.forest j')) (λ x. Granted (sym (next ∙ ap next_stamp is) x) reply)
      (subst (λ q. IsAsked exact_rule q t call (Granted (next_stamp q) reply) (state_of p'.forest j')) is g.asked)

  -- whom a call waits for
  pub waits-for : (now : State) → s ≡ now → (t : ℕ) (call : Call) (stamp : ℕ) → stamp ≡ next_stamp s → (found : List ℕ) → AreBlockers s.rule p.locks p.forest t (accesses_of p.tree stamp call) found → found ≡ blockers_now now t call
  waits-for now is t call stamp next found are =
      blocked t call (accesses_of p.tree stamp call) found (ap (λ n. accesses_of p.tree n call) next) are ∙ ap (λ q. blockers_now q t call) is

  -- a call that was tried and made
  pub tried-made : (now : State) → s ≡ now → (t : ℕ) (call : Call) → fate_of now t ≡ Some Live → is_full j ≡ false → (stamp : ℕ) → stamp ≡ next_stamp s → (p' : Parts) (made : Made) → IsMade s.rule p p' t stamp call made
      → (j' : Journaled) → j' ≡ with_call j t call made.reply (accesses_of p.tree stamp call) → IsCoreOf (state_of p'.forest j') p' j' × IsAsked exact_rule now t call (Granted stamp made.reply) (state_of p'.forest j')
  tried-made now is t call live few stamp next p' made as_made j' told =
      let g = core-made t call (ap (λ (q : State). fate_of q t) is ∙ live) few stamp next p' made as_made j' told in
      (g.kept, asked-now now is t call stamp next made.reply p' j' g)

  -- a transaction waits for a call, or waits on
  pub core-waits : (t : ℕ) (asked : Option Call) → fate_of s t ≡ Some Live → (j' : Journaled) → j' ≡ with_ask j t asked → IsCoreOf (state_of p.forest j') p j'
  core-waits t None live j' is = subst (λ (q : Journaled). IsCoreOf (state_of p.forest q) p q) (sym is) core
  core-waits t (Some call) live j' is =
      subst (λ (q : Journaled). IsCoreOf (state_of p.forest q) p q) (sym is)
      (core-asks core (finite.insert j.asks t call) (awaited core t call live) (record j { asks = finite.insert j.asks t call }) refl refl refl)

-- to wait for the call that one waits for changes nothing
pub waits-again : (s : State) (t : ℕ) (call : Call) → finite.get s.asks t ≡ Some call → after_wait s t call ≡ s
waits-again s t call is =
    let same : finite.insert s.asks t call ≡ s.asks = finite.same_map nat_cmp_total finite.nat_cmp-IsAntisymmetric (finite.insert s.asks t call) s.asks
    (λ q. finite.get-insert nat_cmp_total s.asks t call q ∙ by_test (q == t)
    (λ k. (λ i. cond ((unsigned_tied q t ∙ k) i) (Some call) (finite.get s.asks q)) ∙ sym is ∙ ap (finite.get s.asks) (sym (eqb-true q t k)))
    (λ k. (λ i. cond ((unsigned_tied q t ∙ k) i) (Some call) (finite.get s.asks q)))) in
    λ i. record s { asks = same i }

pub waits-on : (forest : Transactions) (j : Journaled) (t : ℕ) (asked : Option Call) (call : Call) → asked_for asked (finite.get j.asks t) ≡ Some call → state_of forest (with_ask j t asked) ≡ after_wait (state_of forest j) t call
waits-on forest j t None call is = sym (waits-again (state_of forest j) t call is)
waits-on forest j t (Some asked) call is = ap (λ c. after_wait (state_of forest j) t c) (same_Some asked call is)
