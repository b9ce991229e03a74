-- The calls whose top-level transaction has not committed.
use Rattle.std.proofs.Common.{◌≡◌, ◌<◌, ◌≤◌, ◌+◌, ℕ, zero, suc, Bool, true, false, not, cond, ◌&&◌, ◌==◌, Option, Some, List, [], ◌∷◌, ◌++◌, map, length, take, inl, inr, refl, sym, ap, subst, ◌∙◌, arith, eqb-true, eq-eqb}
use Rattle.std.proofs.lemmas.Bool.{false≢true, leb-true, leb-false, or_left, or_right, or_cases}
use Rattle.std.proofs.lemmas.List.{map-append}
use Rattle.std.specs.Prelude.{nat_le, slice_get}
use Rattle.std.specs.FinMap as finite
use Rattle.ft_laws.specs.Lists.{In, any}
use Rattle.ft_laws.proofs.Tests.{by_test}
use Rattle.ft_posix.specs.declared.call.Call.{Call as CallOf}
use Rattle.ft_posix.specs.declared.call.Reply.{Reply}
use Rattle.ft_posix.specs.declared.call.Access.{Access}
use Rattle.ft_posix.specs.declared.stamped.StampedCall.{StampedCall}
use Rattle.ft_posix.specs.Posix.{posix_calls}
use Rattle.ft_history.specs.Forest.{IsForest, above, root}
use Rattle.ft_history.specs.Logs.{passing}
use Rattle.ft_history.specs.History.{Base as HistoryBase, last_transaction, parent, is_committed, is_undone, is_gone, is_standing, standing}
use Rattle.ft_history.specs.Legal.{Legal}
use Rattle.ft_history.specs.Serial.{root_of, committed_roots, open_part}
use Rattle.ft_history.proofs.Words.{same_test}
use Rattle.ft_history.proofs.Fates.{numbered}
use Rattle.ft_history.proofs.Forest.{climb, forest_laws}
use Rattle.ft_history.proofs.History.{gone_above}
use Rattle.ft_history.proofs.Legal.{sound_all}
use Rattle.ft_history.proofs.Serial.{root_top, root_child, root_is_top, roots_committed, committed_listed}
use Rattle.ft_core.specs.declared.request.Event.{Event}
use Rattle.ft_core.specs.declared.request.Event.TheVariants.{Begin, Call, Undo, Commit, Abort}
use Rattle.ft_core.specs.Histories.{History, Granted, granted, told}
use Rattle.ft_core.proofs.Known.{lawful_calls}
use Rattle.ft_serial.specs.declared.walk.Walk.{Walk}
use Rattle.ft_serial.specs.Serials.{stamped}
use Rattle.ft_serial.specs.Walks.{call_of, is_open_call, option_list, IsWalk}
use Rattle.ft_serial.proofs.Listing.{granted_in, grants-are, granted-at, take-next}

-- the calls among these events that stand in the history, and whose top-level transaction has not
-- committed there
abbrev pub open_in : History → List Event → List Granted
open_in h events = passing (λ c. not (is_committed posix_calls h (root_of posix_calls h c))) (passing (is_standing posix_calls h) (granted_in events))

passing-append : (p : Granted → Bool) (xs ys : List Granted) → passing p (xs ++ ys) ≡ passing p xs ++ passing p ys
passing-append p [] ys = refl
passing-append p (x ∷ xs) ys = ap (λ zs. cond (p x) (x ∷ zs) zs) (passing-append p xs ys) ∙ out (p x) (passing p xs) (passing p ys)
  where
    out : (b : Bool) (us vs : List Granted) → cond b (x ∷ (us ++ vs)) (us ++ vs) ≡ cond b (x ∷ us) us ++ vs
    out true us vs = refl
    out false us vs = refl

granted-append : (events more : List Event) → granted_in (events ++ more) ≡ granted_in events ++ granted_in more
granted-append [] more = refl
granted-append (Begin t p ∷ events) more = granted-append events more
granted-append (Call k t call reply accesses ∷ events) more = ap (λ cs. granted k t call reply accesses ∷ cs) (granted-append events more)
granted-append (Undo k ∷ events) more = granted-append events more
granted-append (Commit t ∷ events) more = granted-append events more
granted-append (Abort t ∷ events) more = granted-append events more

open-append : (h : History) (events more : List Event) → open_in h (events ++ more) ≡ open_in h events ++ open_in h more
open-append h events more =
    let last : Granted → Bool = λ c. not (is_committed posix_calls h (root_of posix_calls h c)) in
    ap (λ cs. passing last (passing (is_standing posix_calls h) cs)) (granted-append events more)
    ∙ ap (passing last) (passing-append (is_standing posix_calls h) (granted_in events) (granted_in more))
    ∙ passing-append last (passing (is_standing posix_calls h) (granted_in events)) (passing (is_standing posix_calls h) (granted_in more))

-- one event more
abbrev pub opened : (ℕ → Bool) → History → Event → List StampedCall
opened undone h e = cond (is_open_call undone h (Some e)) (option_list (call_of (Some e))) []

-- it is known which open calls of an event are undone
abbrev pub Knows : (ℕ → Bool) → History → Option Event → Type 0
Knows undone h o = (k t : ℕ) (call : CallOf) (reply : Reply) (accesses : List Access) → o ≡ Some (Call k t call reply accesses) → is_gone posix_calls h t ≡ false → is_committed posix_calls h (root (parent posix_calls h) t) ≡ false → undone k ≡ is_undone posix_calls h k

open-one : (undone : ℕ → Bool) (h : History) (e : Event) → Knows undone h (Some e) → map stamped (open_in h (e ∷ [])) ≡ opened undone h e
open-one undone h (Begin t p) known = refl
open-one undone h (Call k t call reply accesses) known =
    out (is_standing posix_calls h (granted k t call reply accesses)) (is_committed posix_calls h (root (parent posix_calls h) t)) (granted k t call reply accesses) refl
    ∙ sym (ap (λ b. cond b (record { stamp = k; call = call } ∷ []) [])
    (tests (undone k) (is_undone posix_calls h k) (is_gone posix_calls h t) (is_committed posix_calls h (root (parent posix_calls h) t)) (known k t call reply accesses refl)))
  where
    tests : (u v g d : Bool) → (g ≡ false → d ≡ false → u ≡ v) → ((not u && not g) && not d) ≡ ((not v && not g) && not d)
    tests u v true d same = ap (λ b. b && not d) (none (not u) ∙ sym (none (not v)))
      where
        none : (b : Bool) → (b && false) ≡ false
        none true = refl
        none false = refl
    tests u v false true same = none (not u && true) ∙ sym (none (not v && true))
      where
        none : (b : Bool) → (b && false) ≡ false
        none true = refl
        none false = refl
    tests u v false false same = ap (λ b. (not b && true) && true) (same refl refl)

    out : (s b : Bool) (c : Granted) → is_committed posix_calls h (root_of posix_calls h c) ≡ b → map stamped (passing (λ x. not (is_committed posix_calls h (root_of posix_calls h x))) (cond s (c ∷ []) [])) ≡ cond (s && not b) (stamped c ∷ []) []
    out true b c is = ap (λ x. map stamped (cond (not x) (c ∷ []) [])) is ∙ two b
      where
        two : (d : Bool) → map stamped (cond (not d) (c ∷ []) []) ≡ cond (not d) (stamped c ∷ []) []
        two true = refl
        two false = refl
    out false b c is = refl
open-one undone h (Undo k) known = refl
open-one undone h (Commit t) known = refl
open-one undone h (Abort t) known = refl

pub open-next : (undone : ℕ → Bool) (h : History) (events : List Event) (e : Event) → Knows undone h (Some e) → map stamped (open_in h (events ++ e ∷ [])) ≡ map stamped (open_in h events) ++ opened undone h e
open-next undone h events e known =
    ap (map stamped) (open-append h events (e ∷ [])) ∙ map-append stamped (open_in h events) (open_in h (e ∷ [])) ∙ ap (λ xs. map stamped (open_in h events) ++ xs) (open-one undone h e known)

there : (events : List Event) (i : ℕ) → i < length events → (e : Event) × (slice_get events i ≡ Some e)
there [] i lt = absurd (omega arith)
there (e ∷ events) zero lt = (e, refl)
there (e ∷ events) (suc i) lt = there events i (omega arith)

pub open-at : (undone : ℕ → Bool) (h : History) (events : List Event) (place : ℕ) (b : Bool) → Knows undone h (slice_get events place) → place < length events → b ≡ is_open_call undone h (slice_get events place)
    → map stamped (open_in h (take (place + 1) events)) ≡ map stamped (open_in h (take place events)) ++ cond b (option_list (call_of (slice_get events place))) []
open-at undone h events place b known lt is =
    let one = there events place lt in
    let next : place + 1 ≡ suc place = omega arith in
    ap (λ n. map stamped (open_in h (take n events))) next ∙ ap (λ es. map stamped (open_in h es)) (take-next events place one.0 one.1)
    ∙ open-next undone h (take place events) one.0 (subst (Knows undone h) one.1 known)
    ∙ ap (λ (o : Option Event). map stamped (open_in h (take place events)) ++ cond (is_open_call undone h o) (option_list (call_of o)) []) (sym one.1)
    ∙ ap (λ (d : Bool). map stamped (open_in h (take place events)) ++ cond d (option_list (call_of (slice_get events place))) []) (sym is)

-- the top-level transaction is at or above
root_over : (up : ℕ → Option ℕ) → IsForest up → (x : ℕ) → above up (root up x) x ≡ true
root_over up forest = climb up forest (λ x. above up (root up x) x ≡ true)
    (λ x e. ap (λ r. above up r x) (root_top up forest x e) ∙ (forest_laws up forest).itself x)
    (λ x p e ih. ap (λ r. above up r x) (root_child up forest x p e) ∙ (forest_laws up forest).along (root up p) p x ih ((forest_laws up forest).over_parent x p x e ((forest_laws up forest).itself x)))

-- All of them are the open part.
any-in : (x : ℕ) (rs : List ℕ) → any (λ r. x == r) rs ≡ true → In x rs
any-in x [] k = absurd (false≢true k)
any-in x (r ∷ rs) k = elim (or_cases (x == r) (any (λ y. x == y) rs) k) [ inl e ↦ inl (eqb-true x r e) | inr m ↦ inr (any-in x rs m) ]

in-any : (x : ℕ) (rs : List ℕ) → In x rs → any (λ r. x == r) rs ≡ true
in-any x [] i = absurd i
in-any x (r ∷ rs) (inl e) = or_left (x == r) (any (λ y. x == y) rs) (eq-eqb x r e)
in-any x (r ∷ rs) (inr i) = or_right (x == r) (any (λ y. x == y) rs) (in-any x rs i)

module _ (base : HistoryBase posix_calls) (base_sound : posix_calls.IsSound base.store) (events : List Event) (legal : Legal posix_calls base (told events)) where
  abbrev h : History
  h = told events

  tests : (c : Granted) → not (is_committed posix_calls h (root_of posix_calls h c)) ≡ not (any (λ r. root_of posix_calls h c == r) (committed_roots posix_calls h))
  tests c =
      let forest = (sound_all posix_calls lawful_calls base base_sound h legal).forest in
      let r = root_of posix_calls h c in
      ap not (same_test (is_committed posix_calls h r) (any (λ x. r == x) (committed_roots posix_calls h))
      (λ k. in-any r (committed_roots posix_calls h) (committed_listed posix_calls lawful_calls base base_sound h legal r (begun r k) (root_is_top (parent posix_calls h) forest c.asker) k))
      (λ k. roots_committed posix_calls h r (any-in r (committed_roots posix_calls h) k)))
    where
      begun : (r : ℕ) → is_committed posix_calls h r ≡ true → r ≤ last_transaction posix_calls base.transaction h
      begun r k = by_test (nat_le r (last_transaction posix_calls base.transaction h))
          (λ m. leb-true r (last_transaction posix_calls base.transaction h) m)
          (λ m. absurd (false≢true (sym ((numbered posix_calls lawful_calls base base_sound h legal).later r (leb-false r (last_transaction posix_calls base.transaction h) m)).1 ∙ k)))

  -- a walk over all events knows it
  pub walk-knows : (w : Walk) (given : List StampedCall) → IsWalk 0 w events given → (place : ℕ) → Knows (finite.contains_key w.undone) h (slice_get events place)
  walk-knows w given walk place k t call reply accesses there left open_top =
      let forest = (sound_all posix_calls lawful_calls base base_sound h legal).forest in
      let r = root (parent posix_calls h) t in
      walk.known (granted k t call reply accesses) (subst (In (granted k t call reply accesses)) (sym (grants-are events)) (granted-at events place k t call reply accesses there))
      (record {
        uncommitted = open_top;
        there = by_test (is_gone posix_calls h r)
            (λ m. absurd (false≢true (sym left ∙ gone_above posix_calls lawful_calls base h (sound_all posix_calls lawful_calls base base_sound h legal) h r t (root_over (parent posix_calls h) forest t) m)))
            (λ m. m);
      })

  pub open-are : open_in h events ≡ open_part posix_calls h
  open-are =
      ap (λ (cs : List Granted). passing (λ c. not (is_committed posix_calls h (root_of posix_calls h c))) (passing (is_standing posix_calls h) cs)) (sym (grants-are events))
      ∙ ap (λ (p : Granted → Bool). passing p (standing posix_calls h)) (λ i c. tests c i)
