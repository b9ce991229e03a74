-- A walk goes over one event more, and gives one call more out.
use Rattle.std.proofs.Common.{◌≡◌, ◌≢◌, ◌<◌, ◌≤◌, ◌+◌, ℕ, Bool, true, false, not, cond, is_some, ◌&&◌, ◌||◌, ◌==◌, Option, Some, None, List, [], ◌∷◌, ◌++◌, map, length, reverse, inl, inr, refl, sym, ap, subst, ◌∙◌, arith, eqb-true, eq-eqb, ne_eqb, append-nil, append_assoc}
use Rattle.std.specs.Prelude.{nat_le}
use Rattle.std.specs.Cmp.{nat_cmp_total, unsigned_tied}
use Rattle.std.specs.FinMap as finite
use Rattle.std.proofs.lemmas.Bool.{false≢true, leb-true, leb-false, or_left, or_right, or_cases, or_parts}
use Rattle.std.proofs.lemmas.List.{map-append, reverse-append, reverse-reverse}
use Rattle.ft_laws.specs.Lists.{Each, Pairs, In}
use Rattle.ft_laws.proofs.Lists.{Each-at, Each-both, Each-front, Each-back, Pairs-before, In-cases}
use Rattle.ft_laws.proofs.Tests.{by_test, by_number}
use Rattle.ft_posix.specs.declared.call.Call.{Call as CallOf}
use Rattle.ft_posix.specs.declared.call.Reply.{Reply}
use Rattle.ft_posix.specs.declared.call.Access.{Access}
use Rattle.ft_posix.specs.declared.stamped.StampedCall.{StampedCall}
use Rattle.ft_posix.specs.Posix.{posix_calls}
use Rattle.ft_history.specs.Forest.{root}
use Rattle.ft_history.specs.Logs.{passing, joined}
use Rattle.ft_history.specs.History.{Base as HistoryBase, last_transaction, parent, over, is_committed, is_gone, is_undone, is_standing, grants}
use Rattle.ft_history.specs.Legal.{Legal}
use Rattle.ft_history.specs.Serial.{root_of, committed_part, newly_committed, calls_under}
use Rattle.ft_history.proofs.Words.{Each-reverse, Pairs-front, Pairs-reverse}
use Rattle.ft_history.proofs.Forest.{forest_laws}
use Rattle.ft_history.proofs.Living.{lived}
use Rattle.ft_history.proofs.Fates.{numbered}
use Rattle.ft_history.proofs.History.{Sound, begin_gone}
use Rattle.ft_history.proofs.Legal.{sound_all}
use Rattle.ft_history.proofs.Serial.{root_is_top}
use Rattle.ft_history.proofs.Growing.{committed_steps}
use Rattle.ft_core.specs.declared.request.Event.{Event}
use Rattle.ft_core.specs.declared.request.Event.TheVariants.{Begin, Call, Undo, Commit, Abort}
use Rattle.ft_core.specs.Histories.{History, Granted, granted, as_happening, told, told_after}
use Rattle.ft_core.proofs.Known.{lawful_calls}
use Rattle.ft_core.proofs.Told.{told-push, told_after-append}
use Rattle.ft_serial.specs.declared.walk.Walk.{Walk}
use Rattle.ft_serial.specs.Serials.{stamped}
use Rattle.ft_serial.specs.declared.asked.Asked.{Asked}
use Rattle.ft_serial.specs.Asked.{Lists, listed, asked, calls_in, granted_under}
use Rattle.ft_serial.specs.Walks.{Stamps, without_calls, stands, standing_call, IsOpen, HasCommitted, IsWalkBy, IsWalk}
use Rattle.ft_serial.proofs.Listing.{one-call}
use Rattle.ft_serial.proofs.Listed.{passing-agree, listed-push, each-listed, rising-listed, standing-listed}
use Rattle.ft_serial.proofs.Lasting.{legal-before, stays, gone-later}

length-push : (events : List Event) (e : Event) → length (events ++ e ∷ []) ≡ length events + 1
length-push [] e = refl
length-push (d ∷ events) e = let ih = length-push events e in omega arith

-- the table without one transaction
removed : (m : Lists) (t top : ℕ) → top ≢ t → calls_in (finite.remove m t) top ≡ calls_in m top
removed m t top ne = ap listed (finite.get-remove nat_cmp_total m t top ∙ ap (λ b. cond b None (finite.get m top)) (unsigned_tied top t ∙ ne_eqb top t ne))

none-pass : (p : Granted → Bool) (calls : List Granted) → ((c : Granted) → p c ≡ false) → passing p calls ≡ []
none-pass p [] none = refl
none-pass p (c ∷ calls) none = ap (λ b. cond b (c ∷ passing p calls) (passing p calls)) (none c) ∙ none-pass p calls none

-- Stamps that are known.
without-stamp : (m : Stamps) (j k : ℕ) → finite.contains_key (finite.remove m j) k ≡ is_some (cond (k == j) None (finite.get m k))
without-stamp m j k = ap is_some (finite.get-remove nat_cmp_total m j k ∙ ap (λ b. cond b None (finite.get m k)) (unsigned_tied k j))

kept-one : (m : Stamps) (j k : ℕ) → k ≢ j → finite.contains_key (finite.remove m j) k ≡ finite.contains_key m k
kept-one m j k other = without-stamp m j k ∙ ap (λ b. is_some (cond b None (finite.get m k))) (ne_eqb k j other)

less-one : (m : Stamps) (j k : ℕ) → finite.contains_key (finite.remove m j) k ≡ true → finite.contains_key m k ≡ true
less-one m j k there = out (k == j) (finite.get m k) (sym (without-stamp m j k) ∙ there)
  where
    out : (b : Bool) (o : Option (Unit {0})) → is_some (cond b None o) ≡ true → is_some o ≡ true
    out true o is = absurd (false≢true is)
    out false o is = is

kept-all : (m : Stamps) (calls : List Asked) (k : ℕ) → Each (λ a. k ≢ a.call.stamp) calls → finite.contains_key (without_calls m calls) k ≡ finite.contains_key m k
kept-all m [] k others = refl
kept-all m (a ∷ calls) k others = kept-all (finite.remove m a.call.stamp) calls k others.1 ∙ kept-one m a.call.stamp k others.0

less-all : (m : Stamps) (calls : List Asked) (k : ℕ) → finite.contains_key (without_calls m calls) k ≡ true → finite.contains_key m k ≡ true
less-all m [] k there = there
less-all m (a ∷ calls) k there = less-one m a.call.stamp k (less-all (finite.remove m a.call.stamp) calls k there)

module _ (base : HistoryBase posix_calls) (base_sound : posix_calls.IsSound base.store) where
  -- what is open after an event was open before it
  open-before : (h : History) (e : Event) → Legal posix_calls base (as_happening e ∷ h) → (top : ℕ) → IsOpen (as_happening e ∷ h) top → IsOpen h top
  open-before h (Begin n up) legal top o = record {
    uncommitted = o.uncommitted;
    there = by_test (nat_le top (last_transaction posix_calls base.transaction h))
        (λ k. sym (begin_gone posix_calls lawful_calls base h (sound_all posix_calls lawful_calls base base_sound h legal.1) n up legal.0 top (leb-true top (last_transaction posix_calls base.transaction h) k)) ∙ o.there)
        (λ k. ((numbered posix_calls lawful_calls base base_sound h legal.1).later top (leb-false top (last_transaction posix_calls base.transaction h) k)).2);
  }
  open-before h (Call k t call reply accesses) legal top o = record { uncommitted = o.uncommitted; there = o.there }
  open-before h (Undo k) legal top o = record { uncommitted = o.uncommitted; there = o.there }
  open-before h (Commit t) legal top o = record { uncommitted = (or_parts (top == t) (is_committed posix_calls h top) o.uncommitted).1; there = o.there }
  open-before h (Abort t) legal top o = record { uncommitted = o.uncommitted; there = (or_parts (over posix_calls h t top) (is_gone posix_calls h top) o.there).1 }

module _ (base : HistoryBase posix_calls) (base_sound : posix_calls.IsSound base.store) (events : List Event) (given : List StampedCall) (forgotten : ℕ) (w w' : Walk) (was : IsWalk forgotten w events given) (none : w.closing.items ≡ []) (passed : w'.passed ≡ w.passed + 1) where
  abbrev h : History
  h = told events

  module _ (e : Event) (legal : Legal posix_calls base (as_happening e ∷ h)) where
    abbrev after : History
    after = as_happening e ∷ h

    moved-on : forgotten + w'.passed ≡ length (events ++ e ∷ [])
    moved-on = omega (arith, passed, was.passed, length-push events e)

    sound : Sound posix_calls lawful_calls base h
    sound = sound_all posix_calls lawful_calls base base_sound h legal.1

    same-root : (c : Granted) → In c (grants posix_calls h) → root_of posix_calls after c ≡ root_of posix_calls h c
    same-root c i = (stays base base_sound h e legal c.asker (Each-at (λ d. d.asker ≤ last_transaction posix_calls base.transaction h) (grants posix_calls h) c sound.askers i)).top

    known-before : (c : Granted) → In c (grants posix_calls h) → IsOpen after (root_of posix_calls after c) → finite.contains_key w.undone c.call.stamp ≡ is_undone posix_calls h c.call.stamp
    known-before c i o = was.known c i (open-before base base_sound h e legal (root_of posix_calls h c) (subst (IsOpen after) (same-root c i) o))

    closed-none : w'.closing.items ≡ [] → Each (HasCommitted w'.undone after) w'.closing.items
    closed-none empty = subst (Each (HasCommitted w'.undone after)) (sym empty) tt

    falls-none : w'.closing.items ≡ [] → Pairs (λ x y. y.call.stamp < x.call.stamp) w'.closing.items
    falls-none empty = subst (Pairs (λ x y. y.call.stamp < x.call.stamp)) (sym empty) tt

    -- an event that adds no committed call
    split-same : newly_committed posix_calls h (as_happening e) ≡ [] → w'.closing.items ≡ [] → map stamped (committed_part posix_calls after) ≡ given ++ joined (standing_call after) (reverse w'.closing.items)
    split-same nothing empty =
        ap (map stamped) (committed_steps posix_calls lawful_calls base base_sound h (as_happening e) legal ∙ ap (λ cs. committed_part posix_calls h ++ cs) nothing ∙ append-nil (committed_part posix_calls h))
        ∙ was.split ∙ ap (λ xs. given ++ joined (standing_call h) (reverse xs)) none ∙ sym (ap (λ xs. given ++ joined (standing_call after) (reverse xs)) empty)

    walks : IsWalkBy forgotten w' after (events ++ e ∷ []) given → IsWalk forgotten w' (events ++ e ∷ []) given
    walks by = subst (λ g. IsWalkBy forgotten w' g (events ++ e ∷ []) given) (sym (told-push events e)) by

  same-knows : w'.undone ≡ w.undone → (k : ℕ) → finite.contains_key w'.undone k ≡ finite.contains_key w.undone k
  same-knows undone k = ap (λ (m : Stamps). finite.contains_key m k) undone

  -- a begin
  pub walk-begun : (n : ℕ) (up : Option ℕ) → Legal posix_calls base (as_happening (Begin n up) ∷ h) → w'.undone ≡ w.undone → w'.under ≡ w.under → w'.closing.items ≡ [] → IsWalk forgotten w' (events ++ Begin n up ∷ []) given
  walk-begun n up legal undone under empty =
      let e : Event = Begin n up in
      let so = sound e legal in
      let next = legal.0.next in
      walks e legal (record {
        passed = moved-on e legal;
        undone = λ k there. was.undone k (sym (same-knows undone k) ∙ there);
        known = λ c i o. same-knows undone c.call.stamp ∙ known-before e legal c i o;
        under = λ top o.
            ap (λ (m : Lists). calls_in m top) under ∙ was.under top (open-before base base_sound h e legal top o)
            ∙ ap (map asked) (passing-agree (λ c. root_of posix_calls h c == top) (λ c. root_of posix_calls (after e legal) c == top) (grants posix_calls h) (λ c i. ap (λ r. r == top) (sym (same-root e legal c i))));
        closing = closed-none e legal empty;
        falling = falls-none e legal empty;
        split = split-same e legal refl empty;
      })

  -- a granted call
  pub walk-granted : (k t : ℕ) (call : CallOf) (reply : Reply) (accesses : List Access) → Legal posix_calls base (as_happening (Call k t call reply accesses) ∷ h) → w'.undone ≡ w.undone
      → ((top : ℕ) → calls_in w'.under top ≡ cond (top == root (parent posix_calls h) t) (calls_in w.under top ++ asked (granted k t call reply accesses) ∷ []) (calls_in w.under top)) → w'.closing.items ≡ [] → IsWalk forgotten w' (events ++ Call k t call reply accesses ∷ []) given
  walk-granted k t call reply accesses legal undone under empty =
      let e : Event = Call k t call reply accesses in
      let new : Granted = granted k t call reply accesses in
      let unknown : finite.contains_key w.undone k ≡ is_undone posix_calls h k = by_test (finite.contains_key w.undone k) (λ m. m ∙ sym (was.undone k m)) (λ m. m ∙ sym ((sound e legal).undone_old k legal.0.next)) in
      walks e legal (record {
        passed = moved-on e legal;
        undone = λ j there. was.undone j (sym (same-knows undone j) ∙ there);
        known = λ c i o. same-knows undone c.call.stamp ∙ elim (In-cases c (grants posix_calls h) (new ∷ []) i) [
          | inl j ↦ known-before e legal c j o
          | inr j ↦ subst (λ (d : Granted). finite.contains_key w.undone d.call.stamp ≡ is_undone posix_calls h d.call.stamp) (sym (elim j [ inl is ↦ is | inr nothing ↦ absurd nothing ])) unknown
        ];
        under = λ top o.
            let test : Granted → Bool = λ c. root_of posix_calls h c == top in
            let old = was.under top (open-before base base_sound h e legal top o) in
            under top ∙ by_number top (root (parent posix_calls h) t)
            (λ is.
            ap (λ b. cond b (calls_in w.under top ++ asked new ∷ []) (calls_in w.under top)) (eq-eqb top (root (parent posix_calls h) t) is)
            ∙ ap (λ xs. xs ++ asked new ∷ []) old
            ∙ ap (λ b. granted_under h top ++ cond b (asked new ∷ []) []) (sym (eq-eqb (root (parent posix_calls h) t) top (sym is))))
            (λ ne.
            ap (λ b. cond b (calls_in w.under top ++ asked new ∷ []) (calls_in w.under top)) (ne_eqb top (root (parent posix_calls h) t) ne)
            ∙ old ∙ sym (append-nil (granted_under h top))
            ∙ ap (λ b. granted_under h top ++ cond b (asked new ∷ []) []) (sym (ne_eqb (root (parent posix_calls h) t) top (λ is. ne (sym is)))))
            ∙ sym (listed-push test (grants posix_calls h) new);
        closing = closed-none e legal empty;
        falling = falls-none e legal empty;
        split = split-same e legal refl empty;
      })

  -- an undo
  pub walk-undone : (k : ℕ) → Legal posix_calls base (as_happening (Undo k) ∷ h) → w'.undone ≡ finite.insert w.undone k tt → w'.under ≡ w.under → w'.closing.items ≡ [] → IsWalk forgotten w' (events ++ Undo k ∷ []) given
  walk-undone k legal undone under empty =
      let e : Event = Undo k in
      walks e legal (record {
        passed = moved-on e legal;
        undone = λ j there. elim (or_cases (j == k) (finite.contains_key w.undone j) (sym (one-more j) ∙ there)) [
          | inl m ↦ or_left (j == k) (is_undone posix_calls h j) m
          | inr m ↦ or_right (j == k) (is_undone posix_calls h j) (was.undone j m)
        ];
        known = λ c i o. one-more c.call.stamp ∙ ap (λ b. (c.call.stamp == k) || b) (known-before e legal c i o);
        under = λ top o. ap (λ (m : Lists). calls_in m top) under ∙ was.under top (open-before base base_sound h e legal top o);
        closing = closed-none e legal empty;
        falling = falls-none e legal empty;
        split = split-same e legal refl empty;
      })
    where
      out : (b : Bool) (o : Option (Unit {0})) → is_some (cond b (Some tt) o) ≡ (b || is_some o)
      out true o = refl
      out false o = refl

      one-more : (j : ℕ) → finite.contains_key w'.undone j ≡ ((j == k) || finite.contains_key w.undone j)
      one-more j =
          ap (λ (m : Stamps). finite.contains_key m j) undone
          ∙ ap is_some (finite.get-insert nat_cmp_total w.undone k tt j ∙ ap (λ b. cond b (Some tt) (finite.get w.undone j)) (unsigned_tied j k)) ∙ out (j == k) (finite.get w.undone j)

  -- an abort
  pub walk-aborted : (t : ℕ) → Legal posix_calls base (as_happening (Abort t) ∷ h) → w'.undone ≡ without_calls w.undone (calls_in w.under t) → w'.under ≡ finite.remove w.under t → w'.closing.items ≡ []
      → IsWalk forgotten w' (events ++ Abort t ∷ []) given
  walk-aborted t legal undone under empty =
      let e : Event = Abort t in
      let so = sound e legal in
      let l = lived posix_calls base.transaction h t legal.0 in
      let calls : calls_in w.under t ≡ granted_under h t = was.under t (record { uncommitted = l.uncommitted; there = l.there }) in
      let fall : (top : ℕ) → IsOpen (after e legal) top → top ≢ t = λ top o is.
      false≢true (sym (or_parts (over posix_calls h t top) (is_gone posix_calls h top) o.there).0 ∙ ap (over posix_calls h t) is ∙ (forest_laws (parent posix_calls h) so.forest).itself t) in
      let others : (c : Granted) → In c (grants posix_calls h) → IsOpen (after e legal) (root_of posix_calls h c) → Each (λ a. c.call.stamp ≢ a.call.stamp) (calls_in w.under t) = λ c i o.
      subst (Each (λ a. c.call.stamp ≢ a.call.stamp)) (sym calls)
      (each-listed (λ a. c.call.stamp ≢ a.call.stamp) (λ d. root_of posix_calls h d == t) (grants posix_calls h) (λ d j below same.
      fall (root_of posix_calls h c) o (ap (root_of posix_calls h) (one-call (grants posix_calls h) so.rising c d i j same) ∙ eqb-true (root_of posix_calls h d) t below))) in
      walks e legal (record {
        passed = moved-on e legal;
        undone = λ j there. was.undone j (less-all w.undone (calls_in w.under t) j (sym (ap (λ (m : Stamps). finite.contains_key m j) undone) ∙ there));
        known = λ c i o. ap (λ (m : Stamps). finite.contains_key m c.call.stamp) undone ∙ kept-all w.undone (calls_in w.under t) c.call.stamp (others c i o) ∙ known-before e legal c i o;
        under = λ top o.
            ap (λ (m : Lists). calls_in m top) under ∙ removed w.under t top (fall top o) ∙ was.under top (open-before base base_sound h e legal top o);
        closing = closed-none e legal empty;
        falling = falls-none e legal empty;
        split = split-same e legal refl empty;
      })

  -- a commit
  pub walk-committed : (t : ℕ) → Legal posix_calls base (as_happening (Commit t) ∷ h) → w'.undone ≡ w.undone → w'.under ≡ finite.remove w.under t → w'.closing.items ≡ reverse (calls_in w.under t) → IsWalk forgotten w' (events ++ Commit t ∷ []) given
  walk-committed t legal undone under closed =
      let so = sound (Commit t) legal in
      let l = lived posix_calls base.transaction h t legal.0.live in
      let still : IsOpen h t = record { uncommitted = l.uncommitted; there = l.there } in
      let test : Granted → Bool = λ c. root_of posix_calls h c == t in
      let calls : calls_in w.under t ≡ granted_under h t = was.under t still in
      let due : joined (standing_call (as_happening (Commit t) ∷ h)) (reverse w'.closing.items) ≡ map stamped (calls_under posix_calls h t) =
      ap (λ xs. joined (standing_call (as_happening (Commit t) ∷ h)) (reverse xs)) closed ∙ ap (joined (standing_call (as_happening (Commit t) ∷ h))) (reverse-reverse (calls_in w.under t) ∙ calls)
      ∙ standing-listed (as_happening (Commit t) ∷ h) test (grants posix_calls h) in
      let new : newly_committed posix_calls h (as_happening (Commit t)) ≡ calls_under posix_calls h t = by_test (is_some (parent posix_calls h t))
      (λ k.
      ap (λ b. cond b [] (calls_under posix_calls h t)) k
      ∙ sym (none-pass test (passing (is_standing posix_calls h) (grants posix_calls h)) (λ c. ne_eqb (root (parent posix_calls h) c.asker) t (λ e.
      false≢true (sym (ap is_some (ap (parent posix_calls h) (sym e) ∙ root_is_top (parent posix_calls h) so.forest c.asker)) ∙ k)))))
      (λ k. ap (λ b. cond b [] (calls_under posix_calls h t)) k) in
      walks (Commit t) legal (record {
        passed = moved-on (Commit t) legal;
        undone = λ j there. was.undone j (sym (same-knows undone j) ∙ there);
        known = λ c i o. same-knows undone c.call.stamp ∙ known-before (Commit t) legal c i o;
        under = λ top o.
            let tests = or_parts (top == t) (is_committed posix_calls h top) o.uncommitted in
            let other : top ≢ t = λ e. false≢true (sym tests.0 ∙ eq-eqb top t e) in
            ap (λ (m : Lists). calls_in m top) under ∙ removed w.under t top other ∙ was.under top (record { uncommitted = tests.1; there = o.there });
        closing = subst (Each (HasCommitted w'.undone (as_happening (Commit t) ∷ h))) (sym (closed ∙ ap reverse calls)) (Each-reverse (HasCommitted w'.undone (as_happening (Commit t) ∷ h)) (granted_under h t)
            (each-listed (HasCommitted w'.undone (as_happening (Commit t) ∷ h)) test (grants posix_calls h)
            (λ c i below. record {
              granted = (c, i, refl);
              committed = or_left (root_of posix_calls h c == t) (is_committed posix_calls h (root_of posix_calls h c)) below;
              known = same-knows undone c.call.stamp ∙ was.known c i (subst (IsOpen h) (sym (eqb-true (root_of posix_calls h c) t below)) still);
            })));
        falling = subst (Pairs (λ x y. y.call.stamp < x.call.stamp)) (sym (closed ∙ ap reverse calls)) (Pairs-reverse (λ x y. x.call.stamp < y.call.stamp) (granted_under h t) (rising-listed test (grants posix_calls h) so.rising));
        split =
            ap (map stamped) (committed_steps posix_calls lawful_calls base base_sound h (as_happening (Commit t)) legal ∙ ap (λ cs. committed_part posix_calls h ++ cs) new)
            ∙ map-append stamped (committed_part posix_calls h) (calls_under posix_calls h t)
            ∙ ap (λ xs. xs ++ map stamped (calls_under posix_calls h t)) (was.split ∙ ap (λ xs. given ++ joined (standing_call h) (reverse xs)) none ∙ append-nil given)
            ∙ ap (λ xs. given ++ xs) (sym due);
      })

-- One call more is given out.
module _ (base : HistoryBase posix_calls) (base_sound : posix_calls.IsSound base.store) (events more : List Event) (legal : Legal posix_calls base (told (events ++ more))) where
  first_part : Legal posix_calls base (told_after (told events) more)
  first_part = subst (Legal posix_calls base) (told_after-append [] events more) legal

  past : Sound posix_calls lawful_calls base (told events)
  past = sound_all posix_calls lawful_calls base base_sound (told events) (legal-before base (told events) more first_part)

  pub walk-taken : (forgotten : ℕ) (w w' : Walk) (given : List StampedCall) (front : List Asked) (a : Asked) (does : Bool) → IsWalk forgotten w events given → w.closing.items ≡ front ++ a ∷ [] → w'.passed ≡ w.passed
      → w'.undone ≡ finite.remove w.undone a.call.stamp → w'.under ≡ w.under → w'.closing.items ≡ front
      → does ≡ stands (finite.contains_key w.undone) (told (events ++ more)) a.call.stamp a.txn → IsWalk forgotten w' events (given ++ cond does (a.call ∷ []) [])
  walk-taken forgotten w w' given front a does was ends passed undone under left is =
      let h = told events in
      let closing = subst (Each (HasCommitted w.undone h)) ends was.closing in
      let falling = subst (Pairs (λ x y. y.call.stamp < x.call.stamp)) ends was.falling in
      let own : HasCommitted w.undone h a = (Each-back (HasCommitted w.undone h) front (a ∷ []) closing).0 in
      let one = own.granted.0 in
      let among : In one (grants posix_calls h) = own.granted.1 in
      let same : a ≡ asked one = own.granted.2 in
      let knows : (k : ℕ) → finite.contains_key w'.undone k ≡ finite.contains_key (finite.remove w.undone a.call.stamp) k = λ k. ap (λ (m : Stamps). finite.contains_key m k) undone in
      let asker = ap (λ (x : Asked). x.txn) same in
      let begun : a.txn ≤ last_transaction posix_calls base.transaction h = subst (λ t. t ≤ last_transaction posix_calls base.transaction h) (sym asker) (Each-at (λ d. d.asker ≤ last_transaction posix_calls base.transaction h) (grants posix_calls h) one past.askers among) in
      let here : cond does (a.call ∷ []) [] ≡ standing_call h a =
      ap (λ b. cond b (a.call ∷ []) [])
      (is ∙ ap (λ b. not b && not (is_gone posix_calls (told (events ++ more)) a.txn)) own.known
      ∙ ap (λ b. not (is_undone posix_calls h a.call.stamp) && not b) (ap (λ (g : History). is_gone posix_calls g a.txn) (told_after-append [] events more) ∙ gone-later base base_sound h more first_part a.txn begun own.committed)) in
      record {
        passed = ap (λ n. forgotten + n) passed ∙ was.passed;
        undone = λ k there. was.undone k (less-one w.undone a.call.stamp k (sym (knows k) ∙ there));
        known = λ c i o.
            knows c.call.stamp
            ∙ kept-one w.undone a.call.stamp c.call.stamp (λ stamps.
            let both : c ≡ one = one-call (grants posix_calls h) past.rising c one i among (stamps ∙ ap (λ (x : Asked). x.call.stamp) same) in
            false≢true (sym o.uncommitted ∙ ap (λ t. is_committed posix_calls h (root (parent posix_calls h) t)) (ap (λ (x : Granted). x.asker) both ∙ sym asker) ∙ own.committed))
            ∙ was.known c i o;
        under = λ top o. ap (λ (m : Lists). calls_in m top) under ∙ was.under top o;
        closing = subst (Each (HasCommitted w'.undone h)) (sym left)
            (Each-both (HasCommitted w.undone h) (λ x. a.call.stamp < x.call.stamp) (HasCommitted w'.undone h)
            (λ x has lt. record {
              granted = has.granted;
              committed = has.committed;
              known = knows x.call.stamp ∙ kept-one w.undone a.call.stamp x.call.stamp (λ stamps. omega (arith, stamps, lt)) ∙ has.known;
            })
            front (Each-front (HasCommitted w.undone h) front (a ∷ []) closing) (Pairs-before (λ x y. y.call.stamp < x.call.stamp) front a [] falling));
        falling = subst (Pairs (λ x y. y.call.stamp < x.call.stamp)) (sym left) (Pairs-front (λ x y. y.call.stamp < x.call.stamp) front (a ∷ []) falling);
        split =
            was.split ∙ ap (λ xs. given ++ joined (standing_call h) (reverse xs)) ends
            ∙ ap (λ xs. given ++ joined (standing_call h) xs) (reverse-append front (a ∷ []))
            ∙ ap (λ xs. given ++ (xs ++ joined (standing_call h) (reverse front))) (sym here)
            ∙ sym (append_assoc given (cond does (a.call ∷ []) []) (joined (standing_call h) (reverse front)))
            ∙ ap (λ xs. (given ++ cond does (a.call ∷ []) []) ++ joined (standing_call h) (reverse xs)) (sym left);
      }
