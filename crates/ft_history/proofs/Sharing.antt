-- Owners of conflicting locks are above one another.
use Rattle.std.proofs.Common.{◌≡◌, ◌≢◌, ◌≤◌, ℕ, Bool, true, ◌||◌, Option, Some, List, [], ◌∷◌, inl, inr, sym, ap, ◌∙◌, subst}
use Rattle.std.proofs.lemmas.Bool.{false≢true, or_cases, or_left, or_right}
use Rattle.ft_laws.specs.Lists.{In}
use Rattle.ft_laws.specs.Calls.{Calls, Done}
use Rattle.ft_laws.specs.Laws.{Lawful}
use Rattle.ft_laws.proofs.Lists.{Each-at, In-cases}
use Rattle.ft_laws.proofs.Tests.{by_test}
use Rattle.ft_history.specs.History.{Base, Event, last_transaction, parent, over, live_children, IsLive, owner_of, grants}
use Rattle.ft_history.specs.History.Event.{Begin, Call, Undo, Commit, Abort}
use Rattle.ft_history.specs.Legal.{Legal}
use Rattle.ft_history.specs.Sharing.{OwnConflicting, Sharing}
use Rattle.ft_history.proofs.Words.{same_some, by_number, moved, moved_from}
use Rattle.ft_history.proofs.Forest.{ForestLaws, none_below}
use Rattle.ft_history.proofs.Owning.{owns_one}
use Rattle.ft_history.proofs.History.{Sound, laws, begin_over, begin_owner, call_owner, unblocked_over, commit_owner, abort_owner, owner_live, owner_is_live, childless}
use Rattle.ft_history.proofs.Legal.{sound_all}
use Rattle.ft_history.proofs.Locks.{ended_from}

either_way : (a b : Bool) → (a || b) ≡ true → (b || a) ≡ true
either_way a b k = elim (or_cases a b k) [ inl m ↦ or_right b a m | inr m ↦ or_left b a m ]

module _ (C : Calls) (L : Lawful C) where
  pub conflict_back : (f g : C.Accesses) → C.conflict f g ≡ true → C.conflict g f ≡ true
  conflict_back f g k = by_test (C.conflict g f) (λ m. m) (λ m. absurd (false≢true (sym (L.conflict_sym g f m) ∙ k)))

  module _ (base : Base C) (base_sound : C.IsSound base.store) where
    -- x and y own granted calls that conflict
    pub record Sharers (h : List (Event C)) (x y : ℕ) : Type 0 where
      pub one : Done C
      pub other : Done C
      pub one_granted : In one (grants C h)
      pub other_granted : In other (grants C h)
      pub one_owner : owner_of C h one.asker ≡ Some x
      pub other_owner : owner_of C h other.asker ≡ Some y
      pub conflict : C.conflict one.accesses other.accesses ≡ true

    abbrev AreRelated : List (Event C) → Type 0
    AreRelated h = (x y : ℕ) → Sharers h x y → (over C h x y || over C h y x) ≡ true

    begun_related : (h : List (Event C)) → Sound C L base h → AreRelated h → (n : ℕ) (p : Option ℕ) → Legal C base (Begin n p ∷ h) → AreRelated (Begin n p ∷ h)
    begun_related h sound was n p legal x y s =
        let known : (c : Done C) → In c (grants C h) → c.asker ≤ last_transaction C base.transaction h = λ c i. Each-at (λ d. d.asker ≤ last_transaction C base.transaction h) (grants C h) c sound.askers i in
        let one_was : owner_of C h s.one.asker ≡ Some x = sym (begin_owner C L base h sound n p legal.0 s.one.asker (known s.one s.one_granted)) ∙ s.one_owner in
        let other_was : owner_of C h s.other.asker ≡ Some y = sym (begin_owner C L base h sound n p legal.0 s.other.asker (known s.other s.other_granted)) ∙ s.other_owner in
        let x_known = (owner_live C L base h sound s.one.asker x (known s.one s.one_granted) one_was).3 in
        let y_known = (owner_live C L base h sound s.other.asker y (known s.other s.other_granted) other_was).3 in
        (λ i. begin_over C L base h sound n p legal.0 x y y_known i || begin_over C L base h sound n p legal.0 y x x_known i)
        ∙ was x y (record { one = s.one; other = s.other; one_granted = s.one_granted; other_granted = s.other_granted; one_owner = one_was; other_owner = other_was; conflict = s.conflict })

    called_related : (h : List (Event C)) → Sound C L base h → AreRelated h → (c : Done C) → Legal C base (Call c ∷ h) → AreRelated (Call c ∷ h)
    called_related h sound was c legal x y s =
        elim (In-cases s.one (grants C h) (c ∷ []) s.one_granted) [
          | inl i ↦ elim (In-cases s.other (grants C h) (c ∷ []) s.other_granted) [
            | inl j ↦ was x y (record { one = s.one; other = s.other; one_granted = i; other_granted = j; one_owner = s.one_owner; other_owner = s.other_owner; conflict = s.conflict })
            | inr j ↦ or_left (over C h x y) (over C h y x)
                (subst (λ z. over C h x z ≡ true) (sym (mine s.other j y s.other_owner))
                (unblocked_over C L base h sound c legal.0 s.one i x s.one_owner (subst (λ d. C.conflict s.one.accesses d.accesses ≡ true) (is_new s.other j) s.conflict)))
          ]
          | inr i ↦ elim (In-cases s.other (grants C h) (c ∷ []) s.other_granted) [
            | inl j ↦ or_right (over C h x y) (over C h y x)
                (subst (λ z. over C h y z ≡ true) (sym (mine s.one i x s.one_owner))
                (unblocked_over C L base h sound c legal.0 s.other j y s.other_owner (subst (λ d. C.conflict s.other.accesses d.accesses ≡ true) (is_new s.one i) (conflict_back s.one.accesses s.other.accesses s.conflict))))
            | inr j ↦ or_left (over C h x y) (over C h y x)
                (subst (λ z. over C h x z ≡ true) (mine s.one i x s.one_owner ∙ sym (mine s.other j y s.other_owner)) ((laws C L base h sound).itself x))
          ]
        ]
      where
        is_new : (d : Done C) → In d (c ∷ []) → d ≡ c
        is_new d (inl e) = e
        is_new d (inr none) = absurd none

        -- the owner of the new call is its asker
        mine : (d : Done C) → In d (c ∷ []) → (z : ℕ) → owner_of C h d.asker ≡ Some z → z ≡ c.asker
        mine d i z own = same_some z c.asker (sym own ∙ ap (λ (e : Done C). owner_of C h e.asker) (is_new d i) ∙ call_owner C L base h sound c legal.0)

    committed_related : (h : List (Event C)) → Sound C L base h → AreRelated h → (t : ℕ) → Legal C base (Commit t ∷ h) → AreRelated (Commit t ∷ h)
    committed_related h sound was t legal x y s =
        elim (moved_from t (parent C h t) x (owner_of C h s.one.asker) (sym (now s.one.asker) ∙ s.one_owner)) [
          | inl up ↦ elim (moved_from t (parent C h t) y (owner_of C h s.other.asker) (sym (now s.other.asker) ∙ s.other_owner)) [
            | inl also ↦ or_left (over C h x y) (over C h y x) (subst (λ z. over C h x z ≡ true) (same_some x y (sym up.1 ∙ also.1)) (forest.itself x))
            | inr stays ↦ above x y up.1 stays.1 (before t y up.0 stays.0)
          ]
          | inr stays ↦ elim (moved_from t (parent C h t) y (owner_of C h s.other.asker) (sym (now s.other.asker) ∙ s.other_owner)) [
            | inl up ↦ either_way (over C h y x) (over C h x y) (above y x up.1 stays.1 (either_way (over C h x t) (over C h t x) (before x t stays.0 up.0)))
            | inr also ↦ before x y stays.0 also.0
          ]
        ]
      where
        forest : ForestLaws (parent C h) (over C h)
        forest = laws C L base h sound

        now : (z : ℕ) → owner_of C (Commit t ∷ h) z ≡ moved t (parent C h t) (owner_of C h z)
        now = commit_owner C L base h sound t legal.0

        before : (u v : ℕ) → owner_of C h s.one.asker ≡ Some u → owner_of C h s.other.asker ≡ Some v → (over C h u v || over C h v u) ≡ true
        before u v own other = was u v (record { one = s.one; other = s.other; one_granted = s.one_granted; other_granted = s.other_granted; one_owner = own; other_owner = other; conflict = s.conflict })

        -- what was related to t is to its parent
        above : (p z : ℕ) → parent C h t ≡ Some p → z ≢ t → (over C h t z || over C h z t) ≡ true → (over C h p z || over C h z p) ≡ true
        above p z up ne either = elim (or_cases (over C h t z) (over C h z t) either) [
          | inl m ↦ or_left (over C h p z) (over C h z p) (forest.over_parent t p z up m)
          | inr m ↦ elim (forest.to_parent t p z up m) [
            | inl is ↦ absurd (ne is)
            | inr k ↦ or_right (over C h p z) (over C h z p) k
          ]
        ]

    aborted_related : (h : List (Event C)) → Sound C L base h → AreRelated h → (t : ℕ) → Legal C base (Abort t ∷ h) → AreRelated (Abort t ∷ h)
    aborted_related h sound was t legal x y s = was x y (record {
      one = s.one;
      other = s.other;
      one_granted = s.one_granted;
      other_granted = s.other_granted;
      one_owner = before s.one.asker x s.one_owner;
      other_owner = before s.other.asker y s.other_owner;
      conflict = s.conflict;
    })
      where
        before : (z o : ℕ) → owner_of C (Abort t ∷ h) z ≡ Some o → owner_of C h z ≡ Some o
        before z o own = (ended_from (over C h) t (owner_of C h z) o (sym (abort_owner C L base h sound t legal.0 z) ∙ own)).0

    all_related : (h : List (Event C)) → Legal C base h → AreRelated h
    all_related [] legal x y s = absurd s.one_granted
    all_related (Begin n p ∷ h) legal x y s = begun_related h (sound_all C L base base_sound h legal.1) (all_related h legal.1) n p legal x y s
    all_related (Call c ∷ h) legal x y s = called_related h (sound_all C L base base_sound h legal.1) (all_related h legal.1) c legal x y s
    all_related (Undo k ∷ h) legal x y s =
        all_related h legal.1 x y (record { one = s.one; other = s.other; one_granted = s.one_granted; other_granted = s.other_granted; one_owner = s.one_owner; other_owner = s.other_owner; conflict = s.conflict })
    all_related (Commit t ∷ h) legal x y s = committed_related h (sound_all C L base base_sound h legal.1) (all_related h legal.1) t legal x y s
    all_related (Abort t ∷ h) legal x y s = aborted_related h (sound_all C L base base_sound h legal.1) (all_related h legal.1) t legal x y s

    -- the calls of two locks that conflict
    sharers : (h : List (Event C)) (x y : ℕ) → OwnConflicting C h x y → Sharers h x y
    sharers h x y own =
        let first = owns_one C h x own.one own.first in
        let second = owns_one C h y own.other own.second in
        record {
          one = first.call;
          other = second.call;
          one_granted = first.granted;
          other_granted = second.granted;
          one_owner = first.owner;
          other_owner = second.owner;
          conflict = own.conflicts first.call.accesses second.call.accesses first.passes second.passes;
        }

    -- one without a live child has no other owner below it
    related_alone : (h : List (Event C)) → Legal C base h → (t y : ℕ) → live_children C base.transaction h t ≡ [] → Sharers h t y → over C h y t ≡ true
    related_alone h legal t y none s = elim (or_cases (over C h t y) (over C h y t) (all_related h legal t y s)) [
      | inr m ↦ m
      | inl m ↦ by_number y t
          (λ is. subst (λ z. over C h z t ≡ true) (sym is) ((laws C L base h sound).itself t))
          (λ differ. absurd (none_below (parent C h) sound.forest (IsLive C base.transaction h) t (λ u p live up k. sound.live_up u p live up) (childless C L base h sound t none) y m differ
          (owner_is_live C L base h sound s.other s.other_granted y s.other_owner)))
    ]
      where
        sound : Sound C L base h
        sound = sound_all C L base base_sound h legal

  pub sharing : Sharing C
  sharing base base_sound h legal = record {
    related = λ x y own. all_related base base_sound h legal x y (sharers base base_sound h x y own);
    alone = λ t y none own. related_alone base base_sound h legal t y none (sharers base base_sound h t y own);
  }
