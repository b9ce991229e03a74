-- The places of the owners in a list, by their numbers, as the list changes.
use Rattle.std.proofs.Common.{◌≡◌, ℕ, suc, ◌<◌, Bool, true, false, cond, List, [], ◌∷◌, ◌++◌, Option, Some, None, refl, sym, ap, subst, ◌∙◌, set, take, drop, length, nat_eq, IfSome, IfNone, get_or, arith}
use Rattle.std.proofs.lemmas.Bool.{false≢true, eqb-true, eqb-false}
use Rattle.std.proofs.lemmas.List.{append-nil, get_or-set_same, get_or-set_other, get_or_append_left, length-set, length-append, set_split}
use Rattle.std.proofs.Math.Seq.{get_or-append_seam}
use Rattle.std.specs.Ordering.{nat_cmp}
use Rattle.std.specs.Cmp.{nat_cmp_total, eq_by_cmp_equiv}
use Rattle.std.specs.FinMap as finite
use Rattle.ft_lock_rules.specs.declared.cell_locks.OwnerLocks.{OwnerLocks}
use Rattle.ft_lock_rules.specs.CellLocks.{marks_in, place_in, AreApart, IsPlaceOf, Places, AreFound}
use Rattle.ft_lock_rules.proofs.HolderLists.{ties, tied_same, not_first, blank, at-middle, apart-middle, others, placed, none_there, found_at}

tied_self : (a : ℕ) → ties a a ≡ true
tied_self a = (eq_by_cmp_equiv nat_cmp_total).refl a

pub some_same : {A : Type 0} (a b : A) → Some a ≡ Some b → a ≡ b
some_same a b e = cc

pub some_none : {A B : Type 0} (a : A) → Some a ≡ None → B
some_none {A} {B} a e = cc

get_insert : (t : Places) (k i u : ℕ) → finite.get (finite.insert t k i) u ≡ cond (ties u k) (Some i) (finite.get t u)
get_insert t k i u = finite.get-insert nat_cmp_total t k i u

get_remove : (t : Places) (k u : ℕ) → finite.get (finite.remove t k) u ≡ cond (ties u k) None (finite.get t u)
get_remove t k u = finite.get-remove nat_cmp_total t k u

true_false : true ≡ false → ⊥
true_false e = false≢true (sym e)

-- what a list does not have, its front does not have
pub front_none : (front rest : List OwnerLocks) (u : ℕ) → marks_in (front ++ rest) u ≡ None → marks_in front u ≡ None
front_none [] rest u e = refl
front_none (h ∷ front) rest u e =
    let both = not_first (ties u h.owner) h.marks (marks_in (front ++ rest) u) e in
    ap (λ b. cond b (Some h.marks) (marks_in front u)) both.0 ∙ front_none front rest u both.1

-- a place that was looked for through the list
pub looked : (list : List OwnerLocks) (q : ℕ) (r : Option ℕ) → r ≡ place_in list q → IfSome r (λ i. IsPlaceOf list i q)
looked list q (Some i) e = found_at list q i e
looked list q None e = tt

pub looked_none : (list : List OwnerLocks) (q : ℕ) (r : Option ℕ) → r ≡ place_in list q → IfNone r (marks_in list q ≡ None)
looked_none list q (Some i) e = tt
looked_none list q None e = none_there list q e

-- no place
pub found_none : AreFound finite.empty []
found_none = record {
  there = λ u i e. some_none i (sym e ∙ finite.get-empty nat_cmp u);
  missing = λ u e. refl;
}

-- one more behind the others
pub found_push : (t : Places) (list : List OwnerLocks) (h : OwnerLocks) → AreFound t list → marks_in list h.owner ≡ None → AreFound (finite.insert t h.owner (length list)) (list ++ h ∷ [])
found_push t list h f none = record {
  there = λ u i e. there u i (ties u h.owner) refl (sym (get_insert t h.owner (length list) u) ∙ e);
  missing = λ u e. missing u (ties u h.owner) refl (sym (get_insert t h.owner (length list) u) ∙ e);
}
  where
    longer : (i : ℕ) → i < length list → i < length (list ++ h ∷ [])
    longer i within = omega (arith, length-append list (h ∷ []), within)

    there : (u i : ℕ) (b : Bool) → ties u h.owner ≡ b → cond (ties u h.owner) (Some (length list)) (finite.get t u) ≡ Some i → IsPlaceOf (list ++ h ∷ []) i u
    there u i true tied e =
        let at : length list ≡ i = some_same _ _ (sym (ap (λ b. cond b (Some (length list)) (finite.get t u)) tied) ∙ e) in
        subst (λ n. IsPlaceOf (list ++ h ∷ []) n u) at (record {
          within = omega (arith, length-append list (h ∷ []));
          owned = λ d. ap (λ (x : OwnerLocks). x.owner) (get_or-append_seam list h [] d) ∙ sym (tied_same u h.owner tied);
        })
    there u i false tied e =
        let at = f.there u i (sym (ap (λ b. cond b (Some (length list)) (finite.get t u)) tied) ∙ e) in
        record {
          within = longer i at.within;
          owned = λ d. ap (λ (x : OwnerLocks). x.owner) (get_or_append_left list (h ∷ []) d i at.within) ∙ at.owned d;
        }

    missing : (u : ℕ) (b : Bool) → ties u h.owner ≡ b → cond (ties u h.owner) (Some (length list)) (finite.get t u) ≡ None → marks_in (list ++ h ∷ []) u ≡ None
    missing u true tied e = some_none (length list) (sym (ap (λ b. cond b (Some (length list)) (finite.get t u)) tied) ∙ e)
    missing u false tied e =
        at-middle list [] h u (ap (λ l. marks_in l h.owner) (append-nil list) ∙ none)
        ∙ ap (λ b. cond b (Some h.marks) (marks_in (list ++ []) u)) tied
        ∙ ap (λ l. marks_in l u) (append-nil list)
        ∙ f.missing u (sym (ap (λ b. cond b (Some (length list)) (finite.get t u)) tied) ∙ e)

-- Another holding at the place of an owner.
module _ (t : Places) (list : List OwnerLocks) (f : AreFound t list) (apart : AreApart list) (i q : ℕ) (at : IsPlaceOf list i q) (y : OwnerLocks) where
  same_place : (u : ℕ) → IsPlaceOf list i u → u ≡ q
  same_place u other = sym (other.owned blank) ∙ at.owned blank

  kept : (u j : ℕ) → (j ≡ i → ⊥) → IsPlaceOf list j u → IsPlaceOf (set list i y) j u
  kept u j other p = record {
    within = omega (arith, p.within, length-set list i y);
    owned = λ d. ap (λ (x : OwnerLocks). x.owner) (get_or-set_other list i j y d other) ∙ p.owned d;
  }

  here : (u : ℕ) → y.owner ≡ u → IsPlaceOf (set list i y) i u
  here u is = record {
    within = omega (arith, at.within, length-set list i y);
    owned = λ d. ap (λ (x : OwnerLocks). x.owner) (get_or-set_same list i y d at.within) ∙ is;
  }

  without : (u : ℕ) → marks_in list u ≡ None → marks_in (others list i) u ≡ None
  without u none = (not_first (ties u (get_or list i blank).owner) _ _ (sym ((placed list i blank apart at.within).at u) ∙ none)).1

  gone : (u : ℕ) → ties u q ≡ true → marks_in (others list i) u ≡ None
  gone u tied = ap (marks_in (others list i)) (tied_same u q tied ∙ sym (at.owned blank)) ∙ (placed list i blank apart at.within).absent

  after : marks_in (others list i) y.owner ≡ None → (u : ℕ) → ties u y.owner ≡ false → marks_in (others list i) u ≡ None → marks_in (set list i y) u ≡ None
  after absent u apart_from none =
      ap (λ l. marks_in l u) (set_split list i y at.within)
      ∙ at-middle (take i list) (drop (suc i) list) y u absent
      ∙ ap (λ b. cond b (Some y.marks) (marks_in (others list i) u)) apart_from
      ∙ none

  has_one : marks_in list q ≡ Some (get_or list i blank).marks
  has_one =
      (placed list i blank apart at.within).at q
      ∙ ap (λ b. cond b (Some (get_or list i blank).marks) (marks_in (others list i) q)) (ap (ties q) (at.owned blank) ∙ tied_self q)

  -- the same owner has another holding there
  pub found_own : y.owner ≡ q → AreFound t (set list i y)
  found_own is = record {
    there = λ u j e. there u j (f.there u j e) (nat_eq j i) refl;
    missing = λ u e. missing u (ties u q) refl (f.missing u e);
  }
    where
      there : (u j : ℕ) → IsPlaceOf list j u → (b : Bool) → nat_eq j i ≡ b → IsPlaceOf (set list i y) j u
      there u j p true e =
          let same : j ≡ i = eqb-true j i e in
          subst (λ n. IsPlaceOf (set list i y) n u) (sym same) (here u (is ∙ sym (same_place u (subst (λ n. IsPlaceOf list n u) same p))))
      there u j p false e = kept u j (eqb-false j i e) p

      missing : (u : ℕ) (b : Bool) → ties u q ≡ b → marks_in list u ≡ None → marks_in (set list i y) u ≡ None
      missing u true tied none = some_none _ (sym has_one ∙ ap (marks_in list) (sym (tied_same u q tied)) ∙ none)
      missing u false tied none = after (gone y.owner (ap (λ v. ties v q) is ∙ tied_self q)) u (ap (ties u) is ∙ tied) (without u none)

  -- another owner comes there
  pub found_other : (to : ℕ) → y.owner ≡ to → marks_in list to ≡ None → AreFound (finite.insert (finite.remove t q) to i) (set list i y)
  found_other to is absent = record {
    there = λ u j e. there u j (ties u to) refl (ties u q) refl (sym (get_both u) ∙ e);
    missing = λ u e. missing u (ties u to) refl (ties u q) refl (sym (get_both u) ∙ e);
  }
    where
      get_both : (u : ℕ) → finite.get (finite.insert (finite.remove t q) to i) u ≡ cond (ties u to) (Some i) (cond (ties u q) None (finite.get t u))
      get_both u = get_insert (finite.remove t q) to i u ∙ ap (cond (ties u to) (Some i)) (get_remove t q u)

      there : (u j : ℕ) (a : Bool) → ties u to ≡ a → (b : Bool) → ties u q ≡ b → cond (ties u to) (Some i) (cond (ties u q) None (finite.get t u)) ≡ Some j → IsPlaceOf (set list i y) j u
      there u j true tied b own e =
          subst (λ n. IsPlaceOf (set list i y) n u) (some_same _ _ (sym (ap (λ c. cond c (Some i) (cond (ties u q) None (finite.get t u))) tied) ∙ e)) (here u (is ∙ sym (tied_same u to tied)))
      there u j false tied true own e = some_none j (sym e ∙ ap (λ c. cond c (Some i) (cond (ties u q) None (finite.get t u))) tied ∙ ap (λ c. cond c None (finite.get t u)) own)
      there u j false tied false own e =
          let p = f.there u j (sym (ap (λ c. cond c (Some i) (cond (ties u q) None (finite.get t u))) tied ∙ ap (λ c. cond c None (finite.get t u)) own) ∙ e) in
          kept u j (λ same. true_false (sym (ap (λ v. ties v q) (same_place u (subst (λ n. IsPlaceOf list n u) same p)) ∙ tied_self q) ∙ own)) p

      missing : (u : ℕ) (a : Bool) → ties u to ≡ a → (b : Bool) → ties u q ≡ b → cond (ties u to) (Some i) (cond (ties u q) None (finite.get t u)) ≡ None → marks_in (set list i y) u ≡ None
      missing u true tied b own e = some_none i (sym (ap (λ c. cond c (Some i) (cond (ties u q) None (finite.get t u))) tied) ∙ e)
      missing u false tied true own e = after (ap (marks_in (others list i)) is ∙ without to absent) u (ap (ties u) is ∙ tied) (gone u own)
      missing u false tied false own e =
          after (ap (marks_in (others list i)) is ∙ without to absent) u (ap (ties u) is ∙ tied) (without u (f.missing u (sym (ap (λ c. cond c (Some i) (cond (ties u q) None (finite.get t u))) tied ∙ ap (λ c. cond c None (finite.get t u)) own) ∙ e)))

-- the last one goes
pub found_pop : (t : Places) (rest : List OwnerLocks) (h : OwnerLocks) → AreFound t (rest ++ h ∷ []) → AreApart (rest ++ h ∷ []) → AreFound (finite.remove t h.owner) rest
found_pop t rest h f apart = record {
  there = λ u i e. there u i (ties u h.owner) refl (sym (get_remove t h.owner u) ∙ e);
  missing = λ u e. missing u (ties u h.owner) refl (sym (get_remove t h.owner u) ∙ e);
}
  where
    absent : marks_in rest h.owner ≡ None
    absent = ap (λ l. marks_in l h.owner) (sym (append-nil rest)) ∙ (apart-middle rest [] h apart).1

    there : (u i : ℕ) (b : Bool) → ties u h.owner ≡ b → cond (ties u h.owner) None (finite.get t u) ≡ Some i → IsPlaceOf rest i u
    there u i true tied e = some_none i (sym e ∙ ap (λ b. cond b None (finite.get t u)) tied)
    there u i false tied e = by_place (nat_eq i (length rest)) refl
      where
        at : IsPlaceOf (rest ++ h ∷ []) i u
        at = f.there u i (sym (ap (λ b. cond b None (finite.get t u)) tied) ∙ e)

        by_place : (b : Bool) → nat_eq i (length rest) ≡ b → IsPlaceOf rest i u
        by_place true same =
            let own : h.owner ≡ u = sym (ap (λ (x : OwnerLocks). x.owner) (ap (λ n. get_or (rest ++ h ∷ []) n blank) (eqb-true i (length rest) same) ∙ get_or-append_seam rest h [] blank)) ∙ at.owned blank in
            absurd (true_false (sym (ap (ties u) own ∙ tied_self u) ∙ tied))
        by_place false other =
            let within : i < length rest = (let apart_from = eqb-false i (length rest) other in omega (arith, at.within, length-append rest (h ∷ []), apart_from)) in
            record {
              within = within;
              owned = λ d. ap (λ (x : OwnerLocks). x.owner) (sym (get_or_append_left rest (h ∷ []) d i within)) ∙ at.owned d;
            }

    missing : (u : ℕ) (b : Bool) → ties u h.owner ≡ b → cond (ties u h.owner) None (finite.get t u) ≡ None → marks_in rest u ≡ None
    missing u true tied e = ap (marks_in rest) (tied_same u h.owner tied) ∙ absent
    missing u false tied e = front_none rest (h ∷ []) u (f.missing u (sym (ap (λ b. cond b None (finite.get t u)) tied) ∙ e))
