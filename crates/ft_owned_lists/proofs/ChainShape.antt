-- Chains that change one at a time, and the lists that they make.
use Rattle.std.proofs.Common.{◌≡◌, ◌≢◌, ℕ, zero, suc, ◌≤◌, ◌<◌, List, [], ◌∷◌, ◌++◌, length, map, Option, Some, None, IsSome, Bool, true, false, cond, refl, sym, ap, subst, ◌∙◌, arith, inl, inr}
use Rattle.std.specs.Prelude.{◌⊎◌, ◌||◌, option_map, is_some, ◌==◌, slice_index_or}
use Rattle.std.specs.Option.{unwrap_or}
use Rattle.std.specs.List.{AllByRecursion, IsDistinct, list_any}
use Rattle.std.specs.Ordering.{nat_cmp, is_eq, eq_by_cmp}
use Rattle.std.specs.declared.cmp.Ordering.{Ordering}
use Rattle.std.specs.declared.cmp.Ordering.TheVariants.{Less, Equal, Greater}
use Rattle.std.specs.Cmp.{nat_cmp_total, nat_cmp_is}
use Rattle.std.specs.FinMap as finite
use Rattle.std.specs.FinMap.Entries.{find}
use Rattle.std.proofs.lemmas.Bool.{false≢true}
use Rattle.std.proofs.lemmas.Map.Steps.{length-le_from_distinct_below}
use borrow.Author.Tests.{eqb-true}
use Rattle.slab.specs.Slab.{Slab, get}
use Rattle.ft_owned_lists.specs.declared.node.Node.{Node}
use Rattle.ft_owned_lists.specs.declared.node.Ends.{Ends}
use Rattle.ft_owned_lists.specs.OwnedLists.{list_in}
use Rattle.ft_owned_lists.specs.Linked.{AllEnds, first_of, last_or, ends_from, with_next, then_on, walk, walked, lists_of, head_key, last_key, ends_of, Linked, HasKey, Single, AreChainedBy}

equal : (r : Ordering) → is_eq r ≡ true → r ≡ Equal
equal Less e = absurd (false≢true e)
equal Equal e = refl
equal Greater e = absurd (false≢true e)

tied : (k : ℕ) → eq_by_cmp nat_cmp k k ≡ true
tied k = ap is_eq (sym (nat_cmp_is k k Equal refl))

eq-true : (x y : ℕ) → eq_by_cmp nat_cmp x y ≡ true → x ≡ y
eq-true x y e = finite.nat_cmp-IsAntisymmetric x y (equal (nat_cmp x y) e)

eq-false : (x y : ℕ) → eq_by_cmp nat_cmp x y ≡ false → x ≢ y
eq-false x y e is = false≢true (sym e ∙ ap (eq_by_cmp nat_cmp x) (sym is) ∙ tied x)

pub by_number : {A : Type 0} (P : A → Type 0) (q u : ℕ) (x y : A) → (q ≡ u → P x) → (q ≢ u → P y) → P (cond (eq_by_cmp nat_cmp q u) x y)
by_number P q u x y first second = elim (eq_by_cmp nat_cmp q u) as (λ b. eq_by_cmp nat_cmp q u ≡ b → P (cond b x y)) [
  | true ↦ λ e. first (eq-true q u e)
  | false ↦ λ e. second (eq-false q u e)
] refl

module _ {T : Type 0} where
  abbrev pub values : List (ℕ × T) → List T
  values = map (λ p. p.1)

  -- one chain is another
  abbrev pub put : (ℕ → List (ℕ × T)) → ℕ → List (ℕ × T) → ℕ → List (ℕ × T)
  put chain u ps q = cond (eq_by_cmp nat_cmp q u) ps (chain q)

  pub first-ends : (ps : List (ℕ × T)) → first_of (ends_of ps) ≡ head_key ps
  first-ends [] = refl
  first-ends (p ∷ ps) = refl

  pub last_or-ends : (k : ℕ) (ps : List (ℕ × T)) → last_or k (ends_of ps) ≡ last_key k ps
  last_or-ends k [] = refl
  last_or-ends k (p ∷ ps) = refl

  pub from-ends : (k : ℕ) (ps : List (ℕ × T)) → ends_from (head_key ps) (last_key k ps) ≡ ends_of ps
  from-ends k [] = refl
  from-ends k (p ∷ ps) = refl

  pub last-append : (k : ℕ) (ps qs : List (ℕ × T)) → last_key k (ps ++ qs) ≡ last_key (last_key k ps) qs
  last-append k [] qs = refl
  last-append k (p ∷ ps) qs = last-append p.0 ps qs

  pub values-append : (ps qs : List (ℕ × T)) → values (ps ++ qs) ≡ values ps ++ values qs
  values-append [] qs = refl
  values-append (p ∷ ps) qs = ap (λ xs. p.1 ∷ xs) (values-append ps qs)

  module _ (at : ℕ → Option (Node T)) where
    pub walk-linked : (n : ℕ) (ps : List (ℕ × T)) → Linked at ps → length ps ≤ n → walk at n (head_key ps) ≡ values ps
    walk-linked zero [] h fits = refl
    walk-linked (suc n) [] h fits = refl
    walk-linked zero (p ∷ ps) h fits = absurd (omega arith)
    walk-linked (suc n) (p ∷ ps) h fits = ap (then_on (walk at n)) h.0 ∙ ap (λ xs. p.1 ∷ xs) (walk-linked n ps h.1 (omega arith))

    pub is-there : (ps : List (ℕ × T)) (k : ℕ) → Linked at ps → HasKey ps k → IsSome (at k)
    is-there [] k h i = absurd i
    is-there (p ∷ ps) k h (inl e) = ap is_some (ap at e ∙ h.0)
    is-there (p ∷ ps) k h (inr i) = is-there ps k h.1 i

    pub frame : (at' : ℕ → Option (Node T)) (ps : List (ℕ × T)) → ((k : ℕ) → HasKey ps k → at' k ≡ at k) → Linked at ps → Linked at' ps
    frame at' [] same h = tt
    frame at' (p ∷ ps) same h = (same p.0 (inl refl) ∙ h.0, frame at' ps (λ k i. same k (inr i)) h.1)

  pub has-last : (p : ℕ × T) (ps : List (ℕ × T)) → HasKey (p ∷ ps) (last_key p.0 ps)
  has-last p [] = inl refl
  has-last p (q ∷ ps) = inr (has-last q ps)

  pub has-parts : (ps qs : List (ℕ × T)) (k : ℕ) → HasKey (ps ++ qs) k → HasKey ps k ⊎ HasKey qs k
  has-parts [] qs k i = inr i
  has-parts (p ∷ ps) qs k (inl e) = inl (inl e)
  has-parts (p ∷ ps) qs k (inr i) = elim (has-parts ps qs k i) [ inl j ↦ inl (inr j) | inr j ↦ inr j ]

  pub single-append : (ps qs : List (ℕ × T)) → Single ps → Single qs → ((k : ℕ) → HasKey ps k → HasKey qs k → ⊥) → Single (ps ++ qs)
  single-append [] qs a b apart = b
  single-append (p ∷ ps) qs a b apart =
      ((λ i. elim (has-parts ps qs p.0 i) [ inl j ↦ a.0 j | inr j ↦ apart p.0 (inl refl) j ]), single-append ps qs a.1 b (λ k i. apart k (inr i)))

  -- one chain stands in front of another from then on
  pub linked-append : (at at' : ℕ → Option (Node T)) (p : ℕ × T) (ps qs : List (ℕ × T)) → Linked at (p ∷ ps) → Single (p ∷ ps) → Linked at qs
      → ((k : ℕ) → k ≢ last_key p.0 ps → at' k ≡ at k) → at' (last_key p.0 ps) ≡ option_map (with_next (head_key qs)) (at (last_key p.0 ps))
      → (HasKey qs (last_key p.0 ps) → ⊥) → Linked at' ((p ∷ ps) ++ qs)
  linked-append at at' p [] qs h single g others changed apart =
      (changed ∙ ap (option_map (with_next (head_key qs))) h.0, frame at at' qs (λ k i. others k (λ e. apart (subst (HasKey qs) e i))) g)
  linked-append at at' p (q ∷ ps) qs h single g others changed apart =
      (others p.0 (λ e. single.0 (subst (HasKey (q ∷ ps)) (sym e) (has-last q ps))) ∙ h.0, linked-append at at' q ps qs h.1 single.1 g others changed apart)

  has-any : (ps : List (ℕ × T)) (q : ℕ) → list_any (λ x. q == x) (map (λ p. p.0) ps) ≡ true → HasKey ps q
  has-any [] q e = absurd (false≢true e)
  has-any (p ∷ ps) q e = by_test (q == p.0) refl e (has-any ps q)
    where
      by_test : (b : Bool) → (q == p.0) ≡ b → (b || list_any (λ x. q == x) (map (λ p. p.0) ps)) ≡ true → (list_any (λ x. q == x) (map (λ p. p.0) ps) ≡ true → HasKey ps q) → HasKey (p ∷ ps) q
      by_test true is e rest = inl (eqb-true q p.0 is)
      by_test false is e rest = inr (rest e)

  each-other : (k : ℕ) (ps : List (ℕ × T)) → (HasKey ps k → ⊥) → AllByRecursion (λ y. (k == y) ≡ false) (map (λ p. p.0) ps)
  each-other k [] h = tt
  each-other k (p ∷ ps) h = (by_test (k == p.0) refl, each-other k ps (λ i. h (inr i)))
    where
      by_test : (b : Bool) → (k == p.0) ≡ b → b ≡ false
      by_test true is = absurd (h (inl (eqb-true k p.0 is)))
      by_test false is = refl

  distinct : (ps : List (ℕ × T)) → Single ps → IsDistinct (λ x y. x == y) (map (λ p. p.0) ps)
  unfolding IsDistinct
  distinct [] h = tt
  distinct (p ∷ ps) h = (each-other p.0 ps h.0, distinct ps h.1)

  inside : (xs : List (Option (Node T))) (k : ℕ) → IsSome (slice_index_or xs k None) → k < length xs
  inside [] k h = absurd (false≢true h)
  inside (x ∷ xs) zero h = omega arith
  inside (x ∷ xs) (suc k) h = let e = inside xs k h in omega (arith, e)

  keys-length : (ps : List (ℕ × T)) → length (map (λ p. p.0) ps) ≡ length ps
  keys-length [] = refl
  keys-length (p ∷ ps) = ap suc (keys-length ps)

  -- no chain is longer than the slab
  pub room : (s : Slab (Node T)) (ps : List (ℕ × T)) → Linked (get s) ps → Single ps → length ps ≤ length s.slots
  room s ps h single =
      let le = length-le_from_distinct_below (map (λ (p : ℕ × T). p.0) ps) (length s.slots) (distinct ps single) (λ q i. inside s.slots q (is-there (get s) ps q h (has-any ps q i))) in
      subst (λ n. n ≤ length s.slots) (keys-length ps) le

  find-walked : (at : ℕ → Option (Node T)) (n q : ℕ) (es : List (ℕ × Option Ends)) → find nat_cmp q (walked at n es) ≡ option_map (λ e. walk at n (first_of e)) (find nat_cmp q es)
  find-walked at n q [] = refl
  find-walked at n q (e ∷ es) = ap (cond (eq_by_cmp nat_cmp q e.0) (Some (walk at n (first_of e.1)))) (find-walked at n q es) ∙ by_test (eq_by_cmp nat_cmp q e.0)
    where
      by_test : (b : Bool) → cond b (Some (walk at n (first_of e.1))) (option_map (λ e. walk at n (first_of e)) (find nat_cmp q es)) ≡ option_map (λ e. walk at n (first_of e)) (cond b (Some e.1) (find nat_cmp q es))
      by_test true = refl
      by_test false = refl

  module _ (s : Slab (Node T)) (ends : AllEnds) (chain : ℕ → List (ℕ × T)) (h : AreChainedBy (get s) ends chain) where
    -- what an owner's chain makes
    pub seen : (q : ℕ) → finite.get (lists_of s ends) q ≡ option_map (λ _. values (chain q)) (finite.get ends q)
    seen q = finite.get-from_entries nat_cmp_total (walked (get s) (length s.slots) (finite.entries ends)) q
        ∙ find-walked (get s) (length s.slots) q (finite.entries ends)
        ∙ ap (option_map (λ e. walk (get s) (length s.slots) (first_of e))) (sym (finite.get-entries ends q))
        ∙ by_value (finite.get ends q) (h.ended q)
      where
        by_value : (o : Option (Option Ends)) → unwrap_or o None ≡ ends_of (chain q) → option_map (λ e. walk (get s) (length s.slots) (first_of e)) o ≡ option_map (λ _. values (chain q)) o
        by_value None e = refl
        by_value (Some x) e = ap Some (ap (walk (get s) (length s.slots)) (ap first_of e ∙ first-ends (chain q)) ∙ walk-linked (get s) (length s.slots) (chain q) (h.linked q) (room s (chain q) (h.linked q) (h.single q)))

    none-ends : (ps : List (ℕ × T)) → None ≡ ends_of ps → values ps ≡ []
    none-ends [] e = refl
    none-ends (p ∷ ps) e = absurd (false≢true (ap is_some e))

    pub list-seen : (q : ℕ) → list_in (lists_of s ends) q ≡ values (chain q)
    list-seen q = ap (λ o. unwrap_or o []) (seen q) ∙ by_value (finite.get ends q) (h.ended q)
      where
        by_value : (o : Option (Option Ends)) → unwrap_or o None ≡ ends_of (chain q) → unwrap_or (option_map (λ _. values (chain q)) o) [] ≡ values (chain q)
        by_value None e = sym (none-ends (chain q) e)
        by_value (Some x) e = refl

    -- one chain becomes another
    pub one-chained : (at' : ℕ → Option (Node T)) (u : ℕ) (ps : List (ℕ × T)) (e : Option Ends) → e ≡ ends_of ps → Linked at' ps → Single ps
        → ((q k : ℕ) → q ≢ u → HasKey (chain q) k → at' k ≡ get s k) → ((q k : ℕ) → q ≢ u → HasKey ps k → HasKey (chain q) k → ⊥)
        → AreChainedBy at' (finite.insert ends u e) (put chain u ps)
    one-chained at' u ps e is linked single same fresh = record {
      linked = λ q. by_number (Linked at') q u ps (chain q) (λ _. linked) (λ ne. frame (get s) at' (chain q) (λ k. same q k ne) (h.linked q));
      ended = λ q. ap (λ o. unwrap_or o None) (finite.get-insert nat_cmp_total ends u e q) ∙ by_test q (eq_by_cmp nat_cmp q u);
      single = λ q. by_number Single q u ps (chain q) (λ _. single) (λ ne. h.single q);
      apart = λ q v k. by_number (λ xs. HasKey xs k → HasKey (put chain u ps v) k → q ≡ v) q u ps (chain q)
          (λ is_u i. by_number (λ ys. HasKey ys k → q ≡ v) v u ps (chain v) (λ is_v j. is_u ∙ sym is_v) (λ ne j. absurd (fresh v k ne i j)))
          (λ ne i. by_number (λ ys. HasKey ys k → q ≡ v) v u ps (chain v) (λ is_v j. absurd (fresh q k ne j i)) (λ _ j. h.apart q v k i j));
    }
      where
        by_test : (q : ℕ) (b : Bool) → unwrap_or (cond b (Some e) (finite.get ends q)) None ≡ ends_of (cond b ps (chain q))
        by_test q true = is
        by_test q false = h.ended q

    pub one-seen : (s' : Slab (Node T)) (u : ℕ) (ps : List (ℕ × T)) (e : Option Ends) → AreChainedBy (get s') (finite.insert ends u e) (put chain u ps)
        → ((q : ℕ) → finite.get (lists_of s' (finite.insert ends u e)) q ≡ option_map (λ _. values (put chain u ps q)) (finite.get (finite.insert ends u e) q))
        → lists_of s' (finite.insert ends u e) ≡ finite.insert (lists_of s ends) u (values ps)
    one-seen s' u ps e g seen' = finite.same_map nat_cmp_total finite.nat_cmp-IsAntisymmetric _ _ (λ q.
        seen' q ∙ ap (option_map (λ _. values (put chain u ps q))) (finite.get-insert nat_cmp_total ends u e q)
        ∙ by_test q (eq_by_cmp nat_cmp q u) ∙ ap (cond (eq_by_cmp nat_cmp q u) (Some (values ps))) (sym (seen q)) ∙ sym (finite.get-insert nat_cmp_total (lists_of s ends) u (values ps) q))
      where
        by_test : (q : ℕ) (b : Bool) → option_map (λ _. values (cond b ps (chain q))) (cond b (Some e) (finite.get ends q)) ≡ cond b (Some (values ps)) (option_map (λ _. values (chain q)) (finite.get ends q))
        by_test q true = refl
        by_test q false = refl

    -- an owner that holds nothing is closed
    pub closed-chained : (u : ℕ) → values (chain u) ≡ [] → AreChainedBy (get s) (finite.remove ends u) chain
    closed-chained u empty = record {
      linked = h.linked;
      ended = λ q. ap (λ o. unwrap_or o None) (finite.get-remove nat_cmp_total ends u q) ∙ by_test q (eq_by_cmp nat_cmp q u) refl;
      single = h.single;
      apart = h.apart;
    }
      where
        nothing : (ps : List (ℕ × T)) → values ps ≡ [] → None ≡ ends_of ps
        nothing [] e = refl
        nothing (p ∷ ps) e = absurd (filled (ap length e))
          where
            filled : length (values (p ∷ ps)) ≡ 0 → ⊥
            filled e = omega arith

        by_test : (q : ℕ) (b : Bool) → eq_by_cmp nat_cmp q u ≡ b → unwrap_or (cond b None (finite.get ends q)) None ≡ ends_of (chain q)
        by_test q true e = nothing (chain q) (ap (λ w. values (chain w)) (eq-true q u e) ∙ empty)
        by_test q false e = h.ended q

    pub closed-seen : (u : ℕ) → ((q : ℕ) → finite.get (lists_of s (finite.remove ends u)) q ≡ option_map (λ _. values (chain q)) (finite.get (finite.remove ends u) q))
        → lists_of s (finite.remove ends u) ≡ finite.remove (lists_of s ends) u
    closed-seen u seen' = finite.same_map nat_cmp_total finite.nat_cmp-IsAntisymmetric _ _ (λ q.
        seen' q ∙ ap (option_map (λ _. values (chain q))) (finite.get-remove nat_cmp_total ends u q)
        ∙ by_test q (eq_by_cmp nat_cmp q u) ∙ ap (cond (eq_by_cmp nat_cmp q u) None) (sym (seen q)) ∙ sym (finite.get-remove nat_cmp_total (lists_of s ends) u q))
      where
        by_test : (q : ℕ) (b : Bool) → option_map (λ _. values (chain q)) (cond b None (finite.get ends q)) ≡ cond b None (option_map (λ _. values (chain q)) (finite.get ends q))
        by_test q true = refl
        by_test q false = refl
