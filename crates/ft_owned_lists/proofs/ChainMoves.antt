-- What each call makes of the chains.
use Rattle.std.proofs.Common.{◌≡◌, ◌≢◌, ℕ, suc, List, [], ◌∷◌, ◌++◌, length, Option, Some, None, IsSome, false, refl, sym, ap, subst, ◌∙◌, arith, inl, inr}
use Rattle.std.specs.Prelude.{option_map, is_some, ◌==◌, drop, slice_get}
use Rattle.std.specs.Option.{unwrap_or}
use Rattle.std.specs.FinMap as finite
use Rattle.std.proofs.lemmas.Bool.{false≢true}
use Rattle.std.proofs.lemmas.Bool.Decides.{nat_tests}
use Rattle.slab.specs.Slab.{Slab, get, Updates}
use Rattle.ft_owned_lists.specs.declared.node.Node.{Node}
use Rattle.ft_owned_lists.specs.declared.node.Ends.{Ends}
use Rattle.ft_owned_lists.specs.OwnedLists.{Lists, list_in, first_moved, spliced}
use Rattle.ft_owned_lists.specs.Linked.{AllEnds, first_of, last_or, ends_from, with_front, joined_ends, ends_in, node, with_next, lists_of, head_key, last_key, ends_of, Linked, HasKey, Single, AreChainedBy, AreChained}
use Rattle.ft_owned_lists.proofs.ChainShape.{by_number, values, put, first-ends, last_or-ends, from-ends, last-append, values-append, is-there, frame, has-parts, has-last, single-append, linked-append, seen, list-seen, one-chained, one-seen}

module _ {T : Type 0} where
  -- a chain with a first node
  pub record Top (ps : List (ℕ × T)) (front : Ends) : Type 0 where
    pub head : ℕ × T
    pub rest : List (ℕ × T)
    pub is : ps ≡ head ∷ rest
    pub first : front.first ≡ head.0
    pub last : front.last ≡ last_key head.0 rest

  top : (ps : List (ℕ × T)) (front : Ends) → Some front ≡ ends_of ps → Top ps front
  top [] front e = absurd (false≢true (ap is_some (sym e)))
  top (p ∷ ps) front e =
      let same : front ≡ record { first = p.0; last = last_key p.0 ps } = ap (λ o. unwrap_or o front) e in
      record { head = p; rest = ps; is = refl; first = ap (λ (x : Ends). x.first) same; last = ap (λ (x : Ends). x.last) same }

  -- the chains are sound, and make these lists
  pub record Made (s : Slab (Node T)) (ends : AllEnds) (m : Lists T) : Type 0 where
    pub sound : AreChained (get s) ends
    pub is : lists_of s ends ≡ m

  absent : (s : Slab (Node T)) (ps : List (ℕ × T)) (k key : ℕ) → Linked (get s) ps → HasKey ps k → get s key ≡ None → k ≢ key
  absent s ps k key linked i none e = false≢true (sym (ap is_some (ap (get s) e ∙ none)) ∙ is-there (get s) ps k linked i)

  module _ (s s' : Slab (Node T)) (ends : AllEnds) (chain : ℕ → List (ℕ × T)) (h : AreChainedBy (get s) ends chain) where
    pub one-made : (u : ℕ) (ps : List (ℕ × T)) (e : Option Ends) → e ≡ ends_of ps → Linked (get s') ps → Single ps
        → ((q k : ℕ) → q ≢ u → HasKey (chain q) k → get s' k ≡ get s k) → ((q k : ℕ) → q ≢ u → HasKey ps k → HasKey (chain q) k → ⊥)
        → AreChainedBy (get s') (finite.insert ends u e) (put chain u ps) × (lists_of s' (finite.insert ends u e) ≡ finite.insert (lists_of s ends) u (values ps))
    one-made u ps e is linked single same fresh =
        let g = one-chained s ends chain h (get s') u ps e is linked single same fresh in
        (g, one-seen s ends chain h s' u ps e g (seen s' (finite.insert ends u e) (put chain u ps) g))

    ends-there : (u : ℕ) (e : Option Ends) → finite.get ends u ≡ Some e → e ≡ ends_of (chain u)
    ends-there u e there = sym (ap (λ o. unwrap_or o None) there) ∙ h.ended u

    pushed-by : (u key : ℕ) (v : T) (e : Option Ends) → finite.get ends u ≡ Some e → get s key ≡ None → Updates s s' key (Some (node v (first_of e)))
        → Made s' (finite.insert ends u (with_front key e)) (finite.insert (lists_of s ends) u (v ∷ list_in (lists_of s ends) u))
    pushed-by u key v e there none up =
        let e-is = ends-there u e there in
        let qs : List (ℕ × T) = chain u in
        let made = one-made u ((key, v) ∷ qs) (with_front key e)
        (ap (with_front key) e-is ∙ ap (λ n. Some (record { first = key; last = n })) (last_or-ends key qs))
        (up.changed ∙ ap (λ o. Some (node v o)) (ap first_of e-is ∙ first-ends qs), frame (get s) (get s') qs (λ k i. up.others k (absent s qs k key (h.linked u) i none)) (h.linked u))
        ((λ i. absent s qs key key (h.linked u) i none refl), h.single u)
        (λ q k ne i. up.others k (absent s (chain q) k key (h.linked q) i none))
        (λ q k ne i j. elim i [ inl is ↦ absent s (chain q) k key (h.linked q) j none is | inr i' ↦ ne (h.apart q u k j i') ]) in
        record { sound = (put chain u ((key, v) ∷ qs), made.0); is = made.1 ∙ ap (λ xs. finite.insert (lists_of s ends) u (v ∷ xs)) (sym (list-seen s ends chain h u)) }

    at-top : (u : ℕ) (front : Ends) → finite.get ends u ≡ Some (Some front) → Top (chain u) front
    at-top u front there = top (chain u) front (ends-there u (Some front) there)

    pub there-by : (u : ℕ) (front : Ends) → finite.get ends u ≡ Some (Some front) → IsSome (get s front.first) × IsSome (get s front.last)
    there-by u front there =
        let t = at-top u front there in
        let linked : Linked (get s) (t.head ∷ t.rest) = subst (Linked (get s)) t.is (h.linked u) in (
          subst (λ k. IsSome (get s k)) (sym t.first) (is-there (get s) (t.head ∷ t.rest) t.head.0 linked (inl refl)),
          subst (λ k. IsSome (get s k)) (sym t.last) (is-there (get s) (t.head ∷ t.rest) (last_key t.head.0 t.rest) linked (has-last t.head t.rest)),
        )

    same-node : (n m : Node T) (o : Option (Node T)) → o ≡ Some n → o ≡ Some m → n ≡ m
    same-node n m o a b = ap (λ x. unwrap_or x n) (sym a ∙ b)

    pub first-by : (u : ℕ) (front : Ends) (n : Node T) → finite.get ends u ≡ Some (Some front) → get s front.first ≡ Some n → slice_get (list_in (lists_of s ends) u) 0 ≡ Some n.value
    first-by u front n there at =
        let t = at-top u front there in
        let linked : Linked (get s) (t.head ∷ t.rest) = subst (Linked (get s)) t.is (h.linked u) in
        let n-is = same-node (node t.head.1 (head_key t.rest)) n (get s front.first) (ap (get s) t.first ∙ linked.0) at in
        ap (λ xs. slice_get xs 0) (list-seen s ends chain h u ∙ ap values t.is) ∙ ap (λ (m : Node T). Some m.value) n-is

    pub none-by : (u : ℕ) → ends_in ends u ≡ None → list_in (lists_of s ends) u ≡ []
    none-by u e = list-seen s ends chain h u ∙ empty (chain u) (sym (h.ended u) ∙ e)
      where
        empty : (ps : List (ℕ × T)) → ends_of ps ≡ None → values ps ≡ []
        empty [] e = refl
        empty (p ∷ ps) e = absurd (false≢true (ap is_some (sym e)))

    pub some-by : (u : ℕ) (front : Ends) → finite.get ends u ≡ Some (Some front) → (length (list_in (lists_of s ends) u) == 0) ≡ false
    some-by u front there =
        let t = at-top u front there in
        ap (λ xs. length xs == 0) (list-seen s ends chain h u ∙ ap values t.is) ∙ positive (length (values t.rest))
      where
        positive : (n : ℕ) → (suc n == 0) ≡ false
        positive n = grind (arith, nat_tests)

    popped-by : (u : ℕ) (front : Ends) (n : Node T) → finite.get ends u ≡ Some (Some front) → get s front.first ≡ Some n → Updates s s' front.first None
        → Made s' (finite.insert ends u (ends_from n.next front.last)) (finite.insert (lists_of s ends) u (drop 1 (list_in (lists_of s ends) u)))
    popped-by u front n there at up =
        let t = at-top u front there in
        let linked : Linked (get s) (t.head ∷ t.rest) = subst (Linked (get s)) t.is (h.linked u) in
        let single : Single (t.head ∷ t.rest) = subst Single t.is (h.single u) in
        let n-is = same-node n (node t.head.1 (head_key t.rest)) (get s front.first) at (ap (get s) t.first ∙ linked.0) in
        let made = one-made u t.rest (ends_from n.next front.last)
        ((λ i. ends_from (n-is i).next (t.last i)) ∙ from-ends t.head.0 t.rest)
        (frame (get s) (get s') t.rest (λ k i. up.others k (λ e. single.0 (subst (HasKey t.rest) (e ∙ t.first) i))) linked.1)
        single.1
        (λ q k ne i. up.others k (λ e. ne (h.apart q u k i (subst (λ xs. HasKey xs k) (sym t.is) (inl (e ∙ t.first))))))
        (λ q k ne i j. ne (h.apart q u k j (subst (λ xs. HasKey xs k) (sym t.is) (inr i)))) in
        record { sound = (put chain u t.rest, made.0); is = made.1 ∙ ap (λ xs. finite.insert (lists_of s ends) u (drop 1 xs)) (sym (list-seen s ends chain h u ∙ ap values t.is)) }

    -- another value of the first node
    pub set-by : (u : ℕ) (front : Ends) (n : Node T) (v : T) → finite.get ends u ≡ Some (Some front) → get s front.first ≡ Some n → Updates s s' front.first (Some (node v n.next))
        → Made s' (finite.insert ends u (Some front)) (finite.insert (lists_of s ends) u (v ∷ drop 1 (list_in (lists_of s ends) u)))
    set-by u front n v there at up =
        let t = at-top u front there in
        let linked : Linked (get s) (t.head ∷ t.rest) = subst (Linked (get s)) t.is (h.linked u) in
        let single : Single (t.head ∷ t.rest) = subst Single t.is (h.single u) in
        let n-is = same-node n (node t.head.1 (head_key t.rest)) (get s front.first) at (ap (get s) t.first ∙ linked.0) in
        let made = one-made u ((t.head.0, v) ∷ t.rest) (Some front)
        (ends-there u (Some front) there ∙ ap ends_of t.is) (
          ap (get s') (sym t.first) ∙ up.changed ∙ ap (λ (m : Node T). Some (node v m.next)) n-is,
          frame (get s) (get s') t.rest (λ k i. up.others k (λ e. single.0 (subst (HasKey t.rest) (e ∙ t.first) i))) linked.1,
        )
        single
        (λ q k ne i. up.others k (λ e. ne (h.apart q u k i (subst (λ xs. HasKey xs k) (sym t.is) (inl (e ∙ t.first))))))
        (λ q k ne i j. ne (h.apart q u k j (subst (λ xs. HasKey xs k) (sym t.is) i))) in
        record { sound = (put chain u ((t.head.0, v) ∷ t.rest), made.0); is = made.1 ∙ ap (λ xs. finite.insert (lists_of s ends) u (v ∷ drop 1 xs)) (sym (list-seen s ends chain h u ∙ ap values t.is)) }

    pub push-made : (u key : ℕ) (v : T) (e : Option Ends) (e' : Option Ends) → finite.get ends u ≡ Some e → get s key ≡ None → Updates s s' key (Some (node v (first_of e))) → e' ≡ with_front key e
        → Made s' (finite.insert ends u e') (finite.insert (lists_of s ends) u (v ∷ list_in (lists_of s ends) u))
    push-made u key v e e' there none up is = subst (λ x. Made s' (finite.insert ends u x) (finite.insert (lists_of s ends) u (v ∷ list_in (lists_of s ends) u))) (sym is) (pushed-by u key v e there none up)

    pub pop-made : (u : ℕ) (front : Ends) (n : Node T) (e' : Option Ends) → finite.get ends u ≡ Some (Some front) → get s front.first ≡ Some n → Updates s s' front.first None → e' ≡ ends_from n.next front.last
        → Made s' (finite.insert ends u e') (finite.insert (lists_of s ends) u (drop 1 (list_in (lists_of s ends) u)))
    pop-made u front n e' there at up is = subst (λ x. Made s' (finite.insert ends u x) (finite.insert (lists_of s ends) u (drop 1 (list_in (lists_of s ends) u)))) (sym is) (popped-by u front n there at up)

    put-other : (q u : ℕ) (ps : List (ℕ × T)) → q ≢ u → put chain u ps q ≡ chain q
    put-other q u ps ne = by_number (λ xs. xs ≡ chain q) q u ps (chain q) (λ e. absurd (ne e)) (λ _. refl)

-- two chains change, one after the other
module _ {T : Type 0} (s s' : Slab (Node T)) (ends : AllEnds) (chain : ℕ → List (ℕ × T)) (h : AreChainedBy (get s) ends chain) (source target : ℕ) (apart : source ≢ target) where
  other : target ≢ source
  other e = apart (sym e)

  spliced-by : (front : Ends) (e : Option Ends) → finite.get ends source ≡ Some (Some front) → finite.get (finite.insert ends source None) target ≡ Some e
      → Updates s s' front.last (option_map (with_next (first_of e)) (get s front.last))
      → Made s' (finite.insert (finite.insert ends source None) target (joined_ends front e)) (spliced (lists_of s ends) source target)
  spliced-by front e there then up =
      let t = at-top s s' ends chain h source front there in
      let ps : List (ℕ × T) = t.head ∷ t.rest in
      let linked : Linked (get s) ps = subst (Linked (get s)) t.is (h.linked source) in
      let single : Single ps = subst Single t.is (h.single source) in
      let one = one-made s s ends chain h source [] None refl tt tt (λ q k ne i. refl) (λ q k ne i j. absurd i) in
      let ends1 : AllEnds = finite.insert ends source None in
      let chain1 : ℕ → List (ℕ × T) = put chain source [] in
      let qs : List (ℕ × T) = chain1 target in
      let e-is = ends-there s s ends1 chain1 one.0 target e then in
      let last : ℕ = last_key t.head.0 t.rest in
      let disjoint : (q k : ℕ) → HasKey ps k → HasKey (chain1 q) k → ⊥ = λ q k i. by_number (λ xs. HasKey xs k → ⊥) q source [] (chain q) (λ _ j. j) (λ ne j. ne (h.apart q source k j (subst (λ xs. HasKey xs k) (sym t.is) i))) in
      let two = one-made s s' ends1 chain1 one.0 target (ps ++ qs) (joined_ends front e)
      ((λ i. Some (record { first = t.first i; last = last_or (t.last i) (e-is i) })) ∙ ap (λ n. Some (record { first = t.head.0; last = n })) (last_or-ends last qs ∙ sym (last-append t.head.0 t.rest qs)))
      (linked-append (get s) (get s') t.head t.rest qs linked single (one.0.linked target) (λ k ne. up.others k (λ is. ne (is ∙ t.last)))
      (ap (get s') (sym t.last) ∙ up.changed ∙ (λ i. option_map (with_next ((ap first_of e-is ∙ first-ends qs) i)) (get s (t.last i))))
      (λ j. disjoint target last (has-last t.head t.rest) j))
      (single-append ps qs single (one.0.single target) (λ k i j. disjoint target k i j))
      (λ q k ne i. up.others k (λ is. disjoint q k (subst (HasKey ps) (sym (is ∙ t.last)) (has-last t.head t.rest)) i))
      (λ q k ne i j. elim (has-parts ps qs k i) [ inl a ↦ disjoint q k a j | inr b ↦ ne (one.0.apart q target k j b) ]) in
      record {
        sound = (put chain1 target (ps ++ qs), two.0);
        is = two.1 ∙ (λ i. finite.insert (one.1 i) target ((values-append ps qs ∙ (λ j. values (sym t.is j) ++ values (put-other s s ends chain h target source [] other j)) ∙ (λ j. sym (list-seen s ends chain h source) j ++ sym (list-seen s ends chain h target) j)) i));
      }

  pub splice-made : (front : Ends) (e e' : Option Ends) → finite.get ends source ≡ Some (Some front) → finite.get (finite.insert ends source None) target ≡ Some e
      → Updates s s' front.last (option_map (with_next (first_of e)) (get s front.last)) → e' ≡ joined_ends front e
      → Made s' (finite.insert (finite.insert ends source None) target e') (spliced (lists_of s ends) source target)
  splice-made front e e' there then up is = subst (λ x. Made s' (finite.insert (finite.insert ends source None) target x) (spliced (lists_of s ends) source target)) (sym is) (spliced-by front e there then up)

  first_moved-by : (front : Ends) (n : Node T) (e : Option Ends) → finite.get ends source ≡ Some (Some front) → get s front.first ≡ Some n
      → finite.get (finite.insert ends source (ends_from n.next front.last)) target ≡ Some e → Updates s s' front.first (option_map (with_next (first_of e)) (get s front.first))
      → Made s' (finite.insert (finite.insert ends source (ends_from n.next front.last)) target (with_front front.first e)) (first_moved (lists_of s ends) source target (list_in (lists_of s ends) source))
  first_moved-by front n e there at then up =
      let t = at-top s s' ends chain h source front there in
      let linked : Linked (get s) (t.head ∷ t.rest) = subst (Linked (get s)) t.is (h.linked source) in
      let single : Single (t.head ∷ t.rest) = subst Single t.is (h.single source) in
      let n-is = same-node s s' ends chain h n (node t.head.1 (head_key t.rest)) (get s front.first) at (ap (get s) t.first ∙ linked.0) in
      let e1 : Option Ends = ends_from n.next front.last in
      let one = one-made s s ends chain h source t.rest e1 ((λ i. ends_from (n-is i).next (t.last i)) ∙ from-ends t.head.0 t.rest) linked.1 single.1 (λ q k ne i. refl)
      (λ q k ne i j. ne (h.apart q source k j (subst (λ xs. HasKey xs k) (sym t.is) (inr i)))) in
      let ends1 : AllEnds = finite.insert ends source e1 in
      let chain1 : ℕ → List (ℕ × T) = put chain source t.rest in
      let qs : List (ℕ × T) = chain1 target in
      let e-is = ends-there s s ends1 chain1 one.0 target e then in
      let disjoint : (q k : ℕ) → k ≡ t.head.0 → HasKey (chain1 q) k → ⊥ = λ q k is. by_number (λ xs. HasKey xs k → ⊥) q source t.rest (chain q) (λ _ j. single.0 (subst (HasKey t.rest) is j)) (λ ne j. ne (h.apart q source k j (subst (λ xs. HasKey xs k) (sym t.is) (inl is)))) in
      let two = one-made s s' ends1 chain1 one.0 target (t.head ∷ qs) (with_front front.first e)
      ((λ i. with_front (t.first i) (e-is i)) ∙ ap (λ m. Some (record { first = t.head.0; last = m })) (last_or-ends t.head.0 qs)) (
        ap (get s') (sym t.first) ∙ up.changed ∙ (λ i. option_map (with_next ((ap first_of e-is ∙ first-ends qs) i)) (get s (t.first i))) ∙ ap (option_map (with_next (head_key qs))) linked.0,
        frame (get s) (get s') qs (λ k i. up.others k (λ is. disjoint target k (is ∙ t.first) i)) (one.0.linked target),
      )
      ((λ i. disjoint target t.head.0 refl i), one.0.single target)
      (λ q k ne i. up.others k (λ is. disjoint q k (is ∙ t.first) i))
      (λ q k ne i j. elim i [ inl a ↦ disjoint q k a j | inr b ↦ ne (one.0.apart q target k j b) ]) in
      record {
        sound = (put chain1 target (t.head ∷ qs), two.0);
        is = two.1 ∙ (λ i. finite.insert (one.1 i) target (t.head.1 ∷ (ap values (put-other s s ends chain h target source t.rest other) ∙ sym (list-seen s ends chain h target)) i))
            ∙ ap (first_moved (lists_of s ends) source target) (sym (list-seen s ends chain h source ∙ ap values t.is));
      }

  pub move-made : (front : Ends) (n : Node T) (e e1 e' : Option Ends) → finite.get ends source ≡ Some (Some front) → get s front.first ≡ Some n → e1 ≡ ends_from n.next front.last
      → finite.get (finite.insert ends source e1) target ≡ Some e → Updates s s' front.first (option_map (with_next (first_of e)) (get s front.first)) → e' ≡ with_front front.first e
      → Made s' (finite.insert (finite.insert ends source e1) target e') (first_moved (lists_of s ends) source target (list_in (lists_of s ends) source))
  move-made front n e e1 e' there at first then up is =
      let made = first_moved-by front n e there at (ap (λ x. finite.get (finite.insert ends source x) target) (sym first) ∙ then) up in
      subst (λ x. Made s' x (first_moved (lists_of s ends) source target (list_in (lists_of s ends) source))) (λ i. finite.insert (finite.insert ends source (sym first i)) target (sym is i)) made
