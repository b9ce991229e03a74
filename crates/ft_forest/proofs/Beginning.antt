-- The links after a transaction has begun.
use Rattle.std.proofs.Common.{◌≡◌, ◌≢◌, ◌<◌, ◌+◌, ◌==◌, ◌&&◌, ℕ, true, cond, Option, Some, None, inl, inr, IsSome, refl, sym, ap, subst, ◌∙◌, arith, add-one}
use Rattle.std.proofs.lemmas.Bool.{cases_lt}
use Rattle.ft_laws.proofs.Tests.{by_option}
use Rattle.ft_history.specs.Forest.{is_some_and}
use Rattle.ft_history.specs.Logs.{put}
use Rattle.ft_history.proofs.Words.{put_same, put_other, by_number}
use Rattle.ft_forest.specs.declared.state.State.TheVariants.{Live}
use Rattle.ft_forest.specs.Transactions.{is_live, count_below}
use Rattle.ft_forest.specs.Records.{Links, AreLinked, IsSibling, IsYoungest, IsOlder, IsYounger, begun_links, put_youngest, is_child_at, DepthIs}
use Rattle.ft_forest.proofs.Counting.{by_parent, put_youngest_same, put_youngest_other, put_at_same, put_at_other, child-is, child-not, count-same, count-none}

none_live : None ≡ Some Live → ⊥
none_live e = cc

module _ (s : Links) (h : AreLinked s) (parent : Option ℕ) (depth : ℕ) (live : (p : ℕ) → parent ≡ Some p → s.state p ≡ Some Live) (deeper : DepthIs s parent depth) where
  abbrev new : ℕ
  new = s.count

  abbrev after : Links
  after = begun_links s parent depth

  -- who was live was begun
  was_begun : (i : ℕ) → s.state i ≡ Some Live → i < new
  was_begun i l = elim (cases_lt i new) [ inl lt ↦ lt | inr ge ↦ absurd (none_live (sym (h.unbegun i ge) ∙ l)) ]

  parent_begun : (p : ℕ) → parent ≡ Some p → p < new
  parent_begun p e = was_begun p (live p e)

  old_sibling : (q : Option ℕ) (i : ℕ) → IsSibling s q i → IsSibling after q i
  old_sibling q i is =
      let lt = was_begun i is.live in
      let ne : i ≢ new = omega arith in
      record { parent = put_other s.parent new parent i ne ∙ is.parent; live = put_other s.state new (Some Live) i ne ∙ is.live }

  new_sibling : IsSibling after parent new
  new_sibling = record { parent = put_same s.parent new parent new refl; live = put_same s.state new (Some Live) new refl }

  -- the new one, or one from before
  siblings : {P : Type 0} (q : Option ℕ) (i : ℕ) → IsSibling after q i → (i ≡ new → q ≡ parent → P) → (i < new → IsSibling s q i → P) → P
  siblings q i is here before = by_number i new
      (λ e. here e (sym is.parent ∙ put_same s.parent new parent i e))
      (λ ne.
      let l = sym (put_other s.state new (Some Live) i ne) ∙ is.live in
      before (was_begun i l) (record { parent = sym (put_other s.parent new parent i ne) ∙ is.parent; live = l }))

  -- nothing stood below the new one
  none_below : s.youngest (Some new) ≡ None
  none_below = by_option (s.youngest (Some new))
      (λ none. none)
      (λ y some.
      let was = subst (IsYoungest s (Some new)) some (h.youngest (Some new)) in
      let up = h.lower y new was.0.parent in
      let lt = was_begun y was.0.live in
      absurd (omega arith))

  abbrev put_new : Option ℕ → Option ℕ
  put_new = put_youngest s.youngest (Some new) None

  as_before : (q : Option ℕ) → put_new q ≡ s.youngest q
  as_before q = by_parent q (Some new)
      (λ e. put_youngest_same s.youngest (Some new) None q e ∙ sym none_below ∙ ap s.youngest (sym e))
      (λ ne. put_youngest_other s.youngest (Some new) None q ne)

  youngest-after : (q : Option ℕ) → IsYoungest after q (after.youngest q)
  youngest-after q = by_parent q parent
      (λ e. subst (IsYoungest after q) (sym (put_youngest_same put_new parent (Some new) q e))
      (subst (λ p. IsSibling after p new) (sym e) new_sibling, λ i is. siblings q i is (λ same _. let k : i ≡ new = same in omega arith) (λ lt _. omega arith)))
      (λ ne. subst (IsYoungest after q) (sym (put_youngest_other put_new parent (Some new) q ne ∙ as_before q))
      (by_option (s.youngest q)
      (λ none. subst (IsYoungest after q) (sym none) (λ i is. siblings q i is (λ _ e. ne e) (λ _ old. subst (IsYoungest s q) none (h.youngest q) i old)))
      (λ y some.
      let was = subst (IsYoungest s q) some (h.youngest q) in
      subst (IsYoungest after q) (sym some) (old_sibling q y was.0, λ i is. siblings q i is (λ _ e. absurd (ne e)) (λ _ old. was.1 i old)))))

  -- the next older one of the new one
  older-new : IsOlder after parent new (s.youngest parent)
  older-new = by_option (s.youngest parent)
      (λ none. subst (IsOlder after parent new) (sym none) (λ i is. siblings parent i is (λ same _. let k : i ≡ new = same in omega arith) (λ _ old. absurd (subst (IsYoungest s parent) none (h.youngest parent) i old))))
      (λ y some.
      let was = subst (IsYoungest s parent) some (h.youngest parent) in
      subst (IsOlder after parent new) (sym some) (old_sibling parent y was.0, was_begun y was.0.live, λ i is. siblings parent i is (λ same _. let k : i ≡ new = same in inr (omega arith)) (λ _ old. inl (was.1 i old))))

  older-old : (q : Option ℕ) (i : ℕ) → i < new → (o : Option ℕ) → IsOlder s q i o → IsOlder after q i o
  older-old q i lt None was = λ j is. siblings q j is (λ same _. let k : j ≡ new = same in omega arith) (λ _ old. was j old)
  older-old q i lt (Some y) was = (old_sibling q y was.0, was.1, λ j is. siblings q j is (λ same _. let k : j ≡ new = same in inr (omega arith)) (λ _ old. was.2 j old))

  older-after : (i : ℕ) → after.state i ≡ Some Live → IsOlder after (after.parent i) i (after.older i)
  older-after i l = by_number i new
      (λ e. subst (λ j. IsOlder after (after.parent j) j (after.older j)) (sym e)
      (subst (IsOlder after (after.parent new) new) (sym (put_same s.older new (s.youngest parent) new refl)) (subst (λ q. IsOlder after q new (s.youngest parent)) (sym new_sibling.parent) older-new)))
      (λ ne.
      let was = sym (put_other s.state new (Some Live) i ne) ∙ l in
      subst (IsOlder after (after.parent i) i) (sym (put_other s.older new (s.youngest parent) i ne))
      (subst (λ q. IsOlder after q i (s.older i)) (sym (put_other s.parent new parent i ne)) (older-old (s.parent i) i (was_begun i was) (s.older i) (h.older i was))))

  -- the youngest sibling from before has a younger one now
  younger-youngest : (y : ℕ) → s.youngest parent ≡ Some y → IsYounger after parent y (Some new)
  younger-youngest y some =
      let was = subst (IsYoungest s parent) some (h.youngest parent) in
      (new_sibling, was_begun y was.0.live, λ i is. siblings parent i is (λ same _. let k : i ≡ new = same in inr (omega arith)) (λ _ old. inl (was.1 i old)))

  younger-old : (q : Option ℕ) (i : ℕ) → IsSibling s q i → (s.youngest parent ≢ Some i) → (y : Option ℕ) → IsYounger s q i y → IsYounger after q i y
  younger-old q i own ne None was = λ j is. siblings q j is
      (λ _ same. absurd (by_option (s.youngest parent)
      (λ none. subst (IsYoungest s parent) none (h.youngest parent) i (subst (λ p. IsSibling s p i) same own))
      (λ y some.
      let last = subst (IsYoungest s parent) some (h.youngest parent) in
      let a = last.1 i (subst (λ p. IsSibling s p i) same own) in
      let b = was y (subst (λ p. IsSibling s p y) (sym same) last.0) in
      let k : y ≡ i = omega arith in
      ne (some ∙ ap Some k))))
      (λ _ old. was j old)
  younger-old q i own ne (Some y) was =
      let lt = was_begun y was.0.live in
      (old_sibling q y was.0, was.1, λ j is. siblings q j is (λ same _. let k : j ≡ new = same in inr (omega arith)) (λ _ old. was.2 j old))

  younger-after : (i : ℕ) → after.state i ≡ Some Live → IsYounger after (after.parent i) i (after.younger i)
  younger-after i l = by_number i new
      (λ e.
      let none : after.younger new ≡ None =
      put_at_other (put s.younger new None) (s.youngest parent) (λ _. Some new) new (λ is. let lt = was_begun new (subst (IsYoungest s parent) is (h.youngest parent)).0.live in absurd (omega arith))
      ∙ put_same s.younger new None new refl in
      subst (λ j. IsYounger after (after.parent j) j (after.younger j)) (sym e)
      (subst (IsYounger after (after.parent new) new) (sym none) (λ j is. siblings (after.parent new) j is (λ same _. let k : j ≡ new = same in omega arith) (λ lt _. omega arith))))
      (λ ne.
      let was = sym (put_other s.state new (Some Live) i ne) ∙ l in
      let own : IsSibling s (s.parent i) i = record { parent = refl; live = was } in
      let kept = put_other s.younger new None i ne in
      subst (λ q. IsYounger after q i (after.younger i)) (sym (put_other s.parent new parent i ne))
      (by_parent (s.youngest parent) (Some i)
      (λ is. subst (IsYounger after (s.parent i) i) (sym (put_at_same (put s.younger new None) (s.youngest parent) (λ _. Some new) i is))
      (subst (λ q. IsYounger after q i (Some new)) (sym (subst (IsYoungest s parent) is (h.youngest parent)).0.parent) (younger-youngest i is)))
      (λ other. subst (IsYounger after (s.parent i) i) (sym (put_at_other (put s.younger new None) (s.youngest parent) (λ _. Some new) i other ∙ kept)) (younger-old (s.parent i) i own other (s.younger i) (h.younger i was)))))

  -- a child more
  counts : (q i : ℕ) → i < new → is_child_at s q i ≡ is_child_at after q i
  counts q i lt =
      let ne : i ≢ new = omega arith in
      λ j. is_some_and (sym (put_other s.parent new parent i ne) j) (λ p. p == q) && is_live (sym (put_other s.state new (Some Live) i ne) j)

  count-after : (q : ℕ) → count_below (is_child_at after q) (new + 1) ≡ count_below (is_child_at s q) new + cond (is_child_at after q new) 1 0
  count-after q = ap (count_below (is_child_at after q)) (add-one new) ∙ ap (λ n. n + cond (is_child_at after q new) 1 0) (sym (count-same (is_child_at s q) (is_child_at after q) new (counts q)))

  -- nobody is a child of the new one
  none_new : count_below (is_child_at s new) new ≡ 0
  none_new = count-none (is_child_at s new) new (λ i lt. child-not s new i (λ e. let k = h.lower i new e in absurd (omega arith)))

  before : (q : ℕ) → put s.children new 0 q ≡ count_below (is_child_at s q) new
  before q = by_number q new
      (λ e. put_same s.children new 0 q e ∙ sym none_new ∙ ap (λ p. count_below (is_child_at s p) new) (sym e))
      (λ ne. put_other s.children new 0 q ne ∙ h.children q)

  children-after : (q : ℕ) → after.children q ≡ count_below (is_child_at after q) (new + 1)
  children-after q = by_parent parent (Some q)
      (λ is.
      let more : cond {A = ℕ} (is_child_at after q new) 1 0 ≡ 1 = ap (λ b. cond b 1 0) (child-is after q new (new_sibling.parent ∙ is) new_sibling.live) in
      put_at_same (put s.children new 0) parent (λ n. n + 1) q is ∙ (λ j. before q j + sym more j) ∙ sym (count-after q))
      (λ ne.
      let same : cond {A = ℕ} (is_child_at after q new) 1 0 ≡ 0 = ap (λ b. cond b 1 0) (child-not after q new (λ e. ne (sym new_sibling.parent ∙ e))) in
      let was = before q in
      let now = count-after q in
      let own = put_at_other (put s.children new 0) parent (λ n. n + 1) q ne in
      omega arith)

  -- how deep
  depth-old : (o : Option ℕ) (d : ℕ) → ((p : ℕ) → o ≡ Some p → p < new) → DepthIs s o d → DepthIs after o d
  depth-old None d lt was = was
  depth-old (Some p) d lt was = let k = lt p refl in was ∙ ap (λ n. n + 1) (sym (put_other s.depth new depth p (omega arith)))

  depth-after : (i : ℕ) → after.state i ≡ Some Live → DepthIs after (after.parent i) (after.depth i)
  depth-after i l = by_number i new
      (λ e. subst (λ j. DepthIs after (after.parent j) (after.depth j)) (sym e)
      (subst (λ o. DepthIs after o (after.depth new)) (sym new_sibling.parent) (subst (DepthIs after parent) (sym (put_same s.depth new depth new refl)) (depth-old parent depth parent_begun deeper))))
      (λ ne.
      let was = sym (put_other s.state new (Some Live) i ne) ∙ l in
      let old = was_begun i was in
      subst (λ o. DepthIs after o (after.depth i)) (sym (put_other s.parent new parent i ne))
      (subst (DepthIs after (s.parent i)) (sym (put_other s.depth new depth i ne)) (depth-old (s.parent i) (s.depth i) (λ p e. let k = h.lower i p e in omega arith) (h.depth i was))))

  pub begun-linked : AreLinked after
  begun-linked = record {
    begun = λ i lt. by_number i new (λ e. subst IsSome (sym (put_same s.state new (Some Live) i e)) refl) (λ ne. subst IsSome (sym (put_other s.state new (Some Live) i ne)) (h.begun i (omega arith)));
    unbegun = λ i ge. put_other s.state new (Some Live) i (omega arith) ∙ h.unbegun i (omega arith);
    kept = λ i. by_number i new
        (λ e. put_same s.kept new true i e ∙ sym (ap is_live (put_same s.state new (Some Live) i e)))
        (λ ne. put_other s.kept new true i ne ∙ h.kept i ∙ sym (ap is_live (put_other s.state new (Some Live) i ne)));
    lower = λ i p e. by_number i new
        (λ same. let k : i ≡ new = same in let lt = parent_begun p (sym (put_same s.parent new parent i same) ∙ e) in omega arith)
        (λ ne. h.lower i p (sym (put_other s.parent new parent i ne) ∙ e));
    live_parent = λ i p l e.
        let up : s.state p ≡ Some Live = by_number i new
        (λ same. live p (sym (put_same s.parent new parent i same) ∙ e))
        (λ ne. h.live_parent i p (sym (put_other s.state new (Some Live) i ne) ∙ l) (sym (put_other s.parent new parent i ne) ∙ e)) in
        let lt = was_begun p up in
        put_other s.state new (Some Live) p (omega arith) ∙ up;
    youngest = youngest-after;
    older = older-after;
    younger = younger-after;
    children = children-after;
    depth = depth-after;
  }
