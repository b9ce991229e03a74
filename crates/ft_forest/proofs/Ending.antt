-- The links after a transaction has ended.
use Rattle.std.proofs.Common.{◌≡◌, ◌≢◌, ◌<◌, ◌≤◌, ◌+◌, ◌-◌, ◌==◌, ◌&&◌, ℕ, false, Option, Some, None, ◌⊎◌, inl, inr, IsSome, refl, sym, ap, subst, ◌∙◌, arith}
use Rattle.std.proofs.lemmas.Bool.{false≢true, cases_lt}
use Rattle.ft_laws.proofs.Tests.{by_test, by_option}
use Rattle.ft_history.specs.Forest.{is_some_and}
use Rattle.ft_history.proofs.Words.{put_same, put_other, by_number, none_some}
use Rattle.ft_forest.specs.declared.state.State.{State}
use Rattle.ft_forest.specs.declared.state.State.TheVariants.{Live}
use Rattle.ft_forest.specs.Transactions.{is_live_state, is_live, count_below}
use Rattle.ft_forest.specs.Records.{Links, AreLinked, IsSibling, IsYoungest, IsOlder, IsYounger, ended_links, put_youngest, put_at, where_some, is_child_at, DepthIs}
use Rattle.ft_forest.proofs.Counting.{by_parent, put_youngest_same, put_youngest_other, put_at_same, put_at_other, live-is, child-is, child-not, dead-not, count-same, count-none, count-less}
use Rattle.ft_forest.proofs.Seeing.{live-of}

none_live : None ≡ Some Live → ⊥
none_live e = cc

module _ (s : Links) (h : AreLinked s) (x : ℕ) (state : State) (ended : is_live_state state ≡ false) (live : s.state x ≡ Some Live) (childless : (y : ℕ) → IsSibling s (Some x) y → ⊥) where
  abbrev after : Links
  after = ended_links s x state

  abbrev older : Option ℕ
  older = s.older x

  abbrev younger : Option ℕ
  younger = s.younger x

  abbrev up : Option ℕ
  up = s.parent x

  own : IsSibling s up x
  own = record { parent = refl; live = live }

  -- who is live now was so, and is another
  still : (z : ℕ) → after.state z ≡ Some Live → (s.state z ≡ Some Live) × (z ≢ x)
  still z e = by_number z x
      (λ is. absurd (false≢true (sym ended ∙ live-is state (sym (put_same s.state x (Some state) z is) ∙ e))))
      (λ ne. (sym (put_other s.state x (Some state) z ne) ∙ e, ne))

  down : (q : Option ℕ) (z : ℕ) → IsSibling after q z → IsSibling s q z × (z ≢ x)
  down q z i = let l = still z i.live in (record { parent = i.parent; live = l.0 }, l.1)

  stays : (q : Option ℕ) (z : ℕ) → IsSibling s q z → z ≢ x → IsSibling after q z
  stays q z i ne = record { parent = i.parent; live = put_other s.state x (Some state) z ne ∙ i.live }

  -- its neighbours
  the_older : (o : ℕ) → older ≡ Some o → IsSibling s up o × (o < x) × ((z : ℕ) → IsSibling s up z → (z ≤ o) ⊎ (x ≤ z))
  the_older o is = subst (IsOlder s up x) is (h.older x live)

  the_younger : (y : ℕ) → younger ≡ Some y → IsSibling s up y × (x < y) × ((z : ℕ) → IsSibling s up z → (z ≤ x) ⊎ (y ≤ z))
  the_younger y is = subst (IsYounger s up x) is (h.younger x live)

  no_younger : younger ≡ None → (z : ℕ) → IsSibling s up z → z ≤ x
  no_younger none = subst (IsYounger s up x) none (h.younger x live)

  no_older_of : older ≡ None → (z : ℕ) → IsSibling s up z → x ≤ z
  no_older_of none = subst (IsOlder s up x) none (h.older x live)

  -- what stays of a youngest that is another
  youngest-kept : (q : Option ℕ) → s.youngest q ≢ Some x → IsYoungest after q (s.youngest q)
  youngest-kept q other = by_option (s.youngest q)
      (λ none. subst (IsYoungest after q) (sym none) (λ z i. subst (IsYoungest s q) none (h.youngest q) z (down q z i).0))
      (λ y is.
      let was = subst (IsYoungest s q) is (h.youngest q) in
      subst (IsYoungest after q) (sym is) (stays q y was.0 (λ e. other (is ∙ ap Some e)), λ z i. was.1 z (down q z i).0))

  youngest-here : younger ≡ None → IsYoungest after up older
  youngest-here none = by_option older
      (λ no. subst (IsYoungest after up) (sym no) (λ z i.
      let d = down up z i in
      let a = no_older_of no z d.0 in
      let b = no_younger none z d.0 in
      d.1 (omega arith)))
      (λ o is.
      let was = the_older o is in
      let lt = was.1 in
      subst (IsYoungest after up) (sym is) (
        stays up o was.0 (λ e. let same : o ≡ x = e in absurd (omega arith)),
        λ z i.
            let d = down up z i in
            let b = no_younger none z d.0 in
            let ne = d.1 in
            elim (was.2 z d.0) [ inl le ↦ le | inr ge ↦ absurd (ne (omega arith)) ],
      ))

  -- x is the youngest of its own siblings alone, and only where there is no younger one
  is_youngest : (q : Option ℕ) → s.youngest q ≡ Some x → (q ≡ up) × (younger ≡ None)
  is_youngest q is =
      let was = subst (IsYoungest s q) is (h.youngest q) in
      let same : q ≡ up = sym was.0.parent in (
        same,
        by_option younger (λ none. none) (λ y e.
            let next = the_younger y e in
            let le = was.1 y (record { parent = next.0.parent ∙ sym same; live = next.0.live }) in
            let lt = next.1 in
            absurd (omega arith)),
      )

  -- nobody is left below x
  abbrev closed_youngest : Option ℕ → Option ℕ
  closed_youngest = where_some younger s.youngest (put_youngest s.youngest up older)

  youngest-others : (q : Option ℕ) → IsYoungest after q (closed_youngest q)
  youngest-others q = by_option younger
      (λ none. by_parent q up
      (λ same. subst (λ v. IsYoungest after q v) (sym (ap (λ y. where_some y s.youngest (put_youngest s.youngest up older) q) none ∙ put_youngest_same s.youngest up older q same)) (subst (λ p. IsYoungest after p older) (sym same) (youngest-here none)))
      (λ ne. subst (λ v. IsYoungest after q v) (sym (ap (λ y. where_some y s.youngest (put_youngest s.youngest up older) q) none ∙ put_youngest_other s.youngest up older q ne)) (youngest-kept q (λ is. ne (is_youngest q is).0))))
      (λ y some. subst (λ v. IsYoungest after q v) (sym (ap (λ y. where_some y s.youngest (put_youngest s.youngest up older) q) some)) (youngest-kept q (λ is. none_some y (sym (is_youngest q is).1 ∙ some))))

  none_below : IsYoungest after (Some x) None
  none_below z i = childless z (down (Some x) z i).0

  youngest-after : (q : Option ℕ) → IsYoungest after q (after.youngest q)
  youngest-after q = by_parent q (Some x)
      (λ is. subst (IsYoungest after q) (sym (put_youngest_same closed_youngest (Some x) None q is)) (subst (λ p. IsYoungest after p None) (sym is) none_below))
      (λ ne. subst (IsYoungest after q) (sym (put_youngest_other closed_youngest (Some x) None q ne)) (youngest-others q))

  -- of two siblings that are next to one another, none lies between
  older-kept : (z : ℕ) → s.state z ≡ Some Live → s.older z ≢ Some x → IsOlder after (s.parent z) z (s.older z)
  older-kept z l other = by_option (s.older z)
      (λ none. subst (IsOlder after (s.parent z) z) (sym none) (λ w i. subst (IsOlder s (s.parent z) z) none (h.older z l) w (down (s.parent z) w i).0))
      (λ y is.
      let was = subst (IsOlder s (s.parent z) z) is (h.older z l) in
      subst (IsOlder after (s.parent z) z) (sym is) (stays (s.parent z) y was.0 (λ e. other (is ∙ ap Some e)), was.1, λ w i. was.2 w (down (s.parent z) w i).0))

  younger-kept : (z : ℕ) → s.state z ≡ Some Live → s.younger z ≢ Some x → IsYounger after (s.parent z) z (s.younger z)
  younger-kept z l other = by_option (s.younger z)
      (λ none. subst (IsYounger after (s.parent z) z) (sym none) (λ w i. subst (IsYounger s (s.parent z) z) none (h.younger z l) w (down (s.parent z) w i).0))
      (λ y is.
      let was = subst (IsYounger s (s.parent z) z) is (h.younger z l) in
      subst (IsYounger after (s.parent z) z) (sym is) (stays (s.parent z) y was.0 (λ e. other (is ∙ ap Some e)), was.1, λ w i. was.2 w (down (s.parent z) w i).0))

  -- x is the next older one of its next younger sibling alone
  is_older : (z : ℕ) → s.state z ≡ Some Live → s.older z ≡ Some x → younger ≡ Some z
  is_older z l is =
      let was = subst (IsOlder s (s.parent z) z) is (h.older z l) in
      let sibling : IsSibling s up z = record { parent = sym was.0.parent; live = l } in
      let lt = was.1 in
      by_option younger
      (λ none. let le = no_younger none z sibling in absurd (omega arith))
      (λ y some.
      let next = the_younger y some in
      let a = next.1 in
      let between = was.2 y (record { parent = next.0.parent ∙ was.0.parent; live = next.0.live }) in
      let same : y ≡ z = elim (next.2 z sibling) [ inl le ↦ absurd (omega arith) | inr ge ↦ elim between [ inl le ↦ absurd (omega arith) | inr ge2 ↦ omega arith ] ] in
      some ∙ ap Some same)

  is_younger : (z : ℕ) → s.state z ≡ Some Live → s.younger z ≡ Some x → older ≡ Some z
  is_younger z l is =
      let was = subst (IsYounger s (s.parent z) z) is (h.younger z l) in
      let sibling : IsSibling s up z = record { parent = sym was.0.parent; live = l } in
      let lt = was.1 in
      by_option older
      (λ none. let le = no_older_of none z sibling in absurd (omega arith))
      (λ o some.
      let next = the_older o some in
      let a = next.1 in
      let between = was.2 o (record { parent = next.0.parent ∙ was.0.parent; live = next.0.live }) in
      let same : o ≡ z = elim (next.2 z sibling) [ inl le ↦ elim between [ inl le2 ↦ omega arith | inr ge ↦ absurd (omega arith) ] | inr ge ↦ absurd (omega arith) ] in
      some ∙ ap Some same)

  -- over the gap
  over-older : (y : ℕ) → younger ≡ Some y → IsOlder after up y older
  over-older y is =
      let next = the_younger y is in
      let lt = next.1 in
      by_option older
      (λ none. subst (IsOlder after up y) (sym none) (λ w i.
      let d = down up w i in
      let a = no_older_of none w d.0 in
      let ne = d.1 in
      elim (next.2 w d.0) [ inl le ↦ absurd (ne (omega arith)) | inr ge ↦ ge ]))
      (λ o some.
      let was = the_older o some in
      let b = was.1 in
      subst (IsOlder after up y) (sym some) (
        stays up o was.0 (λ e. let same : o ≡ x = e in absurd (omega arith)),
        omega arith,
        λ w i.
            let d = down up w i in
            let ne = d.1 in
            elim (next.2 w d.0) [
              | inl le ↦ elim (was.2 w d.0) [ inl le2 ↦ inl le2 | inr ge ↦ absurd (ne (omega arith)) ]
              | inr ge ↦ inr ge
            ],
      ))

  over-younger : (o : ℕ) → older ≡ Some o → IsYounger after up o younger
  over-younger o is =
      let next = the_older o is in
      let lt = next.1 in
      by_option younger
      (λ none. subst (IsYounger after up o) (sym none) (λ w i.
      let d = down up w i in
      let a = no_younger none w d.0 in
      let ne = d.1 in
      elim (next.2 w d.0) [ inl le ↦ le | inr ge ↦ absurd (ne (omega arith)) ]))
      (λ y some.
      let was = the_younger y some in
      let b = was.1 in
      subst (IsYounger after up o) (sym some) (
        stays up y was.0 (λ e. let same : y ≡ x = e in absurd (omega arith)),
        omega arith,
        λ w i.
            let d = down up w i in
            let ne = d.1 in
            elim (next.2 w d.0) [
              | inl le ↦ inl le
              | inr ge ↦ elim (was.2 w d.0) [ inl le ↦ absurd (ne (omega arith)) | inr ge2 ↦ inr ge2 ]
            ],
      ))

  abbrev closed_older : ℕ → Option ℕ
  closed_older = put_at s.older younger (λ _. older)

  abbrev closed_younger : ℕ → Option ℕ
  closed_younger = put_at s.younger older (λ _. younger)

  older-after : (z : ℕ) → after.state z ≡ Some Live → IsOlder after (after.parent z) z (after.older z)
  older-after z l =
      let was = (still z l).0 in
      subst (IsOlder after (s.parent z) z) (sym (put_other closed_older x None z (still z l).1)) (by_parent younger (Some z)
      (λ is. subst (IsOlder after (s.parent z) z) (sym (put_at_same s.older younger (λ _. older) z is)) (subst (λ q. IsOlder after q z older) (sym (the_younger z is).0.parent) (over-older z is)))
      (λ ne. subst (IsOlder after (s.parent z) z) (sym (put_at_other s.older younger (λ _. older) z ne)) (older-kept z was (λ is. ne (is_older z was is)))))

  younger-after : (z : ℕ) → after.state z ≡ Some Live → IsYounger after (after.parent z) z (after.younger z)
  younger-after z l =
      let was = (still z l).0 in
      subst (IsYounger after (s.parent z) z) (sym (put_other closed_younger x None z (still z l).1)) (by_parent older (Some z)
      (λ is. subst (IsYounger after (s.parent z) z) (sym (put_at_same s.younger older (λ _. younger) z is)) (subst (λ q. IsYounger after q z younger) (sym (the_older z is).0.parent) (over-younger z is)))
      (λ ne. subst (IsYounger after (s.parent z) z) (sym (put_at_other s.younger older (λ _. younger) z ne)) (younger-kept z was (λ is. ne (is_younger z was is)))))

  -- a child less
  counts : (q i : ℕ) → i ≢ x → is_child_at s q i ≡ is_child_at after q i
  counts q i ne = ap (λ o. is_some_and (s.parent i) (λ p. p == q) && is_live o) (sym (put_other s.state x (Some state) i ne))

  own-dead : (q : ℕ) → is_child_at after q x ≡ false
  own-dead q = dead-not after q x (ap is_live (put_same s.state x (Some state) x refl) ∙ ended)

  abbrev closed_children : ℕ → ℕ
  closed_children = put_at s.children up (λ n. n - 1)

  children-others : (q : ℕ) → closed_children q ≡ count_below (is_child_at after q) s.count
  children-others q = by_parent up (Some q)
      (λ is.
      let less = count-less (is_child_at s q) (is_child_at after q) s.count x within (child-is s q x is live) (own-dead q) (counts q) in
      let was = h.children q in
      let now = put_at_same s.children up (λ n. n - 1) q is in
      omega arith)
      (λ ne. put_at_other s.children up (λ n. n - 1) q ne ∙ h.children q ∙ count-same (is_child_at s q) (is_child_at after q) s.count (λ i lt. by_number i x
      (λ e. ap (is_child_at s q) e ∙ child-not s q x ne ∙ sym (own-dead q) ∙ ap (is_child_at after q) (sym e))
      (counts q i)))
    where
      within : x < s.count
      within = elim (cases_lt x s.count) [ inl lt ↦ lt | inr ge ↦ absurd (none_live (sym (h.unbegun x ge) ∙ live)) ]

  -- none counts as a child of x
  no-child : (i : ℕ) → is_child_at after x i ≡ false
  no-child i = by_parent (s.parent i) (Some x)
      (λ is. by_test (is_live (after.state i))
      (λ k. absurd (childless i (record { parent = is; live = (still i (live-of (after.state i) k)).0 })))
      (λ k. dead-not after x i k))
      (λ ne. child-not after x i ne)

  children-after : (q : ℕ) → after.children q ≡ count_below (is_child_at after q) s.count
  children-after q = by_number q x
      (λ e. put_same closed_children x 0 q e ∙ sym (count-none (is_child_at after x) s.count (λ i lt. no-child i)) ∙ ap (λ p. count_below (is_child_at after p) s.count) (sym e))
      (λ ne. put_other closed_children x 0 q ne ∙ children-others q)

  -- how deep
  depth-after : (i : ℕ) → after.state i ≡ Some Live → DepthIs after (s.parent i) (after.depth i)
  depth-after i l =
      let was = still i l in
      subst (DepthIs after (s.parent i)) (sym (put_other s.depth x 0 i was.1)) (by_option (s.parent i)
      (λ none. subst (λ o. DepthIs after o (s.depth i)) (sym none) (subst (λ o. DepthIs s o (s.depth i)) none (h.depth i was.0)))
      (λ p some. subst (λ o. DepthIs after o (s.depth i)) (sym some) (subst (λ o. DepthIs s o (s.depth i)) some (h.depth i was.0)
      ∙ ap (λ n. n + 1) (sym (put_other s.depth x 0 p (λ same. childless i (record { parent = some ∙ ap Some same; live = was.0 })))))))

  pub ended-linked : AreLinked after
  ended-linked = record {
    begun = λ i lt. by_number i x (λ e. subst IsSome (sym (put_same s.state x (Some state) i e)) refl) (λ ne. subst IsSome (sym (put_other s.state x (Some state) i ne)) (h.begun i lt));
    unbegun = λ i ge. put_other s.state x (Some state) i (λ e. none_live (sym (h.unbegun x (subst (λ k. s.count ≤ k) e ge)) ∙ live)) ∙ h.unbegun i ge;
    kept = λ i. by_number i x
        (λ e. put_same s.kept x false i e ∙ sym ended ∙ sym (ap is_live (put_same s.state x (Some state) i e)))
        (λ ne. put_other s.kept x false i ne ∙ h.kept i ∙ sym (ap is_live (put_other s.state x (Some state) i ne)));
    lower = h.lower;
    live_parent = λ i p l e. let was = still i l in put_other s.state x (Some state) p (λ same. childless i (record { parent = e ∙ ap Some same; live = was.0 })) ∙ h.live_parent i p was.0 e;
    youngest = youngest-after;
    older = older-after;
    younger = younger-after;
    children = children-after;
    depth = depth-after;
  }
