-- The chains at each call's end.
use Rattle.std.proofs.Common.{◌≡◌, ◌≢◌, ℕ, List, [], ◌∷◌, ◌++◌, drop, length, Option, Some, None, IsSome, Bool, true, false, refl, sym, ap, subst, ◌∙◌, arith}
use Rattle.std.specs.Prelude.{not, Result, Ok, Err, OnOk, OnErr, is_some, ◌==◌, option_map, IsTrue, ◌↔◌}
use Rattle.std.specs.Option.{unwrap_or, option_flatten, option_copied}
use Rattle.std.specs.Borrow.{Bor}
use Rattle.std.specs.Ordering.{nat_cmp}
use Rattle.std.specs.Cmp.{nat_cmp_total}
use Rattle.std.specs.FinMap as finite
use Rattle.std.proofs.lemmas.Bool.{false≢true}
use Rattle.slab.specs.Slab.{Slab, get, with_value, Updates}
use Rattle.slab.proofs.SlabLemmas.{Updates-with_value}
use Rattle.ft_owned_lists.specs.declared.node.Node.{Node}
use Rattle.ft_owned_lists.specs.declared.node.Ends.{Ends}
use Rattle.ft_owned_lists.specs.OwnedLists.{Lists, list_in, spliced}
use Rattle.ft_owned_lists.specs.Linked.{AllEnds, ends_in, node, with_next, lists_of, HasKey, AreChainedBy, AreChained}
use Rattle.ft_owned_lists.proofs.ChainShape.{by_number, values, put, seen, list-seen, closed-chained, closed-seen}
use Rattle.ft_owned_lists.proofs.ChainMoves.{Made, one-made, set-by, none-by, some-by}

module _ {E : Type 0} where
  pub flat-some : (o : Option (Option E)) (x : E) → option_flatten o ≡ Some x → o ≡ Some (Some x)
  flat-some None x is = absurd (false≢true (ap is_some is))
  flat-some (Some o) x is = ap Some is

  pub flat-open : (o : Option (Option E)) → IsSome o → o ≡ Some (option_flatten o)
  flat-open None some = absurd (false≢true some)
  flat-open (Some o) some = refl

  pub flat-or : (o : Option (Option E)) → option_flatten o ≡ unwrap_or o None
  flat-or None = refl
  flat-or (Some o) = refl

  -- what is shared is what stands there
  pub shared : (r : Option (Bor E)) (x : Bor E) (o : Option E) → option_copied r ≡ o → r ≡ Some x → o ≡ Some x.now
  shared r x o value is = sym value ∙ ap option_copied is

  pub unshared : (r : Option (Bor E)) (o : Option E) → option_copied r ≡ o → r ≡ None → o ≡ None
  unshared r o value is = sym value ∙ ap option_copied is

  -- to put what is there changes nothing
  pub insert-same : (m : finite.FinMap nat_cmp E) (k : ℕ) (v : E) → finite.get m k ≡ Some v → finite.insert m k v ≡ m
  insert-same m k v is = finite.same_map nat_cmp_total finite.nat_cmp-IsAntisymmetric _ _ (λ q. finite.get-insert nat_cmp_total m k v q
      ∙ by_number (λ (o : Option E). o ≡ finite.get m q) q k (Some v) (finite.get m q) (λ e. sym is ∙ ap (finite.get m) (sym e)) (λ _. refl))

  pub get-other : (m : finite.FinMap nat_cmp E) (k : ℕ) (v : E) (q : ℕ) → q ≢ k → finite.get (finite.insert m k v) q ≡ finite.get m q
  get-other m k v q ne = finite.get-insert nat_cmp_total m k v q ∙ by_number (λ (o : Option E). o ≡ finite.get m q) q k (Some v) (finite.get m q) (λ e. absurd (ne e)) (λ _. refl)

module _ {T : Type 0} where
  pub node-up : (s s' : Slab (Node T)) (key : ℕ) (v : T) (next next' : Option ℕ) → next ≡ next' → Updates s s' key (Some (node v next)) → Updates s s' key (Some (node v next'))
  node-up s s' key v next next' is up = subst (λ n. Updates s s' key (Some (node v n))) is up

  pub next-up : (s s' : Slab (Node T)) (key : ℕ) (next next' : Option ℕ) → next ≡ next' → Updates s s' key (option_map (with_next next) (get s key)) → Updates s s' key (option_map (with_next next') (get s key))
  next-up s s' key next next' is up = subst (λ n. Updates s s' key (option_map (with_next n) (get s key))) is up

  pub made-in : (s : Slab (Node T)) (ends ends' : AllEnds) (m : Lists T) → ends' ≡ ends → Made s ends m → Made s ends' m
  made-in s ends ends' m is made = subst (λ e. Made s e m) (sym is) made

  no-key : (ps : List (ℕ × T)) (k : ℕ) → values ps ≡ [] → HasKey ps k → ⊥
  no-key [] k empty i = i
  no-key (p ∷ ps) k empty i = absurd (filled (ap length empty))
    where
      filled : length (values (p ∷ ps)) ≡ 0 → ⊥
      filled e = omega arith

  no-chains-by : (s : Slab (Node T)) (ends : AllEnds) → ends ≡ finite.empty → AreChainedBy (get s) ends (λ _. [])
  no-chains-by s ends is = record {
    linked = λ u. tt;
    ended = λ u. ap (λ (m : AllEnds). ends_in m u) is ∙ ap (λ (o : Option (Option Ends)). unwrap_or o None) (finite.get-empty nat_cmp u);
    single = λ u. tt;
    apart = λ u v k i. absurd i;
  }

  pub no-chains : (s : Slab (Node T)) (ends : AllEnds) → ends ≡ finite.empty → AreChained (get s) ends
  no-chains s ends is = ((λ _. []), no-chains-by s ends is)

  pub no-lists : (s : Slab (Node T)) (ends : AllEnds) → ends ≡ finite.empty → lists_of s ends ≡ finite.empty
  no-lists s ends is = finite.same_map nat_cmp_total finite.nat_cmp-IsAntisymmetric _ _ (λ q.
      seen s ends (λ _. []) (no-chains-by s ends is) q ∙ ap (λ (m : AllEnds). option_map (λ _. values []) (finite.get m q)) is
      ∙ ap (option_map (λ (_ : Option Ends). values [])) (finite.get-empty nat_cmp q) ∙ sym (finite.get-empty nat_cmp q))

  -- an open owner's list, put where it is
  pub put-list : (m : Lists T) (u : ℕ) → IsSome (finite.get m u) → finite.insert m u (list_in m u) ≡ m
  put-list m u some = by_value (finite.get m u) refl some
    where
      by_value : (o : Option (List T)) → finite.get m u ≡ o → IsSome o → finite.insert m u (list_in m u) ≡ m
      by_value None is some = absurd (false≢true some)
      by_value (Some xs) is some = ap (finite.insert m u) (ap (λ o. unwrap_or o []) is) ∙ insert-same m u xs is

  pub nothing-spliced : (m : Lists T) (source target : ℕ) → IsSome (finite.get m source) → IsSome (finite.get m target) → list_in m source ≡ [] → m ≡ spliced m source target
  nothing-spliced m source target from to empty =
      sym (put-list m target to) ∙ (λ i. finite.insert (sym (ap (finite.insert m source) (sym empty) ∙ put-list m source from) i) target (sym empty i ++ list_in m target))

  module _ (s : Slab (Node T)) (ends : AllEnds) (h : AreChained (get s) ends) where
    pub open-is : (u : ℕ) → is_some (finite.get (lists_of s ends) u) ≡ is_some (finite.get ends u)
    open-is u = ap is_some (seen s ends h.0 h.1 u) ∙ by_value (finite.get ends u)
      where
        by_value : (o : Option (Option Ends)) → is_some (option_map (λ _. values (h.0 u)) o) ≡ is_some o
        by_value None = refl
        by_value (Some e) = refl

    pub open-ends : (m : Lists T) → lists_of s ends ≡ m → (u : ℕ) → IsSome (finite.get m u) → IsSome (finite.get ends u)
    open-ends m is u some = sym (open-is u) ∙ ap (λ n. is_some (finite.get n u)) is ∙ some

    -- a slab that grew holds the same
    pub grown : (m : Lists T) → lists_of s ends ≡ m → (s' : Slab (Node T)) (c : ℕ) → s' ≡ record s { capacity = c } → Made s' ends m
    grown m is s' c same = subst (λ x. Made x ends m) (sym same) (record { sound = h; is = is })

    pub empty-list : (m : Lists T) → lists_of s ends ≡ m → (u : ℕ) (o : Option (Option Ends)) → finite.get ends u ≡ o → unwrap_or o None ≡ None → list_in m u ≡ []
    empty-list m is u o there none = ap (λ n. list_in n u) (sym is) ∙ none-by s s ends h.0 h.1 u (ap (λ x. unwrap_or x None) there ∙ none)

    pub opened : (u : ℕ) → finite.get ends u ≡ None → Made s (finite.insert ends u None) (finite.insert (lists_of s ends) u (list_in (lists_of s ends) u))
    opened u none =
        let e = empty-list (lists_of s ends) refl u None none refl in
        let one = one-made s s ends h.0 h.1 u [] None refl tt tt (λ q k ne i. refl) (λ q k ne i j. absurd i) in
        record { sound = (put h.0 u [], one.0); is = one.1 ∙ ap (finite.insert (lists_of s ends) u) (sym e) }

    pub closed : (u : ℕ) → list_in (lists_of s ends) u ≡ [] → Made s (finite.remove ends u) (finite.remove (lists_of s ends) u)
    closed u empty =
        let g = closed-chained s ends h.0 h.1 u (sym (list-seen s ends h.0 h.1 u) ∙ empty) in
        record { sound = (h.0, g); is = closed-seen s ends h.0 h.1 u (seen s (finite.remove ends u) h.0 g) }

    -- all lists are empty but one, and then that too
    pub cleared : (s' : Slab (Node T)) (u : ℕ) → ((q : ℕ) → q ≢ u → list_in (lists_of s ends) q ≡ []) → Made s' (finite.insert ends u None) (finite.insert (lists_of s ends) u [])
    cleared s' u alone =
        let one = one-made s s' ends h.0 h.1 u [] None refl tt tt (λ q k ne i. absurd (no-key (h.0 q) k (sym (list-seen s ends h.0 h.1 q) ∙ alone q ne) i)) (λ q k ne i j. absurd i) in
        record { sound = (put h.0 u [], one.0); is = one.1 }

    not-open : (u : ℕ) → is_some (finite.get ends u) ≡ false → finite.get ends u ≡ None
    not-open u none = by_value (finite.get ends u) none
      where
        by_value : (o : Option (Option Ends)) → is_some o ≡ false → o ≡ None
        by_value None e = refl
        by_value (Some x) e = absurd (false≢true (sym e))

    pub opened-sound : {A F : Type 0} (u : ℕ) (r : Result A F) (ends' : AllEnds) → is_some (finite.get ends u) ≡ false → OnOk r (ends' ≡ finite.insert ends u None) → OnErr r (ends' ≡ ends) → AreChained (get s) ends'
    opened-sound u (Ok x) ends' none ok err = subst (AreChained (get s)) (sym ok) (opened u (not-open u none)).sound
    opened-sound u (Err x) ends' none ok err = subst (AreChained (get s)) (sym err) h

    pub opened-is : (u : ℕ) (ends' : AllEnds) → is_some (finite.get ends u) ≡ false → (m : Lists T) → lists_of s ends ≡ m → ends' ≡ finite.insert ends u None → lists_of s ends' ≡ finite.insert m u (list_in m u)
    opened-is u ends' none m is set = ap (lists_of s) set ∙ (opened u (not-open u none)).is ∙ ap (λ n. finite.insert n u (list_in n u)) is

    pub emptiness : (m : Lists T) → lists_of s ends ≡ m → (u : ℕ) (o : Option (Option Ends)) → finite.get ends u ≡ o → (b : Bool) → is_some (option_flatten o) ≡ not b → IsTrue b ↔ (list_in m u ≡ [])
    emptiness m is u (Some (Some front)) there true test = absurd (false≢true (sym test))
    emptiness m is u (Some (Some front)) there false test =
        let some : (length (list_in m u) == 0) ≡ false = ap (λ n. length (list_in n u) == 0) (sym is) ∙ some-by s s ends h.0 h.1 u front there in
        ((λ yes. absurd (false≢true yes)), (λ empty. absurd (false≢true (sym some ∙ ap (λ xs. length xs == 0) empty))))
    emptiness m is u (Some None) there true test = ((λ yes. empty-list m is u (Some None) there refl), (λ empty. refl))
    emptiness m is u (Some None) there false test = absurd (false≢true test)
    emptiness m is u None there true test = ((λ yes. empty-list m is u None there refl), (λ empty. refl))
    emptiness m is u None there false test = absurd (false≢true test)

    -- another newest value of a list, in its place
    pub set-first : (u : ℕ) (front : Ends) (n : Node T) (v : T) → finite.get ends u ≡ Some (Some front) → get s front.first ≡ Some n
        → Made (with_value s front.first (node v n.next)) ends (finite.insert (lists_of s ends) u (v ∷ drop 1 (list_in (lists_of s ends) u)))
    set-first u front n v there at =
        let s' = with_value s front.first (node v n.next) in
        subst (λ e. Made s' e (finite.insert (lists_of s ends) u (v ∷ drop 1 (list_in (lists_of s ends) u)))) (insert-same ends u (Some front) there)
        (set-by s s' ends h.0 h.1 u front n v there at (Updates-with_value s front.first (node v n.next) (subst IsSome (sym at) refl)))

    pub open-still : (m : Lists T) → lists_of s ends ≡ m → (k : ℕ) (x : Option Ends) (j : ℕ) → k ≢ j → IsSome (finite.get m j) → IsSome (finite.get (finite.insert ends k x) j)
    open-still m is k x j ne some = subst IsSome (sym (get-other ends k x j (λ e. ne (sym e)))) (open-ends m is j some)
