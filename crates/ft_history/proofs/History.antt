-- What each event keeps of a history.
use Rattle.std.proofs.Common.{◌≡◌, ◌≢◌, ◌<◌, ◌≤◌, ℕ, Bool, true, false, not, cond, ◌||◌, ◌&&◌, Option, Some, None, List, [], ◌∷◌, ◌++◌, length, reverse, ◌+◌, inl, inr, sym, refl, ap, ◌∙◌, subst, arith, ◌==◌, eq-eqb, ne_eqb}
use Rattle.std.proofs.lemmas.Bool.{false≢true, and_parts, and_from, or_parts, or_from, or_left, or_right}
use Rattle.ft_laws.specs.Lists.{Each, Pairs, In}
use Rattle.ft_laws.specs.Calls.{Calls, Done}
use Rattle.ft_laws.specs.Laws.{Lawful}
use Rattle.ft_laws.proofs.Lists.{Each-append, Each-map, Each-both, Each-at, Each-from, Pairs-map, Pairs-push, In-front, In-back}
use Rattle.ft_laws.proofs.Tests.{by_test, by_option}
use Rattle.ft_history.specs.Forest.{IsForest, nearest}
use Rattle.ft_history.specs.Logs.{passing, joined, put, rest, popped}
use Rattle.ft_history.specs.History.{Base, Event, number, last_transaction, last_stamp, begun, parent, over, newest_below, is_committed, some_abort, is_gone, is_undone, IsLive, owner_of, grants, is_standing, standing, is_child, is_live, fate, live_children}
use Rattle.ft_history.specs.History.Event.{Begin, Call, Undo, Commit, Abort}
use Rattle.ft_history.specs.Locks.{owns_lock, is_blocker}
use Rattle.ft_history.specs.Legal.{MayBegin, MayGrant, MayCommit}
use Rattle.ft_history.specs.Ledger.{asker_of, lists}
use Rattle.ft_history.specs.Orders.{Covers, IsAbortOrder}
use Rattle.ft_history.proofs.Words.{put_same, put_other, by_number, by_list, none_some, moved, In-passing, passing-In, passing_agree, passing_push, passing_twice, In-reverse, Each-reverse, Pairs-reverse, Pairs-passing, not_true}
use Rattle.ft_history.proofs.Forest.{ForestLaws, climb, above_through, forest_laws, nearest_above, nearest_here, nearest_under, nearest_moved, above_grown, nearest_grown, none_below}
use Rattle.ft_history.proofs.Living.{lived, lives}
use Rattle.ft_history.proofs.Owning.{is_some, one_owns}
use Rattle.ft_history.proofs.Kept.{is_under, without, kept_agree, taken_owned, handed_kept}
use Rattle.ft_history.proofs.Holding.{Runs, runs_taken, runs_granted}
use Rattle.ft_history.proofs.Draining.{IsOrder}
use Rattle.ft_history.proofs.Aborting.{ended, stays, runs_dropped}

-- the calls but the one with the stamp k
passing_less : (C : Calls) (p r : Done C → Bool) (k : ℕ) (xs : List (Done C)) → ((x : Done C) → r x ≡ cond (number C x == k) false (p x)) → without C k (passing p xs) ≡ passing r xs
passing_less C p r k [] h = refl
passing_less C p r k (x ∷ xs) h = by_test (p x)
    (λ e. ap (λ b. without C k (cond b (x ∷ passing p xs) (passing p xs))) e ∙ by_number (number C x) k
    (λ is. ap (λ b. cond b (without C k (passing p xs)) (x ∷ without C k (passing p xs))) (eq-eqb (number C x) k is) ∙ passing_less C p r k xs h
    ∙ sym (ap (λ b. cond b (x ∷ passing r xs) (passing r xs)) (h x ∙ ap (λ b. cond b false (p x)) (eq-eqb (number C x) k is))))
    (λ ne. ap (λ b. cond b (without C k (passing p xs)) (x ∷ without C k (passing p xs))) (ne_eqb (number C x) k ne) ∙ ap (λ ys. x ∷ ys) (passing_less C p r k xs h)
    ∙ sym (ap (λ b. cond b (x ∷ passing r xs) (passing r xs)) (h x ∙ ap (λ b. cond b false (p x)) (ne_eqb (number C x) k ne) ∙ e))))
    (λ e. ap (λ b. without C k (cond b (x ∷ passing p xs) (passing p xs))) e ∙ passing_less C p r k xs h
    ∙ sym (ap (λ b. cond b (x ∷ passing r xs) (passing r xs)) (h x ∙ either (number C x == k) (p x) e)))
  where
    either : (b c : Bool) → c ≡ false → cond b false c ≡ false
    either true c e = refl
    either false c e = e

-- the owner of a call
abbrev pub owner : (C : Calls) → List (Event C) → Done C → Option ℕ
owner C h c = owner_of C h c.asker

module _ (C : Calls) (L : Lawful C) (base : Base C) where
  -- What holds of each legal history.
  pub record Sound (h : List (Event C)) : Type 0 where
    pub forest : IsForest (parent C h)
    pub since : (x p : ℕ) → parent C h x ≡ Some p → base.transaction < p
    pub counted : base.transaction ≤ last_transaction C base.transaction h
    pub numbers_rise : Pairs (λ x y. x < y) (begun C h)
    pub numbers_known : Each (λ x. (base.transaction < x) × (x ≤ last_transaction C base.transaction h)) (begun C h)
    pub numbers_all : (x : ℕ) → base.transaction < x → x ≤ last_transaction C base.transaction h → In x (begun C h)
    pub stamped : base.stamp ≤ last_stamp C base.stamp h
    pub stamps : Each (λ c. number C c ≤ last_stamp C base.stamp h) (grants C h)
    pub rising : Pairs (λ b a. number C b < number C a) (grants C h)
    pub askers : Each (λ c. c.asker ≤ last_transaction C base.transaction h) (grants C h)
    pub asked_since : Each (λ c. base.transaction < c.asker) (grants C h)
    pub asked : Each (λ c. asker_of C h (number C c) ≡ Some c.asker) (grants C h)
    pub live_up : (x p : ℕ) → IsLive C base.transaction h x → parent C h x ≡ Some p → IsLive C base.transaction h p
    pub undone_old : (k : ℕ) → last_stamp C base.stamp h < k → is_undone C h k ≡ false
    pub runs : Runs C (over C h) (owner C h) base.store (standing C h) (lists C h)

  module _ (h : List (Event C)) (sound : Sound h) where
    pub laws : ForestLaws (parent C h) (over C h)
    laws = forest_laws (parent C h) sound.forest

    -- a standing call, with what is known of it
    pub stands : (c : Done C) → In c (standing C h) → In c (grants C h) × (is_standing C h c ≡ true)
    stands c i = In-passing (is_standing C h) c (grants C h) i

    pub asker_known : (c : Done C) → In c (standing C h) → c.asker ≤ last_transaction C base.transaction h
    asker_known c i = Each-at (λ d. d.asker ≤ last_transaction C base.transaction h) (grants C h) c sound.askers (stands c i).0

    pub asker_there : (c : Done C) → In c (standing C h) → is_gone C h c.asker ≡ false
    asker_there c i = not_true (is_gone C h c.asker) (and_parts (not (is_undone C h (number C c))) (not (is_gone C h c.asker)) (stands c i).1).1

    pub stamp_known : (c : Done C) → In c (standing C h) → number C c ≤ last_stamp C base.stamp h
    stamp_known c i = Each-at (λ d. number C d ≤ last_stamp C base.stamp h) (grants C h) c sound.stamps (stands c i).0

    pub owner_gone : (x : ℕ) → is_gone C h x ≡ true → owner_of C h x ≡ None
    owner_gone x k = ap (λ b. cond b None (nearest (parent C h) (is_committed C h) x)) k

    pub owner_there : (x : ℕ) → is_gone C h x ≡ false → owner_of C h x ≡ nearest (parent C h) (is_committed C h) x
    owner_there x k = ap (λ b. cond b None (nearest (parent C h) (is_committed C h) x)) k

    -- an aborted one above an owner is above the asker
    pub gone_above : (g : List (Event C)) (o x : ℕ) → over C h o x ≡ true → some_abort C g (λ u. over C h u o) ≡ true → some_abort C g (λ u. over C h u x) ≡ true
    gone_above [] o x a k = absurd (false≢true k)
    gone_above (Begin n p ∷ g) o x a k = gone_above g o x a k
    gone_above (Call c ∷ g) o x a k = gone_above g o x a k
    gone_above (Undo j ∷ g) o x a k = gone_above g o x a k
    gone_above (Commit t ∷ g) o x a k = gone_above g o x a k
    gone_above (Abort t ∷ g) o x a k = by_test (over C h t o)
        (λ m. or_left (over C h t x) (some_abort C g (λ u. over C h u x)) (laws.along t o x m a))
        (λ m. or_right (over C h t x) (some_abort C g (λ u. over C h u x)) (gone_above g o x a (sym (ap (λ b. b || some_abort C g (λ u. over C h u o)) m) ∙ k)))

    -- an owner is live, and above the asker
    pub owner_live : (x o : ℕ) → x ≤ last_transaction C base.transaction h → owner_of C h x ≡ Some o → (over C h o x ≡ true) × (is_committed C h o ≡ false) × (is_gone C h o ≡ false) × (o ≤ last_transaction C base.transaction h) × (is_gone C h x ≡ false)
    owner_live x o begun is = by_test (is_gone C h x)
        (λ k. absurd (none_some o (sym (owner_gone x k) ∙ is)))
        (λ k.
        let near = nearest_above (parent C h) sound.forest (is_committed C h) o x (sym (owner_there x k) ∙ is) in
        let le : o ≤ x = laws.falls o x near.0 in
        (near.0, near.1, by_test (is_gone C h o) (λ m. absurd (false≢true (sym k ∙ gone_above h o x near.0 m))) (λ m. m), omega arith, k))

    -- what is above one begun since the base was begun since
    above_since : (o x : ℕ) → over C h o x ≡ true → base.transaction < x → base.transaction < o
    above_since o = climb (parent C h) sound.forest (λ x. over C h o x ≡ true → base.transaction < x → base.transaction < o)
        (λ x e a lt. let same = laws.at_top x o e a in omega arith)
        (λ x p e ih a lt. elim (laws.to_parent x p o e a) [
          | inl same ↦ omega arith
          | inr k ↦ ih k (sound.since x p e)
        ])

    -- The owner of a granted call is live.
    pub owner_is_live : (c : Done C) → In c (grants C h) → (o : ℕ) → owner C h c ≡ Some o → IsLive C base.transaction h o
    owner_is_live c i o e =
        let about = owner_live c.asker o (Each-at (λ d. d.asker ≤ last_transaction C base.transaction h) (grants C h) c sound.askers i) e in
        lives C base.transaction h o (record { since = above_since o c.asker about.0 (Each-at (λ d. base.transaction < d.asker) (grants C h) c sound.asked_since i); begun = about.3; uncommitted = about.1; there = about.2 })

    -- It is at or above the asker.
    pub owner_over : (c : Done C) → In c (grants C h) → (o : ℕ) → owner C h c ≡ Some o → over C h o c.asker ≡ true
    owner_over c i o e = (owner_live c.asker o (Each-at (λ d. d.asker ≤ last_transaction C base.transaction h) (grants C h) c sound.askers i) e).0

    -- A live transaction owns its calls itself.
    pub live_owner : (t : ℕ) → IsLive C base.transaction h t → owner_of C h t ≡ Some t
    live_owner t live = let l = lived C base.transaction h t live in owner_there t l.there ∙ nearest_here (parent C h) sound.forest (is_committed C h) t l.uncommitted

    -- Only live transactions have lists.
    pub list_live : (x : ℕ) (c : Done C) → In c (lists C h x) → IsLive C base.transaction h x
    list_live x c i = let own = sound.runs.kept.owned x c i in owner_is_live c (stands c own.0).0 x own.1

    pub no_list : (x : ℕ) → (IsLive C base.transaction h x → ⊥) → lists C h x ≡ []
    no_list x ended = by_list (lists C h x) (λ e. e) (λ c cs e. absurd (ended (list_live x c (subst (In c) (sym e) (inl refl)))))

    -- An abort may take the lists in such an order,
    pub lists_order : (t : ℕ) (xs : List ℕ) → IsAbortOrder C base.transaction h t xs → IsOrder (over C h) t (lists C h) xs
    lists_order t xs order = record { below = order.below; before = order.before; others = λ y a out. no_list y (λ live. out (order.all y a live)) }

    -- as from the newest on.
    pub newest_order : (t : ℕ) → IsAbortOrder C base.transaction h t (newest_below C h t)
    newest_order t =
        let xs : List ℕ = passing (over C h t) (begun C h) in
        record {
          below = Each-reverse (λ x. over C h t x ≡ true) xs (Each-from (λ x. over C h t x ≡ true) xs (λ x i. (In-passing (over C h t) x (begun C h) i).1));
          before = Pairs-map (λ x y. y < x) (λ x y. over C h x y ≡ false)
              (λ x y lt. by_test (over C h x y) (λ a. let le = laws.falls x y a in absurd (omega arith)) (λ k. k))
              (reverse xs) (Pairs-reverse (λ x y. x < y) xs (Pairs-passing (λ x y. x < y) (over C h t) (begun C h) sound.numbers_rise));
          all = λ x a live. let l = lived C base.transaction h x live in In-reverse x xs (passing-In (over C h t) x (begun C h) (sound.numbers_all x l.since l.begun) a);
        }

    -- Begin
    module _ (n : ℕ) (p : Option ℕ) (may : MayBegin C base.transaction h n p) where
      begin_agree : (x : ℕ) → x < n → parent C (Begin n p ∷ h) x ≡ parent C h x
      begin_agree x lt = put_other (parent C h) n p x (omega arith)

      pub begin_forest : IsForest (parent C (Begin n p ∷ h))
      begin_forest x q e = by_number x n
          (λ is. let le = (lived C base.transaction h q (may.live q (sym (put_same (parent C h) n p x is) ∙ e))).begun in let next = may.next in omega arith)
          (λ ne. sound.forest x q (sym (put_other (parent C h) n p x ne) ∙ e))

      pub begin_over : (y x : ℕ) → x ≤ last_transaction C base.transaction h → over C (Begin n p ∷ h) y x ≡ over C h y x
      begin_over y x le = let next = may.next in above_grown (parent C h) (parent C (Begin n p ∷ h)) sound.forest begin_forest n begin_agree y x (omega arith)

      pub begin_gone : (x : ℕ) → x ≤ last_transaction C base.transaction h → is_gone C (Begin n p ∷ h) x ≡ is_gone C h x
      begin_gone x le = λ i. some_abort C h (λ u. begin_over u x le i)

      pub begin_owner : (x : ℕ) → x ≤ last_transaction C base.transaction h → owner_of C (Begin n p ∷ h) x ≡ owner_of C h x
      begin_owner x le =
          let next = may.next in
          ap (λ b. cond b None (nearest (parent C (Begin n p ∷ h)) (is_committed C h) x)) (begin_gone x le)
          ∙ ap (λ o. cond (is_gone C h x) None o) (nearest_grown (parent C h) (parent C (Begin n p ∷ h)) sound.forest begin_forest n begin_agree (is_committed C h) x (omega arith))

      begin_live : (x : ℕ) → IsLive C base.transaction h x → IsLive C base.transaction (Begin n p ∷ h) x
      begin_live x live =
          let l = lived C base.transaction h x live in
          let le = l.begun in
          let next = may.next in
          lives C base.transaction (Begin n p ∷ h) x (record { since = l.since; begun = omega arith; uncommitted = l.uncommitted; there = begin_gone x l.begun ∙ l.there })

      pub begin_was_live : (x : ℕ) → x ≤ last_transaction C base.transaction h → IsLive C base.transaction (Begin n p ∷ h) x → IsLive C base.transaction h x
      begin_was_live x le live =
          let l = lived C base.transaction (Begin n p ∷ h) x live in
          lives C base.transaction h x (record { since = l.since; begun = le; uncommitted = l.uncommitted; there = sym (begin_gone x le) ∙ l.there })

      begin_covers : (o w : Option ℕ) → ((x : ℕ) → w ≡ Some x → x ≤ last_transaction C base.transaction h) → Covers (over C h) o w → Covers (over C (Begin n p ∷ h)) o w
      begin_covers None w k c = tt
      begin_covers (Some y) None k c = absurd c
      begin_covers (Some y) (Some x) k c = begin_over y x (k x refl) ∙ c

      pub begin_standing : standing C (Begin n p ∷ h) ≡ standing C h
      begin_standing = passing_agree (is_standing C (Begin n p ∷ h)) (is_standing C h) (grants C h)
          (Each-map (λ c. c.asker ≤ last_transaction C base.transaction h) (λ c. is_standing C (Begin n p ∷ h) c ≡ is_standing C h c) (λ c le. ap (λ b. not (is_undone C h (number C c)) && not b) (begin_gone c.asker le)) (grants C h) sound.askers)

      pub sound_begin : Sound (Begin n p ∷ h)
      sound_begin = record {
        forest = begin_forest;
        since = λ x q e. by_number x n
            (λ is. (lived C base.transaction h q (may.live q (sym (put_same (parent C h) n p x is) ∙ e))).since)
            (λ ne. sound.since x q (sym (put_other (parent C h) n p x ne) ∙ e));
        asked_since = sound.asked_since;
        counted = let le = sound.counted in let next = may.next in omega arith;
        numbers_rise = let next = may.next in Pairs-push (λ x y. x < y) (begun C h) n sound.numbers_rise
            (Each-map (λ x. (base.transaction < x) × (x ≤ last_transaction C base.transaction h)) (λ x. x < n) (λ x k. let le = k.1 in omega arith) (begun C h) sound.numbers_known);
        numbers_known = let le = sound.counted in let next = may.next in Each-append (λ x. (base.transaction < x) × (x ≤ n)) (begun C h) (n ∷ [])
            (Each-map (λ x. (base.transaction < x) × (x ≤ last_transaction C base.transaction h)) (λ x. (base.transaction < x) × (x ≤ n)) (λ x k. let old = k.1 in (k.0, omega arith)) (begun C h) sound.numbers_known)
            ((omega arith, omega arith), tt);
        numbers_all = λ x since last. let next = may.next in by_number x n
            (λ is. In-back x (begun C h) (n ∷ []) (inl is))
            (λ ne. In-front x (begun C h) (n ∷ []) (sound.numbers_all x since (omega arith)));
        stamped = sound.stamped;
        stamps = sound.stamps;
        rising = sound.rising;
        askers = let next = may.next in Each-map (λ c. c.asker ≤ last_transaction C base.transaction h) (λ c. c.asker ≤ n) (λ c le. omega arith) (grants C h) sound.askers;
        asked = sound.asked;
        live_up = λ x q live up. by_number x n
            (λ is. begin_live q (may.live q (sym (put_same (parent C h) n p x is) ∙ up)))
            (λ ne. let le = (lived C base.transaction (Begin n p ∷ h) x live).begun in let next = may.next in
            begin_live q (sound.live_up x q (begin_was_live x (omega arith) live) (sym (put_other (parent C h) n p x ne) ∙ up)));
        undone_old = sound.undone_old;
        runs = subst (λ cs. Runs C (over C (Begin n p ∷ h)) (owner C (Begin n p ∷ h)) base.store cs (lists C h)) (sym begin_standing) (record {
          able = sound.runs.able;
          faithful = sound.runs.faithful;
          kept = kept_agree C (over C h) (over C (Begin n p ∷ h)) (owner C h) (owner C (Begin n p ∷ h)) (standing C h) (lists C h)
              (λ c i. begin_owner c.asker (asker_known c i))
              (λ a b i j. begin_covers (owner C h a) (owner C h b) (λ x e. (owner_live b.asker x (asker_known b j) e).3))
              sound.runs.kept;
        });
      }

    -- Call
    module _ (c : Done C) (may : MayGrant C base h c) where
      call_live : (x : ℕ) → IsLive C base.transaction h x → IsLive C base.transaction (Call c ∷ h) x
      call_live x live = live

      pub call_was_live : (x : ℕ) → IsLive C base.transaction (Call c ∷ h) x → IsLive C base.transaction h x
      call_was_live x live = live

      call_newer : Each (λ b. number C b < number C c) (grants C h)
      call_newer = let next = may.next in Each-map (λ b. number C b ≤ last_stamp C base.stamp h) (λ b. number C b < number C c) (λ b le. omega arith) (grants C h) sound.stamps

      pub standing_newer : Each (λ b. number C b < number C c) (standing C h)
      standing_newer = Each-from (λ b. number C b < number C c) (standing C h) (λ b i. Each-at (λ d. number C d < number C c) (grants C h) b call_newer (stands b i).0)

      pub call_owner : owner_of C h c.asker ≡ Some c.asker
      call_owner = live_owner c.asker may.live

      call_covers : (o : Option ℕ) → ((y : ℕ) → o ≡ Some y → over C h y c.asker ≡ true) → Covers (over C h) o (Some c.asker)
      call_covers None k = tt
      call_covers (Some y) k = k y refl

      -- the owners of conflicting calls are at or above the asker
      pub unblocked_over : (b : Done C) → In b (grants C h) → (y : ℕ) → owner C h b ≡ Some y → C.conflict b.accesses c.accesses ≡ true → over C h y c.asker ≡ true
      unblocked_over b i y e k = by_test (over C h y c.asker) (λ m. m) (λ m.
          let l = lived C base.transaction h y (owner_is_live b i y e) in
          let owns = one_owns C h y (λ f. C.conflict f c.accesses) (record { call = b; granted = i; owner = e; asker = refl; passes = k }) in
          let blocks = and_from (owns_lock C h y (λ f. C.conflict f c.accesses)) (not (over C h y c.asker)) owns (ap not m) in
          absurd (subst (In y) may.unblocked (passing-In (is_blocker C h c.asker c.accesses) y (begun C h) (sound.numbers_all y l.since l.begun) blocks)))

      pub call_standing : standing C (Call c ∷ h) ≡ standing C h ++ c ∷ []
      call_standing = passing_push (is_standing C h) (grants C h) c (ap (λ b. not b && not (is_gone C h c.asker)) (sound.undone_old (number C c) may.next) ∙ ap not (lived C base.transaction h c.asker may.live).there)

      pub call_allowed : Each (λ b. C.conflict b.accesses c.accesses ≡ true → Covers (over C h) (owner C h b) (Some c.asker)) (standing C h)
      call_allowed = Each-from (λ b. C.conflict b.accesses c.accesses ≡ true → Covers (over C h) (owner C h b) (Some c.asker)) (standing C h)
          (λ b i k. call_covers (owner C h b) (λ y e. unblocked_over b (stands b i).0 y e k))

      pub sound_call : Sound (Call c ∷ h)
      sound_call = record {
        forest = sound.forest;
        since = sound.since;
        asked_since = Each-append (λ b. base.transaction < b.asker) (grants C h) (c ∷ []) sound.asked_since ((lived C base.transaction h c.asker may.live).since, tt);
        counted = sound.counted;
        numbers_rise = sound.numbers_rise;
        numbers_known = sound.numbers_known;
        numbers_all = sound.numbers_all;
        stamped = let le = sound.stamped in let next = may.next in omega arith;
        stamps = Each-append (λ b. number C b ≤ number C c) (grants C h) (c ∷ []) (Each-map (λ b. number C b < number C c) (λ b. number C b ≤ number C c) (λ b lt. omega arith) (grants C h) call_newer) (omega arith, tt);
        rising = Pairs-push (λ b a. number C b < number C a) (grants C h) c sound.rising call_newer;
        askers = Each-append (λ b. b.asker ≤ last_transaction C base.transaction h) (grants C h) (c ∷ []) sound.askers ((lived C base.transaction h c.asker may.live).begun, tt);
        asked = Each-append (λ b. asker_of C (Call c ∷ h) (number C b) ≡ Some b.asker) (grants C h) (c ∷ [])
            (Each-both (λ b. number C b < number C c) (λ b. asker_of C h (number C b) ≡ Some b.asker) (λ b. asker_of C (Call c ∷ h) (number C b) ≡ Some b.asker)
            (λ b lt e. ap (λ x. cond x (Some c.asker) (asker_of C h (number C b))) (ne_eqb (number C b) (number C c) (λ is. absurd (omega arith))) ∙ e) (grants C h) call_newer sound.asked)
            (ap (λ x. cond x (Some c.asker) (asker_of C h (number C c))) (eq-eqb (number C c) (number C c) refl), tt);
        live_up = λ x q live up. call_live q (sound.live_up x q (call_was_live x live) up);
        undone_old = λ k lt. let next = may.next in sound.undone_old k (omega arith);
        runs = subst (λ cs. Runs C (over C h) (owner C h) base.store cs (lists C (Call c ∷ h))) (sym call_standing)
            (runs_granted C L (over C h) (owner C h) base.store (standing C h) (lists C h) sound.runs c.asker c call_owner may.ready standing_newer may.fits call_allowed);
      }

    -- a live child is listed
    pub child_listed : (t x : ℕ) → IsLive C base.transaction h x → parent C h x ≡ Some t → In x (live_children C base.transaction h t)
    child_listed t x live up =
        let l = lived C base.transaction h x live in
        passing-In (λ y. is_child C h t y && is_live (fate C base.transaction h y)) x (begun C h) (sound.numbers_all x l.since l.begun)
        (and_from (is_child C h t x) (is_live (fate C base.transaction h x)) (is_some (parent C h x) t up) (ap is_live live))

    pub childless : (t : ℕ) → live_children C base.transaction h t ≡ [] → (x : ℕ) → IsLive C base.transaction h x → parent C h x ≡ Some t → ⊥
    childless t none x live up = subst (In x) none (child_listed t x live up)

    -- where t has no live child, the lists below it are empty
    below_empty : (t : ℕ) → live_children C base.transaction h t ≡ [] → (x : ℕ) → over C h t x ≡ true → x ≢ t → lists C h x ≡ []
    below_empty t none x a ne = no_list x (none_below (parent C h) sound.forest (IsLive C base.transaction h) t (λ y p live up k. sound.live_up y p live up) (childless t none) x a ne)

    -- Undo, of the newest call of t's list, which t asked for
    module _ (t : ℕ) (d : Done C) (ds : List (Done C)) (live : IsLive C base.transaction h t) (none : live_children C base.transaction h t ≡ []) (newest : lists C h t ≡ d ∷ ds) (own : d.asker ≡ t) where
      undo_in : In d (standing C h)
      undo_in = (taken_owned C (over C h) (owner C h) (standing C h) (lists C h) sound.runs.kept t d ds newest).0

      pub undo_asker : asker_of C h (number C d) ≡ Some t
      undo_asker = Each-at (λ c. asker_of C h (number C c) ≡ Some c.asker) (grants C h) d sound.asked (stands d undo_in).0 ∙ ap Some own

      pub undo_lists : lists C (Undo (number C d) ∷ h) ≡ put (lists C h) t ds
      undo_lists = ap (popped (lists C h)) undo_asker ∙ ap (λ xs. put (lists C h) t (rest xs)) newest

      undo_live : (x : ℕ) → IsLive C base.transaction h x → IsLive C base.transaction (Undo (number C d) ∷ h) x
      undo_live x was = was

      pub undo_was_live : (x : ℕ) → IsLive C base.transaction (Undo (number C d) ∷ h) x → IsLive C base.transaction h x
      undo_was_live x now = now

      undo_test : (b u g : Bool) → (not (b || u) && not g) ≡ cond b false (not u && not g)
      undo_test true u g = refl
      undo_test false u g = refl

      pub undo_standing : standing C (Undo (number C d) ∷ h) ≡ without C (number C d) (standing C h)
      undo_standing = sym (passing_less C (is_standing C h) (is_standing C (Undo (number C d) ∷ h)) (number C d) (grants C h)
          (λ c. undo_test (number C c == number C d) (is_undone C h (number C c)) (is_gone C h c.asker)))

      -- the lists below t's have none
      pub undo_older : (x : ℕ) → over C h t x ≡ true → x ≢ t → Each (λ y. number C y < number C d) (lists C h x)
      undo_older x a ne = subst (Each (λ y. number C y < number C d)) (sym (below_empty t none x a ne)) tt

      pub sound_undo : Sound (Undo (number C d) ∷ h)
      sound_undo = record {
        forest = sound.forest;
        since = sound.since;
        asked_since = sound.asked_since;
        counted = sound.counted;
        numbers_rise = sound.numbers_rise;
        numbers_known = sound.numbers_known;
        numbers_all = sound.numbers_all;
        stamped = sound.stamped;
        stamps = sound.stamps;
        rising = sound.rising;
        askers = sound.askers;
        asked = sound.asked;
        live_up = λ x q now up. undo_live q (sound.live_up x q (undo_was_live x now) up);
        undone_old = λ j lt. let le = stamp_known d undo_in in or_from (j == number C d) (is_undone C h j) (ne_eqb j (number C d) (λ e. absurd (omega arith))) (sound.undone_old j lt);
        runs = subst (Runs C (over C h) (owner C h) base.store (standing C (Undo (number C d) ∷ h))) (sym undo_lists) (subst (λ cs. Runs C (over C h) (owner C h) base.store cs (put (lists C h) t ds)) (sym undo_standing)
            (runs_taken C L (over C h) (owner C h) base.store (standing C h) (lists C h) sound.runs t d ds newest undo_older));
      }

    -- Commit
    module _ (t : ℕ) (may : MayCommit C base.transaction h t) where
      commit_live : (x : ℕ) → x ≢ t → IsLive C base.transaction h x → IsLive C base.transaction (Commit t ∷ h) x
      commit_live x ne was =
          let l = lived C base.transaction h x was in
          lives C base.transaction (Commit t ∷ h) x (record { since = l.since; begun = l.begun; uncommitted = or_from (x == t) (is_committed C h x) (ne_eqb x t ne) l.uncommitted; there = l.there })

      pub commit_was_live : (x : ℕ) → IsLive C base.transaction (Commit t ∷ h) x → IsLive C base.transaction h x × (x ≢ t)
      commit_was_live x now =
          let l = lived C base.transaction (Commit t ∷ h) x now in
          let parts = or_parts (x == t) (is_committed C h x) l.uncommitted in
          (lives C base.transaction h x (record { since = l.since; begun = l.begun; uncommitted = parts.1; there = l.there }), λ e. false≢true (sym parts.0 ∙ eq-eqb x t e))

      -- At a commit the parent inherits.
      pub commit_owner : (x : ℕ) → owner_of C (Commit t ∷ h) x ≡ moved t (parent C h t) (owner_of C h x)
      commit_owner x = by_test (is_gone C h x)
          (λ k. ap (λ b. cond b None (nearest (parent C h) (is_committed C (Commit t ∷ h)) x)) k ∙ sym (ap (moved t (parent C h t)) (owner_gone x k)))
          (λ k. ap (λ b. cond b None (nearest (parent C h) (is_committed C (Commit t ∷ h)) x)) k
          ∙ nearest_moved (parent C h) sound.forest (is_committed C h) t (λ p up. (lived C base.transaction h p (sound.live_up t p may.live up)).uncommitted) x
          ∙ sym (ap (moved t (parent C h t)) (owner_there x k)))

      pub sound_commit : Sound (Commit t ∷ h)
      sound_commit = record {
        forest = sound.forest;
        since = sound.since;
        asked_since = sound.asked_since;
        counted = sound.counted;
        numbers_rise = sound.numbers_rise;
        numbers_known = sound.numbers_known;
        numbers_all = sound.numbers_all;
        stamped = sound.stamped;
        stamps = sound.stamps;
        rising = sound.rising;
        askers = sound.askers;
        asked = sound.asked;
        live_up = λ x q now up.
            let was = commit_was_live x now in
            commit_live q (λ e. childless t may.no_child x was.0 (up ∙ ap Some e)) (sound.live_up x q was.0 up);
        undone_old = sound.undone_old;
        runs = record {
          able = sound.runs.able;
          faithful = sound.runs.faithful;
          kept = kept_agree C (over C h) (over C h) (λ c. moved t (parent C h t) (owner C h c)) (owner C (Commit t ∷ h)) (standing C h) (lists C (Commit t ∷ h))
              (λ c i. commit_owner c.asker) (λ a b i j k. k)
              (handed_kept C (over C h) (owner C h) (standing C h) (lists C h) sound.runs.kept (parent C h) laws t (parent C h t) refl);
        };
      }

    -- Abort
    module _ (t : ℕ) (live : IsLive C base.transaction h t) where
      abort_live : (x : ℕ) → over C h t x ≡ false → IsLive C base.transaction h x → IsLive C base.transaction (Abort t ∷ h) x
      abort_live x out was =
          let l = lived C base.transaction h x was in
          lives C base.transaction (Abort t ∷ h) x (record { since = l.since; begun = l.begun; uncommitted = l.uncommitted; there = or_from (over C h t x) (is_gone C h x) out l.there })

      pub abort_was_live : (x : ℕ) → IsLive C base.transaction (Abort t ∷ h) x → IsLive C base.transaction h x × (over C h t x ≡ false)
      abort_was_live x now =
          let l = lived C base.transaction (Abort t ∷ h) x now in
          let parts = or_parts (over C h t x) (is_gone C h x) l.there in
          (lives C base.transaction h x (record { since = l.since; begun = l.begun; uncommitted = l.uncommitted; there = parts.1 }), parts.0)

      -- the owner is at or below t exactly where the asker is
      pub abort_under : (x : ℕ) → is_gone C h x ≡ false → is_under (over C h) t (owner_of C h x) ≡ over C h t x
      abort_under x k = by_test (over C h t x)
          (λ a.
          let near = nearest_under (parent C h) sound.forest (is_committed C h) t x (lived C base.transaction h t live).uncommitted a in
          ap (is_under (over C h) t) (owner_there x k ∙ near.1) ∙ near.2 ∙ sym a)
          (λ a. by_option (owner_of C h x)
          (λ e. ap (is_under (over C h) t) e ∙ sym a)
          (λ o e. by_test (over C h t o)
          (λ m. absurd (false≢true (sym a ∙ laws.along t o x m (nearest_above (parent C h) sound.forest (is_committed C h) o x (sym (owner_there x k) ∙ e)).0)))
          (λ m. ap (is_under (over C h) t) e ∙ m ∙ sym a)))

      pub abort_owner : (x : ℕ) → owner_of C (Abort t ∷ h) x ≡ ended (over C h) t (owner_of C h x)
      abort_owner x = by_test (is_gone C h x)
          (λ k. ap (λ b. cond b None (nearest (parent C h) (is_committed C h) x)) (or_right (over C h t x) (is_gone C h x) k)
          ∙ sym (ap (ended (over C h) t) (owner_gone x k)))
          (λ k. both (over C h t x) (is_gone C h x) (nearest (parent C h) (is_committed C h) x) k
          ∙ sym (ap (λ o. cond (over C h t x) None o) (owner_there x k)) ∙ sym (ap (λ b. cond b None (owner_of C h x)) (abort_under x k)))
        where
          both : (a g : Bool) (o : Option ℕ) → g ≡ false → cond (a || g) None o ≡ cond a None o
          both true g o k = refl
          both false g o k = ap (λ b. cond b None o) k

      abort_runs : Runs C (over C h) (λ c. ended (over C h) t (owner C h c)) base.store (passing (stays (over C h) (owner C h) t) (standing C h)) (lists C (Abort t ∷ h))
          × (length (passing (stays (over C h) (owner C h) t) (standing C h)) + length (joined (lists C h) (newest_below C h t)) ≡ length (standing C h))
      abort_runs = runs_dropped C L (parent C h) (over C h) laws (owner C h) base.store t (standing C h) (lists C h) (newest_below C h t) (lists_order t (newest_below C h t) (newest_order t)) sound.runs

      abort_stays : (c : Done C) → is_standing C (Abort t ∷ h) c ≡ cond (is_standing C h c) (stays (over C h) (owner C h) t c) false
      abort_stays c = by_test (is_gone C h c.asker)
          (λ k. gone (is_undone C h (number C c)) (over C h t c.asker) (is_gone C h c.asker) (not (is_under (over C h) t (owner C h c))) k)
          (λ k. there (is_undone C h (number C c)) (over C h t c.asker) (is_gone C h c.asker) k
          ∙ sym (ap (λ b. cond (is_standing C h c) (not b) false) (abort_under c.asker k)))
        where
          gone : (u a g s : Bool) → g ≡ true → (not u && not (a || g)) ≡ cond (not u && not g) s false
          gone true a g s k = refl
          gone false true true s k = refl
          gone false false true s k = refl
          gone false true false s k = absurd (false≢true k)
          gone false false false s k = absurd (false≢true k)

          there : (u a g : Bool) → g ≡ false → (not u && not (a || g)) ≡ cond (not u && not g) (not a) false
          there true a g k = refl
          there false true g k = sym (ap (λ b. cond (not b) false false) k)
          there false false g k = ap (λ b. not b) k ∙ sym (ap (λ b. cond (not b) true false) k)

      pub abort_standing : standing C (Abort t ∷ h) ≡ passing (stays (over C h) (owner C h) t) (standing C h)
      abort_standing = sym (passing_twice (is_standing C h) (stays (over C h) (owner C h) t) (is_standing C (Abort t ∷ h)) (grants C h)
          (Each-from (λ c. is_standing C (Abort t ∷ h) c ≡ cond (is_standing C h c) (stays (over C h) (owner C h) t c) false) (grants C h) (λ c i. abort_stays c)))

      pub sound_abort : Sound (Abort t ∷ h)
      sound_abort = record {
        forest = sound.forest;
        since = sound.since;
        asked_since = sound.asked_since;
        counted = sound.counted;
        numbers_rise = sound.numbers_rise;
        numbers_known = sound.numbers_known;
        numbers_all = sound.numbers_all;
        stamped = sound.stamped;
        stamps = sound.stamps;
        rising = sound.rising;
        askers = sound.askers;
        asked = sound.asked;
        live_up = λ x q now up.
            let was = abort_was_live x now in
            abort_live q (by_test (over C h t q)
            (λ m. absurd (false≢true (sym was.1 ∙ above_through (parent C h) sound.forest t x q up m)))
            (λ m. m)) (sound.live_up x q was.0 up);
        undone_old = sound.undone_old;
        runs = subst (λ own. Runs C (over C h) own base.store (standing C (Abort t ∷ h)) (lists C (Abort t ∷ h))) (λ i c. sym (abort_owner c.asker) i)
            (subst (λ cs. Runs C (over C h) (λ c. ended (over C h) t (owner C h c)) base.store cs (lists C (Abort t ∷ h))) (sym abort_standing) abort_runs.0);
      }
