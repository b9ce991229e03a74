-- The calls by rising ranks are those of each rank, one rank behind another; so the serial list is
-- the standing calls by the places of their roots.
use Rattle.std.proofs.Common.{◌≡◌, ◌≢◌, ◌<◌, ◌≤◌, ◌+◌, ℕ, zero, suc, true, false, not, cond, is_some, List, [], ◌∷◌, ◌++◌, ◌⊎◌, nat_lt, inl, inr, length, sym, refl, ap, ◌∙◌, subst, arith, ◌==◌, eq-eqb, ne_eqb, append-nil, append_assoc}
use Rattle.std.proofs.lemmas.Bool.{false≢true, or_left, or_right, or_from, le-ltb, lt-ltb}
use Rattle.ft_laws.specs.Lists.{Each, Pairs, In, any}
use Rattle.ft_laws.specs.Calls.{Calls, Same, Done, Fits}
use Rattle.ft_laws.specs.Laws.{Lawful}
use Rattle.ft_laws.specs.Runs.{run, Faithful, Able, insert_by, sort_by, Respects}
use Rattle.ft_laws.proofs.Lists.{Each-append, Each-front, Each-map, Each-at, Each-from, Pairs-map, Pairs-append, Pairs-before}
use Rattle.ft_laws.proofs.Tests.{by_test}
use Rattle.ft_laws.proofs.Running.{along_front}
use Rattle.ft_laws.proofs.Exchanging.{may_be_sorted, each_sort, able_sort}
use Rattle.ft_history.specs.Logs.{passing, joined}
use Rattle.ft_history.specs.History.{Base, Event, parent, is_committed, standing}
use Rattle.ft_history.specs.History.Event.{Begin, Call, Undo, Commit, Abort}
use Rattle.ft_history.specs.Legal.{outcome, Legal}
use Rattle.ft_history.specs.Serial.{place, root_of, committed_roots, committed_part, open_part, serial_list, IsSerialPair, SerialOrder, Serial}
use Rattle.ft_history.proofs.Words.{by_number, passing_agree, Pairs-front}
use Rattle.ft_history.proofs.Legal.{sound_all}
use Rattle.ft_history.proofs.Serial.{place_within, place_in, place_back, place_front, by_in, roots_committed, serial_order_of}
use Rattle.ft_history.proofs.Living.{lived}

module _ (C : Calls) (rank : Done C → ℕ) where
  abbrev of_rank : ℕ → List (Done C) → List (Done C)
  of_rank i cs = passing (λ c. rank c == i) cs

  -- those of n ranks from i on
  abbrev groups : ℕ → ℕ → List (Done C) → List (Done C)
  groups i zero cs = []
  groups i (suc n) cs = of_rank i cs ++ groups (suc i) n cs

  insert_front : (c : Done C) (ds : List (Done C)) → Each (λ d. rank c ≤ rank d) ds → insert_by C rank c ds ≡ c ∷ ds
  insert_front c [] h = refl
  insert_front c (d ∷ ds) h = ap (λ b. cond b (d ∷ insert_by C rank c ds) (c ∷ d ∷ ds)) (le-ltb (rank d) (rank c) h.0)

  insert_past : (c : Done C) (ds es : List (Done C)) → Each (λ d. rank d < rank c) ds → insert_by C rank c (ds ++ es) ≡ ds ++ insert_by C rank c es
  insert_past c [] es h = refl
  insert_past c (d ∷ ds) es h = ap (λ b. cond b (d ∷ insert_by C rank c (ds ++ es)) (c ∷ d ∷ (ds ++ es))) (lt-ltb (rank d) (rank c) h.0) ∙ ap (λ fs. d ∷ fs) (insert_past c ds es h.1)

  -- what stands in a group has its rank
  group_rank : (i : ℕ) (cs : List (Done C)) → Each (λ d. rank d ≡ i) (of_rank i cs)
  group_rank i [] = tt
  group_rank i (c ∷ cs) = by_number (rank c) i
      (λ e. subst (λ b. Each (λ d. rank d ≡ i) (cond b (c ∷ of_rank i cs) (of_rank i cs))) (sym (eq-eqb (rank c) i e)) (e, group_rank i cs))
      (λ e. subst (λ b. Each (λ d. rank d ≡ i) (cond b (c ∷ of_rank i cs) (of_rank i cs))) (sym (ne_eqb (rank c) i e)) (group_rank i cs))

  groups_least : (n i : ℕ) (cs : List (Done C)) → Each (λ d. i ≤ rank d) (groups i n cs)
  groups_least zero i cs = tt
  groups_least (suc n) i cs = Each-append (λ d. i ≤ rank d) (of_rank i cs) (groups (suc i) n cs)
      (Each-map (λ d. rank d ≡ i) (λ d. i ≤ rank d) (λ d e. omega arith) (of_rank i cs) (group_rank i cs))
      (Each-map (λ d. suc i ≤ rank d) (λ d. i ≤ rank d) (λ d le. omega arith) (groups (suc i) n cs) (groups_least n (suc i) cs))

  groups_skip : (n i : ℕ) (c : Done C) (cs : List (Done C)) → rank c < i → groups i n (c ∷ cs) ≡ groups i n cs
  groups_skip zero i c cs lt = refl
  groups_skip (suc n) i c cs lt =
      ap (λ b. cond b (c ∷ of_rank i cs) (of_rank i cs) ++ groups (suc i) n (c ∷ cs)) (ne_eqb (rank c) i (λ e. absurd (omega arith)))
      ∙ ap (λ ds. of_rank i cs ++ ds) (groups_skip n (suc i) c cs (omega arith))

  insert_groups : (n i : ℕ) (c : Done C) (cs : List (Done C)) → i ≤ rank c → rank c < i + n → insert_by C rank c (groups i n cs) ≡ groups i n (c ∷ cs)
  insert_groups zero i c cs le lt = absurd (omega arith)
  insert_groups (suc n) i c cs le lt = by_number (rank c) i
      (λ e.
      insert_front c (groups i (suc n) cs) (Each-map (λ d. i ≤ rank d) (λ d. rank c ≤ rank d) (λ d k. omega arith) (groups i (suc n) cs) (groups_least (suc n) i cs))
      ∙ sym (ap (λ b. cond b (c ∷ of_rank i cs) (of_rank i cs) ++ groups (suc i) n (c ∷ cs)) (eq-eqb (rank c) i e)
      ∙ ap (λ ds. c ∷ (of_rank i cs ++ ds)) (groups_skip n (suc i) c cs (omega arith))))
      (λ e.
      insert_past c (of_rank i cs) (groups (suc i) n cs) (Each-map (λ d. rank d ≡ i) (λ d. rank d < rank c) (λ d k. omega arith) (of_rank i cs) (group_rank i cs))
      ∙ ap (λ ds. of_rank i cs ++ ds) (insert_groups n (suc i) c cs (omega arith) (omega arith))
      ∙ sym (ap (λ b. cond b (c ∷ of_rank i cs) (of_rank i cs) ++ groups (suc i) n (c ∷ cs)) (ne_eqb (rank c) i e)))

  groups_none : (n i : ℕ) → groups i n [] ≡ []
  groups_none zero i = refl
  groups_none (suc n) i = groups_none n (suc i)

  sorted_groups : (n : ℕ) (cs : List (Done C)) → Each (λ c. rank c < n) cs → sort_by C rank cs ≡ groups 0 n cs
  sorted_groups n [] h = sym (groups_none n 0)
  sorted_groups n (c ∷ cs) h = ap (insert_by C rank c) (sorted_groups n cs h.1) ∙ insert_groups n 0 c cs (omega arith) (let lt = h.0 in omega arith)

module _ (C : Calls) (rank : Done C → ℕ) where
  In-insert : (x c : Done C) (ds : List (Done C)) → (x ≡ c) ⊎ In x ds → In x (insert_by C rank c ds)
  In-insert x c [] i = i
  In-insert x c (d ∷ ds) i = by_test (nat_lt (rank d) (rank c))
      (λ k. subst (λ b. In x (cond b (d ∷ insert_by C rank c ds) (c ∷ d ∷ ds))) (sym k) (elim i [
        | inl e ↦ inr (In-insert x c ds (inl e))
        | inr j ↦ elim (cased j) [ inl e ↦ inl e | inr m ↦ inr (In-insert x c ds (inr m)) ]
      ]))
      (λ k. subst (λ b. In x (cond b (d ∷ insert_by C rank c ds) (c ∷ d ∷ ds))) (sym k) i)
    where
      cased : In x (d ∷ ds) → (x ≡ d) ⊎ In x ds
      cased j = j

  -- a call stands among the same calls sorted
  In-sort : (x : Done C) (cs : List (Done C)) → In x cs → In x (sort_by C rank cs)
  In-sort x [] i = i
  In-sort x (c ∷ cs) (inl e) = In-insert x c (sort_by C rank cs) (inl e)
  In-sort x (c ∷ cs) (inr i) = In-insert x c (sort_by C rank cs) (inr (In-sort x cs i))

any_in : (x : ℕ) (rs : List ℕ) → In x rs → any (λ r. x == r) rs ≡ true
any_in x [] i = absurd i
any_in x (r ∷ rs) (inl e) = or_left (x == r) (any (λ s. x == s) rs) (eq-eqb x r e)
any_in x (r ∷ rs) (inr i) = or_right (x == r) (any (λ s. x == s) rs) (any_in x rs i)

any_out : (x : ℕ) (rs : List ℕ) → (In x rs → ⊥) → any (λ r. x == r) rs ≡ false
any_out x [] f = refl
any_out x (r ∷ rs) f = or_from (x == r) (any (λ s. x == s) rs) (ne_eqb x r (λ e. f (inl e))) (any_out x rs (λ i. f (inr i)))

-- The calls by the places of their roots in the list.
module _ (C : Calls) (of : Done C → ℕ) (all : List ℕ) (distinct : Pairs (λ a b. a ≢ b) all) (cs : List (Done C)) where
  abbrev under : ℕ → List (Done C)
  under r = passing (λ c. of c == r) cs

  abbrev others : List (Done C)
  others = passing (λ c. not (any (λ r. of c == r) all)) cs

  test_last : (x : ℕ) → (place all x == length all) ≡ not (any (λ r. x == r) all)
  test_last x = by_in x all
      (λ i. let lt = place_in all x i in ne_eqb (place all x) (length all) (λ e. absurd (omega arith)) ∙ sym (ap not (any_in x all i)))
      (λ out.
      let end = place_back all [] x out in
      let same = ap (λ rs. place rs x) (append-nil all) in
      eq-eqb (place all x) (length all) (omega arith) ∙ sym (ap not (any_out x all out)))

  test_place : (front : List ℕ) (r : ℕ) (back : List ℕ) → all ≡ front ++ r ∷ back → (x : ℕ) → (place all x == length front) ≡ (x == r)
  test_place front r back split x =
      let new : In r front → ⊥ = λ i. Each-at (λ y. y ≢ r) front r (Pairs-before (λ a b. a ≢ b) front r back (subst (Pairs (λ a b. a ≢ b)) split distinct)) i refl in
      let whole : place all x ≡ place (front ++ r ∷ back) x = ap (λ rs. place rs x) split in
      by_number x r
      (λ e.
      let at = place_back front (r ∷ back) x (λ i. new (subst (λ y. In y front) e i)) in
      let first = ap (λ b. cond b 0 (suc (place back x))) (eq-eqb x r e) in
      eq-eqb (place all x) (length front) (omega arith) ∙ sym (eq-eqb x r e))
      (λ e. by_in x front
      (λ i.
      let at = place_front front (r ∷ back) x i in
      let lt = place_in front x i in
      ne_eqb (place all x) (length front) (λ k. absurd (omega arith)) ∙ sym (ne_eqb x r e))
      (λ out.
      let at = place_back front (r ∷ back) x out in
      let later = ap (λ b. cond b 0 (suc (place back x))) (ne_eqb x r e) in
      ne_eqb (place all x) (length front) (λ k. absurd (omega arith)) ∙ sym (ne_eqb x r e)))

  by_roots : (front back : List ℕ) → all ≡ front ++ back → groups C (λ c. place all (of c)) (length front) (suc (length back)) cs ≡ joined under back ++ others
  by_roots front [] split =
      let same : length front ≡ length all = ap length (sym (append-nil front)) ∙ ap length (sym split) in
      append-nil (of_rank C (λ c. place all (of c)) (length front) cs)
      ∙ passing_agree (λ c. place all (of c) == length front) (λ c. not (any (λ r. of c == r) all)) cs
      (Each-from (λ c. (place all (of c) == length front) ≡ not (any (λ r. of c == r) all)) cs (λ c i. ap (λ n. place all (of c) == n) same ∙ test_last (of c)))
  by_roots front (r ∷ back) split =
      let longer : length (front ++ r ∷ []) ≡ suc (length front) = longer_by front in
      ap (λ ds. ds ++ groups C (λ c. place all (of c)) (suc (length front)) (suc (length back)) cs)
      (passing_agree (λ c. place all (of c) == length front) (λ c. of c == r) cs (Each-from (λ c. (place all (of c) == length front) ≡ (of c == r)) cs (λ c i. test_place front r back split (of c))))
      ∙ ap (λ n. under r ++ groups C (λ c. place all (of c)) n (suc (length back)) cs) (sym longer)
      ∙ ap (λ ds. under r ++ ds) (by_roots (front ++ r ∷ []) back (split ∙ sym (append_assoc front (r ∷ []) back)))
      ∙ sym (append_assoc (under r) (joined under back) others)
    where
      longer_by : (xs : List ℕ) → length (xs ++ r ∷ []) ≡ suc (length xs)
      longer_by [] = refl
      longer_by (x ∷ xs) = ap suc (longer_by xs)

  pub by_places : sort_by C (λ c. place all (of c)) cs ≡ joined under all ++ others
  by_places = sorted_groups C (λ c. place all (of c)) (suc (length all)) cs (Each-from (λ c. place all (of c) < suc (length all)) cs (λ c i. let le = place_within all (of c) in omega arith)) ∙ by_roots [] all refl

module _ (C : Calls) (L : Lawful C) where
  -- no transaction commits twice
  distinct_roots : (base : Base C) (h : List (Event C)) → Legal C base h → Pairs (λ a b. a ≢ b) (committed_roots C h)
  distinct_roots base [] legal = tt
  distinct_roots base (Begin n p ∷ h) legal = distinct_roots base h legal.1
  distinct_roots base (Call c ∷ h) legal = distinct_roots base h legal.1
  distinct_roots base (Undo k ∷ h) legal = distinct_roots base h legal.1
  distinct_roots base (Abort t ∷ h) legal = distinct_roots base h legal.1
  distinct_roots base (Commit t ∷ h) legal = let old = distinct_roots base h legal.1 in by_test (is_some (parent C h t))
      (λ k. subst (λ b. Pairs (λ x y. x ≢ y) (cond b (committed_roots C h) (committed_roots C h ++ t ∷ []))) (sym k) old)
      (λ k. subst (λ b. Pairs (λ x y. x ≢ y) (cond b (committed_roots C h) (committed_roots C h ++ t ∷ []))) (sym k)
      (Pairs-append (λ x y. x ≢ y) (committed_roots C h) (t ∷ []) old (tt, tt) (λ x y i j e. elim j [
        | inl is ↦ false≢true (sym (lived C base.transaction h t legal.0.live).uncommitted ∙ ap (is_committed C h) (sym (e ∙ is)) ∙ roots_committed C h x i)
        | inr none ↦ absurd none
      ])))

  pub serial_order : SerialOrder C
  serial_order base base_sound h legal = serial_order_of C L base base_sound h legal

  pub serial : Serial C
  serial base base_sound h legal =
      let sound = sound_all C L base base_sound h legal in
      let all = committed_roots C h in
      let cs = standing C h in
      let rank : Done C → ℕ = λ c. place all (root_of C h c) in
      let same : sort_by C rank cs ≡ serial_list C h = by_places C (root_of C h) all (distinct_roots base h legal) cs in
      let respects : Respects C rank cs = Pairs-map (IsSerialPair C h) (λ b a. C.conflict b.accesses a.accesses ≡ true → rank b ≤ rank a)
      (λ b a r k. elim (r k) [
        | inl e ↦ let at = ap (place all) e in omega arith
        | inr lt ↦ omega arith
      ]) cs (serial_order base base_sound h legal) in
      let sorted = may_be_sorted C L rank base.store cs sound.runs.able sound.runs.faithful respects in
      let replies = subst (Faithful C base.store) same sorted.0 in
      let able = subst (Able C base.store) same (able_sort C L rank base.store cs sound.runs.able) in
      record {
        all = λ c. (
          λ i. Each-at (λ d. In d cs) (sort_by C rank cs) c (each_sort C L rank (λ d. In d cs) cs (Each-from (λ d. In d cs) cs (λ d j. j))) (subst (In c) (sym same) i),
          λ i. subst (In c) same (In-sort C rank c cs i),
        );
        made = record { able = able; replies = replies };
        store = subst (λ ds. Same C (outcome C base h) (run C base.store ds)) same sorted.1;
        committed = record {
          able = record {
            sound = able.sound;
            ready = Each-front (λ c. C.IsReady c.call base.store) (committed_part C h) (open_part C h) able.ready;
            distinct = Pairs-front (λ a b. C.stamp a.call ≢ C.stamp b.call) (committed_part C h) (open_part C h) able.distinct;
          };
          replies = along_front C (Fits C) base.store (committed_part C h) (open_part C h) replies;
        };
      }
