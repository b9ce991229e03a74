-- What an undo comes upon is the newest call of the transaction's list.
use Rattle.std.proofs.Common.{◌≡◌, ◌≢◌, ◌<◌, ◌≤◌, ℕ, Bool, true, false, not, cond, ◌||◌, ◌&&◌, Option, Some, None, List, [], ◌∷◌, ◌++◌, inl, sym, refl, ap, ◌∙◌, subst, arith, ◌==◌, eqb-true, eq-eqb, ne_eqb}
use Rattle.std.proofs.lemmas.Bool.{and_left, and_parts}
use Rattle.ft_laws.specs.Lists.{Each, Pairs, In}
use Rattle.ft_laws.specs.Calls.{Calls, Done}
use Rattle.ft_laws.specs.Laws.{Lawful}
use Rattle.ft_laws.proofs.Lists.{Each-map, Each-at, Each-back, Each-from, In-front, In-back}
use Rattle.ft_laws.proofs.Tests.{by_test, by_option}
use Rattle.ft_history.specs.Forest.{is_some_and}
use Rattle.ft_history.specs.Logs.{put, pushed, handed}
use Rattle.ft_history.specs.History.{Base, Event, number, last_transaction, parent, over, is_gone, is_undone, IsLive, grants, is_standing, standing, is_child, live_children}
use Rattle.ft_history.specs.History.Event.{Begin, Call, Undo, Commit, Abort}
use Rattle.ft_history.specs.Undoing.{is_own, find_back, undo_target}
use Rattle.ft_history.specs.Undoing.Target.{Found, SubSince, Nothing}
use Rattle.ft_history.specs.Legal.{MayBegin, MayGrant, MayCommit, Legal}
use Rattle.ft_history.specs.Ledger.{lists}
use Rattle.ft_history.specs.Orders.{IsInFront}
use Rattle.ft_history.proofs.Words.{put_same, put_other, by_number, by_list, same_some, none_some}
use Rattle.ft_history.proofs.Kept.{one_number}
use Rattle.ft_history.proofs.History.{Sound, owner, list_live, begin_gone, begin_was_live, call_was_live, undo_was_live, undo_lists, commit_was_live, abort_was_live}
use Rattle.ft_history.proofs.Living.{lived}

abbrev one_is : ℕ → Option ℕ → Bool
one_is t o = is_some_and o (λ p. p == t)

module _ (C : Calls) where
  -- t's own standing calls and its children's commits, newest first
  abbrev pub marks : List (Event C) → ℕ → List (Event C) → List (Option (Done C))
  marks all t [] = []
  marks all t (Begin n p ∷ h) = marks all t h
  marks all t (Call c ∷ h) = cond (is_own C all t c) (Some c ∷ marks all t h) (marks all t h)
  marks all t (Undo k ∷ h) = marks all t h
  marks all t (Commit u ∷ h) = cond (is_child C h t u) (None ∷ marks all t h) (marks all t h)
  marks all t (Abort u ∷ h) = marks all t h

  -- the list has an own call for each mark of one, and any number of calls for a child's commit
  abbrev pub Marked : List (Option (Done C)) → List (Done C) → Type 0
  Marked [] ds = ds ≡ []
  Marked (Some c ∷ ms) [] = ⊥
  Marked (Some c ∷ ms) (d ∷ ds) = (c ≡ d) × Marked ms ds
  Marked (None ∷ ms) ds = (es : List (Done C)) × (rest : List (Done C)) × (ds ≡ es ++ rest) × Marked ms rest

  -- what is found is the first mark, and t's own
  found : (all : List (Event C)) (t : ℕ) (h : List (Event C)) (d : Done C) → find_back C all t h ≡ Found d → (ms : List (Option (Done C))) × (marks all t h ≡ Some d ∷ ms) × (is_own C all t d ≡ true)
  found all t [] d e = absurd (other e)
    where
      other : Nothing ≡ Found d → ⊥
      other k = cc
  found all t (Begin n p ∷ h) d e = found all t h d e
  found all t (Undo k ∷ h) d e = found all t h d e
  found all t (Abort u ∷ h) d e = found all t h d e
  found all t (Call c ∷ h) d e = by_test (is_own C all t c)
      (λ k.
      let is : c ≡ d = same (sym (ap (λ b. cond b (Found c) (find_back C all t h)) k) ∙ e) in
      (marks all t h, ap (λ b. cond b (Some c ∷ marks all t h) (marks all t h)) k ∙ ap (λ x. Some x ∷ marks all t h) is, ap (is_own C all t) (sym is) ∙ k))
      (λ k. let more = found all t h d (sym (ap (λ b. cond b (Found c) (find_back C all t h)) k) ∙ e) in (more.0, ap (λ b. cond b (Some c ∷ marks all t h) (marks all t h)) k ∙ more.1, more.2))
    where
      same : Found c ≡ Found d → c ≡ d
      same k = cc
  found all t (Commit u ∷ h) d e = by_test (is_child C h t u)
      (λ k. absurd (other (sym (ap (λ b. cond b SubSince (find_back C all t h)) k) ∙ e)))
      (λ k. let more = found all t h d (sym (ap (λ b. cond b SubSince (find_back C all t h)) k) ∙ e) in (more.0, ap (λ b. cond b (None ∷ marks all t h) (marks all t h)) k ∙ more.1, more.2))
    where
      other : SubSince ≡ Found d → ⊥
      other k = cc

  -- the marks depend on what is own alone
  marks_agree : (a b : List (Event C)) (t : ℕ) (h : List (Event C)) → ((c : Done C) → In c (grants C h) → is_own C a t c ≡ is_own C b t c) → marks a t h ≡ marks b t h
  marks_agree a b t [] f = refl
  marks_agree a b t (Begin n p ∷ h) f = marks_agree a b t h f
  marks_agree a b t (Undo k ∷ h) f = marks_agree a b t h f
  marks_agree a b t (Abort v ∷ h) f = marks_agree a b t h f
  marks_agree a b t (Call c ∷ h) f =
      ap (λ x. cond x (Some c ∷ marks a t h) (marks a t h)) (f c (In-back c (grants C h) (c ∷ []) (inl refl)))
      ∙ ap (λ ms. cond (is_own C b t c) (Some c ∷ ms) ms) (marks_agree a b t h (λ d i. f d (In-front d (grants C h) (c ∷ []) i)))
  marks_agree a b t (Commit v ∷ h) f = ap (λ ms. cond (is_child C h t v) (None ∷ ms) ms) (marks_agree a b t h f)

  -- the marks without a stamp
  abbrev drop_mark : ℕ → List (Option (Done C)) → List (Option (Done C))
  drop_mark k [] = []
  drop_mark k (None ∷ ms) = None ∷ drop_mark k ms
  drop_mark k (Some c ∷ ms) = cond (number C c == k) (drop_mark k ms) (Some c ∷ drop_mark k ms)

  drop_none : (k : ℕ) (ms : List (Option (Done C))) (ds : List (Done C)) → Marked ms ds → Each (λ d. number C d ≢ k) ds → drop_mark k ms ≡ ms
  drop_none k [] ds m h = refl
  drop_none k (Some c ∷ ms) [] m h = absurd m
  drop_none k (Some c ∷ ms) (d ∷ ds) m h =
      ap (λ b. cond b (drop_mark k ms) (Some c ∷ drop_mark k ms)) (ne_eqb (number C c) k (λ e. h.0 (ap (number C) (sym m.0) ∙ e))) ∙ ap (λ xs. Some c ∷ xs) (drop_none k ms ds m.1 h.1)
  drop_none k (None ∷ ms) ds m h = ap (λ xs. None ∷ xs) (drop_none k ms m.1 m.3 (Each-back (λ d. number C d ≢ k) m.0 m.1 (subst (Each (λ d. number C d ≢ k)) m.2 h)))

  undo_own : (a : Bool) (s : Bool) (b : Bool) → (a && cond b false s) ≡ cond b false (a && s)
  undo_own true s b = refl
  undo_own false s true = refl
  undo_own false s false = refl

  marks_undo : (k : ℕ) (all : List (Event C)) (t : ℕ) (h : List (Event C)) → marks (Undo k ∷ all) t h ≡ drop_mark k (marks all t h)
  marks_undo k all t [] = refl
  marks_undo k all t (Begin n p ∷ h) = marks_undo k all t h
  marks_undo k all t (Undo j ∷ h) = marks_undo k all t h
  marks_undo k all t (Abort u ∷ h) = marks_undo k all t h
  marks_undo k all t (Commit u ∷ h) = ap (λ ms. cond (is_child C h t u) (None ∷ ms) ms) (marks_undo k all t h) ∙ pull (is_child C h t u)
    where
      pull : (b : Bool) → cond b (None ∷ drop_mark k (marks all t h)) (drop_mark k (marks all t h)) ≡ drop_mark k (cond b (None ∷ marks all t h) (marks all t h))
      pull true = refl
      pull false = refl
  marks_undo k all t (Call c ∷ h) =
      ap (λ b. cond b (Some c ∷ marks (Undo k ∷ all) t h) (marks (Undo k ∷ all) t h)) own ∙ ap (λ ms. cond (cond (number C c == k) false (is_own C all t c)) (Some c ∷ ms) ms) (marks_undo k all t h)
      ∙ pull (number C c == k) (is_own C all t c) refl
    where
      test : (b u g : Bool) → (not (b || u) && not g) ≡ cond b false (not u && not g)
      test true u g = refl
      test false u g = refl

      own : is_own C (Undo k ∷ all) t c ≡ cond (number C c == k) false (is_own C all t c)
      own = ap (λ s. (c.asker == t) && s) (test (number C c == k) (is_undone C all (number C c)) (is_gone C all c.asker)) ∙ undo_own (c.asker == t) (is_standing C all c) (number C c == k)

      pull : (b o : Bool) → (number C c == k) ≡ b → cond (cond b false o) (Some c ∷ drop_mark k (marks all t h)) (drop_mark k (marks all t h)) ≡ drop_mark k (cond o (Some c ∷ marks all t h) (marks all t h))
      pull true true e = sym (ap (λ x. cond x (drop_mark k (marks all t h)) (Some c ∷ drop_mark k (marks all t h))) e)
      pull true false e = refl
      pull false true e = sym (ap (λ x. cond x (drop_mark k (marks all t h)) (Some c ∷ drop_mark k (marks all t h))) e)
      pull false false e = refl

  -- a parent was begun
  parent_known : (base : Base C) (h : List (Event C)) → Legal C base h → (x p : ℕ) → parent C h x ≡ Some p → p ≤ last_transaction C base.transaction h
  parent_known base [] legal x p e = absurd (none_some p e)
  parent_known base (Begin n q ∷ h) legal x p e =
      let next = legal.0.next in
      by_number x n
      (λ is. let le = (lived C base.transaction h p (legal.0.live p (sym (put_same (parent C h) n q x is) ∙ e))).begun in omega arith)
      (λ ne. let le = parent_known base h legal.1 x p (sym (put_other (parent C h) n q x ne) ∙ e) in omega arith)
  parent_known base (Call c ∷ h) legal x p e = parent_known base h legal.1 x p e
  parent_known base (Undo k ∷ h) legal x p e = parent_known base h legal.1 x p e
  parent_known base (Commit t ∷ h) legal x p e = parent_known base h legal.1 x p e
  parent_known base (Abort t ∷ h) legal x p e = parent_known base h legal.1 x p e

  -- one that isn't begun has no marks
  marks_none : (base : Base C) (all : List (Event C)) (t : ℕ) (h : List (Event C)) → Legal C base h → last_transaction C base.transaction h < t → ((c : Done C) → In c (grants C h) → is_own C all t c ≡ false) → marks all t h ≡ []
  marks_none base all t [] legal new f = refl
  marks_none base all t (Begin n p ∷ h) legal new f = let next = legal.0.next in marks_none base all t h legal.1 (omega arith) f
  marks_none base all t (Undo k ∷ h) legal new f = marks_none base all t h legal.1 new f
  marks_none base all t (Abort v ∷ h) legal new f = marks_none base all t h legal.1 new f
  marks_none base all t (Call c ∷ h) legal new f =
      ap (λ x. cond x (Some c ∷ marks all t h) (marks all t h)) (f c (In-back c (grants C h) (c ∷ []) (inl refl)))
      ∙ marks_none base all t h legal.1 new (λ d i. f d (In-front d (grants C h) (c ∷ []) i))
  marks_none base all t (Commit v ∷ h) legal new f =
      ap (λ b. cond b (None ∷ marks all t h) (marks all t h)) (by_option (parent C h v)
      (λ e. ap (one_is t) e)
      (λ q e. let le = parent_known base h legal.1 v q e in ap (one_is t) e ∙ ne_eqb q t (λ k. absurd (omega arith))))
      ∙ marks_none base all t h legal.1 new f

module _ (C : Calls) (L : Lawful C) (base : Base C) where
  abbrev pub AllMarked : List (Event C) → Type 0
  AllMarked h = (t : ℕ) → IsLive C base.transaction h t → Marked C (marks C h t h) (lists C h t)

  module _ (h : List (Event C)) (sound : Sound C L base h) (all : AllMarked h) where
    begun_asker : (c : Done C) → In c (grants C h) → c.asker ≤ last_transaction C base.transaction h
    begun_asker c i = Each-at (λ d. d.asker ≤ last_transaction C base.transaction h) (grants C h) c sound.askers i

    pub marked_begin : Legal C base h → (n : ℕ) (p : Option ℕ) → MayBegin C base.transaction h n p → AllMarked (Begin n p ∷ h)
    marked_begin legal n p may t live = by_number t n
        (λ is. subst (λ ms. Marked C ms (lists C h t)) (sym (no_marks is)) (no_list is))
        (λ ne. let le = (lived C base.transaction (Begin n p ∷ h) t live).begun in let next = may.next in let old : t ≤ last_transaction C base.transaction h = omega arith in
        subst (λ ms. Marked C ms (lists C h t)) (sym same_marks) (all t (begin_was_live C L base h sound n p may t old live)))
      where
        no_marks : t ≡ n → marks C (Begin n p ∷ h) t h ≡ []
        no_marks is =
            let next = may.next in
            marks_none C base (Begin n p ∷ h) t h legal (omega arith)
            (λ c i. let le = begun_asker c i in and_left (c.asker == t) (is_standing C (Begin n p ∷ h) c) (ne_eqb c.asker t (λ e. absurd (omega arith))))

        no_list : t ≡ n → lists C h t ≡ []
        no_list is = by_list (lists C h t) (λ e. e) (λ c cs e.
            let about = (lived C base.transaction h t (list_live C L base h sound t c (subst (In c) (sym e) (inl refl)))).begun in let next = may.next in absurd (omega arith))

        same_marks : marks C (Begin n p ∷ h) t h ≡ marks C h t h
        same_marks = marks_agree C (Begin n p ∷ h) h t h
            (λ c i. ap (λ b. (c.asker == t) && (not (is_undone C h (number C c)) && not b)) (begin_gone C L base h sound n p may c.asker (begun_asker c i)))

    pub marked_call : (c : Done C) → MayGrant C base h c → AllMarked (Call c ∷ h)
    marked_call c may t now =
        let was = all t (call_was_live C L base h sound c may t now) in
        let log = lists C h in
        subst (λ ms. Marked C (cond (is_own C h t c) (Some c ∷ ms) ms) (pushed log c.asker c t)) (sym (marks_agree C (Call c ∷ h) h t h (λ d i. refl)))
        (by_number t c.asker
        (λ is. subst (λ b. Marked C (cond b (Some c ∷ marks C h t h) (marks C h t h)) (pushed log c.asker c t)) (sym (own is))
        (subst (Marked C (Some c ∷ marks C h t h)) (sym (put_same log c.asker (c ∷ log c.asker) t is)) (refl, subst (λ v. Marked C (marks C h t h) (log v)) is was)))
        (λ ne. subst (λ b. Marked C (cond b (Some c ∷ marks C h t h) (marks C h t h)) (pushed log c.asker c t))
        (sym (and_left (c.asker == t) (is_standing C h c) (ne_eqb c.asker t (λ e. ne (sym e)))))
        (subst (Marked C (marks C h t h)) (sym (put_other log c.asker (c ∷ log c.asker) t ne)) was)))
      where
        own : t ≡ c.asker → is_own C h t c ≡ true
        own is = ap (λ b. b && is_standing C h c) (eq-eqb c.asker t (sym is))
            ∙ ap (λ b. not b && not (is_gone C h c.asker)) (sound.undone_old (number C c) may.next) ∙ ap not (lived C base.transaction h c.asker may.live).there

    -- what an undo finds is the newest of the list, and t's own
    pub undo_newest : (t : ℕ) (d : Done C) → IsLive C base.transaction h t → undo_target C h t ≡ Found d
        → (ms : List (Option (Done C))) × (ds : List (Done C)) × (marks C h t h ≡ Some d ∷ ms) × (lists C h t ≡ d ∷ ds) × Marked C ms ds × (d.asker ≡ t)
    undo_newest t d live e =
        let first = found C h t h d e in
        let m : Marked C (Some d ∷ first.0) (lists C h t) = subst (λ ms. Marked C ms (lists C h t)) first.1 (all t live) in
        let mine : d.asker ≡ t = eqb-true d.asker t (and_parts (d.asker == t) (is_standing C h d) first.2).0 in
        by_list (lists C h t)
        (λ none. let never : Marked C (Some d ∷ first.0) [] = subst (Marked C (Some d ∷ first.0)) none m in absurd never)
        (λ y ys is.
        let so : Marked C (Some d ∷ first.0) (y ∷ ys) = subst (Marked C (Some d ∷ first.0)) is m in
        (first.0, ys, first.1, is ∙ ap (λ z. z ∷ ys) (sym so.0), so.1, mine))

    pub marked_undo : (t₀ : ℕ) (d : Done C) (ms : List (Option (Done C))) (ds : List (Done C)) (live : IsLive C base.transaction h t₀) (none : live_children C base.transaction h t₀ ≡ []) → marks C h t₀ h ≡ Some d ∷ ms
        → (newest : lists C h t₀ ≡ d ∷ ds) → Marked C ms ds → (own : d.asker ≡ t₀) → AllMarked (Undo (number C d) ∷ h)
    marked_undo t₀ d ms ds live none first newest left own t now =
        let k = number C d in
        let log = lists C h in
        let was = all t (undo_was_live C L base h sound t₀ d ds live none newest own t now) in
        let mine = sound.runs.kept.owned t₀ d (subst (In d) (sym newest) (inl refl)) in
        subst (λ l. Marked C (marks C (Undo k ∷ h) t h) (l t)) (sym (undo_lists C L base h sound t₀ d ds live none newest own))
        (subst (λ xs. Marked C xs (put log t₀ ds t)) (sym (marks_undo C k h t h)) (by_number t t₀
        (λ same.
        subst (Marked C (drop_mark C k (marks C h t h))) (sym (put_same log t₀ ds t same))
        (subst (λ xs. Marked C (drop_mark C k xs) ds) (sym (ap (λ v. marks C h v h) same ∙ first))
        (subst (λ b. Marked C (cond b (drop_mark C k ms) (Some d ∷ drop_mark C k ms)) ds) (sym (eq-eqb (number C d) k refl))
        (subst (λ xs. Marked C xs ds) (sym (drop_none C k ms ds left (Each-map (IsInFront C d) (λ c. number C c ≢ k) (λ c f e. f.0 (sym e)) ds
        (subst (Pairs (IsInFront C)) newest (sound.runs.kept.behind t₀)).0))) left))))
        (λ other.
        subst (Marked C (drop_mark C k (marks C h t h))) (sym (put_other log t₀ ds t other))
        (subst (λ xs. Marked C xs (log t)) (sym (drop_none C k (marks C h t h) (log t) was
        (Each-from (λ c. number C c ≢ k) (log t) (λ c i e. other (same_some t t₀
        (let it = sound.runs.kept.owned t c i in sym it.1 ∙ ap (owner C h) (one_number C (over C h) (owner C h) (standing C h) (lists C h) sound.runs.kept c d it.0 mine.0 e) ∙ mine.1)))))) was))))

    pub marked_commit : (u : ℕ) → MayCommit C base.transaction h u → AllMarked (Commit u ∷ h)
    marked_commit u may t now =
        let was = commit_was_live C L base h sound u may t now in
        subst (λ ms. Marked C (cond (is_child C h t u) (None ∷ ms) ms) (handed (lists C h) u (parent C h u) t)) (sym (marks_agree C (Commit u ∷ h) h t h (λ d i. refl)))
        (into (parent C h u) was.1 (all t was.0))
      where
        into : (o : Option ℕ) → t ≢ u → Marked C (marks C h t h) (lists C h t) → Marked C (cond (one_is t o) (None ∷ marks C h t h) (marks C h t h)) (handed (lists C h) u o t)
        into None ne m = subst (Marked C (marks C h t h)) (sym (put_other (lists C h) u [] t ne)) m
        into (Some p) ne m =
            let log = lists C h in
            let mid : ℕ → List (Done C) = put log p (log u ++ log p) in
            subst (Marked C (cond (p == t) (None ∷ marks C h t h) (marks C h t h))) (sym (put_other mid u [] t ne)) (by_number t p
            (λ is. subst (λ b. Marked C (cond b (None ∷ marks C h t h) (marks C h t h)) (mid t)) (sym (eq-eqb p t (sym is)))
            (log u, log p, put_same log p (log u ++ log p) t is, subst (λ v. Marked C (marks C h t h) (log v)) is m))
            (λ differ. subst (λ b. Marked C (cond b (None ∷ marks C h t h) (marks C h t h)) (mid t)) (sym (ne_eqb p t (λ e. differ (sym e))))
            (subst (Marked C (marks C h t h)) (sym (put_other log p (log u ++ log p) t differ)) m)))

    pub marked_abort : (u : ℕ) → IsLive C base.transaction h u → AllMarked (Abort u ∷ h)
    marked_abort u live t now =
        let was = abort_was_live C L base h sound u live t now in
        subst (λ ms. Marked C ms (cond (over C h u t) [] (lists C h t))) (sym (marks_agree C (Abort u ∷ h) h t h
        (λ c i. by_number c.asker t
        (λ is. ap (λ b. (c.asker == t) && (not (is_undone C h (number C c)) && not (b || is_gone C h c.asker))) (ap (over C h u) is ∙ was.1))
        (λ ne. and_left (c.asker == t) (is_standing C (Abort u ∷ h) c) (ne_eqb c.asker t ne) ∙ sym (and_left (c.asker == t) (is_standing C h c) (ne_eqb c.asker t ne))))))
        (subst (λ b. Marked C (marks C h t h) (cond b [] (lists C h t))) (sym was.1) (all t was.0))
