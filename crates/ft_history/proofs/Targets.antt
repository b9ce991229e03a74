-- The newest of a live transaction's list and the last commit of a child decide what an undo comes
-- upon.
use Rattle.std.proofs.Common.{◌≡◌, ◌≢◌, ◌<◌, ◌≤◌, ℕ, true, cond, ◌&&◌, Option, Some, None, List, [], ◌∷◌, ◌++◌, inl, inr, sym, refl, ap, ◌∙◌, subst, arith, ◌==◌, eq-eqb, ne_eqb}
use Rattle.std.proofs.lemmas.Bool.{false≢true}
use Rattle.ft_laws.specs.Lists.{Each, In}
use Rattle.ft_laws.specs.Calls.{Calls, Done}
use Rattle.ft_laws.specs.Laws.{Lawful}
use Rattle.ft_laws.proofs.Lists.{Each-at, Each-from, In-cases}
use Rattle.ft_laws.proofs.Tests.{by_test}
use Rattle.ft_history.specs.Forest.{is_some_and}
use Rattle.ft_history.specs.Logs.{put, handed}
use Rattle.ft_history.specs.History.{Base, Event, number, last_stamp, parent, IsLive, grants, is_standing, standing, is_child}
use Rattle.ft_history.specs.History.Event.{Begin, Call, Undo, Commit, Abort}
use Rattle.ft_history.specs.Undoing.{Target, is_own, find_back, undo_target, last_sub}
use Rattle.ft_history.specs.Undoing.Target.{Found, SubSince, Nothing}
use Rattle.ft_history.specs.Legal.{Legal}
use Rattle.ft_history.specs.Ledger.{lists}
use Rattle.ft_history.specs.Promises.{TargetByStamps, SubCommits}
use Rattle.ft_history.proofs.Words.{put_same, put_other, by_number, by_list, same_some, none_some}
use Rattle.ft_history.proofs.History.{stands, stamp_known, list_live, begin_was_live, call_was_live, undo_was_live, undo_lists, commit_was_live, abort_was_live}
use Rattle.ft_history.proofs.Legal.{sound_all, target_newest}
use Rattle.ft_history.proofs.Living.{lived}

module _ (C : Calls) (base : Base C) where
  not_found : (c : Done C) → Found c ≡ SubSince → ⊥
  not_found c e = cc

  not_nothing : (c : Done C) → Found c ≡ Nothing → ⊥
  not_nothing c e = cc

  not_since : ◌≡◌ {A = Target C} SubSince Nothing → ⊥
  not_since e = cc

  same_found : (c d : Done C) → Found c ≡ Found d → c ≡ d
  same_found c d e = cc

  -- a child's commit has a stamp
  since_some : (all : List (Event C)) (t : ℕ) (g : List (Event C)) → find_back C all t g ≡ SubSince → (k : ℕ) × (last_sub C base.stamp g t ≡ Some k)
  since_some all t [] e = absurd (not_since (sym e))
  since_some all t (Begin n p ∷ g) e = since_some all t g e
  since_some all t (Undo k ∷ g) e = since_some all t g e
  since_some all t (Abort u ∷ g) e = since_some all t g e
  since_some all t (Call c ∷ g) e = by_test (is_own C all t c)
      (λ k. absurd (not_found c (sym (ap (λ b. cond b (Found c) (find_back C all t g)) k) ∙ e)))
      (λ k. since_some all t g (sym (ap (λ b. cond b (Found c) (find_back C all t g)) k) ∙ e))
  since_some all t (Commit u ∷ g) e = by_test (is_child C g t u)
      (λ k. (last_stamp C base.stamp g, ap (λ b. cond b (Some (last_stamp C base.stamp g)) (last_sub C base.stamp g t)) k))
      (λ k.
      let more = since_some all t g (sym (ap (λ b. cond b SubSince (find_back C all t g)) k) ∙ e) in
      (more.0, ap (λ b. cond b (Some (last_stamp C base.stamp g)) (last_sub C base.stamp g t)) k ∙ more.1))

  nothing_none : (all : List (Event C)) (t : ℕ) (g : List (Event C)) → find_back C all t g ≡ Nothing → last_sub C base.stamp g t ≡ None
  nothing_none all t [] e = refl
  nothing_none all t (Begin n p ∷ g) e = nothing_none all t g e
  nothing_none all t (Undo k ∷ g) e = nothing_none all t g e
  nothing_none all t (Abort u ∷ g) e = nothing_none all t g e
  nothing_none all t (Call c ∷ g) e = by_test (is_own C all t c)
      (λ k. absurd (not_nothing c (sym (ap (λ b. cond b (Found c) (find_back C all t g)) k) ∙ e)))
      (λ k. nothing_none all t g (sym (ap (λ b. cond b (Found c) (find_back C all t g)) k) ∙ e))
  nothing_none all t (Commit u ∷ g) e = by_test (is_child C g t u)
      (λ k. absurd (not_since (sym (ap (λ b. cond b SubSince (find_back C all t g)) k) ∙ e)))
      (λ k. ap (λ b. cond b (Some (last_stamp C base.stamp g)) (last_sub C base.stamp g t)) k ∙ nothing_none all t g (sym (ap (λ b. cond b SubSince (find_back C all t g)) k) ∙ e))

  -- where nothing is found, nothing is own
  nothing_own : (all : List (Event C)) (t : ℕ) (g : List (Event C)) → find_back C all t g ≡ Nothing → (d : Done C) → In d (grants C g) → is_own C all t d ≡ true → ⊥
  nothing_own all t [] e d i own = i
  nothing_own all t (Begin n p ∷ g) e d i own = nothing_own all t g e d i own
  nothing_own all t (Undo k ∷ g) e d i own = nothing_own all t g e d i own
  nothing_own all t (Abort u ∷ g) e d i own = nothing_own all t g e d i own
  nothing_own all t (Call c ∷ g) e d i own = by_test (is_own C all t c)
      (λ k. not_nothing c (sym (ap (λ b. cond b (Found c) (find_back C all t g)) k) ∙ e))
      (λ k. elim (In-cases d (grants C g) (c ∷ []) i) [
        | inl j ↦ nothing_own all t g (sym (ap (λ b. cond b (Found c) (find_back C all t g)) k) ∙ e) d j own
        | inr j ↦ elim j [ inl is ↦ false≢true (sym k ∙ ap (is_own C all t) (sym is) ∙ own) | inr none ↦ none ]
      ])
  nothing_own all t (Commit u ∷ g) e d i own = by_test (is_child C g t u)
      (λ k. not_since (sym (ap (λ b. cond b SubSince (find_back C all t g)) k) ∙ e))
      (λ k. nothing_own all t g (sym (ap (λ b. cond b SubSince (find_back C all t g)) k) ∙ e) d i own)

  module _ (L : Lawful C) (base_sound : C.IsSound base.store) where
    -- the stamp of a commit isn't above the last
    sub_known : (all : List (Event C)) (t : ℕ) (g : List (Event C)) → Legal C base g → (k : ℕ) → last_sub C base.stamp g t ≡ Some k → k ≤ last_stamp C base.stamp g
    sub_known all t [] legal k e = absurd (none_some k e)
    sub_known all t (Begin n p ∷ g) legal k e = sub_known all t g legal.1 k e
    sub_known all t (Undo j ∷ g) legal k e = sub_known all t g legal.1 k e
    sub_known all t (Abort u ∷ g) legal k e = sub_known all t g legal.1 k e
    sub_known all t (Call c ∷ g) legal k e = let le = sub_known all t g legal.1 k e in let next = legal.0.next in omega arith
    sub_known all t (Commit u ∷ g) legal k e = by_test (is_child C g t u)
        (λ m. let same : last_stamp C base.stamp g ≡ k = same_some (last_stamp C base.stamp g) k (sym (ap (λ b. cond b (Some (last_stamp C base.stamp g)) (last_sub C base.stamp g t)) m) ∙ e) in omega arith)
        (λ m. sub_known all t g legal.1 k (sym (ap (λ b. cond b (Some (last_stamp C base.stamp g)) (last_sub C base.stamp g t)) m) ∙ e))

    -- what is found came after the last commit of a child
    found_later : (all : List (Event C)) (t : ℕ) (g : List (Event C)) → Legal C base g → (d : Done C) → find_back C all t g ≡ Found d → (k : ℕ) → last_sub C base.stamp g t ≡ Some k → k < number C d
    found_later all t [] legal d e k f = absurd (none_some k f)
    found_later all t (Begin n p ∷ g) legal d e k f = found_later all t g legal.1 d e k f
    found_later all t (Undo j ∷ g) legal d e k f = found_later all t g legal.1 d e k f
    found_later all t (Abort u ∷ g) legal d e k f = found_later all t g legal.1 d e k f
    found_later all t (Call c ∷ g) legal d e k f = by_test (is_own C all t c)
        (λ m.
        let is = ap (number C) (same_found c d (sym (ap (λ b. cond b (Found c) (find_back C all t g)) m) ∙ e)) in
        let le = sub_known all t g legal.1 k f in
        let next = legal.0.next in
        omega arith)
        (λ m. found_later all t g legal.1 d (sym (ap (λ b. cond b (Found c) (find_back C all t g)) m) ∙ e) k f)
    found_later all t (Commit u ∷ g) legal d e k f = by_test (is_child C g t u)
        (λ m. absurd (not_found d (sym (sym (ap (λ b. cond b SubSince (find_back C all t g)) m) ∙ e))))
        (λ m. found_later all t g legal.1 d (sym (ap (λ b. cond b SubSince (find_back C all t g)) m) ∙ e) k (sym (ap (λ b. cond b (Some (last_stamp C base.stamp g)) (last_sub C base.stamp g t)) m) ∙ f))

    -- where a child's commit is found, no own call came after it
    since_own : (all : List (Event C)) (t : ℕ) (g : List (Event C)) → Legal C base g → find_back C all t g ≡ SubSince → (d : Done C) → In d (grants C g) → is_own C all t d ≡ true
        → (k : ℕ) → last_sub C base.stamp g t ≡ Some k → k < number C d → ⊥
    since_own all t [] legal e d i own k f lt = i
    since_own all t (Begin n p ∷ g) legal e d i own k f lt = since_own all t g legal.1 e d i own k f lt
    since_own all t (Undo j ∷ g) legal e d i own k f lt = since_own all t g legal.1 e d i own k f lt
    since_own all t (Abort u ∷ g) legal e d i own k f lt = since_own all t g legal.1 e d i own k f lt
    since_own all t (Call c ∷ g) legal e d i own k f lt = by_test (is_own C all t c)
        (λ m. not_found c (sym (ap (λ b. cond b (Found c) (find_back C all t g)) m) ∙ e))
        (λ m. elim (In-cases d (grants C g) (c ∷ []) i) [
          | inl j ↦ since_own all t g legal.1 (sym (ap (λ b. cond b (Found c) (find_back C all t g)) m) ∙ e) d j own k f lt
          | inr j ↦ elim j [ inl is ↦ false≢true (sym m ∙ ap (is_own C all t) (sym is) ∙ own) | inr none ↦ none ]
        ])
    since_own all t (Commit u ∷ g) legal e d i own k f lt = by_test (is_child C g t u)
        (λ m.
        let same : last_stamp C base.stamp g ≡ k = same_some (last_stamp C base.stamp g) k (sym (ap (λ b. cond b (Some (last_stamp C base.stamp g)) (last_sub C base.stamp g t)) m) ∙ f) in
        let le = Each-at (λ c. number C c ≤ last_stamp C base.stamp g) (grants C g) d (sound_all C L base base_sound g legal.1).stamps i in
        omega arith)
        (λ m. since_own all t g legal.1 (sym (ap (λ b. cond b SubSince (find_back C all t g)) m) ∙ e) d i own k (sym (ap (λ b. cond b (Some (last_stamp C base.stamp g)) (last_sub C base.stamp g t)) m) ∙ f) lt)

    -- what came after the last commit of a child is t's own
    abbrev IsRecent : List (Event C) → ℕ → Done C → Type 0
    IsRecent h t d = ((k : ℕ) → last_sub C base.stamp h t ≡ Some k → k < number C d) → d.asker ≡ t

    -- the same last commit
    as_recent : (h h' : List (Event C)) (t : ℕ) → last_sub C base.stamp h' t ≡ last_sub C base.stamp h t → (ds : List (Done C)) → Each (IsRecent h t) ds → Each (IsRecent h' t) ds
    as_recent h h' t same [] r = tt
    as_recent h h' t same (d ∷ ds) r = ((λ later. r.0 (λ k e. later k (same ∙ e))), as_recent h h' t same ds r.1)

    recent_all : (h : List (Event C)) → Legal C base h → (t : ℕ) → IsLive C base.transaction h t → Each (IsRecent h t) (lists C h t)
    recent_all [] legal t live = tt
    recent_all (Begin n p ∷ h) legal t live =
        let sound = sound_all C L base base_sound h legal.1 in
        let next = legal.0.next in
        by_number t n
        (λ is. subst (Each (IsRecent h t)) (by_list (lists C h t) (λ e. sym e) (λ c cs e.
        let about = (lived C base.transaction h t (list_live C L base h sound t c (subst (In c) (sym e) (inl refl)))).begun in absurd (omega arith))) tt)
        (λ ne. let le = (lived C base.transaction (Begin n p ∷ h) t live).begun in recent_all h legal.1 t (begin_was_live C L base h sound n p legal.0 t (omega arith) live))
    recent_all (Call c ∷ h) legal t live =
        let sound = sound_all C L base base_sound h legal.1 in
        let old = recent_all h legal.1 t (call_was_live C L base h sound c legal.0 t live) in
        by_number t c.asker
        (λ is. subst (Each (IsRecent h t)) (sym (put_same (lists C h) c.asker (c ∷ lists C h c.asker) t is)) ((λ later. sym is), subst (λ v. Each (IsRecent h t) (lists C h v)) is old))
        (λ ne. subst (Each (IsRecent h t)) (sym (put_other (lists C h) c.asker (c ∷ lists C h c.asker) t ne)) old)
    recent_all (Undo j ∷ h) legal t live =
        let sound = sound_all C L base base_sound h legal.1 in
        let v = legal.0.0 in
        let d = legal.0.1 in
        let may = legal.0.2 in
        let f = target_newest C L base base_sound h legal.1 v d may.live may.target in
        let was = undo_was_live C L base h sound v d f.0 may.live may.no_child f.1 f.2 t (subst (λ k. IsLive C base.transaction (Undo k ∷ h) t) (sym legal.0.3) live) in
        let old = recent_all h legal.1 t was in
        let now : lists C (Undo j ∷ h) t ≡ put (lists C h) v f.0 t = ap (λ k. lists C (Undo k ∷ h) t) (sym legal.0.3) ∙ ap (λ l. l t) (undo_lists C L base h sound v d f.0 may.live may.no_child f.1 f.2) in
        by_number t v
        (λ is. subst (Each (IsRecent h t)) (sym (now ∙ put_same (lists C h) v f.0 t is)) (behind (IsRecent h t) d f.0 (subst (Each (IsRecent h t)) (ap (lists C h) is ∙ f.1) old)))
        (λ ne. subst (Each (IsRecent h t)) (sym (now ∙ put_other (lists C h) v f.0 t ne)) old)
      where
        behind : (P : Done C → Type 0) (x : Done C) (xs : List (Done C)) → Each P (x ∷ xs) → Each P xs
        behind P x xs r = r.1
    recent_all (Commit u ∷ h) legal t live =
        let sound = sound_all C L base base_sound h legal.1 in
        let was = commit_was_live C L base h sound u legal.0 t live in
        into h legal.1 u t was.1 (recent_all h legal.1 t was.0) (parent C h u) refl
      where
        into : (h : List (Event C)) → Legal C base h → (u t : ℕ) → t ≢ u → Each (IsRecent h t) (lists C h t) → (o : Option ℕ) → parent C h u ≡ o → Each (IsRecent (Commit u ∷ h) t) (handed (lists C h) u o t)
        into h legal u t ne old None e =
            subst (Each (IsRecent (Commit u ∷ h) t)) (sym (put_other (lists C h) u [] t ne))
            (as_recent h (Commit u ∷ h) t (ap (λ o. cond (is_some_and o (λ q. q == t)) (Some (last_stamp C base.stamp h)) (last_sub C base.stamp h t)) e) (lists C h t) old)
        into h legal u t ne old (Some p) e =
            let log = lists C h in
            let mid : ℕ → List (Done C) = put log p (log u ++ log p) in
            let sound = sound_all C L base base_sound h legal in
            let now : last_sub C base.stamp (Commit u ∷ h) t ≡ cond (p == t) (Some (last_stamp C base.stamp h)) (last_sub C base.stamp h t) =
            ap (λ o. cond (is_some_and o (λ q. q == t)) (Some (last_stamp C base.stamp h)) (last_sub C base.stamp h t)) e in
            subst (Each (IsRecent (Commit u ∷ h) t)) (sym (put_other mid u [] t ne)) (by_number t p
            (λ is. subst (Each (IsRecent (Commit u ∷ h) t)) (sym (put_same log p (log u ++ log p) t is))
            (Each-from (IsRecent (Commit u ∷ h) t) (log u ++ log p) (λ d i later.
            let lt = later (last_stamp C base.stamp h) (now ∙ ap (λ b. cond b (Some (last_stamp C base.stamp h)) (last_sub C base.stamp h t)) (eq-eqb p t (sym is))) in
            let there : In d (standing C h) = elim (In-cases d (log u) (log p) i) [ inl j ↦ (sound.runs.kept.owned u d j).0 | inr j ↦ (sound.runs.kept.owned p d j).0 ] in
            let le = stamp_known C L base h sound d there in
            absurd (omega arith))))
            (λ other. subst (Each (IsRecent (Commit u ∷ h) t)) (sym (put_other log p (log u ++ log p) t other))
            (as_recent h (Commit u ∷ h) t (now ∙ ap (λ b. cond b (Some (last_stamp C base.stamp h)) (last_sub C base.stamp h t)) (ne_eqb p t (λ k. other (sym k)))) (log t) old)))
    recent_all (Abort u ∷ h) legal t live =
        let sound = sound_all C L base base_sound h legal.1 in
        let was = abort_was_live C L base h sound u legal.0 t live in
        subst (Each (IsRecent h t)) (sym (ap (λ b. cond b [] (lists C h t)) was.1))
        (recent_all h legal.1 t was.0)

by_target : {C : Calls} {P : Type 0} (x : Target C) → ((d : Done C) → x ≡ Found d → P) → (x ≡ SubSince → P) → (x ≡ Nothing → P) → P
by_target (Found d) f s n = f d refl
by_target SubSince f s n = s refl
by_target Nothing f s n = n refl

pub target_by_stamps : (C : Calls) → Lawful C → TargetByStamps C
target_by_stamps C L base base_sound h legal t live =
    let sound = sound_all C L base base_sound h legal in
    let recent = recent_all C base L base_sound h legal t live in
    -- the newest, where it came after the last commit, is own
    let own : (d : Done C) (ds : List (Done C)) → lists C h t ≡ d ∷ ds → ((k : ℕ) → last_sub C base.stamp h t ≡ Some k → k < number C d) → In d (grants C h) × (is_own C h t d ≡ true) = λ d ds e later.
    let there = sound.runs.kept.owned t d (subst (In d) (sym e) (inl refl)) in
    let about = stands C L base h sound d there.0 in
    let mine : d.asker ≡ t = (subst (Each (λ c. ((k : ℕ) → last_sub C base.stamp h t ≡ Some k → k < number C c) → c.asker ≡ t)) e recent).0 later in
    (about.0, ap (λ b. b && is_standing C h d) (eq-eqb d.asker t mine) ∙ about.1) in
    record {
      found = λ d ds e later. by_target (undo_target C h t)
          (λ c is. is ∙ ap Found (head (sym (target_newest C L base base_sound h legal t c live is).1 ∙ e)))
          (λ is. let since = since_some C base h t h is in let mine = own d ds e later in absurd (since_own C base L base_sound h t h legal is d mine.0 mine.1 since.0 since.1 (later since.0 since.1)))
          (λ is. let mine = own d ds e later in absurd (nothing_own C base h t h is d mine.0 mine.1));
      since = λ k e old. by_target (undo_target C h t)
          (λ c is.
          let newest = target_newest C L base base_sound h legal t c live is in
          let le = old c newest.0 newest.1 in
          let lt = found_later C base L base_sound h t h legal c is k e in
          absurd (omega arith))
          (λ is. is)
          (λ is. absurd (none_some k (sym (nothing_none C base h t h is) ∙ e)));
      nothing = λ e empty. by_target (undo_target C h t)
          (λ c is. absurd (no_call (sym empty ∙ (target_newest C L base base_sound h legal t c live is).1)))
          (λ is. let since = since_some C base h t h is in absurd (none_some since.0 (sym e ∙ since.1)))
          (λ is. is);
    }
  where
    head : {A : Type 0} {x y : A} {xs ys : List A} → x ∷ xs ≡ y ∷ ys → x ≡ y
    head e = cc

    no_call : {A : Type 0} {x : A} {xs : List A} → [] ≡ x ∷ xs → ⊥
    no_call e = cc

pub sub_commits : (C : Calls) → SubCommits C
sub_commits C first h u = record {
  under = λ p up t.
      ap (λ o. cond (is_some_and o (λ q. q == t)) (Some (last_stamp C first h)) (last_sub C first h t)) up
      ∙ by_number t p
      (λ is. ap (λ b. cond b (Some (last_stamp C first h)) (last_sub C first h t)) (eq-eqb p t (sym is)) ∙ sym (put_same (last_sub C first h) p (Some (last_stamp C first h)) t is))
      (λ ne. ap (λ b. cond b (Some (last_stamp C first h)) (last_sub C first h t)) (ne_eqb p t (λ e. ne (sym e))) ∙ sym (put_other (last_sub C first h) p (Some (last_stamp C first h)) t ne));
  top = λ up t. ap (λ o. cond (is_some_and o (λ q. q == t)) (Some (last_stamp C first h)) (last_sub C first h t)) up;
}
