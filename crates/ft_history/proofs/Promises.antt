-- The promises, from what every history keeps.
use Rattle.std.proofs.Common.{◌≡◌, ◌≢◌, ◌<◌, ◌≤◌, ◌+◌, ℕ, suc, Bool, true, false, not, cond, ◌||◌, ◌&&◌, Option, Some, List, [], ◌∷◌, ◌++◌, inl, length, sym, refl, ap, ◌∙◌, subst, arith, eq-eqb, ne_eqb, append_assoc, append-nil}
use Rattle.std.proofs.lemmas.Bool.{false≢true}
use Rattle.ft_laws.specs.Lists.{Each, In}
use Rattle.ft_laws.specs.Calls.{Calls, Done}
use Rattle.ft_laws.specs.Laws.{Lawful}
use Rattle.ft_laws.specs.Runs.{run}
use Rattle.ft_laws.proofs.Lists.{Each-append, Each-map, Each-from, Each-at, Pairs-map, In-front}
use Rattle.ft_laws.proofs.Tests.{by_test}
use Rattle.ft_history.specs.Logs.{passing}
use Rattle.ft_history.specs.History.{Base, Event, number, last_transaction, last_stamp, parent, over, some_abort, is_gone, is_undone, IsLive, grants, is_standing, standing}
use Rattle.ft_history.specs.History.Event.{Begin, Call, Undo, Commit, Abort}
use Rattle.ft_history.specs.Undoing.{is_own, find_back, MayUndo, IsWithin}
use Rattle.ft_history.specs.Undoing.Target.{Found}
use Rattle.ft_history.specs.Legal.{Legal}
use Rattle.ft_history.specs.Ledger.{lists}
use Rattle.ft_history.specs.Orders.{IsInFront}
use Rattle.ft_history.specs.Promises.{NewestFirst, Headline, Ownership, LogOrder, AbortOrder, IsAsBefore, JustMade, AbortAlone, AbortCount, ExactLedger, BeginKeeps, AskKeeps, UndoKeeps, CommitKeeps, AbortKeeps, SweepKeeps, LiveOwners, CheckpointKeeps}
use Rattle.ft_history.proofs.Words.{put_other, by_list, passing_agree, passing_front}
use Rattle.ft_history.proofs.Forest.{above_grown}
use Rattle.ft_history.proofs.Owning.{owns_one}
use Rattle.ft_history.proofs.Aborting.{stays, runs_dropped}
use Rattle.ft_history.proofs.History.{owner, laws, list_live, lists_order, newest_order, asker_there, owner_is_live, owner_over, live_owner, abort_standing, abort_under}
use Rattle.ft_history.proofs.Legal.{sound_all}
use Rattle.ft_history.proofs.Methods.{core_begun, core_asked, core_undone, core_committed, core_swept, core_checkpoint, core_taken_back}
use Rattle.ft_history.proofs.Machine.{machine_same}
use Rattle.ft_history.proofs.Living.{lived}

module _ (C : Calls) (L : Lawful C) where
  pub headline : Headline C
  headline base base_sound h legal =
      let runs = (sound_all C L base base_sound h legal).runs in
      record { store = machine_same C L base base_sound h legal; replies = runs.faithful; order = runs.kept.rising }

  pub ownership : Ownership C
  ownership base base_sound h legal = (sound_all C L base base_sound h legal).runs.kept.nested

  pub log_order : LogOrder C
  log_order base base_sound h legal = (sound_all C L base base_sound h legal).runs.kept.behind

  pub abort_order : AbortOrder C
  abort_order base base_sound h hidden s log core t xs live order = (core_taken_back C L base base_sound h hidden s log core t xs live order).1.store

  pub exact_ledger : ExactLedger C
  exact_ledger base base_sound h legal t =
      let sound = sound_all C L base base_sound h legal in
      let kept = sound.runs.kept in
      record {
        owned = kept.owned t;
        all = kept.logged t;
        once = Pairs-map (IsInFront C) (λ a b. number C a ≢ number C b) (λ a b f. f.0) (lists C h t) (kept.behind t);
        live = λ some. by_list (lists C h t) (λ e. absurd (some e)) (λ c cs e. list_live C L base h sound t c (subst (In c) (sym e) (inl refl)));
      }

  pub begin_keeps : BeginKeeps C
  begin_keeps base base_sound h hidden s log core n p may = core_begun C L base base_sound h hidden s log core n p may

  pub abort_keeps : AbortKeeps C
  abort_keeps base base_sound h hidden s log core t xs live order = core_taken_back C L base base_sound h hidden s log core t xs live order

  pub newest_first : NewestFirst C
  newest_first base base_sound h legal t = newest_order C L base h (sound_all C L base base_sound h legal) t

  pub ask_keeps : AskKeeps C
  ask_keeps base base_sound h hidden s log core c u made = core_asked C L base base_sound h hidden s log core c u made

  pub undo_keeps : UndoKeeps C
  undo_keeps base base_sound h hidden s log core t d may = let after = core_undone C L base base_sound h hidden s log core t d may in (after.0, after.1, after.2, after.3, after.4)

  pub commit_keeps : CommitKeeps C
  commit_keeps base base_sound h hidden s log core t may = core_committed C L base base_sound h hidden s log core t may

  pub live_owners : LiveOwners C
  live_owners base base_sound h legal =
      let sound = sound_all C L base base_sound h legal in
      let above : (c : Done C) (y : ℕ) → In c (grants C h) → owner C h c ≡ Some y → IsLive C base.transaction h y × (over C h y c.asker ≡ true) = λ c y i e. (owner_is_live C L base h sound c i y e, owner_over C L base h sound c i y e) in
      record {
        above = above;
        live = λ y test k. let one = owns_one C h y test k in (above one.call y one.granted one.owner).0;
        itself = λ t live. live_owner C L base h sound t live;
      }

  pub checkpoint_keeps : CheckpointKeeps C
  checkpoint_keeps base base_sound h hidden s log core none = core_checkpoint C L base base_sound h hidden s log core none

  pub sweep_keeps : SweepKeeps C
  sweep_keeps base base_sound h hidden s log core more new sweep = core_swept C L base base_sound h hidden s log core more new sweep

  passing_refused : {A : Type 0} (p : A → Bool) (xs : List A) (x : A) → p x ≡ false → passing p (xs ++ x ∷ []) ≡ passing p xs
  passing_refused p [] x h = ap (λ b. cond b (x ∷ []) []) h
  passing_refused p (y ∷ ys) x h = ap (λ zs. cond (p y) (y ∷ zs) zs) (passing_refused p ys x h)

  just_made_standing : (base : Base C) → C.IsSound base.store → (h : List (Event C)) (c : Done C) → Legal C base (Call c ∷ h) → standing C (Undo (number C c) ∷ Call c ∷ h) ≡ standing C h
  just_made_standing base base_sound h c legal =
      let k = number C c in
      let before = sound_all C L base base_sound h legal.1 in
      let next = legal.0.next in
      passing_refused (is_standing C (Undo k ∷ Call c ∷ h)) (grants C h) c (ap (λ b. not (b || is_undone C h k) && not (is_gone C h c.asker)) (eq-eqb k k refl))
      ∙ passing_agree (is_standing C (Undo k ∷ Call c ∷ h)) (is_standing C h) (grants C h)
      (Each-map (λ d. number C d ≤ last_stamp C base.stamp h) (λ d. is_standing C (Undo k ∷ Call c ∷ h) d ≡ is_standing C h d)
      (λ d le. ap (λ b. not (b || is_undone C h (number C d)) && not (is_gone C h d.asker)) (ne_eqb (number C d) k (λ e. absurd (omega arith)))) (grants C h) before.stamps)

  -- where the same calls stand, the machine's store is the same
  as_before : (base : Base C) → C.IsSound base.store → (after before : List (Event C)) → Legal C base after → Legal C base before → standing C after ≡ standing C before → IsAsBefore C base after before
  as_before base base_sound after before legal was same = record {
    standing = same;
    store = λ x. sym (machine_same C L base base_sound after legal x) ∙ ap (λ cs. C.cell (run C base.store cs) x) same ∙ machine_same C L base base_sound before was x;
  }

  pub just_made : JustMade C
  just_made base base_sound h c legal none =
      let sound = sound_all C L base base_sound h legal.1 in
      let own : is_own C (Call c ∷ h) c.asker c ≡ true =
      ap (λ b. b && is_standing C h c) (eq-eqb c.asker c.asker refl) ∙ ap (λ b. not b && not (is_gone C h c.asker)) (sound.undone_old (number C c) legal.0.next) ∙ ap not (lived C base.transaction h c.asker legal.0.live).there in
      let may : MayUndo C base.transaction (Call c ∷ h) c.asker c = record {
        live = legal.0.live;
        no_child = none;
        target = ap (λ b. cond b (Found c) (find_back C (Call c ∷ h) c.asker h)) own;
      } in
      (may, as_before base base_sound (Undo (number C c) ∷ Call c ∷ h) h ((c.asker, c, may, refl), legal) legal.1 (just_made_standing base base_sound h c legal))

  -- Counts.
  partition : {A : Type 0} (p : A → Bool) (xs : List A) → length (passing (λ x. not (p x)) xs) + length (passing p xs) ≡ length xs
  partition p [] = omega arith
  partition p (x ∷ xs) = by_test (p x)
      (λ k.
      let ih = partition p xs in
      let one = ap (λ b. length (cond (not b) (x ∷ passing (λ y. not (p y)) xs) (passing (λ y. not (p y)) xs))) k in
      let two = ap (λ b. length (cond b (x ∷ passing p xs) (passing p xs))) k in omega arith)
      (λ k.
      let ih = partition p xs in
      let one = ap (λ b. length (cond (not b) (x ∷ passing (λ y. not (p y)) xs) (passing (λ y. not (p y)) xs))) k in
      let two = ap (λ b. length (cond b (x ∷ passing p xs) (passing p xs))) k in omega arith)

  pub abort_left : (base : Base C) → C.IsSound base.store → (h : List (Event C)) → Legal C base h → (t : ℕ) → IsLive C base.transaction h t → standing C (Abort t ∷ h) ≡ passing (λ c. not (over C h t c.asker)) (standing C h)
  abort_left base base_sound h legal t live =
      let sound = sound_all C L base base_sound h legal in
      abort_standing C L base h sound t live
      ∙ passing_agree (stays (over C h) (owner C h) t) (λ c. not (over C h t c.asker)) (standing C h)
      (Each-from (λ c. stays (over C h) (owner C h) t c ≡ not (over C h t c.asker)) (standing C h)
      (λ c i. ap not (abort_under C L base h sound t live c.asker (asker_there C L base h sound c i))))

  pub abort_count : AbortCount C
  abort_count base base_sound h legal t xs live order =
      let sound = sound_all C L base base_sound h legal in
      let went = (runs_dropped C L (parent C h) (over C h) (laws C L base h sound) (owner C h) base.store t (standing C h) (lists C h) xs (lists_order C L base h sound t xs order) sound.runs).1 in
      let parts : length (passing (λ c. not (over C h t c.asker)) (standing C h)) + length (passing (λ c. over C h t c.asker) (standing C h)) ≡ length (standing C h) = partition (λ c. over C h t c.asker) (standing C h) in
      let stays_is : length (passing (stays (over C h) (owner C h) t) (standing C h)) ≡ length (standing C (Abort t ∷ h)) = ap length (sym (abort_standing C L base h sound t live)) in
      let left : length (standing C (Abort t ∷ h)) ≡ length (passing (λ c. not (over C h t c.asker)) (standing C h)) = ap length (abort_left base base_sound h legal t live) in
      record { calls = omega arith; entries = omega arith }

-- A transaction that ran alone.
module _ (C : Calls) (base : Base C) (h : List (Event C)) (t : ℕ) (p : Option ℕ) (all : List (Event C)) where
  legal_back : (g : List (Event C)) → Legal C base (g ++ (Begin t p ∷ h)) → Legal C base (Begin t p ∷ h)
  legal_back [] l = l
  legal_back (e ∷ g) l = legal_back g l.1

  last_grows : (g : List (Event C)) → Legal C base (g ++ (Begin t p ∷ h)) → t ≤ last_transaction C base.transaction (g ++ (Begin t p ∷ h))
  last_grows [] l = omega arith
  last_grows (Begin n q ∷ g) l = let le = last_grows g l.1 in let next = l.0.next in omega arith
  last_grows (Call c ∷ g) l = last_grows g l.1
  last_grows (Undo k ∷ g) l = last_grows g l.1
  last_grows (Commit u ∷ g) l = last_grows g l.1
  last_grows (Abort u ∷ g) l = last_grows g l.1

  parent_before : (g : List (Event C)) → Legal C base (g ++ (Begin t p ∷ h)) → (x : ℕ) → x < t → parent C (g ++ (Begin t p ∷ h)) x ≡ parent C h x
  parent_before [] l x lt = put_other (parent C h) t p x (λ e. absurd (omega arith))
  parent_before (Begin n q ∷ g) l x lt =
      let le = last_grows g l.1 in
      let next = l.0.next in
      put_other (parent C (g ++ (Begin t p ∷ h))) n q x (λ e. absurd (omega arith)) ∙ parent_before g l.1 x lt
  parent_before (Call c ∷ g) l x lt = parent_before g l.1 x lt
  parent_before (Undo k ∷ g) l x lt = parent_before g l.1 x lt
  parent_before (Commit u ∷ g) l x lt = parent_before g l.1 x lt
  parent_before (Abort u ∷ g) l x lt = parent_before g l.1 x lt

  own_grants : (g : List (Event C)) → Each (IsWithin C all t) g → (news : List (Done C)) × (grants C (g ++ (Begin t p ∷ h)) ≡ grants C h ++ news) × Each (λ c. over C all t c.asker ≡ true) news
  own_grants [] own = ([], sym (append-nil (grants C h)), tt)
  own_grants (Begin n q ∷ g) own = own_grants g own.1
  own_grants (Call c ∷ g) own =
      let others = own_grants g own.1 in
      (others.0 ++ c ∷ [], ap (λ cs. cs ++ c ∷ []) others.1 ∙ append_assoc (grants C h) others.0 (c ∷ []), Each-append (λ d. over C all t d.asker ≡ true) others.0 (c ∷ []) others.2 (own.0, tt))
  own_grants (Undo k ∷ g) own = own_grants g own.1
  own_grants (Commit u ∷ g) own = own_grants g own.1
  own_grants (Abort u ∷ g) own = own_grants g own.1

  not_undone : (c : Done C) → In c (grants C all) → over C all t c.asker ≡ false → (g : List (Event C)) → Each (IsWithin C all t) g → is_undone C (g ++ (Begin t p ∷ h)) (number C c) ≡ is_undone C h (number C c)
  not_undone c i out [] own = refl
  not_undone c i out (Begin n q ∷ g) own = not_undone c i out g own.1
  not_undone c i out (Call d ∷ g) own = not_undone c i out g own.1
  not_undone c i out (Undo k ∷ g) own =
      ap (λ b. b || is_undone C (g ++ (Begin t p ∷ h)) (number C c)) (ne_eqb (number C c) k (λ e. false≢true (sym out ∙ own.0 c i e))) ∙ not_undone c i out g own.1
  not_undone c i out (Commit u ∷ g) own = not_undone c i out g own.1
  not_undone c i out (Abort u ∷ g) own = not_undone c i out g own.1

  not_aborted : (q : ℕ → Bool) → ((u : ℕ) → over C all t u ≡ true → q u ≡ false) → (g : List (Event C)) → Each (IsWithin C all t) g → some_abort C (g ++ (Begin t p ∷ h)) q ≡ some_abort C h q
  not_aborted q f [] own = refl
  not_aborted q f (Begin n r ∷ g) own = not_aborted q f g own.1
  not_aborted q f (Call c ∷ g) own = not_aborted q f g own.1
  not_aborted q f (Undo k ∷ g) own = not_aborted q f g own.1
  not_aborted q f (Commit u ∷ g) own = not_aborted q f g own.1
  not_aborted q f (Abort u ∷ g) own = ap (λ b. b || some_abort C (g ++ (Begin t p ∷ h)) q) (f u own.0) ∙ not_aborted q f g own.1

module _ (C : Calls) (L : Lawful C) where
  same_standing : (base : Base C) → C.IsSound base.store → (h : List (Event C)) (t : ℕ) (p : Option ℕ) (g : List (Event C)) → Legal C base (Abort t ∷ (g ++ (Begin t p ∷ h))) → Each (IsWithin C (g ++ (Begin t p ∷ h)) t) g
      → standing C (Abort t ∷ (g ++ (Begin t p ∷ h))) ≡ standing C h
  same_standing base base_sound h t p g legal own =
      let all = g ++ (Begin t p ∷ h) in
      let begun = legal_back C base h t p all g legal.1 in
      let old = sound_all C L base base_sound h begun.1 in
      let new = sound_all C L base base_sound all legal.1 in
      let next : t ≡ suc (last_transaction C base.transaction h) = begun.0.next in
      let forest = laws C L base all new in
      let split = own_grants C base h t p all g own in
      let test = is_standing C (Abort t ∷ all) in
      -- what t is not above, since it is older
      let outside : (y : ℕ) → y < t → over C all t y ≡ false = λ y lt. by_test (over C all t y) (λ k. let le = forest.falls t y k in absurd (omega arith)) (λ k. k) in
      let same : (c : Done C) → c.asker ≤ last_transaction C base.transaction h → In c (grants C all) → test c ≡ is_standing C h c = λ c le i.
      let lt : c.asker < t = omega arith in
      let gone : is_gone C all c.asker ≡ is_gone C h c.asker =
      not_aborted C base h t p all (λ u. over C all u c.asker) (λ u a. by_test (over C all u c.asker) (λ k. let one = forest.falls t u a in let two = forest.falls u c.asker k in absurd (omega arith)) (λ k. k)) g own
      ∙ (λ j. some_abort C h (λ u. above_grown (parent C h) (parent C all) old.forest new.forest t (parent_before C base h t p all g legal.1) u c.asker lt j)) in
      ap (λ b. not (is_undone C all (number C c)) && not (b || is_gone C all c.asker)) (outside c.asker lt)
      ∙ ap (λ b. not (is_undone C all (number C c)) && not b) gone
      ∙ ap (λ b. not b && not (is_gone C h c.asker)) (not_undone C base h t p all c i (outside c.asker lt) g own) in
      ap (passing test) split.1
      ∙ passing_front test (grants C h) split.0 (Each-map (λ c. over C all t c.asker ≡ true) (λ c. test c ≡ false) (λ c a. ap (λ b. not (is_undone C all (number C c)) && not (b || is_gone C all c.asker)) a ∙ none (is_undone C all (number C c))) split.0 split.2)
      ∙ passing_agree test (is_standing C h) (grants C h) (Each-from (λ c. test c ≡ is_standing C h c) (grants C h) (λ c i.
      same c (Each-at (λ d. d.asker ≤ last_transaction C base.transaction h) (grants C h) c old.askers i) (subst (In c) (sym split.1) (In-front c (grants C h) split.0 i))))
    where
      none : (u : Bool) → (not u && not true) ≡ false
      none true = refl
      none false = refl

  pub abort_alone : AbortAlone C
  abort_alone base base_sound h legal t before alone =
      let split = alone.split in
      let legal_split : Legal C base (alone.later ++ Begin t alone.up ∷ before) = subst (Legal C base) split legal in
      let live_split : IsLive C base.transaction (alone.later ++ Begin t alone.up ∷ before) t = subst (λ all. IsLive C base.transaction all t) split alone.live in
      let within : Each (IsWithin C (alone.later ++ Begin t alone.up ∷ before) t) alone.later = subst (λ all. Each (IsWithin C all t) alone.later) split alone.within in
      let begun = legal_back C base before t alone.up h alone.later legal_split in
      subst (λ all. IsAsBefore C base (Abort t ∷ all) before) (sym split)
      (as_before C L base base_sound (Abort t ∷ (alone.later ++ Begin t alone.up ∷ before)) before (live_split, legal_split) begun.1 (same_standing base base_sound before t alone.up alone.later (live_split, legal_split) within))
