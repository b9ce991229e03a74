-- Neighbours that don't conflict change places; so a call may go first, and calls may be made by
-- rising ranks.
use Rattle.std.proofs.Common.{◌≡◌, ◌≢◌, ◌<◌, ◌≤◌, ℕ, true, false, cond, nat_lt, List, [], ◌∷◌, ◌++◌, sym, refl, ap, ◌∙◌, subst, arith, ltb-true}
use Rattle.std.proofs.lemmas.Bool.{false≢true}
use Rattle.ft_laws.specs.Lists.{Each, Pairs}
use Rattle.ft_laws.specs.Calls.{Calls, Same, Agree, Done, Fits}
use Rattle.ft_laws.specs.Laws.{Lawful}
use Rattle.ft_laws.specs.Runs.{run, Faithful, Able, Exchange, MayGoFirst, insert_by, sort_by, Respects, MayBeSorted}
use Rattle.ft_laws.proofs.Lists.{Each-append, Each-back, Each-map, Each-without, Pairs-before, Pairs-after, Pairs-without}
use Rattle.ft_laws.proofs.Tests.{by_test}
use Rattle.ft_laws.proofs.Running.{apart_changes, able_next, fits_alike, same_run}
use Rattle.ft_laws.proofs.Deleting.{deletion}

module _ (C : Calls) (L : Lawful C) where
  pub exchange : Exchange C
  exchange s a b able faith clear =
      let sa = C.act s a.call in
      let sb = C.act s b.call in
      let ready_a : C.IsReady a.call s = able.ready.0 in
      let ready_b : C.IsReady b.call s = able.ready.1.0 in
      let after_a : C.IsReady b.call sa = L.stays_ready s a.call b.call able.sound ready_a ready_b able.distinct.0.0 in
      let after_b : C.IsReady a.call sb = L.stays_ready s b.call a.call able.sound ready_b ready_a (λ e. able.distinct.0.0 (sym e)) in
      let sound_a : C.IsSound sa = L.stays_sound s a.call able.sound ready_a in
      let sound_b : C.IsSound sb = L.stays_sound s b.call able.sound ready_b in
      let without = deletion C L s [] a (b ∷ []) able faith (clear, tt) in
      let fit_b : Fits C s b = without.0.0 in
      let back : C.conflict b.accesses a.accesses ≡ false = L.conflict_sym a.accesses b.accesses clear in
      let agree : Agree C a.accesses s sb = λ x touched.
      by_test (C.changes b.accesses x)
      (λ k. absurd (false≢true (sym (L.apart b.accesses a.accesses x back k) ∙ touched)))
      (λ k. sym (L.kept s b.call able.sound ready_b x (subst (λ f. C.changes f x ≡ false) (sym fit_b.accesses) k))) in
      let fit_a : Fits C sb a = fits_alike C L s sb a able.sound sound_b ready_a after_b agree faith.0 in
      let alike = L.frame s sb a.call able.sound sound_b ready_a after_b tt (λ x h. agree x (subst (λ f. C.touches f x ≡ true) faith.0.accesses h)) in (
        (fit_b, (fit_a, tt)),
        λ x.
            by_test (C.changes a.accesses x)
            (λ k. L.kept sa b.call sound_a after_a x (subst (λ f. C.changes f x ≡ false) (sym faith.1.0.accesses) (apart_changes C L a.accesses b.accesses x clear k))
            ∙ sym (alike.written x (subst (λ f. C.changes f x ≡ true) (sym faith.0.accesses) k)))
            (λ k. sym (ap (λ v. cond v (C.cell s x) (C.cell (C.act sa b.call) x)) k) ∙ sym (without.1 x)
            ∙ sym (L.kept sb a.call sound_b after_b x (subst (λ f. C.changes f x ≡ false) (sym fit_a.accesses) k))),
      )

  -- of calls that may be made in any order, two
  two_of : (s : C.Store) (a b : Done C) → C.IsSound s → C.IsReady a.call s → C.IsReady b.call s → C.stamp a.call ≢ C.stamp b.call → Able C s (a ∷ b ∷ [])
  two_of s a b g ra rb ne = record { sound = g; ready = (ra, (rb, tt)); distinct = ((ne, tt), (tt, tt)) }

  able_first : (s : C.Store) (xs : List (Done C)) (a : Done C) (ys : List (Done C)) → Able C s (xs ++ a ∷ ys) → Able C s (a ∷ (xs ++ ys))
  able_first s xs a ys able = record {
    sound = able.sound;
    ready = ((Each-back (λ c. C.IsReady c.call s) xs (a ∷ ys) able.ready).0, Each-without (λ c. C.IsReady c.call s) xs a ys able.ready);
    distinct = (
      Each-append (λ c. C.stamp a.call ≢ C.stamp c.call) xs ys
          (Each-map (λ c. C.stamp c.call ≢ C.stamp a.call) (λ c. C.stamp a.call ≢ C.stamp c.call) (λ c ne e. ne (sym e)) xs (Pairs-before (λ b c. C.stamp b.call ≢ C.stamp c.call) xs a ys able.distinct))
          (Pairs-after (λ b c. C.stamp b.call ≢ C.stamp c.call) xs a ys able.distinct),
      Pairs-without (λ b c. C.stamp b.call ≢ C.stamp c.call) xs a ys able.distinct,
    );
  }

  pub may_go_first : MayGoFirst C
  may_go_first s [] a ys able faith clear = (able, faith, λ x. refl)
  may_go_first s (b ∷ xs) a ys able faith clear =
      let rest = may_go_first (C.act s b.call) xs a ys (able_next C L s b (xs ++ a ∷ ys) able) faith.1 clear.1 in
      let ready_a : C.IsReady a.call s = (Each-back (λ c. C.IsReady c.call s) xs (a ∷ ys) able.ready.1).0 in
      let apart : C.stamp b.call ≢ C.stamp a.call = (Each-back (λ c. C.stamp b.call ≢ C.stamp c.call) xs (a ∷ ys) able.distinct.0).0 in
      let swapped = exchange s b a (two_of s b a able.sound able.ready.0 ready_a apart) (faith.0, (rest.1.0, tt)) clear.0 in
      let all = able_first s (b ∷ xs) a ys able in
      let first = able_next C L s a (b ∷ (xs ++ ys)) all in
      let on = same_run C L (C.act (C.act s b.call) a.call) (C.act (C.act s a.call) b.call) (xs ++ ys) swapped.1
      (able_next C L (C.act s b.call) a (xs ++ ys) rest.0) (able_next C L (C.act s a.call) b (xs ++ ys) first) rest.1.1 in
      (all, (swapped.0.0, (swapped.0.1.0, on.0)), λ x. rest.2 x ∙ on.1 x)

  module _ (rank : Done C → ℕ) where
    -- What holds of each of a list holds of each of the same list sorted.
    each_insert : (P : Done C → Type 0) (c : Done C) (ds : List (Done C)) → P c → Each P ds → Each P (insert_by C rank c ds)
    each_insert P c [] pc h = (pc, tt)
    each_insert P c (d ∷ ds) pc h = by_test (nat_lt (rank d) (rank c))
        (λ k. subst (λ b. Each P (cond b (d ∷ insert_by C rank c ds) (c ∷ d ∷ ds))) (sym k) (h.0, each_insert P c ds pc h.1))
        (λ k. subst (λ b. Each P (cond b (d ∷ insert_by C rank c ds) (c ∷ d ∷ ds))) (sym k) (pc, h))

    pub each_sort : (P : Done C → Type 0) (cs : List (Done C)) → Each P cs → Each P (sort_by C rank cs)
    each_sort P [] h = tt
    each_sort P (c ∷ cs) h = each_insert P c (sort_by C rank cs) h.0 (each_sort P cs h.1)

    abbrev Distinct : List (Done C) → Type 0
    Distinct = Pairs (λ a b. C.stamp a.call ≢ C.stamp b.call)

    distinct_insert : (c : Done C) (ds : List (Done C)) → Each (λ d. C.stamp c.call ≢ C.stamp d.call) ds → Distinct ds → Distinct (insert_by C rank c ds)
    distinct_insert c [] h p = (tt, tt)
    distinct_insert c (d ∷ ds) h p = by_test (nat_lt (rank d) (rank c))
        (λ k. subst (λ b. Distinct (cond b (d ∷ insert_by C rank c ds) (c ∷ d ∷ ds))) (sym k) (each_insert (λ a. C.stamp d.call ≢ C.stamp a.call) c ds (λ e. h.0 (sym e)) p.0, distinct_insert c ds h.1 p.1))
        (λ k. subst (λ b. Distinct (cond b (d ∷ insert_by C rank c ds) (c ∷ d ∷ ds))) (sym k) (h, p))

    distinct_sort : (cs : List (Done C)) → Distinct cs → Distinct (sort_by C rank cs)
    distinct_sort [] h = tt
    distinct_sort (c ∷ cs) h = distinct_insert c (sort_by C rank cs) (each_sort (λ d. C.stamp c.call ≢ C.stamp d.call) cs h.0) (distinct_sort cs h.1)

    pub able_sort : (s : C.Store) (cs : List (Done C)) → Able C s cs → Able C s (sort_by C rank cs)
    able_sort s cs able = record { sound = able.sound; ready = each_sort (λ d. C.IsReady d.call s) cs able.ready; distinct = distinct_sort cs able.distinct }

    -- the run of the one list is faithful, and leaves what that of the other does
    abbrev Goes : C.Store → List (Done C) → List (Done C) → Type 0
    Goes s cs ds = Faithful C s ds × Same C (run C s cs) (run C s ds)

    inserted : (s : C.Store) (c : Done C) (ds : List (Done C)) → Able C s (c ∷ ds) → Faithful C s (c ∷ ds) → Each (λ d. C.conflict c.accesses d.accesses ≡ true → rank c ≤ rank d) ds → Goes s (c ∷ ds) (insert_by C rank c ds)
    inserted s c [] able faith h = (faith, λ x. refl)
    inserted s c (d ∷ ds) able faith h = by_test (nat_lt (rank d) (rank c))
        (λ k.
        let lt : rank d < rank c = ltb-true (rank d) (rank c) k in
        let clear : C.conflict c.accesses d.accesses ≡ false = by_test (C.conflict c.accesses d.accesses) (λ m. let le = h.0 m in absurd (omega arith)) (λ m. m) in
        let swapped = exchange s c d (two_of s c d able.sound able.ready.0 able.ready.1.0 able.distinct.0.0) (faith.0, (faith.1.0, tt)) clear in
        let other : Able C s (d ∷ c ∷ ds) = record {
          sound = able.sound;
          ready = (able.ready.1.0, (able.ready.0, able.ready.1.1));
          distinct = (((λ e. able.distinct.0.0 (sym e)), able.distinct.1.0), (able.distinct.0.1, able.distinct.1.1));
        } in
        let here = able_next C L s d (c ∷ ds) other in
        let on = same_run C L (C.act (C.act s c.call) d.call) (C.act (C.act s d.call) c.call) ds swapped.1
        (able_next C L (C.act s c.call) d ds (able_next C L s c (d ∷ ds) able)) (able_next C L (C.act s d.call) c ds here) faith.1.1 in
        let rest = inserted (C.act s d.call) c ds here (swapped.0.1.0, on.0) h.1 in
        subst (λ b. Goes s (c ∷ d ∷ ds) (cond b (d ∷ insert_by C rank c ds) (c ∷ d ∷ ds))) (sym k) ((swapped.0.0, rest.0), λ x. on.1 x ∙ rest.1 x))
        (λ k. subst (λ b. Goes s (c ∷ d ∷ ds) (cond b (d ∷ insert_by C rank c ds) (c ∷ d ∷ ds))) (sym k) (faith, λ x. refl))

    sorted : (s : C.Store) (cs : List (Done C)) → Able C s cs → Faithful C s cs → Respects C rank cs → Goes s cs (sort_by C rank cs)
    sorted s [] able faith h = (tt, λ x. refl)
    sorted s (c ∷ cs) able faith h =
        let rest = sorted (C.act s c.call) cs (able_next C L s c cs able) faith.1 h.1 in
        let all : Able C s (c ∷ sort_by C rank cs) = record {
          sound = able.sound;
          ready = (able.ready.0, each_sort (λ d. C.IsReady d.call s) cs able.ready.1);
          distinct = (each_sort (λ d. C.stamp c.call ≢ C.stamp d.call) cs able.distinct.0, distinct_sort cs able.distinct.1);
        } in
        let put = inserted s c (sort_by C rank cs) all (faith.0, rest.0) (each_sort (λ d. C.conflict c.accesses d.accesses ≡ true → rank c ≤ rank d) cs h.0) in
        (put.0, λ x. rest.1 x ∙ put.1 x)

  pub may_be_sorted : MayBeSorted C
  may_be_sorted rank s cs able faith h = sorted rank s cs able faith h
