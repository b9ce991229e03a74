-- What the links are after a record is written.
use Rattle.std.proofs.Common.{◌≡◌, ◌≢◌, ◌<◌, ◌+◌, ℕ, zero, suc, true, cond, Option, Some, None, List, [], ◌∷◌, ◌++◌, length, set, refl, sym, ap, ◌∙◌, arith, length-set, eq-eqb, ne_eqb}
use Rattle.std.specs.Prelude.{slice_get, is_some}
use Rattle.std.specs.Cmp.{nat_cmp_total, unsigned_tied}
use Rattle.std.specs.Ordering.{nat_cmp}
use Rattle.std.specs.FinMap as finite
use Rattle.std.proofs.lemmas.List.{length_push}
use Rattle.ft_history.specs.Logs.{put}
use Rattle.ft_history.proofs.Words.{put_same, put_other, by_number}
use Rattle.ft_forest.specs.declared.state.State.{State}
use Rattle.ft_forest.specs.declared.state.State.TheVariants.{Live}
use Rattle.ft_forest.specs.declared.record.LiveRecord.{LiveRecord}
use Rattle.ft_forest.specs.Records.{Links, LiveRecords, links_by, youngest_by, put_youngest, forgotten_links, no_links, parent_by, state_by, parent_from, state_from, depth_from, children_from, youngest_from, older_from, younger_from}

-- the element at a place, once another is written
pub get-set_same : {A : Type 0} (xs : List A) (p : ℕ) (x : A) → p < length xs → slice_get (set xs p x) p ≡ Some x
get-set_same [] p x lt = absurd (omega arith)
get-set_same (y ∷ ys) zero x lt = refl
get-set_same (y ∷ ys) (suc p) x lt = get-set_same ys p x (omega arith)

pub get-set_other : {A : Type 0} (xs : List A) (p : ℕ) (x : A) (i : ℕ) → i ≢ p → slice_get (set xs p x) i ≡ slice_get xs i
get-set_other [] p x i ne = refl
get-set_other (y ∷ ys) zero x zero ne = absurd (ne refl)
get-set_other (y ∷ ys) zero x (suc i) ne = refl
get-set_other (y ∷ ys) (suc p) x zero ne = refl
get-set_other (y ∷ ys) (suc p) x (suc i) ne = get-set_other ys p x i (λ e. ne (ap suc e))

-- what is kept of a live transaction, once another is kept or it is let go
module _ (live : LiveRecords) (p : ℕ) where
  pub inserted_same : (new : LiveRecord) (i : ℕ) → i ≡ p → finite.get (finite.insert live p new) i ≡ Some new
  inserted_same new i e = finite.get-insert nat_cmp_total live p new i ∙ ap (λ b. cond b (Some new) (finite.get live i)) (unsigned_tied i p ∙ eq-eqb i p e)

  pub inserted_other : (new : LiveRecord) (i : ℕ) → i ≢ p → finite.get (finite.insert live p new) i ≡ finite.get live i
  inserted_other new i ne = finite.get-insert nat_cmp_total live p new i ∙ ap (λ b. cond b (Some new) (finite.get live i)) (unsigned_tied i p ∙ ne_eqb i p ne)

  removed_same : (i : ℕ) → i ≡ p → finite.get (finite.remove live p) i ≡ None
  removed_same i e = finite.get-remove nat_cmp_total live p i ∙ ap (λ b. cond b None (finite.get live i)) (unsigned_tied i p ∙ eq-eqb i p e)

  removed_other : (i : ℕ) → i ≢ p → finite.get (finite.remove live p) i ≡ finite.get live i
  removed_other i ne = finite.get-remove nat_cmp_total live p i ∙ ap (λ b. cond b None (finite.get live i)) (unsigned_tied i p ∙ ne_eqb i p ne)

  -- what each of these leaves at all places
  pub inserted : {X : Type 0} (g : Option LiveRecord → X) (new : LiveRecord) (i : ℕ) → g (finite.get (finite.insert live p new) i) ≡ put (λ k. g (finite.get live k)) p (g (Some new)) i
  inserted g new i = by_number i p
      (λ e. ap g (inserted_same new i e) ∙ sym (put_same (λ k. g (finite.get live k)) p (g (Some new)) i e))
      (λ ne. ap g (inserted_other new i ne) ∙ sym (put_other (λ k. g (finite.get live k)) p (g (Some new)) i ne))

  removed : {X : Type 0} (g : Option LiveRecord → X) (i : ℕ) → g (finite.get (finite.remove live p) i) ≡ put (λ k. g (finite.get live k)) p (g None) i
  removed g i = by_number i p
      (λ e. ap g (removed_same i e) ∙ sym (put_same (λ k. g (finite.get live k)) p (g None) i e))
      (λ ne. ap g (removed_other i ne) ∙ sym (put_other (λ k. g (finite.get live k)) p (g None) i ne))

-- links are the same if each of them is
pub links-same : (a b : Links) → a.count ≡ b.count → ((i : ℕ) → a.parent i ≡ b.parent i) → ((i : ℕ) → a.state i ≡ b.state i) → ((i : ℕ) → a.kept i ≡ b.kept i) → ((i : ℕ) → a.depth i ≡ b.depth i)
    → ((i : ℕ) → a.children i ≡ b.children i) → ((p : Option ℕ) → a.youngest p ≡ b.youngest p) → ((i : ℕ) → a.older i ≡ b.older i) → ((i : ℕ) → a.younger i ≡ b.younger i) → a ≡ b
links-same a b count parent state kept depth children youngest older younger = λ j. record {
  count = count j;
  parent = λ i. parent i j;
  state = λ i. state i j;
  kept = λ i. kept i j;
  depth = λ i. depth i j;
  children = λ i. children i j;
  youngest = λ p. youngest p j;
  older = λ i. older i j;
  younger = λ i. younger i j;
}

module _ (top : Option ℕ) (rs : List ℕ) (live : LiveRecords) where
  abbrev s : Links
  s = links_by top rs live

  -- another state
  module _ (p old new : ℕ) (lt : p < length rs) (there : slice_get rs p ≡ Some old) (parent : parent_by new ≡ parent_by old) (state : State) (is : state_by new ≡ state) where
    abbrev written : List ℕ
    written = set rs p new

    same_parent : (i : ℕ) → parent_from (slice_get written i) ≡ parent_from (slice_get rs i)
    same_parent i = by_number i p
        (λ e. ap (λ k. parent_from (slice_get written k)) e ∙ ap parent_from (get-set_same rs p new lt) ∙ parent ∙ sym (ap parent_from there) ∙ ap (λ k. parent_from (slice_get rs k)) (sym e))
        (λ ne. ap parent_from (get-set_other rs p new i ne))

    new_state : (i : ℕ) → state_from (slice_get written i) ≡ put s.state p (Some state) i
    new_state i = by_number i p
        (λ e. ap (λ k. state_from (slice_get written k)) e ∙ ap state_from (get-set_same rs p new lt) ∙ ap Some is ∙ sym (put_same s.state p (Some state) i e))
        (λ ne. ap state_from (get-set_other rs p new i ne) ∙ sym (put_other s.state p (Some state) i ne))

    pub write-state : links_by top written live ≡ record s { state = put s.state p (Some state) }
    write-state = links-same _ _ (length-set rs p new) same_parent new_state (λ i. refl) (λ i. refl) (λ i. refl) (λ q. refl) (λ i. refl) (λ i. refl)

  -- another record of a live transaction
  module _ (p : ℕ) (old : LiveRecord) (there : finite.get live p ≡ Some old) where
    -- what a write leaves, and what it changes
    same : {X : Type 0} (g : Option LiveRecord → X) (new : LiveRecord) → g (Some new) ≡ g (Some old) → (i : ℕ) → g (finite.get (finite.insert live p new) i) ≡ g (finite.get live i)
    same g new alike i = by_number i p
        (λ e. ap g (inserted_same live p new i e) ∙ alike ∙ ap g (sym there) ∙ ap (λ k. g (finite.get live k)) (sym e))
        (λ ne. ap g (inserted_other live p new i ne))

    same_youngest : (new : LiveRecord) → new.youngest ≡ old.youngest → (q : Option ℕ) → youngest_by top (finite.insert live p new) q ≡ youngest_by top live q
    same_youngest new alike None = refl
    same_youngest new alike (Some q) = same youngest_from new alike q

    new_youngest : (new : LiveRecord) (q : Option ℕ) → youngest_by top (finite.insert live p new) q ≡ put_youngest (youngest_by top live) (Some p) new.youngest q
    new_youngest new None = refl
    new_youngest new (Some q) = inserted live p youngest_from new q

    pub write-children : (n : ℕ) → links_by top rs (finite.insert live p (record old { children = n })) ≡ record s { children = put s.children p n }
    write-children x = let new = record old { children = x } in
        links-same _ _ refl (λ i. refl) (λ i. refl) (same is_some new refl) (same depth_from new refl) (inserted live p children_from new) (same_youngest new refl) (same older_from new refl) (same younger_from new refl)

    pub write-child : (n : ℕ) (y : Option ℕ) → links_by top rs (finite.insert live p (record old { children = n; youngest = y })) ≡ record s { children = put s.children p n; youngest = put_youngest s.youngest (Some p) y }
    write-child x y = let new = record old { children = x; youngest = y } in
        links-same _ _ refl (λ i. refl) (λ i. refl) (same is_some new refl) (same depth_from new refl) (inserted live p children_from new) (new_youngest new) (same older_from new refl) (same younger_from new refl)

    pub write-youngest : (y : Option ℕ) → links_by top rs (finite.insert live p (record old { youngest = y })) ≡ record s { youngest = put_youngest s.youngest (Some p) y }
    write-youngest x = let new = record old { youngest = x } in
        links-same _ _ refl (λ i. refl) (λ i. refl) (same is_some new refl) (same depth_from new refl) (same children_from new refl) (new_youngest new) (same older_from new refl) (same younger_from new refl)

    pub write-older : (o : Option ℕ) → links_by top rs (finite.insert live p (record old { older = o })) ≡ record s { older = put s.older p o }
    write-older x = let new = record old { older = x } in
        links-same _ _ refl (λ i. refl) (λ i. refl) (same is_some new refl) (same depth_from new refl) (same children_from new refl) (same_youngest new refl) (inserted live p older_from new) (same younger_from new refl)

    pub write-younger : (o : Option ℕ) → links_by top rs (finite.insert live p (record old { younger = o })) ≡ record s { younger = put s.younger p o }
    write-younger x = let new = record old { younger = x } in
        links-same _ _ refl (λ i. refl) (λ i. refl) (same is_some new refl) (same depth_from new refl) (same children_from new refl) (same_youngest new refl) (same older_from new refl) (inserted live p younger_from new)

  -- no record of one that is live no more
  gone_youngest : (p : ℕ) (q : Option ℕ) → youngest_by top (finite.remove live p) q ≡ put_youngest (youngest_by top live) (Some p) None q
  gone_youngest p None = refl
  gone_youngest p (Some q) = removed live p youngest_from q

  pub write-forgotten : (p : ℕ) → links_by top rs (finite.remove live p) ≡ forgotten_links s p
  write-forgotten p = links-same _ _ refl (λ i. refl) (λ i. refl) (removed live p is_some) (removed live p depth_from) (removed live p children_from) (gone_youngest p) (removed live p older_from) (removed live p younger_from)

-- the element at a place, once another is put behind
pub get-push_same : {A : Type 0} (xs : List A) (x : A) → slice_get (xs ++ x ∷ []) (length xs) ≡ Some x
get-push_same [] x = refl
get-push_same (y ∷ ys) x = get-push_same ys x

pub get-push_other : {A : Type 0} (xs : List A) (x : A) (i : ℕ) → i ≢ length xs → slice_get (xs ++ x ∷ []) i ≡ slice_get xs i
get-push_other [] x zero ne = absurd (ne refl)
get-push_other [] x (suc i) ne = refl
get-push_other (y ∷ ys) x zero ne = refl
get-push_other (y ∷ ys) x (suc i) ne = get-push_other ys x i (λ e. ne (ap suc e))

-- a record of a live transaction without children is put behind the others
abbrev pub pushed_links : Links → Option ℕ → ℕ → Option ℕ → Links
pushed_links s parent depth older = record {
  count = s.count + 1;
  parent = put s.parent s.count parent;
  state = put s.state s.count (Some Live);
  kept = put s.kept s.count true;
  depth = put s.depth s.count depth;
  children = put s.children s.count 0;
  youngest = put_youngest s.youngest (Some s.count) None;
  older = put s.older s.count older;
  younger = put s.younger s.count None;
}

-- what is kept of it
abbrev pub live_record : ℕ → Option ℕ → LiveRecord
live_record depth older = record { depth = depth; children = 0; youngest = None; older = older; younger = None }

module _ (top : Option ℕ) (rs : List ℕ) (live : LiveRecords) (r : ℕ) where
  pushed : {X : Type 0} (g : Option ℕ → X) (i : ℕ) → g (slice_get (rs ++ r ∷ []) i) ≡ put (λ k. g (slice_get rs k)) (length rs) (g (Some r)) i
  pushed g i = by_number i (length rs)
      (λ e. ap (λ k. g (slice_get (rs ++ r ∷ []) k)) e ∙ ap g (get-push_same rs r) ∙ sym (put_same (λ k. g (slice_get rs k)) (length rs) (g (Some r)) i e))
      (λ ne. ap g (get-push_other rs r i ne) ∙ sym (put_other (λ k. g (slice_get rs k)) (length rs) (g (Some r)) i ne))

  more_youngest : (x : LiveRecord) (q : Option ℕ) → youngest_by top (finite.insert live (length rs) x) q ≡ put_youngest (youngest_by top live) (Some (length rs)) x.youngest q
  more_youngest x None = refl
  more_youngest x (Some q) = inserted live (length rs) youngest_from x q

  pub write-push : (parent : Option ℕ) (depth : ℕ) (older : Option ℕ) → parent_by r ≡ parent → state_by r ≡ Live
      → links_by top (rs ++ r ∷ []) (finite.insert live (length rs) (live_record depth older)) ≡ pushed_links (links_by top rs live) parent depth older
  write-push parent depth older up state =
      let x = live_record depth older in
      let s = links_by top rs live in
      links-same _ _ (length_push rs r) (λ i. pushed parent_from i ∙ ap (λ o. put s.parent (length rs) o i) up) (λ i. pushed state_from i ∙ ap (λ o. put s.state (length rs) (Some o) i) state)
      (inserted live (length rs) is_some x) (inserted live (length rs) depth_from x) (inserted live (length rs) children_from x) (more_youngest x) (inserted live (length rs) older_from x) (inserted live (length rs) younger_from x)

-- where there is no record, nothing is linked
pub no-records : links_by None [] finite.empty ≡ no_links
no-records = links-same _ _ refl (λ i. refl) (λ i. refl) (λ i. ap is_some (finite.get-empty nat_cmp i)) (λ i. ap depth_from (finite.get-empty nat_cmp i)) (λ i. ap children_from (finite.get-empty nat_cmp i)) none_youngest
    (λ i. ap older_from (finite.get-empty nat_cmp i)) (λ i. ap younger_from (finite.get-empty nat_cmp i))
  where
    none_youngest : (q : Option ℕ) → youngest_by None finite.empty q ≡ None
    none_youngest None = refl
    none_youngest (Some q) = ap youngest_from (finite.get-empty nat_cmp q)
