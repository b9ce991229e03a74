-- How far it is up to the root, and what the climb of a rename finds on the way.
use Rattle.std.proofs.Common.{◌≡◌, ◌≢◌, ◌<◌, ◌≤◌, ◌+◌, ℕ, zero, suc, Bool, true, false, cond, List, ◌∷◌, ◌++◌, Option, Some, None, IsSome, is_some, unwrap_or, Result, Ok, Err, arith, eq-eqb, ne_eqb, refl, sym, ap, subst, ◌∙◌}
use Rattle.std.specs.Prelude.{◌==◌, ◌-◌}
use Rattle.std.proofs.lemmas.Bool.{false≢true}
use Rattle.std.proofs.lemmas.Option.{same_Some}
use Rattle.std.specs.Ordering.{nat_cmp}
use Rattle.std.specs.Cmp.{nat_cmp_total, unsigned_tied}
use Rattle.std.specs.FinMap.{FinMap, get, contains_key, remove, len, empty_of_len, get-empty, get-remove, len-remove}
use Rattle.ft_path.specs.declared.path.Parts.{Parts}
use Rattle.ft_path.specs.declared.errno.Errno.{Errno}
use Rattle.ft_path.specs.declared.errno.Errno.TheVariants.{EINVAL}
use Rattle.ft_path.specs.FilePath.{last_of, parts_of}
use Rattle.ft_cells.specs.Entries.{entry_at}
use Rattle.ft_cells.specs.declared.node.Node.TheVariants.{Dir as DirNode, File as FileNode}
use Rattle.ft_cells.specs.declared.cell.Cell.{Cell}
use Rattle.ft_cells.specs.declared.cell.Cell.TheVariants.{Parent}
use Rattle.ft_cells.specs.Cells.{Cells, entry_of, parent_of}
use Rattle.ft_tree.specs.Views.{view_of}
use Rattle.ft_cells.specs.Looks.{Shows, View, Looks, Answer, Look, then, or_else, answer, looked_at, answer-then}
use Rattle.ft_cells.specs.declared.node.PathEnd.{PathEnd}
use Rattle.ft_cells.specs.declared.node.PathEnd.TheVariants.{Named, Itself}
use Rattle.ft_tree.specs.Walk.{walk}
use Rattle.ft_tree.specs.Tidy.{tidy}
use Rattle.ft_tree.specs.Sound.{Hangs, the_root, under, IsTree, AreSoundCells}
use Rattle.ft_posix.specs.declared.call.Call.TheVariants.{Rename}
use Rattle.ft_posix.specs.declared.call.Reply.TheVariants.{Done}
use Rattle.ft_posix.specs.Outcomes.{Outcome, failed, told, from_parts, unless}
use Rattle.ft_posix.specs.Links.{climb, unless_below, rename_fault, renamed, with_parent, replace_dir, rename_dir, rename_old, rename_parts}
use Rattle.ft_posix.proofs.Below.{Avoids, at_root, not_here, height, IsEnough, Alike, StoredEnough, StepsAlike}
use Rattle.ft_posix.proofs.Parents.{contains-under}
use Rattle.ft_posix.proofs.Places.{dir_place-parent}
use Rattle.ft_posix.proofs.Walked.{IsSpot, EndsWell, walk-ends}

-- Heights.

module _ (parent : ℕ → Option ℕ) (top : parent 1 ≡ None) where
  -- the root has no parent
  pub not_under : (d p : ℕ) → parent d ≡ Some p → d ≢ 1
  not_under d p is root = false≢true (ap is_some (sym top ∙ ap parent (sym root) ∙ is))

  -- a directory is at one height
  pub same_height : (d e : ℕ) → d ≡ e → (g : Hangs parent d) (h : Hangs parent e) → height g ≡ height h
  same_height _ _ same the_root the_root = refl
  same_height _ _ same the_root (under e q at above) = absurd (not_under e q at (sym same))
  same_height _ _ same (under d p is up) the_root = absurd (not_under d p is same)
  same_height _ _ same (under d p is up) (under e q at above) = ap (λ n. suc n) (same_height p q (same_Some p q (sym is ∙ ap parent same ∙ at)) up above)

  -- a way up never meets its start again
  not_again : (d : ℕ) (low : Hangs parent d) (e : ℕ) (way : Hangs parent e) → height way < height low → e ≢ d
  not_again d low e way less same = let level = same_height e d same way low in absurd (omega arith)

  module _ {A : Type 0} where
    -- the map has each directory on the way up, but the root
    abbrev HasWay : FinMap nat_cmp A → {d : ℕ} → Hangs parent d → Type 0
    HasWay m the_root = Unit {0}
    HasWay m (under d p is up) = IsSome (get m d) × HasWay m up

    -- and still has where one is left out that is further below the root
    way-without : (m : FinMap nat_cmp A) (d : ℕ) (low : Hangs parent d) (e : ℕ) (way : Hangs parent e) → height way < height low → HasWay m way → HasWay (remove m d) way
    way-without m d low _ the_root less has = tt
    way-without m d low _ (under e p is up) less has = (
      subst IsSome (sym (get-remove nat_cmp_total m d e ∙ ap (λ b. cond b None (get m e)) (unsigned_tied e d ∙ ne_eqb e d (not_again d low e (under e p is up) less)))) has.0,
      way-without m d low p up (omega arith) has.1,
    )

    -- what is left out makes the map smaller
    len-without : (m : FinMap nat_cmp A) (d : ℕ) → IsSome (get m d) → len (remove m d) + 1 ≡ len m
    len-without m d has =
        let some : len m ≢ 0 = λ none. false≢true (sym (ap (λ x. contains_key x d) (empty_of_len m none) ∙ ap is_some (get-empty nat_cmp d)) ∙ has) in
        let less = len-remove nat_cmp_total m d ∙ ap (λ b. cond b (len m - 1) (len m)) has in
        omega arith

    -- so the way up is no longer than the map
    height-len : (m : FinMap nat_cmp A) (d : ℕ) (h : Hangs parent d) → HasWay m h → height h ≤ len m
    height-len m _ the_root has = omega arith
    height-len m _ (under d p is up) has =
        let rest = height-len (remove m d) p up (way-without m d (under d p is up) p up (omega arith) has.1) in
        let less = len-without m d has.0 in
        omega arith

    -- a map of all directories that have a parent has each way up
    has_way : (m : FinMap nat_cmp A) → ((d p : ℕ) → parent d ≡ Some p → IsSome (get m d)) → (d : ℕ) (h : Hangs parent d) → HasWay m h
    has_way m each _ the_root = tt
    has_way m each _ (under d p is up) = (each d p is, has_way m each p up)

    -- no directory is further below the root than such a map has directories
    pub height-fits : (m : FinMap nat_cmp A) → ((d p : ℕ) → parent d ≡ Some p → IsSome (get m d)) → (d : ℕ) (h : Hangs parent d) → height h ≤ len m
    height-fits m each d h = height-len m d h (has_way m each d h)

-- as many directories as are stored are enough
pub stored-enough : StoredEnough
stored-enough cells tree = height-fits (parent_of cells) tree.top cells.directories (dir_place-parent cells)

-- and so are those of the plain tree
pub dirs-enough : (cells : Cells) → AreSoundCells cells → IsEnough cells (len (tidy cells).dirs)
dirs-enough cells sound = height-fits (parent_of cells) sound.tree.top (tidy cells).dirs (contains-under cells sound)

-- what is looked at, and then behind it
looked_at-then : {A B : Type 0} (s : Looks A) (f : A → Looks B) (v : View) → looked_at (then s f) v ≡ looked_at s v ++ looked_at (f (answer s v)) v
looked_at-then (Answer x) f v = refl
looked_at-then (Look c next) f v = ap (λ cs. c ∷ cs) (looked_at-then (next (v c)) f v)

module _ (cells : Cells) where
  -- Looks that are alike.

  -- whichever of two is taken
  either-alike : {A : Type 0} (b : Bool) (s t u w : Looks A) → Alike cells s t → Alike cells u w → Alike cells (cond b s u) (cond b t w)
  either-alike true s t u w p q = p
  either-alike false s t u w p q = q

  -- behind a look at the same cell
  look-alike : {A : Type 0} (c : Cell) (s t : Shows c → Looks A) → Alike cells (s (view_of cells c)) (t (view_of cells c)) → Alike cells (Look c s) (Look c t)
  look-alike c s t h = (h.0, ap (λ cs. c ∷ cs) h.1)

  -- and behind what is alike
  then-alike : {A B : Type 0} (s t : Looks A) (f g : A → Looks B) → Alike cells s t → Alike cells (f (answer s (view_of cells))) (g (answer s (view_of cells))) → Alike cells (then s f) (then t g)
  then-alike s t f g h behind = (
    answer-then s f (view_of cells) ∙ behind.0 ∙ ap (λ x. answer (g x) (view_of cells)) h.0 ∙ sym (answer-then t g (view_of cells)),
    looked_at-then s f (view_of cells) ∙ (λ i. h.1 i ++ (behind.1 ∙ ap (λ x. looked_at (g x) (view_of cells)) h.0) i) ∙ sym (looked_at-then t g (view_of cells)),
  )

  -- and where there is no fault
  unless-alike : (fault : Option Errno) (s t : Looks Outcome) → Alike cells s t → Alike cells (unless fault s) (unless fault t)
  unless-alike None s t h = h
  unless-alike (Some e) s t h = (refl, refl)

  module _ (tree : IsTree (entry_of cells) (parent_of cells)) where
    -- at the root a climb looks no further
    climb-root : (n i : ℕ) → climb n i 1 ≡ Answer (1 == i)
    climb-root zero i = refl
    climb-root (suc n) i = elim (1 == i) as (λ b. cond b (Answer true) (Answer false) ≡ Answer b) [ true ↦ refl | false ↦ refl ]

    -- a climb that gets to the root is the same in any number of steps
    pub climb-any : (m n i d : ℕ) (h : Hangs (parent_of cells) d) → height h ≤ m → height h ≤ n → Alike cells (climb m i d) (climb n i d)
    climb-any m n i _ the_root a b = let same = climb-root m i ∙ sym (climb-root n i) in (ap (λ s. answer s (view_of cells)) same, ap (λ s. looked_at s (view_of cells)) same)
    climb-any zero n i _ (under d p is up) a b = absurd (omega arith)
    climb-any (suc m) zero i _ (under d p is up) a b = absurd (omega arith)
    climb-any (suc m) (suc n) i _ (under d p is up) a b =
        let above : Alike cells (climb m i p) (climb n i p) = climb-any m n i p up (omega arith) (omega arith) in
        either-alike (d == i) (Answer true) (Answer true) _ _ (refl, refl)
        (either-alike (d == 1) (Answer false) (Answer false) _ _ (refl, refl)
        (look-alike (Parent d) (λ q. climb m i (unwrap_or q 1)) (λ q. climb n i (unwrap_or q 1))
        (subst (λ o. Alike cells (climb m i (unwrap_or o 1)) (climb n i (unwrap_or o 1))) (sym is) above)))

    -- what it does not meet is not on the way up
    pub climb-avoids : (n i d : ℕ) (h : Hangs (parent_of cells) d) → height h ≤ n → i ≢ 1 → answer (climb n i d) (view_of cells) ≡ false → Avoids (parent_of cells) i d
    climb-avoids n i _ the_root enough other met = at_root (λ same. other (sym same))
    climb-avoids zero i _ (under d p is up) enough other met = absurd (omega arith)
    climb-avoids (suc n) i _ (under d p is up) enough other met = by_here (d == i) refl met (climb-avoids n i p up (omega arith) other)
      where
        by_here : (b : Bool) → (d == i) ≡ b → answer (cond b (Answer true) (cond (d == 1) (Answer false) (Look (Parent d) (λ q. climb n i (unwrap_or q 1))))) (view_of cells) ≡ false
            → (answer (climb n i p) (view_of cells) ≡ false → Avoids (parent_of cells) i p) → Avoids (parent_of cells) i d
        by_here true here met rest = absurd (false≢true (sym met))
        by_here false here met rest =
            not_here d p (λ same. false≢true (sym here ∙ eq-eqb d i same)) is
            (rest (ap (λ o. answer (climb n i (unwrap_or o 1)) (view_of cells)) (sym is)
            ∙ ap (λ b. answer (cond b (Answer false) (Look (Parent d) (λ q. climb n i (unwrap_or q 1)))) (view_of cells)) (sym (ne_eqb d 1 (not_under (parent_of cells) tree.top d p is)))
            ∙ met))

    -- what goes on alike from each spot of the tree is alike behind a walk
    spot-alike : (go other : PathEnd → Looks Outcome) → ((spot : PathEnd) → IsSpot cells spot → Alike cells (go spot) (other spot)) → (r : Result PathEnd Errno) → EndsWell cells r → Alike cells (or_else failed go r) (or_else failed other r)
    spot-alike go other each (Ok spot) h = each spot h
    spot-alike go other each (Err e) h = (refl, refl)

    -- and behind a path
    from_parts-alike : (follow : Bool) (go other : PathEnd → Looks Outcome) → ((spot : PathEnd) → IsSpot cells spot → Alike cells (go spot) (other spot)) → (parts : Result Parts Errno) → Alike cells (from_parts follow parts go) (from_parts follow parts other)
    from_parts-alike follow go other each (Err e) = (refl, refl)
    from_parts-alike follow go other each (Ok parts) =
        then-alike (walk follow parts.names parts.trailing) (walk follow parts.names parts.trailing) (or_else failed go) (or_else failed other) (refl, refl)
        (spot-alike go other each _ (walk-ends cells tree follow parts.names parts.trailing))

    -- A rename with one number of steps that is enough, and with another.
    module _ (m n : ℕ) (enough : IsEnough cells m) (more : IsEnough cells n) where
      -- the climb is the same
      unless_below-alike : (i e : ℕ) → Hangs (parent_of cells) e → (go : Looks Outcome) → Alike cells (unless_below m i e go) (unless_below n i e go)
      unless_below-alike i e h go =
          let next : Bool → Looks Outcome = λ met. cond met (Answer (failed EINVAL)) go in
          then-alike (climb m i e) (climb n i e) next next (climb-any m n i e h (enough e h) (more e h)) (refl, refl)

      -- and so is what a directory comes to
      rename_dir-alike : (d : ℕ) (name : List ℕ) (i : ℕ) (spot : PathEnd) → IsSpot cells spot → Alike cells (rename_dir m (entry_at d name) i spot) (rename_dir n (entry_at d name) i spot)
      rename_dir-alike d name i (Named entry None slash) h = unless_below-alike i entry.dir h.0 (Answer (renamed (entry_at d name) (DirNode i) entry (with_parent i d entry.dir)))
      rename_dir-alike d name i (Named entry (Some (FileNode kind j)) slash) h = (refl, refl)
      rename_dir-alike d name i (Named entry (Some (DirNode j)) slash) h =
          either-alike (i == j) (Answer (told Done)) (Answer (told Done)) _ _ (refl, refl) (unless_below-alike i entry.dir h.0 (replace_dir (entry_at d name) i entry j))
      rename_dir-alike d name i (Itself e) h = (refl, refl)

      -- whatever the old path names
      rename_old-alike : (new : Parts) (spot : PathEnd) → IsSpot cells spot → Alike cells (rename_old m new spot) (rename_old n new spot)
      rename_old-alike new (Named entry None slash) h = (refl, refl)
      rename_old-alike new (Named entry (Some (FileNode form i)) slash) h = (refl, refl)
      rename_old-alike new (Named entry (Some (DirNode i)) slash) h = from_parts-alike false (rename_dir m entry i) (rename_dir n entry i) (rename_dir-alike entry.dir entry.name i) (Ok new)
      rename_old-alike new (Itself d) h = (refl, refl)

      -- with the faults of both paths
      rename_parts-alike : (old new : Result Parts Errno) → Alike cells (rename_parts m old new) (rename_parts n old new)
      rename_parts-alike (Err e) new = (refl, refl)
      rename_parts-alike (Ok old) (Err e) = (refl, refl)
      rename_parts-alike (Ok old) (Ok new) =
          unless-alike (rename_fault (last_of old.names) (last_of new.names)) (from_parts false (Ok old) (rename_old m new)) (from_parts false (Ok old) (rename_old n new))
          (from_parts-alike false (rename_old m new) (rename_old n new) (rename_old-alike new) (Ok old))

-- where two numbers are enough, a call does the same with either; all but rename do so with any two
pub steps-alike : StepsAlike
steps-alike limits cells tree m n enough more k (Rename old new) = rename_parts-alike cells tree m n enough more (parts_of old) (parts_of new)
steps-alike limits cells tree m n enough more k call = (refl, refl)
