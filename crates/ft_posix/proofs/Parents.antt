-- The parents that are found among the edges of sound cells, and which numbers are directories
-- there.
use Rattle.std.proofs.Common.{◌≡◌, ℕ, Bool, true, false, cond, ◌||◌, List, [], ◌∷◌, Option, Some, None, is_some, eqb-true, eq-eqb, ne_eqb, refl, sym, ap, subst, ◌∙◌, ◌⊎◌, inl, inr, ⊎_elim}
use Rattle.std.specs.Prelude.{◌==◌}
use Rattle.std.proofs.lemmas.Bool.{false≢true}
use Rattle.std.proofs.lemmas.Option.{same_Some}
use Rattle.std.proofs.Math.Bool.{or-true}
use Rattle.std.specs.Ordering.{eq_by_cmp}
use Rattle.std.specs.List as list
use Rattle.std.specs.List.{AllByRecursion}
use Rattle.std.specs.Option.{option_map}
use Rattle.std.specs.FinMap.{find, get, contains_key, entries, get-entries}
use Rattle.ft_cells.specs.Entries.{entry_at, entry_cmp, entry_cmp_total}
use Rattle.ft_cells.specs.declared.entry.Entry.{Entry as DirEntry}
use Rattle.ft_cells.specs.declared.node.Node.{Node}
use Rattle.ft_cells.specs.declared.node.Node.TheVariants.{Dir as DirNode, File as FileNode}
use Rattle.ft_cells.specs.Nodes.{number_of}
use Rattle.ft_cells.specs.Cells.{Cells, entry_of, parent_of}
use Rattle.ft_cells.specs.Plain.{parent_in}
use Rattle.ft_tree.specs.Tidy.{tidy}
use Rattle.ft_tree.specs.Sound.{Hangs, the_root, under, IsNoDir, AreSoundCells}
use Rattle.ft_posix.proofs.Listed.{entries-get}
use Rattle.ft_posix.proofs.Tidied.{get-tidy, contains-parent}

-- where the first edge to a number starts
abbrev start_of : ℕ → List (DirEntry × Node) → Option ℕ
start_of i es = option_map (λ e. e.0.dir) (list.find (λ e. number_of e.1 == i) es)

-- where no edge leads to a number, none is found that does
no_start : (i : ℕ) (q : DirEntry) (y : Node) → number_of y ≡ i → (es : List (DirEntry × Node)) → start_of i es ≡ None → find entry_cmp q es ≡ Some y → ⊥
no_start i q y own [] h g = false≢true (ap is_some g)
no_start i q y own (e ∷ es) h g = by_number (number_of e.1 == i) refl h (no_start i q y own es)
  where
    by_tie : (t : Bool) → (number_of e.1 == i) ≡ false → cond t (Some e.1) (find entry_cmp q es) ≡ Some y → (find entry_cmp q es ≡ Some y → ⊥) → ⊥
    by_tie true other g rest = false≢true (sym other ∙ eq-eqb (number_of e.1) i (ap number_of (same_Some e.1 y g) ∙ own))
    by_tie false other g rest = rest g

    by_number : (b : Bool) → (number_of e.1 == i) ≡ b → option_map (λ e. e.0.dir) (cond b (Some e) (list.find (λ e. number_of e.1 == i) es)) ≡ None → (start_of i es ≡ None → find entry_cmp q es ≡ Some y → ⊥) → ⊥
    by_number true is h rest = false≢true (sym (ap is_some h))
    by_number false is h rest = by_tie (eq_by_cmp entry_cmp q e.0) is g (rest h)

module _ (cells : Cells) (sound : AreSoundCells cells) where
  -- the root is a directory
  pub contains-root : contains_key (tidy cells).dirs 1 ≡ true
  contains-root = contains-parent cells sound.root_is 1

  -- what has a parent is a directory
  pub contains-under : (i d : ℕ) → parent_of cells i ≡ Some d → contains_key (tidy cells).dirs i ≡ true
  contains-under i d h = contains-parent cells sound.root_is i ∙ ap (λ o. (i == 1) || is_some o) h ∙ or-true (i == 1)

  -- and so is what hangs below the root
  pub contains-hangs : (d : ℕ) → Hangs (parent_of cells) d → contains_key (tidy cells).dirs d ≡ true
  contains-hangs _ the_root = contains-root
  contains-hangs _ (under d p h up) = contains-under d p h

  -- a directory hangs below the root
  pub hangs-contains : (d : ℕ) → contains_key (tidy cells).dirs d ≡ true → Hangs (parent_of cells) d
  hangs-contains d h = by_root (d == 1) refl (parent_of cells d) refl (sym (contains-parent cells sound.root_is d) ∙ h)
    where
      by_root : (b : Bool) → (d == 1) ≡ b → (o : Option ℕ) → parent_of cells d ≡ o → (b || is_some o) ≡ true → Hangs (parent_of cells) d
      by_root true is o parent h = subst (Hangs (parent_of cells)) (sym (eqb-true d 1 is)) the_root
      by_root false is None parent h = absurd (false≢true h)
      by_root false is (Some p) parent h = sound.tree.hangs d p parent

  -- what is no directory is none of the plain tree
  pub contains-no_dir : (i : ℕ) → IsNoDir (parent_of cells) i → contains_key (tidy cells).dirs i ≡ false
  contains-no_dir i h = contains-parent cells sound.root_is i ∙ (λ x. ne_eqb i 1 h.0 x || is_some (h.1 x))

  -- and the other way round
  pub no_dir-contains : (i : ℕ) → contains_key (tidy cells).dirs i ≡ false → IsNoDir (parent_of cells) i
  no_dir-contains i h = (λ is. false≢true (sym h ∙ ap (contains_key (tidy cells).dirs) is ∙ contains-root), by_parent (parent_of cells i) refl)
    where
      by_parent : (o : Option ℕ) → parent_of cells i ≡ o → parent_of cells i ≡ None
      by_parent None is = is
      by_parent (Some d) is = absurd (false≢true (sym h ∙ contains-under i d is))

  -- an edge to a directory is an entry that leads to it
  pub entry-edge : (d : ℕ) (name : List ℕ) (x : Node) → contains_key (tidy cells).dirs (number_of x) ≡ true → get (tidy cells).edges (entry_at d name) ≡ Some x → entry_of cells d name ≡ Some (DirNode (number_of x))
  entry-edge d name x dir h = by_node x dir (sym (get-tidy cells d name) ∙ h)
    where
      by_node : (x : Node) → contains_key (tidy cells).dirs (number_of x) ≡ true → entry_of cells d name ≡ Some x → entry_of cells d name ≡ Some (DirNode (number_of x))
      by_node (FileNode kind j) dir is = absurd (false≢true (sym (contains-no_dir j (sound.tree.apart d name kind j is)) ∙ dir))
      by_node (DirNode j) dir is = is

  -- the first edge to a directory, if there is one, starts in its parent
  searched : (i : ℕ) → contains_key (tidy cells).dirs i ≡ true → (es : List (DirEntry × Node)) → AllByRecursion (λ e. get (tidy cells).edges e.0 ≡ Some e.1) es → (start_of i es ≡ None) ⊎ (start_of i es ≡ parent_of cells i)
  searched i dir [] h = inl refl
  searched i dir (e ∷ es) h = by_number (number_of e.1 == i) refl (searched i dir es h.1)
    where
      by_number : (b : Bool) → (number_of e.1 == i) ≡ b → (start_of i es ≡ None) ⊎ (start_of i es ≡ parent_of cells i)
          → (option_map (λ e. e.0.dir) (cond b (Some e) (list.find (λ e. number_of e.1 == i) es)) ≡ None) ⊎ (option_map (λ e. e.0.dir) (cond b (Some e) (list.find (λ e. number_of e.1 == i) es)) ≡ parent_of cells i)
      by_number true is rest = (let own = eqb-true (number_of e.1) i is in inr (sym (sound.tree.leads e.0.dir e.0.name i (entry-edge e.0.dir e.0.name e.1 (ap (contains_key (tidy cells).dirs) own ∙ dir) h.0 ∙ ap (λ n. Some (DirNode n)) own))))
      by_number false is rest = rest

  -- the parent of a directory that is found is the one that is stored
  pub parent_in-tidy : (i : ℕ) → contains_key (tidy cells).dirs i ≡ true → parent_in (tidy cells) i ≡ parent_of cells i
  parent_in-tidy i dir = ⊎_elim (λ none. by_parent none (parent_of cells i) refl) (λ found. found) (searched i dir (entries (tidy cells).edges) (entries-get entry_cmp entry_cmp_total (tidy cells).edges))
    where
      by_parent : parent_in (tidy cells) i ≡ None → (o : Option ℕ) → parent_of cells i ≡ o → parent_in (tidy cells) i ≡ parent_of cells i
      by_parent none None is = none ∙ sym is
      by_parent none (Some d) is =
          let place = sound.tree.stands i d is in
          absurd (no_start i (entry_at d place.0) (DirNode i) refl (entries (tidy cells).edges) none (sym (get-entries (tidy cells).edges (entry_at d place.0)) ∙ get-tidy cells d place.0 ∙ place.1))

  -- a number that is no directory has none
  pub parent-shown : (i : ℕ) → cond (contains_key (tidy cells).dirs i) (parent_in (tidy cells) i) None ≡ parent_of cells i
  parent-shown i = by_dir (contains_key (tidy cells).dirs i) refl
    where
      by_dir : (b : Bool) → contains_key (tidy cells).dirs i ≡ b → cond b (parent_in (tidy cells) i) None ≡ parent_of cells i
      by_dir true is = parent_in-tidy i is
      by_dir false is = sym (no_dir-contains i is).1
