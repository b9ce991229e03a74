-- An empty directory that is removed leaves a tree.
use Rattle.std.proofs.Common.{◌≡◌, ◌≢◌, ℕ, Bool, true, false, cond, List, Option, Some, None, refl, sym, ap, eqb-true, eq-eqb, ◌∙◌}
use Rattle.std.specs.Prelude.{◌==◌}
use Rattle.std.proofs.lemmas.Bool.{false≢true}
use Rattle.std.proofs.lemmas.Option.{none-some, same_Some}
use Rattle.ft_cells.specs.declared.node.Node.{Node}
use Rattle.ft_cells.specs.declared.node.Node.TheVariants.{Dir as DirNode, File as FileNode}
use Rattle.ft_cells.specs.Nodes.{number_of}
use Rattle.ft_tree.specs.Sound.{Hangs, the_root, under, IsNoDir, IsTree}
use Rattle.ft_posix.proofs.Puts.{is_place, with_entry, with_parent}
use Rattle.ft_posix.proofs.Made.{dir_inside, same_place, own_place}

-- the directory i, which the name leads to, has no entry
module _ (entry : ℕ → List ℕ → Option Node) (parent : ℕ → Option ℕ) (t : IsTree entry parent) (d : ℕ) (name : List ℕ) (i : ℕ) (is : entry d name ≡ Some (DirNode i)) (bare : (other : List ℕ) → entry i other ≡ None) where
  abbrev entry' : ℕ → List ℕ → Option Node
  entry' = with_entry entry d name None

  abbrev parent' : ℕ → Option ℕ
  parent' = with_parent parent i None

  -- an entry that is left was there, elsewhere
  was_entry : (e : ℕ) (other : List ℕ) (x : Node) → entry' e other ≡ Some x → (is_place d name e other ≡ false) × (entry e other ≡ Some x)
  was_entry e other x h = by_place (is_place d name e other) refl h
    where
      by_place : (b : Bool) → is_place d name e other ≡ b → cond b None (entry e other) ≡ Some x → (is_place d name e other ≡ false) × (entry e other ≡ Some x)
      by_place true at h = absurd (none-some x h)
      by_place false at h = (at, h)

  -- and a parent that is left is another directory's
  was_parent : (e p : ℕ) → parent' e ≡ Some p → ((e == i) ≡ false) × (parent e ≡ Some p)
  was_parent e p h = by_number (e == i) refl h
    where
      by_number : (b : Bool) → (e == i) ≡ b → cond b None (parent e) ≡ Some p → ((e == i) ≡ false) × (parent e ≡ Some p)
      by_number true at h = absurd (none-some p h)
      by_number false at h = (at, h)

  -- only the entry that is emptied leads to the directory
  leads_apart : (e : ℕ) (other : List ℕ) (j : ℕ) → is_place d name e other ≡ false → entry e other ≡ Some (DirNode j) → (j == i) ≡ false
  leads_apart e other j apart h = by_number (j == i) refl
    where
      by_number : (b : Bool) → (j == i) ≡ b → (j == i) ≡ false
      by_number false at = at
      by_number true at =
          let number : j ≡ i = eqb-true j i at in
          let dir : e ≡ d = same_Some e d (sym (t.leads e other j h) ∙ ap parent number ∙ t.leads d name i is) in
          let text : other ≡ name = t.once d other name i (ap (λ x. entry x other) (sym dir) ∙ h ∙ ap (λ x. Some (DirNode x)) number) is in
          absurd (false≢true (sym apart ∙ (λ x. is_place d name (dir x) (text x)) ∙ own_place d name))

  -- an entry that leads to another directory is elsewhere
  place_apart : (e p : ℕ) (other : List ℕ) → (e == i) ≡ false → entry p other ≡ Some (DirNode e) → is_place d name p other ≡ false
  place_apart e p other apart h = by_place (is_place d name p other) refl
    where
      by_place : (b : Bool) → is_place d name p other ≡ b → is_place d name p other ≡ false
      by_place false at = at
      by_place true at =
          let same = same_place d p name other at in
          absurd (false≢true (sym apart ∙ eq-eqb e i (dir_inside e i (sym h ∙ (λ x. entry (same.0 x) (same.1 x)) ∙ is))))

  -- it is the parent of none
  not_above : (e p : ℕ) → parent e ≡ Some p → (p == i) ≡ false
  not_above e p h = by_number (p == i) refl
    where
      by_number : (b : Bool) → (p == i) ≡ b → (p == i) ≡ false
      by_number false at = at
      by_number true at = let s = t.stands e p h in absurd (none-some (DirNode e) (sym (ap (λ x. entry x s.0) (eqb-true p i at) ∙ bare s.0) ∙ s.1))

  -- what is in the tree stays in it, the directory excepted
  hangs_left : (e : ℕ) → (e == i) ≡ false → Hangs parent e → Hangs parent' e
  hangs_left _ apart the_root = the_root
  hangs_left _ apart (under e p h up) = under e p (ap (λ b. cond b None (parent e)) apart ∙ h) (hangs_left p (not_above e p h) up)

  -- no entry stands in it
  not_start : (e : ℕ) (other : List ℕ) (x : Node) → entry e other ≡ Some x → (e == i) ≡ false
  not_start e other x h = by_number (e == i) refl
    where
      by_number : (b : Bool) → (e == i) ≡ b → (e == i) ≡ false
      by_number false at = at
      by_number true at = absurd (none-some x (sym (ap (λ f. entry f other) (eqb-true e i at) ∙ bare other) ∙ h))

  -- what is no directory stays none
  pub no_dir_left : (j : ℕ) → IsNoDir parent j → IsNoDir parent' j
  no_dir_left j h = (h.0, elim (j == i) as (λ b. cond b None (parent j) ≡ None) [ true ↦ refl | false ↦ h.1 ])

  -- no entry that is left leads to it
  pub none_left : (e : ℕ) (other : List ℕ) (x : Node) → entry' e other ≡ Some x → number_of x ≢ i
  none_left e other (DirNode j) h same = let w = was_entry e other (DirNode j) h in false≢true (sym (leads_apart e other j w.0 w.1) ∙ eq-eqb j i same)
  none_left e other (FileNode kind j) h same = none-some d (sym (ap parent (sym same) ∙ (t.apart e other kind j (was_entry e other (FileNode kind j) h).1).1) ∙ t.leads d name i is)

  pub tree-removed : IsTree entry' parent'
  tree-removed = record {
    top = elim (1 == i) as (λ b. cond b None (parent 1) ≡ None) [ true ↦ refl | false ↦ t.top ];
    starts = λ e other x h. let w = was_entry e other x h in hangs_left e (not_start e other x w.1) (t.starts e other x w.1);
    leads = λ e other j h. let w = was_entry e other (DirNode j) h in ap (λ b. cond b None (parent j)) (leads_apart e other j w.0 w.1) ∙ t.leads e other j w.1;
    apart = λ e other kind j h. no_dir_left j (t.apart e other kind j (was_entry e other (FileNode kind j) h).1);
    stands = λ e p h. let w = was_parent e p h in let s = t.stands e p w.1 in (s.0, ap (λ b. cond b None (entry p s.0)) (place_apart e p s.0 w.0 s.1) ∙ s.1);
    once = λ e m n j h g. t.once e m n j (was_entry e m (DirNode j) h).1 (was_entry e n (DirNode j) g).1;
    hangs = λ e p h. let w = was_parent e p h in hangs_left e w.0 (t.hangs e p w.1);
  }
