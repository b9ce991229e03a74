-- What stands in a place after one was set; and an entry that leads to a file, taken away, leaves
-- a tree.
use Rattle.std.proofs.Common.{◌≡◌, ◌≢◌, ◌⊎◌, inl, inr, ℕ, Bool, true, false, cond, List, Option, Some, None, refl, sym, ap, ◌∙◌}
use Rattle.std.proofs.lemmas.Option.{none-some}
use Rattle.ft_cells.specs.declared.node.Node.{Node}
use Rattle.ft_cells.specs.declared.node.Form.{Form}
use Rattle.ft_cells.specs.declared.node.Node.TheVariants.{Dir as DirNode, File as FileNode}
use Rattle.ft_tree.specs.Sound.{IsTree}
use Rattle.ft_posix.proofs.Puts.{is_place, with_entry}
use Rattle.ft_posix.proofs.Made.{same_place, own_place}

module _ (entry : ℕ → List ℕ → Option Node) (d : ℕ) (name : List ℕ) where
  -- where something else stands is another place
  pub place-apart : (e : ℕ) (other : List ℕ) → entry e other ≢ entry d name → is_place d name e other ≡ false
  place-apart e other differ = by_place (is_place d name e other) refl
    where
      by_place : (b : Bool) → is_place d name e other ≡ b → is_place d name e other ≡ false
      by_place true at = let same = same_place d e name other at in absurd (differ (λ x. entry (same.0 x) (same.1 x)))
      by_place false at = at

  -- so it stays there
  pub entry-kept : (to : Option Node) (e : ℕ) (other : List ℕ) → entry e other ≢ entry d name → with_entry entry d name to e other ≡ entry e other
  entry-kept to e other differ = ap (λ b. cond b to (entry e other)) (place-apart e other differ)

  -- what is set stands in its place
  pub entry-set : (to : Option Node) → with_entry entry d name to d name ≡ to
  entry-set to = ap (λ b. cond b to (entry d name)) (own_place d name)

  -- to set a place twice is to set it once
  pub entry-twice : (first to : Option Node) → with_entry (with_entry entry d name first) d name to ≡ with_entry entry d name to
  entry-twice first to = λ x e other. by_place e other (is_place d name e other) x
    where
      by_place : (e : ℕ) (other : List ℕ) (b : Bool) → cond b to (cond b first (entry e other)) ≡ cond b to (entry e other)
      by_place e other true = refl
      by_place e other false = refl

  -- an entry is the one that was set, or another one that was there
  pub entry-cases : (to : Option Node) (e : ℕ) (other : List ℕ) (x : Node) → with_entry entry d name to e other ≡ Some x
      → ((e ≡ d) × (other ≡ name) × (to ≡ Some x)) ⊎ ((is_place d name e other ≡ false) × (entry e other ≡ Some x))
  entry-cases to e other x h = by_place (is_place d name e other) refl h
    where
      by_place : (b : Bool) → is_place d name e other ≡ b → cond b to (entry e other) ≡ Some x → ((e ≡ d) × (other ≡ name) × (to ≡ Some x)) ⊎ ((is_place d name e other ≡ false) × (entry e other ≡ Some x))
      by_place true at h = let same = same_place d e name other at in inl (same.0, same.1, h)
      by_place false at h = inr (at, h)

  -- so one that is left where one was taken away was there
  pub entry-left : (e : ℕ) (other : List ℕ) (x : Node) → with_entry entry d name None e other ≡ Some x → entry e other ≡ Some x
  entry-left e other x h = by_case (entry-cases None e other x h)
    where
      by_case : ((e ≡ d) × (other ≡ name) × (None ≡ Some x)) ⊎ ((is_place d name e other ≡ false) × (entry e other ≡ Some x)) → entry e other ≡ Some x
      by_case (inl gone) = absurd (none-some x gone.2)
      by_case (inr old) = old.1

-- the name leads to the file i
module _ (entry : ℕ → List ℕ → Option Node) (parent : ℕ → Option ℕ) (t : IsTree entry parent) (d : ℕ) (name : List ℕ) {form : Form} (i : ℕ) (is : entry d name ≡ Some (FileNode form i)) where
  file_no_dir : (j : ℕ) → Some (DirNode j) ≡ Some (FileNode form i) → ⊥
  file_no_dir j h = cc

  -- an entry that leads to a directory is left
  dir_left : (e : ℕ) (other : List ℕ) (j : ℕ) → entry e other ≡ Some (DirNode j) → with_entry entry d name None e other ≡ Some (DirNode j)
  dir_left e other j h = entry-kept entry d name None e other (λ same. file_no_dir j (sym h ∙ same ∙ is)) ∙ h

  pub tree-unlinked : IsTree (with_entry entry d name None) parent
  tree-unlinked = record {
    top = t.top;
    starts = λ e other x h. t.starts e other x (entry-left entry d name e other x h);
    leads = λ e other j h. t.leads e other j (entry-left entry d name e other (DirNode j) h);
    apart = λ e other kind j h. t.apart e other kind j (entry-left entry d name e other (FileNode kind j) h);
    stands = λ e p h. let s = t.stands e p h in (s.0, dir_left p s.0 e s.1);
    once = λ e m n j h g. t.once e m n j (entry-left entry d name e m (DirNode j) h) (entry-left entry d name e n (DirNode j) g);
    hangs = t.hangs;
  }
