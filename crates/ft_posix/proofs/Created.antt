-- A file that is made leaves a tree.
use Rattle.std.proofs.Common.{◌≡◌, ◌≢◌, ℕ, Bool, true, false, cond, List, Option, Some, None, refl, sym, subst, ◌∙◌, ◌⊎◌, inl, inr}
use Rattle.std.proofs.lemmas.Option.{none-some, same_Some}
use Rattle.ft_cells.specs.declared.node.Node.{Node}
use Rattle.ft_cells.specs.declared.node.Form.{Form}
use Rattle.ft_cells.specs.declared.node.Node.TheVariants.{Dir as DirNode, File as FileNode}
use Rattle.ft_tree.specs.Sound.{Hangs, IsNoDir, IsTree}
use Rattle.ft_posix.proofs.Puts.{is_place, with_entry}
use Rattle.ft_posix.proofs.Made.{same_place}

-- the new file k is no directory, and the directory d of its entry is in the tree
module _ (entry : ℕ → List ℕ → Option Node) (parent : ℕ → Option ℕ) (t : IsTree entry parent) (d : ℕ) (name : List ℕ) (form : Form) (k : ℕ) (empty : entry d name ≡ None) (new : parent k ≡ None) (not_root : k ≢ 1) (from : Hangs parent d) where
  abbrev entry' : ℕ → List ℕ → Option Node
  entry' = with_entry entry d name (Some (FileNode form k))

  -- an entry is the new one, or an old one
  entries : (e : ℕ) (other : List ℕ) (x : Node) → entry' e other ≡ Some x → ((e ≡ d) × (x ≡ FileNode form k)) ⊎ (entry e other ≡ Some x)
  entries e other x h = by_place (is_place d name e other) refl h
    where
      by_place : (b : Bool) → is_place d name e other ≡ b → cond b (Some (FileNode form k)) (entry e other) ≡ Some x → ((e ≡ d) × (x ≡ FileNode form k)) ⊎ (entry e other ≡ Some x)
      by_place true is h = inl ((same_place d e name other is).0, sym (same_Some (FileNode form k) x h))
      by_place false is h = inr h

  -- an old entry stays, since the place of the new one was empty
  entry_still : (e : ℕ) (other : List ℕ) (x : Node) → entry e other ≡ Some x → entry' e other ≡ Some x
  entry_still e other x h = by_place (is_place d name e other) refl
    where
      by_place : (b : Bool) → is_place d name e other ≡ b → cond b (Some (FileNode form k)) (entry e other) ≡ Some x
      by_place true is = let at = same_place d e name other is in absurd (none-some x (sym ((λ i. entry (at.0 i) (at.1 i)) ∙ empty) ∙ h))
      by_place false is = h

  -- an entry that leads to a directory was there
  was_dir : (e : ℕ) (other : List ℕ) (i : ℕ) → ((e ≡ d) × (DirNode i ≡ FileNode form k)) ⊎ (entry e other ≡ Some (DirNode i)) → entry e other ≡ Some (DirNode i)
  was_dir e other i (inl own) = let no = own.1 in cc
  was_dir e other i (inr old) = old

  -- The parts of a tree, for the new entry and the old ones.
  starts' : (e : ℕ) (other : List ℕ) (x : Node) → ((e ≡ d) × (x ≡ FileNode form k)) ⊎ (entry e other ≡ Some x) → Hangs parent e
  starts' e other x (inl own) = subst (Hangs parent) (sym own.0) from
  starts' e other x (inr old) = t.starts e other x old

  number_is : (kind : Form) (i : ℕ) → FileNode kind i ≡ FileNode form k → k ≡ i
  number_is kind i h = cc

  apart' : (e : ℕ) (other : List ℕ) (kind : Form) (i : ℕ) → ((e ≡ d) × (FileNode kind i ≡ FileNode form k)) ⊎ (entry e other ≡ Some (FileNode kind i)) → IsNoDir parent i
  apart' e other kind i (inl own) = subst (IsNoDir parent) (number_is kind i own.1) (not_root, new)
  apart' e other kind i (inr old) = t.apart e other kind i old

  old_dir : (e : ℕ) (other : List ℕ) (i : ℕ) → entry' e other ≡ Some (DirNode i) → entry e other ≡ Some (DirNode i)
  old_dir e other i h = was_dir e other i (entries e other (DirNode i) h)

  pub tree-created : IsTree entry' parent
  tree-created = record {
    top = t.top;
    starts = λ e other x h. starts' e other x (entries e other x h);
    leads = λ e other i h. t.leads e other i (old_dir e other i h);
    apart = λ e other kind i h. apart' e other kind i (entries e other (FileNode kind i) h);
    stands = λ e p h. let s = t.stands e p h in (s.0, entry_still p s.0 (DirNode e) s.1);
    once = λ e m n i h g. t.once e m n i (old_dir e m i h) (old_dir e n i g);
    hangs = t.hangs;
  }
