-- A directory that is made leaves a tree.
use Rattle.std.proofs.Common.{◌≡◌, ◌≢◌, ℕ, Bool, true, false, cond, ◌&&◌, List, Option, Some, None, nat_eq, refl, sym, ap, subst, eqb-true, eq-eqb, ne_eqb, ◌∙◌, ◌⊎◌, inl, inr}
use Rattle.std.specs.Prelude.{◌==◌}
use Rattle.std.proofs.lemmas.Bool.{false≢true}
use Rattle.std.proofs.lemmas.Option.{none-some, same_Some}
use Rattle.std.specs.Cmp.{nat_eq_equiv}
use Rattle.std.specs.Cmp.Lexicographic.{pointwise, same_text, nat_list_eq_equiv}
use Rattle.ft_cells.specs.declared.node.Node.{Node}
use Rattle.ft_cells.specs.declared.node.Form.{Form}
use Rattle.ft_cells.specs.declared.node.Node.TheVariants.{Dir as DirNode, File as FileNode}
use Rattle.ft_cells.specs.Nodes.{number_of}
use Rattle.ft_tree.specs.Sound.{Hangs, the_root, under, IsNoDir, IsTree}
use Rattle.ft_posix.proofs.Puts.{is_place, with_entry, with_parent}

-- directories of one number are one node
pub dir_inside : (i j : ℕ) → Some (DirNode i) ≡ Some (DirNode j) → i ≡ j
dir_inside i j h = cc

-- a place that the test finds
pub same_place : (d e : ℕ) (name other : List ℕ) → is_place d name e other ≡ true → (e ≡ d) × (other ≡ name)
same_place d e name other h = by_number (e == d) refl h
  where
    by_number : (b : Bool) → (e == d) ≡ b → (b && pointwise nat_eq other name) ≡ true → (e ≡ d) × (other ≡ name)
    by_number true is h = (eqb-true e d is, same_text other name (sym h))
    by_number false is h = absurd (false≢true h)

-- a place is itself
pub own_place : (d : ℕ) (name : List ℕ) → is_place d name d name ≡ true
own_place d name = λ i. nat_eq_equiv.refl d i && nat_list_eq_equiv.refl name i

-- the new directory k has no parent yet, no entry leads to it, and its parent d is in the tree
module _ (entry : ℕ → List ℕ → Option Node) (parent : ℕ → Option ℕ) (t : IsTree entry parent) (d : ℕ) (name : List ℕ) (k : ℕ) (empty : entry d name ≡ None) (new : parent k ≡ None) (not_root : k ≢ 1) (from : Hangs parent d)
    (unnamed : (e : ℕ) (other : List ℕ) (x : Node) → entry e other ≡ Some x → number_of x ≢ k) where
  abbrev entry' : ℕ → List ℕ → Option Node
  entry' = with_entry entry d name (Some (DirNode k))

  abbrev parent' : ℕ → Option ℕ
  parent' = with_parent parent k (Some d)

  -- a parent is the new one, or an old one
  parents : (e p : ℕ) → parent' e ≡ Some p → ((e ≡ k) × (p ≡ d)) ⊎ (parent e ≡ Some p)
  parents e p h = by_number (e == k) refl h
    where
      by_number : (b : Bool) → (e == k) ≡ b → cond b (Some d) (parent e) ≡ Some p → ((e ≡ k) × (p ≡ d)) ⊎ (parent e ≡ Some p)
      by_number true is h = inl (eqb-true e k is, sym (same_Some d p h))
      by_number false is h = inr h

  -- an old parent stays
  parent_still : (e p : ℕ) → parent e ≡ Some p → parent' e ≡ Some p
  parent_still e p h = by_number (e == k) refl
    where
      by_number : (b : Bool) → (e == k) ≡ b → cond b (Some d) (parent e) ≡ Some p
      by_number true is = absurd (none-some p (sym new ∙ ap parent (sym (eqb-true e k is)) ∙ h))
      by_number false is = h

  -- the new directory has its parent
  new_parent : parent' k ≡ Some d
  new_parent = ap (λ b. cond b (Some d) (parent k)) (eq-eqb k k refl)

  -- what was in the tree is in it
  hangs_still : (e : ℕ) → Hangs parent e → Hangs parent' e
  hangs_still _ the_root = the_root
  hangs_still _ (under e p h up) = under e p (parent_still e p h) (hangs_still p up)

  -- an entry is the new one, or an old one
  entries : (e : ℕ) (other : List ℕ) (x : Node) → entry' e other ≡ Some x → ((e ≡ d) × (other ≡ name) × (x ≡ DirNode k)) ⊎ (entry e other ≡ Some x)
  entries e other x h = by_place (is_place d name e other) refl h
    where
      by_place : (b : Bool) → is_place d name e other ≡ b → cond b (Some (DirNode k)) (entry e other) ≡ Some x → ((e ≡ d) × (other ≡ name) × (x ≡ DirNode k)) ⊎ (entry e other ≡ Some x)
      by_place true is h = let at = same_place d e name other is in inl (at.0, at.1, sym (same_Some (DirNode k) x h))
      by_place false is h = inr h

  -- an old entry stays, since the place of the new one was empty
  entry_still : (e : ℕ) (other : List ℕ) (x : Node) → entry e other ≡ Some x → entry' e other ≡ Some x
  entry_still e other x h = by_place (is_place d name e other) refl
    where
      by_place : (b : Bool) → is_place d name e other ≡ b → cond b (Some (DirNode k)) (entry e other) ≡ Some x
      by_place true is = let at = same_place d e name other is in absurd (none-some x (sym ((λ i. entry (at.0 i) (at.1 i)) ∙ empty) ∙ h))
      by_place false is = h

  -- the new entry is there
  new_entry : entry' d name ≡ Some (DirNode k)
  new_entry = ap (λ b. cond b (Some (DirNode k)) (entry d name)) (own_place d name)

  number_is : (i : ℕ) → DirNode i ≡ DirNode k → i ≡ k
  number_is i h = cc

  -- The parts of a tree, for the new entry or parent and the old ones.
  leads' : (e : ℕ) (other : List ℕ) (i : ℕ) → ((e ≡ d) × (other ≡ name) × (DirNode i ≡ DirNode k)) ⊎ (entry e other ≡ Some (DirNode i)) → parent' i ≡ Some e
  leads' e other i (inl own) = ap parent' (number_is i own.2) ∙ new_parent ∙ ap Some (sym own.0)
  leads' e other i (inr old) = parent_still i e (t.leads e other i old)

  starts' : (e : ℕ) (other : List ℕ) (x : Node) → ((e ≡ d) × (other ≡ name) × (x ≡ DirNode k)) ⊎ (entry e other ≡ Some x) → Hangs parent' e
  starts' e other x (inl own) = subst (Hangs parent') (sym own.0) (hangs_still d from)
  starts' e other x (inr old) = hangs_still e (t.starts e other x old)

  apart' : (e : ℕ) (other : List ℕ) (form : Form) (i : ℕ) → ((e ≡ d) × (other ≡ name) × (FileNode form i ≡ DirNode k)) ⊎ (entry e other ≡ Some (FileNode form i)) → IsNoDir parent' i
  apart' e other form i (inl own) = let no = own.2 in cc
  apart' e other form i (inr old) = let no_dir = t.apart e other form i old in (no_dir.0, ap (λ b. cond b (Some d) (parent i)) (ne_eqb i k (unnamed e other (FileNode form i) old)) ∙ no_dir.1)

  stands' : (e p : ℕ) → ((e ≡ k) × (p ≡ d)) ⊎ (parent e ≡ Some p) → (other : List ℕ) × (entry' p other ≡ Some (DirNode e))
  stands' e p (inl own) = (name, ap (λ x. entry' x name) own.1 ∙ new_entry ∙ ap (λ i. Some (DirNode i)) (sym own.0))
  stands' e p (inr old) = let s = t.stands e p old in (s.0, entry_still p s.0 (DirNode e) s.1)

  once' : (e : ℕ) (m n : List ℕ) (i : ℕ) → ((e ≡ d) × (m ≡ name) × (DirNode i ≡ DirNode k)) ⊎ (entry e m ≡ Some (DirNode i)) → ((e ≡ d) × (n ≡ name) × (DirNode i ≡ DirNode k)) ⊎ (entry e n ≡ Some (DirNode i)) → m ≡ n
  once' e m n i (inl a) (inl b) = a.1 ∙ sym b.1
  once' e m n i (inl a) (inr b) = absurd (unnamed e n (DirNode i) b (number_is i a.2))
  once' e m n i (inr a) (inl b) = absurd (unnamed e m (DirNode i) a (number_is i b.2))
  once' e m n i (inr a) (inr b) = t.once e m n i a b

  hangs' : (e p : ℕ) → ((e ≡ k) × (p ≡ d)) ⊎ (parent e ≡ Some p) → Hangs parent' e
  hangs' e p (inl own) = subst (Hangs parent') (sym own.0) (under k d new_parent (hangs_still d from))
  hangs' e p (inr old) = hangs_still e (t.hangs e p old)

  pub tree-made : IsTree entry' parent'
  tree-made = record {
    top = ap (λ b. cond b (Some d) (parent 1)) (ne_eqb 1 k (λ is. not_root (sym is))) ∙ t.top;
    starts = λ e other x h. starts' e other x (entries e other x h);
    leads = λ e other i h. leads' e other i (entries e other (DirNode i) h);
    apart = λ e other form i h. apart' e other form i (entries e other (FileNode form i) h);
    stands = λ e p h. stands' e p (parents e p h);
    once = λ e m n i h g. once' e m n i (entries e m (DirNode i) h) (entries e n (DirNode i) g);
    hangs = λ e p h. hangs' e p (parents e p h);
  }
