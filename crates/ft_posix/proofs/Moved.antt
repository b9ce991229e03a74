-- An entry that is moved to an empty place leaves a tree.
use Rattle.std.proofs.Common.{◌≡◌, ◌≢◌, ◌⊎◌, inl, inr, ℕ, Bool, true, false, cond, List, Option, Some, None, is_some, refl, sym, ap, subst, eqb-true, eq-eqb, ◌∙◌}
use Rattle.std.specs.Prelude.{◌==◌}
use Rattle.std.proofs.lemmas.Bool.{false≢true}
use Rattle.std.proofs.lemmas.Option.{none-some, same_Some}
use Rattle.ft_cells.specs.declared.node.Node.{Node}
use Rattle.ft_cells.specs.declared.node.Form.{Form}
use Rattle.ft_cells.specs.declared.node.Node.TheVariants.{Dir as DirNode, File as FileNode}
use Rattle.ft_tree.specs.Sound.{Hangs, the_root, under, IsNoDir, IsTree}
use Rattle.ft_posix.proofs.Below.{Avoids, at_root, not_here}
use Rattle.ft_posix.proofs.Puts.{is_place, with_entry, with_parent}
use Rattle.ft_posix.proofs.Made.{dir_inside, own_place}
use Rattle.ft_posix.proofs.Created.{tree-created}
use Rattle.ft_posix.proofs.Left.{value-other, other_than}
use Rattle.ft_posix.proofs.Linked.{place-apart, entry-kept, entry-set, entry-cases, tree-unlinked}

-- the name leads to the file i, and the directory e of the new place is in the tree
pub tree-moved_file : (entry : ℕ → List ℕ → Option Node) (parent : ℕ → Option ℕ) → IsTree entry parent → (d : ℕ) (name : List ℕ) {form : Form} (i e : ℕ) (other : List ℕ) → entry d name ≡ Some (FileNode form i) → entry e other ≡ None → Hangs parent e
    → IsTree (with_entry (with_entry entry e other (Some (FileNode form i))) d name None) parent
tree-moved_file entry parent t d name {form} i e other is empty from =
    let no_dir = t.apart d name form i is in
    tree-unlinked (with_entry entry e other (Some (FileNode form i))) parent (tree-created entry parent t e other form i empty no_dir.1 no_dir.0 from) d name i
    (entry-kept entry e other (Some (FileNode form i)) d name (λ same. none-some (FileNode form i) (sym empty ∙ sym same ∙ is)) ∙ is)

-- the name leads to the directory i, which is not met on the way up from the directory e of the
-- new place
module _ (entry : ℕ → List ℕ → Option Node) (parent : ℕ → Option ℕ) (t : IsTree entry parent) (d : ℕ) (name : List ℕ) (i e : ℕ) (other : List ℕ) (is : entry d name ≡ Some (DirNode i)) (empty : entry e other ≡ None)
    (clear : Avoids parent i e) where
  abbrev drawn : ℕ → List ℕ → Option Node
  drawn = with_entry entry e other (Some (DirNode i))

  abbrev entry' : ℕ → List ℕ → Option Node
  entry' = with_entry drawn d name None

  abbrev parent' : ℕ → Option ℕ
  parent' = with_parent parent i (Some e)

  -- the new entry, and an old one that is not the one that moved
  abbrev IsNew : ℕ → List ℕ → Node → Type 0
  IsNew f m x = (f ≡ e) × (m ≡ other) × (Some (DirNode i) ≡ Some x)

  abbrev IsOld : ℕ → List ℕ → Node → Type 0
  IsOld f m x = (is_place d name f m ≡ false) × (entry f m ≡ Some x)

  -- an entry is one of these
  entries : (f : ℕ) (m : List ℕ) (x : Node) → entry' f m ≡ Some x → IsNew f m x ⊎ IsOld f m x
  entries f m x h = by_last (entry-cases drawn d name None f m x h)
    where
      by_first : is_place d name f m ≡ false → IsNew f m x ⊎ ((is_place e other f m ≡ false) × (entry f m ≡ Some x)) → IsNew f m x ⊎ IsOld f m x
      by_first apart (inl new) = inl new
      by_first apart (inr old) = inr (apart, old.1)

      by_last : ((f ≡ d) × (m ≡ name) × (None ≡ Some x)) ⊎ ((is_place d name f m ≡ false) × (drawn f m ≡ Some x)) → IsNew f m x ⊎ IsOld f m x
      by_last (inl gone) = absurd (none-some x gone.2)
      by_last (inr left) = by_first left.0 (entry-cases entry e other (Some (DirNode i)) f m x left.1)

  -- only the entry that moved led to the directory
  one_entry : (f : ℕ) (m : List ℕ) → is_place d name f m ≡ false → entry f m ≢ Some (DirNode i)
  one_entry f m apart h =
      let dir : f ≡ d = same_Some f d (sym (t.leads f m i h) ∙ t.leads d name i is) in
      let text : m ≡ name = t.once d m name i (ap (λ g. entry g m) (sym dir) ∙ h) is in
      false≢true (sym apart ∙ (λ x. is_place d name (dir x) (text x)) ∙ own_place d name)

  -- the new entry is there
  new_entry : entry' e other ≡ Some (DirNode i)
  new_entry = ap (λ b. cond b None (drawn e other)) (place-apart entry d name e other (λ same. none-some (DirNode i) (sym empty ∙ same ∙ is))) ∙ entry-set entry e other (Some (DirNode i))

  -- and the entries of other directories stay
  entry_still : (f : ℕ) (m : List ℕ) (j : ℕ) → j ≢ i → entry f m ≡ Some (DirNode j) → entry' f m ≡ Some (DirNode j)
  entry_still f m j differ h =
      ap (λ b. cond b None (drawn f m)) (place-apart entry d name f m (λ same. differ (dir_inside j i (sym h ∙ same ∙ is))))
      ∙ entry-kept entry e other (Some (DirNode i)) f m (λ same. none-some (DirNode j) (sym empty ∙ sym same ∙ h)) ∙ h

  -- the directory has its new parent
  new_parent : parent' i ≡ Some e
  new_parent = ap (λ b. cond b (Some e) (parent i)) (eq-eqb i i refl)

  -- a parent is the new one, or another directory's
  parents : (f p : ℕ) → parent' f ≡ Some p → ((f ≡ i) × (p ≡ e)) ⊎ ((f ≢ i) × (parent f ≡ Some p))
  parents f p h = by_number (f == i) refl h
    where
      by_number : (b : Bool) → (f == i) ≡ b → cond b (Some e) (parent f) ≡ Some p → ((f ≡ i) × (p ≡ e)) ⊎ ((f ≢ i) × (parent f ≡ Some p))
      by_number true at h = inl (eqb-true f i at, sym (same_Some e p h))
      by_number false at h = inr (other_than f i at, h)

  -- a number has a parent where it had one
  pub parents-alike : (j : ℕ) → is_some (parent' j) ≡ is_some (parent j)
  parents-alike j = by_number (j == i) refl
    where
      by_number : (b : Bool) → (j == i) ≡ b → is_some (cond b (Some e) (parent j)) ≡ is_some (parent j)
      by_number true at = sym (ap is_some (ap parent (eqb-true j i at) ∙ t.leads d name i is))
      by_number false at = refl

  -- the way up from what avoids the directory is as before
  hangs_clear : (f : ℕ) → Avoids parent i f → Hangs parent' f
  hangs_clear _ (at_root differ) = the_root
  hangs_clear _ (not_here f p differ h up) = under f p (value-other parent i (Some e) f differ ∙ h) (hangs_clear p up)

  -- so the directory hangs
  hangs_new : Hangs parent' i
  hangs_new = under i e new_parent (hangs_clear e clear)

  -- and what hung still hangs, some of it below the directory
  hangs_still : (f : ℕ) → Hangs parent f → Hangs parent' f
  hangs_still _ the_root = the_root
  hangs_still _ (under f p h up) = by_number (f == i) refl (hangs_still p up)
    where
      by_number : (b : Bool) → (f == i) ≡ b → Hangs parent' p → Hangs parent' f
      by_number true at rest = subst (Hangs parent') (sym (eqb-true f i at)) hangs_new
      by_number false at rest = under f p (value-other parent i (Some e) f (other_than f i at) ∙ h) rest

  -- what is no directory stays none
  no_dir_still : (j : ℕ) → IsNoDir parent j → IsNoDir parent' j
  no_dir_still j h = (h.0, value-other parent i (Some e) j (λ same. none-some d (sym h.1 ∙ ap parent same ∙ t.leads d name i is)) ∙ h.1)

  -- The parts of a tree, for the new entry or parent and the old ones.
  starts' : (f : ℕ) (m : List ℕ) (x : Node) → IsNew f m x ⊎ IsOld f m x → Hangs parent' f
  starts' f m x (inl new) = subst (Hangs parent') (sym new.0) (hangs_clear e clear)
  starts' f m x (inr old) = hangs_still f (t.starts f m x old.1)

  leads' : (f : ℕ) (m : List ℕ) (j : ℕ) → IsNew f m (DirNode j) ⊎ IsOld f m (DirNode j) → parent' j ≡ Some f
  leads' f m j (inl new) = ap parent' (sym (dir_inside i j new.2)) ∙ new_parent ∙ ap Some (sym new.0)
  leads' f m j (inr old) = value-other parent i (Some e) j (λ same. one_entry f m old.0 (old.1 ∙ ap (λ n. Some (DirNode n)) same)) ∙ t.leads f m j old.1

  apart' : (f : ℕ) (m : List ℕ) (kind : Form) (j : ℕ) → IsNew f m (FileNode kind j) ⊎ IsOld f m (FileNode kind j) → IsNoDir parent' j
  apart' f m kind j (inl new) = let no = new.2 in cc
  apart' f m kind j (inr old) = no_dir_still j (t.apart f m kind j old.1)

  stands' : (f p : ℕ) → ((f ≡ i) × (p ≡ e)) ⊎ ((f ≢ i) × (parent f ≡ Some p)) → (m : List ℕ) × (entry' p m ≡ Some (DirNode f))
  stands' f p (inl new) = (other, ap (λ g. entry' g other) new.1 ∙ new_entry ∙ ap (λ n. Some (DirNode n)) (sym new.0))
  stands' f p (inr old) = let s = t.stands f p old.1 in (s.0, entry_still p s.0 f old.0 s.1)

  once' : (f : ℕ) (m n : List ℕ) (j : ℕ) → IsNew f m (DirNode j) ⊎ IsOld f m (DirNode j) → IsNew f n (DirNode j) ⊎ IsOld f n (DirNode j) → m ≡ n
  once' f m n j (inl a) (inl b) = a.1 ∙ sym b.1
  once' f m n j (inl a) (inr b) = absurd (one_entry f n b.0 (b.1 ∙ sym a.2))
  once' f m n j (inr a) (inl b) = absurd (one_entry f m a.0 (a.1 ∙ sym b.2))
  once' f m n j (inr a) (inr b) = t.once f m n j a.1 b.1

  hangs' : (f p : ℕ) → ((f ≡ i) × (p ≡ e)) ⊎ ((f ≢ i) × (parent f ≡ Some p)) → Hangs parent' f
  hangs' f p (inl new) = subst (Hangs parent') (sym new.0) hangs_new
  hangs' f p (inr old) = hangs_still f (t.hangs f p old.1)

  pub tree-moved_dir : IsTree entry' parent'
  tree-moved_dir = record {
    top = value-other parent i (Some e) 1 (λ same. none-some d (sym t.top ∙ ap parent same ∙ t.leads d name i is)) ∙ t.top;
    starts = λ f m x h. starts' f m x (entries f m x h);
    leads = λ f m j h. leads' f m j (entries f m (DirNode j) h);
    apart = λ f m kind j h. apart' f m kind j (entries f m (FileNode kind j) h);
    stands = λ f p h. stands' f p (parents f p h);
    once = λ f m n j h g. once' f m n j (entries f m (DirNode j) h) (entries f n (DirNode j) g);
    hangs = λ f p h. hangs' f p (parents f p h);
  }

-- where directory j has no entry, it is on no way up but its own: one that avoided i does so
-- without j
pub avoids-left : (entry : ℕ → List ℕ → Option Node) (parent : ℕ → Option ℕ) → IsTree entry parent → (j : ℕ) → ((m : List ℕ) → entry j m ≡ None) → (i f : ℕ) → f ≢ j → Avoids parent i f → Avoids (with_parent parent j None) i f
avoids-left entry parent t j bare i _ apart (at_root differ) = at_root differ
avoids-left entry parent t j bare i _ apart (not_here f p differ h up) =
    let s = t.stands f p h in
    not_here f p differ (value-other parent j None f apart ∙ h) (avoids-left entry parent t j bare i p (λ same. none-some (DirNode f) (sym (ap (λ g. entry g s.0) same ∙ bare s.0) ∙ s.1)) up)
