-- What is left by writes that set the contents and the attributes of files that are named, the
-- attributes of directories, and descriptions.
use Rattle.std.proofs.Common.{◌≡◌, ◌≢◌, ◌⊎◌, inl, inr, ℕ, Bool, true, false, cond, List, [], ◌∷◌, Option, Some, None, IsSome, refl, sym, ap, subst, ◌∙◌}
use Rattle.std.specs.Prelude.{◌==◌}
use Rattle.std.proofs.lemmas.Bool.{false≢true}
use Rattle.std.proofs.lemmas.Option.{none-some, same_Some}
use Rattle.ft_cells.specs.declared.node.Node.{Node}
use Rattle.ft_cells.specs.declared.open_file.OpenFile.{OpenFile}
use Rattle.ft_cells.specs.declared.attributes.Attributes.{Attributes}
use Rattle.ft_cells.specs.Cells.{Cells, Contents, parent_of, open_of}
use Rattle.ft_tree.specs.Sound.{Hangs}
use Rattle.ft_posix.specs.Outcomes.{Write}
use Rattle.ft_posix.proofs.Puts.{with_value, entry_after, parent_after, dir_attributes_after, links_after, file_attributes_after, contents_after, open_after}
use Rattle.ft_posix.proofs.Named.{Named}
use Rattle.ft_posix.proofs.Changes.{FileWrite, AreFileWrites, sets_contents, sets_file_attributes, sets_dir_attributes, closes, sets_open}
use Rattle.ft_posix.proofs.Left.{value-other}

module _ (cells : Cells) (k : ℕ) where
  -- no entry is set
  pub entry-files : (ws : List Write) → AreFileWrites cells k ws → (entry : ℕ → List ℕ → Option Node) → entry_after entry ws ≡ entry
  entry-files [] h entry = refl
  entry-files (w ∷ ws) h entry = one w h.0 ∙ entry-files ws h.1 entry
    where
      one : (w : Write) → FileWrite cells k w → entry_after entry (w ∷ ws) ≡ entry_after entry ws
      one _ (sets_contents i contents named) = refl
      one _ (sets_file_attributes i to named) = refl
      one _ (sets_dir_attributes d to hangs) = refl
      one _ (closes f o is) = refl
      one _ (sets_open f o named at) = refl

  -- no parent
  pub parent-files : (ws : List Write) → AreFileWrites cells k ws → (parent : ℕ → Option ℕ) → parent_after parent ws ≡ parent
  parent-files [] h parent = refl
  parent-files (w ∷ ws) h parent = one w h.0 ∙ parent-files ws h.1 parent
    where
      one : (w : Write) → FileWrite cells k w → parent_after parent (w ∷ ws) ≡ parent_after parent ws
      one _ (sets_contents i contents named) = refl
      one _ (sets_file_attributes i to named) = refl
      one _ (sets_dir_attributes d to hangs) = refl
      one _ (closes f o is) = refl
      one _ (sets_open f o named at) = refl

  -- and no links
  pub links-files : (ws : List Write) → AreFileWrites cells k ws → (links : ℕ → ℕ) → links_after links ws ≡ links
  links-files [] h links = refl
  links-files (w ∷ ws) h links = one w h.0 ∙ links-files ws h.1 links
    where
      one : (w : Write) → FileWrite cells k w → links_after links (w ∷ ws) ≡ links_after links ws
      one _ (sets_contents i contents named) = refl
      one _ (sets_file_attributes i to named) = refl
      one _ (sets_dir_attributes d to hangs) = refl
      one _ (closes f o is) = refl
      one _ (sets_open f o named at) = refl

  -- a file that is not named keeps its contents
  pub contents-files : (ws : List Write) → AreFileWrites cells k ws → (contents : ℕ → Contents) (j : ℕ) → ((i : ℕ) → Named cells i → i ≢ j) → contents_after contents ws j ≡ contents j
  contents-files [] h contents j apart = refl
  contents-files (w ∷ ws) h contents j apart = one w h.0 (λ f. contents-files ws h.1 f j apart)
    where
      one : (w : Write) → FileWrite cells k w → ((f : ℕ → Contents) → contents_after f ws j ≡ f j) → contents_after contents (w ∷ ws) j ≡ contents j
      one _ (sets_contents i x named) rest = rest (with_value contents i x) ∙ value-other contents i x j (λ same. apart i named (sym same))
      one _ (sets_file_attributes i to named) rest = rest contents
      one _ (sets_dir_attributes d to hangs) rest = rest contents
      one _ (closes f o is) rest = rest contents
      one _ (sets_open f o named at) rest = rest contents

  -- and its attributes
  pub file_attributes-files : (ws : List Write) → AreFileWrites cells k ws → (attributes : ℕ → Option Attributes) (j : ℕ) → ((i : ℕ) → Named cells i → i ≢ j) → file_attributes_after attributes ws j ≡ attributes j
  file_attributes-files [] h attributes j apart = refl
  file_attributes-files (w ∷ ws) h attributes j apart = one w h.0 (λ f. file_attributes-files ws h.1 f j apart)
    where
      one : (w : Write) → FileWrite cells k w → ((f : ℕ → Option Attributes) → file_attributes_after f ws j ≡ f j) → file_attributes_after attributes (w ∷ ws) j ≡ attributes j
      one _ (sets_contents i x named) rest = rest attributes
      one _ (sets_file_attributes i to named) rest = rest (with_value attributes i to) ∙ value-other attributes i to j (λ same. apart i named (sym same))
      one _ (sets_dir_attributes d to hangs) rest = rest attributes
      one _ (closes f o is) rest = rest attributes
      one _ (sets_open f o named at) rest = rest attributes

  -- what is no directory of the tree keeps its attributes
  pub dir_attributes-files : (ws : List Write) → AreFileWrites cells k ws → (attributes : ℕ → Option Attributes) (j : ℕ) → ((d : ℕ) → Hangs (parent_of cells) d → d ≢ j) → dir_attributes_after attributes ws j ≡ attributes j
  dir_attributes-files [] h attributes j apart = refl
  dir_attributes-files (w ∷ ws) h attributes j apart = one w h.0 (λ f. dir_attributes-files ws h.1 f j apart)
    where
      one : (w : Write) → FileWrite cells k w → ((f : ℕ → Option Attributes) → dir_attributes_after f ws j ≡ f j) → dir_attributes_after attributes (w ∷ ws) j ≡ attributes j
      one _ (sets_contents i x named) rest = rest attributes
      one _ (sets_file_attributes i to named) rest = rest attributes
      one _ (sets_dir_attributes d to hangs) rest = rest (with_value attributes d to) ∙ value-other attributes d to j (λ same. apart d hangs (sym same))
      one _ (closes f o is) rest = rest attributes
      one _ (sets_open f o named at) rest = rest attributes

  -- what is not open, and not k, is not opened
  pub open-files : (ws : List Write) → AreFileWrites cells k ws → (opens : ℕ → Option OpenFile) (j : ℕ) → open_of cells j ≡ None → j ≢ k → opens j ≡ None → open_after opens ws j ≡ None
  open-files [] h opens j none other shut = shut
  open-files (w ∷ ws) h opens j none other shut = one w h.0 (λ f. open-files ws h.1 f j none other)
    where
      not_at : (f : ℕ) → (f ≡ k) ⊎ IsSome (open_of cells f) → j ≢ f
      not_at f (inl new) same = other (same ∙ new)
      not_at f (inr old) same = false≢true (subst IsSome (ap (open_of cells) (sym same) ∙ none) old)

      one : (w : Write) → FileWrite cells k w → ((f : ℕ → Option OpenFile) → f j ≡ None → open_after f ws j ≡ None) → open_after opens (w ∷ ws) j ≡ None
      one _ (sets_contents i contents named) rest = rest opens shut
      one _ (sets_file_attributes i to named) rest = rest opens shut
      one _ (sets_dir_attributes d to hangs) rest = rest opens shut
      one _ (closes f o is) rest = rest (with_value opens f None) (elim (j == f) as (λ b. cond b None (opens j) ≡ None) [ true ↦ refl | false ↦ shut ])
      one _ (sets_open f o named at) rest = rest (with_value opens f (Some o)) (value-other opens f (Some o) j (not_at f at) ∙ shut)

  -- each description is of a file that was named
  pub named-files : (P : ℕ → Type 0) → ((i : ℕ) → Named cells i → P i) → (ws : List Write) → AreFileWrites cells k ws → (opens : ℕ → Option OpenFile) → ((f : ℕ) (o : OpenFile) → opens f ≡ Some o → P o.file)
      → (f : ℕ) (o : OpenFile) → open_after opens ws f ≡ Some o → P o.file
  named-files P each [] h opens old = old
  named-files P each (w ∷ ws) h opens old = one w h.0 (named-files P each ws h.1)
    where
      -- with one set that is of such a file
      set : (g : ℕ) (to : Option OpenFile) → ((x : OpenFile) → to ≡ Some x → P x.file) → (f : ℕ) (o : OpenFile) → with_value opens g to f ≡ Some o → P o.file
      set g to new f o at = by_number (f == g) at
        where
          by_number : (b : Bool) → cond b to (opens f) ≡ Some o → P o.file
          by_number true at = new o at
          by_number false at = old f o at

      one : (w : Write) → FileWrite cells k w → ((g : ℕ → Option OpenFile) → ((f : ℕ) (o : OpenFile) → g f ≡ Some o → P o.file) → (f : ℕ) (o : OpenFile) → open_after g ws f ≡ Some o → P o.file)
          → (f : ℕ) (o : OpenFile) → open_after opens (w ∷ ws) f ≡ Some o → P o.file
      one _ (sets_contents i contents named) rest = rest opens old
      one _ (sets_file_attributes i to named) rest = rest opens old
      one _ (sets_dir_attributes d to hangs) rest = rest opens old
      one _ (closes g x is) rest = rest (with_value opens g None) (set g None (λ y at. absurd (none-some y at)))
      one _ (sets_open g x named at) rest = rest (with_value opens g (Some x)) (set g (Some x) (λ y is. subst P (ap (λ z. z.file) (same_Some x y is)) (each x.file named)))
