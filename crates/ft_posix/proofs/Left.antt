-- What writes leave: when the cells after them are sound, and which numbers are free then.
use Rattle.std.proofs.Common.{◌≡◌, ◌≢◌, ◌≤◌, ℕ, Bool, true, false, cond, ◌||◌, List, Option, Some, None, is_some, arith, sym, ap, subst, eq-eqb, ne_eqb, ◌∙◌}
use Rattle.std.specs.Prelude.{◌==◌}
use Rattle.std.proofs.lemmas.Bool.{false≢true}
use Rattle.std.proofs.lemmas.Option.{none-some, same_Some}
use Rattle.ft_cells.specs.Entries.{entry_at}
use Rattle.ft_cells.specs.declared.node.Node.{Node}
use Rattle.ft_cells.specs.declared.node.Node.TheVariants.{File as FileNode}
use Rattle.ft_cells.specs.declared.cell.Cell.TheVariants.{Links}
use Rattle.ft_cells.specs.declared.open_file.OpenFile.{OpenFile}
use Rattle.ft_cells.specs.Nodes.{number_of}
use Rattle.ft_cells.specs.Cells.{Cells, no_contents, entry_of, parent_of, dir_attributes_of, links_of, file_attributes_of, contents_of, open_of, HasDirPlace, HasFilePlace}
use Rattle.ft_cells.specs.Plain.{links_in, view_in}
use Rattle.ft_tree.specs.Tidy.{tidy}
use Rattle.ft_tree.specs.Sound.{Hangs, the_root, under, IsNoDir, IsTree, AreSoundCells, IsFree}
use Rattle.ft_posix.specs.Outcomes.{Write}
use Rattle.ft_posix.specs.Stored.{put_all}
use Rattle.ft_posix.proofs.Places.{dir_place-put_all, file_place-linked}
use Rattle.ft_posix.proofs.Puts.{is_place, with_entry, with_value, entry_after, parent_after, dir_attributes_after, links_after, file_attributes_after, contents_after, open_after, entry-put_all, parent-put_all, dir_attributes-put_all, links-put_all, file_attributes-put_all, contents-put_all, open-put_all}
use Rattle.ft_posix.proofs.Tidied.{get-tidy, contains-parent}
use Rattle.ft_posix.proofs.Counting.{count-some}
use Rattle.ft_posix.proofs.Named.{Named, by_entry, by_open}
use Rattle.ft_posix.proofs.Free.{made_free, no_entry, no_file, no_parent, has_dir-parent}
use Rattle.ft_posix.proofs.There.{is_dir, StayThere, there-after, cells-there}

-- The links that are shown: none of a directory, and the count of its edges of anything else.
abbrev pub shown : Cells → (ℕ → Option ℕ) → ℕ → ℕ
shown cells parent i = cond ((i == 1) || is_some (parent i)) 0 (links_in (tidy cells) i)

shown-view : (cells : Cells) → HasDirPlace cells 1 → (i : ℕ) → view_in (tidy cells) (Links i) ≡ shown cells (parent_of cells) i
shown-view cells root i = ap (λ b. cond b 0 (links_in (tidy cells) i)) (contains-parent cells root i)

-- what is no directory shows the count
pub shown-no_dir : (cells : Cells) (parent : ℕ → Option ℕ) (i : ℕ) → IsNoDir parent i → shown cells parent i ≡ links_in (tidy cells) i
shown-no_dir cells parent i no_dir x = cond (ne_eqb i 1 no_dir.0 x || is_some (no_dir.1 x)) 0 (links_in (tidy cells) i)

-- A file that is stored, and is no directory.
abbrev pub IsFile : Cells → (ℕ → Option ℕ) → ℕ → Type 0
IsFile cells parent i = HasFilePlace cells i × IsNoDir parent i

module _ (cells : Cells) (sound : AreSoundCells cells) where
  pub links-shown : (i : ℕ) → links_of cells i ≡ shown cells (parent_of cells) i
  links-shown i = sound.links i ∙ shown-view cells sound.root_is i

  pub links-counted : (i : ℕ) → IsNoDir (parent_of cells) i → links_of cells i ≡ links_in (tidy cells) i
  links-counted i no_dir = links-shown i ∙ shown-no_dir cells (parent_of cells) i no_dir

  -- a file that is named is stored, and is no directory
  pub named-file : (i : ℕ) → Named cells i → IsFile cells (parent_of cells) i
  named-file _ (by_open f o is) = sound.opens f o is
  named-file _ (by_entry d name {form} i is) =
      let no_dir = sound.tree.apart d name form i is in
      (file_place-linked cells i (λ none. count-some (tidy cells).edges (entry_at d name) (FileNode form i) (get-tidy cells d name ∙ is) (sym (links-counted i no_dir) ∙ none)), no_dir)

  -- what is left by writes is sound, if it is a tree with the links and files that belong to it
  pub sound-after : (ws : List Write) → IsTree (entry_after (entry_of cells) ws) (parent_after (parent_of cells) ws)
      → ((i : ℕ) → links_after (links_of cells) ws i ≡ shown (put_all cells ws) (parent_after (parent_of cells) ws) i)
      → ((f : ℕ) (o : OpenFile) → open_after (open_of cells) ws f ≡ Some o → IsFile (put_all cells ws) (parent_after (parent_of cells) ws) o.file)
      → StayThere (parent_of cells) (dir_attributes_of cells) ws → AreSoundCells (put_all cells ws)
  sound-after ws tree links opens stay =
      let new = put_all cells ws in
      let root = dir_place-put_all ws cells 1 sound.root_is in
      let parents = parent-put_all ws cells in
      record {
        root_is = root;
        tree = subst (λ (f : ℕ → List ℕ → Option Node). IsTree f (parent_of new)) (sym (entry-put_all ws cells)) (subst (λ (f : ℕ → Option ℕ). IsTree (entry_after (entry_of cells) ws) f) (sym parents) tree);
        links = λ i. ap (λ f. f i) (links-put_all ws cells) ∙ links i ∙ sym (shown-view new root i ∙ ap (λ f. shown new f i) parents);
        opens = λ f o h. let file = opens f o (sym (ap (λ g. g f) (open-put_all ws cells)) ∙ h) in (file.0, (file.1.0, ap (λ g. g o.file) parents ∙ file.1.1));
        attributes = λ d a h.
            has_dir-parent new root d ∙ ap (λ f. is_dir f d) parents
            ∙ there-after ws (parent_of cells) (dir_attributes_of cells) (cells-there cells sound) stay d a (sym (ap (λ f. f d) (dir_attributes-put_all ws cells)) ∙ h);
      }

-- a free number is not the root
pub above-not_root : (k : ℕ) → 2 ≤ k → k ≢ 1
above-not_root k above is = absurd (omega arith)

-- a number that is free is named by nothing
pub named-not_free : (cells : Cells) (j : ℕ) → IsFree cells j → (i : ℕ) → Named cells i → i ≢ j
named-not_free cells j free _ (by_open f o is) = (no_file free) f o is
named-not_free cells j free _ (by_entry d name {form} i is) = (no_entry free) d name (FileNode form i) is

-- and is no directory of the tree
pub hangs-not_free : (cells : Cells) (j : ℕ) → IsFree cells j → (d : ℕ) → Hangs (parent_of cells) d → d ≢ j
hangs-not_free cells j free _ the_root = λ is. above-not_root j free.above_root (sym is)
hangs-not_free cells j free _ (under d p h up) = λ is. none-some p (sym (ap (parent_of cells) is ∙ no_parent free) ∙ h)

-- a number is free after writes, if no value that they leave names it
pub free-after : (cells : Cells) (ws : List Write) (j : ℕ) → 2 ≤ j → parent_after (parent_of cells) ws j ≡ None → dir_attributes_after (dir_attributes_of cells) ws j ≡ None → links_after (links_of cells) ws j ≡ 0
    → file_attributes_after (file_attributes_of cells) ws j ≡ None → contents_after (contents_of cells) ws j ≡ no_contents → open_after (open_of cells) ws j ≡ None → ((d : ℕ) (name : List ℕ) (x : Node) → entry_after (entry_of cells) ws d name ≡ Some x → number_of x ≢ j)
    → ((f : ℕ) (o : OpenFile) → open_after (open_of cells) ws f ≡ Some o → o.file ≢ j) → IsFree (put_all cells ws) j
free-after cells ws j above parent dir_attributes links file_attributes contents opens entries files =
    made_free (put_all cells ws) j above
    (ap (λ f. f j) (parent-put_all ws cells) ∙ parent) (ap (λ f. f j) (dir_attributes-put_all ws cells) ∙ dir_attributes) (ap (λ f. f j) (links-put_all ws cells) ∙ links)
    (ap (λ f. f j) (file_attributes-put_all ws cells) ∙ file_attributes) (ap (λ f. f j) (contents-put_all ws cells) ∙ contents) (ap (λ f. f j) (open-put_all ws cells) ∙ opens)
    (λ d name x h. entries d name x (sym (ap (λ f. f d name) (entry-put_all ws cells)) ∙ h)) (λ f o h. files f o (sym (ap (λ g. g f) (open-put_all ws cells)) ∙ h))

-- an entry that is set names no free number, if what it is set to does not
pub entries-apart : (cells : Cells) (d : ℕ) (name : List ℕ) (to : Option Node) (j : ℕ) → IsFree cells j → ((x : Node) → to ≡ Some x → number_of x ≢ j)
    → (e : ℕ) (other : List ℕ) (x : Node) → with_entry (entry_of cells) d name to e other ≡ Some x → number_of x ≢ j
entries-apart cells d name to j free apart e other x h = by_place (is_place d name e other) h
  where
    by_place : (b : Bool) → cond b to (entry_of cells e other) ≡ Some x → number_of x ≢ j
    by_place true is = apart x is
    by_place false is = (no_entry free) e other x is

-- a node that is not of this number
pub node-apart : (node x : Node) (j : ℕ) → j ≢ number_of node → Some node ≡ Some x → number_of x ≢ j
node-apart node x j other is same = other (sym (ap number_of (same_Some node x is) ∙ same))

-- what has a place in a list of values is not at another
pub value-other : {A : Type 0} (f : ℕ → A) (i : ℕ) (x : A) (j : ℕ) → j ≢ i → with_value f i x j ≡ f j
value-other f i x j other = ap (λ b. cond b x (f j)) (ne_eqb j i other)

-- a test that fails
pub other_than : (i k : ℕ) → (i == k) ≡ false → i ≢ k
other_than i k at is = false≢true (sym at ∙ eq-eqb i k is)
