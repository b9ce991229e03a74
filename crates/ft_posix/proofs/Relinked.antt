-- What is left where an entry of a file is made, taken away, or moved.
use Rattle.std.proofs.Common.{◌≡◌, ◌≢◌, ◌+◌, ℕ, suc, Bool, true, false, cond, ◌||◌, List, [], ◌∷◌, Option, Some, None, is_some, arith, sym, ap, subst, eqb-true, eq-eqb, ◌∙◌, refl}
use Rattle.std.specs.Prelude.{◌==◌, ◌-◌}
use Rattle.std.proofs.lemmas.Bool.{false≢true}
use Rattle.std.proofs.lemmas.Option.{none-some, same_Some}
use Rattle.std.specs.FinMap.{contains_key}
use Rattle.ft_cells.specs.Entries.{entry_at}
use Rattle.ft_cells.specs.declared.node.Node.{Node}
use Rattle.ft_cells.specs.declared.node.Form.{Form}
use Rattle.ft_cells.specs.declared.node.Node.TheVariants.{File as FileNode}
use Rattle.ft_cells.specs.Nodes.{number_of}
use Rattle.ft_cells.specs.Cells.{Cells, entry_of, parent_of, dir_attributes_of, links_of, file_attributes_of, contents_of, open_of, put_entry, HasDirPlace, HasFilePlace}
use Rattle.ft_cells.specs.Plain.{links_in}
use Rattle.ft_tree.specs.Tidy.{tidy}
use Rattle.ft_tree.specs.Sound.{Hangs, IsNoDir, IsTree, AreSoundCells, IsFree}
use Rattle.ft_cells.specs.declared.cell.Cell.TheVariants as cell
use Rattle.ft_posix.specs.Outcomes.{Write, sets}
use Rattle.ft_posix.specs.Links.{linked, unlinked, renamed}
use Rattle.ft_posix.specs.Stored.{put_all}
use Rattle.ft_posix.proofs.Places.{dir_place-put_all, file_place-put_all}
use Rattle.ft_posix.proofs.Puts.{with_entry, with_value, entry-put_entry, entry-put_all, parent-put_all, dir_attributes-put_all, links-put_all, file_attributes-put_all, contents-put_all, open-put_all}
use Rattle.ft_posix.proofs.Tidied.{contains-parent}
use Rattle.ft_posix.proofs.Drawn.{count-drawn, count-erased, count-other}
use Rattle.ft_posix.proofs.Created.{tree-created}
use Rattle.ft_posix.proofs.Linked.{entry-kept, entry-set, entry-twice, entry-left, tree-unlinked}
use Rattle.ft_posix.proofs.Moved.{tree-moved_file}
use Rattle.ft_posix.proofs.Named.{Named, by_entry}
use Rattle.ft_posix.proofs.Left.{shown, shown-no_dir, IsFile, links-shown, links-counted, named-file, sound-after, named-not_free, free-after, entries-apart, node-apart, value-other, other_than}
use Rattle.ft_posix.proofs.Free.{made_free, no_contents_yet, no_dir_attributes, no_entry, no_file, no_file_attributes, no_links, no_open, no_parent, has_dir-parent}
use Rattle.ft_posix.proofs.There.{cells-there}

-- a number is counted at itself
one_own : (i : ℕ) → ◌≡◌ {A = ℕ} (cond (i == i) 1 0) 1
one_own i = ap (λ (b : Bool). cond {A = ℕ} b 1 0) (eq-eqb i i refl)

-- one more
count-more : (i n m links : ℕ) → n ≡ cond (i == i) 1 0 + m → links ≡ m → n ≡ suc links
count-more i n m links sum same = let one = one_own i in omega arith

-- and one less
count-fewer : (i n m links : ℕ) → cond (i == i) 1 0 + n ≡ m → links ≡ m → n ≡ links - 1
count-fewer i n m links sum same = let one = one_own i in omega arith

-- A file that is named gets another entry.
module _ (cells : Cells) (sound : AreSoundCells cells) (form : Form) (i : ℕ) (d : ℕ) (name : List ℕ) (named : Named cells i) (hangs : Hangs (parent_of cells) d) (empty : entry_of cells d name ≡ None) where
  abbrev linked_writes : List Write
  linked_writes = (linked form i (entry_at d name) (links_of cells i)).writes

  file : IsFile cells (parent_of cells) i
  file = named-file cells sound i named

  count-linked : (n : ℕ) → links_in (tidy (put_all cells linked_writes)) n ≡ cond (i == n) 1 0 + links_in (tidy cells) n
  count-linked = count-drawn cells (put_all cells linked_writes) d name (FileNode form i) (entry-put_all linked_writes cells) empty

  links-linked : (n : ℕ) → with_value (links_of cells) i (suc (links_of cells i)) n ≡ shown (put_all cells linked_writes) (parent_of cells) n
  links-linked n = by_number (n == i) refl
    where
      by_number : (b : Bool) → (n == i) ≡ b → cond b (suc (links_of cells i)) (links_of cells n) ≡ shown (put_all cells linked_writes) (parent_of cells) n
      by_number true at =
          sym
          (ap (shown (put_all cells linked_writes) (parent_of cells)) (eqb-true n i at) ∙ shown-no_dir (put_all cells linked_writes) (parent_of cells) i file.1
          ∙ count-more i _ _ (links_of cells i) (count-linked i) (links-counted cells sound i file.1))
      by_number false at = links-shown cells sound n ∙ ap (cond ((n == 1) || is_some (parent_of cells n)) 0) (sym (count-other i n _ _ (other_than n i at) (count-linked n)))

  pub sound-linked : AreSoundCells (put_all cells linked_writes)
  sound-linked =
      sound-after cells sound linked_writes (tree-created (entry_of cells) (parent_of cells) sound.tree d name form i empty file.1.1 file.1.0 hangs) links-linked
      (λ f o h. let x = sound.opens f o h in (file_place-put_all linked_writes cells o.file x.0, x.1)) (let there = cells-there cells sound in (there, (there, tt)))

  pub free-linked : (j : ℕ) → IsFree cells j → IsFree (put_all cells linked_writes) j
  free-linked j too =
      let other : j ≢ i = λ same. named-not_free cells j too i named (sym same) in
      free-after cells linked_writes j too.above_root (no_parent too) (no_dir_attributes too) (value-other (links_of cells) i (suc (links_of cells i)) j other ∙ (no_links too)) (no_file_attributes too) (no_contents_yet too) (no_open too)
      (entries-apart cells d name (Some (FileNode form i)) j too (λ x. node-apart (FileNode form i) x j other)) (no_file too)

-- A file loses one.
module _ (cells : Cells) (sound : AreSoundCells cells) (d : ℕ) (name : List ℕ) {form : Form} (i : ℕ) (is : entry_of cells d name ≡ Some (FileNode form i)) where
  abbrev unlinked_writes : List Write
  unlinked_writes = (unlinked (entry_at d name) i (links_of cells i)).writes

  count-unlinked : (n : ℕ) → cond (i == n) 1 0 + links_in (tidy (put_all cells unlinked_writes)) n ≡ links_in (tidy cells) n
  count-unlinked = count-erased cells (put_all cells unlinked_writes) d name (FileNode form i) (entry-put_all unlinked_writes cells) is

  links-unlinked : (n : ℕ) → with_value (links_of cells) i (links_of cells i - 1) n ≡ shown (put_all cells unlinked_writes) (parent_of cells) n
  links-unlinked n = by_number (n == i) refl
    where
      by_number : (b : Bool) → (n == i) ≡ b → cond b (links_of cells i - 1) (links_of cells n) ≡ shown (put_all cells unlinked_writes) (parent_of cells) n
      by_number true at =
          let no_dir = sound.tree.apart d name form i is in
          sym
          (ap (shown (put_all cells unlinked_writes) (parent_of cells)) (eqb-true n i at) ∙ shown-no_dir (put_all cells unlinked_writes) (parent_of cells) i no_dir
          ∙ count-fewer i _ _ (links_of cells i) (count-unlinked i) (links-counted cells sound i no_dir))
      by_number false at = links-shown cells sound n ∙ ap (cond ((n == 1) || is_some (parent_of cells n)) 0) (count-other i n _ _ (other_than n i at) (sym (count-unlinked n)))

  pub sound-unlinked : AreSoundCells (put_all cells unlinked_writes)
  sound-unlinked =
      sound-after cells sound unlinked_writes (tree-unlinked (entry_of cells) (parent_of cells) sound.tree d name i is) links-unlinked
      (λ f o h. let x = sound.opens f o h in (file_place-put_all unlinked_writes cells o.file x.0, x.1)) (let there = cells-there cells sound in (there, (there, tt)))

  pub free-unlinked : (j : ℕ) → IsFree cells j → IsFree (put_all cells unlinked_writes) j
  free-unlinked j too =
      let other : j ≢ i = λ same. named-not_free cells j too i (by_entry d name i is) (sym same) in
      free-after cells unlinked_writes j too.above_root (no_parent too) (no_dir_attributes too) (value-other (links_of cells) i (links_of cells i - 1) j other ∙ (no_links too)) (no_file_attributes too) (no_contents_yet too) (no_open too)
      (entries-apart cells d name None j too (λ x h. absurd (none-some x h))) (no_file too)

-- The new cells have what the old ones have, but that one entry is moved to an empty place, and
-- the parents are these.
pub record Moves (old new : Cells) (d : ℕ) (name : List ℕ) (x : Node) (e : ℕ) (other : List ℕ) (parent : ℕ → Option ℕ) : Type 0 where
  pub was : entry_of old d name ≡ Some x
  pub empty : entry_of old e other ≡ None
  pub entries : entry_of new ≡ with_entry (with_entry (entry_of old) e other (Some x)) d name None
  pub parents : parent_of new ≡ parent
  pub links : links_of new ≡ links_of old
  pub dir_attributes : dir_attributes_of new ≡ dir_attributes_of old
  pub file_attributes : file_attributes_of new ≡ file_attributes_of old
  pub contents : contents_of new ≡ contents_of old
  pub opens : open_of new ≡ open_of old
  pub root : HasDirPlace new 1
  pub files : (i : ℕ) → HasFilePlace old i → HasFilePlace new i

-- what is drawn and taken away leaves the count
same_count : (one before drawn left : ℕ) → drawn ≡ one + before → one + left ≡ drawn → left ≡ before
same_count one before drawn left more less = omega arith

-- nothing, where there is nothing in another
none-alike : (o p : Option ℕ) → is_some o ≡ is_some p → p ≡ None → o ≡ None
none-alike None p same none = refl
none-alike (Some x) p same none = absurd (false≢true (sym (same ∙ ap is_some none)))

module _ (old new : Cells) (d : ℕ) (name : List ℕ) (x : Node) (e : ℕ) (other : List ℕ) (parent : ℕ → Option ℕ) (m : Moves old new d name x e other parent) (alike : (i : ℕ) → is_some (parent i) ≡ is_some (parent_of old i)) where
  -- the count of each number stays
  count-moved : (n : ℕ) → links_in (tidy new) n ≡ links_in (tidy old) n
  count-moved n =
      let drawn : entry_of (put_entry old e other (Some x)) ≡ with_entry (entry_of old) e other (Some x) = λ i f text. entry-put_entry old e other (Some x) f text i in
      let kept = entry-kept (entry_of old) e other (Some x) d name (λ same. none-some x (sym m.empty ∙ sym same ∙ m.was)) ∙ m.was in
      same_count (cond (number_of x == n) 1 0) _ _ _ (count-drawn old (put_entry old e other (Some x)) e other x drawn m.empty n)
      (count-erased (put_entry old e other (Some x)) new d name x (m.entries ∙ ap (λ f. with_entry f d name None) (sym drawn)) (ap (λ f. f d name) drawn ∙ kept) n)

  -- a number has a parent where it had one
  parents-moved : (i : ℕ) → is_some (parent_of new i) ≡ is_some (parent_of old i)
  parents-moved i = ap (λ f. is_some (f i)) m.parents ∙ alike i

  -- and what was no directory is none
  pub no_dir-moves : (i : ℕ) → IsNoDir (parent_of old) i → IsNoDir (parent_of new) i
  no_dir-moves i h = (h.0, none-alike (parent_of new i) (parent_of old i) (parents-moved i) h.1)

  -- the cells are sound
  pub sound-moves : AreSoundCells old → IsTree (with_entry (with_entry (entry_of old) e other (Some x)) d name None) parent → AreSoundCells new
  sound-moves sound tree =
      let dirs : (n : ℕ) → contains_key (tidy old).dirs n ≡ contains_key (tidy new).dirs n =
      λ n. contains-parent old sound.root_is n ∙ ap (λ b. (n == 1) || b) (sym (parents-moved n)) ∙ sym (contains-parent new m.root n) in
      record {
        root_is = m.root;
        tree = subst (λ (f : ℕ → List ℕ → Option Node). IsTree f (parent_of new)) (sym m.entries) (subst (λ (f : ℕ → Option ℕ). IsTree (with_entry (with_entry (entry_of old) e other (Some x)) d name None) f) (sym m.parents) tree);
        links = λ n. ap (λ f. f n) m.links ∙ sound.links n ∙ (λ i. cond (dirs n i) 0 (sym (count-moved n) i));
        opens = λ f o h. let file = sound.opens f o (ap (λ g. g f) (sym m.opens) ∙ h) in (m.files o.file file.0, no_dir-moves o.file file.1);
        attributes = λ f a h.
            has_dir-parent new m.root f ∙ ap (λ b. (f == 1) || b) (parents-moved f) ∙ sym (has_dir-parent old sound.root_is f) ∙ sound.attributes f a (ap (λ g. g f) (sym m.dir_attributes) ∙ h);
      }

  -- and no number is named that was not
  pub free-moves : (j : ℕ) → IsFree old j → IsFree new j
  free-moves j too =
      made_free new j too.above_root
      (none-alike (parent_of new j) (parent_of old j) (parents-moved j) (no_parent too)) (ap (λ f. f j) m.dir_attributes ∙ no_dir_attributes too) (ap (λ f. f j) m.links ∙ no_links too)
      (ap (λ f. f j) m.file_attributes ∙ no_file_attributes too) (ap (λ f. f j) m.contents ∙ no_contents_yet too) (ap (λ f. f j) m.opens ∙ no_open too)
      (λ f text y h. entries-apart old e other (Some x) j too (λ z is. no_entry too d name z (m.was ∙ is)) f text y (entry-left (with_entry (entry_of old) e other (Some x)) d name f text y (sym (ap (λ g. g f text) m.entries) ∙ h)))
      (λ f o h. no_file too f o (ap (λ g. g f) (sym m.opens) ∙ h))

-- so it is where a file is moved
pub sound-moves_file : (old new : Cells) (d : ℕ) (name : List ℕ) {form : Form} (i e : ℕ) (other : List ℕ) → Moves old new d name (FileNode form i) e other (parent_of old) → AreSoundCells old → Hangs (parent_of old) e → AreSoundCells new
sound-moves_file old new d name {form} i e other m sound hangs =
    sound-moves old new d name (FileNode form i) e other (parent_of old) m (λ n. refl) sound (tree-moved_file (entry_of old) (parent_of old) sound.tree d name i e other m.was m.empty hangs)

pub free-moves_file : (old new : Cells) (d : ℕ) (name : List ℕ) {form : Form} (i e : ℕ) (other : List ℕ) → Moves old new d name (FileNode form i) e other (parent_of old) → (j : ℕ) → IsFree old j → IsFree new j
free-moves_file old new d name {form} i e other m = free-moves old new d name (FileNode form i) e other (parent_of old) m (λ n. refl)

-- A file is moved to an empty place.
module _ (cells : Cells) (sound : AreSoundCells cells) (d : ℕ) (name : List ℕ) {form : Form} (i e : ℕ) (other : List ℕ) (is : entry_of cells d name ≡ Some (FileNode form i)) (hangs : Hangs (parent_of cells) e) (empty : entry_of cells e other ≡ None) where
  abbrev moved_writes : List Write
  moved_writes = (renamed (entry_at d name) (FileNode form i) (entry_at e other) []).writes

  file_moved : Moves cells (put_all cells moved_writes) d name (FileNode form i) e other (parent_of cells)
  file_moved = record {
    was = is;
    empty = empty;
    entries = entry-put_all moved_writes cells;
    parents = parent-put_all moved_writes cells;
    links = links-put_all moved_writes cells;
    dir_attributes = dir_attributes-put_all moved_writes cells;
    file_attributes = file_attributes-put_all moved_writes cells;
    contents = contents-put_all moved_writes cells;
    opens = open-put_all moved_writes cells;
    root = dir_place-put_all moved_writes cells 1 sound.root_is;
    files = file_place-put_all moved_writes cells;
  }

  pub sound-file_moved : AreSoundCells (put_all cells moved_writes)
  sound-file_moved = sound-moves_file cells (put_all cells moved_writes) d name i e other file_moved sound hangs

  pub free-file_moved : (n : ℕ) → IsFree cells n → IsFree (put_all cells moved_writes) n
  free-file_moved = free-moves_file cells (put_all cells moved_writes) d name i e other file_moved

-- Before an entry is moved to a place where something stands, that is taken away.
module _ (cells gone : Cells) (d : ℕ) (name : List ℕ) (x : Node) (e : ℕ) (other : List ℕ) (y : Node) (emptied : entry_of gone ≡ with_entry (entry_of cells) e other None) (is : entry_of cells d name ≡ Some x)
    (filled : entry_of cells e other ≡ Some y) (differ : x ≢ y) where
  -- the entry to be moved stays
  pub was-left : entry_of gone d name ≡ Some x
  was-left = ap (λ f. f d name) emptied ∙ entry-kept (entry_of cells) e other None d name (λ same. differ (same_Some x y (sym is ∙ same ∙ filled))) ∙ is

  -- its new place is empty
  pub empty-left : entry_of gone e other ≡ None
  empty-left = ap (λ f. f e other) emptied ∙ entry-set (entry_of cells) e other None

  -- and then it is set as if nothing had been taken away
  pub entries-left : with_entry (with_entry (entry_of cells) e other (Some x)) d name None ≡ with_entry (with_entry (entry_of gone) e other (Some x)) d name None
  entries-left = ap (λ f. with_entry f d name None) (sym (ap (λ f. with_entry f e other (Some x)) emptied ∙ entry-twice (entry_of cells) e other None (Some x)))

-- A file is moved to the place of another one.
module _ (cells : Cells) (sound : AreSoundCells cells) (d : ℕ) (name : List ℕ) {form : Form} (i e : ℕ) (other : List ℕ) {kind : Form} (j : ℕ) (is : entry_of cells d name ≡ Some (FileNode form i)) (filled : entry_of cells e other ≡ Some (FileNode kind j)) (differ : i ≢ j) where
  abbrev replaced_writes : List Write
  replaced_writes = (renamed (entry_at d name) (FileNode form i) (entry_at e other) (sets (cell.Links j) (links_of cells j - 1) ∷ [])).writes

  abbrev gone_writes : List Write
  gone_writes = (unlinked (entry_at e other) j (links_of cells j)).writes

  -- the other one loses its entry before
  abbrev gone : Cells
  gone = put_all cells gone_writes

  nodes_differ : FileNode form i ≢ FileNode kind j
  nodes_differ same = differ (ap number_of same)

  file_replaced : Moves gone (put_all cells replaced_writes) d name (FileNode form i) e other (parent_of gone)
  file_replaced =
      let emptied = entry-put_all gone_writes cells in
      record {
        was = was-left cells gone d name (FileNode form i) e other (FileNode kind j) emptied is filled nodes_differ;
        empty = empty-left cells gone d name (FileNode form i) e other (FileNode kind j) emptied is filled nodes_differ;
        entries = entry-put_all replaced_writes cells ∙ entries-left cells gone d name (FileNode form i) e other (FileNode kind j) emptied is filled nodes_differ;
        parents = parent-put_all replaced_writes cells ∙ sym (parent-put_all gone_writes cells);
        links = links-put_all replaced_writes cells ∙ sym (links-put_all gone_writes cells);
        dir_attributes = dir_attributes-put_all replaced_writes cells ∙ sym (dir_attributes-put_all gone_writes cells);
        file_attributes = file_attributes-put_all replaced_writes cells ∙ sym (file_attributes-put_all gone_writes cells);
        contents = contents-put_all replaced_writes cells ∙ sym (contents-put_all gone_writes cells);
        opens = open-put_all replaced_writes cells ∙ sym (open-put_all gone_writes cells);
        root = dir_place-put_all replaced_writes cells 1 sound.root_is;
        files = λ n h. h;
      }

  pub sound-file_replaced : AreSoundCells (put_all cells replaced_writes)
  sound-file_replaced =
      let hangs = subst (λ (f : ℕ → Option ℕ). Hangs f e) (sym (parent-put_all gone_writes cells)) (sound.tree.starts e other (FileNode kind j) filled) in
      sound-moves_file gone (put_all cells replaced_writes) d name i e other file_replaced (sound-unlinked cells sound e other j filled) hangs

  pub free-file_replaced : (n : ℕ) → IsFree cells n → IsFree (put_all cells replaced_writes) n
  free-file_replaced n too = free-moves_file gone (put_all cells replaced_writes) d name i e other file_replaced n (free-unlinked cells sound e other j filled n too)
