-- What is left where a directory is removed, or moved.
use Rattle.std.proofs.Common.{◌≡◌, ◌≢◌, ℕ, Bool, true, false, cond, ◌||◌, List, [], ◌∷◌, Option, Some, None, is_some, refl, sym, ap, subst, eqb-true, ◌∙◌}
use Rattle.std.specs.Prelude.{◌==◌}
use Rattle.std.proofs.lemmas.Option.{none-some}
use Rattle.std.proofs.Math.Bool.{or-true}
use Rattle.ft_cells.specs.Entries.{entry_at}
use Rattle.ft_cells.specs.declared.node.Node.TheVariants.{Dir as DirNode}
use Rattle.ft_cells.specs.Nodes.{number_of}
use Rattle.ft_cells.specs.Cells.{Cells, dir_of, entry_of, parent_of, dir_attributes_of, links_of, file_attributes_of, contents_of, open_of, names_of}
use Rattle.ft_cells.specs.Plain.{links_in}
use Rattle.ft_tree.specs.Tidy.{tidy}
use Rattle.ft_tree.specs.Sound.{IsNoDir, AreSoundCells, IsFree}
use Rattle.ft_cells.specs.declared.cell.Cell.TheVariants as cell
use Rattle.ft_posix.specs.Outcomes.{Write, sets}
use Rattle.ft_posix.specs.Links as steps
use Rattle.ft_posix.specs.Links.{renamed}
use Rattle.ft_posix.specs.Stored.{put_all}
use Rattle.ft_posix.proofs.Below.{Avoids}
use Rattle.ft_posix.proofs.Places.{dir_place-put_all, file_place-put_all}
use Rattle.ft_posix.proofs.Puts.{with_entry, with_parent, with_value, entry_after, parent_after, dir_attributes_after, links_after, file_attributes_after, contents_after, open_after, entry-put_all, parent-put_all, dir_attributes-put_all, links-put_all, file_attributes-put_all, contents-put_all, open-put_all}
use Rattle.ft_posix.proofs.Listed.{dir_entry-none}
use Rattle.ft_posix.proofs.Tidied.{get-tidy}
use Rattle.ft_posix.proofs.Drawn.{count-erased, count-other}
use Rattle.ft_posix.proofs.Counting.{count-none}
use Rattle.ft_posix.proofs.Removed.{no_dir_left, none_left, tree-removed}
use Rattle.ft_posix.proofs.Moved.{parents-alike, tree-moved_dir, avoids-left}
use Rattle.ft_posix.proofs.Changes.{removed}
use Rattle.ft_posix.proofs.Left.{shown, links-shown, sound-after, free-after, entries-apart, value-other, other_than}
use Rattle.ft_posix.proofs.Relinked.{Moves, no_dir-moves, sound-moves, free-moves, was-left, empty-left, entries-left}
use Rattle.ft_posix.proofs.Free.{no_contents_yet, no_dir_attributes, no_file, no_file_attributes, no_links, no_open, no_parent}
use Rattle.ft_posix.proofs.There.{stay-removed}

-- The empty directory i is removed.
module _ (cells : Cells) (sound : AreSoundCells cells) (d : ℕ) (name : List ℕ) (i : ℕ) (is : entry_of cells d name ≡ Some (DirNode i)) (bare : names_of cells i ≡ []) where
  abbrev removed_writes : List Write
  removed_writes = (removed d name i).writes

  no_entry : (other : List ℕ) → entry_of cells i other ≡ None
  no_entry = dir_entry-none (dir_of cells i) bare

  -- no edge that is left leads to it
  count-gone : links_in (tidy (put_all cells removed_writes)) i ≡ 0
  count-gone =
      count-none (tidy (put_all cells removed_writes)).edges i
      (λ e x h own. none_left (entry_of cells) (parent_of cells) sound.tree d name i is no_entry e.dir e.name x (sym (get-tidy (put_all cells removed_writes) e.dir e.name ∙ ap (λ f. f e.dir e.name) (entry-put_all removed_writes cells)) ∙ h) own)

  -- and the edges to others stay
  count-left : (j : ℕ) → j ≢ i → links_in (tidy (put_all cells removed_writes)) j ≡ links_in (tidy cells) j
  count-left j other = sym (count-other i j _ _ other (sym (count-erased cells (put_all cells removed_writes) d name (DirNode i) (entry-put_all removed_writes cells) is j)))

  links-removed : (j : ℕ) → links_of cells j ≡ shown (put_all cells removed_writes) (with_parent (parent_of cells) i None) j
  links-removed j = by_number (j == i) refl
    where
      none : (b : Bool) → ◌≡◌ {A = ℕ} (cond (b || false) 0 0) 0
      none true = refl
      none false = refl

      by_number : (b : Bool) → (j == i) ≡ b → links_of cells j ≡ cond ((j == 1) || is_some (cond b None (parent_of cells j))) 0 (links_in (tidy (put_all cells removed_writes)) j)
      by_number true at =
          ap (links_of cells) (eqb-true j i at) ∙ links-shown cells sound i ∙ ap (λ o. cond ((i == 1) || is_some o) 0 (links_in (tidy cells) i)) (sound.tree.leads d name i is)
          ∙ ap (λ b. cond b 0 (links_in (tidy cells) i)) (or-true (i == 1)) ∙ sym (ap (cond ((j == 1) || false) 0) (ap (links_in (tidy (put_all cells removed_writes))) (eqb-true j i at) ∙ count-gone) ∙ none (j == 1))
      by_number false at = links-shown cells sound j ∙ ap (cond ((j == 1) || is_some (parent_of cells j)) 0) (sym (count-left j (other_than j i at)))

  pub sound-removed : AreSoundCells (put_all cells removed_writes)
  sound-removed =
      sound-after cells sound removed_writes (tree-removed (entry_of cells) (parent_of cells) sound.tree d name i is no_entry) links-removed
      (λ f o h. let file = sound.opens f o h in (file_place-put_all removed_writes cells o.file file.0, no_dir_left (entry_of cells) (parent_of cells) sound.tree d name i is no_entry o.file file.1))
      (stay-removed cells sound d name i)

  pub free-removed : (j : ℕ) → IsFree cells j → IsFree (put_all cells removed_writes) j
  free-removed j too =
      free-after cells removed_writes j too.above_root (elim (j == i) as (λ b. cond b None (parent_of cells j) ≡ None) [ true ↦ refl | false ↦ (no_parent too) ])
      (elim (j == i) as (λ b. cond b None (dir_attributes_of cells j) ≡ None) [ true ↦ refl | false ↦ (no_dir_attributes too) ]) (no_links too) (no_file_attributes too) (no_contents_yet too) (no_open too)
      (entries-apart cells d name None j too (λ x h. absurd (none-some x h))) (no_file too)

  -- what was no directory is none
  pub no_dir-removed : (j : ℕ) → IsNoDir (parent_of cells) j → IsNoDir (parent_of (put_all cells removed_writes)) j
  no_dir-removed j h =
      subst (λ (f : ℕ → Option ℕ). IsNoDir f j) (sym (parent-put_all removed_writes cells)) (no_dir_left (entry_of cells) (parent_of cells) sound.tree d name i is no_entry j h)

-- The parent of directory i is set to e, where another directory than d holds it then.
module _ (i d e : ℕ) where
  -- nothing but the parent is set
  pub kept-hung : {A : Type 0} (read : List Write → A) → read (sets (cell.Parent i) (Some e) ∷ []) ≡ read [] → read (steps.with_parent i d e) ≡ read []
  kept-hung read same = elim (d == e) as (λ b. read (cond b [] (sets (cell.Parent i) (Some e) ∷ [])) ≡ read []) [ true ↦ refl | false ↦ same ]

  -- where its parent was d, it is e
  pub parent-hung : (parent : ℕ → Option ℕ) → parent i ≡ Some d → parent_after parent (steps.with_parent i d e) ≡ with_parent parent i (Some e)
  parent-hung parent was = by_dir (d == e) refl
    where
      by_number : d ≡ e → (f : ℕ) (b : Bool) → (f == i) ≡ b → parent f ≡ cond b (Some e) (parent f)
      by_number same f true at = ap parent (eqb-true f i at) ∙ was ∙ ap Some same
      by_number same f false at = refl

      by_dir : (b : Bool) → (d == e) ≡ b → parent_after parent (cond b [] (sets (cell.Parent i) (Some e) ∷ [])) ≡ with_parent parent i (Some e)
      by_dir true at = λ x f. by_number (eqb-true d e at) f (f == i) refl x
      by_dir false at = refl

-- Where a directory is moved the cells are sound, no number is named that was not, and what was no
-- directory is none.

pub sound-moves_dir : (old new : Cells) (d : ℕ) (name : List ℕ) (i e : ℕ) (other : List ℕ) → Moves old new d name (DirNode i) e other (with_parent (parent_of old) i (Some e)) → AreSoundCells old → Avoids (parent_of old) i e → AreSoundCells new
sound-moves_dir old new d name i e other m sound clear =
    sound-moves old new d name (DirNode i) e other (with_parent (parent_of old) i (Some e)) m (parents-alike (entry_of old) (parent_of old) sound.tree d name i e other m.was m.empty clear) sound
    (tree-moved_dir (entry_of old) (parent_of old) sound.tree d name i e other m.was m.empty clear)

pub free-moves_dir : (old new : Cells) (d : ℕ) (name : List ℕ) (i e : ℕ) (other : List ℕ) → Moves old new d name (DirNode i) e other (with_parent (parent_of old) i (Some e)) → AreSoundCells old → Avoids (parent_of old) i e
    → (j : ℕ) → IsFree old j → IsFree new j
free-moves_dir old new d name i e other m sound clear =
    free-moves old new d name (DirNode i) e other (with_parent (parent_of old) i (Some e)) m (parents-alike (entry_of old) (parent_of old) sound.tree d name i e other m.was m.empty clear)

pub no_dir-moves_dir : (old new : Cells) (d : ℕ) (name : List ℕ) (i e : ℕ) (other : List ℕ) → Moves old new d name (DirNode i) e other (with_parent (parent_of old) i (Some e)) → AreSoundCells old → Avoids (parent_of old) i e
    → (j : ℕ) → IsNoDir (parent_of old) j → IsNoDir (parent_of new) j
no_dir-moves_dir old new d name i e other m sound clear =
    no_dir-moves old new d name (DirNode i) e other (with_parent (parent_of old) i (Some e)) m (parents-alike (entry_of old) (parent_of old) sound.tree d name i e other m.was m.empty clear)

-- A directory is moved to an empty place.
module _ (cells : Cells) (sound : AreSoundCells cells) (d : ℕ) (name : List ℕ) (i e : ℕ) (other : List ℕ) (is : entry_of cells d name ≡ Some (DirNode i)) (clear : Avoids (parent_of cells) i e) (empty : entry_of cells e other ≡ None) where
  abbrev moved_writes : List Write
  moved_writes = (renamed (entry_at d name) (DirNode i) (entry_at e other) (steps.with_parent i d e)).writes

  dir_moved : Moves cells (put_all cells moved_writes) d name (DirNode i) e other (with_parent (parent_of cells) i (Some e))
  dir_moved = record {
    was = is;
    empty = empty;
    entries = entry-put_all moved_writes cells ∙ kept-hung i d e (entry_after (with_entry (with_entry (entry_of cells) e other (Some (DirNode i))) d name None)) refl;
    parents = parent-put_all moved_writes cells ∙ parent-hung i d e (parent_of cells) (sound.tree.leads d name i is);
    links = links-put_all moved_writes cells ∙ kept-hung i d e (links_after (links_of cells)) refl;
    dir_attributes = dir_attributes-put_all moved_writes cells ∙ kept-hung i d e (dir_attributes_after (dir_attributes_of cells)) refl;
    file_attributes = file_attributes-put_all moved_writes cells ∙ kept-hung i d e (file_attributes_after (file_attributes_of cells)) refl;
    contents = contents-put_all moved_writes cells ∙ kept-hung i d e (contents_after (contents_of cells)) refl;
    opens = open-put_all moved_writes cells ∙ kept-hung i d e (open_after (open_of cells)) refl;
    root = dir_place-put_all moved_writes cells 1 sound.root_is;
    files = file_place-put_all moved_writes cells;
  }

  pub sound-dir_moved : AreSoundCells (put_all cells moved_writes)
  sound-dir_moved = sound-moves_dir cells (put_all cells moved_writes) d name i e other dir_moved sound clear

  pub free-dir_moved : (n : ℕ) → IsFree cells n → IsFree (put_all cells moved_writes) n
  free-dir_moved = free-moves_dir cells (put_all cells moved_writes) d name i e other dir_moved sound clear

  pub no_dir-dir_moved : (n : ℕ) → IsNoDir (parent_of cells) n → IsNoDir (parent_of (put_all cells moved_writes)) n
  no_dir-dir_moved = no_dir-moves_dir cells (put_all cells moved_writes) d name i e other dir_moved sound clear

-- A directory is moved to the place of an empty one.
module _ (cells : Cells) (sound : AreSoundCells cells) (d : ℕ) (name : List ℕ) (i e : ℕ) (other : List ℕ) (j : ℕ) (is : entry_of cells d name ≡ Some (DirNode i)) (filled : entry_of cells e other ≡ Some (DirNode j)) (differ : i ≢ j)
    (clear : Avoids (parent_of cells) i e) (bare : names_of cells j ≡ []) where
  abbrev replaced_writes : List Write
  replaced_writes = (renamed (entry_at d name) (DirNode i) (entry_at e other) (sets (cell.DirAttributes j) None ∷ sets (cell.Parent j) None ∷ steps.with_parent i d e)).writes

  abbrev gone_writes : List Write
  gone_writes = (removed e other j).writes

  -- the empty one is removed before
  abbrev gone : Cells
  gone = put_all cells gone_writes

  nodes_differ : DirNode i ≢ DirNode j
  nodes_differ same = differ (ap number_of same)

  -- the other directory has the parent that it had
  parent_left : with_parent (parent_of cells) j None i ≡ Some d
  parent_left = value-other (parent_of cells) j None i differ ∙ sound.tree.leads d name i is

  dir_replaced : Moves gone (put_all cells replaced_writes) d name (DirNode i) e other (with_parent (parent_of gone) i (Some e))
  dir_replaced =
      let emptied = entry-put_all gone_writes cells in
      record {
        was = was-left cells gone d name (DirNode i) e other (DirNode j) emptied is filled nodes_differ;
        empty = empty-left cells gone d name (DirNode i) e other (DirNode j) emptied is filled nodes_differ;
        entries = entry-put_all replaced_writes cells ∙ kept-hung i d e (entry_after (with_entry (with_entry (entry_of cells) e other (Some (DirNode i))) d name None)) refl
            ∙ entries-left cells gone d name (DirNode i) e other (DirNode j) emptied is filled nodes_differ;
        parents = parent-put_all replaced_writes cells ∙ parent-hung i d e (with_parent (parent_of cells) j None) parent_left ∙ ap (λ f. with_parent f i (Some e)) (sym (parent-put_all gone_writes cells));
        links = links-put_all replaced_writes cells ∙ kept-hung i d e (links_after (links_of cells)) refl ∙ sym (links-put_all gone_writes cells);
        dir_attributes = dir_attributes-put_all replaced_writes cells ∙ kept-hung i d e (dir_attributes_after (with_value (dir_attributes_of cells) j None)) refl ∙ sym (dir_attributes-put_all gone_writes cells);
        file_attributes = file_attributes-put_all replaced_writes cells ∙ kept-hung i d e (file_attributes_after (file_attributes_of cells)) refl ∙ sym (file_attributes-put_all gone_writes cells);
        contents = contents-put_all replaced_writes cells ∙ kept-hung i d e (contents_after (contents_of cells)) refl ∙ sym (contents-put_all gone_writes cells);
        opens = open-put_all replaced_writes cells ∙ kept-hung i d e (open_after (open_of cells)) refl ∙ sym (open-put_all gone_writes cells);
        root = dir_place-put_all replaced_writes cells 1 sound.root_is;
        files = file_place-put_all replaced_writes cells;
      }

  -- the way up from the new place is as before, since it has an entry
  clear_left : Avoids (parent_of gone) i e
  clear_left =
      let none = dir_entry-none (dir_of cells j) bare in
      let apart : e ≢ j = λ same. none-some (DirNode j) (sym (ap (λ f. entry_of cells f other) same ∙ none other) ∙ filled) in
      subst (λ (f : ℕ → Option ℕ). Avoids f i e) (sym (parent-put_all gone_writes cells)) (avoids-left (entry_of cells) (parent_of cells) sound.tree j none i e apart clear)

  pub sound-dir_replaced : AreSoundCells (put_all cells replaced_writes)
  sound-dir_replaced = sound-moves_dir gone (put_all cells replaced_writes) d name i e other dir_replaced (sound-removed cells sound e other j filled bare) clear_left

  pub free-dir_replaced : (n : ℕ) → IsFree cells n → IsFree (put_all cells replaced_writes) n
  free-dir_replaced n too =
      free-moves_dir gone (put_all cells replaced_writes) d name i e other dir_replaced (sound-removed cells sound e other j filled bare) clear_left n (free-removed cells sound e other j filled bare n too)

  pub no_dir-dir_replaced : (n : ℕ) → IsNoDir (parent_of cells) n → IsNoDir (parent_of (put_all cells replaced_writes)) n
  no_dir-dir_replaced n h =
      no_dir-moves_dir gone (put_all cells replaced_writes) d name i e other dir_replaced (sound-removed cells sound e other j filled bare) clear_left n (no_dir-removed cells sound e other j filled bare n h)
