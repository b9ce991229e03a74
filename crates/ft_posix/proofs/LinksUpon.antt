-- What link, unlink and rename come upon.
use Rattle.std.proofs.Common.{◌≡◌, inl, inr, ℕ, Bool, true, false, cond, List, [], ◌∷◌, Option, Some, None, Result, Ok, Err, refl, sym, ◌∙◌}
use Rattle.std.specs.Prelude.{◌==◌, nat_lt}
use Rattle.std.proofs.lemmas.Option.{none-some}
use Rattle.ft_laws.specs.Lists.{Each}
use Rattle.ft_path.specs.declared.errno.Errno.{Errno}
use Rattle.ft_path.specs.declared.errno.Errno.TheVariants.{ENOENT, ENOTDIR, EINVAL, EMLINK}
use Rattle.ft_path.specs.declared.path.Parts.{Parts}
use Rattle.ft_cells.specs.declared.limits.TreeLimits.{TreeLimits}
use Rattle.ft_cells.specs.Entries.{entry_at}
use Rattle.ft_cells.specs.declared.cell.Cell.{Cell}
use Rattle.ft_cells.specs.declared.cell.Cell.TheVariants.{Names}
use Rattle.ft_cells.specs.declared.cell.Cell.TheVariants as cell
use Rattle.ft_cells.specs.declared.node.Node.{Node}
use Rattle.ft_cells.specs.declared.node.Form.{Form}
use Rattle.ft_cells.specs.declared.node.Node.TheVariants.{Dir as DirNode, File as FileNode}
use Rattle.ft_cells.specs.Cells.{Cells, entry_of, names_of, links_of}
use Rattle.ft_tree.specs.Views.{view_of}
use Rattle.ft_cells.specs.Looks.{Looks, Answer, answer}
use Rattle.ft_cells.specs.declared.node.PathEnd.{PathEnd}
use Rattle.ft_cells.specs.declared.node.PathEnd.TheVariants.{Named as AtName, Itself}
use Rattle.ft_posix.specs.declared.call.Reply.TheVariants.{Done}
use Rattle.ft_posix.specs.Outcomes.{Write, sets, Outcome, failed, told, from_parts}
use Rattle.ft_path.specs.FilePath.{last_of}
use Rattle.ft_posix.specs.Links.{linked, link_new, link_old, link_parts, unlink_spot, rename_fault, climb, unless_below, renamed, with_parent, replace_file, if_bare, replace_dir, rename_file, rename_dir, rename_old, rename_parts}
use Rattle.ft_posix.specs.Posix.{node_names}
use Rattle.ft_posix.proofs.Puts.{is_place, entry_after}
use Rattle.ft_posix.proofs.Upon.{Upon}
use Rattle.ft_posix.proofs.Left.{other_than}
use Rattle.ft_posix.proofs.WalkedUpon.{climb-meets, IsFound}
use Rattle.ft_posix.proofs.WritesUpon.{IsUpon, upon_parent, upon_dir_attributes, upon_links, AreUpon, of_same, fills, frees, places_apart, moved-left}
use Rattle.ft_posix.proofs.FilesUpon.{GoesUpon, of_none, of_file, no_name, no_change, either-goes, unless-goes, then-goes, meets_none, from_parts-goes, by_entry}

-- files of one number are one node
file_inside : (form kind : Form) (i j : ℕ) → Some (FileNode form i) ≡ Some (FileNode kind j) → i ≡ j
file_inside form kind i j h = cc

module _ (cells : Cells) (k : ℕ) (seen : List Cell) where
  -- link sets an entry that led to nothing, and the links
  link_new-goes : (limits : TreeLimits) (form : Form) (i : ℕ) → Upon cells k seen i → (spot : PathEnd) → IsFound cells seen spot → GoesUpon cells k seen (link_new limits form i spot)
  link_new-goes limits form i upon (AtName entry (Some x) slash) h = no_change cells k seen
  link_new-goes limits form i upon (Itself d) h = no_change cells k seen
  link_new-goes limits form i upon (AtName entry None slash) h = either-goes cells k seen slash (Answer (failed ENOENT)) _ (no_change cells k seen) (λ all. ((of_file cells k seen i upon, tt), by_room (nat_lt (links_of cells i) limits.links)))
    where
      by_room : (b : Bool) → AreUpon cells k seen (cond b (linked form i entry (links_of cells i)) (failed EMLINK)).writes
      by_room true = (fills cells k seen _ entry.dir entry.name None (Some (FileNode form i)) h.1 (λ j. refl) (of_same (Upon cells k seen) i upon), (upon_links i _ upon, tt))
      by_room false = tt

  -- of the file to which the old path leads
  link_old-goes : (limits : TreeLimits) (new : Parts) (spot : PathEnd) → IsFound cells seen spot → GoesUpon cells k seen (link_old limits new spot)
  link_old-goes limits new (AtName entry None slash) h = no_change cells k seen
  link_old-goes limits new (AtName entry (Some (DirNode i)) slash) h = no_change cells k seen
  link_old-goes limits new (AtName entry (Some (FileNode form i)) slash) h = from_parts-goes cells k seen false (link_new limits form i) (link_new-goes limits form i (by_entry cells k seen entry.dir entry.name i slash h)) (Ok new)
  link_old-goes limits new (Itself d) h = no_change cells k seen

  -- with the faults of both texts
  pub link_parts-goes : (limits : TreeLimits) (old new : Result Parts Errno) → GoesUpon cells k seen (link_parts limits old new)
  link_parts-goes limits (Err e) new = no_change cells k seen
  link_parts-goes limits (Ok old) (Err e) = no_change cells k seen
  link_parts-goes limits (Ok old) (Ok new) = from_parts-goes cells k seen false (link_old limits new) (link_old-goes limits new) (Ok old)

  -- unlink takes away a name, and looks at the links
  pub unlink_spot-goes : (spot : PathEnd) → IsFound cells seen spot → GoesUpon cells k seen (unlink_spot spot)
  unlink_spot-goes (AtName entry None slash) h = no_change cells k seen
  unlink_spot-goes (AtName entry (Some (DirNode i)) slash) h = no_change cells k seen
  unlink_spot-goes (AtName entry (Some (FileNode form i)) slash) h =
      let upon = by_entry cells k seen entry.dir entry.name i slash h in
      λ all. ((of_file cells k seen i upon, tt), (upon_links i _ upon, (frees cells k seen _ entry.dir entry.name i None h.1 (inl all.0) (no_name cells k seen), tt)))
  unlink_spot-goes (Itself d) h = no_change cells k seen

  -- the entries of a file that is moved, over what may go
  renamed_file-upon : (d : ℕ) (name : List ℕ) (form : Form) (i e : ℕ) (other : List ℕ) (more : List Write) → IsFound cells seen (AtName (entry_at d name) (Some (FileNode form i)) false) → is_place d name e other ≡ false
      → ((entry : ℕ → List ℕ → Option Node) → entry_after entry more ≡ entry) → let all = (renamed (entry_at d name) (FileNode form i) (entry_at e other) more).writes in
      (((j : ℕ) → (i == j) ≡ true → Upon cells k seen j) → IsUpon cells k seen all (sets (cell.Entry (entry_at e other)) (Some (FileNode form i)))) → Each (IsUpon cells k seen all) more → AreUpon cells k seen all
  renamed_file-upon d name form i e other more h apart keeps first rest =
      let goes = inr (moved-left cells d name form i e other more apart keeps) in
      (first (of_same (Upon cells k seen) i (by_entry cells k seen d name i false h)), (frees cells k seen _ d name i None h.1 goes (no_name cells k seen), rest))

  -- a file comes to the place of nothing, or of a file whose links are looked at
  rename_file-goes : (d : ℕ) (name : List ℕ) (form : Form) (i : ℕ) → IsFound cells seen (AtName (entry_at d name) (Some (FileNode form i)) false) → (spot : PathEnd) → IsFound cells seen spot → GoesUpon cells k seen (rename_file (entry_at d name) form i spot)
  rename_file-goes d name form i h (AtName other None slash) g = λ all. (tt, by_slash slash)
    where
      apart : is_place d name other.dir other.name ≡ false
      apart = places_apart cells d name other.dir other.name (λ same. none-some (FileNode form i) (sym g.1 ∙ same ∙ h.1))

      by_slash : (b : Bool) → AreUpon cells k seen (cond b (failed ENOTDIR) (renamed (entry_at d name) (FileNode form i) other [])).writes
      by_slash true = tt
      by_slash false = renamed_file-upon d name form i other.dir other.name [] h apart (λ entry. refl) (fills cells k seen _ other.dir other.name None (Some (FileNode form i)) g.1 (λ j. refl)) tt
  rename_file-goes d name form i h (AtName other (Some (FileNode kind j)) slash) g = by_number (i == j) refl
    where
      upon : Upon cells k seen j
      upon = by_entry cells k seen other.dir other.name j slash g

      apart : (i == j) ≡ false → is_place d name other.dir other.name ≡ false
      apart is = places_apart cells d name other.dir other.name (λ same. other_than i j is (file_inside form kind i j (sym h.1 ∙ sym same ∙ g.1)))

      by_number : (b : Bool) → (i == j) ≡ b → GoesUpon cells k seen (cond b (Answer (told Done)) (replace_file (entry_at d name) (FileNode form i) other j))
      by_number true is = no_change cells k seen
      by_number false is =
          λ all. (
            (of_file cells k seen j upon, tt),
            renamed_file-upon d name form i other.dir other.name _ h (apart is) (λ entry. refl) (frees cells k seen _ other.dir other.name j (Some (FileNode form i)) g.1 (inl all.0)) (upon_links j _ upon, tt),
          )
  rename_file-goes d name form i h (AtName entry (Some (DirNode j)) slash) g = no_change cells k seen
  rename_file-goes d name form i h (Itself e) g = no_change cells k seen

  -- the way up is of no file
  unless_below-goes : (n i e : ℕ) (go : Looks Outcome) → GoesUpon cells k seen go → GoesUpon cells k seen (unless_below n i e go)
  unless_below-goes n i e go h =
      then-goes cells k seen (climb n i e) (λ met. cond met (Answer (failed EINVAL)) go) (meets_none cells k seen (climb n i e) (climb-meets cells n i e))
      (λ _. either-goes cells k seen (answer (climb n i e) (view_of cells)) (Answer (failed EINVAL)) go (no_change cells k seen) h)

  -- the entries of a directory that is moved, over what names no file
  renamed_dir-upon : (d : ℕ) (name : List ℕ) (i e : ℕ) (other : List ℕ) (more : List Write) (x : Option Node) → entry_of cells d name ≡ Some (DirNode i) → entry_of cells e other ≡ x → ((j : ℕ) → node_names x j ≡ false)
      → Each (IsUpon cells k seen (renamed (entry_at d name) (DirNode i) (entry_at e other) more).writes) more → AreUpon cells k seen (renamed (entry_at d name) (DirNode i) (entry_at e other) more).writes
  renamed_dir-upon d name i e other more x is was none rest =
      (fills cells k seen _ e other x (Some (DirNode i)) was none (no_name cells k seen), (fills cells k seen _ d name (Some (DirNode i)) None is (λ j. refl) (no_name cells k seen), rest))

  -- its new parent is of no file
  with_parent-upon : (all : List Write) (i d e : ℕ) → Each (IsUpon cells k seen all) (with_parent i d e)
  with_parent-upon all i d e = elim (d == e) as (λ b. Each (IsUpon cells k seen all) (cond b [] (sets (cell.Parent i) (Some e) ∷ []))) [ true ↦ tt | false ↦ (upon_parent i (Some e), tt) ]

  -- a directory comes to the place of nothing, or of a directory
  rename_dir-goes : (n d : ℕ) (name : List ℕ) (i : ℕ) → entry_of cells d name ≡ Some (DirNode i) → (spot : PathEnd) → IsFound cells seen spot → GoesUpon cells k seen (rename_dir n (entry_at d name) i spot)
  rename_dir-goes n d name i is (AtName entry None slash) g =
      let ws = (renamed (entry_at d name) (DirNode i) entry (with_parent i d entry.dir)).writes in
      unless_below-goes n i entry.dir _ (λ all. (tt, renamed_dir-upon d name i entry.dir entry.name (with_parent i d entry.dir) None is g.1 (λ j. refl) (with_parent-upon ws i d entry.dir)))
  rename_dir-goes n d name i is (AtName entry (Some (FileNode kind j)) slash) g = no_change cells k seen
  rename_dir-goes n d name i is (AtName entry (Some (DirNode j)) slash) g =
      either-goes cells k seen (i == j) (Answer (told Done)) _ (no_change cells k seen)
      (unless_below-goes n i entry.dir (replace_dir (entry_at d name) i entry j) (λ all. ((of_none cells k seen (Names j) refl, tt), by_names (names_of cells j))))
    where
      by_names : (names : List (List ℕ × Node)) → AreUpon cells k seen (if_bare (entry_at d name) i entry j names).writes
      by_names [] =
          let more = sets (cell.DirAttributes j) None ∷ sets (cell.Parent j) None ∷ with_parent i d entry.dir in
          let all = (renamed (entry_at d name) (DirNode i) entry more).writes in
          renamed_dir-upon d name i entry.dir entry.name more (Some (DirNode j)) is g.1 (λ m. refl) (upon_dir_attributes j None, (upon_parent j None, with_parent-upon all i d entry.dir))
      by_names (x ∷ xs) = tt
  rename_dir-goes n d name i is (Itself e) g = no_change cells k seen

  -- what the old path leads to is moved
  rename_old-goes : (n : ℕ) (new : Parts) (spot : PathEnd) → IsFound cells seen spot → GoesUpon cells k seen (rename_old n new spot)
  rename_old-goes n new (AtName entry None slash) h = no_change cells k seen
  rename_old-goes n new (AtName entry (Some (FileNode form i)) slash) h = from_parts-goes cells k seen false (rename_file entry form i) (rename_file-goes entry.dir entry.name form i h) (Ok new)
  rename_old-goes n new (AtName entry (Some (DirNode i)) slash) h = from_parts-goes cells k seen false (rename_dir n entry i) (rename_dir-goes n entry.dir entry.name i h.1) (Ok new)
  rename_old-goes n new (Itself d) h = no_change cells k seen

  -- with the faults of both texts
  pub rename_parts-goes : (n : ℕ) (old new : Result Parts Errno) → GoesUpon cells k seen (rename_parts n old new)
  rename_parts-goes n (Err e) new = no_change cells k seen
  rename_parts-goes n (Ok old) (Err e) = no_change cells k seen
  rename_parts-goes n (Ok old) (Ok new) =
      unless-goes cells k seen (rename_fault (last_of old.names) (last_of new.names)) (from_parts false (Ok old) (rename_old n new)) (from_parts-goes cells k seen false (rename_old n new) (rename_old-goes n new) (Ok old))
