-- Each call leaves sound cells, and each other number that was free.
use Rattle.std.proofs.Common.{◌≡◌, ◌≢◌, ◌+◌, ℕ, Bool, true, false, cond, ◌||◌, List, [], ◌∷◌, Option, Some, None, is_some, refl, sym, ap, subst, eqb-true, eq-eqb, ne_eqb, ◌∙◌}
use Rattle.std.specs.Prelude.{◌==◌}
use Rattle.std.proofs.lemmas.Option.{same_Some}
use Rattle.std.proofs.Math.Bool.{or-true}
use Rattle.ft_cells.specs.Entries.{entry_at}
use Rattle.ft_cells.specs.declared.node.Node.{Node}
use Rattle.ft_cells.specs.declared.node.Form.TheVariants.{Regular, Link as LinkForm}
use Rattle.ft_cells.specs.declared.node.Node.TheVariants.{Dir as DirNode, File as FileNode}
use Rattle.ft_cells.specs.declared.open_file.OpenFile.{OpenFile}
use Rattle.ft_cells.specs.Cells.{Cells, untimed, no_contents, entry_of, parent_of, dir_attributes_of, links_of, file_attributes_of, contents_of, open_of, put_links, HasFilePlace}
use Rattle.ft_cells.specs.Plain.{links_in}
use Rattle.ft_tree.specs.Tidy.{tidy}
use Rattle.ft_tree.specs.Sound.{Hangs, IsNoDir, IsTree, AreSoundCells, IsFree}
use Rattle.ft_posix.specs.declared.call.OpenFlags.{OpenFlags}
use Rattle.ft_posix.specs.Laws.{SoundnessLaw, FreshnessLaw}
use Rattle.ft_cells.specs.declared.cell.Cell.TheVariants as cell
use Rattle.ft_posix.specs.Outcomes.{Write, sets, Outcome}
use Rattle.ft_posix.specs.Symlinks.{makes_link}
use Rattle.ft_posix.specs.Files.{description}
use Rattle.ft_posix.specs.Attributes.{dir_mode, file_mode}
use Rattle.ft_posix.specs.Stored.{put_all}
use Rattle.ft_posix.proofs.Places.{file_place-put_all, file_place-set}
use Rattle.ft_posix.proofs.Puts.{with_parent, with_value, parent_after, entry-put_all, parent-put_all}
use Rattle.ft_posix.proofs.Drawn.{edges-same, count-drawn, count-other}
use Rattle.ft_posix.proofs.Counting.{count_edges}
use Rattle.ft_posix.proofs.Made.{tree-made}
use Rattle.ft_posix.proofs.Created.{tree-created}
use Rattle.ft_posix.proofs.Named.{Named, by_entry, by_open}
use Rattle.ft_posix.proofs.Changes.{Change, no_change, makes, removes, creates_file, creates_link, links_file, unlinks, moves_file, replaces_file, moves_dir, replaces_dir, on_files, made, AreFileWrites, sets_dir_attributes, sets_file_attributes, call-changes}
use Rattle.ft_posix.proofs.Left.{shown, shown-no_dir, IsFile, links-shown, links-counted, named-file, sound-after, named-not_free, hangs-not_free, free-after, entries-apart, node-apart, value-other, above-not_root, other_than}
use Rattle.ft_posix.proofs.Relinked.{sound-linked, free-linked, sound-unlinked, free-unlinked, sound-file_moved, free-file_moved, sound-file_replaced, free-file_replaced}
use Rattle.ft_posix.proofs.Rehung.{sound-removed, free-removed, sound-dir_moved, free-dir_moved, sound-dir_replaced, free-dir_replaced}
use Rattle.ft_posix.proofs.FileWrites.{entry-files, parent-files, dir_attributes-files, links-files, file_attributes-files, contents-files, open-files, named-files}
use Rattle.ft_posix.proofs.Free.{no_contents_yet, no_dir_attributes, no_entry, no_file, no_file_attributes, no_links, no_open, no_parent}
use Rattle.ft_posix.proofs.Linked.{entry-set}
use Rattle.ft_posix.proofs.There.{cells-there, stay-made, stay-files}

-- The call with stamp k makes the directory k.
module _ (cells : Cells) (sound : AreSoundCells cells) (k : ℕ) (free : IsFree cells k) (d : ℕ) (name : List ℕ) (hangs : Hangs (parent_of cells) d) (empty : entry_of cells d name ≡ None) where
  -- without a mode
  abbrev made_writes : List Write
  made_writes = (made k None d name).writes

  links-made : (i : ℕ) → links_of cells i ≡ shown (put_all cells made_writes) (with_parent (parent_of cells) k (Some d)) i
  links-made i = by_number (i == k) refl
    where
      by_number : (b : Bool) → (i == k) ≡ b → links_of cells i ≡ cond ((i == 1) || is_some (cond b (Some d) (parent_of cells i))) 0 (links_in (tidy (put_all cells made_writes)) i)
      by_number true at = ap (links_of cells) (eqb-true i k at) ∙ (no_links free) ∙ sym (ap (λ b. cond b 0 (links_in (tidy (put_all cells made_writes)) i)) (or-true (i == 1)))
      by_number false at =
          links-shown cells sound i
          ∙ ap (cond ((i == 1) || is_some (parent_of cells i)) 0) (sym (count-other k i _ _ (other_than i k at) (count-drawn cells (put_all cells made_writes) d name (DirNode k) (entry-put_all made_writes cells) empty i)))

  file-made : (i : ℕ) → i ≢ k → IsFile cells (parent_of cells) i → IsFile (put_all cells made_writes) (with_parent (parent_of cells) k (Some d)) i
  file-made i other file = (file_place-put_all made_writes cells i file.0, (file.1.0, ap (λ b. cond b (Some d) (parent_of cells i)) (ne_eqb i k other) ∙ file.1.1))

  sound-made : AreSoundCells (put_all cells made_writes)
  sound-made =
      sound-after cells sound made_writes
      (tree-made (entry_of cells) (parent_of cells) sound.tree d name k empty (no_parent free) (above-not_root k free.above_root) hangs (no_entry free))
      links-made (λ f o h. file-made o.file ((no_file free) f o h) (sound.opens f o h)) (stay-made cells sound k None d name)

  free-made : (j : ℕ) → IsFree cells j → j ≢ k → IsFree (put_all cells made_writes) j
  free-made j too other =
      free-after cells made_writes j too.above_root (ap (λ b. cond b (Some d) (parent_of cells j)) (ne_eqb j k other) ∙ (no_parent too)) (no_dir_attributes too) (no_links too) (no_file_attributes too) (no_contents_yet too) (no_open too)
      (entries-apart cells d name (Some (DirNode k)) j too (λ x. node-apart (DirNode k) x j other)) (no_file too)

  -- and then with one
  mode-made : (mode : Option ℕ) → AreFileWrites (put_all cells made_writes) k (dir_mode k mode)
  mode-made None = tt
  mode-made (Some mode) =
      let own = ap (λ f. f k) (parent-put_all made_writes cells) ∙ ap (λ b. cond b (Some d) (parent_of cells k)) (eq-eqb k k refl) in
      (sets_dir_attributes k _ (sound-made.tree.hangs k d own), tt)

-- It makes the file k, with a description.
module _ (cells : Cells) (sound : AreSoundCells cells) (k : ℕ) (free : IsFree cells k) (flags : OpenFlags) (d : ℕ) (name : List ℕ) (hangs : Hangs (parent_of cells) d) (empty : entry_of cells d name ≡ None) where
  -- without a mode
  abbrev created_writes : List Write
  created_writes = sets (cell.Links k) 1 ∷ sets (cell.Bytes k) no_contents ∷ sets (cell.Fd k) (Some (description flags k)) ∷ sets (cell.Entry (entry_at d name)) (Some (FileNode Regular k)) ∷ []

  not_root : k ≢ 1
  not_root = above-not_root k free.above_root

  count-created : (i : ℕ) → links_in (tidy (put_all cells created_writes)) i ≡ cond (k == i) 1 0 + links_in (tidy cells) i
  count-created = count-drawn cells (put_all cells created_writes) d name (FileNode Regular k) (entry-put_all created_writes cells) empty

  -- its own count is one
  count-own : links_in (tidy (put_all cells created_writes)) k ≡ 1
  count-own = count-created k ∙ (λ x. cond (eq-eqb k k refl x) 1 0 + (sym (links-counted cells sound k (not_root, (no_parent free))) ∙ (no_links free)) x)

  links-created : (i : ℕ) → with_value (links_of cells) k 1 i ≡ shown (put_all cells created_writes) (parent_of cells) i
  links-created i = by_number (i == k) refl
    where
      by_number : (b : Bool) → (i == k) ≡ b → cond b 1 (links_of cells i) ≡ shown (put_all cells created_writes) (parent_of cells) i
      by_number true at =
          sym (ap (shown (put_all cells created_writes) (parent_of cells)) (eqb-true i k at) ∙ shown-no_dir (put_all cells created_writes) (parent_of cells) k (not_root, (no_parent free)) ∙ count-own)
      by_number false at = links-shown cells sound i ∙ ap (cond ((i == 1) || is_some (parent_of cells i)) 0) (sym (count-other k i _ _ (other_than i k at) (count-created i)))

  place-created : HasFilePlace (put_all cells created_writes) k
  place-created =
      file_place-put_all (sets (cell.Bytes k) no_contents ∷ sets (cell.Fd k) (Some (description flags k)) ∷ sets (cell.Entry (entry_at d name)) (Some (FileNode Regular k)) ∷ []) (put_links cells k 1) k (file_place-set cells k _)

  -- each description is the new one, or an old one
  opens-created : (P : ℕ → Type 0) → P k → ((f : ℕ) (o : OpenFile) → open_of cells f ≡ Some o → P o.file) → (f : ℕ) (o : OpenFile) → with_value (open_of cells) k (Some (description flags k)) f ≡ Some o → P o.file
  opens-created P new old f o h = by_number (f == k) h
    where
      by_number : (b : Bool) → cond b (Some (description flags k)) (open_of cells f) ≡ Some o → P o.file
      by_number true is = subst P (ap (λ x. x.file) (same_Some (description flags k) o is)) new
      by_number false is = old f o is

  sound-created : AreSoundCells (put_all cells created_writes)
  sound-created =
      sound-after cells sound created_writes (tree-created (entry_of cells) (parent_of cells) sound.tree d name Regular k empty (no_parent free) not_root hangs) links-created
      (opens-created (IsFile (put_all cells created_writes) (parent_of cells)) (place-created, (not_root, (no_parent free)))
      (λ f o h. let file = sound.opens f o h in (file_place-put_all created_writes cells o.file file.0, file.1))) (let there = cells-there cells sound in (there, (there, (there, (there, tt)))))

  free-created : (j : ℕ) → IsFree cells j → j ≢ k → IsFree (put_all cells created_writes) j
  free-created j too other =
      free-after cells created_writes j too.above_root (no_parent too) (no_dir_attributes too) (value-other (links_of cells) k 1 j other ∙ (no_links too)) (no_file_attributes too)
      (value-other (contents_of cells) k no_contents j other ∙ (no_contents_yet too)) (value-other (open_of cells) k (Some (description flags k)) j other ∙ (no_open too)) (entries-apart cells d name (Some (FileNode Regular k)) j too (λ x. node-apart (FileNode Regular k) x j other))
      (opens-created (λ i. i ≢ j) (λ same. other (sym same)) (no_file too))

  -- and then with one
  mode-created : (mode : Option ℕ) → AreFileWrites (put_all cells created_writes) k (file_mode k mode)
  mode-created None = tt
  mode-created (Some mode) =
      let own : entry_of (put_all cells created_writes) d name ≡ Some (FileNode Regular k) = ap (λ f. f d name) (entry-put_all created_writes cells) ∙ entry-set (entry_of cells) d name (Some (FileNode Regular k)) in
      (sets_file_attributes k _ (by_entry d name k own), tt)

-- It makes the symbolic link k.
module _ (cells : Cells) (sound : AreSoundCells cells) (k : ℕ) (free : IsFree cells k) (target : List ℕ) (d : ℕ) (name : List ℕ) (hangs : Hangs (parent_of cells) d) (empty : entry_of cells d name ≡ None) where
  abbrev linking_writes : List Write
  linking_writes = (makes_link k target (entry_at d name)).writes

  count-linking : (i : ℕ) → links_in (tidy (put_all cells linking_writes)) i ≡ cond (k == i) 1 0 + links_in (tidy cells) i
  count-linking = count-drawn cells (put_all cells linking_writes) d name (FileNode LinkForm k) (entry-put_all linking_writes cells) empty

  -- its own count is one
  count-own_link : links_in (tidy (put_all cells linking_writes)) k ≡ 1
  count-own_link = count-linking k ∙ (λ x. cond (eq-eqb k k refl x) 1 0 + (sym (links-counted cells sound k ((above-not_root k free.above_root), (no_parent free))) ∙ (no_links free)) x)

  links-linking : (i : ℕ) → with_value (links_of cells) k 1 i ≡ shown (put_all cells linking_writes) (parent_of cells) i
  links-linking i = by_number (i == k) refl
    where
      by_number : (b : Bool) → (i == k) ≡ b → cond b 1 (links_of cells i) ≡ shown (put_all cells linking_writes) (parent_of cells) i
      by_number true at =
          sym (ap (shown (put_all cells linking_writes) (parent_of cells)) (eqb-true i k at) ∙ shown-no_dir (put_all cells linking_writes) (parent_of cells) k ((above-not_root k free.above_root), (no_parent free)) ∙ count-own_link)
      by_number false at = links-shown cells sound i ∙ ap (cond ((i == 1) || is_some (parent_of cells i)) 0) (sym (count-other k i _ _ (other_than i k at) (count-linking i)))

  sound-linking : AreSoundCells (put_all cells linking_writes)
  sound-linking =
      sound-after cells sound linking_writes (tree-created (entry_of cells) (parent_of cells) sound.tree d name LinkForm k empty (no_parent free) (above-not_root k free.above_root) hangs) links-linking
      (λ f o h. let file = sound.opens f o h in (file_place-put_all linking_writes cells o.file file.0, file.1)) (let there = cells-there cells sound in (there, (there, (there, tt))))

  free-linking : (j : ℕ) → IsFree cells j → j ≢ k → IsFree (put_all cells linking_writes) j
  free-linking j too other =
      free-after cells linking_writes j too.above_root (no_parent too) (no_dir_attributes too) (value-other (links_of cells) k 1 j other ∙ (no_links too)) (no_file_attributes too)
      (value-other (contents_of cells) k (untimed target) j other ∙ (no_contents_yet too)) (no_open too) (entries-apart cells d name (Some (FileNode LinkForm k)) j too (λ x. node-apart (FileNode LinkForm k) x j other))
      (no_file too)

-- It sets the contents and the attributes of files that are named, the attributes of directories,
-- and descriptions.
module _ (cells : Cells) (k : ℕ) where
  sound-files : AreSoundCells cells → (ws : List Write) → AreFileWrites cells k ws → AreSoundCells (put_all cells ws)
  sound-files sound ws h =
      let entries = entry-files cells k ws h (entry_of cells) in
      let parents = parent-files cells k ws h (parent_of cells) in
      let new = put_all cells ws in
      let each : (i : ℕ) → Named cells i → IsFile new (parent_after (parent_of cells) ws) i =
      λ i named. let file = named-file cells sound i named in (file_place-put_all ws cells i file.0, subst (λ (f : ℕ → Option ℕ). IsNoDir f i) (sym parents) file.1) in
      sound-after cells sound ws
      (subst (λ (f : ℕ → List ℕ → Option Node). IsTree f (parent_after (parent_of cells) ws)) (sym entries) (subst (λ (f : ℕ → Option ℕ). IsTree (entry_of cells) f) (sym parents) sound.tree))
      (λ i. ap (λ f. f i) (links-files cells k ws h (links_of cells)) ∙ links-shown cells sound i ∙ (λ x. cond ((i == 1) || is_some (sym parents x i)) 0 (count_edges (sym (edges-same cells new (entry-put_all ws cells ∙ entries)) x) i)))
      (named-files cells k (IsFile new (parent_after (parent_of cells) ws)) each ws h (open_of cells) (λ f o is. each o.file (by_open f o is)))
      (stay-files cells k ws h (dir_attributes_of cells) (cells-there cells sound))

  free-files : (ws : List Write) → AreFileWrites cells k ws → (j : ℕ) → IsFree cells j → j ≢ k → IsFree (put_all cells ws) j
  free-files ws h j free other =
      free-after cells ws j free.above_root (ap (λ f. f j) (parent-files cells k ws h (parent_of cells)) ∙ (no_parent free))
      (dir_attributes-files cells k ws h (dir_attributes_of cells) j (hangs-not_free cells j free) ∙ (no_dir_attributes free)) (ap (λ f. f j) (links-files cells k ws h (links_of cells)) ∙ (no_links free))
      (file_attributes-files cells k ws h (file_attributes_of cells) j (named-not_free cells j free) ∙ (no_file_attributes free))
      (contents-files cells k ws h (contents_of cells) j (named-not_free cells j free) ∙ (no_contents_yet free)) (open-files cells k ws h (open_of cells) j (no_open free) other (no_open free))
      (λ d name x is. (no_entry free) d name x (sym (ap (λ f. f d name) (entry-files cells k ws h (entry_of cells))) ∙ is))
      (named-files cells k (λ i. i ≢ j) (named-not_free cells j free) ws h (open_of cells) (no_file free))

-- Each change leaves sound cells.
change-sound : (cells : Cells) (k : ℕ) (reads : Bool) → AreSoundCells cells → IsFree cells k → (o : Outcome) → Change cells k reads o → AreSoundCells (put_all cells o.writes)
change-sound cells k reads sound free _ (no_change reply) = sound
change-sound cells k reads sound free _ (makes mode d name hangs empty) =
    sound-files (put_all cells (made k None d name).writes) k (sound-made cells sound k free d name hangs empty) (dir_mode k mode) (mode-made cells sound k free d name hangs empty mode)
change-sound cells k reads sound free _ (removes d name i is bare) = sound-removed cells sound d name i is bare
change-sound cells k reads sound free _ (creates_file flags d name hangs empty) =
    sound-files (put_all cells (created_writes cells sound k free flags d name hangs empty)) k (sound-created cells sound k free flags d name hangs empty) (file_mode k flags.mode) (mode-created cells sound k free flags d name hangs empty flags.mode)
change-sound cells k reads sound free _ (creates_link target d name hangs empty) = sound-linking cells sound k free target d name hangs empty
change-sound cells k reads sound free _ (links_file {form} i d name named hangs empty) = sound-linked cells sound form i d name named hangs empty
change-sound cells k reads sound free _ (unlinks d name i is) = sound-unlinked cells sound d name i is
change-sound cells k reads sound free _ (moves_file d name i e other is hangs empty) = sound-file_moved cells sound d name i e other is hangs empty
change-sound cells k reads sound free _ (replaces_file d name i e other j is was apart) = sound-file_replaced cells sound d name i e other j is was apart
change-sound cells k reads sound free _ (moves_dir d name i e other is hangs clear empty) = sound-dir_moved cells sound d name i e other is clear empty
change-sound cells k reads sound free _ (replaces_dir d name i e other j is was apart clear bare) = sound-dir_replaced cells sound d name i e other j is was apart clear bare
change-sound cells k reads sound free _ (on_files reply ws each apart acts lists) = sound-files cells k sound ws each

pub soundness : SoundnessLaw
soundness cells k call sound free = change-sound cells k _ sound free _ (call-changes cells sound k call)

-- And each other number stays free.
change-free : (cells : Cells) (k : ℕ) (reads : Bool) → AreSoundCells cells → IsFree cells k → (o : Outcome) → Change cells k reads o → (j : ℕ) → IsFree cells j → j ≢ k → IsFree (put_all cells o.writes) j
change-free cells k reads sound free _ (no_change reply) j too other = too
change-free cells k reads sound free _ (makes mode d name hangs empty) j too other =
    free-files (put_all cells (made k None d name).writes) k (dir_mode k mode) (mode-made cells sound k free d name hangs empty mode) j (free-made cells sound k free d name hangs empty j too other) other
change-free cells k reads sound free _ (removes d name i is bare) j too other = free-removed cells sound d name i is bare j too
change-free cells k reads sound free _ (creates_file flags d name hangs empty) j too other =
    free-files (put_all cells (created_writes cells sound k free flags d name hangs empty)) k (file_mode k flags.mode) (mode-created cells sound k free flags d name hangs empty flags.mode) j
    (free-created cells sound k free flags d name hangs empty j too other) other
change-free cells k reads sound free _ (creates_link target d name hangs empty) j too other = free-linking cells sound k free target d name hangs empty j too other
change-free cells k reads sound free _ (links_file {form} i d name named hangs empty) j too other = free-linked cells sound form i d name named hangs empty j too
change-free cells k reads sound free _ (unlinks d name i is) j too other = free-unlinked cells sound d name i is j too
change-free cells k reads sound free _ (moves_file d name i e new is hangs empty) j too other = free-file_moved cells sound d name i e new is hangs empty j too
change-free cells k reads sound free _ (replaces_file d name i e new n is was apart) j too other = free-file_replaced cells sound d name i e new n is was apart j too
change-free cells k reads sound free _ (moves_dir d name i e new is hangs clear empty) j too other = free-dir_moved cells sound d name i e new is clear empty j too
change-free cells k reads sound free _ (replaces_dir d name i e new n is was apart clear bare) j too other = free-dir_replaced cells sound d name i e new n is was apart clear bare j too
change-free cells k reads sound free _ (on_files reply ws each apart acts lists) j too other = free-files cells k ws each j too other

pub freshness : FreshnessLaw
freshness cells k call sound free j too other = change-free cells k _ sound free _ (call-changes cells sound k call) j too other
