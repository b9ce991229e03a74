-- A call on the plain tree is the call on the stored cells.
use Rattle.std.proofs.Common.{◌≡◌, ◌≢◌, ℕ, suc, Bool, true, false, cond, ◌||◌, List, [], ◌∷◌, Option, Some, None, is_some, eqb-true, eq-eqb, ne_eqb, refl, sym, ap, subst, ◌∙◌}
use Rattle.std.specs.Prelude.{T, ◌==◌, ◌-◌, nat_lt}
use Rattle.std.proofs.lemmas.Bool.{false≢true}
use Rattle.std.proofs.lemmas.Map.Lookups.{exact_unsigned}
use Rattle.std.proofs.lemmas.Option.{same_Some}
use Rattle.std.specs.Ordering.{nat_cmp}
use Rattle.std.specs.Cmp.{nat_cmp_total, unsigned_tied}
use Rattle.std.specs.List.{list_any}
use Rattle.std.specs.Option.{option_map_or}
use Rattle.std.specs.FinMap.{get, contains_key, insert, entries, entries_sorted, is_sorted, get-insert, get-retain_keys, get-from_entries, from_sorted, get-from_sorted, entries-from_sorted, same_map}
use Rattle.std.specs.FinMap.Entries.{below_all}
use Rattle.ft_cells.specs.Entries.{entry_at}
use Rattle.ft_cells.specs.declared.node.Node.TheVariants.{Dir as DirNode, File as FileNode}
use Rattle.ft_cells.specs.declared.open_file.OpenFile.{OpenFile}
use Rattle.ft_cells.specs.Cells.{Cells, Contents, untimed, no_contents, parent_of, links_of, file_attributes_of, contents_of, open_of, put_links, put_contents, is_of_file, is_open, has_file, HasDirPlace}
use Rattle.ft_cells.specs.declared.attributes.Attributes.{Attributes}
use Rattle.ft_cells.specs.declared.cell.Cell.{Cell}
use Rattle.ft_cells.specs.declared.node.Form.TheVariants.{Regular, Link as LinkForm}
use Rattle.ft_cells.specs.Plain.{PlainFile, PlainFiles, PlainTree, view_in}
use Rattle.ft_tree.specs.Held.{Holds, set_cell}
use Rattle.ft_tree.specs.Tidy.{opens_from, tidy}
use Rattle.ft_tree.specs.Sound.{IsNoDir, AreSoundCells, IsFree}
use Rattle.ft_posix.specs.declared.call.OpenFlags.{OpenFlags}
use Rattle.ft_posix.specs.Exec.{set_plain, put_plain, put_all_plain, is_named_in, without_dead_files}
use Rattle.ft_cells.specs.Nodes.{number_of}
use Rattle.ft_posix.specs.Symlinks.{makes_link}
use Rattle.ft_posix.specs.Files.{creates, description}
use Rattle.ft_posix.specs.Attributes.{file_mode}
use Rattle.ft_posix.specs.Laws.{TidyingLaw}
use Rattle.ft_posix.specs.Links.{linked, unlinked, renamed, with_parent}
use Rattle.ft_cells.specs.declared.cell.Cell.TheVariants as cell
use Rattle.ft_posix.specs.Outcomes.{Write, sets, Outcome}
use Rattle.ft_posix.specs.Stored.{put, put_all, after, outcome}
use Rattle.ft_posix.proofs.Changes.{FileWrite, AreFileWrites, sets_contents, sets_file_attributes, sets_dir_attributes, closes, sets_open, Change, no_change, makes, removes, creates_file, creates_link, links_file, unlinks, moves_file, replaces_file, moves_dir, replaces_dir, on_files, made, removed, call-changes}
use Rattle.ft_cells.proofs.Conjunction.{first, second, both}
use Rattle.ft_posix.proofs.Counting.{any-count}
use Rattle.ft_posix.proofs.FileWrites.{parent-files, links-files, named-files}
use Rattle.ft_posix.proofs.Kept.{soundness}
use Rattle.ft_posix.proofs.Left.{value-other, above-not_root, other_than}
use Rattle.ft_posix.proofs.Named.{Named, by_entry, by_open}
use Rattle.ft_posix.proofs.Opens.{named-open}
use Rattle.ft_posix.proofs.Parents.{contains-no_dir, no_dir-contains}
use Rattle.ft_posix.proofs.Places.{dir_place-put_all}
use Rattle.ft_posix.proofs.PlainPuts.{AreAlike, tidy-put_all}
use Rattle.ft_posix.proofs.PlainSound.{links-no_dir, dir-no_file}
use Rattle.ft_posix.proofs.Puts.{with_value, parent_after, links_after, open_after, file_attributes-put_links, contents-put_links, file_attributes-put_contents, contents-put_contents, file_attributes-put_file_attributes, contents-put_file_attributes, parent-put_all, links-put_all, open-put_all}
use Rattle.ft_posix.proofs.Rehung.{kept-hung, no_dir-dir_moved, no_dir-dir_replaced}
use Rattle.ft_posix.proofs.Shown.{named-there, outcome-shown}
use Rattle.ft_posix.proofs.There.{change-stays}
use Rattle.ft_posix.proofs.Tidied.{file_at, get-files, contains-parent, same_plain}
use Rattle.ft_posix.proofs.Free.{no_parent, no_links, no_file, no_file_attributes}

-- Which files the descriptions of the plain tree name.

-- descriptors are in order without the empty places too
below_opened : (f : ℕ) (es : List (ℕ × Option OpenFile)) → T (below_all nat_cmp f es) → T (below_all nat_cmp f (opens_from es))
below_opened f [] h = tt
below_opened f ((g, None) ∷ es) h = below_opened f es (second _ _ h)
below_opened f ((g, Some o) ∷ es) h = both _ _ (first _ _ h) (below_opened f es (second _ _ h))

sorted_opened : (es : List (ℕ × Option OpenFile)) → T (is_sorted nat_cmp es) → T (is_sorted nat_cmp (opens_from es))
sorted_opened [] h = tt
sorted_opened ((f, None) ∷ es) h = sorted_opened es (second _ _ h)
sorted_opened ((f, Some o) ∷ es) h = both _ _ (below_opened f es (first _ _ h)) (sorted_opened es (second _ _ h))

-- so they stand in the plain tree as they stand in the cells
entries-opens : (cells : Cells) → entries (tidy cells).opens ≡ opens_from (entries cells.opens)
entries-opens cells =
    let es = opens_from (entries cells.opens) in
    let up = sorted_opened (entries cells.opens) (entries_sorted cells.opens) in
    let same : (tidy cells).opens ≡ from_sorted {R = nat_cmp} es = same_map nat_cmp_total exact_unsigned _ _ (λ f. get-from_entries nat_cmp_total es f ∙ sym (get-from_sorted nat_cmp es f up)) in
    ap entries same ∙ entries-from_sorted nat_cmp es up

any-opened : (i : ℕ) (es : List (ℕ × Option OpenFile)) → list_any (λ (e : ℕ × OpenFile). e.1.file == i) (opens_from es) ≡ list_any (is_of_file i) es
any-opened i [] = refl
any-opened i ((f, None) ∷ es) = any-opened i es
any-opened i ((f, Some o) ∷ es) = ap (λ b. (o.file == i) || b) (any-opened i es)

any-open : (cells : Cells) (i : ℕ) → list_any (λ (e : ℕ × OpenFile). e.1.file == i) (entries (tidy cells).opens) ≡ is_open cells.opens i
any-open cells i = ap (list_any (λ (e : ℕ × OpenFile). e.1.file == i)) (entries-opens cells) ∙ any-opened i (entries cells.opens)

-- a file of the cells is named in a plain tree with their edges and descriptions where it is there
named-alike : (cells : Cells) → AreSoundCells cells → (p : PlainTree) → AreAlike (tidy cells) p → (i : ℕ) → contains_key (tidy cells).dirs i ≡ false → is_named_in p i ≡ has_file cells i
named-alike cells sound p alike i none =
    (λ x. list_any (λ e. number_of e.1 == i) (entries (sym alike.edges x)) || list_any (λ (e : ℕ × OpenFile). e.1.file == i) (entries (sym alike.opens x)))
    ∙ (λ x. (any-count (tidy cells).edges i ∙ ap (nat_lt 0) (sym (links-no_dir cells sound i none))) x || any-open cells i x)

-- Files.

-- The plain tree has a file as the cells have it.
abbrev HasFile : Cells → PlainTree → ℕ → Type 0
HasFile cells p i = get p.files i ≡ Some (file_at cells i)

-- It has the files of the cells, and perhaps some that nothing names; a directory is none of them.
abbrev HasFiles : Cells → PlainTree → Type 0
HasFiles cells p = (i : ℕ) → (contains_key (tidy cells).dirs i ≡ true → get p.files i ≡ None) × (has_file cells i ≡ true → HasFile cells p i)

-- nothing, whatever the test
none-cond : {A : Type 0} (b : Bool) → ◌≡◌ {A = Option A} (cond b None None) None
none-cond true = refl
none-cond false = refl

module _ (cells : Cells) (sound : AreSoundCells cells) (p : PlainTree) (alike : AreAlike (tidy cells) p) (has : HasFiles cells p) where
  -- so, without those, it is the plain tree of the cells
  files-left : (i : ℕ) → get (without_dead_files p).files i ≡ get (tidy cells).files i
  files-left i = get-retain_keys p.files (is_named_in p) i (λ x tie. ap (is_named_in p) (sym (exact_unsigned i x tie))) ∙ by_dir (contains_key (tidy cells).dirs i) refl ∙ sym (get-files cells sound i)
    where
      by_name : (b : Bool) → has_file cells i ≡ b → cond b (get p.files i) None ≡ cond b (Some (file_at cells i)) None
      by_name true is = (has i).1 is
      by_name false is = refl

      by_dir : (b : Bool) → contains_key (tidy cells).dirs i ≡ b → cond (is_named_in p i) (get p.files i) None ≡ cond (has_file cells i) (Some (file_at cells i)) None
      by_dir true is = ap (λ o. cond (is_named_in p i) o None) ((has i).0 is) ∙ none-cond (is_named_in p i) ∙ sym (ap (λ b. cond b (Some (file_at cells i)) None) (dir-no_file cells sound i is))
      by_dir false is = ap (λ b. cond b (get p.files i) None) (named-alike cells sound p alike i is) ∙ by_name (has_file cells i) refl

  tidy-left : without_dead_files p ≡ tidy cells
  tidy-left =
      same_plain (without_dead_files p) (tidy cells) (sym alike.limits) (λ d name. ap (λ m. get m (entry_at d name)) (sym alike.edges)) (λ d. ap (λ s. get s d) (sym alike.dirs)) files-left (λ f. ap (λ m. get m f) (sym alike.opens))

-- the plain tree of sound cells has their files
own-files : (cells : Cells) → AreSoundCells cells → HasFiles cells (tidy cells)
own-files cells sound i =
    (λ dir. get-files cells sound i ∙ ap (λ b. cond b (Some (file_at cells i)) None) (dir-no_file cells sound i dir), λ there. get-files cells sound i ∙ ap (λ b. cond b (Some (file_at cells i)) None) there)

-- Files after writes.

-- the plain files after one was set
get-file_set : (m : PlainFiles) (j : ℕ) (f : PlainFile) (i : ℕ) → get (insert m j f) i ≡ cond (i == j) (Some f) (get m i)
get-file_set m j f i = get-insert nat_cmp_total m j f i ∙ ap (λ b. cond b (Some f) (get m i)) (unsigned_tied i j)

-- a file that the plain tree has as the cells have it is so after a write
file-step : (cells : Cells) (p : PlainTree) (c : Cell) (to : Holds c) (i : ℕ) → HasFile cells p i → HasFile (set_cell cells c to) (set_plain p c to) i
file-step cells p (cell.Entry entry) to i h = h
file-step cells p (cell.Names d) to i h = h
file-step cells p (cell.Parent d) to i h = h
file-step cells p (cell.Links j) to i h = h ∙ (λ x. Some (record { attributes = sym (file_attributes-put_links cells j to i) x; contents = sym (contents-put_links cells j to i) x }))
file-step cells p (cell.Bytes j) to i h =
    get-file_set p.files j (record { attributes = view_in p (cell.FileAttributes j); contents = to }) i ∙ by_number (i == j) refl
    ∙ (λ x. Some (record { attributes = sym (file_attributes-put_contents cells j to i) x; contents = sym (contents-put_contents cells j to i) x }))
  where
    by_number : (b : Bool) → (i == j) ≡ b → cond b (Some (record { attributes = view_in p (cell.FileAttributes j); contents = to })) (get p.files i) ≡ Some (record { attributes = file_attributes_of cells i; contents = cond b to (contents_of cells i) })
    by_number true at = λ x. Some (record { attributes = (ap (λ n. view_in p (cell.FileAttributes n)) (sym (eqb-true i j at)) ∙ ap (λ o. option_map_or (λ (f : PlainFile). f.attributes) o None) h) x; contents = to })
    by_number false at = h
file-step cells p (cell.Fd f) to i h = h
file-step cells p (cell.DirAttributes d) to i h = h
file-step cells p (cell.FileAttributes j) to i h =
    get-file_set p.files j (record { attributes = to; contents = view_in p (cell.Bytes j) }) i ∙ by_number (i == j) refl
    ∙ (λ x. Some (record { attributes = sym (file_attributes-put_file_attributes cells j to i) x; contents = sym (contents-put_file_attributes cells j to i) x }))
  where
    by_number : (b : Bool) → (i == j) ≡ b → cond b (Some (record { attributes = to; contents = view_in p (cell.Bytes j) })) (get p.files i) ≡ Some (record { attributes = cond b to (file_attributes_of cells i); contents = contents_of cells i })
    by_number true at = λ x. Some (record { attributes = to; contents = (ap (λ n. view_in p (cell.Bytes n)) (sym (eqb-true i j at)) ∙ ap (λ o. option_map_or (λ (f : PlainFile). f.contents) o no_contents) h) x })
    by_number false at = h

-- and after all of a list
file-steps : (ws : List Write) (cells : Cells) (p : PlainTree) (i : ℕ) → HasFile cells p i → HasFile (put_all cells ws) (put_all_plain p ws) i
file-steps [] cells p i h = h
file-steps (w ∷ ws) cells p i h = file-steps ws (put cells w) (put_plain p w) i (file-step cells p w.cell w.value i h)

-- what is no file is none after another one was set
none-set : (m : PlainFiles) (j : ℕ) (f : PlainFile) (i : ℕ) → i ≢ j → get m i ≡ None → get (insert m j f) i ≡ None
none-set m j f i other none = get-file_set m j f i ∙ ap (λ b. cond b (Some f) (get m i)) (ne_eqb i j other) ∙ none

-- nothing but attributes is set by a mode that a file is given
kept-mode : (k : ℕ) (mode : Option ℕ) {A : Type 0} (read : List Write → A) → ((to : Option Attributes) → read (sets (cell.FileAttributes k) to ∷ []) ≡ read []) → read (file_mode k mode) ≡ read []
kept-mode k None read same = refl
kept-mode k (Some mode) read same = same _

module _ (cells : Cells) (sound : AreSoundCells cells) where
  -- a file that has links is there
  links-there : (i links : ℕ) → links ≡ links_of cells i → nat_lt 0 links ≡ true → has_file cells i ≡ true
  links-there i links same is = ap (λ b. b || is_open cells.opens i) (sym (ap (nat_lt 0) same) ∙ is)

  -- a file was there, if it was where it has links, and no description names it but those of files
  -- that were there
  there-before : (new : Cells) (i : ℕ) → (nat_lt 0 (links_of new i) ≡ true → has_file cells i ≡ true) → ((f : ℕ) (o : OpenFile) → open_of new f ≡ Some o → o.file ≡ i → has_file cells i ≡ true) → has_file new i ≡ true → has_file cells i ≡ true
  there-before new i linked each there = by_links (nat_lt 0 (links_of new i)) refl
    where
      by_links : (b : Bool) → nat_lt 0 (links_of new i) ≡ b → has_file cells i ≡ true
      by_links true is = linked is
      by_links false is = let x = named-open new i (sym (ap (λ b. b || is_open new.opens i) is) ∙ there) in each x.0 x.1 x.2 x.3

  -- a file that a description names is there
  open-there : (f : ℕ) (o : OpenFile) → open_of cells f ≡ Some o → has_file cells o.file ≡ true
  open-there f o is = named-there cells sound o.file (by_open f o is)

  -- where no parent was set, a directory was one before
  dir-before : (new : Cells) → HasDirPlace new 1 → parent_of new ≡ parent_of cells → (i : ℕ) → contains_key (tidy new).dirs i ≡ true → contains_key (tidy cells).dirs i ≡ true
  dir-before new root same i dir = contains-parent cells sound.root_is i ∙ ap (λ f. (i == 1) || is_some (f i)) (sym same) ∙ sym (contains-parent new root i) ∙ dir

  -- a directory is no file
  dir-unstored : (i : ℕ) → contains_key (tidy cells).dirs i ≡ true → get (tidy cells).files i ≡ None
  dir-unstored i dir = (own-files cells sound i).0 dir

  -- A file k that is made.
  module _ (k : ℕ) (free : IsFree cells k) where
    -- it was not there
    not_yet : has_file cells k ≡ false
    not_yet = by_open (is_open cells.opens k) refl
      where
        by_open : (b : Bool) → is_open cells.opens k ≡ b → has_file cells k ≡ false
        by_open true is = let x = named-open cells k is in absurd (no_file free x.0 x.1 x.2 x.3)
        by_open false is = λ x. nat_lt 0 (no_links free x) || is x

    -- so the plain tree has no attributes of it
    none_yet : view_in (tidy cells) (cell.FileAttributes k) ≡ None
    none_yet = ap (λ o. option_map_or (λ (f : PlainFile). f.attributes) o None) (get-files cells sound k ∙ ap (λ b. cond b (Some (file_at cells k)) None) not_yet)

    -- a directory has another number
    dir-other : (i : ℕ) → contains_key (tidy cells).dirs i ≡ true → i ≢ k
    dir-other i dir same = false≢true (sym (contains-no_dir cells sound k (above-not_root k free.above_root, no_parent free)) ∙ ap (contains_key (tidy cells).dirs) (sym same) ∙ dir)

    -- it gets its links and its contents, and then whatever sets no other file
    module _ (contents : Contents) (more : List Write) (own : (p : PlainTree) (i : ℕ) → i ≢ k → get p.files i ≡ None → get (put_all_plain p more).files i ≡ None) where
      abbrev making : List Write
      making = sets (cell.Links k) 1 ∷ sets (cell.Bytes k) contents ∷ more

      -- it is there as it is made
      own_made : HasFile (put_all cells making) (put_all_plain (tidy cells) making) k
      own_made =
          let with_links = put_links cells k 1 in
          let f : PlainFile = record { attributes = view_in (tidy cells) (cell.FileAttributes k); contents = contents } in
          let attributes = none_yet ∙ sym (file_attributes-put_contents with_links k contents k ∙ file_attributes-put_links cells k 1 k ∙ no_file_attributes free) in
          let held_now = sym (contents-put_contents with_links k contents k ∙ ap (λ b. cond b contents (contents_of with_links k)) (eq-eqb k k refl)) in
          file-steps more (put_contents with_links k contents) (record (tidy cells) { files = insert (tidy cells).files k f }) k
          (get-file_set (tidy cells).files k f k ∙ ap (λ b. cond b (Some f) (get (tidy cells).files k)) (eq-eqb k k refl) ∙ (λ x. Some (record { attributes = attributes x; contents = held_now x })))

      module _ (parents : parent_of (put_all cells making) ≡ parent_of cells) (was_there : (i : ℕ) → i ≢ k → has_file (put_all cells making) i ≡ true → has_file cells i ≡ true) where
        making-files : HasFiles (put_all cells making) (put_all_plain (tidy cells) making)
        making-files i = (
          λ dir.
              let was = dir-before (put_all cells making) (dir_place-put_all making cells 1 sound.root_is) parents i dir in
              let other = dir-other i was in
              let f : PlainFile = record { attributes = view_in (tidy cells) (cell.FileAttributes k); contents = contents } in
              own (record (tidy cells) { files = insert (tidy cells).files k f }) i other (none-set (tidy cells).files k f i other (dir-unstored i was)),
          λ there. by_number (i == k) refl there,
        )
          where
            by_number : (b : Bool) → (i == k) ≡ b → has_file (put_all cells making) i ≡ true → HasFile (put_all cells making) (put_all_plain (tidy cells) making) i
            by_number true at there = subst (HasFile (put_all cells making) (put_all_plain (tidy cells) making)) (sym (eqb-true i k at)) own_made
            by_number false at there = file-steps making cells (tidy cells) i ((own-files cells sound i).1 (was_there i (other_than i k at) there))

    -- A regular file, with a description.
    module _ (flags : OpenFlags) (d : ℕ) (name : List ℕ) where
      abbrev created : List Write
      created = (creates k flags (entry_at d name)).writes

      was_there_created : (i : ℕ) → i ≢ k → has_file (put_all cells created) i ≡ true → has_file cells i ≡ true
      was_there_created i other there =
          let links = links-put_all created cells ∙ kept-mode k flags.mode (links_after (with_value (links_of cells) k 1)) (λ to. refl) in
          let opens = open-put_all created cells ∙ kept-mode k flags.mode (open_after (with_value (open_of cells) k (Some (description flags k)))) (λ to. refl) in
          there-before (put_all cells created) i (links-there i _ (ap (λ f. f i) links ∙ value-other (links_of cells) k 1 i other))
          (λ f o is file. by_number f o file (f == k) (sym (ap (λ g. g f) opens) ∙ is)) there
        where
          by_number : (f : ℕ) (o : OpenFile) → o.file ≡ i → (b : Bool) → cond b (Some (description flags k)) (open_of cells f) ≡ Some o → has_file cells i ≡ true
          by_number f o file true is = absurd (other (sym file ∙ ap (λ x. x.file) (sym (same_Some (description flags k) o is))))
          by_number f o file false is = subst (λ j. has_file cells j ≡ true) file (open-there f o is)

      mode-own : (p : PlainTree) (i : ℕ) → i ≢ k → get p.files i ≡ None → (mode : Option ℕ) → get (put_all_plain p (file_mode k mode)).files i ≡ None
      mode-own p i other none None = none
      mode-own p i other none (Some mode) = none-set p.files k _ i other none

      created-files : HasFiles (put_all cells created) (put_all_plain (tidy cells) created)
      created-files =
          making-files no_contents (sets (cell.Fd k) (Some (description flags k)) ∷ sets (cell.Entry (entry_at d name)) (Some (FileNode Regular k)) ∷ file_mode k flags.mode)
          (λ p i other none. mode-own (put_plain (put_plain p (sets (cell.Fd k) (Some (description flags k)))) (sets (cell.Entry (entry_at d name)) (Some (FileNode Regular k)))) i other none flags.mode)
          (parent-put_all created cells ∙ kept-mode k flags.mode (parent_after (parent_of cells)) (λ to. refl)) was_there_created

    -- A symbolic link.
    module _ (target : List ℕ) (d : ℕ) (name : List ℕ) where
      abbrev linking : List Write
      linking = (makes_link k target (entry_at d name)).writes

      was_there_linked : (i : ℕ) → i ≢ k → has_file (put_all cells linking) i ≡ true → has_file cells i ≡ true
      was_there_linked i other there =
          there-before (put_all cells linking) i (links-there i _ (ap (λ f. f i) (links-put_all linking cells) ∙ value-other (links_of cells) k 1 i other))
          (λ f o is file. subst (λ j. has_file cells j ≡ true) file (open-there f o (sym (ap (λ g. g f) (open-put_all linking cells)) ∙ is))) there

      linking-files : HasFiles (put_all cells linking) (put_all_plain (tidy cells) linking)
      linking-files =
          making-files (untimed target) (sets (cell.Entry (entry_at d name)) (Some (FileNode LinkForm k)) ∷ []) (λ p i other none. none) (parent-put_all linking cells) was_there_linked

  -- Files whose contents and attributes are set, attributes of directories, and descriptions.
  module _ (k : ℕ) where
    -- a number that is no file stays none
    still_none : (ws : List Write) → AreFileWrites cells k ws → (p : PlainTree) (i : ℕ) → has_file cells i ≡ false → get p.files i ≡ None → get (put_all_plain p ws).files i ≡ None
    still_none [] h p i none was = was
    still_none (w ∷ ws) h p i none was = still_none ws h.1 (put_plain p w) i none (one w h.0)
      where
        apart : (j : ℕ) → Named cells j → i ≢ j
        apart j named same = false≢true (sym none ∙ ap (has_file cells) same ∙ named-there cells sound j named)

        one : (w : Write) → FileWrite cells k w → get (put_plain p w).files i ≡ None
        one _ (sets_contents j contents named) = none-set p.files j _ i (apart j named) was
        one _ (sets_file_attributes j to named) = none-set p.files j _ i (apart j named) was
        one _ (sets_dir_attributes d to hangs) = was
        one _ (closes f o is) = was
        one _ (sets_open f o named at) = was

    written-files : (ws : List Write) → AreFileWrites cells k ws → HasFiles (put_all cells ws) (put_all_plain (tidy cells) ws)
    written-files ws h i =
        let was_open = named-files cells k (λ j. has_file cells j ≡ true) (named-there cells sound) ws h (open_of cells) open-there in (
          λ dir. let was_dir = dir-before (put_all cells ws) (dir_place-put_all ws cells 1 sound.root_is) (parent-put_all ws cells ∙ parent-files cells k ws h (parent_of cells)) i dir in
              still_none ws h (tidy cells) i (dir-no_file cells sound i was_dir) (dir-unstored i was_dir),
          λ there. file-steps ws cells (tidy cells) i ((own-files cells sound i).1
              (there-before (put_all cells ws) i (links-there i _ (ap (λ f. f i) (links-put_all ws cells ∙ links-files cells k ws h (links_of cells))))
              (λ f o is file. subst (λ j. has_file cells j ≡ true) file (was_open f o (sym (ap (λ g. g f) (open-put_all ws cells)) ∙ is))) there)),
        )

  -- Entries, parents, attributes of directories and links that are set: no file and no
  -- description, no directory where none was, and the links of files that were there.
  module _ (ws : List Write) (new : AreSoundCells (put_all cells ws)) (files : (put_all_plain (tidy cells) ws).files ≡ (tidy cells).files) (opens : open_after (open_of cells) ws ≡ open_of cells)
      (no_dirs : (i : ℕ) → IsNoDir (parent_of cells) i → IsNoDir (parent_of (put_all cells ws)) i) (linked : (i : ℕ) → nat_lt 0 (links_after (links_of cells) ws i) ≡ true → has_file cells i ≡ true) where
    -- a directory was one before
    dir_was : (i : ℕ) → contains_key (tidy (put_all cells ws)).dirs i ≡ true → contains_key (tidy cells).dirs i ≡ true
    dir_was i dir = by_dir (contains_key (tidy cells).dirs i) refl
      where
        by_dir : (b : Bool) → contains_key (tidy cells).dirs i ≡ b → contains_key (tidy cells).dirs i ≡ true
        by_dir true is = is
        by_dir false is = absurd (false≢true (sym (contains-no_dir (put_all cells ws) new i (no_dirs i (no_dir-contains cells sound i is))) ∙ dir))

    -- a file was there before
    file_was : (i : ℕ) → has_file (put_all cells ws) i ≡ true → has_file cells i ≡ true
    file_was i there =
        there-before (put_all cells ws) i (λ h. linked i (sym (ap (λ f. nat_lt 0 (f i)) (links-put_all ws cells)) ∙ h))
        (λ f o is file. subst (λ j. has_file cells j ≡ true) file (open-there f o (sym (ap (λ g. g f) (open-put_all ws cells ∙ opens)) ∙ is))) there

    kept-files : HasFiles (put_all cells ws) (put_all_plain (tidy cells) ws)
    kept-files i = (
      λ dir. ap (λ m. get m i) files ∙ dir-unstored i (dir_was i dir),
      λ there. file-steps ws cells (tidy cells) i ((own-files cells sound i).1 (file_was i there)),
    )

  -- where no parent is set, what was no directory is none
  same-no_dirs : (ws : List Write) → parent_after (parent_of cells) ws ≡ parent_of cells → (i : ℕ) → IsNoDir (parent_of cells) i → IsNoDir (parent_of (put_all cells ws)) i
  same-no_dirs ws same i h = (h.0, ap (λ f. f i) (parent-put_all ws cells ∙ same) ∙ h.1)

  -- the links of a file that is named are set
  named-linked : (i links : ℕ) → Named cells i → (n : ℕ) → nat_lt 0 (with_value (links_of cells) i links n) ≡ true → has_file cells n ≡ true
  named-linked i links named n = by_number (n == i) refl
    where
      by_number : (b : Bool) → (n == i) ≡ b → nat_lt 0 (cond b links (links_of cells n)) ≡ true → has_file cells n ≡ true
      by_number true at h = subst (λ j. has_file cells j ≡ true) (sym (eqb-true n i at)) (named-there cells sound i named)
      by_number false at h = links-there n _ refl h

-- After each change the plain tree has the files of the cells.
change-files : (cells : Cells) → AreSoundCells cells → (k : ℕ) → IsFree cells k → (reads : Bool) (o : Outcome) → AreSoundCells (put_all cells o.writes) → Change cells k reads o → HasFiles (put_all cells o.writes) (put_all_plain (tidy cells) o.writes)
change-files cells sound k free reads _ new (no_change reply) = own-files cells sound
change-files cells sound k free reads _ new (makes mode d name hangs empty) = by_mode mode new
  where
    by_mode : (mode : Option ℕ) → AreSoundCells (put_all cells (made k mode d name).writes) → HasFiles (put_all cells (made k mode d name).writes) (put_all_plain (tidy cells) (made k mode d name).writes)
    by_mode None sound_now = own-files (put_all cells (made k None d name).writes) sound_now
    by_mode (Some mode) sound_now = own-files (put_all cells (made k (Some mode) d name).writes) sound_now
change-files cells sound k free reads _ new (removes d name i is bare) = own-files (put_all cells (removed d name i).writes) new
change-files cells sound k free reads _ new (creates_file flags d name hangs empty) = created-files cells sound k free flags d name
change-files cells sound k free reads _ new (creates_link target d name hangs empty) = linking-files cells sound k free target d name
change-files cells sound k free reads _ new (links_file {form} i d name named hangs empty) =
    let ws = (linked form i (entry_at d name) (links_of cells i)).writes in kept-files cells sound ws new refl refl (same-no_dirs cells sound ws refl) (named-linked cells sound i (suc (links_of cells i)) named)
change-files cells sound k free reads _ new (unlinks d name i is) =
    let ws = (unlinked (entry_at d name) i (links_of cells i)).writes in kept-files cells sound ws new refl refl (same-no_dirs cells sound ws refl) (named-linked cells sound i (links_of cells i - 1) (by_entry d name i is))
change-files cells sound k free reads _ new (moves_file d name {form} i e other is hangs empty) =
    let ws = (renamed (entry_at d name) (FileNode form i) (entry_at e other) []).writes in kept-files cells sound ws new refl refl (same-no_dirs cells sound ws refl) (λ n. links-there cells sound n _ refl)
change-files cells sound k free reads _ new (replaces_file d name {form} i e other j is was apart) =
    let ws = (renamed (entry_at d name) (FileNode form i) (entry_at e other) (sets (cell.Links j) (links_of cells j - 1) ∷ [])).writes in
    kept-files cells sound ws new refl refl (same-no_dirs cells sound ws refl) (named-linked cells sound j (links_of cells j - 1) (by_entry e other j was))
change-files cells sound k free reads _ new (moves_dir d name i e other is hangs clear empty) =
    let writes : List Write → List Write = λ more. (renamed (entry_at d name) (DirNode i) (entry_at e other) more).writes in
    kept-files cells sound (writes (with_parent i d e)) new (kept-hung i d e (λ more. (put_all_plain (tidy cells) (writes more)).files) refl)
    (kept-hung i d e (λ more. open_after (open_of cells) (writes more)) refl) (no_dir-dir_moved cells sound d name i e other is clear empty)
    (λ n. links-there cells sound n _ (ap (λ f. f n) (kept-hung i d e (λ more. links_after (links_of cells) (writes more)) refl)))
change-files cells sound k free reads _ new (replaces_dir d name i e other j is was apart clear bare) =
    let writes : List Write → List Write = λ more. (renamed (entry_at d name) (DirNode i) (entry_at e other) (sets (cell.DirAttributes j) None ∷ sets (cell.Parent j) None ∷ more)).writes in
    kept-files cells sound (writes (with_parent i d e)) new (kept-hung i d e (λ more. (put_all_plain (tidy cells) (writes more)).files) refl)
    (kept-hung i d e (λ more. open_after (open_of cells) (writes more)) refl) (no_dir-dir_replaced cells sound d name i e other j is was apart clear bare)
    (λ n. links-there cells sound n _ (ap (λ f. f n) (kept-hung i d e (λ more. links_after (links_of cells) (writes more)) refl)))
change-files cells sound k free reads _ new (on_files reply ws each apart acts lists) = written-files cells sound k ws each

pub tidying : TidyingLaw
tidying cells k call sound free =
    let ws = (outcome cells k call).writes in
    let new = soundness cells k call sound free in
    let change = call-changes cells sound k call in
    ap (λ (o : Outcome). (without_dead_files (put_all_plain (tidy cells) o.writes), o.reply)) (outcome-shown cells sound k call)
    ∙ ap (λ (p : PlainTree). (p, (outcome cells k call).reply))
    (tidy-left (after cells k call) new (put_all_plain (tidy cells) ws) (tidy-put_all ws cells sound (change-stays cells sound k _ _ change)) (change-files cells sound k free _ _ new change))
