-- The calls meet the laws of calls.
use Rattle.std.proofs.Common.{◌≡◌, ℕ, Bool, true, false, cond, not, ◌&&◌, List, [], ◌∷◌, map, ◌⊎◌, inl, inr, Option, Some, None, IsSome, unwrap_or, eqb-true, eq-eqb, refl, sym, ap, ap₂, subst, ◌∙◌}
use Rattle.std.proofs.lemmas.Bool.{false≢true, or_cases, or_left, or_right, and_parts, false_from_ne_true}
use Rattle.std.proofs.lemmas.Option.{none-some, same_Some}
use Rattle.std.specs.Cmp.{both_ways}
use Rattle.std.specs.FinMap.{get, contains_key, retain_keys, get-retain_keys}
use Rattle.std.proofs.lemmas.Map.Lookups.{exact_unsigned}
use Rattle.ft_cells.specs.declared.entry.Entry.{Entry as DirEntry}
use Rattle.ft_laws.specs.Lists.{In}
use Rattle.ft_laws.specs.Laws.{Lawful, Knows, TouchesFile, LeavesName, Hides, is_hidden}
use Rattle.ft_laws.specs.Effects.{Access as PlaceAccess, Write as PlaceWrite, SetsCells, EffectLaws, is_written, write_all, touch, change, calls_of}
use Rattle.ft_laws.specs.Settled.{AreSet}
use Rattle.ft_laws.specs.Runs.{Exchange, Deletion, MayGoFirst, MayBeSorted}
use Rattle.ft_laws.specs.Hiding.{RunAlike, StaysHidden, HidesMore, NotOwn}
use Rattle.ft_laws.specs.Tidying.{TidyingLaw}
use Rattle.ft_laws.proofs.Tests.{by_test}
use Rattle.ft_laws.proofs.Lists.{Each-at, Each-from}
use Rattle.ft_laws.proofs.Writing.{written_all}
use Rattle.ft_laws.proofs.Effects.{effects_lawful}
use Rattle.ft_laws.proofs.Settled.{settled_lawful}
use Rattle.ft_laws.proofs.Exchanging as exchanging
use Rattle.ft_laws.proofs.Deleting as deleting
use Rattle.ft_laws.proofs.Hiding as hiding
use Rattle.ft_laws.proofs.Forgetting as forgetting
use Rattle.ft_cells.specs.Entries.{entry_at}
use Rattle.ft_cells.specs.declared.node.Node.{Node}
use Rattle.ft_cells.specs.declared.node.Form.{Form}
use Rattle.ft_cells.specs.declared.node.Node.TheVariants.{Dir as DirNode, File as FileNode}
use Rattle.ft_cells.specs.declared.cell.Cell.{Cell}
use Rattle.ft_cells.specs.declared.cell.Cell.TheVariants.{Entry, Names, Parent, Links, Bytes, Fd, DirAttributes, FileAttributes}
use Rattle.ft_cells.specs.declared.open_file.OpenFile.{OpenFile}
use Rattle.ft_cells.specs.CellOrder.{cell_number, same_cell, overlap, same_cell-refl, same_cell-is}
use Rattle.ft_cells.specs.Nodes.{number_of}
use Rattle.ft_cells.specs.Cells.{Cells, FileCells, no_contents, no_file, file_of as file_cells, directory_count, entry_of, links_of, file_attributes_of, contents_of, open_of}
use Rattle.ft_cells.specs.Limits.{default_limits}
use Rattle.ft_cells.specs.declared.limits.TreeLimits.{TreeLimits}
use Rattle.ft_cells.specs.Plain.{view_in, links_in}
use Rattle.ft_tree.specs.Tidy.{tidy}
use Rattle.ft_tree.specs.Views.{view_of}
use Rattle.ft_tree.specs.Sound.{AreSoundCells, IsFree, SameValues}
use Rattle.ft_posix.specs.declared.call.Access.{Access}
use Rattle.ft_posix.specs.Outcomes.{Write}
use Rattle.ft_posix.specs.Stored.{put_all, outcome, after}
use Rattle.ft_posix.specs.Steps.{steps}
use Rattle.ft_posix.specs.Accesses.{written_cell, is_write, accesses_of}
use Rattle.ft_posix.specs.Laws.{SoundnessLaw, FreshnessLaw}
use Rattle.ft_posix.specs.RunLaws.{WritesLaw, writes_cell}
use Rattle.ft_tree.specs.Held.{Holds, held, blank, set_cell}
use Rattle.ft_posix.specs.Posix.{covers, Stamped, as_place, HasSoundValues, file_of, node_names, description_names, names_file, does, posix, posix_calls, limits_of}
use Rattle.ft_posix.proofs.Accessed.{in-any, any-in, in-map, map-in, looked-accessed, written-accessed, accessed-cases, accessed-written, access}
use Rattle.ft_posix.proofs.Puts.{limits-set}
use Rattle.ft_posix.proofs.Alike.{view-covered, agree-each, same_back, same_free, same_after, tree-values, looked, accesses-alike, does-alike, does-same}
use Rattle.ft_posix.proofs.Below.{StoredEnough, StepsAlike}
use Rattle.ft_posix.proofs.Upon.{Sees, sees_entry, sees_open, Upon, CallUpon, EachCallUpon}
use Rattle.ft_posix.proofs.Settable.{names-not_written}
use Rattle.ft_posix.proofs.Held.{cell_written, cell_kept}
use Rattle.ft_posix.proofs.Parents.{contains-under}
use Rattle.ft_posix.proofs.Counting.{count-none}
use Rattle.ft_posix.proofs.Tidied.{get-tidy}
use Rattle.ft_posix.proofs.Free.{made_free, no_contents_yet, no_dir_attributes, no_entry, no_file as names_no_file, no_file_attributes, no_links, no_open, no_parent}

-- Cells and places.

pub sets : SetsCells posix
sets = record { same_is = same_cell-is; cell_written = cell_written; cell_kept = cell_kept }

-- a place covers the cell that it is
pub covers-refl : (x : Cell) → covers x x ≡ true
covers-refl (Entry entry) = same_cell-refl (Entry entry)
covers-refl (Names d) = same_cell-refl (Names d)
covers-refl (Parent d) = same_cell-refl (Parent d)
covers-refl (Links i) = same_cell-refl (Links i)
covers-refl (Bytes i) = same_cell-refl (Bytes i)
covers-refl (Fd f) = same_cell-refl (Fd f)
covers-refl (DirAttributes d) = same_cell-refl (DirAttributes d)
covers-refl (FileAttributes i) = same_cell-refl (FileAttributes i)

-- p is the names of a directory, and x an entry of it
abbrev pub IsOfNames : Cell → Cell → Type 0
IsOfNames p x = (d : ℕ) × (name : List ℕ) × (p ≡ Names d) × (x ≡ Entry (entry_at d name))

-- what a place covers is the cell that it is, or an entry where it is the names of a directory
pub covers-cases : (p x : Cell) → covers p x ≡ true → (p ≡ x) ⊎ IsOfNames p x
covers-cases (Names d) (Entry entry) h = inr (d, entry.name, refl, ap (λ n. Entry (entry_at n entry.name)) (sym (eqb-true d entry.dir h)))
covers-cases p x h = inl (same_cell-is p x h)

-- a cell overlaps itself
overlap-refl : (x : Cell) → overlap x x ≡ true
overlap-refl (Entry entry) = same_cell-refl (Entry entry)
overlap-refl (Names d) = same_cell-refl (Names d)
overlap-refl (Parent d) = same_cell-refl (Parent d)
overlap-refl (Links i) = same_cell-refl (Links i)
overlap-refl (Bytes i) = same_cell-refl (Bytes i)
overlap-refl (Fd f) = same_cell-refl (Fd f)
overlap-refl (DirAttributes d) = same_cell-refl (DirAttributes d)
overlap-refl (FileAttributes i) = same_cell-refl (FileAttributes i)

-- places that cover a cell in common overlap
pub overlaps : (p q x : Cell) → covers p x ≡ true → covers q x ≡ true → overlap p q ≡ true
overlaps p q x h k = by_cover (covers-cases p x h) (covers-cases q x k)
  where
    by_cover : (p ≡ x) ⊎ IsOfNames p x → (q ≡ x) ⊎ IsOfNames q x → overlap p q ≡ true
    by_cover (inl a) (inl b) = ap₂ overlap a b ∙ overlap-refl x
    by_cover (inl a) (inr b) = ap₂ overlap (a ∙ b.3) b.2 ∙ eq-eqb b.0 b.0 refl
    by_cover (inr a) (inl b) = ap₂ overlap a.2 (b ∙ a.3) ∙ eq-eqb a.0 a.0 refl
    by_cover (inr a) (inr b) = ap₂ overlap a.2 (b.2 ∙ ap Names (ap cell_number (sym b.3 ∙ a.3))) ∙ overlap-refl (Names a.0)

-- overlapping is symmetric
turned : (p q : Cell) → overlap p q ≡ true → overlap q p ≡ true
turned (Entry entry) (Names e) h = eq-eqb e entry.dir (sym (eqb-true entry.dir e h))
turned (Names d) (Entry entry) h = eq-eqb entry.dir d (sym (eqb-true d entry.dir h))
turned p q h = subst (λ c. overlap c p ≡ true) (same_cell-is p q h) (overlap-refl p)

overlap_sym : (p q : Cell) → overlap p q ≡ overlap q p
overlap_sym p q = both_ways (overlap p q) (overlap q p) (turned p q) (turned q p)

-- What is written.

-- to write the cells is to put them
pub write-put : (ws : List Write) (s : Cells) → write_all posix s ws ≡ put_all s ws
write-put [] s = refl
write-put (w ∷ ws) s = write-put ws (set_cell s w.cell w.value)

-- the cells that are written are those of the writes
pub written-in : (ws : List Write) (x : Cell) → is_written posix ws x ≡ true → In x (map written_cell ws)
written-in [] x h = absurd (false≢true h)
written-in (w ∷ ws) x h = elim (or_cases (same_cell w.cell x) (is_written posix ws x) h) [
  | inl is ↦ inl (sym (same_cell-is w.cell x is))
  | inr more ↦ inr (written-in ws x more)
]

-- and each cell of a write is written
in-written : (ws : List Write) (x : Cell) → In x (map written_cell ws) → is_written posix ws x ≡ true
in-written [] x i = absurd i
in-written (w ∷ ws) x (inl is) = or_left (same_cell w.cell x) (is_written posix ws x) (subst (λ c. same_cell c x ≡ true) is (same_cell-refl x))
in-written (w ∷ ws) x (inr i) = or_right (same_cell w.cell x) (is_written posix ws x) (in-written ws x i)

-- What is touched.

-- a cell is touched where an access covers it
touched-in : (accesses : List Access) (x : Cell) → touch posix (map as_place accesses) x ≡ true → (a : Access) × In a accesses × (covers a.cell x ≡ true)
touched-in accesses x h =
    let found = any-in (λ (p : PlaceAccess Cell). covers p.place x) (map as_place accesses) h in
    let from = map-in as_place accesses found.0 found.1 in
    (from.0, from.1, ap (λ (p : PlaceAccess Cell). covers p.place x) (sym from.2) ∙ found.2)

-- and an access that covers it touches it
in-touched : (accesses : List Access) (a : Access) (x : Cell) → In a accesses → covers a.cell x ≡ true → touch posix (map as_place accesses) x ≡ true
in-touched accesses a x i h = in-any (λ (p : PlaceAccess Cell). covers p.place x) (as_place a) (map as_place accesses) (in-map as_place a accesses i) h

-- a cell is changed where an access that writes covers it
changed-in : (accesses : List Access) (x : Cell) → change posix (map as_place accesses) x ≡ true → (a : Access) × In a accesses × ((is_write a.mode && covers a.cell x) ≡ true)
changed-in accesses x h =
    let found = any-in (λ (p : PlaceAccess Cell). p.writes && covers p.place x) (map as_place accesses) h in
    let from = map-in as_place accesses found.0 found.1 in
    (from.0, from.1, ap (λ (p : PlaceAccess Cell). p.writes && covers p.place x) (sym from.2) ∙ found.2)

-- and an access that writes changes what it covers
in-changed : (accesses : List Access) (a : Access) (x : Cell) → In a accesses → (is_write a.mode && covers a.cell x) ≡ true → change posix (map as_place accesses) x ≡ true
in-changed accesses a x i h = in-any (λ (p : PlaceAccess Cell). p.writes && covers p.place x) (as_place a) (map as_place accesses) (in-map as_place a accesses i) h

-- what a call writes is among its accesses
pub writes-noted : WritesLaw
writes-noted s a =
    Each-from (λ w. writes_cell (does s a).accesses w.cell ≡ true) (outcome s a.stamp a.call).writes (λ w i. noted (written_cell w) (in-map written_cell w (outcome s a.stamp a.call).writes i))
  where
    noted : (x : Cell) → In x (map written_cell (outcome s a.stamp a.call).writes) → writes_cell (map as_place (accesses_of s a.stamp a.call)) x ≡ true
    noted x i =
        in-any (λ (p : PlaceAccess Cell). same_cell p.place x && p.writes) _ (map as_place (accesses_of s a.stamp a.call))
        (in-map as_place _ (accesses_of s a.stamp a.call) (written-accessed (steps s.limits (directory_count s) a.stamp a.call) (view_of s) x i)) (ap (λ b. b && true) (same_cell-refl x))

module _ (s : Cells) (a : Stamped) where
  abbrev writes : List Write
  writes = (outcome s a.stamp a.call).writes

  abbrev accesses : List Access
  accesses = accesses_of s a.stamp a.call

  -- what is covered by a cell that is looked at is touched
  looked-touched : (c x : Cell) → In c (looked s a.stamp a.call) → covers c x ≡ true → touch posix (does s a).accesses x ≡ true
  looked-touched c x i h = let at = looked-accessed (steps s.limits (directory_count s) a.stamp a.call) (view_of s) c i in in-touched accesses (access c at.0) x at.1 h

  -- what is written is changed
  told-back : (x : Cell) → is_written posix writes x ≡ true → change posix (does s a).accesses x ≡ true
  told-back x h =
      let i = written-in writes x h in
      in-changed accesses _ x (written-accessed (steps s.limits (directory_count s) a.stamp a.call) (view_of s) x i) (covers-refl x)

  -- and nothing else is
  told-on : (x : Cell) → change posix (does s a).accesses x ≡ true → is_written posix writes x ≡ true
  told-on x h =
      let found = changed-in accesses x h in
      let parts = and_parts (is_write found.0.mode) (covers found.0.cell x) found.2 in
      let i : In found.0.cell (map written_cell writes) = accessed-written (steps s.limits (directory_count s) a.stamp a.call) (view_of s) found.0 found.1 parts.0 in
      in-written writes x (elim (covers-cases found.0.cell x parts.1) [
        | inl is ↦ subst (λ c. In c (map written_cell writes)) is i
        | inr of ↦ absurd (names-not_written s.limits (directory_count s) a.stamp a.call (view_of s) of.0 (subst (λ c. In c (map written_cell writes)) of.2 i))
      ])

  -- the accesses that write tell what is written
  told : (x : Cell) → change posix (does s a).accesses x ≡ is_written posix writes x
  told x = both_ways _ _ (told-on x) (told-back x)

  -- a file that the call comes upon is known to it
  known : (i : ℕ) → Upon s a.stamp (looked s a.stamp a.call) i → Knows (calls_of posix) s a i
  known i (inl own) = inl own
  known i (inr sees) = inr (seen i sees)
    where
      seen : (i : ℕ) → Sees s (looked s a.stamp a.call) i → (y : Cell) × (touch posix (does s a).accesses y ≡ true) × (names_file y (held s y) i ≡ true)
      seen _ (sees_entry d name i at is) = (Entry (entry_at d name), looked-touched (Entry (entry_at d name)) (Entry (entry_at d name)) at (covers-refl (Entry (entry_at d name))), ap (λ o. node_names o i) is ∙ eq-eqb i i refl)
      seen _ (sees_open f o at is) = (Fd f, looked-touched (Fd f) (Fd f) at (covers-refl (Fd f)), ap (λ p. description_names p o.file) is ∙ eq-eqb o.file o.file refl)

  module _ (upon : CallUpon s a.stamp (looked s a.stamp a.call) writes) where
    -- only files that it comes upon are touched
    comes_upon : (x : Cell) (i : ℕ) → file_of x ≡ Some i → touch posix (does s a).accesses x ≡ true → Knows (calls_of posix) s a i
    comes_upon x i is h =
        let found = touched-in accesses x h in
        elim (covers-cases found.0.cell x found.2) [
          | inr of ↦ absurd (none-some i (sym (ap file_of of.3) ∙ is))
          | inl at ↦ elim (accessed-cases (steps s.limits (directory_count s) a.stamp a.call) (view_of s) found.0 found.1) [
            | inl w ↦ let from = map-in written_cell writes found.0.cell w in
                known i (Each-at (λ v. (j : ℕ) → file_of (written_cell v) ≡ Some j → Upon s a.stamp (looked s a.stamp a.call) j) writes from.0 upon.writes from.1 i (ap file_of (sym from.2 ∙ at) ∙ is))
            | inr l ↦ known i (Each-at (λ c. (j : ℕ) → file_of c ≡ Some j → Upon s a.stamp (looked s a.stamp a.call) j) (looked s a.stamp a.call) found.0.cell upon.looks l i (ap file_of at ∙ is))
          ]
        ]

    -- and the names that are written are of such files
    names_known : (x : Cell) (i : ℕ) → change posix (does s a).accesses x ≡ true → names_file x (held (write_all posix s writes) x) i ≡ true → Knows (calls_of posix) s a i
    names_known x i changed named =
        known i (written_all posix sets (λ y v. (j : ℕ) → names_file y v j ≡ true → Upon s a.stamp (looked s a.stamp a.call) j) writes s x
        upon.names (told-on x changed) i named)

    -- a file whose name is taken away is touched, unless the name is left elsewhere
    lets_go : (x : Cell) (i : ℕ) → names_file x (held s x) i ≡ true → names_file x (held (write_all posix s writes) x) i ≡ false
        → TouchesFile (calls_of posix) (does s a).accesses i ⊎ LeavesName (calls_of posix) s a i
    lets_go x i had lost = elim (upon.lets_go x i had (ap (λ c. names_file x (held c x) i) (sym (write-put writes s)) ∙ lost)) [
      | inl links ↦ inl (Links i, refl, looked-touched (Links i) (Links i) links (covers-refl (Links i)))
      | inr left ↦ inr (left.0, told-back left.0 (in-written writes left.0 left.1), ap (λ c. names_file left.0 (held c left.0) i) (write-put writes s) ∙ left.2)
    ]

-- Files.

-- the cells of a file name no file
nameless : (x : Cell) (v : Holds x) (i j : ℕ) → file_of x ≡ Some i → names_file x v j ≡ false
nameless (Entry entry) v i j h = absurd (none-some i h)
nameless (Names d) v i j h = refl
nameless (Parent d) v i j h = refl
nameless (Links n) v i j h = refl
nameless (Bytes n) v i j h = refl
nameless (Fd f) v i j h = absurd (none-some i h)
nameless (DirAttributes d) v i j h = refl
nameless (FileAttributes n) v i j h = refl

-- nothing is stored of a free number
pub own_blank : (s : Cells) (k : ℕ) → IsFree s k → (x : Cell) → file_of x ≡ Some k → held s x ≡ blank x
own_blank s k free (Entry entry) h = absurd (none-some k h)
own_blank s k free (Names d) h = refl
own_blank s k free (Parent d) h = absurd (none-some k h)
own_blank s k free (Links i) h = ap (links_of s) (same_Some i k h) ∙ (no_links free)
own_blank s k free (Bytes i) h = ap (contents_of s) (same_Some i k h) ∙ (no_contents_yet free)
own_blank s k free (Fd f) h = absurd (none-some k h)
own_blank s k free (DirAttributes d) h = absurd (none-some k h)
own_blank s k free (FileAttributes i) h = ap (file_attributes_of s) (same_Some i k h) ∙ (no_file_attributes free)

-- Hidden files.

module _ (hidden : ℕ → Bool) where
  -- the cells without the hidden files, whatever they allow
  abbrev pub without : TreeLimits → Cells → Cells
  without limits p = record p { limits = limits; files = retain_keys p.files (λ i. not (hidden i)) }

  -- the places that are left
  pub get-without : (limits : TreeLimits) (p : Cells) (i : ℕ) → get (without limits p).files i ≡ cond (not (hidden i)) (get p.files i) None
  get-without limits p i = get-retain_keys p.files (λ j. not (hidden j)) i (λ j tied. ap (λ n. not (hidden n)) (sym (exact_unsigned i j tied)))

  -- what is read of a file then
  read-without : {A : Type 0} (limits : TreeLimits) (read : FileCells → A) (p : Cells) (i : ℕ) → read (file_cells (without limits p) i) ≡ cond (hidden i) (read no_file) (read (file_cells p i))
  read-without limits read p i = ap (λ o. read (unwrap_or o no_file)) (get-without limits p i) ∙ by_hidden (hidden i) (get p.files i)
    where
      by_hidden : (b : Bool) (o : Option FileCells) → read (unwrap_or (cond (not b) o None) no_file) ≡ cond b (read no_file) (read (unwrap_or o no_file))
      by_hidden true o = refl
      by_hidden false o = refl

  module _ (r s : Cells) (hides : Hides (calls_of posix) hidden r s) where
    -- a hidden cell is blank, and each other is the same
    still_blank : (x : Cell) → held r x ≡ blank x → held s x ≡ blank x
    still_blank x h = by_test (is_hidden (calls_of posix) hidden x) (λ k. hides.gone x k) (λ k. sym (hides.others x k) ∙ h)

    -- a number that is free is free without them
    hides_ready : (k : ℕ) → IsFree r k → IsFree s k
    hides_ready k free = made_free s k free.above_root
        (still_blank (Parent k) (no_parent free)) (still_blank (DirAttributes k) (no_dir_attributes free)) (still_blank (Links k) (no_links free)) (still_blank (FileAttributes k) (no_file_attributes free))
        (still_blank (Bytes k) (no_contents_yet free)) (still_blank (Fd k) (no_open free))
        (λ d name x h. no_entry free d name x (hides.others (Entry (entry_at d name)) refl ∙ h)) (λ f o h. names_no_file free f o (hides.others (Fd f) refl ∙ h))

    module _ (p : Cells) (sound : AreSoundCells p) (same : SameValues p r) where
      -- the values that are left are those of the cells without the hidden files
      pub same-without : SameValues (without s.limits p) s
      same-without = record { limits = refl; values = values }
        where
          values : (c : Cell) → held s c ≡ held (without s.limits p) c
          values (Entry entry) = sym (hides.others (Entry entry) refl) ∙ same.values (Entry entry)
          values (Names d) = refl
          values (Parent d) = sym (hides.others (Parent d) refl) ∙ same.values (Parent d)
          values (Links i) = by_test (hidden i)
              (λ k. hides.gone (Links i) k ∙ sym (read-without s.limits (λ f. f.links) p i ∙ ap (λ b. cond b 0 (links_of p i)) k))
              (λ k. sym (hides.others (Links i) k) ∙ same.values (Links i) ∙ sym (read-without s.limits (λ f. f.links) p i ∙ ap (λ b. cond b 0 (links_of p i)) k))
          values (Bytes i) = by_test (hidden i)
              (λ k. hides.gone (Bytes i) k ∙ sym (read-without s.limits (λ f. f.contents) p i ∙ ap (λ b. cond b no_contents (contents_of p i)) k))
              (λ k. sym (hides.others (Bytes i) k) ∙ same.values (Bytes i) ∙ sym (read-without s.limits (λ f. f.contents) p i ∙ ap (λ b. cond b no_contents (contents_of p i)) k))
          values (Fd f) = sym (hides.others (Fd f) refl) ∙ same.values (Fd f)
          values (DirAttributes d) = sym (hides.others (DirAttributes d) refl) ∙ same.values (DirAttributes d)
          values (FileAttributes i) = by_test (hidden i)
              (λ k. hides.gone (FileAttributes i) k ∙ sym (read-without s.limits (λ f. f.attributes) p i ∙ ap (λ b. cond b None (file_attributes_of p i)) k))
              (λ k. sym (hides.others (FileAttributes i) k) ∙ same.values (FileAttributes i) ∙ sym (read-without s.limits (λ f. f.attributes) p i ∙ ap (λ b. cond b None (file_attributes_of p i)) k))

      -- no entry names a hidden file
      not_named : (i d : ℕ) (name : List ℕ) {form : Form} → hidden i ≡ true → entry_of p d name ≡ Some (FileNode form i) → ⊥
      not_named i d name k is =
          false≢true (sym (hides.unnamed (Entry (entry_at d name)) i k) ∙ ap (λ o. node_names o i) (same-without.values (Entry (entry_at d name)) ∙ is) ∙ eq-eqb i i refl)

      -- and no description has one open
      not_open : (f : ℕ) (o : OpenFile) → open_of p f ≡ Some o → hidden o.file ≡ false
      not_open f o is =
          false_from_ne_true (hidden o.file)
          (λ k. false≢true (sym (hides.unnamed (Fd f) o.file k) ∙ ap (λ x. description_names x o.file) (same-without.values (Fd f) ∙ is) ∙ eq-eqb o.file o.file refl))

      -- a hidden file shows no links
      none_shown : (i : ℕ) → hidden i ≡ true → view_in (tidy p) (Links i) ≡ 0
      none_shown i k = by_dir (contains_key (tidy p).dirs i) refl
        where
          by_entry : (e : DirEntry) → contains_key (tidy p).dirs i ≡ false → (x : Node) → entry_of p e.dir e.name ≡ Some x → number_of x ≡ i → ⊥
          by_entry e file (DirNode j) at own = false≢true (sym file ∙ contains-under p sound i e.dir (sound.tree.leads e.dir e.name i (at ∙ ap (λ n. Some (DirNode n)) own)))
          by_entry e file (FileNode kind j) at own = not_named i e.dir e.name k (at ∙ ap (λ n. Some (FileNode kind n)) own)

          by_dir : (b : Bool) → contains_key (tidy p).dirs i ≡ b → cond b 0 (links_in (tidy p) i) ≡ 0
          by_dir true is = refl
          by_dir false is = count-none (tidy p).edges i (λ e x h own. by_entry e is x (sym (get-tidy p e.dir e.name) ∙ h) own)

      -- so what is left is sound
      pub sound-without : AreSoundCells (without s.limits p)
      sound-without = record {
        root_is = sound.root_is;
        tree = sound.tree;
        links = λ i. read-without s.limits (λ f. f.links) p i ∙ by_test (hidden i)
            (λ k. ap (λ b. cond b 0 (links_of p i)) k ∙ sym (none_shown i k))
            (λ k. ap (λ b. cond b 0 (links_of p i)) k ∙ sound.links i);
        opens = λ f o h.
            let was = sound.opens f o h in
            (subst IsSome (sym (get-without s.limits p o.file ∙ ap (λ b. cond (not b) (get p.files o.file) None) (not_open f o h))) was.0, was.1);
        attributes = sound.attributes;
      }

    -- sound values are sound without the hidden files
    hides_sound : HasSoundValues r → HasSoundValues s
    hides_sound has = record { with_places = without s.limits has.with_places; sound = sound-without has.with_places has.sound has.same; same = same-without has.with_places has.sound has.same }

-- what the tree allows stays, whatever is written
limits-written : (ws : List (PlaceWrite Cell Holds)) (s : Cells) → (write_all posix s ws).limits ≡ s.limits
limits-written [] s = refl
limits-written (w ∷ ws) s = limits-written ws (set_cell s w.cell w.value) ∙ limits-set s w.cell w.value

-- The laws.

module _ (steps-alike : StepsAlike) (stored-enough : StoredEnough) where
  -- what a call does depends on the cells that it touches alone
  local : (s t : Cells) (a : Stamped) → HasSoundValues s → HasSoundValues t → s.limits ≡ t.limits → ((x : Cell) → touch posix (does s a).accesses x ≡ true → held s x ≡ held t x) → does t a ≡ does s a
  local s t a sound_s sound_t limits same =
      let alike = does-alike steps-alike stored-enough s t (tree-values s sound_s) (tree-values t sound_t) a.stamp a.call limits
      (agree-each (view_of s) (view_of t) (looked s a.stamp a.call) (λ c i. view-covered s t c (λ x h. same x (looked-touched s a c x i h)))) in
      let accesses = accesses-alike s t a.stamp a.call alike in
      sym (λ i. record { accesses = map as_place (accesses i); writes = (alike.outcomes i).writes; reply = (alike.outcomes i).reply })

  -- after a call the values are those of the cells with places after it
  pub after-places : (s : Cells) (a : Stamped) → (has : HasSoundValues s) → SameValues (after has.with_places a.stamp a.call) (write_all posix s (does s a).writes)
  after-places s a has =
      let p = has.with_places in
      let alike = does-same steps-alike stored-enough p s has.same has.sound.tree a.stamp a.call in
      subst (SameValues (after p a.stamp a.call)) (ap (λ o. put_all s o.writes) alike.outcomes ∙ sym (write-put (outcome s a.stamp a.call).writes s)) (same_after (outcome p a.stamp a.call).writes p s has.same)

module _ (steps-alike : StepsAlike) (stored-enough : StoredEnough) (upon : EachCallUpon) (soundness : SoundnessLaw) (freshness : FreshnessLaw) where
  -- the calls meet the laws of effects
  pub posix-laws : EffectLaws posix (AreSet (calls_of posix) TreeLimits limits_of default_limits)
  posix-laws = record {
    sets = sets;
    overlaps = overlaps;
    overlap_sym = overlap_sym;
    told = told;
    local = λ s t a gs gt rs rt limits same. local steps-alike stored-enough s t a gs gt limits same;
    stays_sound = λ s a has free.
        let p = has.with_places in
        record {
          with_places = after p a.stamp a.call;
          sound = soundness p a.stamp a.call has.sound (same_free s p (same_back p s has.same).values a.stamp free);
          same = after-places steps-alike stored-enough s a has;
        };
    stays_ready = λ s a b has free too other.
        let p = has.with_places in
        let back = (same_back p s has.same).values in
        same_free (after p a.stamp a.call) (write_all posix s (does s a).writes) (after-places steps-alike stored-enough s a has).values b.stamp
        (freshness p a.stamp a.call has.sound (same_free s p back a.stamp free) b.stamp (same_free s p back b.stamp too) (λ is. other (sym is)));
    nameless = nameless;
    own_blank = λ s a has free x h. own_blank s a.stamp free x h;
    comes_upon = λ s a has free x i is h. comes_upon s a (upon s a.stamp free (directory_count s) a.call) x i is h;
    names_known = λ s a has free x i changed named. names_known s a (upon s a.stamp free (directory_count s) a.call) x i changed named;
    lets_go = λ s a has free x i had lost. lets_go s a (upon s a.stamp free (directory_count s) a.call) x i had lost;
    hides_sound = hides_sound;
    hides_ready = λ hidden r s a hides free. hides_ready hidden r s hides a.stamp free;
  }

  -- and so the laws of calls
  pub lawful : Lawful posix_calls
  lawful =
      settled_lawful (calls_of posix) TreeLimits limits_of default_limits (effects_lawful posix (AreSet (calls_of posix) TreeLimits limits_of default_limits) posix-laws)
      (record { act = λ s a. limits-written (does s a).writes s; revert = λ s u. limits-written u.before s })

  -- What follows for any lawful calls.

  pub exchange : Exchange posix_calls
  exchange = exchanging.exchange posix_calls lawful

  pub deletion : Deletion posix_calls
  deletion = deleting.deletion posix_calls lawful

  pub may_go_first : MayGoFirst posix_calls
  may_go_first = exchanging.may_go_first posix_calls lawful

  pub may_be_sorted : MayBeSorted posix_calls
  may_be_sorted = exchanging.may_be_sorted posix_calls lawful

  pub run_alike : RunAlike posix_calls
  run_alike = hiding.run_alike posix_calls lawful

  pub stays_hidden : StaysHidden posix_calls
  stays_hidden = hiding.stays_hidden posix_calls lawful

  pub hides_more : HidesMore posix_calls
  hides_more = hiding.hides_more posix_calls lawful

  pub not_own : NotOwn posix_calls
  not_own = hiding.not_own posix_calls lawful

  pub tidying : TidyingLaw posix_calls
  tidying = forgetting.tidying posix_calls lawful
