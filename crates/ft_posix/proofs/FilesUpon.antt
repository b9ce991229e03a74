-- What the calls on directories, files and descriptors come upon.
use Rattle.std.proofs.Common.{◌≡◌, inl, inr, ℕ, ℤ, Bool, true, false, cond, length, List, [], ◌∷◌, Option, Some, None, unwrap_or, Result, Ok, Err, refl, sym, subst, ◌∙◌}
use Rattle.std.specs.Prelude.{◌==◌, ◌&&◌, not, nat_le}
use Rattle.std.proofs.lemmas.Bool.{false≢true}
use Rattle.std.proofs.lemmas.Option.{none-some, same_Some}
use Rattle.ft_laws.specs.Lists.{Each, In}
use Rattle.ft_laws.proofs.Lists.{Each-map}
use Rattle.ft_path.specs.declared.errno.Errno.{Errno}
use Rattle.ft_path.specs.declared.errno.Errno.TheVariants.{ENOENT, EEXIST, EISDIR, EINVAL, EBADF, EFBIG, EOVERFLOW}
use Rattle.ft_path.specs.declared.path.Parts.{Parts}
use Rattle.ft_cells.specs.declared.limits.TreeLimits.{TreeLimits}
use Rattle.ft_cells.specs.Entries.{entry_at}
use Rattle.ft_cells.specs.declared.cell.Cell.{Cell}
use Rattle.ft_cells.specs.declared.cell.Cell.TheVariants.{Names, Bytes, Fd, DirAttributes}
use Rattle.ft_cells.specs.declared.node.Node.{Node}
use Rattle.ft_cells.specs.declared.node.Form.{Form}
use Rattle.ft_cells.specs.declared.node.Form.TheVariants.{Regular, Link as LinkForm}
use Rattle.ft_cells.specs.declared.node.Node.TheVariants.{Dir as DirNode, File as FileNode}
use Rattle.ft_cells.specs.declared.open_file.OpenFile.{OpenFile}
use Rattle.ft_cells.specs.declared.attributes.Attributes.{Attributes}
use Rattle.ft_cells.specs.declared.attributes.Timestamp.{Timestamp}
use Rattle.ft_cells.specs.Cells.{Cells, untimed, no_contents, entry_of, names_of, open_of}
use Rattle.ft_tree.specs.Views.{view_of}
use Rattle.ft_cells.specs.Looks.{Looks, Answer, Look, answer, looked_at, then, or_else}
use Rattle.ft_cells.specs.declared.node.PathEnd.{PathEnd}
use Rattle.ft_cells.specs.declared.node.PathEnd.TheVariants.{Named as AtName, Itself}
use Rattle.ft_tree.specs.Walk.{walk}
use Rattle.ft_posix.specs.declared.TheConstants.{LAST_OFFSET}
use Rattle.ft_posix.specs.declared.call.OpenFlags.{OpenFlags}
use Rattle.ft_posix.specs.declared.call.Whence.{Whence}
use Rattle.ft_posix.specs.declared.call.Whence.TheVariants.{Set, Cur, End}
use Rattle.ft_posix.specs.declared.call.Reply.TheVariants.{Done, Number}
use Rattle.ft_posix.specs.Outcomes.{Write, sets, Outcome, failed, told, from_parts, from_judged, unless}
use Rattle.ft_posix.specs.Attributes.{mode_fault, time_fault, with_mode, dir_mode, file_mode, change_dir, change_file, change_spot, chown_link, fchmod_open, set_time, time_spot, futime_open}
use Rattle.ft_posix.specs.Dirs.{makes_dir, make_dir, if_empty, remove_dir, last_fault, remove_parts, list_dir}
use Rattle.ft_posix.specs.Symlinks.{makes_link, make_link, read_link}
use Rattle.ft_posix.specs.Files.{description, creates, opens, open_node, is_exclusive, open_spot, open_fault, open_parts, to_size, cut_file, truncate_spot, truncate_parts, file_info, stat_spot}
use Rattle.ft_posix.specs.Descriptors.{on_open, with_open, at_offset, close_open, read_open, not_negative, pread_at, pread_open, write_place, write_at, write_open, pwrite_at, pwrite_open, seek_from, moved, sought, seek_open, ftruncate_open, fstat_open}
use Rattle.ft_posix.specs.Posix.{file_of}
use Rattle.ft_posix.proofs.Upon.{Upon, sees_entry, sees_open}
use Rattle.ft_posix.proofs.WalkedUpon.{AreSeen, MeetsNone, IsSeenOf, seen-parts, IsFound, EndsFound, walk-finds}
use Rattle.ft_posix.proofs.WritesUpon.{IsUpon, upon_parent, upon_links, upon_contents, upon_dir_attributes, upon_file_attributes, AreUpon, of_same, fills, opens_new, keeps_open, shuts}
use Rattle.ft_path.specs.FilePath.{last_of}

module _ (cells : Cells) (k : ℕ) (seen : List Cell) where
  -- where the cell is of a file, that is come upon
  abbrev IsMet : Cell → Type 0
  IsMet c = (i : ℕ) → file_of c ≡ Some i → Upon cells k seen i

  -- nothing that is looked at is of a file that is not come upon
  abbrev MeetsUpon : {A : Type 0} → Looks A → Type 0
  MeetsUpon s = Each IsMet (looked_at s (view_of cells))

  -- where all that is looked at is seen, the files of it are come upon, and so are those of the
  -- writes
  abbrev pub GoesUpon : Looks Outcome → Type 0
  GoesUpon s = AreSeen seen (looked_at s (view_of cells)) → MeetsUpon s × AreUpon cells k seen (answer s (view_of cells)).writes

  -- a cell of no file
  pub of_none : (c : Cell) → file_of c ≡ None → IsMet c
  of_none c none i is = absurd (none-some i (sym none ∙ is))

  -- a cell of a file that is come upon
  pub of_file : (j : ℕ) → Upon cells k seen j → (i : ℕ) → Some j ≡ Some i → Upon cells k seen i
  of_file j upon i is = subst (Upon cells k seen) (same_Some j i is) upon

  -- a node that is none, or a directory's, names no file
  pub no_name : (i : ℕ) → false ≡ true → Upon cells k seen i
  no_name i named = absurd (false≢true named)

  -- nothing is looked at, and nothing is written
  pub no_change : GoesUpon (Answer (told Done))
  no_change all = (tt, tt)

  -- whichever of two is taken
  pub either-goes : (b : Bool) (s t : Looks Outcome) → GoesUpon s → GoesUpon t → GoesUpon (cond b s t)
  either-goes true s t p q = p
  either-goes false s t p q = q

  -- a fault changes nothing
  or_else-goes : {A : Type 0} (go : A → Looks Outcome) (r : Result A Errno) → ((x : A) → GoesUpon (go x)) → GoesUpon (or_else failed go r)
  or_else-goes go (Ok x) each = each x
  or_else-goes go (Err e) each = no_change

  -- nor does one that is known before
  pub unless-goes : (fault : Option Errno) (go : Looks Outcome) → GoesUpon go → GoesUpon (unless fault go)
  unless-goes None go h = h
  unless-goes (Some e) go h = no_change

  -- behind other looks, which are seen
  pub then-goes : {A : Type 0} (s : Looks A) (f : A → Looks Outcome) → MeetsUpon s → (AreSeen seen (looked_at s (view_of cells)) → GoesUpon (f (answer s (view_of cells)))) → GoesUpon (then s f)
  then-goes (Answer x) f p next all = next tt all
  then-goes (Look c go) f p next all = let rest = then-goes (go (view_of cells c)) f p.1 (λ a. next (all.0, a)) all.1 in ((p.0, rest.0), rest.1)

  -- what looks at no cell of a file
  pub meets_none : {A : Type 0} (s : Looks A) → MeetsNone cells s → MeetsUpon s
  meets_none s h = Each-map (λ c. file_of c ≡ None) IsMet of_none (looked_at s (view_of cells)) h

  -- a failed walk changes nothing
  spot-goes : (go : PathEnd → Looks Outcome) → ((spot : PathEnd) → IsFound cells seen spot → GoesUpon (go spot)) → (r : Result PathEnd Errno) → EndsFound cells seen r → GoesUpon (or_else failed go r)
  spot-goes go each (Ok spot) h = each spot h
  spot-goes go each (Err e) h = no_change

  -- a call by a path sees the entry to which that leads
  pub from_parts-goes : (follow : Bool) (go : PathEnd → Looks Outcome) → ((spot : PathEnd) → IsFound cells seen spot → GoesUpon (go spot)) → (parts : Result Parts Errno) → GoesUpon (from_parts follow parts go)
  from_parts-goes follow go each (Err e) = no_change
  from_parts-goes follow go each (Ok parts) = λ all.
      let way = walk follow parts.names parts.trailing in
      let found = walk-finds cells seen follow parts.names parts.trailing (seen-parts cells seen way (or_else failed go) all).0 in
      then-goes way (or_else failed go) (Each-map (IsSeenOf cells seen) IsMet (λ c f i is. inr (f i is)) (looked_at way (view_of cells)) found.0)
      (λ _. spot-goes go each (answer way (view_of cells)) found.1) all

  -- with the faults of its arguments
  pub from_judged-goes : (fault : Option Errno) (follow : Bool) (go : PathEnd → Looks Outcome) → ((spot : PathEnd) → IsFound cells seen spot → GoesUpon (go spot)) → (parts : Result Parts Errno) → GoesUpon (from_judged fault follow parts go)
  from_judged-goes fault follow go each (Err e) = no_change
  from_judged-goes fault follow go each (Ok parts) = unless-goes fault (from_parts follow (Ok parts) go) (from_parts-goes follow go each (Ok parts))

  -- a file that an entry names is come upon
  pub by_entry : (d : ℕ) (name : List ℕ) {form : Form} (i : ℕ) (slash : Bool) → IsFound cells seen (AtName (entry_at d name) (Some (FileNode form i)) slash) → Upon cells k seen i
  by_entry d name i slash h = inr (sees_entry d name i h.0 h.1)

  -- Directories, which are of no file.

  -- and so is the mode of one that is made
  dir_mode-upon : (all : List Write) (mode : Option ℕ) → Each (IsUpon cells k seen all) (dir_mode k mode)
  dir_mode-upon all None = tt
  dir_mode-upon all (Some mode) = (upon_dir_attributes k _, tt)

  -- to make a directory sets an entry that led to nothing
  pub make_dir-goes : (mode : Option ℕ) (spot : PathEnd) → IsFound cells seen spot → GoesUpon (make_dir k mode spot)
  make_dir-goes mode (AtName entry None slash) h =
      let ws = (makes_dir k mode entry).writes in
      λ all. (tt, (upon_parent k (Some entry.dir), (fills cells k seen ws entry.dir entry.name None (Some (DirNode k)) h.1 (λ i. refl) no_name, dir_mode-upon ws mode)))
  make_dir-goes mode (AtName entry (Some x) slash) h = no_change
  make_dir-goes mode (Itself d) h = no_change

  -- to remove one empties an entry of a directory
  remove_dir-goes : (spot : PathEnd) → IsFound cells seen spot → GoesUpon (remove_dir spot)
  remove_dir-goes (AtName entry None slash) h = no_change
  remove_dir-goes (AtName entry (Some (FileNode form i)) slash) h = no_change
  remove_dir-goes (Itself d) h = no_change
  remove_dir-goes (AtName entry (Some (DirNode i)) slash) h = λ all. ((of_none (Names i) refl, tt), by_names (names_of cells i))
    where
      by_names : (names : List (List ℕ × Node)) → AreUpon cells k seen (if_empty entry i names).writes
      by_names [] = (upon_dir_attributes i None, (upon_parent i None, (fills cells k seen _ entry.dir entry.name (Some (DirNode i)) None h.1 (λ j. refl) no_name, tt)))
      by_names (e ∷ es) = tt

  -- the names of a directory are of no file
  pub list_dir-goes : (spot : PathEnd) → IsFound cells seen spot → GoesUpon (list_dir spot)
  list_dir-goes (AtName entry None slash) h = no_change
  list_dir-goes (AtName entry (Some (FileNode form i)) slash) h = no_change
  list_dir-goes (AtName entry (Some (DirNode i)) slash) h = λ all. ((of_none (Names i) refl, tt), tt)
  list_dir-goes (Itself d) h = λ all. ((of_none (Names d) refl, tt), tt)

  -- with the faults of the last component
  pub remove_parts-goes : (parts : Result Parts Errno) → GoesUpon (remove_parts parts)
  remove_parts-goes (Err e) = no_change
  remove_parts-goes (Ok parts) = unless-goes (last_fault (last_of parts.names)) (from_parts false (Ok parts) remove_dir) (from_parts-goes false remove_dir remove_dir-goes (Ok parts))

  -- Files by their paths.

  -- the links, the bytes and the attributes of a file are looked at
  file_info-goes : (form : Form) (i : ℕ) → Upon cells k seen i → GoesUpon (file_info form i)
  file_info-goes Regular i upon all = ((of_file i upon, (of_file i upon, (of_file i upon, tt))), tt)
  file_info-goes LinkForm i upon all = ((of_file i upon, (of_file i upon, tt)), tt)

  -- those of the file to which the path leads
  pub stat_spot-goes : (spot : PathEnd) → IsFound cells seen spot → GoesUpon (stat_spot spot)
  stat_spot-goes (AtName entry None slash) h = no_change
  stat_spot-goes (AtName entry (Some (DirNode i)) slash) h = λ all. ((of_none (DirAttributes i) refl, tt), tt)
  stat_spot-goes (AtName entry (Some (FileNode form i)) slash) h = file_info-goes form i (by_entry entry.dir entry.name i slash h)
  stat_spot-goes (Itself d) h = λ all. ((of_none (DirAttributes d) refl, tt), tt)

  -- the bytes of a file are set
  cut_file-goes : (i size : ℕ) → Upon cells k seen i → GoesUpon (cut_file i size)
  cut_file-goes i size upon all = ((of_file i upon, tt), (upon_contents i _ upon, tt))

  -- those of the file to which the path leads
  truncate_spot-goes : (size : ℕ) (spot : PathEnd) → IsFound cells seen spot → GoesUpon (truncate_spot size spot)
  truncate_spot-goes size (AtName entry None slash) h = no_change
  truncate_spot-goes size (AtName entry (Some (DirNode i)) slash) h = no_change
  truncate_spot-goes size (AtName entry (Some (FileNode LinkForm i)) slash) h = no_change
  truncate_spot-goes size (AtName entry (Some (FileNode Regular i)) slash) h = cut_file-goes i size (by_entry entry.dir entry.name i slash h)
  truncate_spot-goes size (Itself d) h = no_change

  -- with the faults of the length
  pub truncate_parts-goes : (limits : TreeLimits) (len : ℤ) (parts : Result Parts Errno) → GoesUpon (truncate_parts limits len parts)
  truncate_parts-goes limits len (Err e) = no_change
  truncate_parts-goes limits len (Ok parts) =
      or_else-goes (λ size. from_parts true (Ok parts) (truncate_spot size)) (to_size limits len) (λ size. from_parts-goes true (truncate_spot size) (truncate_spot-goes size) (Ok parts))

  -- Attributes and times.

  -- the attributes of a directory are of no file
  change_dir-goes : (change : Attributes → Attributes) (d : ℕ) → GoesUpon (change_dir change d)
  change_dir-goes change d all = ((of_none (DirAttributes d) refl, tt), (upon_dir_attributes d _, tt))

  -- those of a file are set
  change_file-goes : (change : Attributes → Attributes) (i : ℕ) → Upon cells k seen i → GoesUpon (change_file change i)
  change_file-goes change i upon all = ((of_file i upon, tt), (upon_file_attributes i _ upon, tt))

  -- those of what the path leads to
  pub change_spot-goes : (change : Attributes → Attributes) (at_link : Outcome) → GoesUpon (Answer at_link) → (spot : PathEnd) → IsFound cells seen spot → GoesUpon (change_spot change at_link spot)
  change_spot-goes change at_link linked (AtName entry None slash) h = no_change
  change_spot-goes change at_link linked (AtName entry (Some (DirNode i)) slash) h = change_dir-goes change i
  change_spot-goes change at_link linked (AtName entry (Some (FileNode Regular i)) slash) h = change_file-goes change i (by_entry entry.dir entry.name i slash h)
  change_spot-goes change at_link linked (AtName entry (Some (FileNode LinkForm i)) slash) h = linked
  change_spot-goes change at_link linked (Itself d) h = change_dir-goes change d

  -- of a link nothing is
  pub chown_link-goes : (owner group : Option ℕ) → GoesUpon (Answer (chown_link owner group))
  chown_link-goes owner group =
      elim ((unwrap_or owner 0 == 0) && (unwrap_or group 0 == 0)) as (λ b. GoesUpon (Answer (cond b (told Done) (failed EINVAL)))) [ true ↦ λ all. (tt, tt) | false ↦ λ all. (tt, tt) ]

  -- the time of a file is set
  set_time-goes : (time : Timestamp) (i : ℕ) → Upon cells k seen i → GoesUpon (set_time time i)
  set_time-goes time i upon all = ((of_file i upon, tt), (upon_contents i _ upon, tt))

  -- that of the file to which the path leads
  pub time_spot-goes : (fault : Errno) (time : Timestamp) (spot : PathEnd) → IsFound cells seen spot → GoesUpon (time_spot fault time spot)
  time_spot-goes fault time (AtName entry None slash) h = no_change
  time_spot-goes fault time (AtName entry (Some (DirNode i)) slash) h = no_change
  time_spot-goes fault time (AtName entry (Some (FileNode LinkForm i)) slash) h = no_change
  time_spot-goes fault time (AtName entry (Some (FileNode Regular i)) slash) h = set_time-goes time i (by_entry entry.dir entry.name i slash h)
  time_spot-goes fault time (Itself d) h = no_change

  -- the mode of a file that is made is the call's own
  file_mode-upon : (all : List Write) (mode : Option ℕ) → Each (IsUpon cells k seen all) (file_mode k mode)
  file_mode-upon all None = tt
  file_mode-upon all (Some mode) = (upon_file_attributes k _ (inl refl), tt)

  -- the descriptor k was not open, and a file that is made has the number k
  module _ (none : open_of cells k ≡ None) where
    -- a file that is made is the call's own
    creates-upon : (flags : OpenFlags) (d : ℕ) (name : List ℕ) → entry_of cells d name ≡ None → AreUpon cells k seen (creates k flags (entry_at d name)).writes
    creates-upon flags d name empty =
        let all = (creates k flags (entry_at d name)).writes in
        let opened = opens_new cells k seen all k (description flags k) none (inl refl) in
        let entered = fills cells k seen all d name None (Some (FileNode Regular k)) empty (λ i. refl) (of_same (Upon cells k seen) k (inl refl)) in
        (upon_links k 1 (inl refl), (upon_contents k no_contents (inl refl), (opened, (entered, file_mode-upon all flags.mode))))

    -- a file that is there is opened, and may be cut
    opens-upon : (flags : OpenFlags) (i : ℕ) → Upon cells k seen i → AreUpon cells k seen (opens k flags i).writes
    opens-upon flags i upon = (opens_new cells k seen _ k (description flags i) none upon, cut flags.trunc)
      where
        cut : (trunc : Bool) → Each (IsUpon cells k seen (opens k flags i).writes) (cond trunc (sets (Bytes i) no_contents ∷ []) [])
        cut true = (upon_contents i no_contents upon, tt)
        cut false = tt

    -- that to which the path leads
    open_node-upon : (flags : OpenFlags) (d : ℕ) (name : List ℕ) (x : Node) (slash : Bool) → IsFound cells seen (AtName (entry_at d name) (Some x) slash) → AreUpon cells k seen (open_node k flags x).writes
    open_node-upon flags d name (DirNode i) slash h = tt
    open_node-upon flags d name (FileNode LinkForm i) slash h = tt
    open_node-upon flags d name (FileNode Regular i) slash h = opens-upon flags i (by_entry d name i slash h)

    -- it is made, or opened, or neither
    open_spot-upon : (flags : OpenFlags) (spot : PathEnd) → IsFound cells seen spot → AreUpon cells k seen (open_spot k flags spot).writes
    open_spot-upon flags (AtName entry None slash) h =
        elim (flags.create && not slash) as (λ b. AreUpon cells k seen (cond b (creates k flags entry) (failed ENOENT)).writes) [
          | true ↦ creates-upon flags entry.dir entry.name h.1
          | false ↦ tt
        ]
    open_spot-upon flags (AtName entry (Some x) slash) h =
        elim (is_exclusive flags) as (λ b. AreUpon cells k seen (cond b (failed EEXIST) (open_node k flags x)).writes) [
          | true ↦ tt
          | false ↦ open_node-upon flags entry.dir entry.name x slash h
        ]
    open_spot-upon flags (Itself d) h = elim (is_exclusive flags) as (λ b. AreUpon cells k seen (cond b (failed EEXIST) (failed EISDIR)).writes) [ true ↦ tt | false ↦ tt ]

    -- with the fault of the flags
    pub open_parts-goes : (flags : OpenFlags) (parts : Result Parts Errno) → GoesUpon (open_parts k flags parts)
    open_parts-goes flags parts = from_judged-goes (open_fault flags) (not (is_exclusive flags)) (λ spot. Answer (open_spot k flags spot)) (λ spot h all. (tt, open_spot-upon flags spot h)) parts

  -- Symbolic links.

  -- one that is made is the call's own
  pub make_link-goes : (target : List ℕ) (spot : PathEnd) → IsFound cells seen spot → GoesUpon (make_link k target spot)
  make_link-goes target (AtName entry None slash) h = λ all. (tt, by_slash slash)
    where
      by_slash : (b : Bool) → AreUpon cells k seen (cond b (failed ENOENT) (makes_link k target entry)).writes
      by_slash true = tt
      by_slash false = (upon_links k 1 (inl refl), (upon_contents k (untimed target) (inl refl), (fills cells k seen _ entry.dir entry.name None (Some (FileNode LinkForm k)) h.1 (λ i. refl) (of_same (Upon cells k seen) k (inl refl)), tt)))
  make_link-goes target (AtName entry (Some x) slash) h = no_change
  make_link-goes target (Itself d) h = no_change

  -- the target of the link to which the path leads is looked at
  pub read_link-goes : (spot : PathEnd) → IsFound cells seen spot → GoesUpon (read_link spot)
  read_link-goes (AtName entry None slash) h = no_change
  read_link-goes (AtName entry (Some (DirNode i)) slash) h = no_change
  read_link-goes (AtName entry (Some (FileNode Regular i)) slash) h = no_change
  read_link-goes (AtName entry (Some (FileNode LinkForm i)) slash) h = λ all. ((of_file i (by_entry entry.dir entry.name i slash h), tt), tt)
  read_link-goes (Itself d) h = no_change

  -- Descriptors.

  -- an open file, whose description is seen
  abbrev IsOpen : ℕ → OpenFile → Type 0
  IsOpen fd o = In (Fd fd) seen × (open_of cells fd ≡ Some o)

  -- a call on a descriptor sees its description
  pub with_open-goes : (fd : ℕ) (fits : OpenFile → Bool) (go : OpenFile → Looks Outcome) → ((o : OpenFile) → IsOpen fd o → GoesUpon (go o)) → GoesUpon (with_open fd fits go)
  with_open-goes fd fits go each all = let rest = by_place (open_of cells fd) refl all.1 in ((of_none (Fd fd) refl, rest.0), rest.1)
    where
      by_place : (place : Option OpenFile) → open_of cells fd ≡ place → GoesUpon (on_open fits go place)
      by_place None is = no_change
      by_place (Some o) is = either-goes (fits o) (go o) (Answer (failed EBADF)) (each o (all.0, is)) no_change

  -- the file that it has open is come upon
  by_open : (fd : ℕ) (o : OpenFile) → IsOpen fd o → Upon cells k seen o.file
  by_open fd o h = inr (sees_open fd o h.0 h.1)

  -- close takes away its name, and looks at the links
  pub close_open-goes : (fd : ℕ) (o : OpenFile) → IsOpen fd o → GoesUpon (close_open fd o)
  close_open-goes fd o h all = ((of_file o.file (by_open fd o h), tt), (shuts cells k seen _ fd o h.1 (inl all.0), tt))

  -- a description of the same file
  moves : (all : List Write) (fd : ℕ) (o : OpenFile) → IsOpen fd o → (offset : ℕ) → IsUpon cells k seen all (sets (Fd fd) (Some (at_offset o offset)))
  moves all fd o h offset = keeps_open cells k seen all fd o offset h.1 (by_open fd o h)

  -- read looks at the bytes, and moves the offset
  pub read_open-goes : (fd len : ℕ) (o : OpenFile) → IsOpen fd o → GoesUpon (read_open fd len o)
  read_open-goes fd len o h all = ((of_file o.file (by_open fd o h), tt), (moves _ fd o h _, tt))

  -- pread looks at the bytes alone
  pub pread_open-goes : (off : ℤ) (fd len : ℕ) (o : OpenFile) → IsOpen fd o → GoesUpon (pread_open off len o)
  pread_open-goes off fd len o h = or_else-goes (pread_at len o) (not_negative off) (λ at all. ((of_file o.file (by_open fd o h), tt), tt))

  -- the place of a write may be the end of the bytes
  write_place-meets : (fd : ℕ) (o : OpenFile) → IsOpen fd o → MeetsUpon (write_place o)
  write_place-meets fd o h = elim o.append as (λ b. MeetsUpon (cond b (Look (Bytes o.file) (λ contents. Answer (length contents.bytes))) (Answer o.offset))) [ true ↦ (of_file o.file (by_open fd o h), tt) | false ↦ tt ]

  -- write sets the bytes, and moves the offset
  pub write_open-goes : (limits : TreeLimits) (fd : ℕ) (bytes : List ℕ) (o : OpenFile) → IsOpen fd o → GoesUpon (write_open limits fd bytes o)
  write_open-goes limits fd [] o h = no_change
  write_open-goes limits fd (first ∷ more) o h =
      let upon = by_open fd o h in
      then-goes (write_place o) (write_at limits fd o (first ∷ more)) (write_place-meets fd o h)
      (λ _. either-goes (nat_le limits.file_size (answer (write_place o) (view_of cells))) (Answer (failed EFBIG)) _ no_change
      (λ all. ((of_file o.file upon, tt), (upon_contents o.file _ upon, (moves _ fd o h _, tt)))))

  -- pwrite sets the bytes alone
  pwrite_at-goes : (limits : TreeLimits) (fd : ℕ) (o : OpenFile) → IsOpen fd o → (bytes : List ℕ) (at : ℕ) → GoesUpon (pwrite_at limits o bytes at)
  pwrite_at-goes limits fd o h [] at = no_change
  pwrite_at-goes limits fd o h (first ∷ more) at =
      let upon = by_open fd o h in
      either-goes (nat_le limits.file_size at) (Answer (failed EFBIG)) _ no_change (λ all. ((of_file o.file upon, tt), (upon_contents o.file _ upon, tt)))

  -- with the fault of the offset
  pub pwrite_open-goes : (limits : TreeLimits) (off : ℤ) (fd : ℕ) (bytes : List ℕ) (o : OpenFile) → IsOpen fd o → GoesUpon (pwrite_open limits off bytes o)
  pwrite_open-goes limits off fd bytes o h = or_else-goes (pwrite_at limits o bytes) (not_negative off) (pwrite_at-goes limits fd o h bytes)

  -- ftruncate sets the bytes
  pub ftruncate_open-goes : (limits : TreeLimits) (len : ℤ) (fd : ℕ) (o : OpenFile) → IsOpen fd o → GoesUpon (ftruncate_open limits len o)
  ftruncate_open-goes limits len fd o h = or_else-goes (cut_file o.file) (to_size limits len) (λ size. cut_file-goes o.file size (by_open fd o h))

  -- lseek may look at the bytes
  seek_from-meets : (fd : ℕ) (whence : Whence) (o : OpenFile) → IsOpen fd o → MeetsUpon (seek_from whence o)
  seek_from-meets fd Set o h = tt
  seek_from-meets fd Cur o h = tt
  seek_from-meets fd End o h = (of_file o.file (by_open fd o h), tt)

  -- it moves the offset
  sought-upon : (fd : ℕ) (o : OpenFile) → IsOpen fd o → (place : Option ℕ) → AreUpon cells k seen (sought fd o place).writes
  sought-upon fd o h None = tt
  sought-upon fd o h (Some at) = by_limit (nat_le at LAST_OFFSET)
    where
      by_limit : (b : Bool) → AreUpon cells k seen (cond b (record { reply = Number at; writes = sets (Fd fd) (Some (at_offset o at)) ∷ [] }) (failed EOVERFLOW)).writes
      by_limit true = (moves _ fd o h at, tt)
      by_limit false = tt

  -- so it comes upon the file
  pub seek_open-goes : (fd : ℕ) (whence : Whence) (off : ℤ) (o : OpenFile) → IsOpen fd o → GoesUpon (seek_open fd whence off o)
  seek_open-goes fd whence off o h =
      let place = moved (answer (seek_from whence o) (view_of cells)) off in
      then-goes (seek_from whence o) (λ from. Answer (sought fd o (moved from off))) (seek_from-meets fd whence o h) (λ _ all. (tt, sought-upon fd o h place))

  -- fchmod and fchown set the attributes
  pub change_open-goes : (change : Attributes → Attributes) (fd : ℕ) (o : OpenFile) → IsOpen fd o → GoesUpon (change_file change o.file)
  change_open-goes change fd o h = change_file-goes change o.file (by_open fd o h)

  -- with the fault of the mode
  pub fchmod_open-goes : (mode fd : ℕ) (o : OpenFile) → IsOpen fd o → GoesUpon (fchmod_open mode o)
  fchmod_open-goes mode fd o h = unless-goes (mode_fault (Some mode)) (change_file (with_mode mode) o.file) (change_open-goes (with_mode mode) fd o h)

  -- futime sets the time
  pub futime_open-goes : (time : Timestamp) (fd : ℕ) (o : OpenFile) → IsOpen fd o → GoesUpon (futime_open time o)
  futime_open-goes time fd o h = unless-goes (time_fault time) (set_time time o.file) (set_time-goes time o.file (by_open fd o h))

  -- fstat looks at the links, the bytes and the attributes
  pub fstat_open-goes : (fd : ℕ) (o : OpenFile) → IsOpen fd o → GoesUpon (fstat_open o)
  fstat_open-goes fd o h = file_info-goes Regular o.file (by_open fd o h)
