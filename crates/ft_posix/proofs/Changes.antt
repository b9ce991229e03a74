-- What a call changes: nothing, a directory that it makes or removes, a file that it makes, or what
-- directories, files and descriptions hold that are there.
use Rattle.std.proofs.Common.{◌≡◌, ◌≢◌, ◌⊎◌, inl, inr, ℕ, ℤ, Bool, true, false, cond, List, [], ◌∷◌, Option, Some, None, IsSome, unwrap_or, Result, Ok, Err, eq-eqb, refl, sym, subst, ◌∙◌}
use Rattle.std.specs.Prelude.{◌-◌, ◌==◌, ◌&&◌, not, nat_lt, nat_le}
use Rattle.std.specs.List.{AllByRecursion}
use Rattle.std.proofs.lemmas.Bool.{false≢true}
use Rattle.ft_path.specs.declared.errno.Errno.{Errno}
use Rattle.ft_path.specs.declared.errno.Errno.TheVariants.{EINVAL, EEXIST, EISDIR, ENOENT, ENOTDIR, EBADF, EFBIG, ELOOP, EMLINK, EOVERFLOW}
use Rattle.ft_path.specs.declared.path.Parts.{Parts}
use Rattle.ft_path.specs.FilePath.{last_of, parts_of}
use Rattle.ft_cells.specs.declared.limits.TreeLimits.{TreeLimits}
use Rattle.ft_cells.specs.Entries.{entry_at}
use Rattle.ft_cells.specs.declared.node.Node.{Node}
use Rattle.ft_cells.specs.declared.node.Form.{Form}
use Rattle.ft_cells.specs.declared.node.Form.TheVariants.{Regular, Link as LinkForm}
use Rattle.ft_cells.specs.declared.node.Node.TheVariants.{Dir as DirNode, File as FileNode}
use Rattle.ft_cells.specs.declared.open_file.OpenFile.{OpenFile}
use Rattle.ft_cells.specs.declared.attributes.Attributes.{Attributes}
use Rattle.ft_cells.specs.declared.attributes.Timestamp.{Timestamp}
use Rattle.ft_cells.specs.Cells.{Cells, Contents, no_contents, entry_of, names_of, parent_of, links_of, open_of, directory_count}
use Rattle.ft_tree.specs.Views.{view_of}
use Rattle.ft_cells.specs.Looks.{Looks, Answer, answer, answer-then, or_else}
use Rattle.ft_cells.specs.declared.node.PathEnd.{PathEnd}
use Rattle.ft_cells.specs.declared.node.PathEnd.TheVariants.{Named as AtName, Itself}
use Rattle.ft_tree.specs.Walk.{walk}
use Rattle.ft_tree.specs.Sound.{Hangs, under, AreSoundCells}
use Rattle.ft_posix.specs.declared.TheConstants.{LAST_OFFSET}
use Rattle.ft_posix.specs.declared.call.Call.{Call}
use Rattle.ft_posix.specs.declared.call.Call.TheVariants.{Mkdir, Rmdir, List as ListDir, Open, Close, Read, Write as WriteCall, Pread, Pwrite, Lseek, Truncate, Ftruncate, Stat, Fstat, Link, Unlink, Rename, Symlink, Readlink, Lstat, Chmod, Fchmod, Chown, Lchown, Fchown, Utime, Lutime, Futime}
use Rattle.ft_posix.specs.declared.call.OpenFlags.{OpenFlags}
use Rattle.ft_posix.specs.declared.call.Whence.{Whence}
use Rattle.ft_posix.specs.declared.call.Reply.{Reply}
use Rattle.ft_posix.specs.declared.call.Reply.TheVariants.{Done, Number}
use Rattle.ft_cells.specs.declared.cell.Cell.TheVariants as cell
use Rattle.ft_posix.specs.Outcomes.{Write, sets, Outcome, told, failed, from_parts, from_judged, unless}
use Rattle.ft_posix.specs.Attributes.{mode_fault, time_fault, with_mode, with_owner, change_dir, change_file, change_spot, chmod_spot, chown_spot, chown_link, lchown_spot, fchmod_open, fchown_open, set_time, time_spot, utime_spot, lutime_spot, futime_open}
use Rattle.ft_posix.specs.Dirs.{makes_dir, make_dir, remove_dir, if_empty, last_fault, remove_parts, list_dir}
use Rattle.ft_posix.specs.Links.{linked, link_new, link_old, link_parts, unlinked, unlink_spot, climb, unless_below, rename_fault, renamed, with_parent, replace_file, if_bare, replace_dir, rename_file, rename_dir, rename_old, rename_parts}
use Rattle.ft_posix.specs.Symlinks.{target_fault, makes_link, make_link, read_link}
use Rattle.ft_posix.specs.Files.{description, creates, opens, open_node, is_exclusive, open_spot, open_fault, open_parts, to_size, cut_file, truncate_spot, truncate_parts, stat_spot}
use Rattle.ft_posix.specs.Descriptors.{on_open, with_open, any_open, is_readable, is_writable, at_offset, close_open, read_open, not_negative, pread_at, pread_open, write_place, write_at, write_open, pwrite_at, pwrite_open, seek_from, moved, sought, seek_open, ftruncate_open, fstat_open}
use Rattle.ft_posix.specs.Perform.{OnlyTells, IsList, is_read}
use Rattle.ft_posix.specs.Stored.{outcome}
use Rattle.ft_posix.specs.Edits.{AreApart}
use Rattle.ft_posix.proofs.Below.{Avoids, IsEnough}
use Rattle.ft_posix.proofs.Climbing.{not_under, stored-enough, climb-avoids}
use Rattle.ft_posix.proofs.Named.{Named, by_entry, by_open}
use Rattle.ft_posix.proofs.Walked.{IsSpot, EndsWell, walk-ends}

-- a directory k was made
abbrev pub made : ℕ → Option ℕ → ℕ → List ℕ → Outcome
made k mode d name = makes_dir k mode (entry_at d name)

-- a directory i was removed
abbrev pub removed : ℕ → List ℕ → ℕ → Outcome
removed d name i = record { reply = Done; writes = sets (cell.DirAttributes i) None ∷ sets (cell.Parent i) None ∷ sets (cell.Entry (entry_at d name)) None ∷ [] }

module _ (cells : Cells) where
  -- the contents or the attributes of a file that is named, the attributes of a directory of the
  -- tree, or a description: an open one, or a new one of number k
  pub data FileWrite (k : ℕ) : Write → Type 0 where
    sets_contents : (i : ℕ) (contents : Contents) → Named cells i → FileWrite k (sets (cell.Bytes i) contents)
    sets_file_attributes : (i : ℕ) (to : Option Attributes) → Named cells i → FileWrite k (sets (cell.FileAttributes i) to)
    sets_dir_attributes : (d : ℕ) (to : Option Attributes) → Hangs (parent_of cells) d → FileWrite k (sets (cell.DirAttributes d) to)
    closes : (f : ℕ) (o : OpenFile) → open_of cells f ≡ Some o → FileWrite k (sets (cell.Fd f) None)
    sets_open : (f : ℕ) (o : OpenFile) → Named cells o.file → (f ≡ k) ⊎ IsSome (open_of cells f) → FileWrite k (sets (cell.Fd f) (Some o))

  -- each of the writes is such a one
  abbrev pub AreFileWrites : ℕ → List Write → Type 0
  AreFileWrites k ws = AllByRecursion (FileWrite k) ws

  -- what the call with stamp k changes; with bytes or names for its reply it changes something
  -- only where it reads
  pub data Change (k : ℕ) (reads : Bool) : Outcome → Type 0 where
    no_change : (reply : Reply) → Change k reads (told reply)
    makes : (mode : Option ℕ) (d : ℕ) (name : List ℕ) → Hangs (parent_of cells) d → entry_of cells d name ≡ None → Change k reads (made k mode d name)
    removes : (d : ℕ) (name : List ℕ) (i : ℕ) → entry_of cells d name ≡ Some (DirNode i) → names_of cells i ≡ [] → Change k reads (removed d name i)
    creates_file : (flags : OpenFlags) (d : ℕ) (name : List ℕ) → Hangs (parent_of cells) d → entry_of cells d name ≡ None → Change k reads (creates k flags (entry_at d name))
    -- a symbolic link is made
    creates_link : (target : List ℕ) (d : ℕ) (name : List ℕ) → Hangs (parent_of cells) d → entry_of cells d name ≡ None → Change k reads (makes_link k target (entry_at d name))
    -- file i gets another entry
    links_file : {form : Form} (i : ℕ) (d : ℕ) (name : List ℕ) → Named cells i → Hangs (parent_of cells) d → entry_of cells d name ≡ None → Change k reads (linked form i (entry_at d name) (links_of cells i))
    -- or loses one
    unlinks : (d : ℕ) (name : List ℕ) {form : Form} (i : ℕ) → entry_of cells d name ≡ Some (FileNode form i) → Change k reads (unlinked (entry_at d name) i (links_of cells i))
    -- an entry is moved to another place: that of nothing, of a file, or of an empty directory
    moves_file : (d : ℕ) (name : List ℕ) {form : Form} (i e : ℕ) (other : List ℕ) → entry_of cells d name ≡ Some (FileNode form i) → Hangs (parent_of cells) e → entry_of cells e other ≡ None → Change k reads (renamed (entry_at d name) (FileNode form i) (entry_at e other) [])
    replaces_file : (d : ℕ) (name : List ℕ) {form : Form} (i e : ℕ) (other : List ℕ) {kind : Form} (j : ℕ) → entry_of cells d name ≡ Some (FileNode form i) → entry_of cells e other ≡ Some (FileNode kind j) → i ≢ j
        → Change k reads (renamed (entry_at d name) (FileNode form i) (entry_at e other) (sets (cell.Links j) (links_of cells j - 1) ∷ []))
    moves_dir : (d : ℕ) (name : List ℕ) (i e : ℕ) (other : List ℕ) → entry_of cells d name ≡ Some (DirNode i) → Hangs (parent_of cells) e → Avoids (parent_of cells) i e → entry_of cells e other ≡ None
        → Change k reads (renamed (entry_at d name) (DirNode i) (entry_at e other) (with_parent i d e))
    replaces_dir : (d : ℕ) (name : List ℕ) (i e : ℕ) (other : List ℕ) (j : ℕ) → entry_of cells d name ≡ Some (DirNode i) → entry_of cells e other ≡ Some (DirNode j) → i ≢ j → Avoids (parent_of cells) i e
        → names_of cells j ≡ [] → Change k reads (renamed (entry_at d name) (DirNode i) (entry_at e other) (sets (cell.DirAttributes j) None ∷ sets (cell.Parent j) None ∷ with_parent i d e))
    on_files : (reply : Reply) (ws : List Write) → AreFileWrites k ws → AreApart ws → (OnlyTells reply → ⊥) → (IsList reply → reads ≡ true) → Change k reads (record { reply = reply; writes = ws })

  module _ (k : ℕ) (reads : Bool) where
    -- what is answered comes to such a change
    abbrev ComesTo : Looks Outcome → Type 0
    ComesTo s = Change k reads (answer s (view_of cells))

    -- whichever of two is taken, where both do
    either-changes : (b : Bool) (s t : Looks Outcome) → ComesTo s → ComesTo t → ComesTo (cond b s t)
    either-changes true s t p q = p
    either-changes false s t p q = q

    -- a fault changes nothing
    or_else-changes : {A : Type 0} (go : A → Looks Outcome) (r : Result A Errno) → ((x : A) → ComesTo (go x)) → ComesTo (or_else failed go r)
    or_else-changes go (Ok x) each = each x
    or_else-changes go (Err e) each = no_change _

    unless-changes : (fault : Option Errno) (go : Looks Outcome) → ComesTo go → ComesTo (unless fault go)
    unless-changes None go h = h
    unless-changes (Some e) go h = no_change _

    -- mkdir makes a directory, or changes nothing
    make_dir-changes : (mode : Option ℕ) (spot : PathEnd) → IsSpot cells spot → ComesTo (make_dir k mode spot)
    make_dir-changes mode (AtName entry None slash) h = makes mode entry.dir entry.name h.0 (sym h.1)
    make_dir-changes mode (AtName entry (Some x) slash) h = no_change _
    make_dir-changes mode (Itself d) h = no_change _

    -- rmdir removes an empty directory, or changes nothing
    remove_dir-changes : (spot : PathEnd) → IsSpot cells spot → ComesTo (remove_dir spot)
    remove_dir-changes (AtName entry None slash) h = no_change _
    remove_dir-changes (AtName entry (Some (FileNode form i)) slash) h = no_change _
    remove_dir-changes (Itself d) h = no_change _
    remove_dir-changes (AtName entry (Some (DirNode i)) slash) h = by_names (names_of cells i) refl
      where
        by_names : (names : List (List ℕ × Node)) → names_of cells i ≡ names → Change k reads (if_empty entry i names)
        by_names [] is = removes entry.dir entry.name i (sym h.1) is
        by_names (e ∷ es) is = no_change _

    -- list changes nothing
    list_dir-changes : (spot : PathEnd) → IsSpot cells spot → ComesTo (list_dir spot)
    list_dir-changes (AtName entry None slash) h = no_change _
    list_dir-changes (AtName entry (Some (FileNode form i)) slash) h = no_change _
    list_dir-changes (AtName entry (Some (DirNode i)) slash) h = no_change _
    list_dir-changes (Itself d) h = no_change _

    -- nor does stat
    stat_spot-changes : (spot : PathEnd) → IsSpot cells spot → ComesTo (stat_spot spot)
    stat_spot-changes (AtName entry None slash) h = no_change _
    stat_spot-changes (AtName entry (Some (FileNode Regular i)) slash) h = no_change _
    stat_spot-changes (AtName entry (Some (FileNode LinkForm i)) slash) h = no_change _
    stat_spot-changes (AtName entry (Some (DirNode i)) slash) h = no_change _
    stat_spot-changes (Itself d) h = no_change _

    -- to open a file that is there sets a new description, and may cut the file
    opens-changes : (flags : OpenFlags) (i : ℕ) → Named cells i → Change k reads (opens k flags i)
    opens-changes flags i named = on_files (Number k) _ (sets_open k (description flags i) named (inl refl), cut flags.trunc) (apart flags.trunc) (λ x. x) (λ x. absurd x)
      where
        cut : (trunc : Bool) → AreFileWrites k (cond trunc (sets (cell.Bytes i) no_contents ∷ []) [])
        cut true = (sets_contents i no_contents named, tt)
        cut false = tt

        apart : (trunc : Bool) → AreApart (sets (cell.Fd k) (Some (description flags i)) ∷ cond trunc (sets (cell.Bytes i) no_contents ∷ []) [])
        apart true = ((refl, tt), (tt, tt))
        apart false = (tt, tt)

    open_node-changes : (flags : OpenFlags) (d : ℕ) (name : List ℕ) (x : Node) → Some x ≡ entry_of cells d name → Change k reads (open_node k flags x)
    open_node-changes flags d name (DirNode i) is = no_change _
    open_node-changes flags d name (FileNode Regular i) is = opens-changes flags i (by_entry d name i (sym is))
    open_node-changes flags d name (FileNode LinkForm i) is = no_change _

    -- open makes a file, opens one, or changes nothing
    open_spot-changes : (flags : OpenFlags) (spot : PathEnd) → IsSpot cells spot → Change k reads (open_spot k flags spot)
    open_spot-changes flags (AtName entry None slash) h =
        elim (flags.create && not slash) as (λ b. Change k reads (cond b (creates k flags entry) (failed ENOENT))) [
          | true ↦ creates_file flags entry.dir entry.name h.0 (sym h.1)
          | false ↦ no_change _
        ]
    open_spot-changes flags (AtName entry (Some x) slash) h =
        elim (is_exclusive flags) as (λ b. Change k reads (cond b (failed EEXIST) (open_node k flags x))) [
          | true ↦ no_change _
          | false ↦ open_node-changes flags entry.dir entry.name x h.1
        ]
    open_spot-changes flags (Itself d) h = elim (is_exclusive flags) as (λ b. Change k reads (cond b (failed EEXIST) (failed EISDIR))) [ true ↦ no_change _ | false ↦ no_change _ ]

    -- a call on a descriptor comes to its change where that is open
    with_open-changes : (fd : ℕ) (fits : OpenFile → Bool) (go : OpenFile → Looks Outcome) → ((o : OpenFile) → open_of cells fd ≡ Some o → ComesTo (go o)) → ComesTo (with_open fd fits go)
    with_open-changes fd fits go each = by_place (open_of cells fd) refl
      where
        by_place : (place : Option OpenFile) → open_of cells fd ≡ place → ComesTo (on_open fits go place)
        by_place None is = no_change _
        by_place (Some o) is = either-changes (fits o) (go o) (Answer (failed EBADF)) (each o is) (no_change _)

    -- a description of the same file, in place of one that is open
    moves : (fd : ℕ) (o : OpenFile) → open_of cells fd ≡ Some o → (offset : ℕ) → FileWrite k (sets (cell.Fd fd) (Some (at_offset o offset)))
    moves fd o is offset = sets_open fd (at_offset o offset) (by_open fd o is) (inr (subst IsSome (sym is) refl))

    -- write sets the bytes of the file, and moves the offset
    write_at-changes : (limits : TreeLimits) (fd : ℕ) (o : OpenFile) → open_of cells fd ≡ Some o → (bytes : List ℕ) (at : ℕ) → ComesTo (write_at limits fd o bytes at)
    write_at-changes limits fd o is bytes at =
        either-changes (nat_le limits.file_size at) (Answer (failed EFBIG)) _ (no_change _)
        (on_files _ _ (sets_contents o.file _ (by_open fd o is), (moves fd o is _, tt)) ((refl, tt), (tt, tt)) (λ x. x) (λ x. absurd x))

    write_open-changes : (limits : TreeLimits) (fd : ℕ) (bytes : List ℕ) (o : OpenFile) → open_of cells fd ≡ Some o → ComesTo (write_open limits fd bytes o)
    write_open-changes limits fd [] o is = no_change _
    write_open-changes limits fd (first ∷ more) o is =
        subst (Change k reads) (sym (answer-then (write_place o) (write_at limits fd o (first ∷ more)) (view_of cells))) (write_at-changes limits fd o is (first ∷ more) _)

    -- pwrite sets the bytes alone
    pwrite_at-changes : (limits : TreeLimits) (fd : ℕ) (o : OpenFile) → open_of cells fd ≡ Some o → (bytes : List ℕ) (at : ℕ) → ComesTo (pwrite_at limits o bytes at)
    pwrite_at-changes limits fd o is [] at = no_change _
    pwrite_at-changes limits fd o is (first ∷ more) at =
        either-changes (nat_le limits.file_size at) (Answer (failed EFBIG)) _ (no_change _) (on_files _ _ (sets_contents o.file _ (by_open fd o is), tt) (tt, tt) (λ x. x) (λ x. absurd x))

    -- lseek moves the offset
    sought-changes : (fd : ℕ) (o : OpenFile) → open_of cells fd ≡ Some o → (place : Option ℕ) → Change k reads (sought fd o place)
    sought-changes fd o is None = no_change _
    sought-changes fd o is (Some at) =
        elim (nat_le at LAST_OFFSET) as (λ b. Change k reads (cond b (record { reply = Number at; writes = sets (cell.Fd fd) (Some (at_offset o at)) ∷ [] }) (failed EOVERFLOW))) [
          | true ↦ on_files _ _ (moves fd o is at, tt) (tt, tt) (λ x. x) (λ x. absurd x)
          | false ↦ no_change _
        ]

    seek_open-changes : (fd : ℕ) (whence : Whence) (off : ℤ) (o : OpenFile) → open_of cells fd ≡ Some o → ComesTo (seek_open fd whence off o)
    seek_open-changes fd whence off o is =
        subst (Change k reads) (sym (answer-then (seek_from whence o) (λ from. Answer (sought fd o (moved from off))) (view_of cells))) (sought-changes fd o is (moved (answer (seek_from whence o) (view_of cells)) off))

    -- truncate and ftruncate set the bytes
    cut_file-changes : (i size : ℕ) → Named cells i → ComesTo (cut_file i size)
    cut_file-changes i size named = on_files Done _ (sets_contents i _ named, tt) (tt, tt) (λ x. x) (λ x. absurd x)

    truncate_spot-changes : (size : ℕ) (spot : PathEnd) → IsSpot cells spot → ComesTo (truncate_spot size spot)
    truncate_spot-changes size (AtName entry None slash) h = no_change _
    truncate_spot-changes size (AtName entry (Some (DirNode i)) slash) h = no_change _
    truncate_spot-changes size (AtName entry (Some (FileNode LinkForm i)) slash) h = no_change _
    truncate_spot-changes size (AtName entry (Some (FileNode Regular i)) slash) h = cut_file-changes i size (by_entry entry.dir entry.name i (sym h.1))
    truncate_spot-changes size (Itself d) h = no_change _

    -- fchmod and fchown set attributes, and so do chmod and chown
    change_file-changes : (change : Attributes → Attributes) (i : ℕ) → Named cells i → ComesTo (change_file change i)
    change_file-changes change i named = on_files Done _ (sets_file_attributes i _ named, tt) (tt, tt) (λ x. x) (λ x. absurd x)

    change_dir-changes : (change : Attributes → Attributes) (d : ℕ) → Hangs (parent_of cells) d → ComesTo (change_dir change d)
    change_dir-changes change d hangs = on_files Done _ (sets_dir_attributes d _ hangs, tt) (tt, tt) (λ x. x) (λ x. absurd x)

    -- lchown changes nothing of a link
    chown_link-changes : (owner group : Option ℕ) → Change k reads (chown_link owner group)
    chown_link-changes owner group =
        elim ((unwrap_or owner 0 == 0) && (unwrap_or group 0 == 0)) as (λ b. Change k reads (cond b (told Done) (failed EINVAL))) [ true ↦ no_change _ | false ↦ no_change _ ]

    -- utime sets the contents, with the same bytes
    set_time-changes : (time : Timestamp) (i : ℕ) → Named cells i → ComesTo (set_time time i)
    set_time-changes time i named = on_files Done _ (sets_contents i _ named, tt) (tt, tt) (λ x. x) (λ x. absurd x)

    time_spot-changes : (fault : Errno) (time : Timestamp) (spot : PathEnd) → IsSpot cells spot → ComesTo (time_spot fault time spot)
    time_spot-changes fault time (AtName entry None slash) h = no_change _
    time_spot-changes fault time (AtName entry (Some (DirNode i)) slash) h = no_change _
    time_spot-changes fault time (AtName entry (Some (FileNode LinkForm i)) slash) h = no_change _
    time_spot-changes fault time (AtName entry (Some (FileNode Regular i)) slash) h = set_time-changes time i (by_entry entry.dir entry.name i (sym h.1))
    time_spot-changes fault time (Itself d) h = no_change _

    -- symlink makes a link
    make_link-changes : (target : List ℕ) (spot : PathEnd) → IsSpot cells spot → ComesTo (make_link k target spot)
    make_link-changes target (AtName entry None slash) h =
        elim slash as (λ b. Change k reads (cond b (failed ENOENT) (makes_link k target entry))) [
          | true ↦ no_change _
          | false ↦ creates_link target entry.dir entry.name h.0 (sym h.1)
        ]
    make_link-changes target (AtName entry (Some x) slash) h = no_change _
    make_link-changes target (Itself d) h = no_change _

    -- readlink changes nothing
    read_link-changes : (spot : PathEnd) → IsSpot cells spot → ComesTo (read_link spot)
    read_link-changes (AtName entry None slash) h = no_change _
    read_link-changes (AtName entry (Some (DirNode i)) slash) h = no_change _
    read_link-changes (AtName entry (Some (FileNode Regular i)) slash) h = no_change _
    read_link-changes (AtName entry (Some (FileNode LinkForm i)) slash) h = no_change _
    read_link-changes (Itself d) h = no_change _

    -- link gives a file another entry
    link_new-changes : (limits : TreeLimits) (form : Form) (i : ℕ) → Named cells i → (spot : PathEnd) → IsSpot cells spot → ComesTo (link_new limits form i spot)
    link_new-changes limits form i named (AtName entry None slash) h =
        either-changes slash (Answer (failed ENOENT)) _ (no_change _)
        (elim (nat_lt (links_of cells i) limits.links) as (λ b. Change k reads (cond b (linked form i entry (links_of cells i)) (failed EMLINK))) [ true ↦ links_file i entry.dir entry.name named h.0 (sym h.1) | false ↦ no_change _ ])
    link_new-changes limits form i named (AtName entry (Some x) slash) h = no_change _
    link_new-changes limits form i named (Itself d) h = no_change _

    -- unlink takes an entry of a file away
    unlink_spot-changes : (spot : PathEnd) → IsSpot cells spot → ComesTo (unlink_spot spot)
    unlink_spot-changes (AtName entry None slash) h = no_change _
    unlink_spot-changes (AtName entry (Some (DirNode i)) slash) h = no_change _
    unlink_spot-changes (AtName entry (Some (FileNode form i)) slash) h = unlinks entry.dir entry.name i (sym h.1)
    unlink_spot-changes (Itself d) h = no_change _

    -- what is renamed to itself stays, and else the new entry named another
    unless_same-changes : (i j : ℕ) (go : Looks Outcome) → (i ≢ j → ComesTo go) → ComesTo (cond (i == j) (Answer (told Done)) go)
    unless_same-changes i j go each = by_number (i == j) refl
      where
        by_number : (b : Bool) → (i == j) ≡ b → ComesTo (cond b (Answer (told Done)) go)
        by_number true is = no_change Done
        by_number false is = each (λ same. false≢true (sym is ∙ eq-eqb i j same))

    -- rename moves the entry of a file
    rename_file-changes : (d : ℕ) (name : List ℕ) (form : Form) (i : ℕ) → entry_of cells d name ≡ Some (FileNode form i) → (spot : PathEnd) → IsSpot cells spot → ComesTo (rename_file (entry_at d name) form i spot)
    rename_file-changes d name form i is (AtName entry None slash) h =
        elim slash as (λ b. Change k reads (cond b (failed ENOTDIR) (renamed (entry_at d name) (FileNode form i) entry []))) [
          | true ↦ no_change _
          | false ↦ moves_file d name i entry.dir entry.name is h.0 (sym h.1)
        ]
    rename_file-changes d name form i is (AtName entry (Some (FileNode kind j)) slash) h =
        unless_same-changes i j (replace_file (entry_at d name) (FileNode form i) entry j) (λ apart. replaces_file d name i entry.dir entry.name j is (sym h.1) apart)
    rename_file-changes d name form i is (AtName entry (Some (DirNode j)) slash) h = no_change _
    rename_file-changes d name form i is (Itself e) h = no_change _

    module _ (sound : AreSoundCells cells) where
      -- a failed walk changes nothing
      spot-changes : (go : PathEnd → Looks Outcome) → ((spot : PathEnd) → IsSpot cells spot → ComesTo (go spot)) → (r : Result PathEnd Errno) → EndsWell cells r → ComesTo (or_else failed go r)
      spot-changes go each (Ok spot) h = each spot h
      spot-changes go each (Err e) h = no_change _

      -- a call that walks comes to its change where the walk ends
      from_parts-changes : (follow : Bool) (go : PathEnd → Looks Outcome) → ((spot : PathEnd) → IsSpot cells spot → ComesTo (go spot)) → (parts : Result Parts Errno) → ComesTo (from_parts follow parts go)
      from_parts-changes follow go each (Err e) = no_change _
      from_parts-changes follow go each (Ok parts) =
          subst (Change k reads) (sym (answer-then (walk follow parts.names parts.trailing) (or_else failed go) (view_of cells)))
          (spot-changes go each _ (walk-ends cells sound.tree follow parts.names parts.trailing))

      -- with the faults of its arguments
      from_judged-changes : (fault : Option Errno) (follow : Bool) (go : PathEnd → Looks Outcome) → ((spot : PathEnd) → IsSpot cells spot → ComesTo (go spot)) → (parts : Result Parts Errno) → ComesTo (from_judged fault follow parts go)
      from_judged-changes fault follow go each (Err e) = no_change _
      from_judged-changes fault follow go each (Ok parts) = unless-changes fault (from_parts follow (Ok parts) go) (from_parts-changes follow go each (Ok parts))

      -- chmod and chown set attributes, those of what is found
      change_spot-changes : (change : Attributes → Attributes) (at_link : Outcome) → Change k reads at_link → (spot : PathEnd) → IsSpot cells spot → ComesTo (change_spot change at_link spot)
      change_spot-changes change at_link linked (AtName entry None slash) h = no_change _
      change_spot-changes change at_link linked (AtName entry (Some (DirNode i)) slash) h = change_dir-changes change i (under i entry.dir (sound.tree.leads entry.dir entry.name i (sym h.1)) h.0)
      change_spot-changes change at_link linked (AtName entry (Some (FileNode Regular i)) slash) h = change_file-changes change i (by_entry entry.dir entry.name i (sym h.1))
      change_spot-changes change at_link linked (AtName entry (Some (FileNode LinkForm i)) slash) h = linked
      change_spot-changes change at_link linked (Itself d) h = change_dir-changes change d h

      -- with the faults of the last component
      remove_parts-changes : (parts : Result Parts Errno) → ComesTo (remove_parts parts)
      remove_parts-changes (Err e) = no_change _
      remove_parts-changes (Ok parts) = unless-changes (last_fault (last_of parts.names)) (from_parts false (Ok parts) remove_dir) (from_parts-changes false remove_dir remove_dir-changes (Ok parts))

      -- with the fault of the flags
      open_parts-changes : (flags : OpenFlags) (parts : Result Parts Errno) → ComesTo (open_parts k flags parts)
      open_parts-changes flags parts = from_judged-changes (open_fault flags) (not (is_exclusive flags)) (λ spot. Answer (open_spot k flags spot)) (open_spot-changes flags) parts

      -- with the faults of the length
      truncate_parts-changes : (limits : TreeLimits) (len : ℤ) (parts : Result Parts Errno) → ComesTo (truncate_parts limits len parts)
      truncate_parts-changes limits len (Err e) = no_change _
      truncate_parts-changes limits len (Ok parts) =
          or_else-changes (λ size. from_parts true (Ok parts) (truncate_spot size)) (to_size limits len) (λ size. from_parts-changes true (truncate_spot size) (truncate_spot-changes size) (Ok parts))

      -- link, with two paths
      link_old-changes : (limits : TreeLimits) (new : Parts) (spot : PathEnd) → IsSpot cells spot → ComesTo (link_old limits new spot)
      link_old-changes limits new (AtName entry None slash) h = no_change _
      link_old-changes limits new (AtName entry (Some (DirNode i)) slash) h = no_change _
      link_old-changes limits new (AtName entry (Some (FileNode form i)) slash) h = from_parts-changes false (link_new limits form i) (link_new-changes limits form i (by_entry entry.dir entry.name i (sym h.1))) (Ok new)
      link_old-changes limits new (Itself d) h = no_change _

      link_parts-changes : (limits : TreeLimits) (old new : Result Parts Errno) → ComesTo (link_parts limits old new)
      link_parts-changes limits (Err e) new = no_change _
      link_parts-changes limits (Ok old) (Err e) = no_change _
      link_parts-changes limits (Ok old) (Ok new) = from_parts-changes false (link_old limits new) (link_old-changes limits new) (Ok old)

      module _ (n : ℕ) (enough : IsEnough cells n) where
        -- a directory that is not the root goes only where it is not on the way up
        unless_below-changes : (i e : ℕ) → i ≢ 1 → Hangs (parent_of cells) e → (go : Looks Outcome) → (Avoids (parent_of cells) i e → ComesTo go) → ComesTo (unless_below n i e go)
        unless_below-changes i e other h go each =
            subst (Change k reads) (sym (answer-then (climb n i e) (λ met. cond met (Answer (failed EINVAL)) go) (view_of cells))) (by_met (answer (climb n i e) (view_of cells)) refl)
          where
            by_met : (b : Bool) → answer (climb n i e) (view_of cells) ≡ b → ComesTo (cond b (Answer (failed EINVAL)) go)
            by_met true met = no_change _
            by_met false met = each (climb-avoids cells sound.tree n i e h (enough e h) other met)

        -- rename moves the entry of a directory
        rename_dir-changes : (d : ℕ) (name : List ℕ) (i : ℕ) → entry_of cells d name ≡ Some (DirNode i) → (spot : PathEnd) → IsSpot cells spot → ComesTo (rename_dir n (entry_at d name) i spot)
        rename_dir-changes d name i is (AtName entry None slash) h =
            unless_below-changes i entry.dir (not_under (parent_of cells) sound.tree.top i d (sound.tree.leads d name i is)) h.0 _ (λ clear. moves_dir d name i entry.dir entry.name is h.0 clear (sym h.1))
        rename_dir-changes d name i is (AtName entry (Some (FileNode kind j)) slash) h = no_change _
        rename_dir-changes d name i is (AtName entry (Some (DirNode j)) slash) h =
            unless_same-changes i j (unless_below n i entry.dir (replace_dir (entry_at d name) i entry j))
            (λ apart. unless_below-changes i entry.dir (not_under (parent_of cells) sound.tree.top i d (sound.tree.leads d name i is)) h.0 (replace_dir (entry_at d name) i entry j) (λ clear. by_names apart clear (names_of cells j) refl))
          where
            by_names : i ≢ j → Avoids (parent_of cells) i entry.dir → (names : List (List ℕ × Node)) → names_of cells j ≡ names → Change k reads (if_bare (entry_at d name) i entry j names)
            by_names apart clear [] bare = replaces_dir d name i entry.dir entry.name j is (sym h.1) apart clear bare
            by_names apart clear (x ∷ xs) bare = no_change _
        rename_dir-changes d name i is (Itself e) h = no_change _

        -- rename, with two paths
        rename_old-changes : (new : Parts) (spot : PathEnd) → IsSpot cells spot → ComesTo (rename_old n new spot)
        rename_old-changes new (AtName entry None slash) h = no_change _
        rename_old-changes new (AtName entry (Some (FileNode form i)) slash) h = from_parts-changes false (rename_file entry form i) (rename_file-changes entry.dir entry.name form i (sym h.1)) (Ok new)
        rename_old-changes new (AtName entry (Some (DirNode i)) slash) h = from_parts-changes false (rename_dir n entry i) (rename_dir-changes entry.dir entry.name i (sym h.1)) (Ok new)
        rename_old-changes new (Itself d) h = no_change _

        -- with the faults of the last components
        rename_parts-changes : (old new : Result Parts Errno) → ComesTo (rename_parts n old new)
        rename_parts-changes (Err e) new = no_change _
        rename_parts-changes (Ok old) (Err e) = no_change _
        rename_parts-changes (Ok old) (Ok new) =
            unless-changes (rename_fault (last_of old.names) (last_of new.names)) (from_parts false (Ok old) (rename_old n new)) (from_parts-changes false (rename_old n new) (rename_old-changes new) (Ok old))

-- read moves its descriptor's offset
read_open-changes : (cells : Cells) (k fd len : ℕ) (o : OpenFile) → open_of cells fd ≡ Some o → ComesTo cells k true (read_open fd len o)
read_open-changes cells k fd len o is = on_files _ _ (moves cells k true fd o is _, tt) (tt, tt) (λ x. x) (λ _. refl)

-- what each call changes on sound cells
pub call-changes : (cells : Cells) → AreSoundCells cells → (k : ℕ) (call : Call) → Change cells k (is_read call) (outcome cells k call)
call-changes cells sound k (Mkdir path mode) = from_judged-changes cells k false sound (mode_fault mode) false (make_dir k mode) (make_dir-changes cells k false mode) (parts_of path)
call-changes cells sound k (Rmdir path) = remove_parts-changes cells k false sound (parts_of path)
call-changes cells sound k (ListDir path) = from_parts-changes cells k false sound true list_dir (list_dir-changes cells k false) (parts_of path)
call-changes cells sound k (Open path flags) = open_parts-changes cells k false sound flags (parts_of path)
call-changes cells sound k (Close fd) =
    with_open-changes cells k false fd any_open (close_open fd) (λ o is. on_files Done _ (closes fd o is, tt) (tt, tt) (λ x. x) (λ x. absurd x))
call-changes cells sound k (Read fd len) = with_open-changes cells k true fd is_readable (read_open fd len) (read_open-changes cells k fd len)
call-changes cells sound k (WriteCall fd bytes) = with_open-changes cells k false fd is_writable (write_open cells.limits fd bytes) (write_open-changes cells k false cells.limits fd bytes)
call-changes cells sound k (Pread fd off len) =
    with_open-changes cells k false fd is_readable (pread_open off len) (λ o is. or_else-changes cells k false (pread_at len o) (not_negative off) (λ at. no_change _))
call-changes cells sound k (Pwrite fd off bytes) =
    with_open-changes cells k false fd is_writable (pwrite_open cells.limits off bytes) (λ o is. or_else-changes cells k false (pwrite_at cells.limits o bytes) (not_negative off) (pwrite_at-changes cells k false cells.limits fd o is bytes))
call-changes cells sound k (Lseek fd whence off) = with_open-changes cells k false fd any_open (seek_open fd whence off) (seek_open-changes cells k false fd whence off)
call-changes cells sound k (Truncate len path) = truncate_parts-changes cells k false sound cells.limits len (parts_of path)
call-changes cells sound k (Ftruncate fd len) =
    with_open-changes cells k false fd is_writable (ftruncate_open cells.limits len) (λ o is. or_else-changes cells k false (cut_file o.file) (to_size cells.limits len) (λ size. cut_file-changes cells k false o.file size (by_open fd o is)))
call-changes cells sound k (Stat path) = from_parts-changes cells k false sound true stat_spot (stat_spot-changes cells k false) (parts_of path)
call-changes cells sound k (Fstat fd) = with_open-changes cells k false fd any_open fstat_open (λ o is. no_change _)
call-changes cells sound k (Link old new) = link_parts-changes cells k false sound cells.limits (parts_of old) (parts_of new)
call-changes cells sound k (Unlink path) = from_parts-changes cells k false sound false unlink_spot (unlink_spot-changes cells k false) (parts_of path)
call-changes cells sound k (Rename old new) = rename_parts-changes cells k false sound (directory_count cells) (stored-enough cells sound.tree) (parts_of old) (parts_of new)
call-changes cells sound k (Symlink target path) = from_judged-changes cells k false sound (target_fault target) false (make_link k target) (make_link-changes cells k false target) (parts_of path)
call-changes cells sound k (Readlink path) = from_parts-changes cells k false sound false read_link (read_link-changes cells k false) (parts_of path)
call-changes cells sound k (Lstat path) = from_parts-changes cells k false sound false stat_spot (stat_spot-changes cells k false) (parts_of path)
call-changes cells sound k (Chmod mode path) =
    from_judged-changes cells k false sound (mode_fault (Some mode)) true (chmod_spot mode) (change_spot-changes cells k false sound (with_mode mode) (failed ELOOP) (no_change _)) (parts_of path)
call-changes cells sound k (Fchmod fd mode) =
    with_open-changes cells k false fd any_open (fchmod_open mode)
    (λ o is. unless-changes cells k false (mode_fault (Some mode)) (change_file (with_mode mode) o.file) (change_file-changes cells k false (with_mode mode) o.file (by_open fd o is)))
call-changes cells sound k (Chown owner group path) =
    from_parts-changes cells k false sound true (chown_spot owner group) (change_spot-changes cells k false sound (with_owner owner group) (failed ELOOP) (no_change _)) (parts_of path)
call-changes cells sound k (Lchown owner group path) =
    from_parts-changes cells k false sound false (lchown_spot owner group)
    (change_spot-changes cells k false sound (with_owner owner group) (chown_link owner group) (chown_link-changes cells k false owner group)) (parts_of path)
call-changes cells sound k (Fchown fd owner group) =
    with_open-changes cells k false fd any_open (fchown_open owner group) (λ o is. change_file-changes cells k false (with_owner owner group) o.file (by_open fd o is))
call-changes cells sound k (Utime time path) = from_judged-changes cells k false sound (time_fault time) true (utime_spot time) (time_spot-changes cells k false ELOOP time) (parts_of path)
call-changes cells sound k (Lutime time path) = from_judged-changes cells k false sound (time_fault time) false (lutime_spot time) (time_spot-changes cells k false EINVAL time) (parts_of path)
call-changes cells sound k (Futime fd time) =
    with_open-changes cells k false fd any_open (futime_open time) (λ o is. unless-changes cells k false (time_fault time) (set_time time o.file) (set_time-changes cells k false time o.file (by_open fd o is)))

-- what only tells is told without a change
pub only_tells-none : (cells : Cells) (k : ℕ) (reads : Bool) (o : Outcome) → Change cells k reads o → OnlyTells o.reply → o.writes ≡ []
only_tells-none cells k reads _ (no_change reply) tells = refl
only_tells-none cells k reads _ (makes mode d name hangs empty) tells = absurd tells
only_tells-none cells k reads _ (removes d name i is bare) tells = absurd tells
only_tells-none cells k reads _ (creates_file flags d name hangs empty) tells = absurd tells
only_tells-none cells k reads _ (creates_link target d name hangs empty) tells = absurd tells
only_tells-none cells k reads _ (links_file i d name named hangs empty) tells = absurd tells
only_tells-none cells k reads _ (unlinks d name i is) tells = absurd tells
only_tells-none cells k reads _ (moves_file d name i e other is hangs empty) tells = absurd tells
only_tells-none cells k reads _ (replaces_file d name i e other j is was apart) tells = absurd tells
only_tells-none cells k reads _ (moves_dir d name i e other is hangs clear empty) tells = absurd tells
only_tells-none cells k reads _ (replaces_dir d name i e other j is was apart clear bare) tells = absurd tells
only_tells-none cells k reads _ (on_files reply ws each apart acts lists) tells = absurd (acts tells)

-- and so is a list, but that of a read
pub lists-none : (cells : Cells) (k : ℕ) (o : Outcome) → Change cells k false o → IsList o.reply → o.writes ≡ []
lists-none cells k _ (no_change reply) list = refl
lists-none cells k _ (makes mode d name hangs empty) list = absurd list
lists-none cells k _ (removes d name i is bare) list = absurd list
lists-none cells k _ (creates_file flags d name hangs empty) list = absurd list
lists-none cells k _ (creates_link target d name hangs empty) list = absurd list
lists-none cells k _ (links_file i d name named hangs empty) list = absurd list
lists-none cells k _ (unlinks d name i is) list = absurd list
lists-none cells k _ (moves_file d name i e other is hangs empty) list = absurd list
lists-none cells k _ (replaces_file d name i e other j is was apart) list = absurd list
lists-none cells k _ (moves_dir d name i e other is hangs clear empty) list = absurd list
lists-none cells k _ (replaces_dir d name i e other j is was apart clear bare) list = absurd list
lists-none cells k _ (on_files reply ws each apart acts lists) list = absurd (false≢true (lists list))
