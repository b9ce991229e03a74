-- What the calls look at: beside the contents and the attributes of files that are named, only what
-- the plain tree shows as the stored cells do.
use Rattle.std.proofs.Common.{◌≡◌, ℕ, zero, suc, ℤ, Bool, true, false, cond, length, List, [], ◌∷◌, Option, Some, None, unwrap_or, Result, Ok, Err, refl, sym}
use Rattle.std.specs.Prelude.{◌==◌, not, nat_le}
use Rattle.ft_path.specs.Name.{is_dot, is_dot_dot}
use Rattle.ft_path.specs.declared.errno.Errno.{Errno}
use Rattle.ft_path.specs.declared.errno.Errno.TheVariants.{ENOENT, EINVAL, EBADF, EFBIG, ELOOP}
use Rattle.ft_path.specs.declared.path.Parts.{Parts}
use Rattle.ft_path.specs.FilePath.{last_of, parts_of}
use Rattle.ft_cells.specs.declared.limits.TreeLimits.{TreeLimits}
use Rattle.ft_cells.specs.Entries.{entry_at}
use Rattle.ft_cells.specs.declared.cell.Cell.{Cell}
use Rattle.ft_cells.specs.declared.cell.Cell.TheVariants.{Entry, Names, Parent, Links, Bytes, Fd, DirAttributes, FileAttributes}
use Rattle.ft_cells.specs.declared.node.Form.{Form}
use Rattle.ft_cells.specs.declared.node.Form.TheVariants.{Regular, Link as LinkForm}
use Rattle.ft_cells.specs.declared.node.Node.TheVariants.{Dir as DirNode, File as FileNode}
use Rattle.ft_cells.specs.declared.open_file.OpenFile.{OpenFile}
use Rattle.ft_cells.specs.Cells.{Cells, parent_of, bytes_of, open_of}
use Rattle.ft_cells.specs.declared.attributes.Attributes.{Attributes}
use Rattle.ft_cells.specs.declared.attributes.Timestamp.{Timestamp}
use Rattle.ft_tree.specs.Views.{view_of}
use Rattle.ft_cells.specs.Looks.{Looks, Answer, Look, answer, looked_at, then, or_else}
use Rattle.ft_cells.specs.declared.node.PathEnd.{PathEnd}
use Rattle.ft_cells.specs.declared.node.PathEnd.TheVariants.{Named as AtName, Itself}
use Rattle.ft_path.specs.FilePath.{target_parts}
use Rattle.ft_tree.specs.declared.reader.Way.{Way}
use Rattle.ft_tree.specs.declared.reader.TheConstants.{MOST_FOLLOWED}
use Rattle.ft_tree.specs.Walk.{Leg, Ends, Meets, halted, leg_from, leg, way_of, onward, ended, walk_on, up, passed, inner, reached, last, walk}
use Rattle.ft_tree.specs.Sound.{Hangs, the_root, AreSoundCells}
use Rattle.ft_posix.specs.declared.call.Call.{Call}
use Rattle.ft_posix.specs.declared.call.Call.TheVariants.{Mkdir, Rmdir, List as ListDir, Open, Close, Read, Write as WriteCall, Pread, Pwrite, Lseek, Truncate, Ftruncate, Stat, Fstat, Link, Unlink, Rename, Symlink, Readlink, Lstat, Chmod, Fchmod, Chown, Lchown, Fchown, Utime, Lutime, Futime}
use Rattle.ft_posix.specs.declared.call.OpenFlags.{OpenFlags}
use Rattle.ft_posix.specs.declared.call.Whence.{Whence}
use Rattle.ft_posix.specs.declared.call.Whence.TheVariants.{Set, Cur, End}
use Rattle.ft_posix.specs.declared.call.Reply.TheVariants.{Done}
use Rattle.ft_posix.specs.Outcomes.{Outcome, failed, told, from_parts, from_judged, unless}
use Rattle.ft_posix.specs.Attributes.{mode_fault, time_fault, with_mode, with_owner, change_file, change_spot, chmod_spot, chown_spot, chown_link, lchown_spot, fchmod_open, fchown_open, set_time, time_spot, utime_spot, lutime_spot, futime_open}
use Rattle.ft_posix.specs.Dirs.{make_dir, remove_dir, last_fault, remove_parts, list_dir}
use Rattle.ft_posix.specs.Links.{link_new, link_old, link_parts, unlink_spot, climb, unless_below, rename_fault, replace_dir, rename_file, rename_dir, rename_old, rename_parts}
use Rattle.ft_posix.specs.Symlinks.{target_fault, make_link, read_link}
use Rattle.ft_posix.specs.Files.{is_exclusive, open_spot, open_fault, open_parts, to_size, cut_file, truncate_spot, truncate_parts, file_info, stat_spot}
use Rattle.ft_posix.specs.Descriptors.{on_open, with_open, any_open, is_readable, is_writable, close_open, read_open, not_negative, pread_at, pread_open, write_place, write_at, write_open, pwrite_at, pwrite_open, seek_from, moved, sought, seek_open, ftruncate_open, fstat_open}
use Rattle.ft_posix.specs.Steps.{steps}
use Rattle.ft_posix.proofs.Named.{Named, by_entry, by_open}
use Rattle.ft_posix.proofs.Walked.{IsSpot, EndsWell, LegWell, start-hangs, leg-ends, walk-ends}

module _ (cells : Cells) where
  -- the plain tree shows the cell as the stored cells do: of contents and attributes of files it
  -- has those of files that are named alone
  abbrev pub IsShown : Cell → Type 0
  IsShown (Entry entry) = Unit {0}
  IsShown (Names d) = Unit {0}
  IsShown (Parent d) = Unit {0}
  IsShown (Links i) = Unit {0}
  IsShown (Bytes i) = Named cells i
  IsShown (Fd f) = Unit {0}
  IsShown (DirAttributes d) = Unit {0}
  IsShown (FileAttributes i) = Named cells i

  abbrev pub AllShown : List Cell → Type 0
  AllShown [] = Unit {0}
  AllShown (c ∷ cs) = IsShown c × AllShown cs

  module _ {A : Type 0} where
    -- all that is looked at is shown
    abbrev LooksWell : Looks A → Type 0
    LooksWell s = AllShown (looked_at s (view_of cells))

    -- whichever of two is taken
    either-shown : (b : Bool) (s t : Looks A) → LooksWell s → LooksWell t → LooksWell (cond b s t)
    either-shown true s t p q = p
    either-shown false s t p q = q

  -- and then what is looked at behind it
  then-shown : {A B : Type 0} (s : Looks A) (f : A → Looks B) → LooksWell s → LooksWell (f (answer s (view_of cells))) → LooksWell (then s f)
  then-shown (Answer x) f p q = q
  then-shown (Look c next) f p q = (p.0, then-shown (next (view_of cells c)) f p.1 q)

  or_else-shown : {A B E : Type 0} (fail : E → B) (go : A → Looks B) (r : Result A E) → ((x : A) → LooksWell (go x)) → LooksWell (or_else fail go r)
  or_else-shown fail go (Ok x) each = each x
  or_else-shown fail go (Err e) each = tt

  unless-shown : (fault : Option Errno) (go : Looks Outcome) → LooksWell go → LooksWell (unless fault go)
  unless-shown None go h = h
  unless-shown (Some e) go h = tt

  -- A walk looks at entries and parents alone.

  up-shown : (d : ℕ) → LooksWell (up d)
  up-shown d = either-shown (d == 1) (Answer 1) (Look (Parent d) (λ p. Answer (unwrap_or p 1))) tt (tt, tt)

  inner-shown : (d : ℕ) (name : List ℕ) → LooksWell (inner d name)
  inner-shown d name =
      either-shown (is_dot name) (Answer (Ok d)) _ tt
      (either-shown (is_dot_dot name) (then (up d) (λ p. Answer (Ok p))) (Look (Entry (entry_at d name)) (λ x. Answer (passed x))) (then-shown (up d) (λ p. Answer (Ok p)) (up-shown d) tt) (tt, tt))

  last-shown : (d : ℕ) (name : List ℕ) (follow slash : Bool) → LooksWell (last d name follow slash)
  last-shown d name follow slash =
      either-shown (is_dot name) (Answer (Ok (Itself d))) _ tt
      (either-shown (is_dot_dot name) (then (up d) (λ p. Answer (Ok (Itself p)))) (Look (Entry (entry_at d name)) (λ x. Answer (reached d name follow slash x))) (then-shown (up d) (λ p. Answer (Ok (Itself p))) (up-shown d) tt) (tt, tt))

  leg_from-shown : (names : List (List ℕ)) (d : ℕ) (name : List ℕ) (follow slash : Bool) → LooksWell (leg_from d name names follow slash)
  leg_from-shown [] d name follow slash =
      then-shown (last d name follow slash) (or_else (halted d []) (λ spot. Answer (Ends (Ok spot)))) (last-shown d name follow slash) (or_else-shown (halted d []) (λ spot. Answer (Ends (Ok spot))) _ (λ spot. tt))
  leg_from-shown (m ∷ ms) d name follow slash =
      let go : ℕ → Looks Leg = λ i. leg_from i m ms follow slash in
      then-shown (inner d name) (or_else (halted d (m ∷ ms)) go) (inner-shown d name) (or_else-shown (halted d (m ∷ ms)) go _ (λ i. leg_from-shown ms i m follow slash))

  leg-shown : (d : ℕ) (names : List (List ℕ)) (follow slash : Bool) → LooksWell (leg d names follow slash)
  leg-shown d [] follow slash = tt
  leg-shown d (name ∷ names) follow slash = leg_from-shown names d name follow slash

  -- and at the bytes of links that entries name
  module _ (sound : AreSoundCells cells) where
    way-shown : (go : ℕ → List (List ℕ) → Bool → Looks (Result PathEnd Errno)) → ((i : ℕ) (names : List (List ℕ)) (slash : Bool) → Hangs (parent_of cells) i → LooksWell (go i names slash))
        → (d : ℕ) (names : List (List ℕ)) (slash : Bool) (target : List ℕ) → Hangs (parent_of cells) d → (r : Result Parts Errno) → LooksWell (or_else Err (λ (way : Way). go way.start way.names way.slash) (way_of d names slash target r))
    way-shown go each d names slash target h (Ok parts) = each _ _ _ (start-hangs cells d target h)
    way-shown go each d names slash target h (Err e) = tt

    onward-shown : (go : ℕ → List (List ℕ) → Bool → Looks (Result PathEnd Errno)) → ((i : ℕ) (names : List (List ℕ)) (slash : Bool) → Hangs (parent_of cells) i → LooksWell (go i names slash)) → (slash : Bool) (end : Leg) → LegWell cells end → LooksWell (onward go slash end)
    onward-shown go each slash (Ends end) well = tt
    onward-shown go each slash (Meets link dir names) well = (well.0, way-shown go each dir names slash (bytes_of cells link) well.1 (target_parts (bytes_of cells link)))

    walk_on-shown : (left : ℕ) (follow : Bool) (d : ℕ) (names : List (List ℕ)) (slash : Bool) → Hangs (parent_of cells) d → LooksWell (walk_on left follow d names slash)
    walk_on-shown zero follow d names slash h = then-shown (leg d names follow slash) (λ end. Answer (ended end)) (leg-shown d names follow slash) tt
    walk_on-shown (suc left) follow d names slash h =
        then-shown (leg d names follow slash) (onward (walk_on left follow) slash) (leg-shown d names follow slash)
        (onward-shown (walk_on left follow) (λ i more after g. walk_on-shown left follow i more after g) slash (answer (leg d names follow slash) (view_of cells)) (leg-ends cells sound.tree d names follow slash h))

    walk-shown : (follow : Bool) (names : List (List ℕ)) (slash : Bool) → LooksWell (walk follow names slash)
    walk-shown follow names slash = walk_on-shown MOST_FOLLOWED follow 1 names slash the_root

  -- And a climb at parents.

  climb-shown : (n i d : ℕ) → LooksWell (climb n i d)
  climb-shown zero i d = tt
  climb-shown (suc n) i d = either-shown (d == i) (Answer true) _ tt (either-shown (d == 1) (Answer false) _ tt (tt, climb-shown n i _))

  unless_below-shown : (n i e : ℕ) (go : Looks Outcome) → LooksWell go → LooksWell (unless_below n i e go)
  unless_below-shown n i e go h =
      then-shown (climb n i e) (λ met. cond met (Answer (failed EINVAL)) go) (climb-shown n i e) (either-shown (answer (climb n i e) (view_of cells)) (Answer (failed EINVAL)) go tt h)

  -- A call looks at a file only that its path leads to, or its descriptor.

  remove_dir-shown : (spot : PathEnd) → IsSpot cells spot → LooksWell (remove_dir spot)
  remove_dir-shown (AtName entry None slash) h = tt
  remove_dir-shown (AtName entry (Some (DirNode i)) slash) h = (tt, tt)
  remove_dir-shown (AtName entry (Some (FileNode form i)) slash) h = tt
  remove_dir-shown (Itself d) h = tt

  make_dir-shown : (k : ℕ) (mode : Option ℕ) (spot : PathEnd) → IsSpot cells spot → LooksWell (make_dir k mode spot)
  make_dir-shown k mode (AtName entry None slash) h = tt
  make_dir-shown k mode (AtName entry (Some x) slash) h = tt
  make_dir-shown k mode (Itself d) h = tt

  list_dir-shown : (spot : PathEnd) → IsSpot cells spot → LooksWell (list_dir spot)
  list_dir-shown (AtName entry None slash) h = tt
  list_dir-shown (AtName entry (Some (DirNode i)) slash) h = (tt, tt)
  list_dir-shown (AtName entry (Some (FileNode form i)) slash) h = tt
  list_dir-shown (Itself d) h = (tt, tt)

  truncate_spot-shown : (size : ℕ) (spot : PathEnd) → IsSpot cells spot → LooksWell (truncate_spot size spot)
  truncate_spot-shown size (AtName entry None slash) h = tt
  truncate_spot-shown size (AtName entry (Some (DirNode i)) slash) h = tt
  truncate_spot-shown size (AtName entry (Some (FileNode LinkForm i)) slash) h = tt
  truncate_spot-shown size (AtName entry (Some (FileNode Regular i)) slash) h = (by_entry entry.dir entry.name i (sym h.1), tt)
  truncate_spot-shown size (Itself d) h = tt

  file_info-shown : (form : Form) (i : ℕ) → Named cells i → LooksWell (file_info form i)
  file_info-shown Regular i named = (tt, (named, (named, tt)))
  file_info-shown LinkForm i named = (tt, (named, tt))

  stat_spot-shown : (spot : PathEnd) → IsSpot cells spot → LooksWell (stat_spot spot)
  stat_spot-shown (AtName entry None slash) h = tt
  stat_spot-shown (AtName entry (Some (DirNode i)) slash) h = (tt, tt)
  stat_spot-shown (AtName entry (Some (FileNode form i)) slash) h = file_info-shown form i (by_entry entry.dir entry.name i (sym h.1))
  stat_spot-shown (Itself d) h = (tt, tt)

  change_spot-shown : (change : Attributes → Attributes) (at_link : Outcome) (spot : PathEnd) → IsSpot cells spot → LooksWell (change_spot change at_link spot)
  change_spot-shown change at_link (AtName entry None slash) h = tt
  change_spot-shown change at_link (AtName entry (Some (DirNode i)) slash) h = (tt, tt)
  change_spot-shown change at_link (AtName entry (Some (FileNode Regular i)) slash) h = (by_entry entry.dir entry.name i (sym h.1), tt)
  change_spot-shown change at_link (AtName entry (Some (FileNode LinkForm i)) slash) h = tt
  change_spot-shown change at_link (Itself d) h = (tt, tt)

  time_spot-shown : (fault : Errno) (time : Timestamp) (spot : PathEnd) → IsSpot cells spot → LooksWell (time_spot fault time spot)
  time_spot-shown fault time (AtName entry None slash) h = tt
  time_spot-shown fault time (AtName entry (Some (DirNode i)) slash) h = tt
  time_spot-shown fault time (AtName entry (Some (FileNode LinkForm i)) slash) h = tt
  time_spot-shown fault time (AtName entry (Some (FileNode Regular i)) slash) h = (by_entry entry.dir entry.name i (sym h.1), tt)
  time_spot-shown fault time (Itself d) h = tt

  make_link-shown : (k : ℕ) (target : List ℕ) (spot : PathEnd) → IsSpot cells spot → LooksWell (make_link k target spot)
  make_link-shown k target (AtName entry None slash) h = tt
  make_link-shown k target (AtName entry (Some x) slash) h = tt
  make_link-shown k target (Itself d) h = tt

  read_link-shown : (spot : PathEnd) → IsSpot cells spot → LooksWell (read_link spot)
  read_link-shown (AtName entry None slash) h = tt
  read_link-shown (AtName entry (Some (DirNode i)) slash) h = tt
  read_link-shown (AtName entry (Some (FileNode Regular i)) slash) h = tt
  read_link-shown (AtName entry (Some (FileNode LinkForm i)) slash) h = (by_entry entry.dir entry.name i (sym h.1), tt)
  read_link-shown (Itself d) h = tt

  link_new-shown : (limits : TreeLimits) (form : Form) (i : ℕ) (spot : PathEnd) → IsSpot cells spot → LooksWell (link_new limits form i spot)
  link_new-shown limits form i (AtName entry None slash) h = either-shown slash (Answer (failed ENOENT)) _ tt (tt, tt)
  link_new-shown limits form i (AtName entry (Some x) slash) h = tt
  link_new-shown limits form i (Itself d) h = tt

  unlink_spot-shown : (spot : PathEnd) → IsSpot cells spot → LooksWell (unlink_spot spot)
  unlink_spot-shown (AtName entry None slash) h = tt
  unlink_spot-shown (AtName entry (Some (DirNode i)) slash) h = tt
  unlink_spot-shown (AtName entry (Some (FileNode form i)) slash) h = (tt, tt)
  unlink_spot-shown (Itself d) h = tt

  rename_file-shown : (d : ℕ) (name : List ℕ) (form : Form) (i : ℕ) (spot : PathEnd) → IsSpot cells spot → LooksWell (rename_file (entry_at d name) form i spot)
  rename_file-shown d name form i (AtName entry None slash) h = tt
  rename_file-shown d name form i (AtName entry (Some (DirNode j)) slash) h = tt
  rename_file-shown d name form i (AtName entry (Some (FileNode kind j)) slash) h = either-shown (i == j) (Answer (told Done)) _ tt (tt, tt)
  rename_file-shown d name form i (Itself e) h = tt

  rename_dir-shown : (n d : ℕ) (name : List ℕ) (i : ℕ) (spot : PathEnd) → IsSpot cells spot → LooksWell (rename_dir n (entry_at d name) i spot)
  rename_dir-shown n d name i (AtName entry None slash) h = unless_below-shown n i entry.dir _ tt
  rename_dir-shown n d name i (AtName entry (Some (DirNode j)) slash) h = either-shown (i == j) (Answer (told Done)) _ tt (unless_below-shown n i entry.dir (replace_dir (entry_at d name) i entry j) (tt, tt))
  rename_dir-shown n d name i (AtName entry (Some (FileNode kind j)) slash) h = tt
  rename_dir-shown n d name i (Itself e) h = tt

  with_open-shown : (fd : ℕ) (fits : OpenFile → Bool) (go : OpenFile → Looks Outcome) → ((o : OpenFile) → Named cells o.file → LooksWell (go o)) → LooksWell (with_open fd fits go)
  with_open-shown fd fits go each = (tt, by_place (open_of cells fd) refl)
    where
      by_place : (place : Option OpenFile) → open_of cells fd ≡ place → LooksWell (on_open fits go place)
      by_place None is = tt
      by_place (Some o) is = either-shown (fits o) (go o) (Answer (failed EBADF)) (each o (by_open fd o is)) tt

  write_place-shown : (o : OpenFile) → Named cells o.file → LooksWell (write_place o)
  write_place-shown o named = either-shown o.append (Look (Bytes o.file) (λ contents. Answer (length contents.bytes))) (Answer o.offset) (named, tt) tt

  write_open-shown : (limits : TreeLimits) (fd : ℕ) (bytes : List ℕ) (o : OpenFile) → Named cells o.file → LooksWell (write_open limits fd bytes o)
  write_open-shown limits fd [] o named = tt
  write_open-shown limits fd (first ∷ more) o named =
      then-shown (write_place o) (write_at limits fd o (first ∷ more)) (write_place-shown o named)
      (either-shown (nat_le limits.file_size (answer (write_place o) (view_of cells))) (Answer (failed EFBIG)) _ tt (named, tt))

  pwrite_at-shown : (limits : TreeLimits) (o : OpenFile) → Named cells o.file → (bytes : List ℕ) (at : ℕ) → LooksWell (pwrite_at limits o bytes at)
  pwrite_at-shown limits o named [] at = tt
  pwrite_at-shown limits o named (first ∷ more) at = either-shown (nat_le limits.file_size at) (Answer (failed EFBIG)) _ tt (named, tt)

  seek_from-shown : (whence : Whence) (o : OpenFile) → Named cells o.file → LooksWell (seek_from whence o)
  seek_from-shown Set o named = tt
  seek_from-shown Cur o named = tt
  seek_from-shown End o named = (named, tt)

  module _ (sound : AreSoundCells cells) where
    spot-shown : (go : PathEnd → Looks Outcome) → ((spot : PathEnd) → IsSpot cells spot → LooksWell (go spot)) → (r : Result PathEnd Errno) → EndsWell cells r → LooksWell (or_else failed go r)
    spot-shown go each (Ok spot) h = each spot h
    spot-shown go each (Err e) h = tt

    from_parts-shown : (follow : Bool) (go : PathEnd → Looks Outcome) → ((spot : PathEnd) → IsSpot cells spot → LooksWell (go spot)) → (parts : Result Parts Errno) → LooksWell (from_parts follow parts go)
    from_parts-shown follow go each (Err e) = tt
    from_parts-shown follow go each (Ok parts) =
        then-shown (walk follow parts.names parts.trailing) (or_else failed go) (walk-shown sound follow parts.names parts.trailing)
        (spot-shown go each _ (walk-ends cells sound.tree follow parts.names parts.trailing))

    from_judged-shown : (fault : Option Errno) (follow : Bool) (go : PathEnd → Looks Outcome) → ((spot : PathEnd) → IsSpot cells spot → LooksWell (go spot)) → (parts : Result Parts Errno) → LooksWell (from_judged fault follow parts go)
    from_judged-shown fault follow go each (Err e) = tt
    from_judged-shown fault follow go each (Ok parts) = unless-shown fault (from_parts follow (Ok parts) go) (from_parts-shown follow go each (Ok parts))

    remove_parts-shown : (parts : Result Parts Errno) → LooksWell (remove_parts parts)
    remove_parts-shown (Err e) = tt
    remove_parts-shown (Ok parts) = unless-shown (last_fault (last_of parts.names)) (from_parts false (Ok parts) remove_dir) (from_parts-shown false remove_dir remove_dir-shown (Ok parts))

    open_parts-shown : (k : ℕ) (flags : OpenFlags) (parts : Result Parts Errno) → LooksWell (open_parts k flags parts)
    open_parts-shown k flags parts = from_judged-shown (open_fault flags) (not (is_exclusive flags)) (λ spot. Answer (open_spot k flags spot)) (λ spot h. tt) parts

    truncate_parts-shown : (limits : TreeLimits) (len : ℤ) (parts : Result Parts Errno) → LooksWell (truncate_parts limits len parts)
    truncate_parts-shown limits len (Err e) = tt
    truncate_parts-shown limits len (Ok parts) =
        or_else-shown failed (λ size. from_parts true (Ok parts) (truncate_spot size)) (to_size limits len) (λ size. from_parts-shown true (truncate_spot size) (truncate_spot-shown size) (Ok parts))

    -- A path leads on from where another one led.

    link_old-shown : (limits : TreeLimits) (new : Parts) (spot : PathEnd) → IsSpot cells spot → LooksWell (link_old limits new spot)
    link_old-shown limits new (AtName entry None slash) h = tt
    link_old-shown limits new (AtName entry (Some (DirNode i)) slash) h = tt
    link_old-shown limits new (AtName entry (Some (FileNode form i)) slash) h = from_parts-shown false (link_new limits form i) (link_new-shown limits form i) (Ok new)
    link_old-shown limits new (Itself d) h = tt

    link_parts-shown : (limits : TreeLimits) (old new : Result Parts Errno) → LooksWell (link_parts limits old new)
    link_parts-shown limits (Err e) new = tt
    link_parts-shown limits (Ok old) (Err e) = tt
    link_parts-shown limits (Ok old) (Ok new) = from_parts-shown false (link_old limits new) (link_old-shown limits new) (Ok old)

    rename_old-shown : (n : ℕ) (new : Parts) (spot : PathEnd) → IsSpot cells spot → LooksWell (rename_old n new spot)
    rename_old-shown n new (AtName entry None slash) h = tt
    rename_old-shown n new (AtName entry (Some (DirNode i)) slash) h = from_parts-shown false (rename_dir n entry i) (rename_dir-shown n entry.dir entry.name i) (Ok new)
    rename_old-shown n new (AtName entry (Some (FileNode form i)) slash) h = from_parts-shown false (rename_file entry form i) (rename_file-shown entry.dir entry.name form i) (Ok new)
    rename_old-shown n new (Itself d) h = tt

    rename_parts-shown : (n : ℕ) (old new : Result Parts Errno) → LooksWell (rename_parts n old new)
    rename_parts-shown n (Err e) new = tt
    rename_parts-shown n (Ok old) (Err e) = tt
    rename_parts-shown n (Ok old) (Ok new) =
        unless-shown (rename_fault (last_of old.names) (last_of new.names)) (from_parts false (Ok old) (rename_old n new)) (from_parts-shown false (rename_old n new) (rename_old-shown n new) (Ok old))

-- on sound cells each cell that a call looks at is one that the plain tree shows alike
pub call-looks : (limits : TreeLimits) (cells : Cells) → AreSoundCells cells → (n k : ℕ) (call : Call) → AllShown cells (looked_at (steps limits n k call) (view_of cells))
call-looks limits cells sound n k (Mkdir path mode) = from_judged-shown cells sound (mode_fault mode) false (make_dir k mode) (make_dir-shown cells k mode) (parts_of path)
call-looks limits cells sound n k (Rmdir path) = remove_parts-shown cells sound (parts_of path)
call-looks limits cells sound n k (ListDir path) = from_parts-shown cells sound true list_dir (list_dir-shown cells) (parts_of path)
call-looks limits cells sound n k (Open path flags) = open_parts-shown cells sound k flags (parts_of path)
call-looks limits cells sound n k (Close fd) = with_open-shown cells fd any_open (close_open fd) (λ o named. (tt, tt))
call-looks limits cells sound n k (Read fd len) = with_open-shown cells fd is_readable (read_open fd len) (λ o named. (named, tt))
call-looks limits cells sound n k (WriteCall fd bytes) = with_open-shown cells fd is_writable (write_open limits fd bytes) (write_open-shown cells limits fd bytes)
call-looks limits cells sound n k (Pread fd off len) =
    with_open-shown cells fd is_readable (pread_open off len) (λ o named. or_else-shown cells failed (pread_at len o) (not_negative off) (λ at. (named, tt)))
call-looks limits cells sound n k (Pwrite fd off bytes) =
    with_open-shown cells fd is_writable (pwrite_open limits off bytes) (λ o named. or_else-shown cells failed (pwrite_at limits o bytes) (not_negative off) (pwrite_at-shown cells limits o named bytes))
call-looks limits cells sound n k (Lseek fd whence off) =
    with_open-shown cells fd any_open (seek_open fd whence off) (λ o named. then-shown cells (seek_from whence o) (λ from. Answer (sought fd o (moved from off))) (seek_from-shown cells whence o named) tt)
call-looks limits cells sound n k (Truncate len path) = truncate_parts-shown cells sound limits len (parts_of path)
call-looks limits cells sound n k (Ftruncate fd len) =
    with_open-shown cells fd is_writable (ftruncate_open limits len) (λ o named. or_else-shown cells failed (cut_file o.file) (to_size limits len) (λ size. (named, tt)))
call-looks limits cells sound n k (Stat path) = from_parts-shown cells sound true stat_spot (stat_spot-shown cells) (parts_of path)
call-looks limits cells sound n k (Fstat fd) = with_open-shown cells fd any_open fstat_open (λ o named. file_info-shown cells Regular o.file named)
call-looks limits cells sound n k (Link old new) = link_parts-shown cells sound limits (parts_of old) (parts_of new)
call-looks limits cells sound n k (Unlink path) = from_parts-shown cells sound false unlink_spot (unlink_spot-shown cells) (parts_of path)
call-looks limits cells sound n k (Rename old new) = rename_parts-shown cells sound n (parts_of old) (parts_of new)
call-looks limits cells sound n k (Symlink target path) = from_judged-shown cells sound (target_fault target) false (make_link k target) (make_link-shown cells k target) (parts_of path)
call-looks limits cells sound n k (Readlink path) = from_parts-shown cells sound false read_link (read_link-shown cells) (parts_of path)
call-looks limits cells sound n k (Lstat path) = from_parts-shown cells sound false stat_spot (stat_spot-shown cells) (parts_of path)
call-looks limits cells sound n k (Chmod mode path) = from_judged-shown cells sound (mode_fault (Some mode)) true (chmod_spot mode) (change_spot-shown cells (with_mode mode) (failed ELOOP)) (parts_of path)
call-looks limits cells sound n k (Fchmod fd mode) =
    with_open-shown cells fd any_open (fchmod_open mode) (λ o named. unless-shown cells (mode_fault (Some mode)) (change_file (with_mode mode) o.file) (named, tt))
call-looks limits cells sound n k (Chown owner group path) = from_parts-shown cells sound true (chown_spot owner group) (change_spot-shown cells (with_owner owner group) (failed ELOOP)) (parts_of path)
call-looks limits cells sound n k (Lchown owner group path) = from_parts-shown cells sound false (lchown_spot owner group) (change_spot-shown cells (with_owner owner group) (chown_link owner group)) (parts_of path)
call-looks limits cells sound n k (Fchown fd owner group) = with_open-shown cells fd any_open (fchown_open owner group) (λ o named. (named, tt))
call-looks limits cells sound n k (Utime time path) = from_judged-shown cells sound (time_fault time) true (utime_spot time) (time_spot-shown cells ELOOP time) (parts_of path)
call-looks limits cells sound n k (Lutime time path) = from_judged-shown cells sound (time_fault time) false (lutime_spot time) (time_spot-shown cells EINVAL time) (parts_of path)
call-looks limits cells sound n k (Futime fd time) = with_open-shown cells fd any_open (futime_open time) (λ o named. unless-shown cells (time_fault time) (set_time time o.file) (named, tt))
