-- The names of a directory are never set.
use Rattle.std.proofs.Common.{ℕ, Bool, true, false, cond, not, ◌&&◌, ℤ, nat_le, List, [], ◌∷◌, map, inl, inr, Option, Some, None, unwrap_or, Result, Ok, Err, sym, subst}
use Rattle.std.specs.Prelude.{◌==◌, nat_lt}
use Rattle.ft_laws.specs.Lists.{Each, In}
use Rattle.ft_body.specs.Bytes.{fitting}
use Rattle.ft_path.specs.declared.errno.Errno.{Errno}
use Rattle.ft_path.specs.declared.path.Parts.{Parts}
use Rattle.ft_path.specs.FilePath.{parts_of, last_of}
use Rattle.ft_cells.specs.declared.limits.TreeLimits.{TreeLimits}
use Rattle.ft_cells.specs.Entries.{entry_at}
use Rattle.ft_cells.specs.declared.cell.Cell.{Cell}
use Rattle.ft_cells.specs.declared.cell.Cell.TheVariants.{Entry, Names, Parent, Links, Bytes, Fd, DirAttributes, FileAttributes}
use Rattle.ft_cells.specs.declared.node.Node.{Node}
use Rattle.ft_cells.specs.declared.node.Form.{Form}
use Rattle.ft_cells.specs.declared.node.Form.TheVariants.{Regular, Link as LinkForm}
use Rattle.ft_cells.specs.declared.node.Node.TheVariants.{Dir as DirNode, File as FileNode}
use Rattle.ft_cells.specs.declared.open_file.OpenFile.{OpenFile}
use Rattle.ft_cells.specs.Looks.{Looks, Answer, Look, View, answer, then, or_else}
use Rattle.ft_cells.specs.declared.node.PathEnd.{PathEnd}
use Rattle.ft_cells.specs.declared.node.PathEnd.TheVariants.{Named, Itself}
use Rattle.ft_tree.specs.Walk.{walk}
use Rattle.ft_posix.specs.declared.TheConstants.{LAST_OFFSET}
use Rattle.ft_posix.specs.declared.call.Call.{Call}
use Rattle.ft_posix.specs.declared.call.Call.TheVariants.{Mkdir, Rmdir, List as ListDir, Open, Close, Read, Write as WriteCall, Pread, Pwrite, Lseek, Truncate, Ftruncate, Stat, Fstat, Link, Unlink, Rename, Symlink, Readlink, Lstat, Chmod, Fchmod, Chown, Lchown, Fchown, Utime, Lutime, Futime}
use Rattle.ft_posix.specs.declared.call.OpenFlags.{OpenFlags}
use Rattle.ft_posix.specs.declared.call.Whence.{Whence}
use Rattle.ft_posix.specs.Outcomes.{Write, Outcome, failed, from_parts, from_judged, unless}
use Rattle.ft_path.specs.declared.errno.Errno.TheVariants.{EINVAL, ELOOP}
use Rattle.ft_cells.specs.declared.attributes.Attributes.{Attributes}
use Rattle.ft_cells.specs.declared.attributes.Timestamp.{Timestamp}
use Rattle.ft_posix.specs.Attributes.{mode_fault, time_fault, with_mode, with_owner, dir_mode, file_mode, change_file, change_spot, chmod_spot, chown_spot, chown_link, lchown_spot, fchmod_open, fchown_open, set_time, time_spot, utime_spot, lutime_spot, futime_open}
use Rattle.ft_posix.specs.Accesses.{written_cell}
use Rattle.ft_posix.specs.Dirs.{make_dir, if_empty, remove_dir, last_fault, remove_parts, list_dir}
use Rattle.ft_posix.specs.Symlinks.{target_fault, make_link, read_link}
use Rattle.ft_posix.specs.Files.{open_node, is_exclusive, open_spot, open_fault, open_parts, to_size, cut_file, truncate_spot, truncate_parts, stat_spot}
use Rattle.ft_posix.specs.Descriptors.{on_open, with_open, any_open, is_readable, is_writable, close_open, read_open, not_negative, pread_at, pread_open, write_place, write_at, has_written, write_open, has_pwritten, pwrite_at, pwrite_open, seek_from, moved, sought, seek_open, ftruncate_open, fstat_open}
use Rattle.ft_posix.specs.Links.{link_at, link_new, link_old, link_parts, unlink_spot, rename_fault, climb, unless_below, with_parent, replace_file, if_bare, replace_dir, rename_file, rename_dir, rename_old, rename_parts}
use Rattle.ft_posix.specs.Steps.{steps}

-- a cell that calls may set
abbrev IsSettable : Cell → Type 0
IsSettable (Entry entry) = Unit {0}
IsSettable (Names d) = ⊥
IsSettable (Parent d) = Unit {0}
IsSettable (Links i) = Unit {0}
IsSettable (Bytes i) = Unit {0}
IsSettable (Fd f) = Unit {0}
IsSettable (DirAttributes d) = Unit {0}
IsSettable (FileAttributes i) = Unit {0}

abbrev AreSettable : List Write → Type 0
AreSettable = Each (λ w. IsSettable w.cell)

-- what is set where the looks lead
abbrev Sets : Looks Outcome → Type 0
Sets s = (v : View) → AreSettable (answer s v).writes

-- Choices.

one-of : (b : Bool) (s t : Looks Outcome) → Sets s → Sets t → Sets (cond b s t)
one-of true s t p q = p
one-of false s t p q = q

one-outcome : (b : Bool) (o p : Outcome) → AreSettable o.writes → AreSettable p.writes → AreSettable (cond b o p).writes
one-outcome true o p x y = x
one-outcome false o p x y = y

one-list : (b : Bool) (xs ys : List Write) → AreSettable xs → AreSettable ys → AreSettable (cond b xs ys)
one-list true xs ys x y = x
one-list false xs ys x y = y

then-sets : {A : Type 0} (s : Looks A) (f : A → Looks Outcome) → ((x : A) → Sets (f x)) → Sets (then s f)
then-sets (Answer x) f h v = h x v
then-sets (Look c next) f h v = then-sets (next (v c)) f h v

or_else-sets : {A : Type 0} (f : A → Looks Outcome) → ((x : A) → Sets (f x)) → (r : Result A Errno) → Sets (or_else failed f r)
or_else-sets f h (Ok x) v = h x v
or_else-sets f h (Err e) v = tt

from_parts-sets : (follow : Bool) (r : Result Parts Errno) (go : PathEnd → Looks Outcome) → ((spot : PathEnd) → Sets (go spot)) → Sets (from_parts follow r go)
from_parts-sets follow (Err e) go h v = tt
from_parts-sets follow (Ok parts) go h v = then-sets (walk follow parts.names parts.trailing) (or_else failed go) (or_else-sets go h) v

unless-sets : (o : Option Errno) (go : Looks Outcome) → Sets go → Sets (unless o go)
unless-sets None go h v = h v
unless-sets (Some e) go h v = tt

from_judged-sets : (fault : Option Errno) (follow : Bool) (r : Result Parts Errno) (go : PathEnd → Looks Outcome) → ((spot : PathEnd) → Sets (go spot)) → Sets (from_judged fault follow r go)
from_judged-sets fault follow (Err e) go h v = tt
from_judged-sets fault follow (Ok parts) go h v = unless-sets fault (from_parts follow (Ok parts) go) (from_parts-sets follow (Ok parts) go h) v

-- Directories.

dir_mode-sets : (dir : ℕ) (mode : Option ℕ) → AreSettable (dir_mode dir mode)
dir_mode-sets dir None = tt
dir_mode-sets dir (Some mode) = (tt, tt)

make_dir-sets : (stamp : ℕ) (mode : Option ℕ) (spot : PathEnd) → Sets (make_dir stamp mode spot)
make_dir-sets stamp mode (Named entry None slash) v = (tt, (tt, dir_mode-sets stamp mode))
make_dir-sets stamp mode (Named entry (Some x) slash) v = tt
make_dir-sets stamp mode (Itself dir) v = tt

if_empty-sets : (dir : ℕ) (name : List ℕ) (number : ℕ) (names : List (List ℕ × Node)) → AreSettable (if_empty (entry_at dir name) number names).writes
if_empty-sets dir name number [] = (tt, (tt, (tt, tt)))
if_empty-sets dir name number (e ∷ es) = tt

remove_dir-sets : (spot : PathEnd) → Sets (remove_dir spot)
remove_dir-sets (Named entry None slash) v = tt
remove_dir-sets (Named entry (Some (FileNode form number)) slash) v = tt
remove_dir-sets (Named entry (Some (DirNode number)) slash) v = if_empty-sets entry.dir entry.name number (v (Names number))
remove_dir-sets (Itself dir) v = tt

remove_parts-sets : (r : Result Parts Errno) → Sets (remove_parts r)
remove_parts-sets (Err e) v = tt
remove_parts-sets (Ok parts) v = unless-sets (last_fault (last_of parts.names)) (from_parts false (Ok parts) remove_dir) (from_parts-sets false (Ok parts) remove_dir remove_dir-sets) v

list_dir-sets : (spot : PathEnd) → Sets (list_dir spot)
list_dir-sets (Named entry None slash) v = tt
list_dir-sets (Named entry (Some (FileNode form number)) slash) v = tt
list_dir-sets (Named entry (Some (DirNode number)) slash) v = tt
list_dir-sets (Itself dir) v = tt

-- Files.

file_mode-sets : (file : ℕ) (mode : Option ℕ) → AreSettable (file_mode file mode)
file_mode-sets file None = tt
file_mode-sets file (Some mode) = (tt, tt)

open_node-sets : (stamp : ℕ) (flags : OpenFlags) (x : Node) → AreSettable (open_node stamp flags x).writes
open_node-sets stamp flags (DirNode file) = tt
open_node-sets stamp flags (FileNode LinkForm file) = tt
open_node-sets stamp flags (FileNode Regular file) = (tt, one-list flags.trunc _ _ (tt, tt) tt)

open_spot-sets : (stamp : ℕ) (flags : OpenFlags) (spot : PathEnd) → AreSettable (open_spot stamp flags spot).writes
open_spot-sets stamp flags (Named entry None slash) = one-outcome (flags.create && not slash) _ _ (tt, (tt, (tt, (tt, file_mode-sets stamp flags.mode)))) tt
open_spot-sets stamp flags (Named entry (Some x) slash) = one-outcome (is_exclusive flags) _ _ tt (open_node-sets stamp flags x)
open_spot-sets stamp flags (Itself dir) = one-outcome (is_exclusive flags) _ _ tt tt

open_parts-sets : (stamp : ℕ) (flags : OpenFlags) (r : Result Parts Errno) → Sets (open_parts stamp flags r)
open_parts-sets stamp flags r v = from_judged-sets (open_fault flags) (not (is_exclusive flags)) r (λ spot. Answer (open_spot stamp flags spot)) (λ spot v. open_spot-sets stamp flags spot) v

truncate_spot-sets : (size : ℕ) (spot : PathEnd) → Sets (truncate_spot size spot)
truncate_spot-sets size (Named entry None slash) v = tt
truncate_spot-sets size (Named entry (Some (DirNode file)) slash) v = tt
truncate_spot-sets size (Named entry (Some (FileNode LinkForm file)) slash) v = tt
truncate_spot-sets size (Named entry (Some (FileNode Regular file)) slash) v = (tt, tt)
truncate_spot-sets size (Itself dir) v = tt

truncate_parts-sets : (limits : TreeLimits) (len : ℤ) (r : Result Parts Errno) → Sets (truncate_parts limits len r)
truncate_parts-sets limits len (Err e) v = tt
truncate_parts-sets limits len (Ok parts) v = or_else-sets (λ size. from_parts true (Ok parts) (truncate_spot size)) (λ size. from_parts-sets true (Ok parts) (truncate_spot size) (truncate_spot-sets size)) (to_size limits len) v

stat_spot-sets : (spot : PathEnd) → Sets (stat_spot spot)
stat_spot-sets (Named entry None slash) v = tt
stat_spot-sets (Named entry (Some (DirNode file)) slash) v = tt
stat_spot-sets (Named entry (Some (FileNode Regular file)) slash) v = tt
stat_spot-sets (Named entry (Some (FileNode LinkForm file)) slash) v = tt
stat_spot-sets (Itself dir) v = tt

-- Attributes and times.

change_spot-sets : (change : Attributes → Attributes) (at_link : Outcome) → AreSettable at_link.writes → (spot : PathEnd) → Sets (change_spot change at_link spot)
change_spot-sets change at_link h (Named entry None slash) v = tt
change_spot-sets change at_link h (Named entry (Some (DirNode dir)) slash) v = (tt, tt)
change_spot-sets change at_link h (Named entry (Some (FileNode Regular file)) slash) v = (tt, tt)
change_spot-sets change at_link h (Named entry (Some (FileNode LinkForm file)) slash) v = h
change_spot-sets change at_link h (Itself dir) v = (tt, tt)

time_spot-sets : (fault : Errno) (time : Timestamp) (spot : PathEnd) → Sets (time_spot fault time spot)
time_spot-sets fault time (Named entry None slash) v = tt
time_spot-sets fault time (Named entry (Some (DirNode dir)) slash) v = tt
time_spot-sets fault time (Named entry (Some (FileNode Regular file)) slash) v = (tt, tt)
time_spot-sets fault time (Named entry (Some (FileNode LinkForm file)) slash) v = tt
time_spot-sets fault time (Itself dir) v = tt

-- Descriptors.

on_open-sets : (fits : OpenFile → Bool) (go : OpenFile → Looks Outcome) → ((o : OpenFile) → Sets (go o)) → (place : Option OpenFile) → Sets (on_open fits go place)
on_open-sets fits go h None v = tt
on_open-sets fits go h (Some o) v = one-of (fits o) (go o) _ (h o) (λ v. tt) v

with_open-sets : (fd : ℕ) (fits : OpenFile → Bool) (go : OpenFile → Looks Outcome) → ((o : OpenFile) → Sets (go o)) → Sets (with_open fd fits go)
with_open-sets fd fits go h v = on_open-sets fits go h (v (Fd fd)) v

write_at-sets : (limits : TreeLimits) (fd : ℕ) (o : OpenFile) (bytes : List ℕ) (at : ℕ) → Sets (write_at limits fd o bytes at)
write_at-sets limits fd o bytes at = one-of (nat_le limits.file_size at) _ (Look (Bytes o.file) (λ old. Answer (has_written fd o at (fitting limits.file_size bytes at) old.bytes))) (λ v. tt) (λ v. (tt, (tt, tt)))

write_open-sets : (limits : TreeLimits) (fd : ℕ) (bytes : List ℕ) (o : OpenFile) → Sets (write_open limits fd bytes o)
write_open-sets limits fd [] o v = tt
write_open-sets limits fd (first ∷ more) o v = then-sets (write_place o) (write_at limits fd o (first ∷ more)) (write_at-sets limits fd o (first ∷ more)) v

pwrite_at-sets : (limits : TreeLimits) (o : OpenFile) (bytes : List ℕ) (at : ℕ) → Sets (pwrite_at limits o bytes at)
pwrite_at-sets limits o [] at v = tt
pwrite_at-sets limits o (first ∷ more) at v = one-of (nat_le limits.file_size at) _ (Look (Bytes o.file) (λ old. Answer (has_pwritten o at (fitting limits.file_size (first ∷ more) at) old.bytes))) (λ v. tt) (λ v. (tt, tt)) v

sought-sets : (fd : ℕ) (o : OpenFile) (to : Option ℕ) → AreSettable (sought fd o to).writes
sought-sets fd o None = tt
sought-sets fd o (Some at) = one-outcome (nat_le at LAST_OFFSET) _ _ (tt, tt) tt

seek_open-sets : (fd : ℕ) (whence : Whence) (off : ℤ) (o : OpenFile) → Sets (seek_open fd whence off o)
seek_open-sets fd whence off o = then-sets (seek_from whence o) (λ from. Answer (sought fd o (moved from off))) (λ from v. sought-sets fd o (moved from off))

-- Links.

link_new-sets : (limits : TreeLimits) (form : Form) (file : ℕ) (spot : PathEnd) → Sets (link_new limits form file spot)
link_new-sets limits form file (Named entry None slash) v =
    one-of slash _ (Look (Links file) (λ links. Answer (link_at limits form file entry links))) (λ v. tt) (λ v. one-outcome (nat_lt (v (Links file)) limits.links) _ _ (tt, (tt, tt)) tt) v
link_new-sets limits form file (Named entry (Some x) slash) v = tt
link_new-sets limits form file (Itself dir) v = tt

link_old-sets : (limits : TreeLimits) (new : Parts) (spot : PathEnd) → Sets (link_old limits new spot)
link_old-sets limits new (Named entry None slash) v = tt
link_old-sets limits new (Named entry (Some (DirNode file)) slash) v = tt
link_old-sets limits new (Named entry (Some (FileNode form file)) slash) v = from_parts-sets false (Ok new) (link_new limits form file) (link_new-sets limits form file) v
link_old-sets limits new (Itself dir) v = tt

link_parts-sets : (limits : TreeLimits) (old new : Result Parts Errno) → Sets (link_parts limits old new)
link_parts-sets limits (Err e) new v = tt
link_parts-sets limits (Ok old) (Err e) v = tt
link_parts-sets limits (Ok old) (Ok new) v = from_parts-sets false (Ok old) (link_old limits new) (link_old-sets limits new) v

unlink_spot-sets : (spot : PathEnd) → Sets (unlink_spot spot)
unlink_spot-sets (Named entry None slash) v = tt
unlink_spot-sets (Named entry (Some (DirNode file)) slash) v = tt
unlink_spot-sets (Named entry (Some (FileNode form file)) slash) v = (tt, (tt, tt))
unlink_spot-sets (Itself dir) v = tt

with_parent-sets : (moved dir into : ℕ) → AreSettable (with_parent moved dir into)
with_parent-sets moved dir into = one-list (dir == into) _ _ tt (tt, tt)

unless_below-sets : (most moved into : ℕ) (go : Looks Outcome) → Sets go → Sets (unless_below most moved into go)
unless_below-sets most moved into go h = then-sets (climb most moved into) (λ met. cond met (Answer (failed _)) go) (λ met. one-of met _ go (λ v. tt) h)

rename_file-sets : (dir : ℕ) (name : List ℕ) (form : Form) (moved : ℕ) (spot : PathEnd) → Sets (rename_file (entry_at dir name) form moved spot)
rename_file-sets dir name form moved (Named entry None slash) v = one-outcome slash _ _ tt (tt, (tt, tt))
rename_file-sets dir name form moved (Named entry (Some (FileNode kind replaced)) slash) v =
    one-of (moved == replaced) _ (replace_file (entry_at dir name) (FileNode form moved) entry replaced) (λ v. tt) (λ v. (tt, (tt, (tt, tt)))) v
rename_file-sets dir name form moved (Named entry (Some (DirNode replaced)) slash) v = tt
rename_file-sets dir name form moved (Itself into) v = tt

if_bare-sets : (dir : ℕ) (name : List ℕ) (moved into : ℕ) (other : List ℕ) (replaced : ℕ) (names : List (List ℕ × Node)) → AreSettable (if_bare (entry_at dir name) moved (entry_at into other) replaced names).writes
if_bare-sets dir name moved into other replaced [] = (tt, (tt, (tt, (tt, with_parent-sets moved dir into))))
if_bare-sets dir name moved into other replaced (e ∷ es) = tt

rename_dir-sets : (most dir : ℕ) (name : List ℕ) (moved : ℕ) (spot : PathEnd) → Sets (rename_dir most (entry_at dir name) moved spot)
rename_dir-sets most dir name moved (Named entry None slash) v = unless_below-sets most moved entry.dir _ (λ v. (tt, (tt, with_parent-sets moved dir entry.dir))) v
rename_dir-sets most dir name moved (Named entry (Some (FileNode kind replaced)) slash) v = tt
rename_dir-sets most dir name moved (Named entry (Some (DirNode replaced)) slash) v =
    let go = replace_dir (entry_at dir name) moved entry replaced in
    one-of (moved == replaced) _ (unless_below most moved entry.dir go) (λ v. tt) (unless_below-sets most moved entry.dir go (λ v. if_bare-sets dir name moved entry.dir entry.name replaced (v (Names replaced)))) v
rename_dir-sets most dir name moved (Itself into) v = tt

rename_old-sets : (most : ℕ) (new : Parts) (spot : PathEnd) → Sets (rename_old most new spot)
rename_old-sets most new (Named entry None slash) v = tt
rename_old-sets most new (Named entry (Some (FileNode form moved)) slash) v = from_parts-sets false (Ok new) (rename_file entry form moved) (rename_file-sets entry.dir entry.name form moved) v
rename_old-sets most new (Named entry (Some (DirNode moved)) slash) v = from_parts-sets false (Ok new) (rename_dir most entry moved) (rename_dir-sets most entry.dir entry.name moved) v
rename_old-sets most new (Itself dir) v = tt

rename_parts-sets : (most : ℕ) (old new : Result Parts Errno) → Sets (rename_parts most old new)
rename_parts-sets most (Err e) new v = tt
rename_parts-sets most (Ok old) (Err e) v = tt
rename_parts-sets most (Ok old) (Ok new) v = unless-sets (rename_fault (last_of old.names) (last_of new.names)) (from_parts false (Ok old) (rename_old most new)) (from_parts-sets false (Ok old) (rename_old most new) (rename_old-sets most new)) v

-- Symbolic links.

make_link-sets : (stamp : ℕ) (target : List ℕ) (spot : PathEnd) → Sets (make_link stamp target spot)
make_link-sets stamp target (Named entry None slash) v = one-outcome slash _ _ tt (tt, (tt, (tt, tt)))
make_link-sets stamp target (Named entry (Some x) slash) v = tt
make_link-sets stamp target (Itself dir) v = tt

read_link-sets : (spot : PathEnd) → Sets (read_link spot)
read_link-sets (Named entry None slash) v = tt
read_link-sets (Named entry (Some (DirNode file)) slash) v = tt
read_link-sets (Named entry (Some (FileNode Regular file)) slash) v = tt
read_link-sets (Named entry (Some (FileNode LinkForm file)) slash) v = tt
read_link-sets (Itself dir) v = tt

-- All calls.

call-sets : (limits : TreeLimits) (most stamp : ℕ) (call : Call) → Sets (steps limits most stamp call)
call-sets limits most stamp (Mkdir path mode) = from_judged-sets (mode_fault mode) false (parts_of path) (make_dir stamp mode) (make_dir-sets stamp mode)
call-sets limits most stamp (Rmdir path) = remove_parts-sets (parts_of path)
call-sets limits most stamp (ListDir path) = from_parts-sets true (parts_of path) list_dir list_dir-sets
call-sets limits most stamp (Open path flags) = open_parts-sets stamp flags (parts_of path)
call-sets limits most stamp (Close fd) = with_open-sets fd any_open (close_open fd) (λ o v. (tt, tt))
call-sets limits most stamp (Read fd len) = with_open-sets fd is_readable (read_open fd len) (λ o v. (tt, tt))
call-sets limits most stamp (WriteCall fd bytes) = with_open-sets fd is_writable (write_open limits fd bytes) (write_open-sets limits fd bytes)
call-sets limits most stamp (Pread fd off len) = with_open-sets fd is_readable (pread_open off len) (λ o. or_else-sets (pread_at len o) (λ at v. tt) (not_negative off))
call-sets limits most stamp (Pwrite fd off bytes) = with_open-sets fd is_writable (pwrite_open limits off bytes) (λ o. or_else-sets (pwrite_at limits o bytes) (pwrite_at-sets limits o bytes) (not_negative off))
call-sets limits most stamp (Lseek fd whence off) = with_open-sets fd any_open (seek_open fd whence off) (seek_open-sets fd whence off)
call-sets limits most stamp (Truncate len path) = truncate_parts-sets limits len (parts_of path)
call-sets limits most stamp (Ftruncate fd len) = with_open-sets fd is_writable (ftruncate_open limits len) (λ o. or_else-sets (cut_file o.file) (λ size v. (tt, tt)) (to_size limits len))
call-sets limits most stamp (Stat path) = from_parts-sets true (parts_of path) stat_spot stat_spot-sets
call-sets limits most stamp (Fstat fd) = with_open-sets fd any_open fstat_open (λ o v. tt)
call-sets limits most stamp (Link old new) = link_parts-sets limits (parts_of old) (parts_of new)
call-sets limits most stamp (Unlink path) = from_parts-sets false (parts_of path) unlink_spot unlink_spot-sets
call-sets limits most stamp (Rename old new) = rename_parts-sets most (parts_of old) (parts_of new)
call-sets limits most stamp (Symlink target path) = from_judged-sets (target_fault target) false (parts_of path) (make_link stamp target) (make_link-sets stamp target)
call-sets limits most stamp (Readlink path) = from_parts-sets false (parts_of path) read_link read_link-sets
call-sets limits most stamp (Lstat path) = from_parts-sets false (parts_of path) stat_spot stat_spot-sets
call-sets limits most stamp (Chmod mode path) = from_judged-sets (mode_fault (Some mode)) true (parts_of path) (chmod_spot mode) (change_spot-sets (with_mode mode) (failed ELOOP) tt)
call-sets limits most stamp (Fchmod fd mode) = with_open-sets fd any_open (fchmod_open mode) (λ o. unless-sets (mode_fault (Some mode)) (change_file (with_mode mode) o.file) (λ v. (tt, tt)))
call-sets limits most stamp (Chown owner group path) = from_parts-sets true (parts_of path) (chown_spot owner group) (change_spot-sets (with_owner owner group) (failed ELOOP) tt)
call-sets limits most stamp (Lchown owner group path) =
    from_parts-sets false (parts_of path) (lchown_spot owner group)
    (change_spot-sets (with_owner owner group) (chown_link owner group) (one-outcome ((unwrap_or owner 0 == 0) && (unwrap_or group 0 == 0)) _ _ tt tt))
call-sets limits most stamp (Fchown fd owner group) = with_open-sets fd any_open (fchown_open owner group) (λ o v. (tt, tt))
call-sets limits most stamp (Utime time path) = from_judged-sets (time_fault time) true (parts_of path) (utime_spot time) (time_spot-sets ELOOP time)
call-sets limits most stamp (Lutime time path) = from_judged-sets (time_fault time) false (parts_of path) (lutime_spot time) (time_spot-sets EINVAL time)
call-sets limits most stamp (Futime fd time) = with_open-sets fd any_open (futime_open time) (λ o. unless-sets (time_fault time) (set_time time o.file) (λ v. (tt, tt)))

-- none of them is the names of a directory
no-names : (ws : List Write) → AreSettable ws → (d : ℕ) → In (Names d) (map written_cell ws) → ⊥
no-names [] each d i = absurd i
no-names (w ∷ ws) each d (inl is) = subst IsSettable (sym is) each.0
no-names (w ∷ ws) each d (inr i) = no-names ws each.1 d i

pub names-not_written : (limits : TreeLimits) (most stamp : ℕ) (call : Call) (v : View) (d : ℕ) → In (Names d) (map written_cell (answer (steps limits most stamp call) v).writes) → ⊥
names-not_written limits most stamp call v d i = no-names (answer (steps limits most stamp call) v).writes (call-sets limits most stamp call v) d i
