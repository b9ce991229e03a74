-- What each call comes upon.
use Rattle.std.proofs.Common.{◌≡◌, ℕ, true, false, List, Some}
use Rattle.ft_laws.specs.Lists.{In}
use Rattle.ft_laws.proofs.Lists.{Each-map, Each-from}
use Rattle.ft_path.specs.FilePath.{parts_of}
use Rattle.ft_cells.specs.declared.cell.Cell.{Cell}
use Rattle.ft_cells.specs.Cells.{Cells}
use Rattle.ft_tree.specs.Views.{view_of}
use Rattle.ft_cells.specs.Looks.{answer, looked_at}
use Rattle.ft_tree.specs.Sound.{IsFree}
use Rattle.ft_posix.specs.declared.call.Call.{Call}
use Rattle.ft_posix.specs.declared.call.Call.TheVariants.{Mkdir, Rmdir, List as ListDir, Open, Close, Read, Write as WriteCall, Pread, Pwrite, Lseek, Truncate, Ftruncate, Stat, Fstat, Link, Unlink, Rename, Symlink, Readlink, Lstat, Chmod, Fchmod, Chown, Lchown, Fchown, Utime, Lutime, Futime}
use Rattle.ft_posix.specs.Dirs.{make_dir, list_dir}
use Rattle.ft_posix.specs.Links.{unlink_spot}
use Rattle.ft_path.specs.declared.errno.Errno.TheVariants.{EINVAL, ELOOP}
use Rattle.ft_posix.specs.Outcomes.{failed}
use Rattle.ft_posix.specs.Attributes.{mode_fault, time_fault, with_mode, with_owner, chmod_spot, chown_spot, chown_link, lchown_spot, fchmod_open, fchown_open, utime_spot, lutime_spot, futime_open}
use Rattle.ft_posix.specs.Symlinks.{target_fault, make_link, read_link}
use Rattle.ft_posix.specs.Files.{stat_spot}
use Rattle.ft_posix.specs.Descriptors.{any_open, is_readable, is_writable, close_open, read_open, pread_open, write_open, pwrite_open, seek_open, ftruncate_open, fstat_open}
use Rattle.ft_posix.specs.Steps.{steps}
use Rattle.ft_posix.specs.Accesses.{written_cell}
use Rattle.ft_posix.specs.Posix.{file_of, names_file}
use Rattle.ft_posix.proofs.Upon.{Upon, EachCallUpon}
use Rattle.ft_posix.proofs.WritesUpon.{IsUpon, upon-cell, upon-name, upon-lost}
use Rattle.ft_posix.proofs.FilesUpon.{GoesUpon, from_parts-goes, from_judged-goes, make_link-goes, read_link-goes, make_dir-goes, change_spot-goes, chown_link-goes, change_open-goes, fchmod_open-goes, time_spot-goes, futime_open-goes, remove_parts-goes, list_dir-goes, open_parts-goes, with_open-goes, close_open-goes, read_open-goes, pread_open-goes, write_open-goes, pwrite_open-goes, seek_open-goes, truncate_parts-goes, ftruncate_open-goes, stat_spot-goes, fstat_open-goes}
use Rattle.ft_posix.proofs.LinksUpon.{link_parts-goes, unlink_spot-goes, rename_parts-goes}
use Rattle.ft_posix.proofs.Free.{no_open}

-- where all that a call looks at is seen, it comes upon its files
call-goes : (cells : Cells) (k : ℕ) (seen : List Cell) → IsFree cells k → (n : ℕ) (call : Call) → GoesUpon cells k seen (steps cells.limits n k call)
call-goes cells k seen free n (Mkdir path mode) = from_judged-goes cells k seen (mode_fault mode) false (make_dir k mode) (make_dir-goes cells k seen mode) (parts_of path)
call-goes cells k seen free n (Rmdir path) = remove_parts-goes cells k seen (parts_of path)
call-goes cells k seen free n (ListDir path) = from_parts-goes cells k seen true list_dir (list_dir-goes cells k seen) (parts_of path)
call-goes cells k seen free n (Open path flags) = open_parts-goes cells k seen (no_open free) flags (parts_of path)
call-goes cells k seen free n (Close fd) = with_open-goes cells k seen fd any_open (close_open fd) (close_open-goes cells k seen fd)
call-goes cells k seen free n (Read fd len) = with_open-goes cells k seen fd is_readable (read_open fd len) (read_open-goes cells k seen fd len)
call-goes cells k seen free n (WriteCall fd bytes) = with_open-goes cells k seen fd is_writable (write_open cells.limits fd bytes) (write_open-goes cells k seen cells.limits fd bytes)
call-goes cells k seen free n (Pread fd off len) = with_open-goes cells k seen fd is_readable (pread_open off len) (pread_open-goes cells k seen off fd len)
call-goes cells k seen free n (Pwrite fd off bytes) = with_open-goes cells k seen fd is_writable (pwrite_open cells.limits off bytes) (pwrite_open-goes cells k seen cells.limits off fd bytes)
call-goes cells k seen free n (Lseek fd whence off) = with_open-goes cells k seen fd any_open (seek_open fd whence off) (seek_open-goes cells k seen fd whence off)
call-goes cells k seen free n (Truncate len path) = truncate_parts-goes cells k seen cells.limits len (parts_of path)
call-goes cells k seen free n (Ftruncate fd len) = with_open-goes cells k seen fd is_writable (ftruncate_open cells.limits len) (ftruncate_open-goes cells k seen cells.limits len fd)
call-goes cells k seen free n (Stat path) = from_parts-goes cells k seen true stat_spot (stat_spot-goes cells k seen) (parts_of path)
call-goes cells k seen free n (Fstat fd) = with_open-goes cells k seen fd any_open fstat_open (fstat_open-goes cells k seen fd)
call-goes cells k seen free n (Link old new) = link_parts-goes cells k seen cells.limits (parts_of old) (parts_of new)
call-goes cells k seen free n (Unlink path) = from_parts-goes cells k seen false unlink_spot (unlink_spot-goes cells k seen) (parts_of path)
call-goes cells k seen free n (Rename old new) = rename_parts-goes cells k seen n (parts_of old) (parts_of new)
call-goes cells k seen free n (Symlink target path) = from_judged-goes cells k seen (target_fault target) false (make_link k target) (make_link-goes cells k seen target) (parts_of path)
call-goes cells k seen free n (Readlink path) = from_parts-goes cells k seen false read_link (read_link-goes cells k seen) (parts_of path)
call-goes cells k seen free n (Lstat path) = from_parts-goes cells k seen false stat_spot (stat_spot-goes cells k seen) (parts_of path)
call-goes cells k seen free n (Chmod mode path) =
    from_judged-goes cells k seen (mode_fault (Some mode)) true (chmod_spot mode) (change_spot-goes cells k seen (with_mode mode) (failed ELOOP) (λ all. (tt, tt))) (parts_of path)
call-goes cells k seen free n (Fchmod fd mode) = with_open-goes cells k seen fd any_open (fchmod_open mode) (fchmod_open-goes cells k seen mode fd)
call-goes cells k seen free n (Chown owner group path) =
    from_parts-goes cells k seen true (chown_spot owner group) (change_spot-goes cells k seen (with_owner owner group) (failed ELOOP) (λ all. (tt, tt))) (parts_of path)
call-goes cells k seen free n (Lchown owner group path) =
    from_parts-goes cells k seen false (lchown_spot owner group) (change_spot-goes cells k seen (with_owner owner group) (chown_link owner group) (chown_link-goes cells k seen owner group)) (parts_of path)
call-goes cells k seen free n (Fchown fd owner group) = with_open-goes cells k seen fd any_open (fchown_open owner group) (change_open-goes cells k seen (with_owner owner group) fd)
call-goes cells k seen free n (Utime time path) = from_judged-goes cells k seen (time_fault time) true (utime_spot time) (time_spot-goes cells k seen ELOOP time) (parts_of path)
call-goes cells k seen free n (Lutime time path) = from_judged-goes cells k seen (time_fault time) false (lutime_spot time) (time_spot-goes cells k seen EINVAL time) (parts_of path)
call-goes cells k seen free n (Futime fd time) = with_open-goes cells k seen fd any_open (futime_open time) (futime_open-goes cells k seen time fd)

-- each call comes upon the files that it looks at and writes, and lets go only names that may go
pub call-upon : EachCallUpon
call-upon cells k free n call =
    let s = steps cells.limits n k call in
    let seen = looked_at s (view_of cells) in
    let ws = (answer s (view_of cells)).writes in
    let goes = call-goes cells k seen free n call (Each-from (λ c. In c seen) seen (λ c i. i)) in
    record {
      looks = goes.0;
      writes = Each-map (IsUpon cells k seen ws) (λ w. (i : ℕ) → file_of (written_cell w) ≡ Some i → Upon cells k seen i) (upon-cell cells k seen ws) ws goes.1;
      names = Each-map (IsUpon cells k seen ws) (λ w. (i : ℕ) → names_file w.cell w.value i ≡ true → Upon cells k seen i) (upon-name cells k seen ws) ws goes.1;
      lets_go = upon-lost cells k seen ws goes.1;
    }
