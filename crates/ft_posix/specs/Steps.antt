-- The looks and the outcome of each call.
use Rattle.std.specs.Prelude.{ℕ, true, false, Some}
use Rattle.ft_path.specs.FilePath.{parts_of}
use Rattle.ft_cells.specs.Looks.{Looks}
use Rattle.ft_cells.specs.declared.limits.TreeLimits.{TreeLimits}
use Rattle.ft_posix.specs.declared.call.Call.{Call}
use Rattle.ft_posix.specs.declared.call.Call.TheVariants.{Mkdir, Rmdir, List as ListDir, Open, Close, Read, Write, Pread, Pwrite, Lseek, Truncate, Ftruncate, Stat, Fstat, Link, Unlink, Rename, Symlink, Readlink, Lstat, Chmod, Fchmod, Chown, Lchown, Fchown, Utime, Lutime, Futime}
use Rattle.ft_posix.specs.Outcomes.{Outcome, from_parts, from_judged}
use Rattle.ft_posix.specs.Attributes.{mode_fault, time_fault, chmod_spot, chown_spot, lchown_spot, utime_spot, lutime_spot, fchmod_open, fchown_open, futime_open}
use Rattle.ft_posix.specs.Dirs.{make_dir, remove_parts, list_dir}
use Rattle.ft_posix.specs.Links.{link_parts, unlink_spot, rename_parts}
use Rattle.ft_posix.specs.Symlinks.{symlink_parts, read_link}
use Rattle.ft_posix.specs.Files.{open_parts, truncate_parts, stat_spot}
use Rattle.ft_posix.specs.Descriptors.{with_open, any_open, is_readable, is_writable, close_open, read_open, write_open, pread_open, pwrite_open, seek_open, ftruncate_open, fstat_open}

-- the call with this stamp, on a tree with these limits and so many directories: no way up to its
-- root is longer.
-- Only the climb of a rename uses this number, since a definition has to end. On a sound tree any
-- larger number gives the same. A stamp would be no bound: a call that is made again in another
-- order meets trees with larger numbers.
abbrev pub steps : TreeLimits → ℕ → ℕ → Call → Looks Outcome
steps limits most stamp (Mkdir path mode) = from_judged (mode_fault mode) false (parts_of path) (make_dir stamp mode)
steps limits most stamp (Rmdir path) = remove_parts (parts_of path)
steps limits most stamp (ListDir path) = from_parts true (parts_of path) list_dir
steps limits most stamp (Open path flags) = open_parts stamp flags (parts_of path)
steps limits most stamp (Close fd) = with_open fd any_open (close_open fd)
steps limits most stamp (Read fd len) = with_open fd is_readable (read_open fd len)
steps limits most stamp (Write fd bytes) = with_open fd is_writable (write_open limits fd bytes)
steps limits most stamp (Pread fd off len) = with_open fd is_readable (pread_open off len)
steps limits most stamp (Pwrite fd off bytes) = with_open fd is_writable (pwrite_open limits off bytes)
steps limits most stamp (Lseek fd whence off) = with_open fd any_open (seek_open fd whence off)
steps limits most stamp (Truncate len path) = truncate_parts limits len (parts_of path)
steps limits most stamp (Ftruncate fd len) = with_open fd is_writable (ftruncate_open limits len)
steps limits most stamp (Stat path) = from_parts true (parts_of path) stat_spot
steps limits most stamp (Fstat fd) = with_open fd any_open fstat_open
steps limits most stamp (Link old new) = link_parts limits (parts_of old) (parts_of new)
steps limits most stamp (Unlink path) = from_parts false (parts_of path) unlink_spot
steps limits most stamp (Rename old new) = rename_parts most (parts_of old) (parts_of new)
steps limits most stamp (Symlink target path) = symlink_parts stamp target (parts_of path)
steps limits most stamp (Readlink path) = from_parts false (parts_of path) read_link
steps limits most stamp (Lstat path) = from_parts false (parts_of path) stat_spot
steps limits most stamp (Chmod mode path) = from_judged (mode_fault (Some mode)) true (parts_of path) (chmod_spot mode)
steps limits most stamp (Fchmod fd mode) = with_open fd any_open (fchmod_open mode)
steps limits most stamp (Chown owner group path) = from_parts true (parts_of path) (chown_spot owner group)
steps limits most stamp (Lchown owner group path) = from_parts false (parts_of path) (lchown_spot owner group)
steps limits most stamp (Fchown fd owner group) = with_open fd any_open (fchown_open owner group)
steps limits most stamp (Utime time path) = from_judged (time_fault time) true (parts_of path) (utime_spot time)
steps limits most stamp (Lutime time path) = from_judged (time_fault time) false (parts_of path) (lutime_spot time)
steps limits most stamp (Futime fd time) = with_open fd any_open (futime_open time)
