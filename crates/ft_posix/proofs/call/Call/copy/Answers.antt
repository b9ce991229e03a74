use Rattle.std.proofs.Common.{rules}
use Rattle.ft_posix.proofs.call.Call.copy.Goals as goal
use Rattle.ft_posix.proofs.call.Call.copy.Goals.{in-Mkdir+in_ok-try_clone-in-Mkdir, in-Rmdir+in_ok-try_clone-in-Rmdir, in-List+in_ok-try_clone-in-List, in-Open+in_ok-try_clone-in-Open, in-Close, in-Read, in-Write+in_ok-copy_bytes-in-Write, in-Pread, in-Pwrite+in_ok-copy_bytes-in-Pwrite, in-Lseek, in-Truncate+in_ok-try_clone-in-Truncate, in-Ftruncate, in-Stat+in_ok-try_clone-in-Stat, in-Fstat, in-Link+in_ok-try_clone-in-Link+in_ok-try_clone-in-Link-2, in-Unlink+in_ok-try_clone-in-Unlink, in-Rename+in_ok-try_clone-in-Rename+in_ok-try_clone-in-Rename-2, in-Symlink+in_ok-try_clone-in-Symlink+in_ok-try_clone-in-Symlink-2, in-Readlink+in_ok-try_clone-in-Readlink, in-Lstat+in_ok-try_clone-in-Lstat, in-Chmod+in_ok-try_clone-in-Chmod, in-Fchmod, in-Chown+in_ok-try_clone-in-Chown, in-Lchown+in_ok-try_clone-in-Lchown, in-Fchown, in-Utime+in_ok-try_clone-in-Utime, in-Lutime+in_ok-try_clone-in-Lutime, in-Futime}

-- src/copying.rt:10:5
pub returns : goal.returns
returns c = elim c.match-self.branch [
  | in-Mkdir+in_ok-try_clone-in-Mkdir w ↦ search rules
  | in-Rmdir+in_ok-try_clone-in-Rmdir w ↦ search rules
  | in-List+in_ok-try_clone-in-List w ↦ search rules
  | in-Open+in_ok-try_clone-in-Open w ↦ search rules
  | in-Close w ↦ search rules
  | in-Read w ↦ search rules
  | in-Write+in_ok-copy_bytes-in-Write w ↦ search rules
  | in-Pread w ↦ search rules
  | in-Pwrite+in_ok-copy_bytes-in-Pwrite w ↦ search rules
  | in-Lseek w ↦ search rules
  | in-Truncate+in_ok-try_clone-in-Truncate w ↦ search rules
  | in-Ftruncate w ↦ search rules
  | in-Stat+in_ok-try_clone-in-Stat w ↦ search rules
  | in-Fstat w ↦ search rules
  | in-Link+in_ok-try_clone-in-Link+in_ok-try_clone-in-Link-2 w ↦ search rules
  | in-Unlink+in_ok-try_clone-in-Unlink w ↦ search rules
  | in-Rename+in_ok-try_clone-in-Rename+in_ok-try_clone-in-Rename-2 w ↦ search rules
  | in-Symlink+in_ok-try_clone-in-Symlink+in_ok-try_clone-in-Symlink-2 w ↦ search rules
  | in-Readlink+in_ok-try_clone-in-Readlink w ↦ search rules
  | in-Lstat+in_ok-try_clone-in-Lstat w ↦ search rules
  | in-Chmod+in_ok-try_clone-in-Chmod w ↦ search rules
  | in-Fchmod w ↦ search rules
  | in-Chown+in_ok-try_clone-in-Chown w ↦ search rules
  | in-Lchown+in_ok-try_clone-in-Lchown w ↦ search rules
  | in-Fchown w ↦ search rules
  | in-Utime+in_ok-try_clone-in-Utime w ↦ search rules
  | in-Lutime+in_ok-try_clone-in-Lutime w ↦ search rules
  | in-Futime w ↦ search rules
]
