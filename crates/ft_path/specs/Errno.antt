-- The names of the error numbers (POSIX.1-2017, System Interfaces, 2.3 Error Numbers).
use Rattle.std.specs.Prelude.{ℕ, List, codes}
use Rattle.ft_path.specs.declared.errno.Errno.{Errno}
use Rattle.ft_path.specs.declared.errno.Errno.TheVariants.{ENOENT, ENOTDIR, EEXIST, EISDIR, ENOTEMPTY, EINVAL, EPERM, EBUSY, EMLINK, ENAMETOOLONG, EBADF, EFBIG, EOVERFLOW, ELOOP}

-- the bytes of the name, for example `ENOENT`
abbrev pub errno_name : Errno → List ℕ
errno_name ENOENT = codes "ENOENT"
errno_name ENOTDIR = codes "ENOTDIR"
errno_name EEXIST = codes "EEXIST"
errno_name EISDIR = codes "EISDIR"
errno_name ENOTEMPTY = codes "ENOTEMPTY"
errno_name EINVAL = codes "EINVAL"
errno_name EPERM = codes "EPERM"
errno_name EBUSY = codes "EBUSY"
errno_name EMLINK = codes "EMLINK"
errno_name ENAMETOOLONG = codes "ENAMETOOLONG"
errno_name EBADF = codes "EBADF"
errno_name EFBIG = codes "EFBIG"
errno_name EOVERFLOW = codes "EOVERFLOW"
errno_name ELOOP = codes "ELOOP"
