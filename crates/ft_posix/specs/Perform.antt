-- The kinds of replies.
use Rattle.std.specs.Prelude.{Bool, true, false}
use Rattle.ft_posix.specs.declared.call.Call.{Call}
use Rattle.ft_posix.specs.declared.call.Call.TheVariants.{Mkdir, Rmdir, List as ListDir, Open, Close, Read, Write, Pread, Pwrite, Lseek, Truncate, Ftruncate, Stat, Fstat, Link, Unlink, Rename, Symlink, Readlink, Lstat, Chmod, Fchmod, Chown, Lchown, Fchown, Utime, Lutime, Futime}
use Rattle.ft_posix.specs.declared.call.Reply.{Reply}
use Rattle.ft_posix.specs.declared.call.Reply.TheVariants.{Done, Names as NamesReply, Number, Bytes as BytesReply, Info, Failed}

-- the reply is a list, of names or of bytes
abbrev pub IsList : Reply → Type 0
IsList Done = ⊥
IsList (NamesReply names) = Unit {0}
IsList (Number n) = ⊥
IsList (BytesReply bytes) = Unit {0}
IsList (Info info) = ⊥
IsList (Failed e) = ⊥

-- the reply only reports something: names, what was found, or an error. It comes with no change.
abbrev pub OnlyTells : Reply → Type 0
OnlyTells Done = ⊥
OnlyTells (NamesReply names) = Unit {0}
OnlyTells (Number n) = ⊥
OnlyTells (BytesReply bytes) = ⊥
OnlyTells (Info info) = Unit {0}
OnlyTells (Failed e) = Unit {0}

-- the call is a read: only a read moves its descriptor's offset and returns a list; every other
-- call that returns bytes or names changes nothing
abbrev pub is_read : Call → Bool
is_read (Mkdir path mode) = false
is_read (Rmdir path) = false
is_read (ListDir path) = false
is_read (Open path flags) = false
is_read (Close fd) = false
is_read (Read fd len) = true
is_read (Write fd bytes) = false
is_read (Pread fd off len) = false
is_read (Pwrite fd off bytes) = false
is_read (Lseek fd whence off) = false
is_read (Truncate len path) = false
is_read (Ftruncate fd len) = false
is_read (Stat path) = false
is_read (Fstat fd) = false
is_read (Link old new) = false
is_read (Unlink path) = false
is_read (Rename old new) = false
is_read (Symlink target path) = false
is_read (Readlink path) = false
is_read (Lstat path) = false
is_read (Chmod mode path) = false
is_read (Fchmod fd mode) = false
is_read (Chown owner group path) = false
is_read (Lchown owner group path) = false
is_read (Fchown fd owner group) = false
is_read (Utime time path) = false
is_read (Lutime time path) = false
is_read (Futime fd time) = false
