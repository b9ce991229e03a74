-- The text of a call: its name and its arguments, as a line of words has them (docs/SCRIPT.md).
-- An empty last word is left out with the space before it, but for the path behind the mode of a
-- `mkdir`: a mode alone would be a path.
use Rattle.std.specs.Prelude.{ℕ, List, [], ◌++◌, codes, Option, None, Some}
use Rattle.std.specs.Fmt.{decimal, signed_decimal}
use Rattle.ft_posix.specs.declared.call.Call.{Call}
use Rattle.ft_posix.specs.declared.call.Call.TheVariants as calls
use Rattle.ft_posix.specs.declared.call.OpenFlags.{OpenFlags}
use Rattle.ft_posix.specs.declared.call.Whence.{Whence}
use Rattle.ft_posix.specs.declared.call.Whence.TheVariants.{Set, Cur, End}
use Rattle.ft_words.specs.Modes.{mode_text, owner_text, time_text}
use Rattle.ft_words.specs.Texts.{access_text, coded, data_text, flag_text}

-- the mode of a file that is made, where one is given
abbrev pub given_mode_text : Option ℕ → List ℕ
given_mode_text None = []
given_mode_text (Some mode) = codes "=" ++ mode_text mode

-- FLAGS: `r`, `w` or `rw`, a letter for each flag, and the mode that is given
abbrev pub flags_text : OpenFlags → List ℕ
flags_text flags =
    access_text flags.access ++ flag_text flags.create (codes "c") ++ flag_text flags.excl (codes "x") ++ flag_text flags.trunc (codes "t")
    ++ flag_text flags.append (codes "a") ++ given_mode_text flags.mode

-- WHENCE: from where an offset counts
abbrev pub whence_text : Whence → List ℕ
whence_text Set = codes "set"
whence_text Cur = codes "cur"
whence_text End = codes "end"

-- the name of a call, and each of its arguments after a space
abbrev pub call_text : Call → List ℕ
call_text (calls.Mkdir path None) = codes "mkdir" ++ data_text path
call_text (calls.Mkdir path (Some mode)) = codes "mkdir " ++ mode_text mode ++ codes " " ++ coded path
call_text (calls.Rmdir path) = codes "rmdir" ++ data_text path
call_text (calls.List path) = codes "list" ++ data_text path
call_text (calls.Open path flags) = codes "open " ++ flags_text flags ++ data_text path
call_text (calls.Close fd) = codes "close " ++ decimal fd
call_text (calls.Read fd len) = codes "read " ++ decimal fd ++ codes " " ++ decimal len
call_text (calls.Write fd bytes) = codes "write " ++ decimal fd ++ data_text bytes
call_text (calls.Pread fd off len) = codes "pread " ++ decimal fd ++ codes " " ++ signed_decimal off ++ codes " " ++ decimal len
call_text (calls.Pwrite fd off bytes) = codes "pwrite " ++ decimal fd ++ codes " " ++ signed_decimal off ++ data_text bytes
call_text (calls.Lseek fd whence off) = codes "lseek " ++ decimal fd ++ codes " " ++ whence_text whence ++ codes " " ++ signed_decimal off
call_text (calls.Truncate len path) = codes "truncate " ++ signed_decimal len ++ data_text path
call_text (calls.Ftruncate fd len) = codes "ftruncate " ++ decimal fd ++ codes " " ++ signed_decimal len
call_text (calls.Stat path) = codes "stat" ++ data_text path
call_text (calls.Fstat fd) = codes "fstat " ++ decimal fd
call_text (calls.Link old new) = codes "link " ++ coded old ++ data_text new
call_text (calls.Unlink path) = codes "unlink" ++ data_text path
call_text (calls.Rename old new) = codes "rename " ++ coded old ++ data_text new
call_text (calls.Symlink target path) = codes "symlink " ++ coded target ++ data_text path
call_text (calls.Readlink path) = codes "readlink" ++ data_text path
call_text (calls.Lstat path) = codes "lstat" ++ data_text path
call_text (calls.Chmod mode path) = codes "chmod " ++ mode_text mode ++ data_text path
call_text (calls.Fchmod fd mode) = codes "fchmod " ++ decimal fd ++ codes " " ++ mode_text mode
call_text (calls.Chown owner group path) = codes "chown " ++ owner_text owner ++ codes " " ++ owner_text group ++ data_text path
call_text (calls.Lchown owner group path) = codes "lchown " ++ owner_text owner ++ codes " " ++ owner_text group ++ data_text path
call_text (calls.Fchown fd owner group) = codes "fchown " ++ decimal fd ++ codes " " ++ owner_text owner ++ codes " " ++ owner_text group
call_text (calls.Utime time path) = codes "utime " ++ time_text time ++ data_text path
call_text (calls.Lutime time path) = codes "lutime " ++ time_text time ++ data_text path
call_text (calls.Futime fd time) = codes "futime " ++ decimal fd ++ codes " " ++ time_text time
