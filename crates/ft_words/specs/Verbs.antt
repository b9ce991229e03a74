-- What calls are named after. No public clause cites it: the tables of Calls.antt say the same.
use Rattle.std.specs.Prelude.{ℕ, List, map, codes, Option, option_map}
use Rattle.ft_posix.specs.declared.call.Call.{Call}
use Rattle.ft_posix.specs.declared.call.Call.TheVariants as calls
use Rattle.ft_words.specs.declared.verbs.Verb.{Verb}
use Rattle.ft_words.specs.declared.verbs.Verb.TheVariants.{OnPath, Mkdir, Open, Truncate, OnPaths, Chmod, Owning, Timing, OnDescriptor}
use Rattle.ft_words.specs.declared.verbs.PathVerb.{PathVerb}
use Rattle.ft_words.specs.declared.verbs.PathVerb.TheVariants as path_verbs
use Rattle.ft_words.specs.declared.verbs.PathsVerb.{PathsVerb}
use Rattle.ft_words.specs.declared.verbs.PathsVerb.TheVariants as paths_verbs
use Rattle.ft_words.specs.declared.verbs.OwningVerb.{OwningVerb}
use Rattle.ft_words.specs.declared.verbs.OwningVerb.TheVariants as owning_verbs
use Rattle.ft_words.specs.declared.verbs.TimingVerb.{TimingVerb}
use Rattle.ft_words.specs.declared.verbs.TimingVerb.TheVariants as timing_verbs
use Rattle.ft_words.specs.declared.verbs.DescriptorVerb.{DescriptorVerb}
use Rattle.ft_words.specs.declared.verbs.DescriptorVerb.TheVariants as descriptor_verbs
use Rattle.ft_cells.specs.declared.attributes.Timestamp.{Timestamp}
use Rattle.ft_words.specs.Spelling.{parse_u64, parse_u32, parse_i64, parse_path, parse_data}
use Rattle.ft_words.specs.Modes.{parse_mode, parse_owner}
use Rattle.ft_words.specs.Calls.{only, last, both, three, parse_optional_mode_path, parse_flags, parse_whence}

-- what a call is named after
abbrev pub verb_of : Call → Verb
verb_of (calls.Mkdir path mode) = Mkdir
verb_of (calls.Rmdir path) = OnPath path_verbs.Rmdir
verb_of (calls.List path) = OnPath path_verbs.List
verb_of (calls.Open path flags) = Open
verb_of (calls.Close fd) = OnDescriptor descriptor_verbs.Close
verb_of (calls.Read fd len) = OnDescriptor descriptor_verbs.Read
verb_of (calls.Write fd bytes) = OnDescriptor descriptor_verbs.Write
verb_of (calls.Pread fd off len) = OnDescriptor descriptor_verbs.Pread
verb_of (calls.Pwrite fd off bytes) = OnDescriptor descriptor_verbs.Pwrite
verb_of (calls.Lseek fd whence off) = OnDescriptor descriptor_verbs.Lseek
verb_of (calls.Truncate len path) = Truncate
verb_of (calls.Ftruncate fd len) = OnDescriptor descriptor_verbs.Ftruncate
verb_of (calls.Stat path) = OnPath path_verbs.Stat
verb_of (calls.Fstat fd) = OnDescriptor descriptor_verbs.Fstat
verb_of (calls.Link old new) = OnPaths paths_verbs.Link
verb_of (calls.Unlink path) = OnPath path_verbs.Unlink
verb_of (calls.Rename old new) = OnPaths paths_verbs.Rename
verb_of (calls.Symlink target path) = OnPaths paths_verbs.Symlink
verb_of (calls.Readlink path) = OnPath path_verbs.Readlink
verb_of (calls.Lstat path) = OnPath path_verbs.Lstat
verb_of (calls.Chmod mode path) = Chmod
verb_of (calls.Fchmod fd mode) = OnDescriptor descriptor_verbs.Fchmod
verb_of (calls.Chown owner group path) = Owning owning_verbs.Chown
verb_of (calls.Lchown owner group path) = Owning owning_verbs.Lchown
verb_of (calls.Fchown fd owner group) = OnDescriptor descriptor_verbs.Fchown
verb_of (calls.Utime time path) = Timing timing_verbs.Utime
verb_of (calls.Lutime time path) = Timing timing_verbs.Lutime
verb_of (calls.Futime fd time) = OnDescriptor descriptor_verbs.Futime

-- how that is spelled, both where it is read and where it is printed
abbrev pub word : Verb → List ℕ
word Mkdir = codes "mkdir"
word (OnPath path_verbs.Rmdir) = codes "rmdir"
word (OnPath path_verbs.List) = codes "list"
word Open = codes "open"
word (OnDescriptor descriptor_verbs.Close) = codes "close"
word (OnDescriptor descriptor_verbs.Read) = codes "read"
word (OnDescriptor descriptor_verbs.Write) = codes "write"
word (OnDescriptor descriptor_verbs.Pread) = codes "pread"
word (OnDescriptor descriptor_verbs.Pwrite) = codes "pwrite"
word (OnDescriptor descriptor_verbs.Lseek) = codes "lseek"
word Truncate = codes "truncate"
word (OnDescriptor descriptor_verbs.Ftruncate) = codes "ftruncate"
word (OnPath path_verbs.Stat) = codes "stat"
word (OnDescriptor descriptor_verbs.Fstat) = codes "fstat"
word (OnPaths paths_verbs.Link) = codes "link"
word (OnPath path_verbs.Unlink) = codes "unlink"
word (OnPaths paths_verbs.Rename) = codes "rename"
word (OnPaths paths_verbs.Symlink) = codes "symlink"
word (OnPath path_verbs.Readlink) = codes "readlink"
word (OnPath path_verbs.Lstat) = codes "lstat"
word Chmod = codes "chmod"
word (OnDescriptor descriptor_verbs.Fchmod) = codes "fchmod"
word (Owning owning_verbs.Chown) = codes "chown"
word (Owning owning_verbs.Lchown) = codes "lchown"
word (OnDescriptor descriptor_verbs.Fchown) = codes "fchown"
word (Timing timing_verbs.Utime) = codes "utime"
word (Timing timing_verbs.Lutime) = codes "lutime"
word (OnDescriptor descriptor_verbs.Futime) = codes "futime"

-- some verbs as a table of words
abbrev pub words_of : List Verb → List (List ℕ × Verb)
words_of verbs = map (λ verb. (word verb, verb)) verbs

-- a call on one path
abbrev pub on_path : PathVerb → List ℕ → Call
on_path path_verbs.Rmdir path = calls.Rmdir path
on_path path_verbs.List path = calls.List path
on_path path_verbs.Stat path = calls.Stat path
on_path path_verbs.Unlink path = calls.Unlink path
on_path path_verbs.Readlink path = calls.Readlink path
on_path path_verbs.Lstat path = calls.Lstat path

-- a call on two paths
abbrev pub on_paths : PathsVerb → List ℕ → List ℕ → Call
on_paths paths_verbs.Link first second = calls.Link first second
on_paths paths_verbs.Rename first second = calls.Rename first second
on_paths paths_verbs.Symlink first second = calls.Symlink first second

-- a call that sets an owner and a group
abbrev pub with_owners : OwningVerb → Option ℕ → Option ℕ → List ℕ → Call
with_owners owning_verbs.Chown owner group path = calls.Chown owner group path
with_owners owning_verbs.Lchown owner group path = calls.Lchown owner group path

-- a call that sets a time
abbrev pub with_time : TimingVerb → Timestamp → List ℕ → Call
with_time timing_verbs.Utime time path = calls.Utime time path
with_time timing_verbs.Lutime time path = calls.Lutime time path

-- a call on a descriptor, by the words of its arguments
abbrev pub descriptor_call : DescriptorVerb → List (List ℕ) → Option Call
descriptor_call descriptor_verbs.Close words = option_map calls.Close (only parse_u64 words)
descriptor_call descriptor_verbs.Read words = option_map (λ a. calls.Read a.0 a.1) (both parse_u64 (only parse_u64) words)
descriptor_call descriptor_verbs.Write words = option_map (λ a. calls.Write a.0 a.1) (both parse_u64 (last parse_data) words)
descriptor_call descriptor_verbs.Pread words = option_map (λ a. calls.Pread a.0 a.1 a.2) (three parse_u64 parse_i64 (only parse_u64) words)
descriptor_call descriptor_verbs.Pwrite words = option_map (λ a. calls.Pwrite a.0 a.1 a.2) (three parse_u64 parse_i64 (last parse_data) words)
descriptor_call descriptor_verbs.Lseek words = option_map (λ a. calls.Lseek a.0 a.1 a.2) (three parse_u64 parse_whence (only parse_i64) words)
descriptor_call descriptor_verbs.Ftruncate words = option_map (λ a. calls.Ftruncate a.0 a.1) (both parse_u64 (only parse_i64) words)
descriptor_call descriptor_verbs.Fstat words = option_map calls.Fstat (only parse_u64 words)
descriptor_call descriptor_verbs.Fchmod words = option_map (λ a. calls.Fchmod a.0 a.1) (both parse_u64 (only parse_mode) words)
descriptor_call descriptor_verbs.Fchown words = option_map (λ a. calls.Fchown a.0 a.1 a.2) (three parse_u64 parse_owner (only parse_owner) words)
descriptor_call descriptor_verbs.Futime words = option_map (λ a. calls.Futime a.0 (record { seconds = a.1; nanoseconds = a.2 })) (three parse_u64 parse_i64 (only parse_u32) words)

-- the call of a verb, by the words of its arguments; over all verbs these are the tables of
-- Calls.antt
abbrev pub call_by : Verb → List (List ℕ) → Option Call
call_by (OnPath verb) words = option_map (on_path verb) (last parse_path words)
call_by Mkdir words = option_map (λ a. calls.Mkdir a.1 a.0) (parse_optional_mode_path words)
call_by Open words = option_map (λ a. calls.Open a.1 a.0) (both parse_flags (last parse_path) words)
call_by Truncate words = option_map (λ a. calls.Truncate a.0 a.1) (both parse_i64 (last parse_path) words)
call_by (OnPaths verb) words = option_map (λ a. on_paths verb a.0 a.1) (both parse_path (last parse_path) words)
call_by Chmod words = option_map (λ a. calls.Chmod a.0 a.1) (both parse_mode (last parse_path) words)
call_by (Owning verb) words = option_map (λ a. with_owners verb a.0 a.1 a.2) (three parse_owner parse_owner (last parse_path) words)
call_by (Timing verb) words = option_map (λ a. with_time verb (record { seconds = a.0; nanoseconds = a.1 }) a.2) (three parse_i64 parse_u32 (last parse_path) words)
call_by (OnDescriptor verb) words = descriptor_call verb words
