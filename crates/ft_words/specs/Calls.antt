-- The calls: their names, and how their arguments are written (docs/SCRIPT.md). Each table has
-- words, and what they ask for.
use Rattle.std.specs.Prelude.{◌≡◌, ℕ, Bool, true, false, ◌==◌, List, [], ◌∷◌, ◌++◌, codes, if◌then◌else◌, Option, None, Some, option_and_then, option_map, Result, Ok, Err}
use Rattle.std.specs.Str.{bytes_eq}
use Rattle.ft_cells.specs.declared.open_file.AccessMode.{AccessMode}
use Rattle.ft_cells.specs.declared.open_file.AccessMode.TheVariants.{ReadOnly, WriteOnly, ReadWrite}
use Rattle.ft_posix.specs.declared.call.Call.{Call}
use Rattle.ft_posix.specs.declared.call.Call.TheVariants as calls
use Rattle.ft_posix.specs.declared.call.OpenFlags.{OpenFlags}
use Rattle.ft_posix.specs.declared.call.Whence.{Whence}
use Rattle.ft_posix.specs.declared.call.Whence.TheVariants.{Set, Cur, End}
use Rattle.ft_words.specs.declared.parse_error.ParseError.{ParseError}
use Rattle.ft_words.specs.declared.parse_error.ParseError.TheVariants.{Misspelt, NoMemory}
use Rattle.ft_words.specs.Spelling.{parse_u64, parse_u32, parse_i64, parse_path, parse_data}
use Rattle.ft_words.specs.Modes.{parse_mode, parse_owner}

-- what stands behind a word in a table of words
abbrev pub look_up : {A : Type 0} → List (List ℕ × A) → List ℕ → Option A
look_up [] word = None
look_up (row ∷ rows) word = if bytes_eq word row.0 then Some row.1 else look_up rows word

-- ---- the arguments of a call

-- the word that is left alone
abbrev pub only_word : List (List ℕ) → Option (List ℕ)
only_word [] = None
only_word (word ∷ []) = Some word
only_word (word ∷ other ∷ words) = None

-- the same. Where there is none, it is empty: the last word may be absent with its space
abbrev pub last_word : List (List ℕ) → Option (List ℕ)
last_word [] = Some []
last_word (word ∷ words) = only_word (word ∷ words)

-- the one word that is left, as a reader of words reads it
abbrev pub only : {A : Type 0} → (List ℕ → Option A) → List (List ℕ) → Option A
only read words = option_and_then read (only_word words)

-- the same of a last word that may be absent
abbrev pub last : {A : Type 0} → (List ℕ → Option A) → List (List ℕ) → Option A
last read words = option_and_then read (last_word words)

-- the first word by a reader, and the others by another
abbrev pub both : {A B : Type 0} → (List ℕ → Option A) → (List (List ℕ) → Option B) → List (List ℕ) → Option (A × B)
both read others [] = None
both read others (word ∷ words) = option_and_then (λ a. option_map (λ b. (a, b)) (others words)) (read word)

-- the first word, the second and the others, each by its reader
abbrev pub three : {A B C : Type 0} → (List ℕ → Option A) → (List ℕ → Option B) → (List (List ℕ) → Option C) → List (List ℕ) → Option (A × B × C)
three first second others words = option_map (λ p. (p.0, p.1.0, p.1.1)) (both first (both second others) words)

-- a path alone
abbrev pub without_mode : List ℕ → Option (Option ℕ × List ℕ)
without_mode path = option_map (λ p. (None, p)) (parse_path path)

-- a mode and a path, each by its word
abbrev pub with_mode : List ℕ → List ℕ → Option (Option ℕ × List ℕ)
with_mode mode path = option_and_then (λ m. option_map (λ p. (Some m, p)) (parse_path path)) (parse_mode mode)

-- `P` or `MODE P`: one word alone is a path, also one that might be a mode, and of two words the
-- first is a mode. So a path behind a mode may be empty, but not absent.
abbrev pub parse_optional_mode_path : List (List ℕ) → Option (Option ℕ × List ℕ)
parse_optional_mode_path [] = without_mode []
parse_optional_mode_path (word ∷ []) = without_mode word
parse_optional_mode_path (word ∷ other ∷ []) = with_mode word other
parse_optional_mode_path (word ∷ other ∷ more ∷ words) = None

-- whether a text begins with a letter, and what stands behind it
abbrev pub split_letter : ℕ → List ℕ → Bool × List ℕ
split_letter letter [] = (false, [])
split_letter letter (b ∷ bs) = if b == letter then (true, bs) else (false, b ∷ bs)

-- for reading, for writing, or for both
abbrev pub access_of : Bool → Bool → Option AccessMode
access_of true true = Some ReadWrite
access_of true false = Some ReadOnly
access_of false true = Some WriteOnly
access_of false false = None

-- the mode that `=MODE` gives, behind the letters; none where nothing stands there
abbrev pub given_mode : List ℕ → Option (Option ℕ)
given_mode [] = Some None
given_mode (b ∷ bs) = if b == 61 then option_map Some (parse_mode bs) else None

-- FLAGS: `r`, `w` or `rw`, and then any of `c`, `x`, `t` and `a`, each at most once, in this
-- order, and behind them nothing or `=MODE`, the mode of a file that is made
abbrev pub parse_flags : List ℕ → Option OpenFlags
parse_flags word =
    let read = split_letter 114 word in
    let write = split_letter 119 read.1 in
    let create = split_letter 99 write.1 in
    let excl = split_letter 120 create.1 in
    let trunc = split_letter 116 excl.1 in
    let append = split_letter 97 trunc.1 in
    option_and_then (λ mode. option_map (λ access. record { access = access; create = create.0; excl = excl.0; trunc = trunc.0; append = append.0; mode = mode }) (access_of read.0 write.0)) (given_mode append.1)

-- WHENCE: from where an offset counts
abbrev pub whence_words : List (List ℕ × Whence)
whence_words = (codes "set", Set) ∷ (codes "cur", Cur) ∷ (codes "end", End) ∷ []

-- what such a word asks for
abbrev pub parse_whence : List ℕ → Option Whence
parse_whence word = look_up whence_words word

-- ---- the calls

-- a name, and the call that the words behind it spell
abbrev pub CallRow : Type 0
CallRow = List ℕ × (List (List ℕ) → Option Call)

-- a call by its name, how its arguments are read, and what it is with them
abbrev pub row : {A : Type 0} → List ℕ → (List (List ℕ) → Option A) → (A → Call) → CallRow
row name arguments make = (name, λ words. option_map make (arguments words))

-- the calls on paths
abbrev pub path_calls : List CallRow
path_calls =
    row (codes "mkdir") parse_optional_mode_path (λ a. calls.Mkdir a.1 a.0)
    ∷ row (codes "rmdir") (last parse_path) calls.Rmdir
    ∷ row (codes "open") (both parse_flags (last parse_path)) (λ a. calls.Open a.1 a.0)
    ∷ row (codes "truncate") (both parse_i64 (last parse_path)) (λ a. calls.Truncate a.0 a.1)
    ∷ row (codes "stat") (last parse_path) calls.Stat
    ∷ row (codes "link") (both parse_path (last parse_path)) (λ a. calls.Link a.0 a.1)
    ∷ row (codes "unlink") (last parse_path) calls.Unlink
    ∷ row (codes "rename") (both parse_path (last parse_path)) (λ a. calls.Rename a.0 a.1)
    ∷ row (codes "list") (last parse_path) calls.List
    ∷ []

-- the calls on descriptors
abbrev pub descriptor_calls : List CallRow
descriptor_calls =
    row (codes "close") (only parse_u64) calls.Close
    ∷ row (codes "read") (both parse_u64 (only parse_u64)) (λ a. calls.Read a.0 a.1)
    ∷ row (codes "write") (both parse_u64 (last parse_data)) (λ a. calls.Write a.0 a.1)
    ∷ row (codes "pread") (three parse_u64 parse_i64 (only parse_u64)) (λ a. calls.Pread a.0 a.1 a.2)
    ∷ row (codes "pwrite") (three parse_u64 parse_i64 (last parse_data)) (λ a. calls.Pwrite a.0 a.1 a.2)
    ∷ row (codes "lseek") (three parse_u64 parse_whence (only parse_i64)) (λ a. calls.Lseek a.0 a.1 a.2)
    ∷ row (codes "ftruncate") (both parse_u64 (only parse_i64)) (λ a. calls.Ftruncate a.0 a.1)
    ∷ row (codes "fstat") (only parse_u64) calls.Fstat
    ∷ row (codes "fchmod") (both parse_u64 (only parse_mode)) (λ a. calls.Fchmod a.0 a.1)
    ∷ row (codes "fchown") (three parse_u64 parse_owner (only parse_owner)) (λ a. calls.Fchown a.0 a.1 a.2)
    ∷ row (codes "futime") (three parse_u64 parse_i64 (only parse_u32)) (λ a. calls.Futime a.0 (record { seconds = a.1; nanoseconds = a.2 }))
    ∷ []

-- the calls on symbolic links
abbrev pub link_calls : List CallRow
link_calls =
    row (codes "symlink") (both parse_path (last parse_path)) (λ a. calls.Symlink a.0 a.1)
    ∷ row (codes "readlink") (last parse_path) calls.Readlink
    ∷ row (codes "lstat") (last parse_path) calls.Lstat
    ∷ []

-- the calls on paths that set modes, owners and times
abbrev pub attribute_calls : List CallRow
attribute_calls =
    row (codes "chmod") (both parse_mode (last parse_path)) (λ a. calls.Chmod a.0 a.1)
    ∷ row (codes "chown") (three parse_owner parse_owner (last parse_path)) (λ a. calls.Chown a.0 a.1 a.2)
    ∷ row (codes "lchown") (three parse_owner parse_owner (last parse_path)) (λ a. calls.Lchown a.0 a.1 a.2)
    ∷ row (codes "utime") (three parse_i64 parse_u32 (last parse_path)) (λ a. calls.Utime (record { seconds = a.0; nanoseconds = a.1 }) a.2)
    ∷ row (codes "lutime") (three parse_i64 parse_u32 (last parse_path)) (λ a. calls.Lutime (record { seconds = a.0; nanoseconds = a.1 }) a.2)
    ∷ []

-- the call of a name in a table, by the words of its arguments
abbrev pub read_by : List CallRow → List ℕ → List (List ℕ) → Option Call
read_by rows name words = option_and_then (λ arguments. arguments words) (look_up rows name)

-- the call that a name and the words of its arguments spell
abbrev pub parse_call : List ℕ → List (List ℕ) → Option Call
parse_call name words = read_by (path_calls ++ descriptor_calls ++ link_calls ++ attribute_calls) name words

-- ---- how words are read

-- the value that words spell; or they spell none; or memory was wanting
abbrev pub Reads : {A : Type 0} → Result A ParseError → Option A → Type 0
Reads (Ok read) value = value ≡ Some read
Reads (Err Misspelt) value = value ≡ None
Reads (Err NoMemory) value = Unit {0}
