-- A tiny tree that meets every law: directories and files by number, names 0 to 2, and paths of at
-- most two names. A file has one name, and a rename moves it. (The calls are those of POSIX.1-2017
-- by these names, cut down to this tree. Create is open with O_CREAT and O_EXCL, and Fill is a
-- write of the whole file.)
use Rattle.std.specs.Prelude.{◌≡◌, ◌≢◌, ◌<◌, ℕ, Bool, true, false, cond, ◌||◌, ◌&&◌, ◌==◌, not, Option, Some, None, is_some, List, [], ◌∷◌, ◌++◌, ◌⊎◌, map}
use Rattle.ft_laws.specs.Calls.{Calls}
use Rattle.ft_laws.specs.Effects.{Access, Write, Effect, Effects, calls_of}
use Rattle.ft_laws.specs.Looks.{Looks, follow}
use Rattle.ft_laws.specs.Looks.Looks.{Answer, Look}

-- what an entry leads to: a directory or a file, by its number
pub data Node : Type 0 where
  DirNode : ℕ → Node
  FileNode : ℕ → Node

-- an entry, by directory and name; a directory's Parent; a file's Links and Bytes
pub data Cell : Type 0 where
  Entry : ℕ → ℕ → Cell
  Parent : ℕ → Cell
  Links : ℕ → Cell
  Bytes : ℕ → Cell

-- what a cell holds: an entry has its node, a directory's Parent the directory of its entry, a
-- file's Links the count of its names, and a file's Bytes one number
abbrev pub Shows : Cell → Type 0
Shows (Entry d n) = Option Node
Shows (Parent d) = Option ℕ
Shows (Links i) = Option ℕ
Shows (Bytes i) = Option ℕ

-- what each cell holds
abbrev pub Store : Type 0
Store = (x : Cell) → Shows x

-- one cell, or all names of a directory
pub data Place : Type 0 where
  One : Cell → Place
  Names : ℕ → Place

-- a cell shows its value, and the names of a directory show whether there are none
abbrev pub Shown : Place → Type 0
Shown (One x) = Shows x
Shown (Names d) = Bool

-- the directory has none of the three names
abbrev pub is_empty : Store → ℕ → Bool
is_empty s d = not (is_some (s (Entry d 0)) || is_some (s (Entry d 1)) || is_some (s (Entry d 2)))

-- what a place shows of a store
abbrev pub view : Store → (p : Place) → Shown p
view s (One x) = s x
view s (Names d) = is_empty s d

-- the two cells are the same
abbrev pub same_cell : Cell → Cell → Bool
same_cell (Entry d n) (Entry e m) = (d == e) && (n == m)
same_cell (Parent i) (Parent j) = i == j
same_cell (Links i) (Links j) = i == j
same_cell (Bytes i) (Bytes j) = i == j
same_cell x y = false

-- the cell is an entry of this directory
abbrev pub in_names : ℕ → Cell → Bool
in_names d (Entry e n) = d == e
in_names d x = false

-- the place covers the cell; all names of a directory cover its entries
abbrev pub covers : Place → Cell → Bool
covers (One x) y = same_cell x y
covers (Names d) y = in_names d y

-- the two places have a cell in common
abbrev pub overlap : Place → Place → Bool
overlap (One x) (One y) = same_cell x y
overlap (One x) (Names d) = in_names d x
overlap (Names d) (One x) = in_names d x
overlap (Names d) (Names e) = d == e

-- the store with one cell set
abbrev pub write : Store → (x : Cell) → Shows x → Store
write s (Entry d n) v (Entry e m) = cond ((d == e) && (n == m)) v (s (Entry e m))
write s (Parent i) v (Parent j) = cond (i == j) v (s (Parent j))
write s (Links i) v (Links j) = cond (i == j) v (s (Links j))
write s (Bytes i) v (Bytes j) = cond (i == j) v (s (Bytes j))
write s x v y = s y

-- The calls. Each has the directory of its path, which is the root or a directory named there, and
-- a name in it.
pub data What : Type 0 where
  Mkdir : Option ℕ → ℕ → What
  Rmdir : Option ℕ → ℕ → What
  Create : Option ℕ → ℕ → What
  Unlink : Option ℕ → ℕ → What
  -- within one directory, from the first name to the second
  Rename : Option ℕ → ℕ → ℕ → What
  -- the last number is what the file is to hold
  Fill : Option ℕ → ℕ → ℕ → What
  Stat : Option ℕ → ℕ → What

-- a call with its stamp, which numbers what the call makes
pub record Call : Type 0 where
  pub stamp : ℕ
  pub what : What

-- the replies; the reply of a failed call is its errno
pub data Reply : Type 0 where
  Success : Reply
  DirectoryInfo : ℕ → Reply
  FileInfo : ℕ → Option ℕ → Option ℕ → Reply
  NoEntry : Reply
  NotDirectory : Reply
  IsDirectory : Reply
  Exists : Reply
  NotEmpty : Reply

-- what a call writes, and its reply
pub record Outcome : Type 0 where
  pub writes : List (Write Cell Shows)
  pub reply : Reply

-- a call, given by its looks
abbrev pub Steps : Type 0
Steps = Looks Place Shown Outcome

-- the call writes nothing and has this reply
abbrev pub replies : Reply → Steps
replies r = Answer (record { writes = []; reply = r })

-- the cell gets this value
abbrev pub set : (x : Cell) → Shows x → Write Cell Shows
set x v = record { cell = x; value = v }

-- the call makes these writes and succeeds
abbrev pub writes : List (Write Cell Shows) → Steps
writes ws = Answer (record { writes = ws; reply = Success })

-- The walk to the directory of a path (POSIX.1-2017, 4.13 Pathname Resolution). The call continues
-- there if the entry leads to a directory.
abbrev pub enter : (ℕ → Steps) → Option Node → Steps
enter go None = replies NoEntry
enter go (Some (FileNode i)) = replies NotDirectory
enter go (Some (DirNode d)) = go d

-- the call continues in the root, or in the directory of this name there
abbrev pub inside : Option ℕ → (ℕ → Steps) → Steps
inside None go = go 1
inside (Some q) go = Look (One (Entry 1 q)) (enter go)

-- a free name gets a directory (mkdir)
abbrev pub mkdir_at : ℕ → ℕ → ℕ → Option Node → Steps
mkdir_at k d n None = writes (set (Entry d n) (Some (DirNode k)) ∷ set (Parent k) (Some d) ∷ [])
mkdir_at k d n (Some x) = replies Exists

-- a free name gets a file (open with O_CREAT and O_EXCL)
abbrev pub create_at : ℕ → ℕ → ℕ → Option Node → Steps
create_at k d n None = writes (set (Entry d n) (Some (FileNode k)) ∷ set (Links k) (Some 1) ∷ set (Bytes k) (Some 0) ∷ [])
create_at k d n (Some x) = replies Exists

-- a directory is removed if it is empty (rmdir)
abbrev pub rmdir_if : ℕ → ℕ → ℕ → Bool → Steps
rmdir_if d n i true = writes (set (Entry d n) None ∷ set (Parent i) None ∷ [])
rmdir_if d n i false = replies NotEmpty

-- the entry must lead to a directory, whose names are then looked at
abbrev pub rmdir_at : ℕ → ℕ → Option Node → Steps
rmdir_at d n None = replies NoEntry
rmdir_at d n (Some (FileNode i)) = replies NotDirectory
rmdir_at d n (Some (DirNode i)) = Look (Names i) (rmdir_if d n i)

-- a file loses its name (unlink)
abbrev pub unlink_at : ℕ → ℕ → Option Node → Steps
unlink_at d n None = replies NoEntry
unlink_at d n (Some (DirNode i)) = replies IsDirectory
unlink_at d n (Some (FileNode i)) = writes (set (Entry d n) None ∷ set (Links i) (Some 0) ∷ [])

-- Like the rename of POSIX, this one doesn't touch the file that it moves.
-- The new name has to be free.
abbrev pub rename_to : ℕ → ℕ → ℕ → ℕ → Option Node → Steps
rename_to d n m i None = writes (set (Entry d n) None ∷ set (Entry d m) (Some (FileNode i)) ∷ [])
rename_to d n m i (Some x) = replies Exists

-- the entry must lead to a file, and then the new name is looked at
abbrev pub rename_at : ℕ → ℕ → ℕ → Option Node → Steps
rename_at d n m None = replies NoEntry
rename_at d n m (Some (DirNode i)) = replies IsDirectory
rename_at d n m (Some (FileNode i)) = Look (One (Entry d m)) (rename_to d n m i)

-- a file's bytes are set (write)
abbrev pub fill_at : ℕ → Option Node → Steps
fill_at v None = replies NoEntry
fill_at v (Some (DirNode i)) = replies IsDirectory
fill_at v (Some (FileNode i)) = writes (set (Bytes i) (Some v) ∷ [])

-- the reply reports what is there (stat)
abbrev pub stat_at : Option Node → Steps
stat_at None = replies NoEntry
stat_at (Some (DirNode i)) = replies (DirectoryInfo i)
stat_at (Some (FileNode i)) = Look (One (Links i)) (λ l. Look (One (Bytes i)) (λ b. replies (FileInfo i l b)))

-- each call, made with the stamp k
abbrev pub steps : ℕ → What → Steps
steps k (Mkdir p n) = inside p (λ d. Look (One (Entry d n)) (mkdir_at k d n))
steps k (Rmdir p n) = inside p (λ d. Look (One (Entry d n)) (rmdir_at d n))
steps k (Create p n) = inside p (λ d. Look (One (Entry d n)) (create_at k d n))
steps k (Unlink p n) = inside p (λ d. Look (One (Entry d n)) (unlink_at d n))
steps k (Rename p n m) = inside p (λ d. Look (One (Entry d n)) (rename_at d n m))
steps k (Fill p n v) = inside p (λ d. Look (One (Entry d n)) (fill_at v))
steps k (Stat p n) = inside p (λ d. Look (One (Entry d n)) stat_at)

-- a place is read
abbrev pub reads : Place → Access Place
reads p = record { place = p; writes = false }

-- the set cell is written
abbrev pub wrote : Write Cell Shows → Access Place
wrote w = record { place = One w.cell; writes = true }

-- Each written cell is accessed for writing, and each place that is looked at for reading.
abbrev pub effect_of : Steps → Store → Effect Place Cell Shows Reply
effect_of t s = let end = follow Place Shown Outcome t (view s) [] in record {
  accesses = map wrote end.answer.writes ++ map reads end.seen;
  writes = end.answer.writes;
  reply = end.answer.reply;
}

-- the effect of a call in a store
abbrev pub does : Store → Call → Effect Place Cell Shows Reply
does s a = effect_of (steps a.stamp a.what) s

-- the directory is the root, or has a parent
abbrev pub IsThere : Store → ℕ → Type 0
IsThere s d = (d ≡ 1) ⊎ (is_some (s (Parent d)) ≡ true)

-- An entry leads to the file.
abbrev pub HasEntry : Store → ℕ → Type 0
HasEntry s i = (d : ℕ) × (n : ℕ) × (s (Entry d n) ≡ Some (FileNode i))

-- A sound tree (POSIX.1-2017, section 3, Directory, Link Count and Root Directory).
pub record IsSound (s : Store) : Type 0 where
  -- an entry is in a directory that is there, and its name is small
  pub in_dir : (d n : ℕ) (x : Node) → s (Entry d n) ≡ Some x → IsThere s d
  pub small : (d n : ℕ) (x : Node) → s (Entry d n) ≡ Some x → n < 3
  -- whatever an entry names is there, and nothing has two entries
  pub dir_there : (d n i : ℕ) → s (Entry d n) ≡ Some (DirNode i) → s (Parent i) ≡ Some d
  pub file_there : (d n i : ℕ) → s (Entry d n) ≡ Some (FileNode i) → s (Links i) ≡ Some 1
  pub one_entry : (d n e m : ℕ) (x : Node) → s (Entry d n) ≡ Some x → s (Entry e m) ≡ Some x → (d ≡ e) × (n ≡ m)
  -- a file to which no entry leads has no links, and a file without Links has no Bytes
  pub counted : (i l : ℕ) → s (Links i) ≡ Some l → (l ≡ 0) ⊎ HasEntry s i
  pub with_links : (i : ℕ) → s (Links i) ≡ None → s (Bytes i) ≡ None
  -- the root has no entry
  pub no_root : (d n : ℕ) → s (Entry d n) ≢ Some (DirNode 1)

-- the names that a call may make are small
abbrev pub HasSmallNames : What → Type 0
HasSmallNames (Mkdir p n) = n < 3
HasSmallNames (Create p n) = n < 3
HasSmallNames (Rename p n m) = m < 3
HasSmallNames (Rmdir p n) = Unit {0}
HasSmallNames (Unlink p n) = Unit {0}
HasSmallNames (Fill p n v) = Unit {0}
HasSmallNames (Stat p n) = Unit {0}

-- The stamp is at least 2 and numbers nothing that is stored.
pub record IsReady (a : Call) (s : Store) : Type 0 where
  pub from_two : 1 < a.stamp
  pub names : HasSmallNames a.what
  pub no_dir : (d n : ℕ) → s (Entry d n) ≢ Some (DirNode a.stamp)
  pub no_file : (d n : ℕ) → s (Entry d n) ≢ Some (FileNode a.stamp)
  pub no_parent : s (Parent a.stamp) ≡ None
  pub no_links : s (Links a.stamp) ≡ None
  pub no_bytes : s (Bytes a.stamp) ≡ None

-- the file of a cell: Links and Bytes are cells of their file, and other cells belong to none
abbrev pub file_of : Cell → Option ℕ
file_of (Links i) = Some i
file_of (Bytes i) = Some i
file_of x = None

-- the entry leads to this file
abbrev pub is_file : ℕ → Option Node → Bool
is_file i (Some (FileNode j)) = j == i
is_file i v = false

-- an entry that leads to the file names it, and nothing else does
abbrev pub names : (x : Cell) → Shows x → ℕ → Bool
names (Entry d n) v i = is_file i v
names (Parent d) v i = false
names (Links j) v i = false
names (Bytes j) v i = false

-- each cell as it is if nothing is stored
abbrev pub blank : (x : Cell) → Shows x
blank (Entry d n) = None
blank (Parent d) = None
blank (Links i) = None
blank (Bytes i) = None

-- The tree that has only the root.
abbrev pub empty : Store
empty = blank

-- the calls, given by their effects; the stamp numbers what a call makes
abbrev pub tiny : Effects
tiny = record {
  Store = Store;
  Cell = Cell;
  Value = Shows;
  Place = Place;
  Call = Call;
  Reply = Reply;
  File = ℕ;
  cell = λ s x. s x;
  write = write;
  same_cell = same_cell;
  covers = covers;
  overlap = overlap;
  stamp = λ a. a.stamp;
  does = does;
  IsSound = IsSound;
  IsReady = IsReady;
  file_of = file_of;
  names = names;
  blank = blank;
  own = λ a. a.stamp;
}

-- the calls of the tiny tree
abbrev pub tiny_calls : Calls
tiny_calls = calls_of tiny

-- the number is there and is 0
abbrev pub is_zero : Option ℕ → Bool
is_zero None = false
is_zero (Some l) = l == 0

-- A file with 0 links is dead (POSIX.1-2017, unlink).
abbrev pub is_dead : Store → ℕ → Bool
is_dead s i = is_zero (s (Links i))

-- the store without the cells of dead files
abbrev pub tidy : Store → Store
tidy s (Entry d n) = s (Entry d n)
tidy s (Parent d) = s (Parent d)
tidy s (Links i) = cond (is_dead s i) None (s (Links i))
tidy s (Bytes i) = cond (is_dead s i) None (s (Bytes i))
