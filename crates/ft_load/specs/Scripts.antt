-- The text of a script that makes what it is asked for.
use Rattle.std.specs.Prelude.{◌≡◌, ◌⊎◌, ◌||◌, ◌&&◌, ◌==◌, ◌+◌, ◌^◌, ◌<◌, ◌≤◌, ℕ, suc, length, Bool, true, false, not, List, [], ◌∷◌, ◌++◌, if◌then◌else◌, Option, None, Some, is_some, option_map}
use Rattle.std.specs.List.{AllByRecursion, flat_map}
use Rattle.std.specs.Option.{option_to_list}
use Rattle.std.specs.Io.KnownBytes.{Appends, Keeps}
use Rattle.ft_cells.specs.Attributes.{default_mode}
use Rattle.ft_cells.specs.declared.attributes.Attributes.{Attributes}
use Rattle.ft_cells.specs.declared.attributes.Timestamp.{Timestamp}
use Rattle.ft_cells.specs.declared.node.Kind.{Kind}
use Rattle.ft_cells.specs.declared.node.Kind.TheVariants.{Dir, File}
use Rattle.ft_cells.specs.declared.open_file.AccessMode.TheVariants.{WriteOnly}
use Rattle.ft_posix.specs.declared.call.Call.{Call}
use Rattle.ft_posix.specs.declared.call.Call.TheVariants as calls
use Rattle.ft_path.specs.declared.TheConstants.{LONGEST_PATH}
use Rattle.ft_path.specs.Name.{has_nul}
use Rattle.ft_load.specs.declared.script.Script.{Script}
use Rattle.ft_load.specs.declared.spelling.Form.{Form}
use Rattle.ft_load.specs.declared.spelling.Spelling.{Spelling}
use Rattle.ft_load.specs.Spellings.{PathFits, begin_line, below, call_line, commit_line, is_top_new, top_of, top_path}
use Rattle.ft_needs.specs.Lines.{needs_text}
use Rattle.ft_script.specs.Runs.{WritesPart}
use Rattle.ft_copy.specs.declared.copy_fault.CopyFault.{CopyFault}
use Rattle.ft_copy.specs.declared.copy_fault.CopyFault.TheVariants.{Memory, Write, BadName, PathTooLong, Full}
use Rattle.ft_copy.specs.Asked.{Asked, Start, Folder, Open, Piece, Close, Link, Symlink, Finish, GiveUp}

-- a mode if it must be set: it is not that which a directory or file gets anyway
abbrev pub said_mode : Kind → ℕ → Option ℕ
said_mode kind mode = if mode == default_mode kind then None else Some mode

-- owner and group are not both 0, as a directory or file gets them anyway
abbrev pub has_owners : Attributes → Bool
has_owners a = not ((a.owner == 0) && (a.group == 0))

-- what is said in that case
abbrev pub where_owned : Attributes → Call → Option Call
where_owned a call = if has_owners a then Some call else None

-- the owner and the group of what is at a path, or is open, as calls, if they must be set
abbrev pub chown_of : List ℕ → Attributes → Option Call
chown_of path a = where_owned a (calls.Chown (Some a.owner) (Some a.group) path)

abbrev pub fchown_of : ℕ → Attributes → Option Call
fchown_of fd a = where_owned a (calls.Fchown fd (Some a.owner) (Some a.group))

-- the time of the bytes of the open file as a call, if there is one
abbrev pub futime_of : ℕ → Option Timestamp → Option Call
futime_of fd time = option_map (calls.Futime fd) time

-- the call that makes a file and opens it for writing
abbrev pub open_new : List ℕ → Option ℕ → Call
open_new path mode = calls.Open path (record { access = WriteOnly; create = true; excl = true; trunc = false; append = false; mode = mode })

-- ---- the directory that holds everything

-- the call that makes it, unless it is the root
abbrev pub top_mkdir : Spelling → Option Call
top_mkdir spelling = if length (top_of spelling) == 0 then None else Some (calls.Mkdir (top_of spelling) None)

-- its mode, and its owner and its group, must be set: it is not new, or they are not what it gets
-- anyway
abbrev pub has_top_mode : Spelling → Attributes → Bool
has_top_mode spelling a = not (is_top_new spelling) || is_some (said_mode Dir a.mode)

abbrev pub has_top_owners : Spelling → Attributes → Bool
has_top_owners spelling a = not (is_top_new spelling) || has_owners a

-- the calls that set them then
abbrev pub top_chmod : Spelling → Attributes → Option Call
top_chmod spelling a = if has_top_mode spelling a then Some (calls.Chmod a.mode (top_path spelling)) else None

abbrev pub top_chown : Spelling → Attributes → Option Call
top_chown spelling a = if has_top_owners spelling a then Some (calls.Chown (Some a.owner) (Some a.group) (top_path spelling)) else None

-- ---- what is requested

-- The calls for each thing that is requested, if the next one has the stamp `next`, and `fd` is the
-- descriptor of the open file.
abbrev pub calls_at : Spelling → Asked → ℕ → ℕ → List Call
calls_at spelling Start next fd = option_to_list (top_mkdir spelling)
calls_at spelling (Folder path a) next fd = calls.Mkdir (below spelling path) (said_mode Dir a.mode) ∷ option_to_list (chown_of (below spelling path) a)
calls_at spelling (Open path a) next fd = open_new (below spelling path) (said_mode File a.mode) ∷ option_to_list (fchown_of next a)
calls_at spelling (Piece bytes) next fd = calls.Write fd bytes ∷ []
calls_at spelling (Close time) next fd = option_to_list (futime_of fd time) ++ calls.Close fd ∷ []
calls_at spelling (Link first path) next fd = calls.Link (below spelling first) (below spelling path) ∷ []
calls_at spelling (Symlink to path) next fd = calls.Symlink to (below spelling path) ∷ []
calls_at spelling (Finish a) next fd = option_to_list (top_chmod spelling a) ++ option_to_list (top_chown spelling a)
calls_at spelling GiveUp next fd = []

-- The paths of a call fit, and the target of a symbolic link does. No other call of a script has a
-- path.
abbrev pub CallFits : Call → Type 0
CallFits (calls.Mkdir path mode) = PathFits path
CallFits (calls.Open path flags) = PathFits path
CallFits (calls.Link old new) = PathFits old × PathFits new
CallFits (calls.Symlink target path) = PathFits target × PathFits path
CallFits (calls.Chmod mode path) = PathFits path
CallFits (calls.Chown owner group path) = PathFits path
CallFits other = Unit {0}

-- each call for what is requested fits, whatever its numbers
abbrev pub AskedFits : Spelling → Asked → Type 0
AskedFits spelling asked = (next fd : ℕ) → AllByRecursion CallFits (calls_at spelling asked next fd)

-- calls, each on its line
abbrev pub calls_text : Spelling → List Call → List ℕ
calls_text spelling calls = flat_map (call_line spelling) calls

-- The text that is written for each thing that is requested, in a script of this form: the calls,
-- after the first lines or before the last.
abbrev pub text_at : Form → Asked → ℕ → ℕ → List ℕ
text_at form Start next fd = needs_text form.limits ++ begin_line form.spelling ++ calls_text form.spelling (calls_at form.spelling Start next fd)
text_at form (Finish a) next fd = calls_text form.spelling (calls_at form.spelling (Finish a) next fd) ++ commit_line form.spelling
text_at form other next fd = calls_text form.spelling (calls_at form.spelling other next fd)

-- the stamp of the next call after these
abbrev pub stamp_behind : List Call → ℕ → ℕ
stamp_behind [] next = next
stamp_behind (call ∷ calls) next = stamp_behind calls (suc next)

-- the stamp of the next call after it
abbrev pub next_after : Spelling → Asked → ℕ → ℕ
next_after spelling asked next = stamp_behind (calls_at spelling asked next 0) next

-- the descriptor of the open file after it: the stamp of the call that has opened it
abbrev pub fd_after : Asked → ℕ → ℕ → ℕ
fd_after (Open path a) next fd = next
fd_after other next fd = fd

-- the text of one thing after another
abbrev pub text_of : Form → List Asked → ℕ → ℕ → List ℕ
text_of form [] next fd = []
text_of form (first ∷ more) next fd = text_at form first next fd ++ text_of form more (next_after form.spelling first next) (fd_after first next fd)

-- the stamp of the next call after all of this
abbrev pub next_of : Spelling → List Asked → ℕ → ℕ
next_of spelling [] next = next
next_of spelling (first ∷ more) next = next_of spelling more (next_after spelling first next)

-- the descriptor of the open file after it
abbrev pub fd_of : Spelling → List Asked → ℕ → ℕ → ℕ
fd_of spelling [] next fd = fd
fd_of spelling (first ∷ more) next fd = fd_of spelling more (next_after spelling first next) (fd_after first next fd)

-- The script that makes what it is asked for, on a core with these limits: if this is new, the first
-- call has stamp 2.
abbrev pub script_text : Form → List Asked → List ℕ
script_text form asked = text_of form asked 2 0

-- ---- paths that can't be written

-- Why a path is refused: it has more bytes than a path may have, or if not, it has a null byte.
abbrev pub IsBadPath : CopyFault → List ℕ → Type 0
IsBadPath trouble path = ((trouble ≡ PathTooLong) × (LONGEST_PATH < length path)) ⊎ ((trouble ≡ BadName) × PathFits path × (has_nul path ≡ true))

-- A path of what is requested is refused, or the target of a symbolic link is.
abbrev pub HasBadPath : Spelling → CopyFault → Asked → Type 0
HasBadPath spelling trouble Start = IsBadPath trouble (top_path spelling)
HasBadPath spelling trouble (Folder path a) = IsBadPath trouble (below spelling path)
HasBadPath spelling trouble (Open path a) = IsBadPath trouble (below spelling path)
HasBadPath spelling trouble (Piece bytes) = ⊥
HasBadPath spelling trouble (Close time) = ⊥
HasBadPath spelling trouble (Link first path) = IsBadPath trouble (below spelling first) ⊎ IsBadPath trouble (below spelling path)
HasBadPath spelling trouble (Symlink to path) = IsBadPath trouble to ⊎ IsBadPath trouble (below spelling path)
HasBadPath spelling trouble (Finish a) = IsBadPath trouble (top_path spelling)
HasBadPath spelling trouble GiveUp = ⊥

-- ---- what was written

-- the text was written
abbrev pub Says : List ℕ → Option (List ℕ) → Option (List ℕ) → Type 0
Says text held held_after = Appends held held_after text

-- so many calls are granted before the one with this stamp
abbrev pub IsWithinCalls : Form → ℕ → Type 0
IsWithinCalls form next = next ≤ form.limits.calls + 2

-- a call was written, which takes the next stamp
abbrev pub AsksFor : Form → Call → ℕ → Option (List ℕ) → ℕ → Option (List ℕ) → Type 0
AsksFor form call next held next_after held_after = Appends held held_after (call_line form.spelling call) × (next_after ≡ suc next) × IsWithinCalls form next_after

-- The text that is written for one thing, and what comes next. If it is a call, there are no more
-- than are granted. Each call fits.
abbrev pub Scripts : Form → Asked → ℕ → ℕ → Option (List ℕ) → ℕ → ℕ → Option (List ℕ) → Type 0
Scripts form asked next fd held next_now fd_now held_now =
    Appends held held_now (text_at form asked next fd) × (next_now ≡ next_after form.spelling asked next) × (fd_now ≡ fd_after asked next fd) × ((next_now ≡ next) ⊎ IsWithinCalls form next_now)
    × AskedFits form.spelling asked

-- there are as many calls as are granted, or no further stamp
abbrev pub IsFull : Form → ℕ → Type 0
IsFull form next = (suc form.limits.calls < next) ⊎ (2 ^ 64 ≤ suc next)

-- A part of a text was written, and then the writer failed.
abbrev pub FailsToSay : CopyFault → List ℕ → Option (List ℕ) → Option (List ℕ) → Type 0
FailsToSay trouble text held held_after = (trouble ≡ Write) × WritesPart held held_after text

-- The first of these calls were written, and the next one was not: there was no memory, or there
-- are as many calls as are granted.
abbrev pub BreaksOffBetween : Form → CopyFault → List Call → ℕ → Option (List ℕ) → Option (List ℕ) → Type 0
BreaksOffBetween form trouble calls next held held_now =
    (done : List Call) × (rest : List Call) × (calls ≡ done ++ rest) × Appends held held_now (calls_text form.spelling done)
    × ((trouble ≡ Memory) ⊎ ((trouble ≡ Full) × IsFull form (stamp_behind done next)))

-- A part of the text was written, and then the writer failed; or the first of its calls were.
abbrev pub BreaksOffAmid : Form → CopyFault → Asked → ℕ → ℕ → Option (List ℕ) → Option (List ℕ) → Type 0
BreaksOffAmid form trouble asked next fd held held_now =
    FailsToSay trouble (text_at form asked next fd) held held_now ⊎ BreaksOffBetween form trouble (calls_at form.spelling asked next fd) next held held_now

-- Nothing was written: there was no memory, or a path is refused. Or each call fits, and the text
-- was not written whole for one of the other causes.
abbrev pub BreaksOff : Form → CopyFault → Asked → ℕ → ℕ → Option (List ℕ) → Option (List ℕ) → Type 0
BreaksOff form trouble asked next fd held held_now =
    (Keeps held held_now × ((trouble ≡ Memory) ⊎ HasBadPath form.spelling trouble asked))
    ⊎ (AskedFits form.spelling asked × BreaksOffAmid form trouble asked next fd held held_now)

-- The same of a call; or nothing was written of it.
abbrev pub FailsToAsk : Form → CopyFault → Call → ℕ → Option (List ℕ) → Option (List ℕ) → Type 0
FailsToAsk form trouble call next held held_after =
    FailsToSay trouble (call_line form.spelling call) held held_after ⊎ (Keeps held held_after × ((trouble ≡ Memory) ⊎ ((trouble ≡ Full) × IsFull form next)))

-- Calls were written, one after another. There are no more than are granted.
abbrev pub AsksForAll : Form → List Call → ℕ → Option (List ℕ) → ℕ → Option (List ℕ) → Type 0
AsksForAll form calls next held next_after held_after =
    Appends held held_after (calls_text form.spelling calls) × (next_after ≡ stamp_behind calls next) × ((next_after ≡ next) ⊎ IsWithinCalls form next_after)

-- A part of their text was written, and then the writer failed; or the first of them were.
abbrev pub FailsToAskAll : Form → CopyFault → List Call → ℕ → Option (List ℕ) → Option (List ℕ) → Type 0
FailsToAskAll form trouble calls next held held_after =
    FailsToSay trouble (calls_text form.spelling calls) held held_after ⊎ BreaksOffBetween form trouble calls next held held_after

-- ---- the same of a script, by what its writer holds

-- the call was written
abbrev pub WritesCall : {W : Type 0} → (W → Option (List ℕ)) → Call → Script W → Script W → Type 0
WritesCall held call old new = AsksFor old.form call old.next (held old.writer) new.next (held new.writer)

-- it was not, for this trouble
abbrev pub FailsToWriteCall : {W : Type 0} → (W → Option (List ℕ)) → CopyFault → Call → Script W → Script W → Type 0
FailsToWriteCall held trouble call old new = FailsToAsk old.form trouble call old.next (held old.writer) (held new.writer)

-- the calls were written
abbrev pub WritesCalls : {W : Type 0} → (W → Option (List ℕ)) → List Call → Script W → Script W → Type 0
WritesCalls held calls old new = AsksForAll old.form calls old.next (held old.writer) new.next (held new.writer)

-- not all were, for this trouble
abbrev pub FailsToWriteCalls : {W : Type 0} → (W → Option (List ℕ)) → CopyFault → List Call → Script W → Script W → Type 0
FailsToWriteCalls held trouble calls old new = FailsToAskAll old.form trouble calls old.next (held old.writer) (held new.writer)
