-- Cuts of a call before it is made, which its answer does not show: a path to the length at which
-- it is too long, bytes to those that could have room, and a mode to the first number that is none.
use Rattle.std.specs.Prelude.{◌≡◌, ℕ, ◌+◌, min, max, ℤ, pos, negsuc, List, take, map, option_map}
use Rattle.std.specs.FinMap as finite
use Rattle.ft_path.specs.declared.TheConstants.{LONGEST_PATH}
use Rattle.ft_body.specs.Bytes.{room_at}
use Rattle.ft_cells.specs.declared.attributes.TheConstants.{MOST_MODE}
use Rattle.ft_cells.specs.declared.limits.TreeLimits.{TreeLimits}
use Rattle.ft_posix.specs.declared.call.Call.{Call}
use Rattle.ft_posix.specs.declared.call.Call.TheVariants.{Mkdir, Rmdir, List as ListDir, Open, Close, Read, Write, Pread, Pwrite, Lseek, Truncate, Ftruncate, Stat, Fstat, Link, Unlink, Rename, Symlink, Readlink, Lstat, Chmod, Fchmod, Chown, Lchown, Fchown, Utime, Lutime, Futime}
use Rattle.ft_core.specs.declared.request.Event.{Event}
use Rattle.ft_core.specs.declared.request.Event.TheVariants.{Begin, Call as CallEvent, Undo, Commit, Abort}
use Rattle.ft_core.specs.declared.request.Answer.{Answer}
use Rattle.ft_core.specs.declared.request.Request.{Request}
use Rattle.ft_core.specs.declared.request.Request.TheVariants.{Ask}
use Rattle.ft_core.specs.States.{State}
use Rattle.ft_core.specs.Steps.{IsStep, exact_rule}
use Rattle.ft_line.specs.declared.line.Query.{Query}
use Rattle.ft_line.specs.Lines.{IsReportText}

-- one byte more of a path, or of the target of a symbolic link, than it may have: a longer one is
-- ENAMETOOLONG, whatever comes after (POSIX.1-2017, System Interfaces, 2.3 and symlink)
abbrev pub cut_path : List ℕ → List ℕ
cut_path path = take (LONGEST_PATH + 1) path

-- one more than the greatest mode, of those above it: each of them is EINVAL (a rule of this
-- project, since POSIX leaves other bits open)
abbrev pub cut_mode : ℕ → ℕ
cut_mode mode = min mode (MOST_MODE + 1)

-- how many bytes a file of the tree may have, or one if it may have none
abbrev pub most_of : TreeLimits → ℕ
most_of limits = max 1 limits.file_size

-- as many bytes of a write as a file of the tree may have: its place is known when it is granted;
-- and one if it may have none, since to write none is no error
abbrev pub cut_bytes : TreeLimits → List ℕ → List ℕ
cut_bytes limits bytes = take (most_of limits) bytes

-- as many bytes of a pwrite as have room at its place (POSIX.1-2017, System Interfaces, pwrite);
-- and one if none has, since to write none is no error
abbrev pub most_at : TreeLimits → ℤ → ℕ
most_at limits (pos at) = max 1 (room_at limits.file_size at)
most_at limits (negsuc n) = 1

-- what is left of a call on a tree with these limits
abbrev pub cut_of : TreeLimits → Call → Call
cut_of limits (Mkdir path mode) = Mkdir (cut_path path) (option_map cut_mode mode)
cut_of limits (Rmdir path) = Rmdir (cut_path path)
cut_of limits (ListDir path) = ListDir (cut_path path)
cut_of limits (Open path flags) = Open (cut_path path) (record flags { mode = option_map cut_mode flags.mode })
cut_of limits (Close fd) = Close fd
cut_of limits (Read fd len) = Read fd len
cut_of limits (Write fd bytes) = Write fd (cut_bytes limits bytes)
cut_of limits (Pread fd off len) = Pread fd off len
cut_of limits (Pwrite fd off bytes) = Pwrite fd off (take (most_at limits off) bytes)
cut_of limits (Lseek fd whence off) = Lseek fd whence off
cut_of limits (Truncate len path) = Truncate len (cut_path path)
cut_of limits (Ftruncate fd len) = Ftruncate fd len
cut_of limits (Stat path) = Stat (cut_path path)
cut_of limits (Fstat fd) = Fstat fd
cut_of limits (Link old new) = Link (cut_path old) (cut_path new)
cut_of limits (Unlink path) = Unlink (cut_path path)
cut_of limits (Rename old new) = Rename (cut_path old) (cut_path new)
cut_of limits (Symlink target path) = Symlink (cut_path target) (cut_path path)
cut_of limits (Readlink path) = Readlink (cut_path path)
cut_of limits (Lstat path) = Lstat (cut_path path)
cut_of limits (Chmod mode path) = Chmod (cut_mode mode) (cut_path path)
cut_of limits (Fchmod fd mode) = Fchmod fd (cut_mode mode)
cut_of limits (Chown owner group path) = Chown owner group (cut_path path)
cut_of limits (Lchown owner group path) = Lchown owner group (cut_path path)
cut_of limits (Fchown fd owner group) = Fchown fd owner group
cut_of limits (Utime time path) = Utime time (cut_path path)
cut_of limits (Lutime time path) = Lutime time (cut_path path)
cut_of limits (Futime fd time) = Futime fd time

-- ---- what a core keeps

-- what is left of an event
abbrev pub cut_event : TreeLimits → Event → Event
cut_event limits (Begin t parent) = Begin t parent
cut_event limits (CallEvent k t call reply accesses) = CallEvent k t (cut_of limits call) reply accesses
cut_event limits (Undo k) = Undo k
cut_event limits (Commit t) = Commit t
cut_event limits (Abort t) = Abort t

-- what the tree of a state allows
abbrev pub limits_in : State → TreeLimits
limits_in s = s.base.tree.limits

-- Two states are the same, except what could be cut from the calls that were made and from those
-- that wait.
pub record AreAlike (s s' : State) : Type 0 where
  pub rule : s'.rule ≡ s.rule
  pub limits : s'.limits ≡ s.limits
  pub base : s'.base ≡ s.base
  pub events : map (cut_event (limits_in s)) s'.events ≡ map (cut_event (limits_in s)) s.events
  pub asks : (t : ℕ) → option_map (cut_of (limits_in s)) (finite.get s'.asks t) ≡ option_map (cut_of (limits_in s)) (finite.get s.asks t)
  pub last_txn : s'.last_txn ≡ s.last_txn
  pub last_stamp : s'.last_stamp ≡ s.last_stamp

-- what a step answers to the one request in the one state, a step answers to the other in the
-- other, and they leave states that are alike
abbrev pub AnswerAlike : State → Request → State → Request → Type 0
AnswerAlike s request s' request' =
    (answer : Answer) (after : State) → IsStep exact_rule s request answer after → (after' : State) × IsStep exact_rule s' request' answer after' × AreAlike after after'

-- Nobody sees what is cut: from states that are alike on,
pub record CutLaw : Type 0 where
  -- calls of which the same is left have the same answers;
  pub calls : (s s' : State) → AreAlike s s' → (t : ℕ) (call call' : Call) → cut_of (limits_in s) call' ≡ cut_of (limits_in s) call → AnswerAlike s (Ask t call) s' (Ask t call')
  -- so has whatever else is asked, and asked later, since what is left is alike;
  pub requests : (s s' : State) → AreAlike s s' → (request : Request) → AnswerAlike s request s' request
  -- and reports are the same.
  pub reports : (s s' : State) → AreAlike s s' → (report : Query) (text : List ℕ) → IsReportText s report text → IsReportText s' report text
  -- A call and what is left of it are such calls.
  pub left : (limits : TreeLimits) (call : Call) → cut_of limits (cut_of limits call) ≡ cut_of limits call
