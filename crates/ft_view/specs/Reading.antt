-- The questions of a reader, and the answers of a tree to them (POSIX.1-2017, System Interfaces,
-- lstat, open, read, readlink and stat).
use Rattle.std.specs.Prelude.{ℕ, ◌+◌, false, List, ◌∷◌, Option, Some, None}
use Rattle.ft_body.specs.declared.TheConstants.{LARGEST_SIZE}
use Rattle.ft_cells.specs.declared.open_file.AccessMode.TheVariants.{ReadOnly}
use Rattle.ft_cells.specs.Plain.{PlainTree}
use Rattle.ft_posix.specs.declared.call.Call.{Call}
use Rattle.ft_posix.specs.declared.call.Call.TheVariants.{Stat as StatCall, Lstat as LstatCall, Readlink as ReadlinkCall, List as ListCall, Open as OpenCall, Read as ReadCall}
use Rattle.ft_posix.specs.declared.call.OpenFlags.{OpenFlags}
use Rattle.ft_posix.specs.declared.call.Reply.{Reply}
use Rattle.ft_posix.specs.declared.call.Reply.TheVariants.{Number}
use Rattle.ft_posix.specs.declared.intent.Edit.{Edit}
use Rattle.ft_posix.specs.declared.intent.Edit.TheVariants.{Open}
use Rattle.ft_posix.specs.declared.intent.PlannedReply.{PlannedReply}
use Rattle.ft_posix.specs.declared.intent.PlannedReply.TheVariants.{BytesOf}
use Rattle.ft_posix.specs.declared.intent.Intent.{Intent}
use Rattle.ft_posix.specs.Exec.{exec}
use Rattle.ft_view.specs.declared.TheConstants.{READING}
use Rattle.ft_view.specs.declared.answering.Question.{Question}
use Rattle.ft_view.specs.declared.answering.Question.TheVariants.{Stat, Lstat, Link, List as ListDir, File}
use Rattle.ft_view.specs.Replay.{reply_on}

-- for reading, with no flag and no mode
abbrev pub to_read : OpenFlags
to_read = record { access = ReadOnly; create = false; excl = false; trunc = false; append = false; mode = None }

-- the call that opens a file for reading
abbrev pub open_to_read : List ℕ → Call
open_to_read path = OpenCall path to_read

-- the reply of a `read` of as many bytes as a file may have, after an `open` with this reply, or
-- the error of the `open`
abbrev pub read_whole : PlainTree → Reply → Reply
read_whole p (Number fd) = (exec p (READING + 1) (ReadCall fd LARGEST_SIZE)).1
read_whole p reply = reply

-- the reply to a reader that opens the file of a path for reading, and then reads all of it
abbrev pub contents_on : PlainTree → List ℕ → Reply
contents_on p path = let opened = exec p READING (open_to_read path) in read_whole opened.0 opened.1

-- the answer to a question of a reader
abbrev pub answer_on : PlainTree → Question → Reply
answer_on p (Stat path) = reply_on p (StatCall path.now)
answer_on p (Lstat path) = reply_on p (LstatCall path.now)
answer_on p (Link path) = reply_on p (ReadlinkCall path.now)
answer_on p (ListDir path) = reply_on p (ListCall path.now)
answer_on p (File path) = contents_on p path.now

-- the file of the description that the first of these edits opens, if it opens one
abbrev pub opened_in : List Edit → Option ℕ
opened_in (Open fd (Some description) ∷ edits) = Some description.file
opened_in edits = None

-- the planned reply for a file that is opened: all its bytes
abbrev pub whole_told : Option ℕ → PlannedReply → PlannedReply
whole_told None told = told
whole_told (Some file) told = BytesOf file 0 LARGEST_SIZE

-- the reply as the code plans it: from the plan of the `open` only
abbrev pub whole_of : Intent → PlannedReply
whole_of intent = whole_told (opened_in intent.edits) intent.told
