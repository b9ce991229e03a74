-- Answers in numbers.
use Rattle.std.specs.Prelude.{ℕ, pos, false, length, is_some, unwrap_or}
use Rattle.ft_path.specs.declared.errno.Errno.{Errno}
use Rattle.ft_path.specs.declared.errno.Errno.TheVariants as errno
use Rattle.ft_cells.specs.Attributes.{attributes_from}
use Rattle.ft_cells.specs.declared.attributes.Timestamp.{Timestamp}
use Rattle.ft_cells.specs.declared.node.Kind.{Kind}
use Rattle.ft_posix.specs.declared.call.FileInfo.{FileInfo}
use Rattle.ft_posix.specs.declared.call.Reply.{Reply}
use Rattle.ft_posix.specs.declared.call.Reply.TheVariants.{Done, Names, Number, Bytes, Info, Failed}
use Rattle.ft_core.specs.declared.fault.Fault.{Fault}
use Rattle.ft_core.specs.declared.fault.Fault.TheVariants as fault
use Rattle.ft_core.specs.declared.request.Answer.{Answer}
use Rattle.ft_core.specs.declared.request.Answer.TheVariants.{Txn, Granted, Waits, Dropped, Committed, Aborted, Undone, Cleared, Refused}
use Rattle.ft_session.specs.declared.last_answer.LastAnswer.{LastAnswer}
use Rattle.ft_session.specs.declared.last_answer.LastAnswer.TheVariants as last
use Rattle.nuzolged.specs.declared.nuz_answer.NuzAnswer.{NuzAnswer}
use Rattle.nuzolged.specs.Listing.{kind_number, listing, size_of}

-- the answer if no call has looked at a directory or file
abbrev pub told_of_none : ℕ → ℕ → ℕ → ℕ → ℕ → NuzAnswer
told_of_none code kind stamp number size = record {
  code = code;
  kind = kind;
  stamp = stamp;
  number = number;
  links = 0;
  size = size;
  mode = 0;
  owner = 0;
  group = 0;
  has_time = false;
  seconds = pos 0;
  nanoseconds = 0;
}

-- a code, a stamp and a number, and nothing else
abbrev pub told : ℕ → ℕ → ℕ → NuzAnswer
told code stamp number = told_of_none code 0 stamp number 0

-- it is done, and there are so many bytes
abbrev pub told_size : ℕ → NuzAnswer
told_size size = told_of_none 0 0 0 0 size

-- the same of a name, with the kind of what it leads to
abbrev pub told_name : Kind → ℕ → NuzAnswer
told_name kind size = told_of_none 0 (kind_number kind) 0 0 size

-- there was no memory
abbrev pub no_memory : NuzAnswer
no_memory = told 1001 0 0

-- the handle holds no tree
abbrev pub closed : NuzAnswer
closed = told 1200 0 0

-- an argument is not valid
abbrev pub bad : NuzAnswer
bad = told 1201 0 0

-- the numbers of errors, as Linux has them (errno.h)
abbrev pub errno_number : Errno → ℕ
errno_number errno.EPERM = 1
errno_number errno.ENOENT = 2
errno_number errno.EBADF = 9
errno_number errno.EBUSY = 16
errno_number errno.EEXIST = 17
errno_number errno.ENOTDIR = 20
errno_number errno.EISDIR = 21
errno_number errno.EINVAL = 22
errno_number errno.EFBIG = 27
errno_number errno.EMLINK = 31
errno_number errno.ENAMETOOLONG = 36
errno_number errno.ENOTEMPTY = 39
errno_number errno.ELOOP = 40
errno_number errno.EOVERFLOW = 75

-- the numbers of refusals come after those of errors
abbrev pub fault_number : Fault → ℕ
fault_number fault.Memory = 1001
fault_number fault.NoTxn = 1002
fault_number fault.Ended = 1003
fault_number fault.ChildLive = 1004
fault_number fault.NothingToUndo = 1005
fault_number fault.SubSince = 1006
fault_number fault.Full = 1007
fault_number fault.Deep = 1008
fault_number fault.Live = 1009
fault_number fault.NoAsk = 1010
fault_number fault.NoViews = 1011
fault_number fault.BadLimits = 1012

-- the time in an answer that has none
abbrev pub epoch : Timestamp
epoch = record { seconds = pos 0; nanoseconds = 0 }

-- the answer of `stat`: the attributes even if they are those that one has anyway, and whether
-- there is a time
abbrev pub told_of_info : ℕ → FileInfo → NuzAnswer
told_of_info stamp info =
    let attributes = attributes_from info.kind info.attributes in
    let time = unwrap_or info.time epoch in
    record {
      code = 0;
      kind = kind_number info.kind;
      stamp = stamp;
      number = info.number;
      links = info.links;
      size = info.size;
      mode = attributes.mode;
      owner = attributes.owner;
      group = attributes.group;
      has_time = is_some info.time;
      seconds = time.seconds;
      nanoseconds = time.nanoseconds;
    }

-- a reply: its stamp, and code 0 with a number, with how many names there are and how many bytes
-- those have as C has them, with how many bytes there are, or with the answer of `stat`; or the
-- number of its error
abbrev pub told_of_reply : ℕ → Reply → NuzAnswer
told_of_reply stamp Done = told 0 stamp 0
told_of_reply stamp (Names names) = told_of_none 0 0 stamp (length names) (size_of (listing names))
told_of_reply stamp (Number number) = told 0 stamp number
told_of_reply stamp (Bytes bytes) = told 0 stamp (length bytes)
told_of_reply stamp (Info info) = told_of_info stamp info
told_of_reply stamp (Failed errno) = told (errno_number errno) stamp 0

-- an answer: the code 1100 says that the call waits, and the number for how many transactions
abbrev pub told_of_answer : Answer → NuzAnswer
told_of_answer (Txn txn) = told 0 0 txn
told_of_answer (Granted stamp reply) = told_of_reply stamp reply
told_of_answer (Waits blockers) = told 1100 0 (length blockers)
told_of_answer Dropped = told 0 0 0
told_of_answer Committed = told 0 0 0
told_of_answer (Aborted count) = told 0 0 count
told_of_answer (Undone stamp) = told 0 stamp 0
told_of_answer Cleared = told 0 0 0
told_of_answer (Refused fault) = told (fault_number fault) 0 0

-- the outcome of the last request
abbrev pub told_of : LastAnswer → NuzAnswer
told_of (last.Answer answer) = told_of_answer answer
told_of (last.Text text) = told_size (length text)
