-- The parts of the last answer.
use Rattle.std.specs.Prelude.{ℕ, List, length, Option, Some, None, slice_get}
use Rattle.ft_cells.specs.declared.node.Kind.{Kind}
use Rattle.ft_posix.specs.declared.call.Reply.{Reply}
use Rattle.ft_posix.specs.declared.call.Reply.TheVariants.{Names, Bytes}
use Rattle.ft_core.specs.declared.request.Answer.{Answer}
use Rattle.ft_core.specs.declared.request.Answer.TheVariants.{Granted}
use Rattle.ft_session.specs.declared.last_answer.LastAnswer.{LastAnswer}
use Rattle.ft_session.specs.declared.last_answer.LastAnswer.TheVariants as last
use Rattle.ft_session.specs.declared.session.Session.{Session}
use Rattle.ft_session.specs.Parts.{names_in, blockers_in}
use Rattle.nuzolged.specs.declared.nuz_answer.NuzAnswer.{NuzAnswer}
use Rattle.nuzolged.specs.Listing.{listing, size_of}
use Rattle.nuzolged.specs.Numbers.{told, told_size, told_name, closed, bad}

-- ---- a name of a list

-- its kind, and how many bytes it has; `bad` if there is none
abbrev pub named : Option (List ℕ × Kind) → NuzAnswer
named None = bad
named (Some name) = told_name name.1 (length name.0)

-- of the name at this place
abbrev pub name_at : LastAnswer → ℕ → NuzAnswer
name_at last index = named (slice_get (names_in last) index)

-- the same through a handle, which may be closed
abbrev pub name_told : Option Session → ℕ → NuzAnswer
name_told None index = closed
name_told (Some session) index = name_at session.last index

-- the bytes of a name
abbrev pub first_part : Option (List ℕ × Kind) → Option (List ℕ)
first_part None = None
first_part (Some name) = Some name.0

-- those of the name at this place
abbrev pub name_bytes_at : LastAnswer → ℕ → Option (List ℕ)
name_bytes_at last index = first_part (slice_get (names_in last) index)

-- its bytes, if there is one
abbrev pub name_bytes : Option Session → ℕ → Option (List ℕ)
name_bytes None index = None
name_bytes (Some session) index = name_bytes_at session.last index

-- ---- a transaction for which a call waits

-- its number; `bad` if there is none
abbrev pub numbered : Option ℕ → NuzAnswer
numbered None = bad
numbered (Some txn) = told 0 0 txn

-- of the transaction at this place
abbrev pub blocker_at : LastAnswer → ℕ → NuzAnswer
blocker_at last index = numbered (slice_get (blockers_in last) index)

-- the same through a handle, which may be closed
abbrev pub blocker_told : Option Session → ℕ → NuzAnswer
blocker_told None index = closed
blocker_told (Some session) index = blocker_at session.last index

-- ---- the bytes of a read or of a target, and the names of a list

-- those that a reply has
abbrev pub data_of : Reply → Option (List ℕ)
data_of (Names names) = Some (listing names)
data_of (Bytes bytes) = Some bytes
data_of other = None

-- the same of an answer
abbrev pub data_answered : Answer → Option (List ℕ)
data_answered (Granted stamp reply) = data_of reply
data_answered other = None

-- the same of the outcome of the last request
abbrev pub data_in : LastAnswer → Option (List ℕ)
data_in (last.Answer answer) = data_answered answer
data_in (last.Text text) = None

-- how many there are; `bad` if there are none
abbrev pub data_count : Option (List ℕ) → NuzAnswer
data_count None = bad
data_count (Some bytes) = told_size (size_of bytes)

-- the same through a handle, which may be closed
abbrev pub data_told : Option Session → NuzAnswer
data_told None = closed
data_told (Some session) = data_count (data_in session.last)

-- those that the last answer of a handle has, if it has some
abbrev pub data_held : Option Session → Option (List ℕ)
data_held None = None
data_held (Some session) = data_in session.last
