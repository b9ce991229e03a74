-- The outcome of a line through a handle, and its reply.
use Rattle.std.specs.Prelude.{◌≡◌, ◌⊎◌, ◌==◌, ◌||◌, ℕ, Bool, not, MatchBool, List, length, Option, Some, None}
use Rattle.ft_line.specs.declared.line.ScriptLine.{ScriptLine}
use Rattle.ft_line.specs.declared.line.ScriptLine.TheVariants.{Bad}
use Rattle.ft_session.specs.Buffers.{filled}
use Rattle.ft_session.specs.Parts.{reply_text}
use Rattle.ft_session.specs.Sessions.{IsExecuted, IsSame}
use Rattle.ft_session.specs.declared.last_answer.LastAnswer.{LastAnswer}
use Rattle.ft_session.specs.declared.session.Session.{Session}
use Rattle.nuzolged.specs.declared.nuz_answer.NuzAnswer.{NuzAnswer}
use Rattle.nuzolged.specs.Numbers.{told_of, told_size, no_memory, closed, bad}

-- The line was carried out, and the answer is its outcome. Or nothing has changed: it is not a
-- valid request, or there was no memory.
abbrev pub IsLineTold : Session → ScriptLine → NuzAnswer → Session → Type 0
IsLineTold old line told new = (IsExecuted old line new × (told ≡ told_of new.last)) ⊎ (IsSame old new × (((line ≡ Bad) × (told ≡ bad)) ⊎ (told ≡ no_memory)))

-- the same through a handle, which may be closed
abbrev pub IsLineAsked : Option Session → ScriptLine → NuzAnswer → Option Session → Type 0
IsLineAsked None line told new = (told ≡ closed) × (new ≡ None)
IsLineAsked (Some old) line told new = (session : Session) × (new ≡ Some session) × IsLineTold old line told session

-- The reply is copied, and its length told; or there was no memory for its text.
abbrev pub HasReplied : LastAnswer → NuzAnswer → List ℕ → List ℕ → Type 0
HasReplied last told before after = ((told ≡ told_size (length (reply_text last))) × (after ≡ filled (reply_text last) before)) ⊎ ((told ≡ no_memory) × (after ≡ before))

-- the same through a handle, which may be closed
abbrev pub IsReplied : Option Session → NuzAnswer → List ℕ → List ℕ → Type 0
IsReplied None told before after = (told ≡ closed) × (after ≡ before)
IsReplied (Some session) told before after = HasReplied session.last told before after

-- ---- the reply that is told with the line

-- The reply is copied, and it is told how many bytes it has; or there was no memory for its text,
-- and the greatest number is told.
abbrev pub IsSizeOfReply : LastAnswer → ℕ → List ℕ → List ℕ → Type 0
IsSizeOfReply last size before after = ((size ≡ length (reply_text last)) × (after ≡ filled (reply_text last) before)) ⊎ ((size ≡ 18446744073709551615) × (after ≡ before))

-- the same through a handle; a closed one has no reply
abbrev pub IsReplySize : Option Session → ℕ → List ℕ → List ℕ → Type 0
IsReplySize None size before after = (size ≡ 0) × (after ≡ before)
IsReplySize (Some session) size before after = IsSizeOfReply session.last size before after

-- a line that has come to this code has a reply of its own
abbrev pub has_reply : ℕ → Bool
has_reply code = not (code == 1200 || code == 1201 || code == 1001)

-- The reply to a line is told, if it has one; else none is.
abbrev pub IsReplyTold : Option Session → ℕ → ℕ → List ℕ → List ℕ → Type 0
IsReplyTold session code size before after = MatchBool (has_reply code) (IsReplySize session size before after) ((size ≡ 0) × (after ≡ before))
