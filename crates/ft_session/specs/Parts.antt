-- The parts of the outcome of the last request.
use Rattle.std.specs.Prelude.{ℕ, List, [], ◌∷◌, ◌++◌, Option, Some, None}
use Rattle.ft_cells.specs.declared.node.Kind.{Kind}
use Rattle.ft_posix.specs.declared.call.Reply.{Reply}
use Rattle.ft_posix.specs.declared.call.Reply.TheVariants.{Names, Bytes}
use Rattle.ft_core.specs.declared.request.Answer.{Answer}
use Rattle.ft_core.specs.declared.request.Answer.TheVariants.{Granted, Waits}
use Rattle.ft_line.specs.Texts.{text_of}
use Rattle.ft_session.specs.declared.last_answer.LastAnswer.{LastAnswer}
use Rattle.ft_session.specs.declared.last_answer.LastAnswer.TheVariants as last

-- the names that a reply lists
abbrev pub names_of : Reply → List (List ℕ × Kind)
names_of (Names names) = names
names_of other = []

-- the bytes that a reply has
abbrev pub bytes_of : Reply → Option (List ℕ)
bytes_of (Bytes bytes) = Some bytes
bytes_of other = None

-- the same of an answer
abbrev pub names_answered : Answer → List (List ℕ × Kind)
names_answered (Granted stamp reply) = names_of reply
names_answered other = []

-- the bytes of an answer, if it is a reply that has some
abbrev pub bytes_answered : Answer → Option (List ℕ)
bytes_answered (Granted stamp reply) = bytes_of reply
bytes_answered other = None

-- the transactions that an answer names as blockers
abbrev pub blockers_answered : Answer → List ℕ
blockers_answered (Waits blockers) = blockers
blockers_answered other = []

-- the names that a list has answered
abbrev pub names_in : LastAnswer → List (List ℕ × Kind)
names_in (last.Answer answer) = names_answered answer
names_in (last.Text text) = []

-- the transactions for which a call waits
abbrev pub blockers_in : LastAnswer → List ℕ
blockers_in (last.Answer answer) = blockers_answered answer
blockers_in (last.Text text) = []

-- the bytes that a read, or a read of a target, has answered
abbrev pub bytes_in : LastAnswer → Option (List ℕ)
bytes_in (last.Answer answer) = bytes_answered answer
bytes_in (last.Text text) = None

-- the reply as a script shows it, with its line feed
abbrev pub reply_text : LastAnswer → List ℕ
reply_text (last.Answer answer) = text_of answer ++ 10 ∷ []
reply_text (last.Text text) = text
