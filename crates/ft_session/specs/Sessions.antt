-- The session after a request.
use Rattle.std.specs.Prelude.{◌≡◌, ◌⊎◌, ℕ, List, [], MatchBool}
use Rattle.ft_core.specs.declared.request.Request.{Request}
use Rattle.ft_core.specs.declared.request.Answer.{Answer}
use Rattle.ft_core.specs.Steps.{IsStep, exact_rule}
use Rattle.ft_line.specs.declared.line.ScriptLine.{ScriptLine}
use Rattle.ft_line.specs.declared.line.ScriptLine.TheVariants as line
use Rattle.ft_line.specs.Lines.{GivesText, IsReport}
use Rattle.ft_session.specs.declared.last_answer.LastAnswer.TheVariants as last
use Rattle.ft_session.specs.declared.session.Session.{Session}
use Rattle.ft_session.specs.Turns.{IsFairly}

-- whether calls wait in turn, and the turns, are as they were
abbrev pub KeepsTurns : Session → Session → Type 0
KeepsTurns old new = (new.is_fair ≡ old.is_fair) × (new.turns.items ≡ old.turns.items)

-- the request is carried out in turn, on the state and the turns of the session
abbrev pub StepsFairly : Session → Request → Answer → Session → Type 0
StepsFairly old request answer new = IsFairly old.core.state old.turns.items request answer new.core.state new.turns.items

-- The core made one legal step for the request: by the fair rule if calls wait in turn, and else by
-- the rule of its state.
abbrev pub HasStepped : Session → Request → Answer → Session → Type 0
HasStepped old request answer new =
    MatchBool old.is_fair (IsFairly old.core.state old.turns.items request answer new.core.state new.turns.items) (IsStep exact_rule old.core.state request answer new.core.state × (new.turns.items ≡ old.turns.items))
    × (new.is_fair ≡ old.is_fair)

-- it did so, and its answer is kept
abbrev pub HasAnswered : Session → Request → Answer → Session → Type 0
HasAnswered old request answer new = HasStepped old request answer new × (new.last ≡ last.Answer answer)

-- the state of the core, the outcome of the last request, and the turns are as they were
abbrev pub IsSame : Session → Session → Type 0
IsSame old new = (new.core.state ≡ old.core.state) × (new.last ≡ old.last) × KeepsTurns old new

-- The session after a line that was carried out: a request, as that; a report has its text kept,
-- and a line that is not a valid request an empty text.
abbrev pub IsExecuted : Session → ScriptLine → Session → Type 0
IsExecuted old (line.Request request) new = (answer : Answer) × HasAnswered old request answer new
IsExecuted old (line.Query report) new = (text : List ℕ) × IsReport old.core.state report text × (new.core.state ≡ old.core.state) × (new.last ≡ last.Text text) × KeepsTurns old new
IsExecuted old line.Silent new = (new.core.state ≡ old.core.state) × (new.last ≡ last.Text []) × KeepsTurns old new
IsExecuted old line.Bad new = ⊥

-- the text for the line is kept
abbrev pub HasTold : Session → ScriptLine → Session → Type 0
HasTold old line new = (text : List ℕ) × GivesText old.core.state line text new.core.state × (new.last ≡ last.Text text)

-- the line was not carried out, or its text is lost
abbrev pub MayHaveTold : Session → ScriptLine → Session → Type 0
MayHaveTold old line new = ((new.core.state ≡ old.core.state) ⊎ ((text : List ℕ) × GivesText old.core.state line text new.core.state)) × (new.last ≡ old.last)
