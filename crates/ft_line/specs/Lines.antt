-- The text that is written for a line. (The format is this project's own: docs/SCRIPT.md.)
use Rattle.std.specs.Prelude.{◌≡◌, ◌⊎◌, ℕ, List, [], ◌∷◌, ◌++◌, codes}
use Rattle.ft_cells.specs.Rows.{rows_of}
use Rattle.ft_lock_rules.specs.declared.line.LockLine.{LockLine}
use Rattle.ft_core.specs.declared.request.Answer.{Answer}
use Rattle.ft_core.specs.declared.request.Request.{Request}
use Rattle.ft_core.specs.States.{State, tree_of}
use Rattle.ft_core.specs.Steps.{IsStep, exact_rule}
use Rattle.ft_core.specs.Reports.{AreLockLines}
use Rattle.ft_waits.specs.declared.edge.Edge.{Edge}
use Rattle.ft_waits.specs.declared.verdict.Verdict.{Verdict}
use Rattle.ft_waits.specs.Edges.{AreEdgesOf}
use Rattle.ft_waits.specs.Waits.{IsVerdict}
use Rattle.ft_line.specs.declared.line.ScriptLine.{ScriptLine}
use Rattle.ft_line.specs.declared.line.ScriptLine.TheVariants as line
use Rattle.ft_line.specs.declared.line.Query.{Query}
use Rattle.ft_line.specs.declared.line.Query.TheVariants.{Tree, Locks, Attributes, Waits}
use Rattle.ft_line.specs.Texts.{text_of}
use Rattle.ft_words.specs.Texts.{tree_text}
use Rattle.ft_line.specs.Reports.{locks_text, attribute_locks_text, waits_text}

-- a legal step of the core, under its rule of which transactions block a call
abbrev pub IsLegal : State → Request → Answer → State → Type 0
IsLegal = IsStep exact_rule

-- the text of a report, without the line feed after it: for `tree`, of the rows of the tree of the
-- state; for `locks` and `attributes`, of the locks of its history in their order, each of the two
-- of its own locks; for `waits`, of its waits-for edges and a verdict on them
abbrev pub IsReportText : State → Query → List ℕ → Type 0
IsReportText s Tree text = text ≡ tree_text (rows_of (tree_of s))
IsReportText s Locks text = (locks : List LockLine) × AreLockLines s locks × (text ≡ locks_text locks)
IsReportText s Attributes text = (locks : List LockLine) × AreLockLines s locks × (text ≡ attribute_locks_text locks)
IsReportText s Waits text = (edges : List Edge) × (verdict : Verdict) × AreEdgesOf s edges × IsVerdict edges verdict × (text ≡ waits_text edges verdict)

-- the text of the report and a line feed
abbrev pub IsWholeReport : State → Query → List ℕ → Type 0
IsWholeReport s report text = (told : List ℕ) × IsReportText s report told × (text ≡ told ++ 10 ∷ [])

-- that, or `refused Memory` and a line feed in its place
abbrev pub IsReport : State → Query → List ℕ → Type 0
IsReport s report text = IsWholeReport s report text ⊎ (text ≡ codes "refused Memory" ++ 10 ∷ [])

-- The text that is written for a line that is carried out, and the state then: nothing for a silent
-- line; and, each with a line feed, `bad line` for a bad one, the text of the answer of a legal
-- step for a request, and the text of a report. Only a request may change the state.
abbrev pub GivesText : State → ScriptLine → List ℕ → State → Type 0
GivesText old line.Silent text new = (text ≡ []) × (new ≡ old)
GivesText old line.Bad text new = (text ≡ codes "bad line" ++ 10 ∷ []) × (new ≡ old)
GivesText old (line.Request request) text new = (answer : Answer) × IsLegal old request answer new × (text ≡ text_of answer ++ 10 ∷ [])
GivesText old (line.Query report) text new = IsReport old report text × (new ≡ old)

-- The line was not carried out, or it was, and its text is lost.
abbrev pub MayGiveText : State → ScriptLine → State → Type 0
MayGiveText old line new = (new ≡ old) ⊎ ((text : List ℕ) × GivesText old line text new)
