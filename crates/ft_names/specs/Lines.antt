-- The text that is written for a line in which there are names, and the names then. `tells` is what
-- the disk reports of its files.
use Rattle.std.specs.Prelude.{◌≡◌, ◌⊎◌, ℕ, List, [], ◌∷◌, ◌++◌, codes, Option}
use Rattle.ft_core.specs.declared.request.Answer.{Answer}
use Rattle.ft_core.specs.States.{State}
use Rattle.ft_line.specs.declared.line.ScriptLine.{ScriptLine}
use Rattle.ft_line.specs.declared.line.ScriptLine.TheVariants as line
use Rattle.ft_line.specs.Lines.{IsLegal, IsReport}
use Rattle.ft_line.specs.Texts.{text_of}
use Rattle.ft_transfer.specs.declared.transfer.Transfer.{Transfer}
use Rattle.ft_transfer.specs.declared.transfer.TransferAnswer.{TransferAnswer}
use Rattle.ft_transfer.specs.Disk.{FileTold}
use Rattle.ft_transfer.specs.Answers.{transfer_text}
use Rattle.ft_transfer.specs.Transfers.{IsTransfer}
use Rattle.ft_names.specs.Names.{Moment, names_after}
use Rattle.ft_names.specs.Meanings.{meaning_in}
use Rattle.ft_names.specs.declared.meaning.LineMeaning.{LineMeaning}
use Rattle.ft_names.specs.declared.meaning.LineMeaning.TheVariants as means

-- The text that is written for a meaning that is carried out, as `GivesText` of ft_line says it, and
-- the core and the names then. A request gives the name of its line to its answer; nothing else
-- changes the names.
abbrev pub Gives : Moment → ScriptLine → Option (List ℕ) → List ℕ → Moment → Type 0
Gives old line.Silent given text new = (text ≡ []) × (new ≡ old)
Gives old line.Bad given text new = (text ≡ codes "bad line" ++ 10 ∷ []) × (new ≡ old)
Gives old (line.Request request) given text new = (answer : Answer) × IsLegal old.0 request answer new.0 × (text ≡ text_of answer ++ 10 ∷ []) × (new.1 ≡ names_after given answer old.1)
Gives old (line.Query report) given text new = IsReport old.0 report text × (new ≡ old)

-- the text that is written for a transfer, and the state then
abbrev pub TransferGives : (FileTold → Type 0) → State → Transfer → List ℕ → State → Type 0
TransferGives tells old transfer text new = (answer : TransferAnswer) × IsTransfer tells old transfer answer new × (text ≡ transfer_text answer ++ 10 ∷ [])

-- The same of either. A transfer changes no name.
abbrev pub MeaningGives : (FileTold → Type 0) → Moment → LineMeaning → Option (List ℕ) → List ℕ → Moment → Type 0
MeaningGives tells old (means.Line line) given text new = Gives old line given text new
MeaningGives tells old (means.Transfer transfer) given text new = TransferGives tells old.0 transfer text new.0 × (new.1 ≡ old.1)

-- the same of the meaning of a line
abbrev pub GivesText : (FileTold → Type 0) → Moment → List ℕ → List ℕ → Moment → Type 0
GivesText tells old bytes text new = let named = meaning_in old.1 bytes in MeaningGives tells old named.0 named.1 text new

-- A meaning was not carried out, or it was, and the text is lost.
abbrev pub MayGive : Moment → ScriptLine → Option (List ℕ) → Moment → Type 0
MayGive old line given new = (new ≡ old) ⊎ ((text : List ℕ) × Gives old line given text new)

-- the same of either
abbrev pub MeaningMayGive : (FileTold → Type 0) → Moment → LineMeaning → Option (List ℕ) → Moment → Type 0
MeaningMayGive tells old meaning given new = (new ≡ old) ⊎ ((text : List ℕ) × MeaningGives tells old meaning given text new)

-- the same of a line
abbrev pub MayGiveText : (FileTold → Type 0) → Moment → List ℕ → Moment → Type 0
MayGiveText tells old bytes new = (new ≡ old) ⊎ ((text : List ℕ) × GivesText tells old bytes text new)
