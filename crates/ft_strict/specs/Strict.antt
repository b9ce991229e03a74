-- The text that is written for a line of a strict script, and whether the run goes on after it.
-- `tells` is what the disk reports of its files. (The format is this project's own: docs/SCRIPT.md.)
use Rattle.std.specs.Prelude.{◌≡◌, ◌⊎◌, ℕ, Bool, true, false, ◌||◌, List, [], ◌∷◌, ◌++◌, codes, take, drop, if◌then◌else◌, MatchBool, Option, None, Some}
use Rattle.std.specs.Option.{option_map_or}
use Rattle.std.specs.Str.{bytes_eq}
use Rattle.ft_core.specs.declared.request.Answer.{Answer}
use Rattle.ft_core.specs.States.{State, has_live}
use Rattle.ft_line.specs.declared.line.ScriptLine.{ScriptLine}
use Rattle.ft_line.specs.declared.line.ScriptLine.TheVariants as line
use Rattle.ft_line.specs.declared.line.Query.{Query}
use Rattle.ft_line.specs.declared.line.Query.TheVariants.{Tree, Locks, Attributes, Waits}
use Rattle.ft_line.specs.Lines.{IsWholeReport}
use Rattle.ft_line.specs.Texts.{text_of}
use Rattle.ft_line.specs.Wells.{IsMet, is_well}
use Rattle.ft_transfer.specs.declared.transfer.Transfer.{Transfer}
use Rattle.ft_transfer.specs.declared.transfer.TransferAnswer.{TransferAnswer}
use Rattle.ft_transfer.specs.Answers.{did_well, transfer_text}
use Rattle.ft_transfer.specs.Disk.{FileTold}
use Rattle.ft_transfer.specs.Transfers.{IsTransfer}
use Rattle.ft_names.specs.declared.meaning.LineMeaning.{LineMeaning}
use Rattle.ft_names.specs.declared.meaning.LineMeaning.TheVariants as means
use Rattle.ft_names.specs.Names.{Moment, Naming, names_after}
use Rattle.ft_names.specs.Meanings.{bad, meaning_in}

-- what is after `try `, if a line begins so
abbrev pub tried : List ℕ → Option (List ℕ)
tried bytes = if bytes_eq (take 4 bytes) (codes "try ") then Some (drop 4 bytes) else None

-- whether a line is a valid request
abbrev pub is_asking : ScriptLine → Bool
is_asking line.Silent = false
is_asking line.Bad = false
is_asking (line.Request request) = true
is_asking (line.Query report) = true

-- whether a line may be tried: it is a valid request or a transfer
abbrev pub may_be_tried : LineMeaning → Bool
may_be_tried (means.Line line) = is_asking line
may_be_tried (means.Transfer transfer) = true

-- what is tried must ask for something
abbrev pub tried_meaning : LineMeaning × Option (List ℕ) → LineMeaning × Option (List ℕ)
tried_meaning named = if may_be_tried named.0 then named else bad

-- The meaning of a line of a strict script, and the name that it gives: those without `--strict`,
-- or, after `try `, those of the rest.
abbrev pub strict_meaning_of : Naming → List ℕ → LineMeaning × Option (List ℕ)
strict_meaning_of names bytes = option_map_or (λ behind. tried_meaning (meaning_in names behind)) (tried bytes) (meaning_in names bytes)

-- whether the run goes on if it does not do what it requests
abbrev pub may_fail : Naming → List ℕ → Bool
may_fail names bytes = option_map_or (λ behind. may_be_tried (meaning_in names behind).0) (tried bytes) false

-- The text that is written for a report, and whether it is given: a tree is not while a transaction
-- is live.
abbrev pub Tells : Bool → State → Query → List ℕ → Type 0
Tells well s Tree text = MatchBool (has_live s) ((well ≡ false) × (text ≡ codes "refused Live" ++ 10 ∷ [])) ((well ≡ true) × IsWholeReport s Tree text)
Tells well s Locks text = (well ≡ true) × IsWholeReport s Locks text
Tells well s Attributes text = (well ≡ true) × IsWholeReport s Attributes text
Tells well s Waits text = (well ≡ true) × IsWholeReport s Waits text

-- The text that is written for a meaning that is carried out, whether it did what it requests, and
-- the core and the names then. A request gives the name of its line to its answer.
abbrev pub Does : Bool → Moment → ScriptLine → Option (List ℕ) → List ℕ → Moment → Type 0
Does well old line.Silent given text new = (well ≡ true) × (text ≡ []) × (new ≡ old)
Does well old line.Bad given text new = (well ≡ false) × (text ≡ codes "bad line" ++ 10 ∷ []) × (new ≡ old)
Does well old (line.Request request) given text new =
    (answer : Answer) × IsMet old.0 request answer new.0 × (well ≡ is_well answer) × (text ≡ text_of answer ++ 10 ∷ []) × (new.1 ≡ names_after given answer old.1)
Does well old (line.Query report) given text new = Tells well old.0 report text × (new ≡ old)

-- the same of a transfer
abbrev pub TransferDoes : (FileTold → Type 0) → Bool → State → Transfer → List ℕ → State → Type 0
TransferDoes tells well old transfer text new =
    (answer : TransferAnswer) × IsTransfer tells old transfer answer new × (well ≡ did_well answer) × (text ≡ transfer_text answer ++ 10 ∷ [])

-- The same of either. A transfer changes no name.
abbrev pub MeaningDoes : (FileTold → Type 0) → Bool → Moment → LineMeaning → Option (List ℕ) → List ℕ → Moment → Type 0
MeaningDoes tells well old (means.Line line) given text new = Does well old line given text new
MeaningDoes tells well old (means.Transfer transfer) given text new = TransferDoes tells well old.0 transfer text new.0 × (new.1 ≡ old.1)

-- The same of a line of a strict script; the run goes on after it if it did what it requests, or
-- may fail.
abbrev pub AnswersStrictly : (FileTold → Type 0) → Bool → Moment → List ℕ → List ℕ → Moment → Type 0
AnswersStrictly tells on old bytes text new =
    let named = strict_meaning_of old.1 bytes in
    (well : Bool) × MeaningDoes tells well old named.0 named.1 text new × (on ≡ (well || may_fail old.1 bytes))

-- The line was not carried out, or it was, and its text is lost.
abbrev pub MayDo : Moment → ScriptLine → Option (List ℕ) → Moment → Type 0
MayDo old line given new = (new ≡ old) ⊎ ((well : Bool) × (text : List ℕ) × Does well old line given text new)

-- the same of either
abbrev pub MeaningMayDo : (FileTold → Type 0) → Moment → LineMeaning → Option (List ℕ) → Moment → Type 0
MeaningMayDo tells old meaning given new = (new ≡ old) ⊎ ((well : Bool) × (text : List ℕ) × MeaningDoes tells well old meaning given text new)

-- The same of the bytes of a line of a strict script.
abbrev pub MayAnswerStrictly : (FileTold → Type 0) → Moment → List ℕ → Moment → Type 0
MayAnswerStrictly tells old bytes new = (new ≡ old) ⊎ ((on : Bool) × (text : List ℕ) × AnswersStrictly tells on old bytes text new)
