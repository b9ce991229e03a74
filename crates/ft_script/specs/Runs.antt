-- The text that a run of a script writes. For what a reader has left and a writer holds,
-- `Consumes`, `Appends`, `Keeps` and `IsAtEnd` are std's words (KnownBytes). They claim nothing of
-- a reader or a writer whose bytes no contract knows, as standard input and output. For those the
-- clauses of `play` say only that some bytes were read and that what was handed to the writer is
-- the text of a run of their lines, as far as the writer's own contract says what it took.
use Rattle.std.specs.Prelude.{◌≡◌, ◌⊎◌, ◌<◌, ℕ, suc, Bool, true, false, List, [], ◌∷◌, ◌++◌, length, Option, string_bytes}
use Rattle.std.specs.List.{AllByRecursion}
use Rattle.std.specs.Io.KnownBytes.{Appends, Consumes, IsAtEnd, Keeps}
use Rattle.ft_core.specs.States.{StoredState}
use Rattle.ft_transfer.specs.Disk.{FileTold}
use Rattle.ft_names.specs.Names.{Moment, Naming, no_names}
use Rattle.ft_names.specs.Lines.{GivesText}
use Rattle.ft_script.specs.declared.gathering.TheConstants.{MOST_GATHERED}
use Rattle.ft_script.specs.declared.playing.PlayFault.{PlayFault}
use Rattle.ft_script.specs.declared.playing.PlayFault.TheVariants.{Memory, Read, Write, TooLong, Turns}
use Rattle.ft_script.specs.declared.strictly.FailedLine.{FailedLine}
use Rattle.ft_script.specs.declared.strictly.StrictFault.{StrictFault}
use Rattle.ft_script.specs.declared.strictly.StrictFault.TheVariants.{Play, Line}
use Rattle.ft_script.specs.Cutting.{BeginsTooLong, Cuts, Fits, IsNext}
use Rattle.ft_words.specs.Spelling.{IsFreeOf, lines_of}
use Rattle.ft_strict.specs.Strict.{AnswersStrictly}

-- How the lines of a script are answered: whether the run goes on after a line, the core and the
-- names before, the bytes of the line, the text of its reply, and the core and the names then.
abbrev pub Answers : Type 1
Answers = Bool → Moment → List ℕ → List ℕ → Moment → Type 0

-- The run goes on after each line. The disk has reported this of its files.
abbrev pub AnswersFreely : (FileTold → Type 0) → Answers
AnswersFreely tells on old bytes text new = (on ≡ true) × GivesText tells old bytes text new

-- The text of a run: what is written for lines, one after another, from the one moment to the
-- other. It goes on after each of them.
abbrev pub IsTextOfRun : Answers → Moment → List (List ℕ) → List ℕ → Moment → Type 0
IsTextOfRun answers old [] text new = (text ≡ []) × (new ≡ old)
IsTextOfRun answers old (bytes ∷ lines) text new =
    (middle : Moment) × (first : List ℕ) × (rest : List ℕ) × answers true old bytes first middle × IsTextOfRun answers middle lines rest new × (text ≡ first ++ rest)

-- These lines were carried out, and all of the text of their run was written, from what the
-- writer held before to what it holds after.
pub record Plays (answers : Answers) (lines : List (List ℕ)) (before after : Option (List ℕ)) (old new : Moment) : Type 0 where
  pub text : List ℕ
  pub run : IsTextOfRun answers old lines text new
  pub wrote : Appends before after text

-- A front of the text was written, and not all of it.
abbrev pub WritesPart : Option (List ℕ) → Option (List ℕ) → List ℕ → Type 0
WritesPart before after text = (front : List ℕ) × (next : ℕ) × (back : List ℕ) × (text ≡ front ++ next ∷ back) × Appends before after front

-- A front of the text was written, or all of it.
abbrev pub WritesFront : Option (List ℕ) → Option (List ℕ) → List ℕ → Type 0
WritesFront before after text = Appends before after text ⊎ WritesPart before after text

-- The line was carried out, or not.
abbrev pub MayAnswer : Answers → List ℕ → Moment → Moment → Type 0
MayAnswer answers bytes old new = (new ≡ old) ⊎ ((on : Bool) × (text : List ℕ) × answers on old bytes text new)

-- ---- faults

-- The outcome of the line at which a fault came, if its reply was to be written alone. At Memory
-- (for the line or for its reply's text) nothing of its reply was written, and it was carried out
-- or not. At Write it was carried out, and a part of its reply was written.
abbrev pub StopsLine : Answers → PlayFault → List ℕ → Option (List ℕ) → Option (List ℕ) → Moment → Moment → Type 0
StopsLine answers Memory bytes before after old new = Keeps before after × MayAnswer answers bytes old new
StopsLine answers Write bytes before after old new = (on : Bool) × (text : List ℕ) × answers on old bytes text new × WritesPart before after text
StopsLine answers Read bytes before after old new = ⊥
StopsLine answers TooLong bytes before after old new = ⊥
StopsLine answers Turns bytes before after old new = ⊥

-- Replies that were gathered were not written, or a part of them: those to these lines, with their
-- line feeds, which come next in the bytes, and then to one more line. All of them were carried
-- out. Without the last reply they have fewer than `MOST_GATHERED` bytes.
pub record LosesReplies (answers : Answers) (ends : Type 0) (bytes : List ℕ) (before after : Option (List ℕ)) (old new : Moment) : Type 0 where
  pub lines : List (List ℕ)
  pub rest : List ℕ
  pub cuts : Cuts bytes lines rest
  pub line : List ℕ
  pub next : IsNext ends rest line
  pub state : Moment
  pub text : List ℕ
  pub run : IsTextOfRun answers old lines text state
  pub few : length text < MOST_GATHERED
  pub on : Bool
  pub reply : List ℕ
  pub answered : answers on state line reply new
  pub wrote : WritesPart before after (text ++ reply)

-- nothing was written, and nothing carried out
abbrev pub Stays : Option (List ℕ) → Option (List ℕ) → Moment → Moment → Type 0
Stays before after old new = Keeps before after × (new ≡ old)

-- The effect of a fault on the bytes after the lines that were taken before it, whose replies were
-- written. At Memory: nothing more, or the next line was carried out or not. At Write: the replies
-- to more lines were lost. At Read and Turns: there is no line feed in them, and nothing more was
-- taken or written. At TooLong: they begin with a line that is too long, and nothing more was taken
-- or written.
abbrev pub StopsIn : Answers → PlayFault → Type 0 → List ℕ → Option (List ℕ) → Option (List ℕ) → Moment → Moment → Type 0
StopsIn answers Memory ends rest before after old new = Stays before after old new ⊎ ((bytes : List ℕ) × IsNext ends rest bytes × Keeps before after × MayAnswer answers bytes old new)
StopsIn answers Write ends rest before after old new = LosesReplies answers ends rest before after old new
StopsIn answers Read ends rest before after old new = IsFreeOf 10 rest × Stays before after old new
StopsIn answers Turns ends rest before after old new = IsFreeOf 10 rest × Stays before after old new
StopsIn answers TooLong ends rest before after old new = BeginsTooLong rest × Stays before after old new

-- A line of a strict script was carried out and its reply written, and the run does not go on after
-- it. The fault has its number, from 1, if so many lines were taken before it, its bytes, and its
-- reply.
abbrev pub FailsLine : (FileTold → Type 0) → FailedLine → ℕ → List ℕ → Option (List ℕ) → Option (List ℕ) → Moment → Moment → Type 0
FailsLine tells failed taken bytes before after old new =
    AnswersStrictly tells false old bytes (string_bytes failed.reply) new × Appends before after (string_bytes failed.reply) × (failed.number ≡ suc taken) × (failed.line.items ≡ bytes)

-- The next line was that one.
abbrev pub FailsIn : (FileTold → Type 0) → FailedLine → Type 0 → ℕ → List ℕ → Option (List ℕ) → Option (List ℕ) → Moment → Moment → Type 0
FailsIn tells failed ends taken rest before after old new = (bytes : List ℕ) × IsNext ends rest bytes × FailsLine tells failed taken bytes before after old new

-- How far a run came that ended with a fault, of the bytes that were read: first lines, with their
-- line feeds, were taken, and all their replies written; and then the fault left the rest so, after
-- so many lines.
pub record Stopped (answers : Answers) (stops : ℕ → List ℕ → Option (List ℕ) → Option (List ℕ) → Moment → Moment → Type 0) (bytes : List ℕ) (before after : Option (List ℕ)) (old new : Moment) : Type 0 where
  pub lines : List (List ℕ)
  pub rest : List ℕ
  pub cuts : Cuts bytes lines rest
  pub held : Option (List ℕ)
  pub state : Moment
  pub taken : Plays answers lines before held old state
  pub stopped : stops (length lines) rest held after state new

-- ---- whole runs: `left` is what the reader has left, before and after, `held` what a writer has

-- A script was read to its end, each of its lines fits, and all were taken.
abbrev pub PlaysAll : Answers → Option (List ℕ) → Option (List ℕ) → Option (List ℕ) → Option (List ℕ) → Moment → Moment → Type 0
PlaysAll answers left left_after held held_after old new =
    (bytes : List ℕ) × Consumes left left_after bytes × IsAtEnd left_after × AllByRecursion Fits (lines_of bytes) × Plays answers (lines_of bytes) held held_after old new

-- A script was read, and run up to a fault.
abbrev pub StopsAt : Answers → PlayFault → Option (List ℕ) → Option (List ℕ) → Option (List ℕ) → Option (List ℕ) → Moment → Moment → Type 0
StopsAt answers fault left left_after held held_after old new =
    (bytes : List ℕ) × Consumes left left_after bytes × Stopped answers (λ taken. StopsIn answers fault (IsAtEnd left_after)) bytes held held_after old new

-- The same of a strict script. A fault may be the first line that did not do what it requests.
abbrev pub StopsStrictly : (FileTold → Type 0) → StrictFault → Option (List ℕ) → Option (List ℕ) → Option (List ℕ) → Option (List ℕ) → Moment → Moment → Type 0
StopsStrictly tells (Play fault) left left_after held held_after old new = StopsAt (AnswersStrictly tells) fault left left_after held held_after old new
StopsStrictly tells (Line failed) left left_after held held_after old new =
    (bytes : List ℕ) × Consumes left left_after bytes × Stopped (AnswersStrictly tells) (FailsIn tells failed (IsAtEnd left_after)) bytes held held_after old new

-- ---- the same of a disk, by what it reports, of a reader, by what it has left, of a writer, by
-- what it holds, and of a core. No name is known before the first line

-- A script was read to its end, and each of its lines was taken and answered freely.
abbrev pub PlaysFreely : {R W : Type 0} → (FileTold → Type 0) → (R → Option (List ℕ)) → (W → Option (List ℕ)) → R → R → W → W → StoredState → StoredState → Type 0
PlaysFreely tells left held reader reader_after writer writer_after old new =
    (names : Naming) × PlaysAll (AnswersFreely tells) (left reader) (left reader_after) (held writer) (held writer_after) (old.state, no_names) (new.state, names)

-- A strict script was, and each of its lines did what it requests, or may fail.
abbrev pub PlaysStrictly : {R W : Type 0} → (FileTold → Type 0) → (R → Option (List ℕ)) → (W → Option (List ℕ)) → R → R → W → W → StoredState → StoredState → Type 0
PlaysStrictly tells left held reader reader_after writer writer_after old new =
    (names : Naming) × PlaysAll (AnswersStrictly tells) (left reader) (left reader_after) (held writer) (held writer_after) (old.state, no_names) (new.state, names)

-- A script was read, and run up to this fault.
abbrev pub StopsFreePlay : {R W : Type 0} → (FileTold → Type 0) → (R → Option (List ℕ)) → (W → Option (List ℕ)) → R → R → W → W → StoredState → StoredState → PlayFault → Type 0
StopsFreePlay tells left held reader reader_after writer writer_after old new fault =
    (names : Naming) × StopsAt (AnswersFreely tells) fault (left reader) (left reader_after) (held writer) (held writer_after) (old.state, no_names) (new.state, names)

-- A strict script was.
abbrev pub StopsStrictPlay : {R W : Type 0} → (FileTold → Type 0) → (R → Option (List ℕ)) → (W → Option (List ℕ)) → R → R → W → W → StoredState → StoredState → StrictFault → Type 0
StopsStrictPlay tells left held reader reader_after writer writer_after old new fault =
    (names : Naming) × StopsStrictly tells fault (left reader) (left reader_after) (held writer) (held writer_after) (old.state, no_names) (new.state, names)
