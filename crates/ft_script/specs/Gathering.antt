-- The replies that are gathered between two writes: lines are cut from bytes that were read, and
-- carried out one after another.
use Rattle.std.specs.Prelude.{◌≡◌, ◌⊎◌, ◌+◌, ◌<◌, ℕ, suc, Bool, true, false, List, [], ◌++◌, length, Option, String, MatchOption, string_bytes}
use Rattle.std.specs.Io.KnownBytes.{Appends}
use Rattle.ft_transfer.specs.Disk.{FileTold}
use Rattle.ft_names.specs.Names.{Moment}
use Rattle.ft_script.specs.declared.gathering.Script.{Script}
use Rattle.ft_script.specs.declared.gathering.TheConstants.{MOST_GATHERED}
use Rattle.ft_script.specs.declared.lines.ScriptLines.{ScriptLines}
use Rattle.ft_script.specs.declared.playing.PlayFault.{PlayFault}
use Rattle.ft_script.specs.declared.playing.PlayFault.TheVariants.{Memory, Read, Write, TooLong, Turns}
use Rattle.ft_script.specs.declared.strictly.StrictFault.{StrictFault}
use Rattle.ft_script.specs.declared.strictly.StrictFault.TheVariants.{Play, Line}
use Rattle.ft_script.specs.Cutting.{BeginsTooLong, Cuts}
use Rattle.ft_script.specs.Reading.{GivesLine, cut_count, cut_line, uncut}
use Rattle.ft_script.specs.Runs.{Answers, IsTextOfRun, MayAnswer, StopsLine}
use Rattle.ft_strict.specs.Strict.{AnswersStrictly}

-- Lines were carried out, and then one more: it was answered so, and what is left of the bytes
-- after it is the rest. The text of their replies is so long only with the last one.
pub record GathersLines (answers : Answers) (on : Bool) (bytes rest : List ℕ) (count count_after : ℕ) (line reply text : List ℕ) (old new : Moment) : Type 0 where
  pub lines : List (List ℕ)
  pub behind : List ℕ
  pub cuts : Cuts bytes lines behind
  pub given : GivesLine behind rest line
  pub state : Moment
  pub before : List ℕ
  pub run : IsTextOfRun answers old lines before state
  pub few : length before < MOST_GATHERED
  pub answered : answers on state line reply new
  pub whole : text ≡ before ++ reply
  pub counted : count_after ≡ suc (count + length lines)

-- Nothing was carried out, or some lines, and the run goes on after them.
abbrev pub Gathers : Answers → List ℕ → List ℕ → ℕ → ℕ → List ℕ → Moment → Moment → Type 0
Gathers answers bytes rest count count_after text old new =
    ((rest ≡ bytes) × (count_after ≡ count) × (text ≡ []) × (new ≡ old)) ⊎ ((line : List ℕ) × (reply : List ℕ) × GathersLines answers true bytes rest count count_after line reply text old new)

-- At the last one of them a strict run ends.
abbrev pub FailsGathering : (FileTold → Type 0) → List ℕ → ℕ → ℕ → List ℕ → List ℕ → List ℕ → Moment → Moment → Type 0
FailsGathering tells bytes count count_after line reply text old new = (rest : List ℕ) × GathersLines (AnswersStrictly tells) false bytes rest count count_after line reply text old new

-- The effect of a fault on the bytes after lines that were carried out: there was no memory for the
-- next line or its reply, or it is too long.
abbrev pub StopsAnswering : Answers → PlayFault → List ℕ → Moment → Moment → Type 0
StopsAnswering answers Memory bytes old new = (new ≡ old) ⊎ ((rest : List ℕ) × (line : List ℕ) × GivesLine bytes rest line × MayAnswer answers line old new)
StopsAnswering answers TooLong bytes old new = BeginsTooLong bytes × (new ≡ old)
StopsAnswering answers Read bytes old new = ⊥
StopsAnswering answers Turns bytes old new = ⊥
StopsAnswering answers Write bytes old new = ⊥

-- Lines were carried out up to a fault. The replies to them are not as many as must be written.
pub record StopsGathering (answers : Answers) (fault : PlayFault) (bytes text : List ℕ) (old new : Moment) : Type 0 where
  pub rest : List ℕ
  pub state : Moment
  pub count : ℕ
  pub count_after : ℕ
  pub gathers : Gathers answers bytes rest count count_after text old state
  pub few : length text < MOST_GATHERED
  pub stops : StopsAnswering answers fault rest state new

-- The outcome of the last line of a strict script, if so many lines were cut with it.
abbrev pub StopsLastStrictly : (FileTold → Type 0) → StrictFault → ℕ → List ℕ → Option (List ℕ) → Option (List ℕ) → Moment → Moment → Type 0
StopsLastStrictly tells (Play fault) count line before after old new = StopsLine (AnswersStrictly tells) fault line before after old new
StopsLastStrictly tells (Line failed) count line before after old new =
    AnswersStrictly tells false old line (string_bytes failed.reply) new × Appends before after (string_bytes failed.reply) × (failed.number ≡ count) × (failed.line.items ≡ line)

-- ---- of a script, with its replies that are not written yet

-- Lines were carried out so, and their replies are gathered.
abbrev pub GathersFrom : Answers → Script → Script → Moment → Moment → Type 0
GathersFrom answers script script_after old new =
    Gathers answers (uncut script.lines) (uncut script_after.lines) (cut_count script.lines) (cut_count script_after.lines) script_after.replies.items old new

-- So they were by a strict script, and the run goes on; or it ends at the line with this reply.
abbrev pub GathersStrictly : {A : Type 0} → (FileTold → Type 0) → Option (String A) → Script → Script → Moment → Moment → Type 0
GathersStrictly tells failed script script_after old new =
    MatchOption failed (GathersFrom (AnswersStrictly tells) script script_after old new)
    (λ reply. FailsGathering tells (uncut script.lines) (cut_count script.lines) (cut_count script_after.lines) (cut_line script_after.lines) (string_bytes reply) script_after.replies.items old new)

-- So they were up to a fault.
abbrev pub StopsGatheringFrom : Answers → PlayFault → Script → Script → Moment → Moment → Type 0
StopsGatheringFrom answers fault script script_after old new = StopsGathering answers fault (uncut script.lines) script_after.replies.items old new

-- ---- of a writer, by what it holds

-- A line was carried out, the run goes on after it, and its reply was written.
abbrev pub WritesReply : {W : Type 0} → Answers → List ℕ → (W → Option (List ℕ)) → W → W → Moment → Moment → Type 0
WritesReply answers line held writer writer_after old new = (text : List ℕ) × answers true old line text new × Appends (held writer) (held writer_after) text

-- A fault came at a line whose reply was to be written alone.
abbrev pub StopsReply : {W : Type 0} → Answers → PlayFault → List ℕ → (W → Option (List ℕ)) → W → W → Moment → Moment → Type 0
StopsReply answers fault line held writer writer_after old new = StopsLine answers fault line (held writer) (held writer_after) old new

-- A fault came at the last line of a strict script, which was cut from these.
abbrev pub StopsLastReply : {W : Type 0} → (FileTold → Type 0) → StrictFault → ScriptLines → (W → Option (List ℕ)) → W → W → Moment → Moment → Type 0
StopsLastReply tells fault lines held writer writer_after old new = StopsLastStrictly tells fault (cut_count lines) (cut_line lines) (held writer) (held writer_after) old new
