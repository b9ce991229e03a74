-- How a script is cut into lines while it is read. `left` is what the reader has left.
use Rattle.std.specs.Prelude.{◌≡◌, ◌+◌, ◌*◌, ◌-◌, ◌<◌, ◌≤◌, ℕ, if◌then◌else◌, List, [], ◌∷◌, ◌++◌, length, take, drop, Option}
use Rattle.std.specs.Io.KnownBytes.{Consumes}
use Rattle.ft_script.specs.declared.lines.TheConstants.{CHUNK}
use Rattle.ft_script.specs.declared.lines.ScriptLines.{ScriptLines}
use Rattle.ft_script.specs.declared.playing.PlayFault.{PlayFault}
use Rattle.ft_script.specs.declared.playing.PlayFault.TheVariants.{Memory, Read, Write, TooLong, Turns}
use Rattle.ft_script.specs.declared.playing.TheConstants.{MOST_READS}
use Rattle.ft_script.specs.Cutting.{BeginsTooLong, Fits}
use Rattle.ft_words.specs.Spelling.{IsFreeOf}

-- the line that has begun, and has not ended in what was read
abbrev pub begun : ScriptLines → List ℕ
begun lines = if lines.is_cut then [] else lines.line.items

-- what was read and is not cut yet: the line that has begun, and what is in no line
abbrev pub uncut : ScriptLines → List ℕ
uncut lines = begun lines ++ take (lines.end - lines.start) (drop lines.start lines.chunk.items)

-- the line that was cut last
abbrev pub cut_line : ScriptLines → List ℕ
cut_line lines = lines.line.items

-- how many lines were cut
abbrev pub cut_count : ScriptLines → ℕ
cut_count lines = lines.count

-- how many bytes were read that are in no line yet
abbrev pub unscanned : ScriptLines → ℕ
unscanned lines = lines.end - lines.start

-- no more than so many bytes can still be cut
abbrev pub to_read : ScriptLines → ℕ
to_read lines = unscanned lines + (CHUNK + 1) * lines.reads_left

-- all that was read is in lines, and one more can be counted
abbrev pub HasRoom : ScriptLines → Type 0
HasRoom lines = (lines.start ≡ lines.end) × (lines.count + 1 + lines.end + CHUNK * lines.reads_left ≤ CHUNK * MOST_READS + lines.start)

-- A line was cut from what was read, up to its line feed.
pub record GivesLine (uncut uncut_after line : List ℕ) : Type 0 where
  pub free : IsFreeOf 10 line
  pub fits : Fits line
  pub ended : uncut ≡ line ++ 10 ∷ uncut_after

-- Why no line could be cut from these bytes: there was no memory; a read failed, or none was left,
-- before a line feed came; or they begin with a line that is too long.
abbrev pub StopsCutting : PlayFault → List ℕ → Type 0
StopsCutting Memory bytes = Unit {0}
StopsCutting Read bytes = IsFreeOf 10 bytes
StopsCutting Turns bytes = IsFreeOf 10 bytes
StopsCutting TooLong bytes = BeginsTooLong bytes
StopsCutting Write bytes = ⊥

-- Why no line could be cut from what was not cut and what was read.
abbrev pub StopsReading : PlayFault → Option (List ℕ) → Option (List ℕ) → List ℕ → Type 0
StopsReading fault left left_after uncut = (read : List ℕ) × Consumes left left_after read × StopsCutting fault (uncut ++ read)

-- What was read comes after what was not cut.
abbrev pub ReadsOn : Option (List ℕ) → Option (List ℕ) → List ℕ → List ℕ → Type 0
ReadsOn left left_after uncut uncut_after = (read : List ℕ) × Consumes left left_after read × (uncut_after ≡ uncut ++ read)

-- No line was cut, and all that was read is in the line that has begun.
abbrev pub CutsNothing : ScriptLines → ScriptLines → Type 0
CutsNothing old new = (uncut new ≡ uncut old) × (cut_count new ≡ cut_count old) × (unscanned new ≡ 0)

-- What was not cut is a line, which has a byte and no line feed.
abbrev pub IsLastLine : List ℕ → List ℕ → Type 0
IsLastLine uncut line = (uncut ≡ line) × (0 < length line) × IsFreeOf 10 line × Fits line
