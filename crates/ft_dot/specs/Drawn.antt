-- A filter that draws the last report, and what it reads and writes. `left` is what the reader has
-- left, before and after, and `held` what the writer holds.
use Rattle.std.specs.Prelude.{◌≡◌, ℕ, List, Option, Result, OnOk}
use Rattle.std.specs.Io.KnownBytes.{Appends, Consumes, IsAtEnd, Keeps}
use Rattle.ft_script.specs.declared.playing.PlayFault.{PlayFault}
use Rattle.ft_script.specs.declared.playing.PlayFault.TheVariants.{Memory, Read, Write, TooLong, Turns}
use Rattle.ft_script.specs.Runs.{WritesPart}
use Rattle.ft_words.specs.Spelling.{lines_of}
use Rattle.ft_dot.specs.Drawing.{dot_of}

-- The replies were read to their end, and the drawing of their lines was written, whole and
-- nothing else.
abbrev pub Draws : Option (List ℕ) → Option (List ℕ) → Option (List ℕ) → Option (List ℕ) → Type 0
Draws left left_after held held_after = (bytes : List ℕ) × Consumes left left_after bytes × IsAtEnd left_after × Appends held held_after (dot_of (lines_of bytes))

-- Some of the replies were read, and nothing was written.
abbrev pub ReadsSome : Option (List ℕ) → Option (List ℕ) → Option (List ℕ) → Option (List ℕ) → Type 0
ReadsSome left left_after held held_after = (bytes : List ℕ) × Consumes left left_after bytes × Keeps held held_after

-- The replies were read to their end, and a part of the drawing was written.
abbrev pub DrawsPart : Option (List ℕ) → Option (List ℕ) → Option (List ℕ) → Option (List ℕ) → Type 0
DrawsPart left left_after held held_after = (bytes : List ℕ) × Consumes left left_after bytes × IsAtEnd left_after × WritesPart held held_after (dot_of (lines_of bytes))

-- A fault leaves `ReadsSome` at Memory and Read, `DrawsPart` at Write. No other fault comes.
abbrev pub StopsDrawing : PlayFault → Option (List ℕ) → Option (List ℕ) → Option (List ℕ) → Option (List ℕ) → Type 0
StopsDrawing Memory left left_after held held_after = ReadsSome left left_after held held_after
StopsDrawing Read left left_after held held_after = ReadsSome left left_after held held_after
StopsDrawing Write left left_after held held_after = DrawsPart left left_after held held_after
StopsDrawing TooLong left left_after held held_after = ⊥
StopsDrawing Turns left left_after held held_after = ⊥

-- The same of a reader, by what it has left, and of a writer, by what it holds.
abbrev pub StopsDraw : {R W : Type 0} → (R → Option (List ℕ)) → (W → Option (List ℕ)) → R → R → W → W → PlayFault → Type 0
StopsDraw left held reader reader_after writer writer_after fault = StopsDrawing fault (left reader) (left reader_after) (held writer) (held writer_after)

-- Some bytes were read; without a fault, these are they.
abbrev pub ReadsInto : Option (List ℕ) → Option (List ℕ) → Result (Unit {0}) PlayFault → List ℕ → Type 0
ReadsInto left left_after result replies = (bytes : List ℕ) × Consumes left left_after bytes × OnOk result (replies ≡ bytes)
