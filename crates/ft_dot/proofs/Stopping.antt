-- What a failed write leaves.
use Rattle.std.proofs.Common.{◌≡◌, ℕ, List, Option, Result, Ok, Err, OnErr, IfErr, sym, subst}
use Rattle.std.specs.Io.KnownBytes.{Consumes, IsAtEnd}
use Rattle.ft_script.specs.declared.playing.PlayFault.{PlayFault}
use Rattle.ft_script.specs.declared.playing.PlayFault.TheVariants.{Write}
use Rattle.ft_script.specs.Runs.{WritesPart}
use Rattle.ft_words.specs.Spelling.{lines_of}
use Rattle.ft_dot.specs.Drawing.{dot_of}
use Rattle.ft_dot.specs.Drawn.{StopsDrawing}

-- the replies were read, and a part of their drawing was written
pub stopped_write : {T : Type 0} (r : Result T PlayFault) (left left_after held held_after : Option (List ℕ)) (bytes text : List ℕ) → Consumes left left_after bytes → IsAtEnd left_after → text ≡ dot_of (lines_of bytes) → IfErr r (λ fault. fault ≡ Write) → OnErr r (WritesPart held held_after text) → IfErr r (λ fault. StopsDrawing fault left left_after held held_after)
stopped_write (Ok done) left left_after held held_after bytes text read ends is cause wrote = tt
stopped_write (Err fault) left left_after held held_after bytes text read ends is cause wrote =
    subst (λ (f : PlayFault). StopsDrawing f left left_after held held_after) (sym cause) (bytes, read, ends, subst (WritesPart held held_after) is wrote)
