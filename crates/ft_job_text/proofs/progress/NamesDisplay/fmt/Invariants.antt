use Rattle.std.proofs.Common.{take}
use Rattle.std.specs.Fmt.{HasWritten, IsPlainFormatter}
use Rattle.std.specs.List.{flat_map}
use Rattle.ft_job_text.specs.ProgressTexts.{name_text}
use Rattle.ft_job_text.proofs.progress.NamesDisplay.fmt.Given as goal

-- the text so far is that of the names so far
abbrev pub invariant-loop-name : goal.invariant-loop-name
invariant-loop-name g l =
    IsPlainFormatter l.initial.f → HasWritten g.W.Write.write_str_gives l.initial.f (flat_map name_text (take l.name-index l.name-items)) l.f
