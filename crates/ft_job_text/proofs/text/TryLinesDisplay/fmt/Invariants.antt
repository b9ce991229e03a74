use Rattle.std.proofs.Common.{take}
use Rattle.std.specs.Fmt.{HasWritten, IsPlainFormatter}
use Rattle.std.specs.List.{flat_map}
use Rattle.ft_job_text.specs.Texts.{try_text}
use Rattle.ft_job_text.proofs.text.TryLinesDisplay.fmt.Given as goal

-- the text so far is that of the tries so far
abbrev pub invariant-loop-report : goal.invariant-loop-report
invariant-loop-report g l =
    IsPlainFormatter l.initial.f → HasWritten g.W.Write.write_str_gives l.initial.f (flat_map (try_text l.self.jobs.now) (take l.report-index l.report-items)) l.f
