use Rattle.std.proofs.Common.{take}
use Rattle.std.specs.Fmt.{HasWritten, IsPlainFormatter}
use Rattle.std.specs.List.{flat_map}
use Rattle.ft_job_text.specs.Texts.{event_text}
use Rattle.ft_job_text.proofs.text.CallLinesDisplay.fmt.Given as goal

-- the text so far is that of the events so far
abbrev pub invariant-loop-event : goal.invariant-loop-event
invariant-loop-event g l =
    IsPlainFormatter l.initial.f → HasWritten g.W.Write.write_str_gives l.initial.f (flat_map event_text (take l.event-index l.event-items)) l.f
