use Rattle.std.specs.Fmt.{HasWritten, IsPlainFormatter}
use Rattle.std.specs.List.{flat_map}
use Rattle.ft_job_text.proofs.Pairs.{pairs, job_line}
use Rattle.ft_job_text.proofs.text.JobLinesDisplay.fmt.Given as goal

-- the text so far is that of the jobs so far
abbrev pub invariant-loop-job : goal.invariant-loop-job
invariant-loop-job g l =
    IsPlainFormatter l.initial.f → HasWritten g.W.Write.write_str_gives l.initial.f (flat_map job_line (pairs l.yielded)) l.f
