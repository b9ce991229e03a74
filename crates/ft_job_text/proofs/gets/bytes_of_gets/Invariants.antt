use Rattle.std.proofs.Common.{◌≡◌, map, take}
use Rattle.ft_job_text.specs.Gets.{bytes_got}
use Rattle.ft_job_text.proofs.gets.bytes_of_gets.Given as goal

-- those of the `get`s so far
abbrev pub invariant-loop-get : goal.invariant-loop-get
invariant-loop-get l = l.got.items ≡ map (bytes_got l.jobs l.reports) (take l.get-index l.gets)
