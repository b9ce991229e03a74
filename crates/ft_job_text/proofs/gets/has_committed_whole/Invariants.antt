use Rattle.std.proofs.Common.{◌≡◌, ◌≤◌, length}
use Rattle.ft_job_text.specs.Gets.{has_committed_whole}
use Rattle.ft_job_text.proofs.gets.has_committed_whole.Given as goal

-- what is left decides
abbrev pub invariant-loop-at : goal.invariant-loop-at
invariant-loop-at l = record {
  small : l.at ≤ length l.jobs;
  same : has_committed_whole l.jobs l.reports l.at l.name ≡ has_committed_whole l.jobs l.reports (length l.jobs) l.fn.name;
}

abbrev pub decreases-loop-at : goal.decreases-loop-at
decreases-loop-at l = l.at
