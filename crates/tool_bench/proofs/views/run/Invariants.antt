use Rattle.ft_shared.specs.Opening.{named_by}
use Rattle.tool_bench.proofs.views.run.Given as goal

-- the views that were just opened
abbrev pub ghosts-work : goal.ghosts-work
ghosts-work g a = record { origin = named_by a.opened }
