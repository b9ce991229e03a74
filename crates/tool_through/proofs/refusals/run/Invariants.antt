use Rattle.ft_shared.specs.Opening.{named_by}
use Rattle.tool_through.proofs.refusals.run.Given as goal

-- the views that were just opened
abbrev pub ghosts-publish_each : goal.ghosts-publish_each
ghosts-publish_each g a = record { origin = named_by a.opened }
