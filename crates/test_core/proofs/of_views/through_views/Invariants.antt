use Rattle.ft_shared.specs.Opening.{named_by}
use Rattle.test_core.proofs.of_views.through_views.Given as goal

-- the views that were just opened
abbrev pub ghosts-through_named : goal.ghosts-through_named
ghosts-through_named g a = record { origin = named_by a.opened }
