use Rattle.ft_shared.specs.Opening.{named_by}
use Rattle.test_core.proofs.of_views.publishes_beside_anew.Given as goal

-- the views that were just opened
abbrev pub ghosts-publishes_beside_named : goal.ghosts-publishes_beside_named
ghosts-publishes_beside_named g a = record { origin = named_by a.opened }
