use Rattle.ft_shared.specs.Origins.{without_views}
use Rattle.test_core.proofs.of_shared.live_core_is_not_shared.Given as goal

-- the core as it was given
abbrev pub ghosts-is_refused : goal.ghosts-is_refused
ghosts-is_refused g a = record { origin = without_views a.core.state }
