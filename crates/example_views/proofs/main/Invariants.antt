use Rattle.ft_shared.specs.Opening.{named_by}
use Rattle.example_views.proofs.main.Given as goal

-- the views that were just opened
abbrev pub ghosts-read_beside : goal.ghosts-read_beside
ghosts-read_beside g a = record { origin = named_by a.opened }
