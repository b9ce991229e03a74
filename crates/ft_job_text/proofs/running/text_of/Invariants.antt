use Rattle.ft_shared.specs.Origins.{without_views}
use Rattle.ft_job_text.proofs.running.text_of.Given as goal

-- the core as it was given
abbrev pub ghosts-run_on : goal.ghosts-run_on
ghosts-run_on g a = record { origin = without_views a.core.state }
