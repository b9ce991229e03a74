use Rattle.ft_plan_files.specs.Laws.{anything}
use Rattle.ft_plan_files.proofs.PlaceReads.{places_read}
use Rattle.ft_plan_files.proofs.laws.places_are_reads.Goals as goal

pub returns : goal.returns
returns c = places_read anything
