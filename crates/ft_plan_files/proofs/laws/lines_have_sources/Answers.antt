use Rattle.ft_plan_files.specs.Laws.{anything}
use Rattle.ft_plan_files.proofs.Sources.{source_is}
use Rattle.ft_plan_files.proofs.laws.lines_have_sources.Goals as goal

pub returns : goal.returns
returns c = source_is anything
