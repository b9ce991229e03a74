use Rattle.ft_plan_files.specs.Laws.{anything}
use Rattle.ft_plan_files.proofs.Sources.{lines_written}
use Rattle.ft_plan_files.proofs.laws.texts_keep_their_order.Goals as goal

pub returns : goal.returns
returns c = lines_written anything
