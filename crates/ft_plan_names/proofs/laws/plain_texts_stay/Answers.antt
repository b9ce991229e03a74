use Rattle.ft_plan_names.proofs.Keeping.{text_is_plan}
use Rattle.ft_plan_names.proofs.laws.plain_texts_stay.Goals as goal

pub returns : goal.returns
returns c = text_is_plan
