use Rattle.ft_plan_files.proofs.Staying.{text_stays}
use Rattle.ft_plan_files.proofs.laws.texts_without_files_stay.Goals as goal

pub returns : goal.returns
returns c = text_stays (λ told. Unit {0})
