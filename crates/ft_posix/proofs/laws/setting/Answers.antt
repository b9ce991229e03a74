use Rattle.ft_posix.proofs.Setting.{setting}
use Rattle.ft_posix.proofs.laws.setting.Goals as goal

pub returns : goal.returns
returns c = setting
