use Rattle.ft_posix.proofs.Changes.{call-changes, only_tells-none}
use Rattle.ft_posix.proofs.laws.telling.Goals as goal

pub returns : goal.returns
returns c = λ cells k call sound tells. only_tells-none cells k _ _ (call-changes cells sound k call) tells
