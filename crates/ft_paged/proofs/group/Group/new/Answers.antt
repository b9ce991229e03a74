use Rattle.ft_paged.proofs.Groups.{group-empty}
use Rattle.ft_paged.proofs.group.Group.new.Goals as goal

pub returns : goal.returns
returns g c = group-empty c.new.result.items c.new.ensures.items
