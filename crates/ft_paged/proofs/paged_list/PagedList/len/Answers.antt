use Rattle.std.proofs.Common.{length, arith, ap}
use Rattle.ft_paged.proofs.ListPages.{list-length}
use Rattle.ft_paged.proofs.paged_list.PagedList.len.Goals as goal

pub returns : goal.returns
returns c =
    let long = list-length c.self.inside.full.items c.self.inside.last.items c.self.invariant.full in let seen = ap (λ s. length s.items) c.self.view_is in
    let few = c.len.ensures in let rest = c.len-2.ensures in omega arith
