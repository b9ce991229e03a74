use Prim.Native.Nat.{min}
use Rattle.ft_body.specs.Paging.{byte_in, IsFrontEnd}
use Rattle.ft_body.proofs.Paged.{front_end}
use Rattle.ft_body.proofs.block.Block.end_below.Goals as goal

pub returns : goal.returns
returns c =
    let is : IsFrontEnd (byte_in c.self.inside.pages.items) (min c.args.size c.self.inside.size) c.end_below.result = rw (← c.min.ensures, ← c.deref.ensures.value) c.end_below.ensures in
    rw (← c.self.view_is) (front_end c.args.size c.self.inside.size c.end_below.result c.self.inside.pages.items c.self.invariant is)
