use Rattle.std.proofs.Common.{ap, []}
use Rattle.std.proofs.lemmas.List.{append-nil}
use Rattle.ft_body.proofs.block.Block.unchanged.Goals as goal

pub new-requires-clause-lost : goal.new-requires-clause-lost
new-requires-clause-lost c =
    rw (ap (λ v. v.items) c.of-after.ensures, ap (λ v. v.items) c.of-before.ensures) (rw (append-nil c.self.inside.pages.items) at (c.nothing-lost.ensures []))
