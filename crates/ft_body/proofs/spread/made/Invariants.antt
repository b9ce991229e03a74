use Rattle.std.proofs.Common.{◌≡◌, take}
use Rattle.std.specs.List.{sum_by}
use Rattle.ft_body.specs.Paging.{made_pages}
use Rattle.ft_body.proofs.spread.made.Given as goal

abbrev pub invariant-loop-placed : goal.invariant-loop-placed
invariant-loop-placed l = l.made ≡ sum_by (λ placed. made_pages placed.block) (take l.placed-index l.blocks)
