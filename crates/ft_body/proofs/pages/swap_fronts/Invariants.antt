use Rattle.std.proofs.Common.{◌≡◌, ◌++◌, take, drop}
use Rattle.ft_body.proofs.pages.swap_fronts.Given as goal

abbrev pub invariant-loop-index : goal.invariant-loop-index
invariant-loop-index g l = record {
  some : l.some.items ≡ take l.index l.initial.others.items ++ drop l.index l.initial.some.items;
  others : l.others.items ≡ take l.index l.initial.some.items ++ drop l.index l.initial.others.items;
}
