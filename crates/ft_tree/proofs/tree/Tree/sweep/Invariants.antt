use Rattle.std.proofs.Common.{◌≡◌, ◌<◌, ◌+◌, ◌-◌, ◌^◌}
use Rattle.std.specs.FinSet as set
use Rattle.ft_tree.specs.Sweep.{places_in}
use Rattle.ft_tree.proofs.Sweeps.{IsSweeping}
use Rattle.ft_tree.proofs.tree.Tree.sweep.Given as goal

abbrev pub invariant-loop-cell : goal.invariant-loop-cell
invariant-loop-cell g l = record {
  sweeping : IsSweeping (g.K.Keeps.kept l.initial.keeps) (g.K.Keeps.released_cells l.initial.keeps) (g.K.Keeps.released_cells l.keeps) l.initial.self l.self;
  kept : g.K.Keeps.kept l.keeps ≡ g.K.Keeps.kept l.initial.keeps;
  told : g.K.Keeps.all_told l.keeps ≡ g.K.Keeps.all_told l.initial.keeps;
  count : places_in l.initial.self < 2 ^ 64 - 1 → places_in l.initial.self ≡ l.dropped + places_in l.self;
}

abbrev pub decreases-loop-cell : goal.decreases-loop-cell
decreases-loop-cell g l = set.len (g.K.Keeps.released_cells l.keeps)
