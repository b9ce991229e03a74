use Rattle.std.proofs.Common.{◌≡◌, ◌-◌}
use Rattle.ft_cells.specs.Cells.{directory_count}
use Rattle.ft_cells.specs.Looks.{answer}
use Rattle.ft_tree.specs.Views.{view_of}
use Rattle.ft_posix.specs.Links.{climb}
use Rattle.ft_posix.specs.Looking.{noted}
use Rattle.ft_looks.proofs.look.Look.climb.Given as goal

-- the way up from here is what is left of the whole way
abbrev pub invariant-loop : goal.invariant-loop
invariant-loop l = record {
  noted : noted l.self (climb (l.end - l.counter) l.moved l.at) ≡ noted l.initial.self (climb (directory_count l.initial.self.cells) l.moved l.dir);
  met : answer (climb (l.end - l.counter) l.moved l.at) (view_of l.self.cells) ≡ answer (climb (directory_count l.initial.self.cells) l.moved l.dir) (view_of l.initial.self.cells);
}
