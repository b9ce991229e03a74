-- The rest of a path after a front that leads to a directory.
use Rattle.std.specs.Prelude.{◌≡◌, ℕ, Bool, List, ◌++◌}
use Rattle.ft_path.specs.declared.path.Parts.{Parts}
use Rattle.ft_cells.specs.declared.cell.Cell.{Cell}
use Rattle.ft_cells.specs.Looks.{answer, looked_at}
use Rattle.ft_tree.specs.Views.{view_of}
use Rattle.ft_tree.specs.Walk.{walk_from, walk}
use Rattle.ft_posix.specs.Accesses.{with_looks}
use Rattle.ft_posix.specs.Looking.{Looking}

-- From the directory on, the rest leads to where the path leads from the root. The path also looks
-- at the front, which is noted already.
pub record IsRest (looking : Looking) (path : Parts) (dir : ℕ) (rest : Parts) : Type 0 where
  pub end : (follow : Bool) → answer (walk follow path.names path.trailing) (view_of looking.cells) ≡ answer (walk_from follow dir rest.names rest.trailing) (view_of looking.cells)
  pub looked : (follow : Bool) → looked_at (walk follow path.names path.trailing) (view_of looking.cells) ≡ looking.front ++ looked_at (walk_from follow dir rest.names rest.trailing) (view_of looking.cells)
  pub seen : (more : List Cell) → with_looks looking.modes (looking.front ++ more) ≡ with_looks looking.modes more
