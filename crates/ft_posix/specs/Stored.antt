-- The execution of a call on the stored cells.
use Rattle.std.specs.Prelude.{ℕ, List, [], ◌∷◌}
use Rattle.ft_cells.specs.Cells.{Cells, directory_count}
use Rattle.ft_tree.specs.Held.{set_cell}
use Rattle.ft_tree.specs.Views.{view_of}
use Rattle.ft_cells.specs.Looks.{answer}
use Rattle.ft_posix.specs.declared.call.Call.{Call}
use Rattle.ft_posix.specs.Outcomes.{Write, Outcome}
use Rattle.ft_posix.specs.Steps.{steps}

-- the cell of a write is set
abbrev pub put : Cells → Write → Cells
put cells w = set_cell cells w.cell w.value

-- one write after another
abbrev pub put_all : Cells → List Write → Cells
put_all cells [] = cells
put_all cells (w ∷ ws) = put_all (put cells w) ws

-- the outcome of the call with this stamp
abbrev pub outcome : Cells → ℕ → Call → Outcome
outcome cells stamp call = answer (steps cells.limits (directory_count cells) stamp call) (view_of cells)

-- the cells after the call
abbrev pub after : Cells → ℕ → Call → Cells
after cells stamp call = put_all cells (outcome cells stamp call).writes
