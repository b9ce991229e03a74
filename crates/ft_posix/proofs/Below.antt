-- Which directories are met on the way up from one, and how far it is.
use Rattle.std.proofs.Common.{◌≡◌, ◌≢◌, ◌≤◌, ℕ, suc, Option, Some}
use Rattle.ft_cells.specs.declared.limits.TreeLimits.{TreeLimits}
use Rattle.ft_cells.specs.Cells.{Cells, entry_of, parent_of, directory_count}
use Rattle.ft_tree.specs.Views.{view_of}
use Rattle.ft_cells.specs.Looks.{Looks, answer, looked_at}
use Rattle.ft_tree.specs.Sound.{Hangs, the_root, under, IsTree}
use Rattle.ft_posix.specs.declared.call.Call.{Call}
use Rattle.ft_posix.specs.Steps.{steps}

-- directory i is not met on the way up from d to the root
pub data Avoids (parent : ℕ → Option ℕ) (i : ℕ) : ℕ → Type 0 where
  at_root : 1 ≢ i → Avoids parent i 1
  not_here : (d p : ℕ) → d ≢ i → parent d ≡ Some p → Avoids parent i p → Avoids parent i d

-- the steps from a directory up to the root
abbrev pub height : {parent : ℕ → Option ℕ} {d : ℕ} → Hangs parent d → ℕ
height the_root = 0
height (under d p h up) = suc (height up)

-- no directory is further below the root than n
abbrev pub IsEnough : Cells → ℕ → Type 0
IsEnough cells n = (d : ℕ) (h : Hangs (parent_of cells) d) → height h ≤ n

-- both answer the same, and look at the same cells
abbrev pub Alike : {A : Type 0} → Cells → Looks A → Looks A → Type 0
Alike cells s t = (answer s (view_of cells) ≡ answer t (view_of cells)) × (looked_at s (view_of cells) ≡ looked_at t (view_of cells))

-- as many directories as are stored are enough
abbrev pub StoredEnough : Type 0
StoredEnough = (cells : Cells) → IsTree (entry_of cells) (parent_of cells) → IsEnough cells (directory_count cells)

-- where two numbers are enough, a call does the same with either
abbrev pub StepsAlike : Type 0
StepsAlike = (limits : TreeLimits) (cells : Cells) → IsTree (entry_of cells) (parent_of cells) → (m n : ℕ) → IsEnough cells m → IsEnough cells n → (k : ℕ) (call : Call) → Alike cells (steps limits m k call) (steps limits n k call)
