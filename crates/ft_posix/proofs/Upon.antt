-- What a call comes upon: the files that it may touch, and the names that it writes or takes away.
use Rattle.std.proofs.Common.{◌≡◌, ◌⊎◌, ℕ, true, false, List, map, Some}
use Rattle.ft_laws.specs.Lists.{Each, In}
use Rattle.ft_cells.specs.Entries.{entry_at}
use Rattle.ft_cells.specs.declared.cell.Cell.{Cell}
use Rattle.ft_cells.specs.declared.cell.Cell.TheVariants.{Entry, Links, Fd}
use Rattle.ft_cells.specs.declared.node.Form.{Form}
use Rattle.ft_cells.specs.declared.node.Node.TheVariants.{File as FileNode}
use Rattle.ft_cells.specs.declared.open_file.OpenFile.{OpenFile}
use Rattle.ft_cells.specs.Cells.{Cells, entry_of, open_of}
use Rattle.ft_tree.specs.Views.{view_of}
use Rattle.ft_cells.specs.Looks.{answer, looked_at}
use Rattle.ft_tree.specs.Sound.{IsFree}
use Rattle.ft_posix.specs.declared.call.Call.{Call}
use Rattle.ft_posix.specs.Outcomes.{Write}
use Rattle.ft_posix.specs.Steps.{steps}
use Rattle.ft_posix.specs.Stored.{put_all}
use Rattle.ft_posix.specs.Accesses.{written_cell}
use Rattle.ft_tree.specs.Held.{held}
use Rattle.ft_posix.specs.Posix.{file_of, names_file}

-- an entry or a description among those that are seen names file i
pub data Sees (cells : Cells) (seen : List Cell) : ℕ → Type 0 where
  sees_entry : (d : ℕ) (name : List ℕ) {form : Form} (i : ℕ) → In (Entry (entry_at d name)) seen → entry_of cells d name ≡ Some (FileNode form i) → Sees cells seen i
  sees_open : (f : ℕ) (o : OpenFile) → In (Fd f) seen → open_of cells f ≡ Some o → Sees cells seen o.file

-- the call with stamp k comes upon file i: it makes it, or sees its name
abbrev pub Upon : Cells → ℕ → List Cell → ℕ → Type 0
Upon cells k seen i = (k ≡ i) ⊎ Sees cells seen i

-- the name is left in another cell that is written
abbrev pub IsLeft : Cells → List Write → ℕ → Type 0
IsLeft cells ws i = (y : Cell) × In y (map written_cell ws) × (names_file y (held (put_all cells ws) y) i ≡ true)

pub record CallUpon (cells : Cells) (k : ℕ) (seen : List Cell) (ws : List Write) : Type 0 where
  -- the cells of files that are looked at are those of files that it comes upon
  pub looks : Each (λ c. (i : ℕ) → file_of c ≡ Some i → Upon cells k seen i) seen
  -- and so are those that are written
  pub writes : Each (λ w. (i : ℕ) → file_of (written_cell w) ≡ Some i → Upon cells k seen i) ws
  -- the names that are written are of such files
  pub names : Each (λ w. (i : ℕ) → names_file w.cell w.value i ≡ true → Upon cells k seen i) ws
  -- a file of which a name is taken away has its links looked at, or the name is left elsewhere
  pub lets_go : (x : Cell) (i : ℕ) → names_file x (held cells x) i ≡ true → names_file x (held (put_all cells ws) x) i ≡ false → In (Links i) seen ⊎ IsLeft cells ws i

abbrev pub EachCallUpon : Type 0
EachCallUpon = (cells : Cells) (k : ℕ) → IsFree cells k → (n : ℕ) (call : Call) → CallUpon cells k (looked_at (steps cells.limits n k call) (view_of cells)) (answer (steps cells.limits n k call) (view_of cells)).writes
