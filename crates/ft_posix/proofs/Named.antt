-- Which files a tree knows.
use Rattle.std.proofs.Common.{◌≡◌, ℕ, List, Some}
use Rattle.ft_cells.specs.declared.node.Form.{Form}
use Rattle.ft_cells.specs.declared.node.Node.TheVariants.{File as FileNode}
use Rattle.ft_cells.specs.declared.open_file.OpenFile.{OpenFile}
use Rattle.ft_cells.specs.Cells.{Cells, entry_of, open_of}

-- a file that an entry or a description names
pub data Named (cells : Cells) : ℕ → Type 0 where
  by_entry : (d : ℕ) (name : List ℕ) {form : Form} (i : ℕ) → entry_of cells d name ≡ Some (FileNode form i) → Named cells i
  by_open : (f : ℕ) (o : OpenFile) → open_of cells f ≡ Some o → Named cells o.file
