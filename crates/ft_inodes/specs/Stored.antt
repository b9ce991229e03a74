-- The stored directories and files, by number.
use Rattle.std.specs.Prelude.{ℕ, Bool, refl}
use Rattle.std.specs.Ordering.{nat_cmp}
use Rattle.std.specs.FinMap as finite
use Rattle.std.specs.Coded.{Coded, code_by, coded×, coded_ℕ}
use Rattle.ft_cells.specs.declared.node.Node.{Node}
use Rattle.ft_cells.specs.declared.node.Node.TheVariants.{Dir, File}
use Rattle.ft_cells.specs.Cells.{DirCells, Contents, FileCells, coded_dir_cells, coded_file_cells}

-- the stored directories and files, by number
pub record InodeCells : Type 0 where
  pub directories : finite.FinMap nat_cmp DirCells
  pub files : finite.FinMap nat_cmp FileCells

-- how the store is coded: the directories, and then the files
abbrev pub coded_inode_cells : Coded InodeCells
coded_inode_cells =
    code_by (finite.FinMap nat_cmp DirCells × finite.FinMap nat_cmp FileCells)
    (coded× (finite.code coded_ℕ coded_dir_cells) (finite.code coded_ℕ coded_file_cells))
    (λ c. (c.directories, c.files)) (λ p. record { directories = p.0; files = p.1 }) (λ _. refl)

-- no directory and no file
abbrev pub no_inode : InodeCells
no_inode = record { directories = finite.empty; files = finite.empty }

-- a directory or a file with this number is stored
abbrev pub is_stored : InodeCells → Node → Bool
is_stored c (Dir n) = finite.contains_key c.directories n
is_stored c (File form n) = finite.contains_key c.files n

-- the file with other contents
abbrev pub with_contents : FileCells → Contents → FileCells
with_contents file contents = record { links = file.links; attributes = file.attributes; contents = contents }

-- the store with this directory under a number, whatever was there
abbrev pub with_directory : InodeCells → ℕ → DirCells → InodeCells
with_directory c n d = record { directories = finite.insert c.directories n d; files = c.files }

-- the store with this file under a number, whatever was there
abbrev pub with_file : InodeCells → ℕ → FileCells → InodeCells
with_file c n f = record { directories = c.directories; files = finite.insert c.files n f }

-- the store with no directory under a number
abbrev pub without_directory : InodeCells → ℕ → InodeCells
without_directory c n = record { directories = finite.remove c.directories n; files = c.files }

-- the store with no file under a number
abbrev pub without_file : InodeCells → ℕ → InodeCells
without_file c n = record { directories = c.directories; files = finite.remove c.files n }
