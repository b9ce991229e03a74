-- How an inode and a store of inodes end, if one of their directories or files is lent to be
-- written.
use Rattle.std.specs.Prelude.{ℕ, Option}
use Rattle.std.specs.Borrow.{Lends, LendsIf, MutBor, Fml}
use Rattle.ft_cells.specs.Cells.{DirCells, FileCells}
use Rattle.ft_inodes.specs.declared.inode.Inode.{Inode}
use Rattle.ft_inodes.specs.declared.inode.Inode.TheVariants.{Directory, File}
use Rattle.ft_inodes.specs.contracts.inode.Inode as inode
use Rattle.ft_inodes.specs.contracts.inodes.Inodes as inodes
use Rattle.ft_inodes.specs.contracts.directory.Directory as directory
use Rattle.ft_inodes.specs.contracts.file.File as file
use Rattle.ft_inodes.specs.Stored.{InodeCells, with_directory, with_file}

-- the inode with another directory, if it is a directory
abbrev pub set_dir : Inode → DirCells → Inode
set_dir (Directory n d) to = Directory n to
set_dir (File n f) to = File n f

-- the inode with another file, if it is a file
abbrev pub set_file : Inode → FileCells → Inode
set_file (Directory n d) to = Directory n d
set_file (File n f) to = File n to

-- an inode t ends with the last directory in r
abbrev pub LendsDirOf : MutBor Inode → MutBor DirCells → Fml
LendsDirOf t r = Lends inode.the_row directory.the_row t r (set_dir t.now)

-- an inode t ends with the last file in r
abbrev pub LendsFileOf : MutBor Inode → MutBor FileCells → Fml
LendsFileOf t r = Lends inode.the_row file.the_row t r (set_file t.now)

-- a store t ends with the last directory in r under number n, and unchanged if none is lent
abbrev pub LendsDirectory : MutBor InodeCells → ℕ → Option (MutBor DirCells) → Fml
LendsDirectory t n r = LendsIf inodes.the_row directory.the_row t r (with_directory t.now n) t.now

-- a store t ends with the last file in r under number n, and unchanged if none is lent
abbrev pub LendsFile : MutBor InodeCells → ℕ → Option (MutBor FileCells) → Fml
LendsFile t n r = LendsIf inodes.the_row file.the_row t r (with_file t.now n) t.now
