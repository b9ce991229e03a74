-- The modes in which a file may be open (POSIX.1-2017, Base Definitions, fcntl.h: O_RDONLY,
-- O_WRONLY, O_RDWR).
use Rattle.std.specs.Prelude.{Bool, true, false}
use Rattle.ft_cells.specs.declared.open_file.AccessMode.{AccessMode}
use Rattle.ft_cells.specs.declared.open_file.AccessMode.TheVariants.{ReadOnly, WriteOnly, ReadWrite}

-- the mode allows reading
abbrev pub can_read : AccessMode → Bool
can_read ReadOnly = true
can_read WriteOnly = false
can_read ReadWrite = true

-- the mode allows writing
abbrev pub can_write : AccessMode → Bool
can_write ReadOnly = false
can_write WriteOnly = true
can_write ReadWrite = true
