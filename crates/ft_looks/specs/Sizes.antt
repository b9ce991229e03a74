-- The result of one look at the bytes of a file.
use Rattle.std.specs.Prelude.{ℕ, Option, length}
use Rattle.ft_cells.specs.declared.attributes.Timestamp.{Timestamp}
use Rattle.ft_cells.specs.declared.cell.Cell.TheVariants.{Bytes}
use Rattle.ft_cells.specs.Looks.{Looks, Answer, Look}

-- the size of a file, and the time of its bytes if one was set (POSIX.1-2017, Base Definitions,
-- sys/stat.h: st_size and st_mtim)
abbrev pub size_and_time_at : ℕ → Looks (ℕ × Option Timestamp)
size_and_time_at i = Look (Bytes i) (λ contents. Answer (length contents.bytes, contents.time))
