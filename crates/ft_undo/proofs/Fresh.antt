-- A number that is free has no bytes yet.
use Rattle.std.proofs.Common.{◌≡◌, ℕ, [], ap}
use Rattle.ft_cells.specs.Cells.{Cells, Contents, bytes_of}
use Rattle.ft_tree.specs.Sound.{IsFree}
use Rattle.ft_posix.proofs.Free.{no_contents_yet}

pub no_bytes : {cells : Cells} {k : ℕ} → IsFree cells k → bytes_of cells k ≡ []
no_bytes free = ap (λ (c : Contents). c.bytes) (no_contents_yet free)
