-- The hashes of cells, by which the table finds them.
use Rattle.std.specs.Prelude.{◌≡◌, ◌/◌, ◌^◌, ℕ}
use Rattle.std.specs.Option.{option_map}
use Rattle.std.specs.Ordering.{nat_cmp}
use Rattle.std.specs.FinMap as finite
use Rattle.ft_index.specs.Mix.{mix}
use Rattle.ft_path.specs.Hashed.{hashed}
use Rattle.ft_cells.specs.declared.cell.Cell.{Cell}
use Rattle.ft_cells.specs.declared.cell.Cell.TheVariants.{Entry, Names, Parent, Links, Bytes, Fd, DirAttributes, FileAttributes}
use Rattle.ft_lock_rules.specs.Cells.{CellKeys}

-- the number of a cell, mixed with its kind or, for an entry, with the name
abbrev pub mixed : ℕ → Cell → ℕ
mixed seed (Entry entry) = hashed (mix seed entry.dir) entry.name
mixed seed (Names d) = mix (mix seed d) 1
mixed seed (Parent d) = mix (mix seed d) 2
mixed seed (Links i) = mix (mix seed i) 3
mixed seed (Bytes i) = mix (mix seed i) 4
mixed seed (Fd f) = mix (mix seed f) 5
mixed seed (DirAttributes d) = mix (mix seed d) 6
mixed seed (FileAttributes i) = mix (mix seed i) 7

-- the hash of a cell, which depends on a seed
unfoldable pub cell_hash : ℕ → Cell → ℕ
cell_hash seed c = mixed seed c / 2 ^ 32

-- an index has each key under which a cell is stored, with the cell's hash, and no other key
abbrev pub AreHashed : finite.FinMap nat_cmp ℕ → ℕ → CellKeys → Type 0
AreHashed index seed at = (key : ℕ) → finite.get index key ≡ option_map (cell_hash seed) (finite.get at key)
