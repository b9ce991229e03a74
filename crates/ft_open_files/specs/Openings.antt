-- How many descriptions each file has.
use Rattle.std.specs.Prelude.{◌≡◌, ℕ, ◌==◌, cond, Option, filter, length, unwrap_or}
use Rattle.std.specs.Option.{option_map_or}
use Rattle.std.specs.Ordering.{nat_cmp}
use Rattle.std.specs.FinMap as finite
use Rattle.ft_cells.specs.Cells.{Opens, is_of_file}

-- how many descriptors have file i open
abbrev pub openings : Opens → ℕ → ℕ
openings opens i = length (filter (is_of_file i) (finite.entries opens))

-- the count of a file, which is 0 if no count is stored
abbrev pub described : finite.FinMap nat_cmp ℕ → ℕ → ℕ
described counts i = unwrap_or (finite.get counts i) 0

-- the counts of all files are these numbers
abbrev pub AreCounts : finite.FinMap nat_cmp ℕ → (ℕ → ℕ) → Type 0
AreCounts counts n = (i : ℕ) → described counts i ≡ n i

-- 1 for the file, and 0 for any other
abbrev pub one_of : Option ℕ → ℕ → ℕ
one_of file i = option_map_or (λ j. cond (j == i) 1 0) file 0
