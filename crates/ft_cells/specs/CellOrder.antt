-- The order of cells, in which accesses and locks are listed, and which cells overlap. (Rules of
-- this project.)
-- Cells are what Moss calls objects (Nested Transactions, MIT 1981). Whether a number is a
-- directory or a file never changes, and needs no cell.
use Rattle.std.specs.Prelude.{◌≡◌, ℕ, zero, suc, Bool, true, ◌==◌, List, [], refl}
use Rattle.std.proofs.Common.{sym, ap, ◌∙◌}
use Rattle.std.specs.declared.cmp.Ordering.{Ordering}
use Rattle.std.specs.Ordering.{nat_cmp, is_eq, ordering_then}
use Rattle.std.specs.Cmp.{IsTotalOrder, Equal-is, eq_by_cmp_equiv, nat_cmp_total, on_total, then_total}
use Rattle.std.specs.Cmp.Lexicographic.{slice_cmp, nat_list_cmp_total}
use Rattle.std.proofs.lemmas.Map.Lookups.{CmpEqualImpliesEq, exact_unsigned, exact_bytes, exact_pairs}
use Rattle.ft_cells.specs.Entries.{entry_at}
use Rattle.ft_cells.specs.declared.cell.Cell.{Cell}
use Rattle.ft_cells.specs.declared.cell.Cell.TheVariants.{Entry, Names, Parent, Links, Bytes, Fd, DirAttributes, FileAttributes}

-- the rank of the kind of a cell: entries first, and attributes last
abbrev pub cell_rank : Cell → ℕ
cell_rank (Entry entry) = 0
cell_rank (Names d) = 1
cell_rank (Parent d) = 2
cell_rank (Links i) = 3
cell_rank (Bytes i) = 4
cell_rank (Fd f) = 5
cell_rank (DirAttributes d) = 6
cell_rank (FileAttributes i) = 7

-- the number of a cell: that of its directory, its file or its descriptor
abbrev pub cell_number : Cell → ℕ
cell_number (Entry entry) = entry.dir
cell_number (Names d) = d
cell_number (Parent d) = d
cell_number (Links i) = i
cell_number (Bytes i) = i
cell_number (Fd f) = f
cell_number (DirAttributes d) = d
cell_number (FileAttributes i) = i

-- the name of an entry; no other cell has one
abbrev pub cell_name : Cell → List ℕ
cell_name (Entry entry) = entry.name
cell_name (Names d) = []
cell_name (Parent d) = []
cell_name (Links i) = []
cell_name (Bytes i) = []
cell_name (Fd f) = []
cell_name (DirAttributes d) = []
cell_name (FileAttributes i) = []

-- cells are ordered by kind, then by number, and then by the bytes of the name
abbrev pub cell_cmp : Cell → Cell → Ordering
cell_cmp x y = ordering_then (nat_cmp (cell_rank x) (cell_rank y)) (ordering_then (nat_cmp (cell_number x) (cell_number y)) (slice_cmp nat_cmp (cell_name x) (cell_name y)))

-- cells are the same if they do not differ in the order
abbrev pub same_cell : Cell → Cell → Bool
same_cell x y = is_eq (cell_cmp x y)

-- cells overlap if they are the same, or if one is the names of a directory and the other is an
-- entry of that directory
abbrev pub overlap : Cell → Cell → Bool
overlap (Entry entry) (Names e) = entry.dir == e
overlap (Names d) (Entry entry) = d == entry.dir
overlap x y = same_cell x y

-- the order is total
pub cell_cmp_total : IsTotalOrder cell_cmp
cell_cmp_total = then_total (on_total cell_rank nat_cmp_total) (then_total (on_total cell_number nat_cmp_total) (on_total cell_name nat_list_cmp_total))

-- the cell of a kind, with a number and a name
abbrev cell_at : ℕ → ℕ → List ℕ → Cell
cell_at zero n name = Entry (entry_at n name)
cell_at (suc zero) n name = Names n
cell_at (suc (suc zero)) n name = Parent n
cell_at (suc (suc (suc zero))) n name = Links n
cell_at (suc (suc (suc (suc zero)))) n name = Bytes n
cell_at (suc (suc (suc (suc (suc zero))))) n name = Fd n
cell_at (suc (suc (suc (suc (suc (suc zero)))))) n name = DirAttributes n
cell_at (suc (suc (suc (suc (suc (suc (suc rank))))))) n name = FileAttributes n

cell_again : (x : Cell) → cell_at (cell_rank x) (cell_number x) (cell_name x) ≡ x
cell_again (Entry entry) = refl
cell_again (Names d) = refl
cell_again (Parent d) = refl
cell_again (Links i) = refl
cell_again (Bytes i) = refl
cell_again (Fd f) = refl
cell_again (DirAttributes d) = refl
cell_again (FileAttributes i) = refl

-- cells that do not differ in the order are equal
pub cell_cmp_exact : CmpEqualImpliesEq cell_cmp
cell_cmp_exact x y tied =
    let same = exact_pairs nat_cmp (λ (a b : ℕ × List ℕ). ordering_then (nat_cmp a.0 b.0) (slice_cmp nat_cmp a.1 b.1)) exact_unsigned (exact_pairs nat_cmp (slice_cmp nat_cmp) exact_unsigned exact_bytes)
    (cell_rank x, (cell_number x, cell_name x)) (cell_rank y, (cell_number y, cell_name y)) tied in
    sym (cell_again x) ∙ ap (λ (k : ℕ × (ℕ × List ℕ)). cell_at k.0 k.1.0 k.1.1) same ∙ cell_again y

-- each cell is the same as itself
pub same_cell-refl : (x : Cell) → same_cell x x ≡ true
same_cell-refl = (eq_by_cmp_equiv cell_cmp_total).refl

-- cells that are the same are equal
pub same_cell-is : (x y : Cell) → same_cell x y ≡ true → x ≡ y
same_cell-is x y h = cell_cmp_exact x y ((Equal-is (cell_cmp x y)).0 h)
