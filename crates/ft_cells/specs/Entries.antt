-- The entries that directories may have: a name in a directory (POSIX.1-2017, Base Definitions,
-- 3, Directory Entry). Their order is a rule of this project.
use Rattle.std.specs.Prelude.{ℕ, List}
use Rattle.std.proofs.Common.{ap}
use Rattle.std.specs.declared.cmp.Ordering.{Ordering}
use Rattle.std.specs.Ordering.{nat_cmp, ordering_then}
use Rattle.std.specs.Cmp.{IsTotalOrder, nat_cmp_total, on_total, then_total}
use Rattle.std.specs.Cmp.Lexicographic.{slice_cmp, nat_list_cmp_total}
use Rattle.std.proofs.lemmas.Map.Lookups.{CmpEqualImpliesEq, exact_unsigned, exact_bytes, exact_pairs}
use Rattle.ft_cells.specs.declared.entry.Entry.{Entry}
use Rattle.ft_cells.specs.declared.entry.EntryRef.{EntryRef}

-- the entry of a name in a directory
abbrev pub entry_at : ℕ → List ℕ → Entry
entry_at dir name = record { dir = dir; name = name }

-- the entry that a borrowed name describes
abbrev pub entry_in : EntryRef → Entry
entry_in entry = entry_at entry.dir entry.name.now

-- entries are ordered by directory, and then by the bytes of the name
abbrev pub entry_cmp : Entry → Entry → Ordering
entry_cmp x y = ordering_then (nat_cmp x.dir y.dir) (slice_cmp nat_cmp x.name y.name)

-- the order is total
pub entry_cmp_total : IsTotalOrder entry_cmp
entry_cmp_total = then_total (on_total (λ entry. entry.dir) nat_cmp_total) (on_total (λ entry. entry.name) nat_list_cmp_total)

-- entries that do not differ in the order are the same
pub entry_cmp_exact : CmpEqualImpliesEq entry_cmp
entry_cmp_exact x y tied = ap (λ (e : ℕ × List ℕ). entry_at e.0 e.1) (exact_pairs nat_cmp (slice_cmp nat_cmp) exact_unsigned exact_bytes (x.dir, x.name) (y.dir, y.name) tied)
