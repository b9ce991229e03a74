-- The rows of a tidied tree are those of the stored directories, files and descriptions, in their
-- order.
use Rattle.std.proofs.Common.{◌≡◌, ℕ, Bool, true, false, cond, List, [], ◌∷◌, ◌++◌, map, filter, Option, Some, None, Ordering, refl, sym, ap, subst}
use Rattle.std.specs.Prelude.{T}
use Rattle.std.specs.declared.cmp.Ordering.TheVariants.{Less, Equal, Greater}
use Rattle.std.specs.Ordering.{nat_cmp, is_lt, ordering_then}
use Rattle.std.specs.Cmp.{nat_cmp_total, tied_itself}
use Rattle.std.specs.Cmp.Lexicographic.{slice_cmp}
use Rattle.std.specs.FinMap.{is_sorted, entries, entries_sorted}
use Rattle.std.specs.FinMap.Entries.{below_all}
use Rattle.std.proofs.lemmas.Map.Lookups.{exact_unsigned}
use Rattle.ft_cells.specs.declared.entry.Entry.{Entry}
use Rattle.ft_cells.specs.Entries.{entry_at, entry_cmp, entry_cmp_total, entry_cmp_exact}
use Rattle.ft_cells.specs.declared.node.Node.{Node}
use Rattle.ft_cells.specs.declared.open_file.OpenFile.{OpenFile}
use Rattle.ft_cells.specs.declared.row.TreeRow.TheVariants.{Edge as EdgeRow}
use Rattle.std.specs.List.{filter_map}
use Rattle.ft_cells.specs.Cells.{Cells, DirCells, FileCells, Opens, dir_names, filled, is_there}
use Rattle.ft_tree.specs.Tidy.{tidy, edges_at, edges_from, dirs_from, member, plain_file, is_named, files_from, opens_from}
use Rattle.ft_cells.specs.Rows.{dir_rows, edge_rows, named_rows, file_rows, dir_attributes_rows, file_attributes_rows, time_rows, open_rows, rows_of}
use Rattle.ft_cells.proofs.Conjunction.{both, first, second}
use Rattle.ft_cells.proofs.InOrder.{entries-in_order}

-- The directories.

dirs_below : (k : ℕ) (es : List (ℕ × DirCells)) → T (below_all nat_cmp k es) → T (below_all nat_cmp k (dirs_from es))
dirs_below k [] h = tt
dirs_below k (e ∷ es) h = by_test (is_there e.0 e.1) (dirs_below k es (second _ _ h))
  where
    by_test : (b : Bool) → T (below_all nat_cmp k (dirs_from es)) → T (below_all nat_cmp k (map member (cond b (e ∷ filter (λ x. is_there x.0 x.1) es) (filter (λ x. is_there x.0 x.1) es))))
    by_test true rest = both _ _ (first _ _ h) rest
    by_test false rest = rest

dirs_sorted : (es : List (ℕ × DirCells)) → T (is_sorted nat_cmp es) → T (is_sorted nat_cmp (dirs_from es))
dirs_sorted [] h = tt
dirs_sorted (e ∷ es) h = by_test (is_there e.0 e.1) (dirs_sorted es (second _ _ h))
  where
    by_test : (b : Bool) → T (is_sorted nat_cmp (dirs_from es)) → T (is_sorted nat_cmp (map member (cond b (e ∷ filter (λ x. is_there x.0 x.1) es) (filter (λ x. is_there x.0 x.1) es))))
    by_test true rest = both _ _ (dirs_below e.0 es (first _ _ h)) rest
    by_test false rest = rest

-- The edges.

abbrev edges_at_named : ℕ → List (List ℕ × Node) → List (Entry × Node)
edges_at_named d names = map (λ x. (entry_at d x.0, x.1)) names

-- from one directory to a later one
later_edge : (k d : ℕ) (n m : List ℕ) → T (is_lt (nat_cmp k d)) → T (is_lt (entry_cmp (entry_at k n) (entry_at d m)))
later_edge k d n m h = by_dirs (nat_cmp k d) h
  where
    by_dirs : (r : Ordering) → T (is_lt r) → T (is_lt (ordering_then r (slice_cmp nat_cmp n m)))
    by_dirs Less h = tt
    by_dirs Equal h = absurd h
    by_dirs Greater h = absurd h

below_append : {K X : Type 0} (R : K → K → Ordering) (k : K) (es fs : List (K × X)) → T (below_all R k es) → T (below_all R k fs) → T (below_all R k (es ++ fs))
below_append R k [] fs h g = g
below_append R k (e ∷ es) fs h g = both _ _ (first _ _ h) (below_append R k es fs (second _ _ h) g)

-- the edges of one directory, in the order of its names
below_named : (d : ℕ) (n : List ℕ) (names : List (List ℕ × Node)) → T (below_all (slice_cmp nat_cmp) n names) → T (below_all entry_cmp (entry_at d n) (edges_at_named d names))
below_named d n [] h = tt
below_named d n (x ∷ names) h = both _ _ (same_dir (nat_cmp d d) (tied_itself nat_cmp_total d) (first _ _ h)) (below_named d n names (second _ _ h))
  where
    same_dir : (r : Ordering) → r ≡ Equal → T (is_lt (slice_cmp nat_cmp n x.0)) → T (is_lt (ordering_then r (slice_cmp nat_cmp n x.0)))
    same_dir r is h = subst (λ q. T (is_lt (ordering_then q (slice_cmp nat_cmp n x.0)))) (sym is) h

-- and then those of later directories
names_before : (d : ℕ) (names : List (List ℕ × Node)) (rest : List (Entry × Node)) → T (is_sorted (slice_cmp nat_cmp) names) → T (is_sorted entry_cmp rest) → ((n : List ℕ) → T (below_all entry_cmp (entry_at d n) rest)) → T (is_sorted entry_cmp (edges_at_named d names ++ rest))
names_before d [] rest h up later = up
names_before d (x ∷ names) rest h up later =
    both _ _ (below_append entry_cmp (entry_at d x.0) (edges_at_named d names) rest (below_named d x.0 names (first _ _ h)) (later x.0)) (names_before d names rest (second _ _ h) up later)

-- the names of a directory are in order, without the empty places
filled_below : (n : List ℕ) (es : List (List ℕ × Option Node)) → T (below_all (slice_cmp nat_cmp) n es) → T (below_all (slice_cmp nat_cmp) n (filter_map filled es))
filled_below n [] h = tt
filled_below n ((m, None) ∷ es) h = filled_below n es (second _ _ h)
filled_below n ((m, Some x) ∷ es) h = both _ _ (first _ _ h) (filled_below n es (second _ _ h))

filled_sorted : (es : List (List ℕ × Option Node)) → T (is_sorted (slice_cmp nat_cmp) es) → T (is_sorted (slice_cmp nat_cmp) (filter_map filled es))
filled_sorted [] h = tt
filled_sorted ((m, None) ∷ es) h = filled_sorted es (second _ _ h)
filled_sorted ((m, Some x) ∷ es) h = both _ _ (filled_below m es (first _ _ h)) (filled_sorted es (second _ _ h))

-- the edges of later directories come later
named_later : (k d : ℕ) (n : List ℕ) (names : List (List ℕ × Node)) → T (is_lt (nat_cmp k d)) → T (below_all entry_cmp (entry_at k n) (edges_at_named d names))
named_later k d n [] h = tt
named_later k d n (x ∷ names) h = both _ _ (later_edge k d n x.0 h) (named_later k d n names h)

edges_later : (k : ℕ) (n : List ℕ) (es : List (ℕ × DirCells)) → T (below_all nat_cmp k es) → T (below_all entry_cmp (entry_at k n) (edges_from es))
edges_later k n [] h = tt
edges_later k n (e ∷ es) h = below_append entry_cmp (entry_at k n) (edges_at e) (edges_from es) (named_later k e.0 n (dir_names e.1) (first _ _ h)) (edges_later k n es (second _ _ h))

edges_sorted : (es : List (ℕ × DirCells)) → T (is_sorted nat_cmp es) → T (is_sorted entry_cmp (edges_from es))
edges_sorted [] h = tt
edges_sorted (e ∷ es) h =
    names_before e.0 (dir_names e.1) (edges_from es) (filled_sorted (entries e.1.entries) (entries_sorted e.1.entries)) (edges_sorted es (second _ _ h)) (λ n. edges_later e.0 n es (first _ _ h))

-- The files.

files_below : (opens : Opens) (k : ℕ) (es : List (ℕ × FileCells)) → T (below_all nat_cmp k es) → T (below_all nat_cmp k (files_from opens es))
files_below opens k [] h = tt
files_below opens k (e ∷ es) h = by_test (is_named opens e) (files_below opens k es (second _ _ h))
  where
    by_test : (b : Bool) → T (below_all nat_cmp k (files_from opens es)) → T (below_all nat_cmp k (map plain_file (cond b (e ∷ filter (is_named opens) es) (filter (is_named opens) es))))
    by_test true rest = both _ _ (first _ _ h) rest
    by_test false rest = rest

files_sorted : (opens : Opens) (es : List (ℕ × FileCells)) → T (is_sorted nat_cmp es) → T (is_sorted nat_cmp (files_from opens es))
files_sorted opens [] h = tt
files_sorted opens (e ∷ es) h = by_test (is_named opens e) (files_sorted opens es (second _ _ h))
  where
    by_test : (b : Bool) → T (is_sorted nat_cmp (files_from opens es)) → T (is_sorted nat_cmp (map plain_file (cond b (e ∷ filter (is_named opens) es) (filter (is_named opens) es))))
    by_test true rest = both _ _ (files_below opens e.0 es (first _ _ h)) rest
    by_test false rest = rest

-- The descriptions.

opens_below : (k : ℕ) (es : List (ℕ × Option OpenFile)) → T (below_all nat_cmp k es) → T (below_all nat_cmp k (opens_from es))
opens_below k [] h = tt
opens_below k ((f, None) ∷ es) h = opens_below k es (second _ _ h)
opens_below k ((f, Some o) ∷ es) h = both _ _ (first _ _ h) (opens_below k es (second _ _ h))

opens_sorted : (es : List (ℕ × Option OpenFile)) → T (is_sorted nat_cmp es) → T (is_sorted nat_cmp (opens_from es))
opens_sorted [] h = tt
opens_sorted ((f, None) ∷ es) h = opens_sorted es (second _ _ h)
opens_sorted ((f, Some o) ∷ es) h = both _ _ (opens_below f es (first _ _ h)) (opens_sorted es (second _ _ h))

-- the rows of the directories, edges, files and descriptions as they are stored
pub rows-tidy : (cells : Cells)
    → dir_rows (dirs_from (entries cells.directories)) ++ edge_rows (edges_from (entries cells.directories)) ++ file_rows (files_from cells.opens (entries cells.files))
    ++ dir_attributes_rows (dirs_from (entries cells.directories)) ++ file_attributes_rows (files_from cells.opens (entries cells.files)) ++ time_rows (files_from cells.opens (entries cells.files))
    ++ open_rows (opens_from (entries cells.opens))
    ≡ rows_of (tidy cells)
rows-tidy cells =
    let up = entries_sorted cells.directories in
    let dirs = entries-in_order nat_cmp nat_cmp_total exact_unsigned (dirs_from (entries cells.directories)) (dirs_sorted (entries cells.directories) up) in
    let edges = entries-in_order entry_cmp entry_cmp_total entry_cmp_exact (edges_from (entries cells.directories)) (edges_sorted (entries cells.directories) up) in
    let files = entries-in_order nat_cmp nat_cmp_total exact_unsigned (files_from cells.opens (entries cells.files)) (files_sorted cells.opens (entries cells.files) (entries_sorted cells.files)) in
    let opens = entries-in_order nat_cmp nat_cmp_total exact_unsigned (opens_from (entries cells.opens)) (opens_sorted (entries cells.opens) (entries_sorted cells.opens)) in
    sym (λ i. dir_rows (dirs i) ++ edge_rows (edges i) ++ file_rows (files i) ++ dir_attributes_rows (dirs i) ++ file_attributes_rows (files i) ++ time_rows (files i) ++ open_rows (opens i))

-- the rows of one directory's edges are those of its names
pub edge_rows-at : (e : ℕ × DirCells) (es : List (Entry × Node)) → edge_rows (edges_at e ++ es) ≡ named_rows e.0 (dir_names e.1) ++ edge_rows es
edge_rows-at e es = by_names (dir_names e.1)
  where
    by_names : (names : List (List ℕ × Node)) → edge_rows (edges_at_named e.0 names ++ es) ≡ named_rows e.0 names ++ edge_rows es
    by_names [] = refl
    by_names (x ∷ names) = ap (λ rows. EdgeRow (entry_at e.0 x.0) x.1 ∷ rows) (by_names names)
