-- The plain tree where the place of one cell is dropped.
use Rattle.std.proofs.Common.{◌≡◌, ℕ, Bool, true, false, cond, not, ◌&&◌, ◌||◌, List, [], ◌∷◌, ◌++◌, map, filter, Option, Some, None, is_some, is_none, unwrap_or, nat_lt, refl, sym, ap, ◌∙◌}
use Rattle.std.specs.Ordering.{nat_cmp}
use Rattle.std.specs.Cmp.{nat_cmp_total}
use Rattle.std.specs.Cmp.Lexicographic.{slice_cmp, nat_list_cmp_total}
use Rattle.std.specs.Option.{option_flatten, option_map, option_map_or}
use Rattle.std.specs.List.{filter_map}
use Rattle.std.specs.FinMap.{get, remove, insert, entries, from_entries, contains_key}
use Rattle.std.proofs.lemmas.Bool.{false≢true}
use Rattle.std.proofs.lemmas.Map.Lookups.{exact_unsigned, exact_bytes}
use Rattle.ft_cells.specs.Entries.{entry_at}
use Rattle.ft_cells.specs.declared.node.Node.{Node}
use Rattle.ft_cells.specs.declared.open_file.OpenFile.{OpenFile}
use Rattle.ft_cells.specs.declared.cell.Cell.{Cell}
use Rattle.ft_cells.specs.declared.cell.Cell.TheVariants.{Entry, Parent, Links, Fd}
use Rattle.ft_cells.specs.Cells.{Cells, DirCells, FileCells, Opens, no_dir, no_file, dir_of, dir_names, filled, is_there, has_file, is_open, without_dir_place, put_dir}
use Rattle.ft_tree.specs.Held.{without_place}
use Rattle.ft_cells.specs.declared.entry.Entry.{Entry as DirEntry}
use Rattle.ft_cells.specs.declared.attributes.Attributes.{Attributes}
use Rattle.ft_cells.specs.Plain.{PlainFile}
use Rattle.ft_tree.specs.Tidy.{tidy, edges_at, edges_from, member, dirs_from, plain_file, is_named, files_from, opens_from}
use Rattle.ft_tree.specs.Sweep.{at_place, is_spare}
use Rattle.ft_cells.proofs.CellViews.{entries-empty}
use Rattle.ft_cells.proofs.Splits.{by_option, unlike, both-left, both-right, not-true, tied-itself}
use Rattle.ft_cells.proofs.Gathered.{gather, part, gather-insert, gather-remove}
use Rattle.ft_open_files.proofs.Opened.{is_open-remove}
use Rattle.ft_tree.proofs.Swept.{no_entries, not_there}

-- The lists as they are gathered, entry by entry.

abbrev edges_of : ℕ × DirCells → List (DirEntry × Node) → List (DirEntry × Node)
edges_of e r = edges_at e ++ r

edges-gather : (es : List (ℕ × DirCells)) → edges_from es ≡ gather nat_cmp_total exact_unsigned edges_of [] es
edges-gather [] = refl
edges-gather (e ∷ es) = ap (λ r. edges_at e ++ r) (edges-gather es)

if_kept : {A B : Type 0} (f : A → B) (b : Bool) (e : A) (es : List A) → map f (cond b (e ∷ es) es) ≡ cond b (f e ∷ map f es) (map f es)
if_kept f true e es = refl
if_kept f false e es = refl

abbrev dir_of_entry : ℕ × DirCells → List (ℕ × Option Attributes) → List (ℕ × Option Attributes)
dir_of_entry e r = cond (is_there e.0 e.1) (member e ∷ r) r

dirs-gather : (es : List (ℕ × DirCells)) → dirs_from es ≡ gather nat_cmp_total exact_unsigned dir_of_entry [] es
dirs-gather [] = refl
dirs-gather (e ∷ es) = if_kept member (is_there e.0 e.1) e (filter (λ x. is_there x.0 x.1) es) ∙ ap (λ r. cond (is_there e.0 e.1) (member e ∷ r) r) (dirs-gather es)

abbrev file_of_entry : Opens → ℕ × FileCells → List (ℕ × PlainFile) → List (ℕ × PlainFile)
file_of_entry opens e r = cond (is_named opens e) (plain_file e ∷ r) r

files-gather : (opens : Opens) (es : List (ℕ × FileCells)) → files_from opens es ≡ gather nat_cmp_total exact_unsigned (file_of_entry opens) [] es
files-gather opens [] = refl
files-gather opens (e ∷ es) = if_kept plain_file (is_named opens e) e (filter (is_named opens) es) ∙ ap (λ r. cond (is_named opens e) (plain_file e ∷ r) r) (files-gather opens es)

module _ {K X : Type 0} where
  -- what stands in a place, with its key
  abbrev full : K × Option X → Option (K × X)
  full e = option_map (λ x. (e.0, x)) e.1

  abbrev push : K → Option X → List (K × X) → List (K × X)
  push k None r = r
  push k (Some x) r = (k, x) ∷ r

  abbrev full_of_entry : K × Option X → List (K × X) → List (K × X)
  full_of_entry e r = push e.0 e.1 r

-- The lists with one place less.

opens-gather : (es : List (ℕ × Option OpenFile)) → filter_map full es ≡ gather nat_cmp_total exact_unsigned full_of_entry [] es
opens-gather [] = refl
opens-gather ((k, None) ∷ es) = opens-gather es
opens-gather ((k, Some x) ∷ es) = ap (λ r. (k, x) ∷ r) (opens-gather es)

names-gather : (es : List (List ℕ × Option Node)) → filter_map full es ≡ gather nat_list_cmp_total exact_bytes full_of_entry [] es
names-gather [] = refl
names-gather ((k, None) ∷ es) = names-gather es
names-gather ((k, Some x) ∷ es) = ap (λ r. (k, x) ∷ r) (names-gather es)

-- a place that is there, and nothing in it
empty_in : {A : Type 0} (o : Option (Option A)) → (is_some o && is_none (option_flatten o)) ≡ true → o ≡ Some None
empty_in None h = absurd (false≢true h)
empty_in (Some None) h = refl
empty_in (Some (Some x)) h = absurd (false≢true h)

opens-without : (m : Opens) (f : ℕ) → get m f ≡ Some None → opens_from (entries (remove m f)) ≡ opens_from (entries m)
opens-without m f is =
    opens-gather (entries (remove m f)) ∙ gather-remove nat_cmp_total exact_unsigned full_of_entry [] m f None (tied-itself nat_cmp_total f) is (λ r. refl) ∙ sym (opens-gather (entries m))

names-without : (x : DirCells) (name : List ℕ) → get x.entries name ≡ Some None → dir_names (without_dir_place x name) ≡ dir_names x
names-without x name is =
    names-gather (entries (remove x.entries name)) ∙ gather-remove nat_list_cmp_total exact_bytes full_of_entry [] x.entries name None (tied-itself nat_list_cmp_total name) is (λ r. refl) ∙ sym (names-gather (entries x.entries))

module _ (kept : Cell → Bool) (cells : Cells) where
  pub tidy-file : (i : ℕ) → is_spare kept cells (Links i) ≡ true → tidy (without_place cells (Links i)) ≡ tidy cells
  tidy-file i spare = by_option (get cells.files i)
      (λ n. unlike (both-left (contains_key cells.files i) _ (both-left _ (not (at_place kept (Links i))) spare)) (ap is_some n))
      (λ x is.
      let unnamed : is_named cells.opens (i, x) ≡ false =
      ap (λ o. nat_lt 0 (unwrap_or o no_file).links || is_open cells.opens i) (sym is) ∙ not-true (has_file cells i) (both-right (contains_key cells.files i) _ (both-left _ (not (at_place kept (Links i))) spare)) in
      let same : files_from cells.opens (entries (remove cells.files i)) ≡ files_from cells.opens (entries cells.files) =
      files-gather cells.opens (entries (remove cells.files i))
      ∙ gather-remove nat_cmp_total exact_unsigned (file_of_entry cells.opens) [] cells.files i x (tied-itself nat_cmp_total i) is (λ r. ap (λ b. cond b (plain_file (i, x) ∷ r) r) unnamed)
      ∙ sym (files-gather cells.opens (entries cells.files)) in
      λ k. record { limits = cells.limits; edges = (tidy cells).edges; dirs = (tidy cells).dirs; files = from_entries (same k); opens = (tidy cells).opens })

  pub tidy-fd : (f : ℕ) → is_spare kept cells (Fd f) ≡ true → tidy (without_place cells (Fd f)) ≡ tidy cells
  tidy-fd f spare =
      let is : get cells.opens f ≡ Some None = empty_in (get cells.opens f) (both-left _ (not (kept (Fd f))) spare) in
      let same : (i : ℕ) → is_open (remove cells.opens f) i ≡ is_open cells.opens i = is_open-remove cells.opens f (ap option_flatten is) in
      let opens = opens-without cells.opens f is in
      λ k. record {
        limits = cells.limits;
        edges = (tidy cells).edges;
        dirs = (tidy cells).dirs;
        files = from_entries (map plain_file (filter (λ (e : ℕ × FileCells). nat_lt 0 e.1.links || same e.0 k) (entries cells.files)));
        opens = from_entries (opens k);
      }

  pub tidy-dir : (d : ℕ) → is_spare kept cells (Parent d) ≡ true → tidy (without_place cells (Parent d)) ≡ tidy cells
  tidy-dir d spare = by_option (get cells.directories d)
      (λ n. unlike (both-left (contains_key cells.directories d) _ (both-left _ _ (both-left _ (not (at_place kept (Parent d))) spare))) (ap is_some n))
      (λ x is.
      let nameless : dir_names x ≡ [] =
      ap (λ o. dir_names (unwrap_or o no_dir)) (sym is) ∙ ap (λ m. filter_map filled (entries m)) (no_entries kept cells d spare) ∙ ap (filter_map filled) (entries-empty (slice_cmp nat_cmp) (Option Node)) in
      let away : is_there d x ≡ false = ap (λ o. option_map_or (is_there d) o false) (sym is) ∙ not_there kept cells d spare in
      let edges : edges_from (entries (remove cells.directories d)) ≡ edges_from (entries cells.directories) =
      edges-gather (entries (remove cells.directories d))
      ∙ gather-remove nat_cmp_total exact_unsigned edges_of [] cells.directories d x (tied-itself nat_cmp_total d) is (λ r. ap (λ ns. map (λ (y : List ℕ × Node). (entry_at d y.0, y.1)) ns ++ r) nameless)
      ∙ sym (edges-gather (entries cells.directories)) in
      let dirs : dirs_from (entries (remove cells.directories d)) ≡ dirs_from (entries cells.directories) =
      dirs-gather (entries (remove cells.directories d))
      ∙ gather-remove nat_cmp_total exact_unsigned dir_of_entry [] cells.directories d x (tied-itself nat_cmp_total d) is (λ r. ap (λ b. cond b (member (d, x) ∷ r) r) away)
      ∙ sym (dirs-gather (entries cells.directories)) in
      λ k. record { limits = cells.limits; edges = from_entries (edges k); dirs = from_entries (dirs k); files = (tidy cells).files; opens = (tidy cells).opens })

  pub tidy-entry : (d : ℕ) (name : List ℕ) (x : DirCells) → get cells.directories d ≡ Some x → is_spare kept cells (Entry (entry_at d name)) ≡ true → tidy (put_dir cells d (without_dir_place x name)) ≡ tidy cells
  tidy-entry d name x is spare =
      let place : get x.entries name ≡ Some None =
      ap (λ o. get (unwrap_or o no_dir).entries name) (sym is) ∙ empty_in (get (dir_of cells d).entries name) (both-left _ (not (kept (Entry (entry_at d name)))) spare) in
      let less = without_dir_place x name in
      let edges : edges_from (entries (insert cells.directories d less)) ≡ edges_from (entries cells.directories) =
      edges-gather (entries (insert cells.directories d less))
      ∙ gather-insert nat_cmp_total exact_unsigned edges_of [] cells.directories d less (λ r.
      ap (λ o. part nat_cmp_total exact_unsigned edges_of [] d o r) is ∙ ap (λ ns. map (λ (y : List ℕ × Node). (entry_at d y.0, y.1)) ns ++ r) (sym (names-without x name place)))
      ∙ sym (edges-gather (entries cells.directories)) in
      let dirs : dirs_from (entries (insert cells.directories d less)) ≡ dirs_from (entries cells.directories) =
      dirs-gather (entries (insert cells.directories d less))
      ∙ gather-insert nat_cmp_total exact_unsigned dir_of_entry [] cells.directories d less (λ r. ap (λ o. part nat_cmp_total exact_unsigned dir_of_entry [] d o r) is)
      ∙ sym (dirs-gather (entries cells.directories)) in
      λ k. record { limits = cells.limits; edges = from_entries (edges k); dirs = from_entries (dirs k); files = (tidy cells).files; opens = (tidy cells).opens }
