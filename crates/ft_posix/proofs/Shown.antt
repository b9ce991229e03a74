-- Sound cells and their plain tree show the same, beside the contents and the attributes of files
-- that nothing names.
use Rattle.std.proofs.Common.{◌≡◌, ℕ, Bool, true, false, cond, ◌||◌, List, [], ◌∷◌, map, Option, Some, None, eqb-true, refl, sym, ap, subst, ◌∙◌}
use Rattle.std.specs.Prelude.{T, ◌==◌, nat_lt}
use Rattle.std.proofs.Math.Bool.{or-true}
use Rattle.std.proofs.lemmas.Bool.{false≢true}
use Rattle.std.specs.Option.{option_flatten, option_map_or}
use Rattle.std.specs.declared.cmp.Ordering.TheVariants.{Equal}
use Rattle.std.specs.Ordering.{nat_cmp, is_lt, ordering_then}
use Rattle.std.specs.Cmp.{unsigned_tied, nat_cmp_total, tied_itself}
use Rattle.std.specs.Cmp.Lexicographic.{slice_cmp}
use Rattle.std.specs.FinMap.{get, len, entries, entries_sorted, is_sorted, retain_keys, get-retain_keys, from_sorted, get-from_sorted, entries-from_sorted, same_map}
use Rattle.std.specs.FinMap.Entries.{below_all}
use Rattle.ft_cells.specs.Entries.{entry_at, entry_cmp, entry_cmp_exact, entry_cmp_total}
use Rattle.ft_cells.specs.declared.entry.Entry.{Entry as DirEntry}
use Rattle.ft_cells.specs.declared.node.Node.{Node}
use Rattle.ft_cells.specs.declared.node.Node.TheVariants.{File as FileNode}
use Rattle.ft_cells.specs.declared.cell.Cell.{Cell}
use Rattle.ft_cells.specs.declared.cell.Cell.TheVariants.{Entry, Names, Parent, Links, Bytes, Fd, DirAttributes, FileAttributes}
use Rattle.ft_cells.specs.Cells.{Cells, no_contents, dir_of, dir_entry, directory_count, entry_of, names_of, dir_attributes_of, links_of, has_dir, has_file}
use Rattle.ft_tree.specs.Views.{view_of}
use Rattle.ft_cells.specs.Looks.{Agree, answer, looked_at, answer-agree}
use Rattle.ft_cells.specs.declared.attributes.Attributes.{Attributes}
use Rattle.ft_cells.specs.Plain.{PlainFile, names_in, view_in}
use Rattle.ft_tree.specs.Tidy.{tidy}
use Rattle.ft_tree.specs.Sound.{AreSoundCells}
use Rattle.ft_posix.specs.declared.call.Call.{Call}
use Rattle.ft_posix.specs.Steps.{steps}
use Rattle.ft_posix.specs.Stored.{outcome}
use Rattle.ft_posix.proofs.Climbing.{stored-enough, dirs-enough, steps-alike}
use Rattle.ft_cells.proofs.Conjunction.{first, second, both}
use Rattle.ft_posix.proofs.Listed.{sorted_filled}
use Rattle.ft_posix.proofs.Looked.{IsShown, AllShown, call-looks}
use Rattle.ft_posix.proofs.Named.{Named, by_entry, by_open}
use Rattle.ft_posix.proofs.Opens.{open-named}
use Rattle.ft_posix.proofs.Parents.{contains-no_dir, parent-shown}
use Rattle.ft_posix.proofs.PlainSound.{file-edge}
use Rattle.ft_posix.proofs.Tidied.{edges_named, edges_named-find, dir_names-find, get-tidy, get-tidy_dir, file_at, get-files, get-opens}

-- Lists of names in order.

-- edges of one directory are in the order of their names
less_edge : (d : ℕ) (name other : List ℕ) → T (is_lt (slice_cmp nat_cmp name other)) → T (is_lt (entry_cmp (entry_at d name) (entry_at d other)))
less_edge d name other h = subst (λ r. T (is_lt (ordering_then r (slice_cmp nat_cmp name other)))) (sym (tied_itself nat_cmp_total d)) h

below_named : (d : ℕ) (name : List ℕ) (names : List (List ℕ × Node)) → T (below_all (slice_cmp nat_cmp) name names) → T (below_all entry_cmp (entry_at d name) (edges_named d names))
below_named d name [] h = tt
below_named d name (x ∷ names) h = both _ _ (less_edge d name x.0 (first _ _ h)) (below_named d name names (second _ _ h))

sorted_named : (d : ℕ) (names : List (List ℕ × Node)) → T (is_sorted (slice_cmp nat_cmp) names) → T (is_sorted entry_cmp (edges_named d names))
sorted_named d [] h = tt
sorted_named d (x ∷ names) h = both _ _ (below_named d x.0 names (first _ _ h)) (sorted_named d names (second _ _ h))

-- edges that tie start in the same directory
same_dir : (d : ℕ) (q x : DirEntry) → entry_cmp q x ≡ Equal → (x.dir == d) ≡ (q.dir == d)
same_dir d q x h = ap (λ e. e.dir == d) (sym (entry_cmp_exact q x h))

-- the edges of one directory are its names, in order
edges_of : (cells : Cells) (d : ℕ) → entries (retain_keys (tidy cells).edges (λ e. e.dir == d)) ≡ edges_named d (names_of cells d)
edges_of cells d =
    let up = sorted_named d (names_of cells d) (sorted_filled (entries (dir_of cells d).entries) (entries_sorted (dir_of cells d).entries)) in
    let same : retain_keys (tidy cells).edges (λ e. e.dir == d) ≡ from_sorted {R = entry_cmp} (edges_named d (names_of cells d)) =
    same_map entry_cmp_total entry_cmp_exact _ _ (λ q.
    get-retain_keys (tidy cells).edges (λ e. e.dir == d) q (same_dir d q)
    ∙ ap (λ o. cond (q.dir == d) o None) (get-tidy cells q.dir q.name)
    ∙ by_number q.dir q.name (q.dir == d) refl
    ∙ sym (get-from_sorted entry_cmp (edges_named d (names_of cells d)) q up ∙ edges_named-find d q.dir q.name (names_of cells d) ∙ (λ i. cond (unsigned_tied q.dir d i) (dir_names-find q.name (dir_of cells d) i) None))) in
    ap entries same ∙ entries-from_sorted entry_cmp (edges_named d (names_of cells d)) up
  where
    by_number : (e : ℕ) (name : List ℕ) (b : Bool) → (e == d) ≡ b → cond b (entry_of cells e name) None ≡ cond b (dir_entry (dir_of cells d) name) None
    by_number e name true is = ap (λ x. entry_of cells x name) (eqb-true e d is)
    by_number e name false is = refl

module _ (cells : Cells) (sound : AreSoundCells cells) where
  -- a directory shows its names
  each_named : (d : ℕ) (names : List (List ℕ × Node)) → map {B = List ℕ × Node} (λ e. (e.0.name, e.1)) (edges_named d names) ≡ names
  each_named d [] = refl
  each_named d (x ∷ names) = λ i. (x.0, x.1) ∷ each_named d names i

  names-in : (d : ℕ) → names_in (tidy cells) d ≡ names_of cells d
  names-in d = ap (map {B = List ℕ × Node} (λ (e : DirEntry × Node). (e.0.name, e.1))) (edges_of cells d) ∙ each_named d (names_of cells d)

  -- a file that is named is there
  pub named-there : (i : ℕ) → Named cells i → has_file cells i ≡ true
  named-there _ (by_entry d name {form} i is) = file-edge cells sound (entry_at d name) (FileNode form i) (contains-no_dir cells sound i (sound.tree.apart d name form i is)) (get-tidy cells d name ∙ is)
  named-there _ (by_open f o is) = ap (λ b. nat_lt 0 (links_of cells o.file) || b) (open-named cells f o is) ∙ or-true (nat_lt 0 (links_of cells o.file))

  -- and shows what it has
  file-in : (i : ℕ) → has_file cells i ≡ true → get (tidy cells).files i ≡ Some (file_at cells i)
  file-in i there = get-files cells sound i ∙ ap (λ b. cond b (Some (file_at cells i)) None) there

  -- a directory shows its attributes, and what is none has none
  attributes-in : (d : ℕ) → option_flatten (get (tidy cells).dirs d) ≡ dir_attributes_of cells d
  attributes-in d = ap option_flatten (get-tidy_dir cells d) ∙ by_there (has_dir cells d) refl (dir_attributes_of cells d) refl
    where
      by_there : (b : Bool) → has_dir cells d ≡ b → (a : Option Attributes) → dir_attributes_of cells d ≡ a → option_flatten (cond b (Some a) None) ≡ a
      by_there true is a kept = refl
      by_there false is None kept = refl
      by_there false is (Some a) kept = absurd (false≢true (sym is ∙ sound.attributes d a kept))

  -- each cell that is shown shows the same
  pub cell-shown : (c : Cell) → IsShown cells c → view_in (tidy cells) c ≡ view_of cells c
  cell-shown (Entry entry) shown = get-tidy cells entry.dir entry.name
  cell-shown (Names d) shown = names-in d
  cell-shown (Parent d) shown = parent-shown cells sound d
  cell-shown (Links i) shown = sym (sound.links i)
  cell-shown (Bytes i) shown = ap (λ o. option_map_or (λ (f : PlainFile). f.contents) o no_contents) (file-in i (named-there i shown))
  cell-shown (Fd f) shown = get-opens cells f
  cell-shown (DirAttributes d) shown = attributes-in d
  cell-shown (FileAttributes i) shown = ap (λ o. option_map_or (λ (f : PlainFile). f.attributes) o None) (file-in i (named-there i shown))

  -- and so do all of a list
  all-shown : (cs : List Cell) → AllShown cells cs → Agree (view_of cells) (view_in (tidy cells)) cs
  all-shown [] shown = tt
  all-shown (c ∷ cs) shown = (sym (cell-shown c shown.0), all-shown cs shown.1)

  -- so a call comes to the same on the plain tree as on the cells: the directories of either are
  -- enough
  pub outcome-shown : (k : ℕ) (call : Call) → answer (steps cells.limits (len (tidy cells).dirs) k call) (view_in (tidy cells)) ≡ outcome cells k call
  outcome-shown k call =
      let n = len (tidy cells).dirs in
      sym (answer-agree (steps cells.limits n k call) (view_of cells) (view_in (tidy cells)) (all-shown (looked_at (steps cells.limits n k call) (view_of cells)) (call-looks cells.limits cells sound n k call)))
      ∙ (steps-alike cells.limits cells sound.tree n (directory_count cells) (dirs-enough cells sound) (stored-enough cells sound.tree) k call).0
