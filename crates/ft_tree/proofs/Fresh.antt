-- The cells of the root alone.
use Rattle.std.proofs.Common.{◌≡◌, ◌≤◌, ℕ, Bool, true, false, cond, List, [], ◌++◌, map, filter, length, Option, Some, None, IsSome, unwrap_or, nat_cmp, refl, sym, ap, subst, ◌∙◌}
use Rattle.std.specs.Prelude.{◌==◌}
use Rattle.std.specs.Cmp.{nat_cmp_total, unsigned_tied}
use Rattle.std.specs.Cmp.Lexicographic.{slice_cmp}
use Rattle.std.specs.Option.{option_flatten}
use Rattle.std.specs.List.{filter_map}
use Rattle.std.specs.FinMap.{get, empty, entries, from_entries, contains_key, get-insert, get-empty, entries-insert}
use Rattle.std.specs.FinMap.Entries.{put}
use Rattle.ft_cells.specs.declared.node.Node.{Node}
use Rattle.ft_cells.specs.declared.open_file.OpenFile.{OpenFile}
use Rattle.ft_cells.specs.declared.limits.TreeLimits.{TreeLimits}
use Rattle.ft_cells.specs.declared.cell.Cell.{Cell}
use Rattle.ft_cells.specs.declared.cell.Cell.TheVariants.{Entry, Names, Parent, Links, Bytes, Fd, DirAttributes, FileAttributes}
use Rattle.ft_cells.specs.Nodes.{number_of}
use Rattle.ft_cells.specs.Cells.{DirCells, FileCells, no_dir, no_file, dir_of, file_of, dir_entry, entry_of, parent_of, dir_attributes_of, links_of, open_of, filled, fresh_cells}
use Rattle.ft_tree.specs.Held.{held}
use Rattle.ft_cells.specs.declared.entry.Entry.{Entry as DirEntry}
use Rattle.ft_cells.specs.Entries.{entry_at, entry_cmp}
use Rattle.ft_cells.specs.Plain.{view_in}
use Rattle.ft_tree.specs.Tidy.{tidy, edges_from}
use Rattle.ft_tree.specs.Sound.{AreSoundCells, SaysNothingOf, IsFree}
use Rattle.ft_cells.proofs.CellViews.{entries-empty}

module _ (limits : TreeLimits) where
  fresh-get : (d : ℕ) → get (fresh_cells limits).directories d ≡ cond (d == 1) (Some no_dir) None
  fresh-get d = get-insert nat_cmp_total empty 1 no_dir d ∙ (λ i. cond (unsigned_tied d 1 i) (Some no_dir) (get-empty {X = DirCells} nat_cmp d i))

  -- each directory reads as the empty one
  fresh-dir : (d : ℕ) → dir_of (fresh_cells limits) d ≡ no_dir
  fresh-dir d = ap (λ o. unwrap_or o no_dir) (fresh-get d) ∙ elim (d == 1) as (λ b. unwrap_or (cond b (Some no_dir) None) no_dir ≡ no_dir) [ true ↦ refl | false ↦ refl ]

  fresh-entry : (d : ℕ) (name : List ℕ) → entry_of (fresh_cells limits) d name ≡ None
  fresh-entry d name = ap (λ x. dir_entry x name) (fresh-dir d) ∙ ap option_flatten (get-empty (slice_cmp nat_cmp) name)

  fresh-parent : (d : ℕ) → parent_of (fresh_cells limits) d ≡ None
  fresh-parent d = ap (λ (x : DirCells). x.parent) (fresh-dir d)

  fresh-attributes : (d : ℕ) → dir_attributes_of (fresh_cells limits) d ≡ None
  fresh-attributes d = ap (λ (x : DirCells). x.attributes) (fresh-dir d)

  -- each file reads as the empty one, and no descriptor is open
  fresh-file : (i : ℕ) → file_of (fresh_cells limits) i ≡ no_file
  fresh-file i = ap (λ o. unwrap_or o no_file) (get-empty {X = FileCells} nat_cmp i)

  fresh-open : (f : ℕ) → open_of (fresh_cells limits) f ≡ None
  fresh-open f = ap option_flatten (get-empty {X = Option OpenFile} nat_cmp f)

  -- there is no edge
  fresh-edges : edges_from (entries (fresh_cells limits).directories) ≡ []
  fresh-edges =
      ap edges_from (entries-insert nat_cmp_total empty 1 no_dir ∙ ap (put nat_cmp 1 no_dir) (entries-empty nat_cmp DirCells))
      ∙ ap (λ places. map (λ (x : List ℕ × Node). (entry_at 1 x.0, x.1)) (filter_map filled places) ++ []) (entries-empty (slice_cmp nat_cmp) (Option Node))

  -- the edges to a number, in a list of edges
  abbrev edges_to : ℕ → List (DirEntry × Node) → ℕ
  edges_to i es = length (filter (λ e. number_of e.1 == i) (entries (from_entries {R = entry_cmp} es)))

  fresh-edges_to : (i : ℕ) → edges_to i (edges_from (entries (fresh_cells limits).directories)) ≡ 0
  fresh-edges_to i = ap (edges_to i) fresh-edges ∙ ap (λ es. length (filter (λ (e : DirEntry × Node). number_of e.1 == i) es)) (entries-empty entry_cmp Node)

  fresh-links : (i : ℕ) → links_of (fresh_cells limits) i ≡ view_in (tidy (fresh_cells limits)) (Links i)
  fresh-links i =
      ap (λ (x : FileCells). x.links) (fresh-file i)
      ∙ sym (ap (λ n. cond (contains_key (tidy (fresh_cells limits)).dirs i) 0 n) (fresh-edges_to i) ∙ none (contains_key (tidy (fresh_cells limits)).dirs i))
    where
      none : (b : Bool) → ◌≡◌ {A = ℕ} (cond b 0 0) 0
      none true = refl
      none false = refl

  no_value : {A : Type 0} (o : Option A) (x : A) → o ≡ None → o ≡ Some x → ⊥
  no_value o x h g = cc

  pub fresh-sound : AreSoundCells (fresh_cells limits)
  fresh-sound = record {
    root_is = subst IsSome (sym (fresh-get 1)) refl;
    tree = record {
      top = fresh-parent 1;
      starts = λ d name x h. absurd (no_value _ _ (fresh-entry d name) h);
      leads = λ d name i h. absurd (no_value _ _ (fresh-entry d name) h);
      apart = λ d name form i h. absurd (no_value _ _ (fresh-entry d name) h);
      stands = λ d p h. absurd (no_value _ _ (fresh-parent d) h);
      once = λ d name other i h g. absurd (no_value _ _ (fresh-entry d name) h);
      hangs = λ d p h. absurd (no_value _ _ (fresh-parent d) h);
    };
    links = fresh-links;
    opens = λ f o h. absurd (no_value _ _ (fresh-open f) h);
    attributes = λ d a h. absurd (no_value _ _ (fresh-attributes d) h);
  }

  fresh-unused : (k : ℕ) (c : Cell) → SaysNothingOf k c (held (fresh_cells limits) c)
  fresh-unused k (Entry entry) = λ x is. absurd (no_value _ _ (fresh-entry entry.dir entry.name) is)
  fresh-unused k (Names d) = tt
  fresh-unused k (Parent d) = λ at. fresh-parent d
  fresh-unused k (Links i) = λ at. ap (λ (x : FileCells). x.links) (fresh-file i)
  fresh-unused k (Bytes i) = λ at. ap (λ (x : FileCells). x.contents) (fresh-file i)
  fresh-unused k (DirAttributes d) = λ at. fresh-attributes d
  fresh-unused k (FileAttributes i) = λ at. ap (λ (x : FileCells). x.attributes) (fresh-file i)
  fresh-unused k (Fd f) = (λ at. fresh-open f, λ o is. absurd (no_value _ _ (fresh-open f) is))

  pub fresh-free : (k : ℕ) → 2 ≤ k → IsFree (fresh_cells limits) k
  fresh-free k h = record { above_root = h; unused = fresh-unused k }
