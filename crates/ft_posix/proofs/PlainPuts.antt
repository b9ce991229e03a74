-- To set a cell and then tidy is to tidy and then set it in the plain tree; but files that nothing
-- names any more are still in the plain tree then.
use Rattle.std.proofs.Common.{◌≡◌, ℕ, Bool, true, false, cond, ◌||◌, List, [], ◌∷◌, Option, Some, None, is_some, eqb-true, refl, sym, ap, subst, ◌∙◌}
use Rattle.std.specs.Prelude.{◌==◌}
use Rattle.std.proofs.lemmas.Map.Lookups.{exact_unsigned}
use Rattle.std.proofs.Math.Bool.{or-true}
use Rattle.std.specs.Ordering.{nat_cmp}
use Rattle.std.specs.Cmp.{nat_cmp_total, unsigned_tied}
use Rattle.std.specs.FinMap.{FinMap, get, contains_key, insert, remove, get-insert, get-remove, same_map}
use Rattle.ft_cells.specs.Entries.{entry_at}
use Rattle.ft_cells.specs.declared.node.Node.{Node}
use Rattle.ft_cells.specs.declared.open_file.OpenFile.{OpenFile}
use Rattle.std.specs.Option.{option_flatten}
use Rattle.std.proofs.lemmas.Bool.{false≢true}
use Rattle.ft_cells.specs.declared.attributes.Attributes.{Attributes}
use Rattle.ft_cells.specs.Cells.{Cells, parent_of, dir_attributes_of, put_entry, put_parent, put_dir_attributes, put_open, HasDirPlace}
use Rattle.ft_cells.specs.Plain.{PlainTree, PlainDirs}
use Rattle.ft_tree.specs.Sound.{AreSoundCells}
use Rattle.ft_tree.specs.Tidy.{tidy}
use Rattle.ft_cells.specs.declared.cell.Cell.{Cell}
use Rattle.ft_cells.specs.declared.cell.Cell.TheVariants as cell
use Rattle.ft_tree.specs.Held.{Holds, set_cell}
use Rattle.ft_posix.specs.Outcomes.{Write}
use Rattle.ft_posix.specs.Stored.{put, put_all}
use Rattle.ft_posix.specs.Exec.{set_edge, set_dir, set_dir_attributes, set_open, set_plain, put_plain, put_all_plain}
use Rattle.ft_posix.proofs.Places.{dir_place-set_cell}
use Rattle.ft_posix.proofs.Puts.{with_parent, with_value, parent_set, parent-put_entry, dir_attributes-put_entry, entry-put_parent, parent-put_parent, dir_attributes-put_parent, entry-put_dir_attributes, parent-put_dir_attributes, dir_attributes-put_dir_attributes, open-put_open, parent-set_cell, dir_attributes-set_cell}
use Rattle.ft_posix.proofs.Drawn.{edges-same, edges-put_entry}
use Rattle.ft_posix.proofs.There.{is_dir, AreThere, StayThere, cells-there}
use Rattle.ft_posix.proofs.Tidied.{get-opens, kept_dir, get-dirs}

-- plain trees with the same edges, directories and descriptions; of the files nothing is said
pub record AreAlike (p q : PlainTree) : Type 0 where
  pub limits : p.limits ≡ q.limits
  pub edges : p.edges ≡ q.edges
  pub dirs : p.dirs ≡ q.dirs
  pub opens : p.opens ≡ q.opens

-- Directories.

-- the directories after one was set
get-dir_set : (dirs : PlainDirs) (d : ℕ) (to : Option Attributes) (e : ℕ) → get (insert dirs d to) e ≡ cond (e == d) (Some to) (get dirs e)
get-dir_set dirs d to e = get-insert nat_cmp_total dirs d to e ∙ ap (λ b. cond b (Some to) (get dirs e)) (unsigned_tied e d)

-- or taken away
get-dir_gone : (dirs : PlainDirs) (d e : ℕ) → get (remove dirs d) e ≡ cond (e == d) None (get dirs e)
get-dir_gone dirs d e = get-remove nat_cmp_total dirs d e ∙ ap (λ b. cond b None (get dirs e)) (unsigned_tied e d)

-- The directories are those with these parents and attributes.
abbrev HasDirs : PlainDirs → (ℕ → Option ℕ) → (ℕ → Option Attributes) → Type 0
HasDirs dirs parent attributes = (d : ℕ) → get dirs d ≡ kept_dir parent attributes d

module _ (dirs : PlainDirs) (parent : ℕ → Option ℕ) (attributes : ℕ → Option Attributes) (has : HasDirs dirs parent attributes) where
  -- attributes that are set
  dirs-attributes : (d : ℕ) (to : Option Attributes) → HasDirs (set_dir_attributes dirs d to) parent (with_value attributes d to)
  dirs-attributes d to e = by_there (is_dir parent d) refl
    where
      there : (b : Bool) → is_dir parent d ≡ b → contains_key dirs d ≡ b
      there b is = ap is_some (has d ∙ ap (λ t. cond t (Some (attributes d)) None) is) ∙ elim b as (λ t. is_some (cond t (Some (attributes d)) None) ≡ t) [ true ↦ refl | false ↦ refl ]

      set : is_dir parent d ≡ true → (b : Bool) → (e == d) ≡ b → cond b (Some to) (get dirs e) ≡ cond (is_dir parent e) (Some (cond b to (attributes e))) None
      set is true at = sym (ap (λ t. cond t (Some to) None) (ap (is_dir parent) (eqb-true e d at) ∙ is))
      set is false at = has e

      kept : is_dir parent d ≡ false → (b : Bool) → (e == d) ≡ b → get dirs e ≡ cond (is_dir parent e) (Some (cond b to (attributes e))) None
      kept is true at = let none = ap (is_dir parent) (eqb-true e d at) ∙ is in has e ∙ ap (λ t. cond t (Some (attributes e)) None) none ∙ sym (ap (λ t. cond t (Some to) None) none)
      kept is false at = has e

      by_there : (b : Bool) → is_dir parent d ≡ b → get (set_dir_attributes dirs d to) e ≡ kept_dir parent (with_value attributes d to) e
      by_there true is = ap (λ t. get (cond t (insert dirs d to) dirs) e) (there true is) ∙ get-dir_set dirs d to e ∙ set is (e == d) refl
      by_there false is = ap (λ t. get (cond t (insert dirs d to) dirs) e) (there false is) ∙ kept is (e == d) refl

  -- a parent that is set, where only what is there has attributes
  dirs-parent : AreThere parent attributes → (d : ℕ) (p : Option ℕ) → HasDirs (set_dir dirs d p) (with_parent parent d p) attributes
  dirs-parent alive d (Some p) e = get-dir_set dirs d (option_flatten (get dirs d)) e ∙ by_number (e == d) refl
    where
      -- what it has stays, or it comes with none
      own : option_flatten (get dirs d) ≡ attributes d
      own = ap option_flatten (has d) ∙ by_there (is_dir parent d) refl (attributes d) refl
        where
          by_there : (b : Bool) → is_dir parent d ≡ b → (a : Option Attributes) → attributes d ≡ a → option_flatten (cond b (Some a) None) ≡ a
          by_there true is a kept = refl
          by_there false is None kept = refl
          by_there false is (Some a) kept = absurd (false≢true (sym is ∙ alive d a kept))

      by_number : (b : Bool) → (e == d) ≡ b → cond b (Some (option_flatten (get dirs d))) (get dirs e) ≡ cond ((e == 1) || is_some (cond b (Some p) (parent e))) (Some (attributes e)) None
      by_number true at = ap Some (own ∙ ap attributes (sym (eqb-true e d at))) ∙ sym (ap (λ b. cond b (Some (attributes e)) None) (or-true (e == 1)))
      by_number false at = has e
  dirs-parent alive d None e = by_root (d == 1) refl
    where
      -- the number that is set is the root or not as this one is
      as_root : (r : Bool) → (d == 1) ≡ r → (e == d) ≡ true → (e == 1) ≡ r
      as_root r root at = ap (λ x. x == 1) (eqb-true e d at) ∙ root

      root_stays : (d == 1) ≡ true → (b : Bool) → (e == d) ≡ b → get dirs e ≡ cond ((e == 1) || is_some (cond b None (parent e))) (Some (attributes e)) None
      root_stays root true at = let first = as_root true root at in has e ∙ (λ x. cond (first x || is_some (parent e)) (Some (attributes e)) None) ∙ sym (λ x. cond (first x || false) (Some (attributes e)) None)
      root_stays root false at = has e

      goes : (d == 1) ≡ false → (b : Bool) → (e == d) ≡ b → cond b None (get dirs e) ≡ cond ((e == 1) || is_some (cond b None (parent e))) (Some (attributes e)) None
      goes root true at = sym (λ x. cond (as_root false root at x || false) (Some (attributes e)) None)
      goes root false at = has e

      by_root : (r : Bool) → (d == 1) ≡ r → get (cond r dirs (remove dirs d)) e ≡ kept_dir (with_parent parent d None) attributes e
      by_root true root = root_stays root (e == d) refl
      by_root false root = get-dir_gone dirs d e ∙ goes root (e == d) refl

-- directories with the same parents and attributes are one
same-dirs : (one other : PlainDirs) (parent : ℕ → Option ℕ) (attributes : ℕ → Option Attributes) → HasDirs one parent attributes → HasDirs other parent attributes → one ≡ other
same-dirs one other parent attributes h g = same_map nat_cmp_total exact_unsigned one other (λ d. h d ∙ sym (g d))

-- Descriptions.

-- the descriptions after one was set, or taken away
get-set_open : (m : FinMap nat_cmp OpenFile) (f : ℕ) (to : Option OpenFile) (g : ℕ) → get (set_open m f to) g ≡ with_value (get m) f to g
get-set_open m f None g = get-remove nat_cmp_total m f g ∙ ap (λ b. cond b None (get m g)) (unsigned_tied g f)
get-set_open m f (Some o) g = get-insert nat_cmp_total m f o g ∙ ap (λ b. cond b (Some o) (get m g)) (unsigned_tied g f)

-- The cells, where the root is stored.

-- the root stays stored
root-set : (cells : Cells) (c : Cell) (to : Holds c) → HasDirPlace cells 1 → HasDirPlace (set_cell cells c to) 1
root-set cells c to root = dir_place-set_cell cells c to 1 root

-- cells with the same parents and attributes have the same directories
dirs-same : (cells new : Cells) → HasDirPlace cells 1 → HasDirPlace new 1 → parent_of new ≡ parent_of cells → dir_attributes_of new ≡ dir_attributes_of cells → (tidy new).dirs ≡ (tidy cells).dirs
dirs-same cells new root still parents attributes =
    same-dirs (tidy new).dirs (tidy cells).dirs (parent_of cells) (dir_attributes_of cells) (λ d. get-dirs new still d ∙ (λ x. kept_dir (parents x) (attributes x) d)) (get-dirs cells root)

-- an entry that is set changes no directory
dirs-put_entry : (cells : Cells) (d : ℕ) (name : List ℕ) (to : Option Node) → HasDirPlace cells 1 → (tidy (put_entry cells d name to)).dirs ≡ (tidy cells).dirs
dirs-put_entry cells d name to root =
    dirs-same cells (put_entry cells d name to) root (root-set cells (cell.Entry (entry_at d name)) to root) (λ i e. parent-put_entry cells d name to e i) (λ i e. dir_attributes-put_entry cells d name to e i)

-- a parent that is set is a directory
dirs-put_parent : (cells : Cells) (d : ℕ) (p : Option ℕ) → HasDirPlace cells 1 → AreThere (parent_of cells) (dir_attributes_of cells) → (tidy (put_parent cells d p)).dirs ≡ set_dir (tidy cells).dirs d p
dirs-put_parent cells d p root alive =
    same-dirs (tidy (put_parent cells d p)).dirs (set_dir (tidy cells).dirs d p) (with_parent (parent_of cells) d p) (dir_attributes_of cells)
    (λ e. get-dirs (put_parent cells d p) (root-set cells (cell.Parent d) p root) e ∙ (λ x. kept_dir (λ f. parent-put_parent cells d p f x) (λ f. dir_attributes-put_parent cells d p f x) e))
    (dirs-parent (tidy cells).dirs (parent_of cells) (dir_attributes_of cells) (get-dirs cells root) alive d p)

-- attributes that are set are those of the directory, if it is there
dirs-put_dir_attributes : (cells : Cells) (d : ℕ) (to : Option Attributes) → HasDirPlace cells 1 → (tidy (put_dir_attributes cells d to)).dirs ≡ set_dir_attributes (tidy cells).dirs d to
dirs-put_dir_attributes cells d to root =
    same-dirs (tidy (put_dir_attributes cells d to)).dirs (set_dir_attributes (tidy cells).dirs d to) (parent_of cells) (with_value (dir_attributes_of cells) d to)
    (λ e. get-dirs (put_dir_attributes cells d to) (root-set cells (cell.DirAttributes d) to root) e ∙ (λ x. kept_dir (λ f. parent-put_dir_attributes cells d to f x) (λ f. dir_attributes-put_dir_attributes cells d to f x) e))
    (dirs-attributes (tidy cells).dirs (parent_of cells) (dir_attributes_of cells) (get-dirs cells root) d to)

-- no edge is set by a parent
edges-put_parent : (cells : Cells) (d : ℕ) (p : Option ℕ) → (tidy (put_parent cells d p)).edges ≡ (tidy cells).edges
edges-put_parent cells d p = edges-same cells (put_parent cells d p) (λ i e other. entry-put_parent cells d p e other i)

-- or by attributes
edges-put_dir_attributes : (cells : Cells) (d : ℕ) (to : Option Attributes) → (tidy (put_dir_attributes cells d to)).edges ≡ (tidy cells).edges
edges-put_dir_attributes cells d to = edges-same cells (put_dir_attributes cells d to) (λ i e other. entry-put_dir_attributes cells d to e other i)

-- a description that is set is one
opens-put_open : (cells : Cells) (f : ℕ) (to : Option OpenFile) → (tidy (put_open cells f to)).opens ≡ set_open (tidy cells).opens f to
opens-put_open cells f to =
    same_map nat_cmp_total exact_unsigned _ _ (λ g. get-opens (put_open cells f to) g ∙ open-put_open cells f to g
    ∙ sym (get-set_open (tidy cells).opens f to g ∙ ap (cond (g == f) to) (get-opens cells g)))

-- one cell
alike-set : (cells : Cells) (p : PlainTree) (c : Cell) (to : Holds c) → HasDirPlace cells 1 → AreThere (parent_of cells) (dir_attributes_of cells) → AreAlike (tidy cells) p → AreAlike (tidy (set_cell cells c to)) (set_plain p c to)
alike-set cells p (cell.Entry entry) to root alive h = record {
  edges = edges-put_entry cells entry.dir entry.name to ∙ ap (λ m. set_edge m entry to) h.edges;
  limits = h.limits;
  dirs = dirs-put_entry cells entry.dir entry.name to root ∙ h.dirs;
  opens = h.opens;
}
alike-set cells p (cell.Names d) to root alive h = h
alike-set cells p (cell.Parent d) parent root alive h = record {
  limits = h.limits;
  edges = edges-put_parent cells d parent ∙ h.edges;
  dirs = dirs-put_parent cells d parent root alive ∙ ap (λ s. set_dir s d parent) h.dirs;
  opens = h.opens;
}
alike-set cells p (cell.Links i) links root alive h = record { limits = h.limits; edges = h.edges; dirs = h.dirs; opens = h.opens }
alike-set cells p (cell.Bytes i) contents root alive h = record { limits = h.limits; edges = h.edges; dirs = h.dirs; opens = h.opens }
alike-set cells p (cell.Fd f) to root alive h = record { limits = h.limits; edges = h.edges; dirs = h.dirs; opens = opens-put_open cells f to ∙ ap (λ m. set_open m f to) h.opens }
alike-set cells p (cell.DirAttributes d) to root alive h = record {
  limits = h.limits;
  edges = edges-put_dir_attributes cells d to ∙ h.edges;
  dirs = dirs-put_dir_attributes cells d to root ∙ ap (λ s. set_dir_attributes s d to) h.dirs;
  opens = h.opens;
}
alike-set cells p (cell.FileAttributes i) to root alive h = record { limits = h.limits; edges = h.edges; dirs = h.dirs; opens = h.opens }

-- and one after another, where only directories that are there have attributes on the way
alike-put_all : (ws : List Write) (cells : Cells) (p : PlainTree) → HasDirPlace cells 1 → AreThere (parent_of cells) (dir_attributes_of cells) → StayThere (parent_of cells) (dir_attributes_of cells) ws → AreAlike (tidy cells) p
    → AreAlike (tidy (put_all cells ws)) (put_all_plain p ws)
alike-put_all [] cells p root alive stay h = h
alike-put_all (w ∷ ws) cells p root alive stay h =
    let parents = sym (parent-set_cell cells w.cell w.value) in
    let attributes = sym (dir_attributes-set_cell cells w.cell w.value) in
    alike-put_all ws (put cells w) (put_plain p w) (root-set cells w.cell w.value root)
    (subst (λ (f : ℕ → Option ℕ). AreThere f (dir_attributes_of (put cells w))) parents (subst (λ (f : ℕ → Option Attributes). AreThere (parent_set (parent_of cells) w.cell w.value) f) attributes stay.0))
    (subst (λ (f : ℕ → Option ℕ). StayThere f (dir_attributes_of (put cells w)) ws) parents (subst (λ (f : ℕ → Option Attributes). StayThere (parent_set (parent_of cells) w.cell w.value) f ws) attributes stay.1))
    (alike-set cells p w.cell w.value root alive h)

pub tidy-put_all : (ws : List Write) (cells : Cells) → AreSoundCells cells → StayThere (parent_of cells) (dir_attributes_of cells) ws → AreAlike (tidy (put_all cells ws)) (put_all_plain (tidy cells) ws)
tidy-put_all ws cells sound stay = alike-put_all ws cells (tidy cells) sound.root_is (cells-there cells sound) stay (record { limits = refl; edges = refl; dirs = refl; opens = refl })
