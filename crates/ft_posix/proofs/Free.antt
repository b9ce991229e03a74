-- Which numbers are free, and which are directories, by their parents.
use Rattle.std.proofs.Common.{◌≡◌, ◌≢◌, ◌≤◌, ℕ, List, Bool, true, false, ◌||◌, Option, Some, None, IsSome, is_some, unwrap_or, refl, sym, ap, subst, eqb-true, ◌∙◌}
use Rattle.std.specs.Prelude.{◌==◌}
use Rattle.std.proofs.lemmas.Bool.{false≢true}
use Rattle.std.specs.Option.{option_map_or}
use Rattle.std.specs.FinMap.{get}
use Rattle.ft_cells.specs.Entries.{entry_at}
use Rattle.ft_cells.specs.declared.node.Node.{Node}
use Rattle.ft_cells.specs.declared.open_file.OpenFile.{OpenFile}
use Rattle.ft_cells.specs.declared.cell.Cell.{Cell}
use Rattle.ft_cells.specs.declared.cell.Cell.TheVariants.{Entry, Names, Parent, Links, Bytes, Fd, DirAttributes, FileAttributes}
use Rattle.ft_cells.specs.Nodes.{number_of}
use Rattle.ft_cells.specs.Cells.{Cells, DirCells, no_contents, no_dir, entry_of, parent_of, dir_attributes_of, links_of, file_attributes_of, contents_of, open_of, is_there, has_dir, HasDirPlace}
use Rattle.ft_tree.specs.Held.{held}
use Rattle.ft_tree.specs.Sound.{SaysNothingOf, IsFree}

-- nothing is stored of a number that is free, and nothing names it
pub no_parent : {cells : Cells} {k : ℕ} → IsFree cells k → parent_of cells k ≡ None
no_parent {k = k} free = free.unused (Parent k) refl

pub no_links : {cells : Cells} {k : ℕ} → IsFree cells k → links_of cells k ≡ 0
no_links {k = k} free = free.unused (Links k) refl

pub no_contents_yet : {cells : Cells} {k : ℕ} → IsFree cells k → contents_of cells k ≡ no_contents
no_contents_yet {k = k} free = free.unused (Bytes k) refl

pub no_dir_attributes : {cells : Cells} {k : ℕ} → IsFree cells k → dir_attributes_of cells k ≡ None
no_dir_attributes {k = k} free = free.unused (DirAttributes k) refl

pub no_file_attributes : {cells : Cells} {k : ℕ} → IsFree cells k → file_attributes_of cells k ≡ None
no_file_attributes {k = k} free = free.unused (FileAttributes k) refl

pub no_open : {cells : Cells} {k : ℕ} → IsFree cells k → open_of cells k ≡ None
no_open {k = k} free = (free.unused (Fd k)).0 refl

pub no_entry : {cells : Cells} {k : ℕ} → IsFree cells k → (d : ℕ) (name : List ℕ) (x : Node) → entry_of cells d name ≡ Some x → number_of x ≢ k
no_entry free d name = free.unused (Entry (entry_at d name))

pub no_file : {cells : Cells} {k : ℕ} → IsFree cells k → (f : ℕ) (o : OpenFile) → open_of cells f ≡ Some o → o.file ≢ k
no_file free f = (free.unused (Fd f)).1

-- a number is free where nothing is stored of it, and nothing names it
pub made_free : (cells : Cells) (k : ℕ) → 2 ≤ k → parent_of cells k ≡ None → dir_attributes_of cells k ≡ None → links_of cells k ≡ 0 → file_attributes_of cells k ≡ None → contents_of cells k ≡ no_contents → open_of cells k ≡ None
    → ((d : ℕ) (name : List ℕ) (x : Node) → entry_of cells d name ≡ Some x → number_of x ≢ k) → ((f : ℕ) (o : OpenFile) → open_of cells f ≡ Some o → o.file ≢ k) → IsFree cells k
made_free cells k above parent dir_attributes links file_attributes contents opens entries files = record { above_root = above; unused = unused }
  where
    unused : (c : Cell) → SaysNothingOf k c (held cells c)
    unused (Entry entry) = entries entry.dir entry.name
    unused (Names d) = tt
    unused (Parent d) = λ at. ap (parent_of cells) at ∙ parent
    unused (Links i) = λ at. ap (links_of cells) at ∙ links
    unused (Bytes i) = λ at. ap (contents_of cells) at ∙ contents
    unused (DirAttributes d) = λ at. ap (dir_attributes_of cells) at ∙ dir_attributes
    unused (FileAttributes i) = λ at. ap (file_attributes_of cells) at ∙ file_attributes
    unused (Fd f) = (λ at. ap (open_of cells) at ∙ opens, files f)

-- where the root is stored, a directory is the root or has a parent
pub has_dir-parent : (cells : Cells) → HasDirPlace cells 1 → (d : ℕ) → has_dir cells d ≡ ((d == 1) || is_some (parent_of cells d))
has_dir-parent cells root d = by_place (get cells.directories d) refl
  where
    by_root : (b : Bool) → (d == 1) ≡ b → get cells.directories d ≡ None → false ≡ (b || false)
    by_root true is none = absurd (false≢true (subst IsSome (ap (get cells.directories) (sym (eqb-true d 1 is)) ∙ none) root))
    by_root false is none = refl

    by_place : (o : Option DirCells) → get cells.directories d ≡ o → option_map_or (is_there d) o false ≡ ((d == 1) || is_some (unwrap_or o no_dir).parent)
    by_place None is = by_root (d == 1) refl is
    by_place (Some x) is = refl
