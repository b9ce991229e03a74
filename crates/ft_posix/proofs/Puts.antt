-- What the cells have after some of them were set.
use Rattle.std.proofs.Common.{◌≡◌, ℕ, Bool, true, false, cond, ◌&&◌, List, [], ◌∷◌, Option, Some, unwrap_or, nat_eq, refl, sym, ap, eqb-true, ◌∙◌}
use Rattle.std.specs.Prelude.{◌==◌}
use Rattle.std.specs.Ordering.{nat_cmp, eq_by_cmp}
use Rattle.std.specs.Cmp.{nat_cmp_total, unsigned_tied}
use Rattle.std.specs.Cmp.Lexicographic.{slice_cmp, pointwise, nat_list_cmp_total, texts_ties}
use Rattle.std.specs.Option.{option_flatten}
use Rattle.std.specs.FinMap.{get, get-insert}
use Rattle.ft_cells.specs.declared.node.Node.{Node}
use Rattle.ft_cells.specs.declared.cell.Cell.{Cell}
use Rattle.ft_cells.specs.declared.cell.Cell.TheVariants.{Entry, Names, Parent, Links, Bytes, Fd, DirAttributes, FileAttributes}
use Rattle.ft_cells.specs.declared.open_file.OpenFile.{OpenFile}
use Rattle.ft_cells.specs.declared.attributes.Attributes.{Attributes}
use Rattle.ft_cells.specs.Cells.{Cells, DirCells, FileCells, Contents, no_dir, no_file, dir_of, file_of, dir_entry, put_dir, put_dir_entry, put_dir_parent, put_kept_of_dir, put_file, entry_of, parent_of, dir_attributes_of, links_of, file_attributes_of, contents_of, open_of, put_entry, put_parent, put_dir_attributes, put_links, put_file_attributes, put_contents, put_open}
use Rattle.ft_tree.specs.Held.{Holds, set_cell}
use Rattle.ft_posix.specs.Outcomes.{Write}
use Rattle.ft_posix.specs.Stored.{put_all}

-- whether the second place is the first
abbrev pub is_place : ℕ → List ℕ → ℕ → List ℕ → Bool
is_place d name e other = (e == d) && pointwise nat_eq other name

-- the entries with one of them set
abbrev pub with_entry : (ℕ → List ℕ → Option Node) → ℕ → List ℕ → Option Node → ℕ → List ℕ → Option Node
with_entry entry d name to e other = cond (is_place d name e other) to (entry e other)

-- the parents with one of them set
abbrev pub with_parent : (ℕ → Option ℕ) → ℕ → Option ℕ → ℕ → Option ℕ
with_parent parent d p e = cond (e == d) p (parent e)

-- the values of one kind with one of them set
abbrev pub with_value : {A : Type 0} → (ℕ → A) → ℕ → A → ℕ → A
with_value f i x j = cond (j == i) x (f j)

-- a choice, and a value in place of none
unwrapped : {A : Type 0} (b : Bool) (x : A) (o : Option A) (none : A) → unwrap_or (cond b (Some x) o) none ≡ cond b x (unwrap_or o none)
unwrapped true x o none = refl
unwrapped false x o none = refl

-- a choice of places, and what stands in it
flattened : {A : Type 0} (b : Bool) (x : Option A) (o : Option (Option A)) → option_flatten (cond b (Some x) o) ≡ cond b x (option_flatten o)
flattened true x o = refl
flattened false x o = refl

-- the directories after one was set
pub dir_of-put_dir : (cells : Cells) (d : ℕ) (x : DirCells) (e : ℕ) → dir_of (put_dir cells d x) e ≡ cond (e == d) x (dir_of cells e)
dir_of-put_dir cells d x e =
    ap (λ o. unwrap_or o no_dir) (get-insert nat_cmp_total cells.directories d x e) ∙ unwrapped (eq_by_cmp nat_cmp e d) x (get cells.directories e) no_dir
    ∙ ap (λ b. cond b x (dir_of cells e)) (unsigned_tied e d)

-- the entries of a directory after one was set
dir_entry-put : (x : DirCells) (name : List ℕ) (to : Option Node) (other : List ℕ) → dir_entry (put_dir_entry x name to) other ≡ cond (pointwise nat_eq other name) to (dir_entry x other)
dir_entry-put x name to other =
    ap option_flatten (get-insert nat_list_cmp_total x.entries name to other) ∙ flattened (eq_by_cmp (slice_cmp nat_cmp) other name) to (get x.entries other)
    ∙ ap (λ b. cond b to (dir_entry x other)) (sym (texts_ties other name))

-- what is read of a directory after one was set
pub read-put_dir : {A : Type 0} (read : DirCells → A) (cells : Cells) (d : ℕ) (x : DirCells) (e : ℕ) → read (dir_of (put_dir cells d x) e) ≡ cond (e == d) (read x) (read (dir_of cells e))
read-put_dir read cells d x e = ap read (dir_of-put_dir cells d x e) ∙ elim (e == d) as (λ b. read (cond b x (dir_of cells e)) ≡ cond b (read x) (read (dir_of cells e))) [ true ↦ refl | false ↦ refl ]

-- and what is not changed by it
pub read-kept : {A : Type 0} (read : DirCells → A) (cells : Cells) (d : ℕ) (x : DirCells) (e : ℕ) → read x ≡ read (dir_of cells d) → read (dir_of (put_dir cells d x) e) ≡ read (dir_of cells e)
read-kept read cells d x e same = read-put_dir read cells d x e ∙ by_dir (e == d) refl
  where
    by_dir : (b : Bool) → (e == d) ≡ b → cond b (read x) (read (dir_of cells e)) ≡ read (dir_of cells e)
    by_dir true is = same ∙ ap (λ i. read (dir_of cells i)) (sym (eqb-true e d is))
    by_dir false is = refl

-- to set an entry sets that entry
pub entry-put_entry : (cells : Cells) (d : ℕ) (name : List ℕ) (to : Option Node) (e : ℕ) (other : List ℕ)
    → entry_of (put_entry cells d name to) e other ≡ with_entry (entry_of cells) d name to e other
entry-put_entry cells d name to e other = read-put_dir (λ x. dir_entry x other) cells d (put_dir_entry (dir_of cells d) name to) e ∙ by_dir (e == d) refl
  where
    by_dir : (b : Bool) → (e == d) ≡ b → cond b (dir_entry (put_dir_entry (dir_of cells d) name to) other) (entry_of cells e other) ≡ cond (b && pointwise nat_eq other name) to (entry_of cells e other)
    by_dir true is = dir_entry-put (dir_of cells d) name to other ∙ ap (λ i. cond (pointwise nat_eq other name) to (entry_of cells i other)) (sym (eqb-true e d is))
    by_dir false is = refl

-- and no parent
pub parent-put_entry : (cells : Cells) (d : ℕ) (name : List ℕ) (to : Option Node) (e : ℕ) → parent_of (put_entry cells d name to) e ≡ parent_of cells e
parent-put_entry cells d name to e = read-kept (λ x. x.parent) cells d (put_dir_entry (dir_of cells d) name to) e refl

-- to set a parent sets no entry
pub entry-put_parent : (cells : Cells) (d : ℕ) (p : Option ℕ) (e : ℕ) (other : List ℕ) → entry_of (put_parent cells d p) e other ≡ entry_of cells e other
entry-put_parent cells d p e other = read-kept (λ x. dir_entry x other) cells d (put_dir_parent (dir_of cells d) p) e refl

-- but that parent
pub parent-put_parent : (cells : Cells) (d : ℕ) (p : Option ℕ) (e : ℕ) → parent_of (put_parent cells d p) e ≡ with_parent (parent_of cells) d p e
parent-put_parent cells d p e = read-put_dir (λ x. x.parent) cells d (put_dir_parent (dir_of cells d) p) e

-- and no attributes
pub dir_attributes-put_parent : (cells : Cells) (d : ℕ) (p : Option ℕ) (e : ℕ) → dir_attributes_of (put_parent cells d p) e ≡ dir_attributes_of cells e
dir_attributes-put_parent cells d p e = read-kept (λ x. x.attributes) cells d (put_dir_parent (dir_of cells d) p) e refl

-- nor does an entry that is set
pub dir_attributes-put_entry : (cells : Cells) (d : ℕ) (name : List ℕ) (to : Option Node) (e : ℕ) → dir_attributes_of (put_entry cells d name to) e ≡ dir_attributes_of cells e
dir_attributes-put_entry cells d name to e = read-kept (λ x. x.attributes) cells d (put_dir_entry (dir_of cells d) name to) e refl

-- to set the attributes of a directory sets no entry
pub entry-put_dir_attributes : (cells : Cells) (d : ℕ) (to : Option Attributes) (e : ℕ) (other : List ℕ) → entry_of (put_dir_attributes cells d to) e other ≡ entry_of cells e other
entry-put_dir_attributes cells d to e other = read-kept (λ x. dir_entry x other) cells d (put_kept_of_dir (dir_of cells d) to) e refl

-- and no parent
pub parent-put_dir_attributes : (cells : Cells) (d : ℕ) (to : Option Attributes) (e : ℕ) → parent_of (put_dir_attributes cells d to) e ≡ parent_of cells e
parent-put_dir_attributes cells d to e = read-kept (λ x. x.parent) cells d (put_kept_of_dir (dir_of cells d) to) e refl

-- but those attributes
pub dir_attributes-put_dir_attributes : (cells : Cells) (d : ℕ) (to : Option Attributes) (e : ℕ) → dir_attributes_of (put_dir_attributes cells d to) e ≡ with_value (dir_attributes_of cells) d to e
dir_attributes-put_dir_attributes cells d to e = read-put_dir (λ x. x.attributes) cells d (put_kept_of_dir (dir_of cells d) to) e

-- the files after one was set
file_of-put_file : (cells : Cells) (i : ℕ) (x : FileCells) (j : ℕ) → file_of (put_file cells i x) j ≡ cond (j == i) x (file_of cells j)
file_of-put_file cells i x j =
    ap (λ o. unwrap_or o no_file) (get-insert nat_cmp_total cells.files i x j) ∙ unwrapped (eq_by_cmp nat_cmp j i) x (get cells.files j) no_file
    ∙ ap (λ b. cond b x (file_of cells j)) (unsigned_tied j i)

-- what is read of a file after one was set
read-put_file : {A : Type 0} (read : FileCells → A) (cells : Cells) (i : ℕ) (x : FileCells) (j : ℕ) → read (file_of (put_file cells i x) j) ≡ cond (j == i) (read x) (read (file_of cells j))
read-put_file read cells i x j = ap read (file_of-put_file cells i x j) ∙ elim (j == i) as (λ b. read (cond b x (file_of cells j)) ≡ cond b (read x) (read (file_of cells j))) [ true ↦ refl | false ↦ refl ]

-- and what is not changed by it
read-kept_file : {A : Type 0} (read : FileCells → A) (cells : Cells) (i : ℕ) (x : FileCells) (j : ℕ) → read x ≡ read (file_of cells i) → read (file_of (put_file cells i x) j) ≡ read (file_of cells j)
read-kept_file read cells i x j same = read-put_file read cells i x j ∙ by_file (j == i) refl
  where
    by_file : (b : Bool) → (j == i) ≡ b → cond b (read x) (read (file_of cells j)) ≡ read (file_of cells j)
    by_file true is = same ∙ ap (λ n. read (file_of cells n)) (sym (eqb-true j i is))
    by_file false is = refl

-- to set the links of a file sets those links
pub links-put_links : (cells : Cells) (i links j : ℕ) → links_of (put_links cells i links) j ≡ with_value (links_of cells) i links j
links-put_links cells i links j = read-put_file (λ x. x.links) cells i (record { links = links; attributes = file_attributes_of cells i; contents = contents_of cells i }) j

-- and no contents
pub contents-put_links : (cells : Cells) (i links j : ℕ) → contents_of (put_links cells i links) j ≡ contents_of cells j
contents-put_links cells i links j = read-kept_file (λ x. x.contents) cells i (record { links = links; attributes = file_attributes_of cells i; contents = contents_of cells i }) j refl

-- and no attributes
pub file_attributes-put_links : (cells : Cells) (i links j : ℕ) → file_attributes_of (put_links cells i links) j ≡ file_attributes_of cells j
file_attributes-put_links cells i links j = read-kept_file (λ x. x.attributes) cells i (record { links = links; attributes = file_attributes_of cells i; contents = contents_of cells i }) j refl

-- to set the contents of a file sets no links
pub links-put_contents : (cells : Cells) (i : ℕ) (contents : Contents) (j : ℕ) → links_of (put_contents cells i contents) j ≡ links_of cells j
links-put_contents cells i contents j = read-kept_file (λ x. x.links) cells i (record { links = links_of cells i; attributes = file_attributes_of cells i; contents = contents }) j refl

-- and no attributes
pub file_attributes-put_contents : (cells : Cells) (i : ℕ) (contents : Contents) (j : ℕ) → file_attributes_of (put_contents cells i contents) j ≡ file_attributes_of cells j
file_attributes-put_contents cells i contents j = read-kept_file (λ x. x.attributes) cells i (record { links = links_of cells i; attributes = file_attributes_of cells i; contents = contents }) j refl

-- but those contents
pub contents-put_contents : (cells : Cells) (i : ℕ) (contents : Contents) (j : ℕ) → contents_of (put_contents cells i contents) j ≡ with_value (contents_of cells) i contents j
contents-put_contents cells i contents j = read-put_file (λ x. x.contents) cells i (record { links = links_of cells i; attributes = file_attributes_of cells i; contents = contents }) j

-- to set the attributes of a file sets no links
pub links-put_file_attributes : (cells : Cells) (i : ℕ) (to : Option Attributes) (j : ℕ) → links_of (put_file_attributes cells i to) j ≡ links_of cells j
links-put_file_attributes cells i to j = read-kept_file (λ x. x.links) cells i (record { links = links_of cells i; attributes = to; contents = contents_of cells i }) j refl

-- and no contents
pub contents-put_file_attributes : (cells : Cells) (i : ℕ) (to : Option Attributes) (j : ℕ) → contents_of (put_file_attributes cells i to) j ≡ contents_of cells j
contents-put_file_attributes cells i to j = read-kept_file (λ x. x.contents) cells i (record { links = links_of cells i; attributes = to; contents = contents_of cells i }) j refl

-- but those attributes
pub file_attributes-put_file_attributes : (cells : Cells) (i : ℕ) (to : Option Attributes) (j : ℕ) → file_attributes_of (put_file_attributes cells i to) j ≡ with_value (file_attributes_of cells) i to j
file_attributes-put_file_attributes cells i to j = read-put_file (λ x. x.attributes) cells i (record { links = links_of cells i; attributes = to; contents = contents_of cells i }) j

-- to set a description sets that description
pub open-put_open : (cells : Cells) (f : ℕ) (to : Option OpenFile) (g : ℕ) → open_of (put_open cells f to) g ≡ with_value (open_of cells) f to g
open-put_open cells f to g =
    ap option_flatten (get-insert nat_cmp_total cells.opens f to g) ∙ flattened (eq_by_cmp nat_cmp g f) to (get cells.opens g)
    ∙ ap (λ b. cond b to (open_of cells g)) (unsigned_tied g f)

-- The values after a list of writes.

abbrev pub entry_set : (ℕ → List ℕ → Option Node) → (c : Cell) → Holds c → ℕ → List ℕ → Option Node
entry_set entry (Entry other) to = with_entry entry other.dir other.name to
entry_set entry (Names d) to = entry
entry_set entry (Parent d) to = entry
entry_set entry (Links i) to = entry
entry_set entry (Bytes i) to = entry
entry_set entry (Fd f) to = entry
entry_set entry (DirAttributes d) to = entry
entry_set entry (FileAttributes i) to = entry

abbrev pub entry_after : (ℕ → List ℕ → Option Node) → List Write → ℕ → List ℕ → Option Node
entry_after entry [] = entry
entry_after entry (w ∷ ws) = entry_after (entry_set entry w.cell w.value) ws

abbrev pub parent_set : (ℕ → Option ℕ) → (c : Cell) → Holds c → ℕ → Option ℕ
parent_set parent (Entry entry) to = parent
parent_set parent (Names d) to = parent
parent_set parent (Parent d) to = with_parent parent d to
parent_set parent (Links i) to = parent
parent_set parent (Bytes i) to = parent
parent_set parent (Fd f) to = parent
parent_set parent (DirAttributes d) to = parent
parent_set parent (FileAttributes i) to = parent

abbrev pub parent_after : (ℕ → Option ℕ) → List Write → ℕ → Option ℕ
parent_after parent [] = parent
parent_after parent (w ∷ ws) = parent_after (parent_set parent w.cell w.value) ws

abbrev pub links_set : (ℕ → ℕ) → (c : Cell) → Holds c → ℕ → ℕ
links_set links (Entry entry) to = links
links_set links (Names d) to = links
links_set links (Parent d) to = links
links_set links (Links i) to = with_value links i to
links_set links (Bytes i) to = links
links_set links (Fd f) to = links
links_set links (DirAttributes d) to = links
links_set links (FileAttributes i) to = links

abbrev pub links_after : (ℕ → ℕ) → List Write → ℕ → ℕ
links_after links [] = links
links_after links (w ∷ ws) = links_after (links_set links w.cell w.value) ws

abbrev pub contents_set : (ℕ → Contents) → (c : Cell) → Holds c → ℕ → Contents
contents_set contents (Entry entry) to = contents
contents_set contents (Names d) to = contents
contents_set contents (Parent d) to = contents
contents_set contents (Links i) to = contents
contents_set contents (Bytes i) to = with_value contents i to
contents_set contents (Fd f) to = contents
contents_set contents (DirAttributes d) to = contents
contents_set contents (FileAttributes i) to = contents

abbrev pub contents_after : (ℕ → Contents) → List Write → ℕ → Contents
contents_after contents [] = contents
contents_after contents (w ∷ ws) = contents_after (contents_set contents w.cell w.value) ws

abbrev pub dir_attributes_set : (ℕ → Option Attributes) → (c : Cell) → Holds c → ℕ → Option Attributes
dir_attributes_set attributes (Entry entry) to = attributes
dir_attributes_set attributes (Names d) to = attributes
dir_attributes_set attributes (Parent d) to = attributes
dir_attributes_set attributes (Links i) to = attributes
dir_attributes_set attributes (Bytes i) to = attributes
dir_attributes_set attributes (Fd f) to = attributes
dir_attributes_set attributes (DirAttributes d) to = with_value attributes d to
dir_attributes_set attributes (FileAttributes i) to = attributes

abbrev pub dir_attributes_after : (ℕ → Option Attributes) → List Write → ℕ → Option Attributes
dir_attributes_after attributes [] = attributes
dir_attributes_after attributes (w ∷ ws) = dir_attributes_after (dir_attributes_set attributes w.cell w.value) ws

abbrev pub file_attributes_set : (ℕ → Option Attributes) → (c : Cell) → Holds c → ℕ → Option Attributes
file_attributes_set attributes (Entry entry) to = attributes
file_attributes_set attributes (Names d) to = attributes
file_attributes_set attributes (Parent d) to = attributes
file_attributes_set attributes (Links i) to = attributes
file_attributes_set attributes (Bytes i) to = attributes
file_attributes_set attributes (Fd f) to = attributes
file_attributes_set attributes (DirAttributes d) to = attributes
file_attributes_set attributes (FileAttributes i) to = with_value attributes i to

abbrev pub file_attributes_after : (ℕ → Option Attributes) → List Write → ℕ → Option Attributes
file_attributes_after attributes [] = attributes
file_attributes_after attributes (w ∷ ws) = file_attributes_after (file_attributes_set attributes w.cell w.value) ws

abbrev pub open_set : (ℕ → Option OpenFile) → (c : Cell) → Holds c → ℕ → Option OpenFile
open_set opens (Entry entry) to = opens
open_set opens (Names d) to = opens
open_set opens (Parent d) to = opens
open_set opens (Links i) to = opens
open_set opens (Bytes i) to = opens
open_set opens (Fd f) to = with_value opens f to
open_set opens (DirAttributes d) to = opens
open_set opens (FileAttributes i) to = opens

abbrev pub open_after : (ℕ → Option OpenFile) → List Write → ℕ → Option OpenFile
open_after opens [] = opens
open_after opens (w ∷ ws) = open_after (open_set opens w.cell w.value) ws

entry-set_cell : (cells : Cells) (c : Cell) (to : Holds c) → entry_of (set_cell cells c to) ≡ entry_set (entry_of cells) c to
entry-set_cell cells (Entry entry) to = λ i e other. entry-put_entry cells entry.dir entry.name to e other i
entry-set_cell cells (Names d) to = refl
entry-set_cell cells (Parent d) to = λ i e other. entry-put_parent cells d to e other i
entry-set_cell cells (Links i) to = refl
entry-set_cell cells (Bytes i) to = refl
entry-set_cell cells (Fd f) to = refl
entry-set_cell cells (DirAttributes d) to = λ i e other. entry-put_dir_attributes cells d to e other i
entry-set_cell cells (FileAttributes i) to = refl

pub entry-put_all : (ws : List Write) (cells : Cells) → entry_of (put_all cells ws) ≡ entry_after (entry_of cells) ws
entry-put_all [] cells = refl
entry-put_all (w ∷ ws) cells = entry-put_all ws (set_cell cells w.cell w.value) ∙ ap (λ f. entry_after f ws) (entry-set_cell cells w.cell w.value)

pub parent-set_cell : (cells : Cells) (c : Cell) (to : Holds c) → parent_of (set_cell cells c to) ≡ parent_set (parent_of cells) c to
parent-set_cell cells (Entry entry) to = λ i e. parent-put_entry cells entry.dir entry.name to e i
parent-set_cell cells (Names d) to = refl
parent-set_cell cells (Parent d) to = λ i e. parent-put_parent cells d to e i
parent-set_cell cells (Links i) to = refl
parent-set_cell cells (Bytes i) to = refl
parent-set_cell cells (Fd f) to = refl
parent-set_cell cells (DirAttributes d) to = λ i e. parent-put_dir_attributes cells d to e i
parent-set_cell cells (FileAttributes i) to = refl

pub parent-put_all : (ws : List Write) (cells : Cells) → parent_of (put_all cells ws) ≡ parent_after (parent_of cells) ws
parent-put_all [] cells = refl
parent-put_all (w ∷ ws) cells = parent-put_all ws (set_cell cells w.cell w.value) ∙ ap (λ f. parent_after f ws) (parent-set_cell cells w.cell w.value)

links-set_cell : (cells : Cells) (c : Cell) (to : Holds c) → links_of (set_cell cells c to) ≡ links_set (links_of cells) c to
links-set_cell cells (Entry entry) to = refl
links-set_cell cells (Names d) to = refl
links-set_cell cells (Parent d) to = refl
links-set_cell cells (Links i) to = λ n j. links-put_links cells i to j n
links-set_cell cells (Bytes i) to = λ n j. links-put_contents cells i to j n
links-set_cell cells (Fd f) to = refl
links-set_cell cells (DirAttributes d) to = refl
links-set_cell cells (FileAttributes i) to = λ n j. links-put_file_attributes cells i to j n

pub links-put_all : (ws : List Write) (cells : Cells) → links_of (put_all cells ws) ≡ links_after (links_of cells) ws
links-put_all [] cells = refl
links-put_all (w ∷ ws) cells = links-put_all ws (set_cell cells w.cell w.value) ∙ ap (λ f. links_after f ws) (links-set_cell cells w.cell w.value)

contents-set_cell : (cells : Cells) (c : Cell) (to : Holds c) → contents_of (set_cell cells c to) ≡ contents_set (contents_of cells) c to
contents-set_cell cells (Entry entry) to = refl
contents-set_cell cells (Names d) to = refl
contents-set_cell cells (Parent d) to = refl
contents-set_cell cells (Links i) to = λ n j. contents-put_links cells i to j n
contents-set_cell cells (Bytes i) to = λ n j. contents-put_contents cells i to j n
contents-set_cell cells (Fd f) to = refl
contents-set_cell cells (DirAttributes d) to = refl
contents-set_cell cells (FileAttributes i) to = λ n j. contents-put_file_attributes cells i to j n

pub contents-put_all : (ws : List Write) (cells : Cells) → contents_of (put_all cells ws) ≡ contents_after (contents_of cells) ws
contents-put_all [] cells = refl
contents-put_all (w ∷ ws) cells = contents-put_all ws (set_cell cells w.cell w.value) ∙ ap (λ f. contents_after f ws) (contents-set_cell cells w.cell w.value)

pub dir_attributes-set_cell : (cells : Cells) (c : Cell) (to : Holds c) → dir_attributes_of (set_cell cells c to) ≡ dir_attributes_set (dir_attributes_of cells) c to
dir_attributes-set_cell cells (Entry entry) to = λ i e. dir_attributes-put_entry cells entry.dir entry.name to e i
dir_attributes-set_cell cells (Names d) to = refl
dir_attributes-set_cell cells (Parent d) to = λ i e. dir_attributes-put_parent cells d to e i
dir_attributes-set_cell cells (Links i) to = refl
dir_attributes-set_cell cells (Bytes i) to = refl
dir_attributes-set_cell cells (Fd f) to = refl
dir_attributes-set_cell cells (DirAttributes d) to = λ i e. dir_attributes-put_dir_attributes cells d to e i
dir_attributes-set_cell cells (FileAttributes i) to = refl

pub dir_attributes-put_all : (ws : List Write) (cells : Cells) → dir_attributes_of (put_all cells ws) ≡ dir_attributes_after (dir_attributes_of cells) ws
dir_attributes-put_all [] cells = refl
dir_attributes-put_all (w ∷ ws) cells = dir_attributes-put_all ws (set_cell cells w.cell w.value) ∙ ap (λ f. dir_attributes_after f ws) (dir_attributes-set_cell cells w.cell w.value)

file_attributes-set_cell : (cells : Cells) (c : Cell) (to : Holds c) → file_attributes_of (set_cell cells c to) ≡ file_attributes_set (file_attributes_of cells) c to
file_attributes-set_cell cells (Entry entry) to = refl
file_attributes-set_cell cells (Names d) to = refl
file_attributes-set_cell cells (Parent d) to = refl
file_attributes-set_cell cells (Links i) to = λ n j. file_attributes-put_links cells i to j n
file_attributes-set_cell cells (Bytes i) to = λ n j. file_attributes-put_contents cells i to j n
file_attributes-set_cell cells (Fd f) to = refl
file_attributes-set_cell cells (DirAttributes d) to = refl
file_attributes-set_cell cells (FileAttributes i) to = λ n j. file_attributes-put_file_attributes cells i to j n

pub file_attributes-put_all : (ws : List Write) (cells : Cells) → file_attributes_of (put_all cells ws) ≡ file_attributes_after (file_attributes_of cells) ws
file_attributes-put_all [] cells = refl
file_attributes-put_all (w ∷ ws) cells = file_attributes-put_all ws (set_cell cells w.cell w.value) ∙ ap (λ f. file_attributes_after f ws) (file_attributes-set_cell cells w.cell w.value)

open-set_cell : (cells : Cells) (c : Cell) (to : Holds c) → open_of (set_cell cells c to) ≡ open_set (open_of cells) c to
open-set_cell cells (Entry entry) to = refl
open-set_cell cells (Names d) to = refl
open-set_cell cells (Parent d) to = refl
open-set_cell cells (Links i) to = refl
open-set_cell cells (Bytes i) to = refl
open-set_cell cells (Fd f) to = λ i g. open-put_open cells f to g i
open-set_cell cells (DirAttributes d) to = refl
open-set_cell cells (FileAttributes i) to = refl

pub open-put_all : (ws : List Write) (cells : Cells) → open_of (put_all cells ws) ≡ open_after (open_of cells) ws
open-put_all [] cells = refl
open-put_all (w ∷ ws) cells = open-put_all ws (set_cell cells w.cell w.value) ∙ ap (λ f. open_after f ws) (open-set_cell cells w.cell w.value)

-- What the tree allows stays.

pub limits-set : (cells : Cells) (c : Cell) (to : Holds c) → (set_cell cells c to).limits ≡ cells.limits
limits-set cells (Entry entry) to = refl
limits-set cells (Names d) to = refl
limits-set cells (Parent d) to = refl
limits-set cells (Links i) to = refl
limits-set cells (Bytes i) to = refl
limits-set cells (Fd f) to = refl
limits-set cells (DirAttributes d) to = refl
limits-set cells (FileAttributes i) to = refl

pub limits-put_all : (ws : List Write) (cells : Cells) → (put_all cells ws).limits ≡ cells.limits
limits-put_all [] cells = refl
limits-put_all (w ∷ ws) cells = limits-put_all ws (set_cell cells w.cell w.value) ∙ limits-set cells w.cell w.value
