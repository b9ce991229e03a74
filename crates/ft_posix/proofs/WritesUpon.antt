-- Writes of files that are come upon, which take away only names that may go.
use Rattle.std.proofs.Common.{◌≡◌, ◌⊎◌, inl, inr, ℕ, Bool, true, false, cond, List, [], ◌∷◌, Option, Some, None, refl, sym, ap, subst, eqb-true, eq-eqb, ◌∙◌}
use Rattle.std.specs.Prelude.{◌==◌}
use Rattle.std.proofs.lemmas.Bool.{false≢true}
use Rattle.std.proofs.lemmas.Option.{none-some, same_Some}
use Rattle.ft_laws.specs.Lists.{Each, In}
use Rattle.ft_laws.proofs.Lists.{Each-at}
use Rattle.ft_cells.specs.Entries.{entry_at}
use Rattle.ft_cells.specs.declared.cell.Cell.{Cell}
use Rattle.ft_cells.specs.declared.cell.Cell.TheVariants.{Entry, Names, Parent, Links, Bytes, Fd, DirAttributes, FileAttributes}
use Rattle.ft_cells.specs.declared.node.Node.{Node}
use Rattle.ft_cells.specs.declared.node.Form.{Form}
use Rattle.ft_cells.specs.declared.node.Node.TheVariants.{File as FileNode}
use Rattle.ft_cells.specs.declared.open_file.OpenFile.{OpenFile}
use Rattle.ft_cells.specs.declared.attributes.Attributes.{Attributes}
use Rattle.ft_cells.specs.Cells.{Cells, Contents, entry_of, open_of}
use Rattle.ft_posix.specs.Outcomes.{Write, sets}
use Rattle.ft_posix.specs.Descriptors.{at_offset}
use Rattle.ft_posix.specs.Links.{renamed}
use Rattle.ft_posix.specs.Stored.{put, put_all}
use Rattle.ft_posix.specs.Accesses.{written_cell}
use Rattle.ft_tree.specs.Held.{Holds, held, set_cell}
use Rattle.ft_posix.specs.Posix.{file_of, node_names, description_names, names_file}
use Rattle.ft_posix.proofs.Puts.{is_place, with_entry, entry_after, entry-put_entry, entry-put_parent, entry-put_dir_attributes, entry-put_all, open-put_open}
use Rattle.ft_posix.proofs.Made.{same_place, own_place}
use Rattle.ft_posix.proofs.Upon.{Upon, IsLeft}

-- the write sets cell x to what does not name file i
abbrev pub Empties : Cell → ℕ → Write → Type 0
Empties x i w = (written_cell w ≡ x) × (names_file w.cell w.value i ≡ false)

-- an entry that names file i before a cell is set, and not after it, is that cell
entry-lost : (cells : Cells) (c : Cell) (to : Holds c) (e : ℕ) (other : List ℕ) (i : ℕ) → node_names (entry_of cells e other) i ≡ true → node_names (entry_of (set_cell cells c to) e other) i ≡ false
    → Empties (Entry (entry_at e other)) i (sets c to)
entry-lost cells (Entry entry) to e other i was gone = by_place (is_place entry.dir entry.name e other) refl (sym (ap (λ x. node_names x i) (entry-put_entry cells entry.dir entry.name to e other)) ∙ gone)
  where
    by_place : (b : Bool) → is_place entry.dir entry.name e other ≡ b → node_names (cond b to (entry_of cells e other)) i ≡ false → Empties (Entry (entry_at e other)) i (sets (Entry entry) to)
    by_place true is gone =
        let at = same_place entry.dir e entry.name other is in
        let here : Entry (entry_at e other) ≡ Entry entry = λ x. Entry (entry_at (at.0 x) (at.1 x)) in
        (sym here, gone)
    by_place false is gone = absurd (false≢true (sym gone ∙ was))
entry-lost cells (Names d) to e other i was gone = absurd (false≢true (sym gone ∙ was))
entry-lost cells (Parent d) p e other i was gone = absurd (false≢true (sym gone ∙ ap (λ x. node_names x i) (entry-put_parent cells d p e other) ∙ was))
entry-lost cells (Links j) links e other i was gone = absurd (false≢true (sym gone ∙ was))
entry-lost cells (Bytes j) bytes e other i was gone = absurd (false≢true (sym gone ∙ was))
entry-lost cells (Fd f) to e other i was gone = absurd (false≢true (sym gone ∙ was))
entry-lost cells (DirAttributes d) to e other i was gone = absurd (false≢true (sym gone ∙ ap (λ x. node_names x i) (entry-put_dir_attributes cells d to e other) ∙ was))
entry-lost cells (FileAttributes j) to e other i was gone = absurd (false≢true (sym gone ∙ was))

-- and so is a description
open-lost : (cells : Cells) (c : Cell) (to : Holds c) (g i : ℕ) → description_names (open_of cells g) i ≡ true → description_names (open_of (set_cell cells c to) g) i ≡ false → Empties (Fd g) i (sets c to)
open-lost cells (Entry entry) to g i was gone = absurd (false≢true (sym gone ∙ was))
open-lost cells (Names d) to g i was gone = absurd (false≢true (sym gone ∙ was))
open-lost cells (Parent d) p g i was gone = absurd (false≢true (sym gone ∙ was))
open-lost cells (Links j) links g i was gone = absurd (false≢true (sym gone ∙ was))
open-lost cells (Bytes j) bytes g i was gone = absurd (false≢true (sym gone ∙ was))
open-lost cells (DirAttributes d) to g i was gone = absurd (false≢true (sym gone ∙ was))
open-lost cells (FileAttributes j) to g i was gone = absurd (false≢true (sym gone ∙ was))
open-lost cells (Fd f) to g i was gone = by_number (g == f) refl (sym (ap (λ x. description_names x i) (open-put_open cells f to g)) ∙ gone)
  where
    by_number : (b : Bool) → (g == f) ≡ b → description_names (cond b to (open_of cells g)) i ≡ false → Empties (Fd g) i (sets (Fd f) to)
    by_number true is gone = (ap Fd (sym (eqb-true g f is)), gone)
    by_number false is gone = absurd (false≢true (sym gone ∙ was))

-- a cell that names a file before a write, and not after it, is set by it
one-lost : (cells : Cells) (w : Write) (x : Cell) (i : ℕ) → names_file x (held cells x) i ≡ true → names_file x (held (put cells w) x) i ≡ false → Empties x i w
one-lost cells w (Entry entry) i was gone = entry-lost cells w.cell w.value entry.dir entry.name i was gone
one-lost cells w (Names d) i was gone = absurd (false≢true was)
one-lost cells w (Parent d) i was gone = absurd (false≢true was)
one-lost cells w (Links j) i was gone = absurd (false≢true was)
one-lost cells w (Bytes j) i was gone = absurd (false≢true was)
one-lost cells w (DirAttributes d) i was gone = absurd (false≢true was)
one-lost cells w (FileAttributes j) i was gone = absurd (false≢true was)
one-lost cells w (Fd g) i was gone = open-lost cells w.cell w.value g i was gone

-- and one that names it before all writes, and not after them, is set by one of them
all-lost : (ws : List Write) (cells : Cells) (x : Cell) (i : ℕ) → names_file x (held cells x) i ≡ true → names_file x (held (put_all cells ws) x) i ≡ false → (w : Write) × In w ws × Empties x i w
all-lost [] cells x i was gone = absurd (false≢true (sym gone ∙ was))
all-lost (w ∷ ws) cells x i was gone = by_first (names_file x (held (put cells w) x) i) refl (λ still. all-lost ws (put cells w) x i still gone)
  where
    by_first : (b : Bool) → names_file x (held (put cells w) x) i ≡ b → (names_file x (held (put cells w) x) i ≡ true → (v : Write) × In v ws × Empties x i v) → (v : Write) × In v (w ∷ ws) × Empties x i v
    by_first true is later = let l = later is in (l.0, inr l.1, l.2)
    by_first false is later = (w, inl refl, one-lost cells w x i was is)

-- what holds of file j holds of each that is the same
pub of_same : (P : ℕ → Type 0) (j : ℕ) → P j → (i : ℕ) → (j == i) ≡ true → P i
of_same P j p i same = subst P (eqb-true j i same) p

module _ (cells : Cells) where
  -- entries of different values stand in different places
  pub places_apart : (d : ℕ) (name : List ℕ) (e : ℕ) (other : List ℕ) → (entry_of cells e other ≡ entry_of cells d name → ⊥) → is_place d name e other ≡ false
  places_apart d name e other differ = by_place (is_place d name e other) refl
    where
      by_place : (b : Bool) → is_place d name e other ≡ b → is_place d name e other ≡ false
      by_place false is = is
      by_place true is = let at = same_place d e name other is in absurd (differ (λ x. entry_of cells (at.0 x) (at.1 x)))

  -- a file that is moved is named by its new entry
  pub moved-left : (d : ℕ) (name : List ℕ) (form : Form) (i e : ℕ) (other : List ℕ) (more : List Write) → is_place d name e other ≡ false → ((entry : ℕ → List ℕ → Option Node) → entry_after entry more ≡ entry)
      → IsLeft cells (renamed (entry_at d name) (FileNode form i) (entry_at e other) more).writes i
  moved-left d name form i e other more apart keeps =
      let ws = (renamed (entry_at d name) (FileNode form i) (entry_at e other) more).writes in
      let moved : ℕ → List ℕ → Option Node = with_entry (with_entry (entry_of cells) e other (Some (FileNode form i))) d name None in
      let here : moved e other ≡ Some (FileNode form i) = λ x. cond (apart x) None (cond (own_place e other x) (Some (FileNode form i)) (entry_of cells e other)) in
      (Entry (entry_at e other), inl refl, ap (λ f. node_names (f e other) i) (entry-put_all ws cells ∙ keeps moved) ∙ ap (λ o. node_names o i) here ∙ eq-eqb i i refl)

module _ (cells : Cells) (k : ℕ) (seen : List Cell) where
  -- a name of the file may go: its links are looked at, or the name is left in another cell
  abbrev pub MayGo : List Write → ℕ → Type 0
  MayGo all i = In (Links i) seen ⊎ IsLeft cells all i

  -- one of all writes of a call: the file of its cell is come upon, and so is one that it names,
  -- and one that its cell named before may go
  pub data IsUpon (all : List Write) : Write → Type 0 where
    upon_entry : (d : ℕ) (name : List ℕ) (to : Option Node) → ((i : ℕ) → node_names to i ≡ true → Upon cells k seen i)
        → ((i : ℕ) → node_names (entry_of cells d name) i ≡ true → node_names to i ≡ false → MayGo all i) → IsUpon all (sets (Entry (entry_at d name)) to)
    upon_parent : (d : ℕ) (p : Option ℕ) → IsUpon all (sets (Parent d) p)
    upon_links : (i links : ℕ) → Upon cells k seen i → IsUpon all (sets (Links i) links)
    upon_contents : (i : ℕ) (contents : Contents) → Upon cells k seen i → IsUpon all (sets (Bytes i) contents)
    upon_dir_attributes : (d : ℕ) (to : Option Attributes) → IsUpon all (sets (DirAttributes d) to)
    upon_file_attributes : (i : ℕ) (to : Option Attributes) → Upon cells k seen i → IsUpon all (sets (FileAttributes i) to)
    upon_open : (f : ℕ) (to : Option OpenFile) → ((i : ℕ) → description_names to i ≡ true → Upon cells k seen i)
        → ((i : ℕ) → description_names (open_of cells f) i ≡ true → description_names to i ≡ false → MayGo all i) → IsUpon all (sets (Fd f) to)

  -- so are all of them
  abbrev pub AreUpon : List Write → Type 0
  AreUpon ws = Each (IsUpon ws) ws

  -- the file of the cell
  pub upon-cell : (all : List Write) (w : Write) → IsUpon all w → (i : ℕ) → file_of (written_cell w) ≡ Some i → Upon cells k seen i
  upon-cell all _ (upon_entry d name to names goes) i is = absurd (none-some i is)
  upon-cell all _ (upon_parent d p) i is = absurd (none-some i is)
  upon-cell all _ (upon_links j links upon) i is = subst (Upon cells k seen) (same_Some j i is) upon
  upon-cell all _ (upon_contents j contents upon) i is = subst (Upon cells k seen) (same_Some j i is) upon
  upon-cell all _ (upon_dir_attributes d to) i is = absurd (none-some i is)
  upon-cell all _ (upon_file_attributes j to upon) i is = subst (Upon cells k seen) (same_Some j i is) upon
  upon-cell all _ (upon_open f to names goes) i is = absurd (none-some i is)

  -- the file that is named
  pub upon-name : (all : List Write) (w : Write) → IsUpon all w → (i : ℕ) → names_file w.cell w.value i ≡ true → Upon cells k seen i
  upon-name all _ (upon_entry d name to names goes) i is = names i is
  upon-name all _ (upon_parent d p) i is = absurd (false≢true is)
  upon-name all _ (upon_links j links upon) i is = absurd (false≢true is)
  upon-name all _ (upon_contents j contents upon) i is = absurd (false≢true is)
  upon-name all _ (upon_dir_attributes d to) i is = absurd (false≢true is)
  upon-name all _ (upon_file_attributes j to upon) i is = absurd (false≢true is)
  upon-name all _ (upon_open f to names goes) i is = names i is

  -- a file that was named
  may-go : (all : List Write) (w : Write) → IsUpon all w → (i : ℕ) → names_file (written_cell w) (held cells (written_cell w)) i ≡ true → names_file w.cell w.value i ≡ false → MayGo all i
  may-go all _ (upon_entry d name to names goes) i was gone = goes i was gone
  may-go all _ (upon_parent d p) i was gone = absurd (false≢true was)
  may-go all _ (upon_links j links upon) i was gone = absurd (false≢true was)
  may-go all _ (upon_contents j contents upon) i was gone = absurd (false≢true was)
  may-go all _ (upon_dir_attributes d to) i was gone = absurd (false≢true was)
  may-go all _ (upon_file_attributes j to upon) i was gone = absurd (false≢true was)
  may-go all _ (upon_open f to names goes) i was gone = goes i was gone

  -- so a name that the writes take away may go
  pub upon-lost : (ws : List Write) → AreUpon ws → (x : Cell) (i : ℕ) → names_file x (held cells x) i ≡ true → names_file x (held (put_all cells ws) x) i ≡ false → MayGo ws i
  upon-lost ws each x i was gone =
      let l = all-lost ws cells x i was gone in
      may-go ws l.0 (Each-at (IsUpon ws) ws l.0 each l.1) i (subst (λ c. names_file c (held cells c) i ≡ true) (sym l.2.0) was) l.2.1

  -- an entry that named no file
  pub fills : (all : List Write) (d : ℕ) (name : List ℕ) (x to : Option Node) → entry_of cells d name ≡ x → ((i : ℕ) → node_names x i ≡ false) → ((i : ℕ) → node_names to i ≡ true → Upon cells k seen i)
      → IsUpon all (sets (Entry (entry_at d name)) to)
  fills all d name x to is none names = upon_entry d name to names (λ i was gone. absurd (false≢true (sym (none i) ∙ sym (ap (λ o. node_names o i) is) ∙ was)))

  -- an entry of a file that may go
  pub frees : (all : List Write) (d : ℕ) (name : List ℕ) {kind : Form} (j : ℕ) (to : Option Node) → entry_of cells d name ≡ Some (FileNode kind j) → MayGo all j → ((i : ℕ) → node_names to i ≡ true → Upon cells k seen i)
      → IsUpon all (sets (Entry (entry_at d name)) to)
  frees all d name j to is may names = upon_entry d name to names (λ i was gone. of_same (MayGo all) j may i (sym (ap (λ o. node_names o i) is) ∙ was))

  -- a descriptor that was not open
  pub opens_new : (all : List Write) (f : ℕ) (o : OpenFile) → open_of cells f ≡ None → Upon cells k seen o.file → IsUpon all (sets (Fd f) (Some o))
  opens_new all f o is upon = upon_open f (Some o) (of_same (Upon cells k seen) o.file upon) (λ i was gone. absurd (false≢true (sym (ap (λ x. description_names x i) is) ∙ was)))

  -- one that has its file open still
  pub keeps_open : (all : List Write) (f : ℕ) (o : OpenFile) (offset : ℕ) → open_of cells f ≡ Some o → Upon cells k seen o.file → IsUpon all (sets (Fd f) (Some (at_offset o offset)))
  keeps_open all f o offset is upon =
      upon_open f (Some (at_offset o offset)) (of_same (Upon cells k seen) o.file upon) (λ i was gone. absurd (false≢true (sym gone ∙ sym (ap (λ x. description_names x i) is) ∙ was)))

  -- one of a file that may go
  pub shuts : (all : List Write) (f : ℕ) (o : OpenFile) → open_of cells f ≡ Some o → MayGo all o.file → IsUpon all (sets (Fd f) None)
  shuts all f o is may = upon_open f None (λ i named. absurd (false≢true named)) (λ i was gone. of_same (MayGo all) o.file may i (sym (ap (λ x. description_names x i) is) ∙ was))
