-- What a write leaves in each cell.
use Rattle.std.proofs.Common.{◌≡◌, ◌≢◌, ℕ, true, false, cond, List, ap₂, nat_eq, eqb-true, eq-eqb, ne_eqb, refl, sym, ap, subst, ◌∙◌}
use Rattle.std.specs.Prelude.{◌==◌}
use Rattle.std.proofs.lemmas.Bool.{false≢true, and_parts, and_from, false_from_ne_true}
use Rattle.std.specs.Cmp.Lexicographic.{pointwise, bytes_decides}
use Rattle.ft_cells.specs.Entries.{entry_at}
use Rattle.ft_cells.specs.declared.cell.Cell.{Cell}
use Rattle.ft_cells.specs.declared.cell.Cell.TheVariants.{Entry, Names, Parent, Links, Bytes, Fd, DirAttributes, FileAttributes}
use Rattle.ft_cells.specs.CellOrder.{same_cell, same_cell-refl}
use Rattle.ft_cells.specs.Cells.{Cells, entry_of, parent_of, dir_attributes_of, links_of, file_attributes_of, contents_of, open_of}
use Rattle.ft_tree.specs.Held.{Holds, held, set_cell}
use Rattle.ft_posix.specs.Outcomes.{Write}
use Rattle.ft_posix.specs.Accesses.{written_cell}
use Rattle.ft_posix.specs.Stored.{put}
use Rattle.ft_posix.proofs.Puts.{is_place, with_value, entry-put_entry, parent-put_entry, dir_attributes-put_entry, entry-put_parent, parent-put_parent, dir_attributes-put_parent, entry-put_dir_attributes, parent-put_dir_attributes, dir_attributes-put_dir_attributes, links-put_links, file_attributes-put_links, contents-put_links, links-put_file_attributes, file_attributes-put_file_attributes, contents-put_file_attributes, links-put_contents, file_attributes-put_contents, contents-put_contents, open-put_open}

-- cells that the test tells apart are different
pub other_cell : (x y : Cell) → same_cell x y ≡ false → x ≢ y
other_cell x y h is = false≢true (sym h ∙ subst (λ z. same_cell x z ≡ true) is (same_cell-refl x))

place-same : (d : ℕ) (name : List ℕ) → is_place d name d name ≡ true
place-same d name = and_from (d == d) (pointwise nat_eq name name) (eq-eqb d d refl) ((bytes_decides name name).1 refl)

pub place-other : (d : ℕ) (name : List ℕ) (e : ℕ) (other : List ℕ) → same_cell (Entry (entry_at d name)) (Entry (entry_at e other)) ≡ false → is_place d name e other ≡ false
place-other d name e other h =
    false_from_ne_true (is_place d name e other)
    (λ is. let parts = and_parts (e == d) (pointwise nat_eq other name) is in
    other_cell (Entry (entry_at d name)) (Entry (entry_at e other)) h (ap₂ (λ n m. Entry (entry_at n m)) (sym (eqb-true e d parts.0)) (sym ((bytes_decides other name).0 parts.1))))

-- a value that is set is there, and no other
pub value-same : {A : Type 0} (f : ℕ → A) (i : ℕ) (x : A) → with_value f i x i ≡ x
value-same f i x = ap (λ b. cond b x (f i)) (eq-eqb i i refl)

value-other : {A : Type 0} (f : ℕ → A) (i : ℕ) (x : A) (j : ℕ) → j ≢ i → with_value f i x j ≡ f j
value-other f i x j other = ap (λ b. cond b x (f j)) (ne_eqb j i other)

-- to set a cell sets it
pub cell_written : (s : Cells) (x : Cell) (v : Holds x) → held (set_cell s x v) x ≡ v
cell_written s (Entry entry) v = entry-put_entry s entry.dir entry.name v entry.dir entry.name ∙ ap (λ b. cond b v (entry_of s entry.dir entry.name)) (place-same entry.dir entry.name)
cell_written s (Names d) v = refl
cell_written s (Parent d) v = parent-put_parent s d v d ∙ value-same (parent_of s) d v
cell_written s (Links i) v = links-put_links s i v i ∙ value-same (links_of s) i v
cell_written s (Bytes i) v = contents-put_contents s i v i ∙ value-same (contents_of s) i v
cell_written s (Fd f) v = open-put_open s f v f ∙ value-same (open_of s) f v
cell_written s (DirAttributes d) v = dir_attributes-put_dir_attributes s d v d ∙ value-same (dir_attributes_of s) d v
cell_written s (FileAttributes i) v = file_attributes-put_file_attributes s i v i ∙ value-same (file_attributes_of s) i v

-- and no other
pub cell_kept : (s : Cells) (x : Cell) (v : Holds x) (y : Cell) → same_cell x y ≡ false → held (set_cell s x v) y ≡ held s y
cell_kept s (Entry entry) v (Entry other) h = entry-put_entry s entry.dir entry.name v other.dir other.name ∙ ap (λ b. cond b v (entry_of s other.dir other.name)) (place-other entry.dir entry.name other.dir other.name h)
cell_kept s (Entry entry) v (Parent e) h = parent-put_entry s entry.dir entry.name v e
cell_kept s (Entry entry) v (DirAttributes e) h = dir_attributes-put_entry s entry.dir entry.name v e
cell_kept s (Parent d) v (DirAttributes e) h = dir_attributes-put_parent s d v e
cell_kept s (DirAttributes d) v (Entry entry) h = entry-put_dir_attributes s d v entry.dir entry.name
cell_kept s (DirAttributes d) v (Parent e) h = parent-put_dir_attributes s d v e
cell_kept s (DirAttributes d) v (DirAttributes e) h = dir_attributes-put_dir_attributes s d v e ∙ value-other (dir_attributes_of s) d v e (λ is. other_cell (DirAttributes d) (DirAttributes e) h (ap DirAttributes (sym is)))
cell_kept s (Parent d) v (Entry entry) h = entry-put_parent s d v entry.dir entry.name
cell_kept s (Parent d) v (Parent e) h = parent-put_parent s d v e ∙ value-other (parent_of s) d v e (λ is. other_cell (Parent d) (Parent e) h (ap Parent (sym is)))
cell_kept s (Links i) v (Links j) h = links-put_links s i v j ∙ value-other (links_of s) i v j (λ is. other_cell (Links i) (Links j) h (ap Links (sym is)))
cell_kept s (Links i) v (Bytes j) h = contents-put_links s i v j
cell_kept s (Links i) v (FileAttributes j) h = file_attributes-put_links s i v j
cell_kept s (Bytes i) v (Links j) h = links-put_contents s i v j
cell_kept s (Bytes i) v (Bytes j) h = contents-put_contents s i v j ∙ value-other (contents_of s) i v j (λ is. other_cell (Bytes i) (Bytes j) h (ap Bytes (sym is)))
cell_kept s (Bytes i) v (FileAttributes j) h = file_attributes-put_contents s i v j
cell_kept s (FileAttributes i) v (Links j) h = links-put_file_attributes s i v j
cell_kept s (FileAttributes i) v (Bytes j) h = contents-put_file_attributes s i v j
cell_kept s (FileAttributes i) v (FileAttributes j) h = file_attributes-put_file_attributes s i v j ∙ value-other (file_attributes_of s) i v j (λ is. other_cell (FileAttributes i) (FileAttributes j) h (ap FileAttributes (sym is)))
cell_kept s (Fd f) v (Fd g) h = open-put_open s f v g ∙ value-other (open_of s) f v g (λ is. other_cell (Fd f) (Fd g) h (ap Fd (sym is)))
cell_kept s x v y h = refl

-- the same of a write
pub put-kept : (s : Cells) (w : Write) (c : Cell) → same_cell (written_cell w) c ≡ false → held (put s w) c ≡ held s c
put-kept s w c h = cell_kept s w.cell w.value c h
