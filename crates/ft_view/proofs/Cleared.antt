-- What is dropped of a view changes nothing of it.
use Rattle.std.proofs.Common.{◌≡◌, ℕ, Bool, true, false, not, ◌&&◌, ◌||◌, List, [], ◌∷◌, map, Option, Some, None, IsSome, unwrap_or, refl, sym, ap, ◌∙◌, subst, length, arith}
use Rattle.std.proofs.lemmas.Bool.{false≢true, and_parts, and_from, or_left, or_right}
use Rattle.std.specs.Prelude.{IfSome}
use Rattle.std.specs.FinMap as finite
use Rattle.std.specs.FinSet as set
use Rattle.std.specs.Ordering.{eq_by_cmp}
use Rattle.ft_cells.specs.declared.cell.Cell.{Cell}
use Rattle.ft_cells.specs.declared.cell.Cell.TheVariants.{Entry, Names, Parent, Links, Bytes, Fd, DirAttributes, FileAttributes}
use Rattle.ft_cells.specs.CellOrder.{cell_cmp, cell_cmp_total, cell_cmp_exact, same_cell, same_cell-is}
use Rattle.ft_cells.specs.Cells.{Cells, DirCells, FileCells, no_dir, no_file, dir_attributes_of, file_attributes_of, contents_of}
use Rattle.ft_cells.proofs.Splits.{none-left, none-right, tied-itself}
use Rattle.ft_tree.specs.Sound.{IsFree}
use Rattle.ft_tree.specs.Sweep.{IsSwept, IsSweptClean, is_useless, is_spare, at_place}
use Rattle.ft_posix.specs.declared.call.Access.{Access}
use Rattle.ft_posix.specs.Leaving.{accesses_cell}
use Rattle.ft_posix.specs.Posix.{as_place}
use Rattle.ft_posix.proofs.Free.{made_free, no_parent, no_dir_attributes, no_links, no_file_attributes, no_contents_yet, no_open, no_entry, no_file as no_description}
use Rattle.ft_view.specs.Cleared.{passed, is_met, DropsMet}

-- the cell is among those to be told
pub passed-has : (c : Cell) → set.contains (passed (Some c)) c ≡ true
passed-has c = set.contains-insert cell_cmp_total set.empty c c ∙ ap (λ b. b || set.contains (set.empty {R = cell_cmp}) c) (tied-itself cell_cmp_total c)

none_left : (tied : Bool) → false ≡ (not tied && (tied || false))
none_left true = refl
none_left false = refl

-- and none is, once it was told
pub passed-told : (c : Cell) → passed None ≡ set.remove (passed (Some c)) c
passed-told c = set.same_set cell_cmp_total cell_cmp_exact (passed None) (set.remove (passed (Some c)) c) (λ q.
    set.contains-empty cell_cmp q ∙ none_left (eq_by_cmp cell_cmp q c)
    ∙ sym (set.contains-remove cell_cmp_total (passed (Some c)) c q ∙ ap (λ b. not (eq_by_cmp cell_cmp q c) && b) (set.contains-insert cell_cmp_total set.empty c q ∙ ap (λ b. eq_by_cmp cell_cmp q c || b) (set.contains-empty cell_cmp q))))

has : (o : Option Cell) → IfSome o (λ cell. set.contains (passed o) cell ≡ true)
has None = tt
has (Some c) = passed-has c

told : (o : Option Cell) → IfSome o (λ cell. passed None ≡ set.remove (passed o) cell)
told None = tt
told (Some c) = passed-told c

-- what is taken out
pub taken-has : (old result : Option Cell) → result ≡ old → IfSome result (λ cell. set.contains (passed old) cell ≡ true)
taken-has old result is = subst (λ (o : Option Cell). IfSome o (λ cell. set.contains (passed old) cell ≡ true)) (sym is) (has old)

pub taken-told : (old result new : Option Cell) → result ≡ old → new ≡ None → IfSome result (λ cell. passed new ≡ set.remove (passed old) cell)
taken-told old result new is gone =
    subst (λ (n : Option Cell). IfSome result (λ cell. passed n ≡ set.remove (passed old) cell)) (sym gone)
    (subst (λ (o : Option Cell). IfSome o (λ cell. passed None ≡ set.remove (passed old) cell)) (sym is) (told old))

-- of what has no place nothing is stored
still-none : {A B : Type 0} (what : A → B) (none : A) (place : Option A) (old : B) → old ≡ what none → (IsSome place → what (unwrap_or place none) ≡ old) → what (unwrap_or place none) ≡ what none
still-none what none None old e same = refl
still-none what none (Some x) old e same = same refl ∙ e

-- a number that is free stays so in a sweep
pub swept-free : (kept : Cell → Bool) (old new : Cells) → IsSwept kept old new → (k : ℕ) → IsFree old k → IsFree new k
swept-free kept old new swept k free = made_free new k free.above_root
    (swept.parents k ∙ no_parent free)
    (still-none (λ (d : DirCells). d.attributes) no_dir (finite.get new.directories k) (dir_attributes_of old k) (no_dir_attributes free) (swept.dir_attributes k))
    (swept.links k ∙ no_links free)
    (still-none (λ (f : FileCells). f.attributes) no_file (finite.get new.files k) (file_attributes_of old k) (no_file_attributes free) (swept.file_attributes k))
    (still-none (λ (f : FileCells). f.contents) no_file (finite.get new.files k) (contents_of old k) (no_contents_yet free) (swept.contents k))
    (swept.opens k ∙ no_open free)
    (λ d name x is. no_entry free d name x (sym (swept.entries d name) ∙ is))
    (λ f o is. no_description free f o (sym (swept.opens f) ∙ is))

-- The cells of a place that were met: one after another.

or_more : (a b c d : Bool) → (a ≡ true → c ≡ true) → (b ≡ true → d ≡ true) → (a || b) ≡ true → (c || d) ≡ true
or_more true b c d f g h = or_left c d (f refl)
or_more false b c d f g h = or_right c d (g h)

or_three : (a b c x y z : Bool) → (a ≡ true → x ≡ true) → (b ≡ true → y ≡ true) → (c ≡ true → z ≡ true) → (a || b || c) ≡ true → (x || y || z) ≡ true
or_three a b c x y z f g h = or_more (a || b) c (x || y) z (or_more a b x y f g) h

rest-dir : (p q r : Cell → Bool) → ((x : Cell) → q x ≡ false → p x ≡ true → r x ≡ true) → (d : ℕ) → at_place q (Names d) ≡ false → at_place p (Names d) ≡ true → at_place r (Names d) ≡ true
rest-dir p q r f d n =
    let first = none-left (q (Names d) || q (Parent d)) (q (DirAttributes d)) n in
    or_three (p (Names d)) (p (Parent d)) (p (DirAttributes d)) (r (Names d)) (r (Parent d)) (r (DirAttributes d))
    (f (Names d) (none-left (q (Names d)) (q (Parent d)) first)) (f (Parent d) (none-right (q (Names d)) (q (Parent d)) first))
    (f (DirAttributes d) (none-right (q (Names d) || q (Parent d)) (q (DirAttributes d)) n))

rest-file : (p q r : Cell → Bool) → ((x : Cell) → q x ≡ false → p x ≡ true → r x ≡ true) → (i : ℕ) → at_place q (Links i) ≡ false → at_place p (Links i) ≡ true → at_place r (Links i) ≡ true
rest-file p q r f i n =
    let first = none-left (q (Links i) || q (Bytes i)) (q (FileAttributes i)) n in
    or_three (p (Links i)) (p (Bytes i)) (p (FileAttributes i)) (r (Links i)) (r (Bytes i)) (r (FileAttributes i))
    (f (Links i) (none-left (q (Links i)) (q (Bytes i)) first)) (f (Bytes i) (none-right (q (Links i)) (q (Bytes i)) first))
    (f (FileAttributes i) (none-right (q (Links i) || q (Bytes i)) (q (FileAttributes i)) n))

rest-at : (p q r : Cell → Bool) → ((x : Cell) → q x ≡ false → p x ≡ true → r x ≡ true) → (c : Cell) → at_place q c ≡ false → at_place p c ≡ true → at_place r c ≡ true
rest-at p q r f (Entry e) n h = f (Entry e) n h
rest-at p q r f (Names d) n h = rest-dir p q r f d n h
rest-at p q r f (Parent d) n h = rest-dir p q r f d n h
rest-at p q r f (Links i) n h = rest-file p q r f i n h
rest-at p q r f (Bytes i) n h = rest-file p q r f i n h
rest-at p q r f (Fd k) n h = f (Fd k) n h
rest-at p q r f (DirAttributes d) n h = rest-dir p q r f d n h
rest-at p q r f (FileAttributes i) n h = rest-file p q r f i n h

one_rest : (a b : Bool) → a ≡ false → (a || b) ≡ true → b ≡ true
one_rest true b f h = absurd (false≢true (sym f))
one_rest false b f h = h

not_same : (a : Bool) → (a ≡ true → ⊥) → a ≡ false
not_same true f = absurd (f refl)
not_same false f = refl

-- a cell that was met, and is not the one that was told, is met later
later : (a : Access) (rest : List Access) (x : Cell) → set.contains (passed (Some a.cell)) x ≡ false → accesses_cell (map as_place (a ∷ rest)) x ≡ true → accesses_cell (map as_place rest) x ≡ true
later a rest x n h = one_rest (same_cell a.cell x) (accesses_cell (map as_place rest) x)
    (not_same (same_cell a.cell x) (λ same. false≢true (sym n ∙ ap (set.contains (passed (Some a.cell))) (sym (same_cell-is a.cell x same)) ∙ passed-has a.cell))) h

none_at : (c : Cell) → at_place (λ _. false) c ≡ false
none_at (Entry e) = refl
none_at (Names d) = refl
none_at (Parent d) = refl
none_at (Links i) = refl
none_at (Bytes i) = refl
none_at (Fd f) = refl
none_at (DirAttributes d) = refl
none_at (FileAttributes i) = refl

spare-of : (cells : Cells) (c : Cell) → is_useless cells c ≡ true → is_spare (λ _. false) cells c ≡ true
spare-of cells c h = and_from (is_useless cells c) (not (at_place (λ _. false) c)) h (ap not (none_at c))

-- What of these is left, when the rest is still to be told.
abbrev pub IsLeft : List Access → List Access → Cells → Cells → Type 0
IsLeft all rest old now = (c : Cell) → is_useless now c ≡ true → (is_useless old c ≡ true) × (is_met all c ≡ true → is_met rest c ≡ true)

pub left-first : (all : List Access) (cells : Cells) → IsLeft all all cells cells
left-first all cells c h = (h, λ m. m)

pub left-next : (all rest : List Access) (a : Access) (old now new : Cells) → IsLeft all (a ∷ rest) old now → IsSweptClean (λ _. false) (set.contains (passed (Some a.cell))) now new → IsLeft all rest old new
left-next all rest a old now new left clean c h =
    let spare = spare-of new c h in
    let was : is_useless now c ≡ true = (and_parts (is_useless now c) (not (at_place (λ _. false) c)) (clean.others c spare)).0 in
    let untold : at_place (set.contains (passed (Some a.cell))) c ≡ false = not_same (at_place (set.contains (passed (Some a.cell))) c) (λ t. false≢true (sym (clean.told c t) ∙ spare)) in
    ((left c was).0, λ m. rest-at (accesses_cell (map as_place (a ∷ rest))) (set.contains (passed (Some a.cell))) (accesses_cell (map as_place rest)) (later a rest) c untold ((left c was).1 m))

-- what has no length has no element
pub no_more : (n : ℕ) (all : List Access) → n ≡ length all → n ≡ 0 → all ≡ []
no_more n [] sized empty = refl
no_more n (a ∷ rest) sized empty = absurd (omega (arith, sized, empty))

pub left-last : (all : List Access) (old now : Cells) → IsLeft all [] old now → DropsMet all old now
left-last all old now left c h = ((left c h).0, not_same (is_met all c) (λ m. false≢true (sym (none_at c) ∙ (left c h).1 m)))
