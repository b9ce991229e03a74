-- What writes and calls leave of no use.
use Rattle.std.proofs.Common.{◌≡◌, ◌≢◌, ◌⊎◌, inl, inr, ℕ, Bool, true, false, cond, not, ◌&&◌, ◌||◌, ◌==◌, nat_lt, nat_eq, List, [], ◌∷◌, Option, Some, None, is_some, is_none, unwrap_or, eqb-true, eq-eqb, ne_eqb, refl, sym, ap, subst, ◌∙◌}
use Rattle.std.proofs.lemmas.Bool.{false≢true, or_cases, or_left, or_right, and_parts, and_from}
use Rattle.std.proofs.lemmas.Option.{none-some, same_Some}
use Rattle.std.specs.Ordering.{nat_cmp, eq_by_cmp}
use Rattle.std.specs.Cmp.{nat_cmp_total, unsigned_tied}
use Rattle.std.specs.Cmp.Lexicographic.{slice_cmp, pointwise, nat_list_cmp_total, texts_ties}
use Rattle.std.specs.Option.{option_flatten, option_map_or}
use Rattle.std.specs.FinMap.{get, contains_key, len, get-insert, len-insert}
use Rattle.ft_laws.specs.Lists.{Each}
use Rattle.ft_laws.specs.Laws.{Lawful, TouchesFile, LeavesName}
use Rattle.ft_laws.specs.Effects.{Access as PlaceAccess, is_written, touch}
use Rattle.ft_laws.proofs.Tests.{by_test}
use Rattle.ft_cells.specs.Entries.{entry_at}
use Rattle.ft_cells.specs.declared.node.Node.{Node}
use Rattle.ft_cells.specs.declared.cell.Cell.{Cell}
use Rattle.ft_cells.specs.declared.cell.Cell.TheVariants.{Entry, Names, Parent, Links, Bytes, Fd, DirAttributes, FileAttributes}
use Rattle.ft_cells.specs.declared.open_file.OpenFile.{OpenFile}
use Rattle.ft_cells.specs.CellOrder.{same_cell, same_cell-refl, same_cell-is}
use Rattle.ft_cells.specs.Cells.{Cells, DirCells, FileCells, no_dir, no_file, dir_of, links_of, is_there, is_open, has_file, put_dir_entry, put_dir_parent, put_kept_of_dir, put_entry, put_file}
use Rattle.ft_tree.specs.Held.{Holds, held, set_cell}
use Rattle.ft_tree.specs.Sound.{AreSoundCells, IsFree}
use Rattle.ft_tree.specs.Sweep.{is_useless, at_place}
use Rattle.ft_cells.proofs.MapViews.{some_len}
use Rattle.ft_cells.proofs.Splits.{none-left, none-right, not-true}
use Rattle.ft_posix.specs.Outcomes.{Write}
use Rattle.ft_posix.specs.Stored.{put, put_all}
use Rattle.ft_posix.specs.Laws.{SoundnessLaw}
use Rattle.ft_posix.specs.RunLaws.{writes_cell}
use Rattle.ft_posix.specs.Posix.{covers, Stamped, HasSoundValues, file_of, description_names, names_file, does, posix, posix_calls}
use Rattle.ft_posix.specs.Leaving.{accesses_cell, IsOfOpenFile, LeavingLaw, UselessLaw}
use Rattle.ft_posix.proofs.Puts.{is_place, read-put_dir, read-kept}
use Rattle.ft_posix.proofs.Held.{other_cell, place-other, cell_kept}
use Rattle.ft_posix.proofs.Opens.{named-open}
use Rattle.ft_posix.proofs.Lawful.{covers-cases, write-put, writes-noted}
use Rattle.ft_posix.proofs.Nameless.{nameless}

-- The cells of one place.

or_more : (a b c d : Bool) → (a ≡ true → c ≡ true) → (b ≡ true → d ≡ true) → (a || b) ≡ true → (c || d) ≡ true
or_more true b c d f g h = or_left c d (f refl)
or_more false b c d f g h = or_right c d (g h)

or_more_of : (a b c d e f : Bool) → (a ≡ true → d ≡ true) → (b ≡ true → e ≡ true) → (c ≡ true → f ≡ true) → (a || b || c) ≡ true → (d || e || f) ≡ true
or_more_of a b c d e f p q r h = or_more (a || b) c (d || e) f (or_more a b d e p q) r h

-- one of a place's cells is among more, where it is among fewer
pub at_place-more : (p q : Cell → Bool) → ((x : Cell) → p x ≡ true → q x ≡ true) → (c : Cell) → at_place p c ≡ true → at_place q c ≡ true
at_place-more p q more (Entry entry) h = more (Entry entry) h
at_place-more p q more (Names d) h = or_more_of (p (Names d)) (p (Parent d)) (p (DirAttributes d)) (q (Names d)) (q (Parent d)) (q (DirAttributes d)) (more (Names d)) (more (Parent d)) (more (DirAttributes d)) h
at_place-more p q more (Parent d) h = or_more_of (p (Names d)) (p (Parent d)) (p (DirAttributes d)) (q (Names d)) (q (Parent d)) (q (DirAttributes d)) (more (Names d)) (more (Parent d)) (more (DirAttributes d)) h
at_place-more p q more (Links i) h = or_more_of (p (Links i)) (p (Bytes i)) (p (FileAttributes i)) (q (Links i)) (q (Bytes i)) (q (FileAttributes i)) (more (Links i)) (more (Bytes i)) (more (FileAttributes i)) h
at_place-more p q more (Bytes i) h = or_more_of (p (Links i)) (p (Bytes i)) (p (FileAttributes i)) (q (Links i)) (q (Bytes i)) (q (FileAttributes i)) (more (Links i)) (more (Bytes i)) (more (FileAttributes i)) h
at_place-more p q more (Fd f) h = more (Fd f) h
at_place-more p q more (DirAttributes d) h = or_more_of (p (Names d)) (p (Parent d)) (p (DirAttributes d)) (q (Names d)) (q (Parent d)) (q (DirAttributes d)) (more (Names d)) (more (Parent d)) (more (DirAttributes d)) h
at_place-more p q more (FileAttributes i) h = or_more_of (p (Links i)) (p (Bytes i)) (p (FileAttributes i)) (q (Links i)) (q (Bytes i)) (q (FileAttributes i)) (more (Links i)) (more (Bytes i)) (more (FileAttributes i)) h

-- the links, the bytes and the attributes of a file have one place
of-place : (p : Cell → Bool) (x : Cell) (i : ℕ) → file_of x ≡ Some i → p x ≡ true → at_place p (Links i) ≡ true
of-place p (Entry entry) i e h = absurd (none-some i e)
of-place p (Names d) i e h = absurd (none-some i e)
of-place p (Parent d) i e h = absurd (none-some i e)
of-place p (Links k) i e h = or_left (p (Links i) || p (Bytes i)) (p (FileAttributes i)) (or_left (p (Links i)) (p (Bytes i)) (subst (λ n. p (Links n) ≡ true) (same_Some k i e) h))
of-place p (Bytes k) i e h = or_left (p (Links i) || p (Bytes i)) (p (FileAttributes i)) (or_right (p (Links i)) (p (Bytes i)) (subst (λ n. p (Bytes n) ≡ true) (same_Some k i e) h))
of-place p (Fd f) i e h = absurd (none-some i e)
of-place p (DirAttributes d) i e h = absurd (none-some i e)
of-place p (FileAttributes k) i e h = or_right (p (Links i) || p (Bytes i)) (p (FileAttributes i)) (subst (λ n. p (FileAttributes n) ≡ true) (same_Some k i e) h)

at-place : (p : Cell → Bool) (c : Cell) (i : ℕ) → file_of c ≡ Some i → at_place p (Links i) ≡ true → at_place p c ≡ true
at-place p (Entry entry) i e h = absurd (none-some i e)
at-place p (Names d) i e h = absurd (none-some i e)
at-place p (Parent d) i e h = absurd (none-some i e)
at-place p (Links k) i e h = subst (λ n. at_place p (Links n) ≡ true) (sym (same_Some k i e)) h
at-place p (Bytes k) i e h = subst (λ n. at_place p (Links n) ≡ true) (sym (same_Some k i e)) h
at-place p (Fd f) i e h = absurd (none-some i e)
at-place p (DirAttributes d) i e h = absurd (none-some i e)
at-place p (FileAttributes k) i e h = subst (λ n. at_place p (Links n) ≡ true) (sym (same_Some k i e)) h

pub same-place : (p : Cell → Bool) (x c : Cell) (i : ℕ) → file_of x ≡ Some i → file_of c ≡ Some i → p x ≡ true → at_place p c ≡ true
same-place p x c i e f h = at-place p c i f (of-place p x i e h)

-- a file whose place is of no use is not there
pub dead-file : (s : Cells) (c : Cell) (i : ℕ) → file_of c ≡ Some i → is_useless s c ≡ true → has_file s i ≡ false
dead-file s (Entry entry) i e h = absurd (none-some i e)
dead-file s (Names d) i e h = absurd (none-some i e)
dead-file s (Parent d) i e h = absurd (none-some i e)
dead-file s (Links k) i e h = subst (λ n. has_file s n ≡ false) (same_Some k i e) (not-true (has_file s k) (and_parts (contains_key s.files k) (not (has_file s k)) h).1)
dead-file s (Bytes k) i e h = subst (λ n. has_file s n ≡ false) (same_Some k i e) (not-true (has_file s k) (and_parts (contains_key s.files k) (not (has_file s k)) h).1)
dead-file s (Fd f) i e h = absurd (none-some i e)
dead-file s (DirAttributes d) i e h = absurd (none-some i e)
dead-file s (FileAttributes k) i e h = subst (λ n. has_file s n ≡ false) (same_Some k i e) (not-true (has_file s k) (and_parts (contains_key s.files k) (not (has_file s k)) h).1)

-- One cell is set.

chosen : {A : Type 0} (b : Bool) (x : A) (o : Option A) → is_some (cond b (Some x) o) ≡ cond b true (is_some o)
chosen true x o = refl
chosen false x o = refl

-- the place of an entry
entry_place-put : (s : Cells) (d : ℕ) (name : List ℕ) (to : Option Node) (e : ℕ) (other : List ℕ)
    → contains_key (dir_of (put_entry s d name to) e).entries other ≡ cond (is_place d name e other) true (contains_key (dir_of s e).entries other)
entry_place-put s d name to e other = read-put_dir (λ (x : DirCells). contains_key x.entries other) s d (put_dir_entry (dir_of s d) name to) e ∙ by_dir (e == d) refl
  where
    set : (x : DirCells) → contains_key (put_dir_entry x name to).entries other ≡ cond (pointwise nat_eq other name) true (contains_key x.entries other)
    set x =
        ap (λ (o : Option (Option Node)). is_some o) (get-insert nat_list_cmp_total x.entries name to other) ∙ chosen (eq_by_cmp (slice_cmp nat_cmp) other name) to (get x.entries other)
        ∙ ap (λ b. cond b true (contains_key x.entries other)) (sym (texts_ties other name))

    by_dir : (b : Bool) → (e == d) ≡ b → cond b (contains_key (put_dir_entry (dir_of s d) name to).entries other) (contains_key (dir_of s e).entries other) ≡ cond (b && pointwise nat_eq other name) true (contains_key (dir_of s e).entries other)
    by_dir true is = set (dir_of s d) ∙ ap (λ i. cond (pointwise nat_eq other name) true (contains_key (dir_of s i).entries other)) (sym (eqb-true e d is))
    by_dir false is = refl

-- stays where the entry is not set
entry_place-kept : (s : Cells) (c : Cell) (v : Holds c) (e : ℕ) (other : List ℕ) → same_cell c (Entry (entry_at e other)) ≡ false → contains_key (dir_of (set_cell s c v) e).entries other ≡ contains_key (dir_of s e).entries other
entry_place-kept s (Entry entry) v e other apart = entry_place-put s entry.dir entry.name v e other ∙ ap (λ b. cond b true (contains_key (dir_of s e).entries other)) (place-other entry.dir entry.name e other apart)
entry_place-kept s (Names d) v e other apart = refl
entry_place-kept s (Parent d) v e other apart = read-kept (λ (x : DirCells). contains_key x.entries other) s d (put_dir_parent (dir_of s d) v) e refl
entry_place-kept s (Links i) v e other apart = refl
entry_place-kept s (Bytes i) v e other apart = refl
entry_place-kept s (Fd f) v e other apart = refl
entry_place-kept s (DirAttributes d) v e other apart = read-kept (λ (x : DirCells). contains_key x.entries other) s d (put_kept_of_dir (dir_of s d) v) e refl
entry_place-kept s (FileAttributes i) v e other apart = refl

entry-kept : (s : Cells) (c : Cell) (v : Holds c) (e : ℕ) (other : List ℕ) → same_cell c (Entry (entry_at e other)) ≡ false → is_useless (set_cell s c v) (Entry (entry_at e other)) ≡ is_useless s (Entry (entry_at e other))
entry-kept s c v e other apart = λ i. entry_place-kept s c v e other apart i && is_none (cell_kept s c v (Entry (entry_at e other)) apart i)

-- the place of a directory: that of an entry makes it one that is not empty
abbrev useless_dir : ℕ → Option DirCells → Bool
useless_dir d o = is_some o && not (option_map_or (is_there d) o false) && (len (unwrap_or o no_dir).entries == 0)

dir-before : (s : Cells) (c : Cell) (v : Holds c) (d : ℕ) → same_cell c (Parent d) ≡ false → same_cell c (DirAttributes d) ≡ false → is_useless (set_cell s c v) (Parent d) ≡ true → is_useless s (Parent d) ≡ true
dir-before s (Entry entry) v d apart away h =
    let x : DirCells = put_dir_entry (dir_of s entry.dir) entry.name v in
    let set = get-insert nat_cmp_total s.directories entry.dir x d in
    by_test (eq_by_cmp nat_cmp d entry.dir)
    (λ t.
    let at : useless_dir d (Some x) ≡ true = sym (ap (λ (o : Option DirCells). useless_dir d o) (set ∙ ap (λ b. cond b (Some x) (get s.directories d)) t)) ∙ h in
    let places = (dir_of s entry.dir).entries in
    absurd (false≢true (sym (ap (λ n. n == 0) (len-insert nat_list_cmp_total places entry.name v) ∙ some_len nat_list_cmp_total places entry.name (contains_key places entry.name) refl)
    ∙ (and_parts (true && not (is_there d x)) (len x.entries == 0) at).1)))
    (λ f. sym (ap (λ (o : Option DirCells). useless_dir d o) (set ∙ ap (λ b. cond b (Some x) (get s.directories d)) f)) ∙ h)
dir-before s (Names e) v d apart away h = h
dir-before s (Parent e) v d apart away h =
    let x : DirCells = put_dir_parent (dir_of s e) v in
    let other = unsigned_tied d e ∙ ne_eqb d e (λ is. other_cell (Parent e) (Parent d) apart (ap Parent (sym is))) in
    sym (ap (λ (o : Option DirCells). useless_dir d o) (get-insert nat_cmp_total s.directories e x d ∙ ap (λ b. cond b (Some x) (get s.directories d)) other)) ∙ h
dir-before s (Links i) v d apart away h = h
dir-before s (Bytes i) v d apart away h = h
dir-before s (Fd f) v d apart away h = h
dir-before s (DirAttributes e) v d apart away h =
    let x : DirCells = put_kept_of_dir (dir_of s e) v in
    let other = unsigned_tied d e ∙ ne_eqb d e (λ is. other_cell (DirAttributes e) (DirAttributes d) away (ap DirAttributes (sym is))) in
    sym (ap (λ (o : Option DirCells). useless_dir d o) (get-insert nat_cmp_total s.directories e x d ∙ ap (λ b. cond b (Some x) (get s.directories d)) other)) ∙ h
dir-before s (FileAttributes i) v d apart away h = h

dir_place-before : (s : Cells) (c : Cell) (v : Holds c) (d : ℕ) → at_place (same_cell c) (Parent d) ≡ false → is_useless (set_cell s c v) (Parent d) ≡ true → is_useless s (Parent d) ≡ true
dir_place-before s c v d apart h =
    let others = none-left (same_cell c (Names d) || same_cell c (Parent d)) (same_cell c (DirAttributes d)) apart in
    dir-before s c v d (none-right (same_cell c (Names d)) (same_cell c (Parent d)) others) (none-right (same_cell c (Names d) || same_cell c (Parent d)) (same_cell c (DirAttributes d)) apart) h

-- the place of a descriptor
fd-kept : (s : Cells) (c : Cell) (v : Holds c) (f : ℕ) → same_cell c (Fd f) ≡ false → is_useless (set_cell s c v) (Fd f) ≡ is_useless s (Fd f)
fd-kept s (Entry entry) v f apart = refl
fd-kept s (Names d) v f apart = refl
fd-kept s (Parent d) v f apart = refl
fd-kept s (Links i) v f apart = refl
fd-kept s (Bytes i) v f apart = refl
fd-kept s (DirAttributes d) v f apart = refl
fd-kept s (FileAttributes i) v f apart = refl
fd-kept s (Fd g) v f apart =
    let other = unsigned_tied f g ∙ ne_eqb f g (λ is. other_cell (Fd g) (Fd f) apart (ap Fd (sym is))) in
    ap (λ (o : Option (Option OpenFile)). is_some o && is_none (option_flatten o)) (get-insert nat_cmp_total s.opens g v f ∙ ap (λ b. cond b (Some v) (get s.opens f)) other)

-- the place of a file
put-kept : (s : Cells) (j : ℕ) (x : FileCells) (i : ℕ) → i ≢ j → get (put_file s j x).files i ≡ get s.files i
put-kept s j x i ne = get-insert nat_cmp_total s.files j x i ∙ ap (λ b. cond b (Some x) (get s.files i)) (unsigned_tied i j ∙ ne_eqb i j ne)

file-kept : (s : Cells) (c : Cell) (v : Holds c) (i : ℕ) → at_place (same_cell c) (Links i) ≡ false → get (set_cell s c v).files i ≡ get s.files i
file-kept s (Entry entry) v i apart = refl
file-kept s (Names d) v i apart = refl
file-kept s (Parent d) v i apart = refl
file-kept s (Links j) v i apart =
    let own = none-left (same_cell (Links j) (Links i)) (same_cell (Links j) (Bytes i)) (none-left (same_cell (Links j) (Links i) || same_cell (Links j) (Bytes i)) (same_cell (Links j) (FileAttributes i)) apart) in
    put-kept s j _ i (λ is. other_cell (Links j) (Links i) own (ap Links (sym is)))
file-kept s (Bytes j) v i apart =
    let own = none-right (same_cell (Bytes j) (Links i)) (same_cell (Bytes j) (Bytes i)) (none-left (same_cell (Bytes j) (Links i) || same_cell (Bytes j) (Bytes i)) (same_cell (Bytes j) (FileAttributes i)) apart) in
    put-kept s j _ i (λ is. other_cell (Bytes j) (Bytes i) own (ap Bytes (sym is)))
file-kept s (Fd f) v i apart = refl
file-kept s (DirAttributes d) v i apart = refl
file-kept s (FileAttributes j) v i apart =
    let own = none-right (same_cell (FileAttributes j) (Links i) || same_cell (FileAttributes j) (Bytes i)) (same_cell (FileAttributes j) (FileAttributes i)) apart in
    put-kept s j _ i (λ is. other_cell (FileAttributes j) (FileAttributes i) own (ap FileAttributes (sym is)))

-- what is not a file's
one-before : (s : Cells) (c : Cell) (v : Holds c) (q : Cell) → file_of q ≡ None → at_place (same_cell c) q ≡ false → is_useless (set_cell s c v) q ≡ true → is_useless s q ≡ true
one-before s c v (Entry entry) plain apart h = sym (entry-kept s c v entry.dir entry.name apart) ∙ h
one-before s c v (Names d) plain apart h = dir_place-before s c v d apart h
one-before s c v (Parent d) plain apart h = dir_place-before s c v d apart h
one-before s c v (Links i) plain apart h = absurd (none-some i (sym plain))
one-before s c v (Bytes i) plain apart h = absurd (none-some i (sym plain))
one-before s c v (Fd f) plain apart h = sym (fd-kept s c v f apart) ∙ h
one-before s c v (DirAttributes d) plain apart h = dir_place-before s c v d apart h
one-before s c v (FileAttributes i) plain apart h = absurd (none-some i (sym plain))

-- A list of writes.

first-written : (w : Write) (ws : List Write) (q : Cell) → at_place (same_cell w.cell) q ≡ true → at_place (is_written posix (w ∷ ws)) q ≡ true
first-written w ws q h = at_place-more (same_cell w.cell) (is_written posix (w ∷ ws)) (λ x e. or_left (same_cell w.cell x) (is_written posix ws x) e) q h

later-written : (w : Write) (ws : List Write) (q : Cell) → at_place (is_written posix ws) q ≡ true → at_place (is_written posix (w ∷ ws)) q ≡ true
later-written w ws q h = at_place-more (is_written posix ws) (is_written posix (w ∷ ws)) (λ x e. or_right (same_cell w.cell x) (is_written posix ws x) e) q h

all-before : (ws : List Write) (s : Cells) (q : Cell) → file_of q ≡ None → is_useless (put_all s ws) q ≡ true → (is_useless s q ≡ true) ⊎ (at_place (is_written posix ws) q ≡ true)
all-before [] s q plain h = inl h
all-before (w ∷ ws) s q plain h = by_test (at_place (same_cell w.cell) q)
    (λ t. inr (first-written w ws q t))
    (λ f. elim (all-before ws (put s w) q plain h) [
      | inl was ↦ inl (one-before s w.cell w.value q plain f was)
      | inr written ↦ inr (later-written w ws q written)
    ])

pub files-kept : (ws : List Write) (s : Cells) (i : ℕ) → (get (put_all s ws).files i ≡ get s.files i) ⊎ (at_place (is_written posix ws) (Links i) ≡ true)
files-kept [] s i = inl refl
files-kept (w ∷ ws) s i = by_test (at_place (same_cell w.cell) (Links i))
    (λ t. inr (first-written w ws (Links i) t))
    (λ f. elim (files-kept ws (put s w) i) [
      | inl same ↦ inl (same ∙ file-kept s w.cell w.value i f)
      | inr written ↦ inr (later-written w ws (Links i) written)
    ])

-- where the place of a file that is not there is not written, the file was not there, or was open
file-before : (s new : Cells) (c : Cell) (i : ℕ) → file_of c ≡ Some i → get new.files i ≡ get s.files i → is_useless new (Links i) ≡ true → (is_useless s (Links i) ≡ true) ⊎ IsOfOpenFile s c
file-before s new c i belongs same h =
    let parts = and_parts (contains_key new.files i) (not (has_file new i)) h in
    let linked = sym (ap (λ (o : Option FileCells). nat_lt 0 (unwrap_or o no_file).links) same) ∙ none-left (nat_lt 0 (links_of new i)) (is_open new.opens i) (not-true (has_file new i) parts.1) in
    by_test (is_open s.opens i)
    (λ t.
    let d = named-open s i t in
    inr (record { file = i; descriptor = d.0; belongs = belongs; opened = ap (λ o. description_names o i) d.2 ∙ eq-eqb d.1.file i d.3 }))
    (λ f. inl (and_from (contains_key s.files i) (not (has_file s i)) (sym (ap (λ (o : Option FileCells). is_some o) same) ∙ parts.0) (λ j. not (linked j || f j))))

left-file : (s : Cells) (ws : List Write) (c : Cell) (i : ℕ) → file_of c ≡ Some i → is_useless (put_all s ws) (Links i) ≡ true → (is_useless s (Links i) ≡ true) ⊎ ((at_place (is_written posix ws) (Links i) ≡ true) ⊎ IsOfOpenFile s c)
left-file s ws c i belongs h = elim (files-kept ws s i) [
  | inr written ↦ inr (inl written)
  | inl same ↦ elim (file-before s (put_all s ws) c i belongs same h) [
    | inl was ↦ inl was
    | inr shown ↦ inr (inr shown)
  ]
]

left-other : (s : Cells) (ws : List Write) (c : Cell) → file_of c ≡ None → is_useless (put_all s ws) c ≡ true → (is_useless s c ≡ true) ⊎ ((at_place (is_written posix ws) c ≡ true) ⊎ IsOfOpenFile s c)
left-other s ws c plain h = elim (all-before ws s c plain h) [
  | inl was ↦ inl was
  | inr written ↦ inr (inl written)
]

pub leaving : LeavingLaw
leaving s ws (Entry entry) h = left-other s ws (Entry entry) refl h
leaving s ws (Names d) h = left-other s ws (Names d) refl h
leaving s ws (Parent d) h = left-other s ws (Parent d) refl h
leaving s ws (Links i) h = left-file s ws (Links i) i refl h
leaving s ws (Bytes i) h = left-file s ws (Bytes i) i refl h
leaving s ws (Fd f) h = left-other s ws (Fd f) refl h
leaving s ws (DirAttributes d) h = left-other s ws (DirAttributes d) refl h
leaving s ws (FileAttributes i) h = left-file s ws (FileAttributes i) i refl h

-- A call.

-- what is written is noted, where each write is
pub all-noted : (f : List (PlaceAccess Cell)) (ws : List Write) → Each (λ (w : Write). writes_cell f w.cell ≡ true) ws → (x : Cell) → is_written posix ws x ≡ true → writes_cell f x ≡ true
all-noted f [] noted x h = absurd (false≢true h)
all-noted f (w ∷ ws) noted x h = elim (or_cases (same_cell w.cell x) (is_written posix ws x) h) [
  | inl is ↦ subst (λ c. writes_cell f c ≡ true) (same_cell-is w.cell x is) noted.0
  | inr later ↦ all-noted f ws noted.1 x later
]

written-accessed : (f : List (PlaceAccess Cell)) (x : Cell) → writes_cell f x ≡ true → accesses_cell f x ≡ true
written-accessed [] x h = h
written-accessed (a ∷ f) x h = elim (or_cases (same_cell a.place x && a.writes) (writes_cell f x) h) [
  | inl here ↦ or_left (same_cell a.place x) (accesses_cell f x) (and_parts (same_cell a.place x) a.writes here).0
  | inr later ↦ or_right (same_cell a.place x) (accesses_cell f x) (written-accessed f x later)
]

-- a file's cell that is touched is accessed itself
touched-accessed : (f : List (PlaceAccess Cell)) (x : Cell) (i : ℕ) → file_of x ≡ Some i → touch posix f x ≡ true → accesses_cell f x ≡ true
touched-accessed [] x i e h = h
touched-accessed (a ∷ f) x i e h = elim (or_cases (covers a.place x) (touch posix f x) h) [
  | inl here ↦ or_left (same_cell a.place x) (accesses_cell f x) (elim (covers-cases a.place x here) [
    | inl is ↦ subst (λ c. same_cell a.place c ≡ true) is (same_cell-refl a.place)
    | inr of ↦ absurd (none-some i (sym (ap file_of of.3) ∙ e))
  ])
  | inr later ↦ or_right (same_cell a.place x) (accesses_cell f x) (touched-accessed f x i e later)
]

module _ (lawful : Lawful posix_calls) (soundness : SoundnessLaw) where
  -- a file that was open and is not there any more is touched: its name was let go, and is left
  -- nowhere
  closed : (s : Cells) (a : Stamped) → AreSoundCells s → IsFree s a.stamp → (c : Cell) → is_useless (put_all s (does s a).writes) c ≡ true → IsOfOpenFile s c → at_place (accesses_cell (does s a).accesses) c ≡ true
  closed s a sound free c h shown =
      let new : Cells = put_all s (does s a).writes in
      let none : (z : Cell) → names_file z (held new z) shown.file ≡ false = nameless new (soundness s a.stamp a.call sound free) shown.file (dead-file new c shown.file shown.belongs h) in
      let after : posix_calls.act s a ≡ new = write-put (does s a).writes s in
      let values : HasSoundValues s = record { with_places = s; sound = sound; same = record { limits = refl; values = λ x. refl } } in
      goes (λ z. ap (λ t. names_file z (held t z) shown.file) after ∙ none z)
      (lawful.lets_go s a values free (Some (Fd shown.descriptor)) shown.file shown.opened (ap (λ t. names_file (Fd shown.descriptor) (held t (Fd shown.descriptor)) shown.file) after ∙ none (Fd shown.descriptor)))
    where
      goes : ((z : Cell) → names_file z (held (posix_calls.act s a) z) shown.file ≡ false) → TouchesFile posix_calls (does s a).accesses shown.file ⊎ LeavesName posix_calls s a shown.file
          → at_place (accesses_cell (does s a).accesses) c ≡ true
      goes nameless_now (inl (None, is, touched)) = absurd (none-some shown.file is)
      goes nameless_now (inl (Some x, is, touched)) = same-place (accesses_cell (does s a).accesses) x c shown.file is shown.belongs (touched-accessed (does s a).accesses x shown.file is touched)
      goes nameless_now (inr (None, changed, named)) = absurd (false≢true changed)
      goes nameless_now (inr (Some x, changed, named)) = absurd (false≢true (sym (nameless_now x) ∙ named))

  pub useless : UselessLaw
  useless s a sound free c h =
      let ws : List Write = (does s a).writes in
      let now : is_useless (put_all s ws) c ≡ true = subst (λ t. is_useless t c ≡ true) (write-put ws s) h in
      elim (leaving s ws c now) [
        | inl was ↦ inl was
        | inr left ↦ inr (elim left [
          | inl written ↦ at_place-more (is_written posix ws) (accesses_cell (does s a).accesses) (λ x e. written-accessed (does s a).accesses x (all-noted (does s a).accesses ws (writes-noted s a) x e)) c written
          | inr shown ↦ closed s a sound free c now shown
        ])
      ]
