-- Each place of no use is known to the locks: what keeps it so, and what a sweep makes of it.
use Rattle.std.proofs.Common.{◌≡◌, ◌⊎◌, inl, inr, ℕ, Bool, true, false, cond, not, ◌&&◌, ◌||◌, ◌==◌, List, [], ◌∷◌, Option, Some, None, is_some, is_none, unwrap_or, map, refl, sym, ap, subst, ◌∙◌}
use Rattle.std.proofs.lemmas.Bool.{false≢true, and_parts, and_from, or_cases, or_left, or_right}
use Rattle.std.proofs.lemmas.Option.{none-some}
use Rattle.std.specs.Ordering.{nat_cmp}
use Rattle.std.specs.Cmp.{nat_cmp_total, unsigned_tied}
use Rattle.std.specs.Cmp.Lexicographic.{slice_cmp}
use Rattle.std.specs.Option.{option_flatten, option_map_or}
use Rattle.std.specs.List.{list_any}
use Rattle.std.specs.FinMap as finite
use Rattle.std.specs.FinSet as set
use Rattle.ft_laws.specs.Effects.{is_written}
use Rattle.ft_laws.proofs.Tests.{by_test, by_option}
use Rattle.ft_cells.specs.declared.node.Node.{Node}
use Rattle.ft_cells.specs.declared.cell.Cell.{Cell}
use Rattle.ft_cells.specs.declared.cell.Cell.TheVariants.{Entry, Names, Parent, Links, Bytes, Fd, DirAttributes, FileAttributes}
use Rattle.ft_cells.specs.declared.open_file.OpenFile.{OpenFile}
use Rattle.ft_cells.specs.CellOrder.{same_cell, same_cell-refl, same_cell-is}
use Rattle.ft_cells.specs.declared.limits.TreeLimits.{TreeLimits}
use Rattle.ft_cells.specs.Cells.{Cells, DirCells, FileCells, no_dir, dir_of, is_there, has_file, fresh_cells}
use Rattle.ft_tree.specs.Held.{held}
use Rattle.ft_tree.specs.Sound.{AreSoundCells, IsFree}
use Rattle.ft_tree.specs.Sweep.{is_useless, at_place, is_spare, IsAccounted, HasNoneToDrop}
use Rattle.ft_posix.specs.declared.call.Access.{Access}
use Rattle.ft_posix.specs.Accesses.{is_write, accesses_of}
use Rattle.ft_posix.specs.Posix.{Stamped, as_place, does, file_of, names_file, posix, posix_calls}
use Rattle.ft_posix.specs.RunLaws.{writes_cell}
use Rattle.ft_posix.specs.Leaving.{accesses_cell, IsOfOpenFile}
use Rattle.ft_posix.proofs.Leaving.{at_place-more, same-place, dead-file, all-noted}
use Rattle.ft_lock_rules.specs.declared.line.LockLine.{LockLine}
use Rattle.ft_lock_rules.specs.Locks.{LockTable, is_locked, is_released, is_kept_by, is_kept, may_be_useless, may_empty, may_empty_cell, AreGranted}
use Rattle.ft_lock_rules.specs.Law.{AreLocksOf}
use Rattle.ft_history.proofs.Losing.{LosesOwn}
use Rattle.ft_history.proofs.Words.{not_true}
use Rattle.ft_core.specs.States.{State, history}
use Rattle.ft_core.specs.Kept.{Item, IsOfWritten}
use Rattle.ft_core.specs.Laws.{CallLaws, LockLaws}
use Rattle.ft_core.specs.Sweeps.{EachUselessIsLocked}
use Rattle.ft_core.proofs.Placing.{put-write}

-- Words for it.

one_rest : (a b : Bool) → (a || b) ≡ true → a ≡ false → b ≡ true
one_rest true b h f = absurd (false≢true (sym f))
one_rest false b h f = h

three_rest : (a b c x y z : Bool) → (a || x || (b || y) || (c || z)) ≡ true → (a || b || c) ≡ false → (x || y || z) ≡ true
three_rest true b c x y z h f = absurd (false≢true (sym f))
three_rest false true c x y z h f = absurd (false≢true (sym f))
three_rest false false true x y z h f = absurd (false≢true (sym f))
three_rest false false false x y z h f = h

dir_rest : (p q : Cell → Bool) (d : ℕ) → at_place (λ x. p x || q x) (Names d) ≡ true → at_place p (Names d) ≡ false → at_place q (Names d) ≡ true
dir_rest p q d = three_rest (p (Names d)) (p (Parent d)) (p (DirAttributes d)) (q (Names d)) (q (Parent d)) (q (DirAttributes d))

file_rest : (p q : Cell → Bool) (i : ℕ) → at_place (λ x. p x || q x) (Links i) ≡ true → at_place p (Links i) ≡ false → at_place q (Links i) ≡ true
file_rest p q i = three_rest (p (Links i)) (p (Bytes i)) (p (FileAttributes i)) (q (Links i)) (q (Bytes i)) (q (FileAttributes i))

-- a place that may be without use, of which no lock keeps a cell, was let go
let-go-rest : (t : LockTable) (c : Cell) → at_place (may_be_useless t) c ≡ true → at_place (is_kept t) c ≡ false → at_place (is_released t) c ≡ true
let-go-rest t (Entry entry) h f = one_rest (is_kept t (Entry entry)) (is_released t (Entry entry)) h f
let-go-rest t (Names d) h f = dir_rest (is_kept t) (is_released t) d h f
let-go-rest t (Parent d) h f = dir_rest (is_kept t) (is_released t) d h f
let-go-rest t (Links i) h f = file_rest (is_kept t) (is_released t) i h f
let-go-rest t (Bytes i) h f = file_rest (is_kept t) (is_released t) i h f
let-go-rest t (Fd f) h g = one_rest (is_kept t (Fd f)) (is_released t (Fd f)) h g
let-go-rest t (DirAttributes d) h f = dir_rest (is_kept t) (is_released t) d h f
let-go-rest t (FileAttributes i) h f = file_rest (is_kept t) (is_released t) i h f

-- each place of no use is known to the locks
abbrev IsKnown : LockTable → Cells → Type 0
IsKnown t cells = (c : Cell) → is_useless cells c ≡ true → at_place (may_be_useless t) c ≡ true

known-of : (t : LockTable) (cells : Cells) → IsAccounted (is_kept t) (is_released t) cells → IsKnown t cells
known-of t cells all c u = by_test (at_place (is_kept t) c)
    (λ k. at_place-more (is_kept t) (may_be_useless t) (λ x e. or_left (is_kept t x) (is_released t x) e) c k)
    (λ k. at_place-more (is_released t) (may_be_useless t) (λ x e. or_right (is_kept t x) (is_released t x) e) c (all c (and_from (is_useless cells c) (not (at_place (is_kept t) c)) u (ap not k))))

accounted-of : (t : LockTable) (cells : Cells) → IsKnown t cells → IsAccounted (is_kept t) (is_released t) cells
accounted-of t cells all c spare =
    let parts = and_parts (is_useless cells c) (not (at_place (is_kept t) c)) spare in
    let-go-rest t c (all c parts.0) (not_true (at_place (is_kept t) c) parts.1)

-- At first.

module _ (limits : TreeLimits) where
  fresh-get : (d : ℕ) → finite.get (fresh_cells limits).directories d ≡ cond (d == 1) (Some no_dir) None
  fresh-get d = finite.get-insert nat_cmp_total finite.empty 1 no_dir d ∙ (λ i. cond (unsigned_tied d 1 i) (Some no_dir) (finite.get-empty {X = DirCells} nat_cmp d i))

  fresh-dir : (d : ℕ) → dir_of (fresh_cells limits) d ≡ no_dir
  fresh-dir d = ap (λ o. unwrap_or o no_dir) (fresh-get d) ∙ by_root (d == 1)
    where
      by_root : (b : Bool) → unwrap_or (cond b (Some no_dir) None) no_dir ≡ no_dir
      by_root true = refl
      by_root false = refl

  abbrev useless_dir : ℕ → Option DirCells → Bool
  useless_dir d o = is_some o && not (option_map_or (is_there d) o false) && (finite.len (unwrap_or o no_dir).entries == 0)

  -- the root is there
  no-directory : (d : ℕ) → is_useless (fresh_cells limits) (Parent d) ≡ false
  no-directory d = ap (λ (o : Option DirCells). useless_dir d o) (fresh-get d) ∙ by_root (d == 1) refl
    where
      by_root : (b : Bool) → (d == 1) ≡ b → useless_dir d (cond b (Some no_dir) None) ≡ false
      by_root true is = ap (λ b. true && not (b || false) && (finite.len no_dir.entries == 0)) is
      by_root false is = refl

  no-file : (i : ℕ) → is_useless (fresh_cells limits) (Links i) ≡ false
  no-file i = ap (λ (o : Option FileCells). is_some o && not (has_file (fresh_cells limits) i)) (finite.get-empty {X = FileCells} nat_cmp i)

  pub fresh-none : (c : Cell) → is_useless (fresh_cells limits) c ≡ false
  fresh-none (Entry entry) =
      ap (λ (x : DirCells). finite.contains_key x.entries entry.name && is_none (option_flatten (finite.get x.entries entry.name))) (fresh-dir entry.dir)
      ∙ ap (λ (o : Option (Option Node)). is_some o && is_none (option_flatten o)) (finite.get-empty {X = Option Node} (slice_cmp nat_cmp) entry.name)
  fresh-none (Names d) = no-directory d
  fresh-none (Parent d) = no-directory d
  fresh-none (Links i) = no-file i
  fresh-none (Bytes i) = no-file i
  fresh-none (Fd f) = ap (λ (o : Option (Option OpenFile)). is_some o && is_none (option_flatten o)) (finite.get-empty {X = Option OpenFile} nat_cmp f)
  fresh-none (DirAttributes d) = no-directory d
  fresh-none (FileAttributes i) = no-file i

  pub fresh-accounted : (kept released_cells : Cell → Bool) → IsAccounted kept released_cells (fresh_cells limits)
  fresh-accounted kept released_cells c spare = absurd (false≢true (sym (fresh-none c) ∙ (and_parts (is_useless (fresh_cells limits) c) (not (at_place kept c)) spare).0))

-- The locks change, and what may be without use stays so.

pub still-accounted : (t t' : LockTable) (cells : Cells) → ((c : Cell) → may_be_useless t c ≡ true → may_be_useless t' c ≡ true) → IsAccounted (is_kept t) (is_released t) cells → IsAccounted (is_kept t') (is_released t') cells
still-accounted t t' cells knows all = accounted-of t' cells (λ c u. at_place-more (may_be_useless t) (may_be_useless t') knows c (known-of t cells all c u))

-- A call is granted.

-- what is written by an access may be emptied by it
written-emptied : (accesses : List Access) (c : Cell) → writes_cell (map as_place accesses) c ≡ true → may_empty_cell accesses c ≡ true
written-emptied [] c h = h
written-emptied (a ∷ accesses) c h = elim (or_cases (same_cell a.cell c && is_write a.mode) (writes_cell (map as_place accesses) c) h) [
  | inl here ↦
      let parts = and_parts (same_cell a.cell c) (is_write a.mode) here in
      or_left (same_cell a.cell c && may_empty a.cell a.mode) (may_empty_cell accesses c) (and_from (same_cell a.cell c) (may_empty a.cell a.mode) parts.0 (or_left (is_write a.mode) (is_some (file_of a.cell)) parts.1))
  | inr later ↦ or_right (same_cell a.cell c && may_empty a.cell a.mode) (may_empty_cell accesses c) (written-emptied accesses c later)
]

-- and so may be what is accessed of a file
accessed-emptied : (accesses : List Access) (c : Cell) → (accesses_cell (map as_place accesses) c && is_some (file_of c)) ≡ true → may_empty_cell accesses c ≡ true
accessed-emptied accesses c h =
    let parts = and_parts (accesses_cell (map as_place accesses) c) (is_some (file_of c)) h in
    of_file accesses parts.0 parts.1
  where
    of_file : (xs : List Access) → accesses_cell (map as_place xs) c ≡ true → is_some (file_of c) ≡ true → may_empty_cell xs c ≡ true
    of_file [] e f = e
    of_file (a ∷ xs) e f = elim (or_cases (same_cell a.cell c) (accesses_cell (map as_place xs) c) e) [
      | inl here ↦
          or_left (same_cell a.cell c && may_empty a.cell a.mode) (may_empty_cell xs c)
          (and_from (same_cell a.cell c) (may_empty a.cell a.mode) here (or_right (is_write a.mode) (is_some (file_of a.cell)) (ap (λ d. is_some (file_of d)) (same_cell-is a.cell c here) ∙ f)))
      | inr later ↦ or_right (same_cell a.cell c && may_empty a.cell a.mode) (may_empty_cell xs c) (of_file xs later f)
    ]

and_true : (b : Bool) → b ≡ (b && true)
and_true true = refl
and_true false = refl

-- the cells that share the place of a file's cell are of a file
at-file-place : (p : Cell → Bool) (c : Cell) (i : ℕ) → file_of c ≡ Some i → at_place p c ≡ true → at_place (λ x. p x && is_some (file_of x)) c ≡ true
at-file-place p (Entry entry) i e h = absurd (none-some i e)
at-file-place p (Names d) i e h = absurd (none-some i e)
at-file-place p (Parent d) i e h = absurd (none-some i e)
at-file-place p (Links k) i e h = sym (λ j. and_true (p (Links k)) j || and_true (p (Bytes k)) j || and_true (p (FileAttributes k)) j) ∙ h
at-file-place p (Bytes k) i e h = sym (λ j. and_true (p (Links k)) j || and_true (p (Bytes k)) j || and_true (p (FileAttributes k)) j) ∙ h
at-file-place p (Fd f) i e h = absurd (none-some i e)
at-file-place p (DirAttributes d) i e h = absurd (none-some i e)
at-file-place p (FileAttributes k) i e h = sym (λ j. and_true (p (Links k)) j || and_true (p (Bytes k)) j || and_true (p (FileAttributes k)) j) ∙ h

-- A cell that is useless after a call was useless before, or the call may have emptied a cell of its
-- place: it writes the cell, or the cell is of a file. (A close only looks at the links of the file
-- that it lets go.)
useless-emptied : (W : CallLaws) (cells : Cells) (a : Stamped) (accesses : List Access) → AreSoundCells cells → IsFree cells a.stamp → accesses ≡ accesses_of cells a.stamp a.call → (c : Cell) → is_useless (posix_calls.act cells a) c ≡ true
    → (is_useless cells c ≡ true) ⊎ (at_place (may_empty_cell accesses) c ≡ true)
useless-emptied W cells a accesses sound free touched c u = by_option (file_of c)
    (λ plain. elim (W.leaving cells (does cells a).writes c (subst (λ s. is_useless s c ≡ true) (sym (put-write cells (does cells a).writes)) u)) [
      | inl was ↦ inl was
      | inr left ↦ elim left [
        | inl written ↦ inr (at_place-more (is_written posix (does cells a).writes) (may_empty_cell accesses)
            (λ x h. written-emptied accesses x (subst (λ ys. writes_cell (map as_place ys) x ≡ true) (sym touched) (all-noted (does cells a).accesses (does cells a).writes (W.writes cells a) x h))) c written)
        | inr shown ↦ absurd (none-some shown.file (sym plain ∙ shown.belongs))
      ]
    ])
    (λ i of. elim (W.useless cells a sound free c u) [
      | inl was ↦ inl was
      | inr accessed ↦ inr (at_place-more (λ x. accesses_cell (map as_place accesses) x && is_some (file_of x)) (may_empty_cell accesses) (accessed-emptied accesses) c
          (at-file-place (accesses_cell (map as_place accesses)) c i of (subst (λ ys. at_place (accesses_cell (map as_place ys)) c ≡ true) (sym touched) accessed)))
    ])

pub granted-accounted : (W : CallLaws) (K : LockLaws) (cells : Cells) (t t' : LockTable) (a : Stamped) (txn : ℕ) (accesses : List Access) → AreSoundCells cells → IsFree cells a.stamp → accesses ≡ accesses_of cells a.stamp a.call → AreGranted t t' txn accesses
    → IsAccounted (is_kept t) (is_released t) cells → IsAccounted (is_kept t') (is_released t') (posix_calls.act cells a)
granted-accounted W K cells t t' a txn accesses sound free touched granted all = accounted-of t' (posix_calls.act cells a) (λ c u. elim (useless-emptied W cells a accesses sound free touched c u) [
  | inl was ↦ at_place-more (may_be_useless t) (may_be_useless t') (λ x e. K.known.granted t t' txn accesses granted x (or_left (may_be_useless t x) (may_empty_cell accesses x) e)) c (known-of t cells all c was)
  | inr emptied ↦ at_place-more (may_empty_cell accesses) (may_be_useless t') (λ x e. K.known.granted t t' txn accesses granted x (or_right (may_be_useless t x) (may_empty_cell accesses x) e)) c emptied
])

-- A call is taken back, whose owner has its locks still.

-- what names a file is a cell
named-cell : (s : Cells) (z : Option Cell) (i : ℕ) → posix_calls.names z (posix_calls.cell s z) i ≡ true → (x : Cell) × (names_file x (held s x) i ≡ true)
named-cell s None i h = absurd (false≢true h)
named-cell s (Some x) i h = (x, h)

-- and what no cell names, nothing does
pub not-named : (s : Cells) (i : ℕ) → ((x : Cell) → names_file x (held s x) i ≡ false) → (z : Option Cell) → posix_calls.names z (posix_calls.cell s z) i ≡ false
not-named s i none None = refl
not-named s i none (Some x) = none x

module _ (W : CallLaws) (cells : Cells) (e : Item) (own : IsOfWritten e) (t : LockTable) (locked : (c : Cell) → writes_cell e.done.accesses c ≡ true → is_kept t c ≡ true) where
  abbrev new : Cells
  new = posix_calls.revert cells e.inverse

  written-known : (c : Cell) → writes_cell e.done.accesses c ≡ true → may_be_useless t c ≡ true
  written-known c h = or_left (is_kept t c) (is_released t c) (locked c h)

  pub reverted-accounted : LosesOwn posix_calls cells new e.done → AreSoundCells new → IsAccounted (is_kept t) (is_released t) cells → IsAccounted (is_kept t) (is_released t) new
  reverted-accounted loses sound all = accounted-of t new (λ c u. by_left c u (W.leaving cells e.inverse.before c (subst (λ s. is_useless s c ≡ true) (sym (put-write cells e.inverse.before)) u)))
    where
      -- a file that was open is the call's own, so the call wrote to it
      closed : (c : Cell) → is_useless new c ≡ true → IsOfOpenFile cells c → at_place (may_be_useless t) c ≡ true
      closed c u shown =
          let lost = loses (Some (Fd shown.descriptor)) shown.file shown.opened (not-named new shown.file (W.nameless new sound shown.file (dead-file new c shown.file shown.belongs u))) in
          let there = named-cell (posix_calls.act lost.store e.done.call) lost.cell e.done.call.stamp
          (subst (λ i. posix_calls.names lost.cell (posix_calls.cell (posix_calls.act lost.store e.done.call) lost.cell) i ≡ true) (sym lost.own) lost.named) in
          let made = W.making lost.store e.done.call lost.sound lost.ready there.0 there.1 in
          same-place (may_be_useless t) made.0 c shown.file (made.1 ∙ ap Some lost.own) shown.belongs (written-known made.0 (subst (λ f. writes_cell f made.0 ≡ true) lost.accesses made.2))

      by_left : (c : Cell) → is_useless new c ≡ true → (is_useless cells c ≡ true) ⊎ ((at_place (is_written posix e.inverse.before) c ≡ true) ⊎ IsOfOpenFile cells c) → at_place (may_be_useless t) c ≡ true
      by_left c u (inl was) = known-of t cells all c was
      by_left c u (inr (inl written)) = at_place-more (is_written posix e.inverse.before) (may_be_useless t) (λ x h. written-known x (all-noted e.done.accesses e.inverse.before own.before x h)) c written
      by_left c u (inr (inr shown)) = closed c u shown

-- A sweep leaves nothing to drop.

pub swept-accounted : (t t' : LockTable) (cells : Cells) → t'.lines ≡ t.lines → t'.keeps_all ≡ t.keeps_all → HasNoneToDrop (is_kept t) cells → IsAccounted (is_kept t') (is_released t') cells
swept-accounted t t' cells same keeps_all none c spare =
    absurd (false≢true (sym (none c) ∙ ap (λ (x : LockTable). is_spare (is_kept x) cells c) (λ i. record t { lines = sym same i; keeps_all = sym keeps_all i }) ∙ spare))

none-among : (p : Cell → Bool) → ((c : Cell) → p c ≡ false) → (c : Cell) → at_place p c ≡ false
none-among p none (Entry entry) = none (Entry entry)
none-among p none (Names d) = λ i. none (Names d) i || none (Parent d) i || none (DirAttributes d) i
none-among p none (Parent d) = λ i. none (Names d) i || none (Parent d) i || none (DirAttributes d) i
none-among p none (Links i) = λ j. none (Links i) j || none (Bytes i) j || none (FileAttributes i) j
none-among p none (Bytes i) = λ j. none (Links i) j || none (Bytes i) j || none (FileAttributes i) j
none-among p none (Fd f) = none (Fd f)
none-among p none (DirAttributes d) = λ i. none (Names d) i || none (Parent d) i || none (DirAttributes d) i
none-among p none (FileAttributes i) = λ j. none (Links i) j || none (Bytes i) j || none (FileAttributes i) j

pub none-useless : (kept : Cell → Bool) (cells : Cells) → ((c : Cell) → kept c ≡ false) → HasNoneToDrop kept cells → (c : Cell) → is_useless cells c ≡ false
none-useless kept cells free none c = by_test (is_useless cells c)
    (λ u. absurd (false≢true (sym (none c) ∙ and_from (is_useless cells c) (not (at_place kept c)) u (ap not (none-among kept free c)))))
    (λ u. u)

-- A place among some has one of its cells among them.

one_of_three : (a b c : Bool) → (a || b || c) ≡ true → (a ≡ true) ⊎ ((b ≡ true) ⊎ (c ≡ true))
one_of_three true b c h = inl refl
one_of_three false true c h = inr (inl refl)
one_of_three false false c h = inr (inr h)

three_with : (a b c : Bool) → (a ≡ true) ⊎ ((b ≡ true) ⊎ (c ≡ true)) → (a || b || c) ≡ true
three_with a b c (inl h) = or_left (a || b) c (or_left a b h)
three_with a b c (inr (inl h)) = or_left (a || b) c (or_right a b h)
three_with a b c (inr (inr h)) = or_right (a || b) c h

at-dir : (x : Cell) (d : ℕ) → (same_cell x (Names d) ≡ true) ⊎ ((same_cell x (Parent d) ≡ true) ⊎ (same_cell x (DirAttributes d) ≡ true)) → at_place (same_cell x) (Names d) ≡ true
at-dir x d = three_with (same_cell x (Names d)) (same_cell x (Parent d)) (same_cell x (DirAttributes d))

placed-dir : (among : Cell → Bool) (d : ℕ) → at_place among (Names d) ≡ true → (x : Cell) × (among x ≡ true) × (at_place (same_cell x) (Names d) ≡ true)
placed-dir among d h = by_cell (one_of_three (among (Names d)) (among (Parent d)) (among (DirAttributes d)) h)
  where
    by_cell : (among (Names d) ≡ true) ⊎ ((among (Parent d) ≡ true) ⊎ (among (DirAttributes d) ≡ true)) → (x : Cell) × (among x ≡ true) × (at_place (same_cell x) (Names d) ≡ true)
    by_cell (inl names) = (Names d, names, at-dir (Names d) d (inl (same_cell-refl (Names d))))
    by_cell (inr (inl parent)) = (Parent d, parent, at-dir (Parent d) d (inr (inl (same_cell-refl (Parent d)))))
    by_cell (inr (inr attributes)) = (DirAttributes d, attributes, at-dir (DirAttributes d) d (inr (inr (same_cell-refl (DirAttributes d)))))

at-file : (x : Cell) (i : ℕ) → (same_cell x (Links i) ≡ true) ⊎ ((same_cell x (Bytes i) ≡ true) ⊎ (same_cell x (FileAttributes i) ≡ true)) → at_place (same_cell x) (Links i) ≡ true
at-file x i = three_with (same_cell x (Links i)) (same_cell x (Bytes i)) (same_cell x (FileAttributes i))

placed-file : (among : Cell → Bool) (i : ℕ) → at_place among (Links i) ≡ true → (x : Cell) × (among x ≡ true) × (at_place (same_cell x) (Links i) ≡ true)
placed-file among i h = by_cell (one_of_three (among (Links i)) (among (Bytes i)) (among (FileAttributes i)) h)
  where
    by_cell : (among (Links i) ≡ true) ⊎ ((among (Bytes i) ≡ true) ⊎ (among (FileAttributes i) ≡ true)) → (x : Cell) × (among x ≡ true) × (at_place (same_cell x) (Links i) ≡ true)
    by_cell (inl links) = (Links i, links, at-file (Links i) i (inl (same_cell-refl (Links i))))
    by_cell (inr (inl bytes)) = (Bytes i, bytes, at-file (Bytes i) i (inr (inl (same_cell-refl (Bytes i)))))
    by_cell (inr (inr attributes)) = (FileAttributes i, attributes, at-file (FileAttributes i) i (inr (inr (same_cell-refl (FileAttributes i)))))

placed-cell : (among : Cell → Bool) (c : Cell) → at_place among c ≡ true → (x : Cell) × (among x ≡ true) × (at_place (same_cell x) c ≡ true)
placed-cell among (Entry entry) h = (Entry entry, h, same_cell-refl (Entry entry))
placed-cell among (Names d) h = placed-dir among d h
placed-cell among (Parent d) h = placed-dir among d h
placed-cell among (Links i) h = placed-file among i h
placed-cell among (Bytes i) h = placed-file among i h
placed-cell among (Fd f) h = (Fd f, h, same_cell-refl (Fd f))
placed-cell among (DirAttributes d) h = placed-dir among d h
placed-cell among (FileAttributes i) h = placed-file among i h

-- What a sweep leaves of no use is locked.
pub useless-locked : (K : LockLaws) (s : State) (t : LockTable) (cells : Cells) → AreLocksOf (history s) t → HasNoneToDrop (is_kept t) cells → EachUselessIsLocked s cells
useless-locked K s t cells locks none c useless =
    let kept : at_place (is_kept t) c ≡ true = by_test (at_place (is_kept t) c) (λ k. k)
    (λ free. absurd (false≢true (sym (none c) ∙ and_from (is_useless cells c) (not (at_place (is_kept t) c)) useless (ap not free)))) in
    let placed = placed-cell (is_kept t) c kept in
    let found = K.known.locked t placed.0 (K.known.kept t placed.0 placed.1) in
    (found.0, sym (locks found.0) ∙ found.1, subst (λ x. at_place (same_cell x) c ≡ true) (sym found.2) placed.2)
