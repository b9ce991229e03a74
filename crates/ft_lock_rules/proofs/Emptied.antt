-- Which cells are kept from a sweep, by what is found on them.
use Rattle.std.proofs.Common.{◌≡◌, ℕ, Bool, true, false, cond, ◌&&◌, ◌||◌, List, [], ◌∷◌, Option, Some, None, is_some, unwrap_or, inl, inr, refl, sym, ap, subst, ◌∙◌}
use Rattle.std.proofs.lemmas.Bool.{false≢true, and_parts, and_from, or_cases, or_left, or_right}
use Rattle.std.specs.List.{list_any}
use Rattle.std.specs.Ordering.{nat_cmp, eq_by_cmp}
use Rattle.std.specs.Cmp.{nat_cmp_total, eq_by_cmp_equiv, Equal-is}
use Rattle.std.specs.FinMap as finite
use Rattle.std.specs.FinSet as set
use Rattle.std.proofs.lemmas.Map.Lookups.{exact_unsigned}
use Rattle.ft_owned_lists.specs.OwnedLists.{Lists}
use Rattle.ft_cells.specs.declared.cell.Cell.{Cell}
use Rattle.ft_cells.specs.CellOrder.{same_cell, same_cell-is}
use Rattle.ft_posix.specs.declared.call.Mode.{Mode}
use Rattle.ft_posix.specs.declared.call.Mode.TheVariants.{Read as ReadMode, Write as WriteMode}
use Rattle.ft_posix.specs.Accesses.{is_write}
use Rattle.ft_posix.specs.Posix.{file_of}
use Rattle.ft_lock_rules.specs.declared.line.LockKind.{LockKind}
use Rattle.ft_lock_rules.specs.declared.line.LockKind.TheVariants.{Held, Retained}
use Rattle.ft_lock_rules.specs.declared.line.LockLine.{LockLine}
use Rattle.ft_lock_rules.specs.declared.lock_modes.LockModes.{LockModes}
use Rattle.ft_lock_rules.specs.declared.cell_locks.OwnerLocks.{OwnerLocks}
use Rattle.ft_lock_rules.specs.LockModes.{has_mark, is_marked, is_marked_of, conflicts_with}
use Rattle.ft_lock_rules.specs.CellLocks.{Owners, as_entries, marks_in, AreApart}
use Rattle.ft_lock_rules.specs.Cells.{Cells, marks_at}
use Rattle.ft_lock_rules.specs.Locks.{LockTable, has_lock, is_locked, may_empty, may_be_emptied, is_kept_by}
use Rattle.ft_lock_rules.specs.Seen.{has_mark_of, has_line, is_marked_at, empties, empties_of, keeps_of, is_kept_among, is_kept_at, table_of}
use Rattle.ft_lock_rules.proofs.HolderLists.{ties, get-seen}
use Rattle.ft_lock_rules.proofs.Tables.{line, first_found, lines-seen, locked-seen, same_truth, mark_one, one_mark}
use Rattle.ft_lock_rules.proofs.Knowing.{cell_emptied}

-- Whether a test of marks that no lock fails passes somewhere.

pub keeps-none : (all : Bool) (c : Cell) → keeps_of all c None ≡ false
keeps-none true c = refl
keeps-none false c = refl

module _ (g : Option LockModes → Bool) (none : g None ≡ false) where
  -- among owners
  pub among-from : (owners : Owners) (u : ℕ) → g (finite.get owners u) ≡ true → list_any (λ v. g (finite.get owners v)) (finite.keys owners) ≡ true
  among-from owners u passes = any_of (finite.keys owners) (sym (finite.contains_key-keys owners u) ∙ there (finite.get owners u) passes)
    where
      there : (o : Option LockModes) → g o ≡ true → is_some o ≡ true
      there None e = absurd (false≢true (sym none ∙ e))
      there (Some x) e = refl

      any_of : (us : List ℕ) → list_any (eq_by_cmp nat_cmp u) us ≡ true → list_any (λ v. g (finite.get owners v)) us ≡ true
      any_of [] e = absurd (false≢true e)
      any_of (v ∷ us) e = elim (or_cases (eq_by_cmp nat_cmp u v) (list_any (eq_by_cmp nat_cmp u) us) e) [
        | inl tied ↦ or_left (g (finite.get owners v)) (list_any (λ w. g (finite.get owners w)) us) (ap (λ w. g (finite.get owners w)) (sym (exact_unsigned u v ((Equal-is (nat_cmp u v)).0 tied))) ∙ passes)
        | inr later ↦ or_right (g (finite.get owners v)) (list_any (λ w. g (finite.get owners w)) us) (any_of us later)
      ]

  pub among-one : (owners : Owners) → list_any (λ v. g (finite.get owners v)) (finite.keys owners) ≡ true → (u : ℕ) × (g (finite.get owners u) ≡ true)
  among-one owners e = some_of (finite.keys owners) e
    where
      some_of : (us : List ℕ) → list_any (λ v. g (finite.get owners v)) us ≡ true → (u : ℕ) × (g (finite.get owners u) ≡ true)
      some_of [] h = absurd (false≢true h)
      some_of (v ∷ us) h = elim (or_cases (g (finite.get owners v)) (list_any (λ w. g (finite.get owners w)) us) h) [ inl here ↦ (v, here) | inr later ↦ some_of us later ]

  -- in a list of holdings in which no owner stands twice
  in-list : (list : List OwnerLocks) → AreApart list → list_any (λ h. g (Some h.marks)) list ≡ true → (owner : ℕ) × (g (marks_in list owner) ≡ true)
  in-list [] apart e = absurd (false≢true e)
  in-list (h ∷ more) apart e = elim (or_cases (g (Some h.marks)) (list_any (λ x. g (Some x.marks)) more) e) [
    | inl here ↦ (h.owner, ap (λ b. g (cond b (Some h.marks) (marks_in more h.owner))) ((eq_by_cmp_equiv nat_cmp_total).refl h.owner) ∙ here)
    | inr later ↦ let found = in-list more apart.1 later in (found.0, by_owner found.0 (ties found.0 h.owner) refl found.1)
  ]
    where
      by_owner : (u : ℕ) (b : Bool) → ties u h.owner ≡ b → g (marks_in more u) ≡ true → g (cond (ties u h.owner) (Some h.marks) (marks_in more u)) ≡ true
      by_owner u true d passes = absurd (false≢true (sym none ∙ sym (ap g (ap (marks_in more) (exact_unsigned u h.owner ((Equal-is (nat_cmp u h.owner)).0 d)) ∙ apart.0)) ∙ passes))
      by_owner u false d passes = ap (λ b. g (cond b (Some h.marks) (marks_in more u))) d ∙ passes

  from-list : (list : List OwnerLocks) (u : ℕ) → g (marks_in list u) ≡ true → list_any (λ h. g (Some h.marks)) list ≡ true
  from-list [] u e = absurd (false≢true (sym none ∙ e))
  from-list (h ∷ more) u e = by_owner (ties u h.owner) e (from-list more u)
    where
      by_owner : (b : Bool) → g (cond b (Some h.marks) (marks_in more u)) ≡ true → (g (marks_in more u) ≡ true → list_any (λ x. g (Some x.marks)) more ≡ true) → (g (Some h.marks) || list_any (λ x. g (Some x.marks)) more) ≡ true
      by_owner true d later = or_left (g (Some h.marks)) (list_any (λ x. g (Some x.marks)) more) d
      by_owner false d later = or_right (g (Some h.marks)) (list_any (λ x. g (Some x.marks)) more) (later d)

  -- a look at the list of some owners tells it of the owners
  pub list-among : (list : List OwnerLocks) (owners : Owners) → finite.from_entries (as_entries list) ≡ owners → AreApart list → list_any (λ h. g (Some h.marks)) list ≡ list_any (λ v. g (finite.get owners v)) (finite.keys owners)
  list-among list owners are apart = same_truth _ _
      (λ e. let found = in-list list apart e in among-from owners found.0 (ap g (ap (λ (n : Owners). finite.get n found.0) (sym are) ∙ get-seen list found.0) ∙ found.1))
      (λ e. let found = among-one owners e in from-list list found.0 (sym (ap g (ap (λ (n : Owners). finite.get n found.0) (sym are) ∙ get-seen list found.0)) ∙ found.1))

pub list-kept : (all : Bool) (c : Cell) (list : List OwnerLocks) (owners : Owners) → finite.from_entries (as_entries list) ≡ owners → AreApart list → list_any (λ h. keeps_of all c (Some h.marks)) list ≡ is_kept_among all c owners
list-kept all c = list-among (keeps_of all c) (keeps-none all c)

-- nobody keeps a cell on which nobody has a place
pub among-none : (all : Bool) (c : Cell) → is_kept_among all c finite.empty ≡ false
among-none all c = same_truth _ _
    (λ e. let one = among-one (keeps_of all c) (keeps-none all c) finite.empty e in sym (keeps-none all c) ∙ sym (ap (keeps_of all c) (finite.get-empty nat_cmp one.0)) ∙ one.1)
    (λ e. absurd (false≢true e))

-- Marks and locks.

-- a lock of these by which a cell may have been emptied
emptying-mark : (c : Cell) (x : LockModes) → empties c x ≡ true → (mode : Mode) × (kind : LockKind) × (has_mark x mode kind ≡ true) × (may_empty c mode ≡ true)
emptying-mark c x e = elim (or_cases (conflicts_with x ReadMode) (is_some (file_of c) && is_marked x) e) [
  | inl writes ↦ elim (or_cases x.write_held x.write_retained writes) [
    | inl held ↦ (WriteMode, Held, held, refl)
    | inr retained ↦ (WriteMode, Retained, retained, refl)
  ]
  | inr both ↦
      let parts = and_parts (is_some (file_of c)) (is_marked x) both in
      let one = mark_one x parts.1 in
      (one.0, one.1, one.2, or_right (is_write one.0) (is_some (file_of c)) parts.0)
]

mark-emptying : (c : Cell) (x : LockModes) (mode : Mode) (kind : LockKind) → has_mark x mode kind ≡ true → may_empty c mode ≡ true → empties c x ≡ true
mark-emptying c x WriteMode Held has may = or_left (conflicts_with x ReadMode) (is_some (file_of c) && is_marked x) (or_left x.write_held x.write_retained has)
mark-emptying c x WriteMode Retained has may = or_left (conflicts_with x ReadMode) (is_some (file_of c) && is_marked x) (or_right x.write_held x.write_retained has)
mark-emptying c x ReadMode kind has may = or_right (conflicts_with x ReadMode) (is_some (file_of c) && is_marked x) (and_from (is_some (file_of c)) (is_marked x) may (one_mark x ReadMode kind has))

emptying-line : (c : Cell) (u : ℕ) (o : Option LockModes) → empties_of c o ≡ true → (mode : Mode) × (kind : LockKind) × (has_mark_of o (line c u mode kind) ≡ true) × (may_empty c mode ≡ true)
emptying-line c u None e = absurd (false≢true e)
emptying-line c u (Some x) e = emptying-mark c x e

line-emptying : (c : Cell) (o : Option LockModes) (l : LockLine) → has_mark_of o l ≡ true → may_empty c l.mode ≡ true → empties_of c o ≡ true
line-emptying c None l has may = absurd (false≢true has)
line-emptying c (Some x) l has may = mark-emptying c x l.mode l.kind has may

-- What callers see.

pub emptied-seen : (m : Cells) (lists : Lists Cell) (c : Cell) → may_be_emptied (table_of m lists) c ≡ is_kept_at false m c
emptied-seen m lists c = same_truth _ _
    (λ e.
    let found = first_found (λ l. same_cell l.cell c && may_empty l.cell l.mode) (set.items (table_of m lists).lines) e in
    let both = and_parts (same_cell found.0.cell c) (may_empty found.0.cell found.0.mode) found.1 in
    let there = sym (lines-seen m lists found.0) ∙ set.contains-items (table_of m lists).lines found.0 ∙ found.2 in
    ap (is_kept_at false m) (sym (same_cell-is found.0.cell c both.0))
    ∙ among-from (keeps_of false found.0.cell) refl (unwrap_or (finite.get m found.0.cell) finite.empty) found.0.owner (line-emptying found.0.cell (marks_at m found.0.cell found.0.owner) found.0 there both.1))
    (λ e.
    let one = among-one (keeps_of false c) refl (unwrap_or (finite.get m c) finite.empty) e in
    let mark = emptying-line c one.0 (marks_at m c one.0) one.1 in
    cell_emptied (table_of m lists) (line c one.0 mark.0 mark.1) (lines-seen m lists (line c one.0 mark.0 mark.1) ∙ mark.2) mark.3)

pub kept-seen : (all : Bool) (m : Cells) (lists : Lists Cell) (c : Cell) → is_kept_by all (table_of m lists) c ≡ is_kept_at all m c
kept-seen true m lists c = locked-seen m lists c
kept-seen false m lists c = emptied-seen m lists c
