-- What callers see of a grant.
use Rattle.std.proofs.Common.{◌≡◌, ◌⊎◌, inl, inr, ℕ, Bool, true, false, not, ◌&&◌, ◌||◌, ◌==◌, List, [], ◌∷◌, is_some, refl, sym, ap, ◌∙◌}
use Rattle.std.proofs.lemmas.Bool.{false≢true, or_cases, or_left, or_right, eqb-true}
use Rattle.ft_owned_lists.specs.OwnedLists.{Lists}
use Rattle.ft_cells.specs.declared.cell.Cell.{Cell}
use Rattle.ft_cells.specs.CellOrder.{same_cell}
use Rattle.ft_posix.specs.declared.call.Mode.{Mode}
use Rattle.ft_posix.specs.declared.call.Mode.TheVariants.{Read as ReadMode, Write as WriteMode}
use Rattle.ft_posix.specs.declared.call.Access.{Access}
use Rattle.ft_lock_rules.specs.declared.line.LockKind.{LockKind}
use Rattle.ft_lock_rules.specs.declared.line.LockKind.TheVariants.{Held}
use Rattle.ft_lock_rules.specs.declared.line.LockLine.{LockLine}
use Rattle.ft_lock_rules.specs.LockModes.{is_marked_of}
use Rattle.ft_lock_rules.specs.Cells.{Cells, marks_at, released_owner}
use Rattle.ft_lock_rules.specs.Holdings.{has_place, AreOpenStill}
use Rattle.ft_lock_rules.specs.Locks.{is_held, same_mode, is_accessed, has_access, AreGiven, is_given}
use Rattle.ft_lock_rules.specs.Seen.{has_mark_of, has_line, is_marked_at, table_of, IsKept}
use Rattle.ft_lock_rules.proofs.Joining.{apart_test, itself}
use Rattle.ft_lock_rules.proofs.Tables.{lines-seen, released_cells-seen, opened-seen, marked_by, marked_one, same_truth, same_lines, same_cells_set, same_numbers, line, line_of_mark, mark_of_line}

-- some access is of a cell that is accessed, in its mode
pub some_access : (xs : List Access) (c : Cell) → is_accessed xs c ≡ true → (mode : Mode) × (has_access xs c mode ≡ true)
some_access [] c e = absurd (false≢true e)
some_access (a ∷ xs) c e = by_head (same_cell a.cell c) refl e (some_access xs c)
  where
    same : (mode : Mode) → same_mode mode mode ≡ true
    same ReadMode = refl
    same WriteMode = refl

    or-true : (b : Bool) → (b || true) ≡ true
    or-true true = refl
    or-true false = refl

    by_head : (b : Bool) → same_cell a.cell c ≡ b → (b || is_accessed xs c) ≡ true → (is_accessed xs c ≡ true → (mode : Mode) × (has_access xs c mode ≡ true)) → (mode : Mode) × (has_access (a ∷ xs) c mode ≡ true)
    by_head true d h more = (a.mode, (λ i. d i && same a.mode i || has_access xs c a.mode))
    by_head false d h more = let found = more h in (found.0, ap (λ b. same_cell a.cell c && same_mode a.mode found.0 || b) found.1 ∙ or-true (same_cell a.cell c && same_mode a.mode found.0))

accessed_if : (xs : List Access) (c : Cell) (mode : Mode) → has_access xs c mode ≡ true → is_accessed xs c ≡ true
accessed_if [] c mode e = e
accessed_if (a ∷ xs) c mode e = by_head (same_cell a.cell c) (same_mode a.mode mode) (has_access xs c mode) (is_accessed xs c) e (accessed_if xs c mode)
  where
    by_head : (s t h r : Bool) → (s && t || h) ≡ true → (h ≡ true → r ≡ true) → (s || r) ≡ true
    by_head true t h r e more = refl
    by_head false t h r e more = more e

absorb : (p k o a : Bool) → (o ≡ true → a ≡ true → p ≡ true) → (p && k && o && a) ≡ (k && o && a)
absorb true k o a there = refl
absorb false k true true there = absurd (false≢true (there refl refl))
absorb false true true false there = refl
absorb false false true false there = refl
absorb false true false a there = refl
absorb false false false a there = refl

-- Places were made with their locks, and then those given that were lacking.
pub given_after : (m k n : Cells) (txn : ℕ) (xs : List Access)
    → ((l : LockLine) → (has_line k l || is_given txn xs l) ≡ (has_line m l || is_given txn xs l))
    → ((c : Cell) (u : ℕ) → has_place k c u ≡ (has_place m c u || ((u == txn) && is_accessed xs c)))
    → ((l : LockLine) → has_line n l ≡ (has_line k l || (has_place k l.cell l.owner && is_held l.kind && (l.owner == txn) && has_access xs l.cell l.mode)))
    → (l : LockLine) → has_line n l ≡ (has_line m l || is_given txn xs l)
given_after m k n txn xs made places lines l =
    lines l
    ∙ ap (λ b. has_line k l || b) (absorb (has_place k l.cell l.owner) (is_held l.kind) (l.owner == txn) (has_access xs l.cell l.mode)
    (λ own at. places l.cell l.owner ∙ or_right (has_place m l.cell l.owner) ((l.owner == txn) && is_accessed xs l.cell) (λ i. own i && accessed_if xs l.cell l.mode at i)))
    ∙ made l

-- None was lacking.
pub given_at_once : (m k : Cells) (txn : ℕ) (xs : List Access)
    → ((l : LockLine) → (has_line k l || is_given txn xs l) ≡ (has_line m l || is_given txn xs l))
    → ((l : LockLine) → is_given txn xs l ≡ true → has_line k l ≡ true)
    → (l : LockLine) → has_line k l ≡ (has_line m l || is_given txn xs l)
given_at_once m k txn xs made all l = covered (has_line k l) (is_given txn xs l) (all l) ∙ made l
  where
    covered : (a b : Bool) → (b ≡ true → a ≡ true) → a ≡ (a || b)
    covered true b there = refl
    covered false true there = there refl
    covered false false there = refl

-- A transaction has the locks of these accesses now.
module _ (m n : Cells) (old new : Lists Cell) (txn : ℕ) (xs : List Access) (is_txn : (txn == released_owner) ≡ false)
    (granted_line : (l : LockLine) → has_line n l ≡ (has_line m l || is_given txn xs l))
    (granted_place : (c : Cell) (u : ℕ) → has_place n c u ≡ (has_place m c u || ((u == txn) && is_accessed xs c)))
    (still : AreOpenStill old new) (kept : IsKept m old) where
  -- who was marked is marked
  marked_still : (c : Cell) (u : ℕ) → is_marked_of (marks_at m c u) ≡ true → is_marked_of (marks_at n c u) ≡ true
  marked_still c u marked =
      let one = line_of_mark c u (marks_at m c u) marked in
      mark_of_line (marks_at n c u) (line c u one.0 one.1) (granted_line (line c u one.0 one.1) ∙ or_left _ _ one.2)

  marked_now : (c : Cell) → is_accessed xs c ≡ true → is_marked_of (marks_at n c txn) ≡ true
  marked_now c accessed =
      let one = some_access xs c accessed in
      mark_of_line (marks_at n c txn) (line c txn one.0 Held) (granted_line (line c txn one.0 Held) ∙ or_right (has_line m (line c txn one.0 Held)) _ (λ i. itself txn i && one.1 i))

  marked_from : (c : Cell) (u : ℕ) → is_marked_of (marks_at n c u) ≡ true → (is_marked_of (marks_at m c u) ≡ true) ⊎ ((u ≡ txn) × (is_accessed xs c ≡ true))
  marked_from c u marked =
      let one = line_of_mark c u (marks_at n c u) marked in
      by_line one.0 one.1 (or_cases _ _ (sym (granted_line (line c u one.0 one.1)) ∙ one.2))
    where
      parts : (a b d : Bool) → (a && b && d) ≡ true → (b ≡ true) × (d ≡ true)
      parts true true true e = (refl, refl)
      parts true true false e = absurd (false≢true e)
      parts true false d e = absurd (false≢true e)
      parts false b d e = absurd (false≢true e)

      by_line : (mode : Mode) (kind : LockKind) → (has_line m (line c u mode kind) ≡ true) ⊎ ((is_held kind && (u == txn) && has_access xs c mode) ≡ true)
          → (is_marked_of (marks_at m c u) ≡ true) ⊎ ((u ≡ txn) × (is_accessed xs c ≡ true))
      by_line mode kind (inl e) = inl (mark_of_line (marks_at m c u) (line c u mode kind) e)
      by_line mode kind (inr e) = let both = parts (is_held kind) (u == txn) (has_access xs c mode) e in inr (eqb-true u txn both.0, accessed_if xs c mode both.1)

  granted_marked : (c : Cell) → is_marked_at n c ≡ (is_marked_at m c || is_accessed xs c)
  granted_marked c = same_truth _ _
      (λ marked. let one = marked_one n c marked in back one.0 (marked_from c one.0 one.1))
      (λ marked. forth (or_cases (is_marked_at m c) (is_accessed xs c) marked))
    where
      back : (u : ℕ) → (is_marked_of (marks_at m c u) ≡ true) ⊎ ((u ≡ txn) × (is_accessed xs c ≡ true)) → (is_marked_at m c || is_accessed xs c) ≡ true
      back u (inl e) = or_left (is_marked_at m c) (is_accessed xs c) (marked_by m c u e)
      back u (inr e) = or_right (is_marked_at m c) (is_accessed xs c) e.1

      forth : (is_marked_at m c ≡ true) ⊎ (is_accessed xs c ≡ true) → is_marked_at n c ≡ true
      forth (inl e) = let one = marked_one m c e in marked_by n c one.0 (marked_still c one.0 one.1)
      forth (inr e) = marked_by n c txn (marked_now c e)

  zero_txn : (released_owner == txn) ≡ false
  zero_txn = apart_test released_owner txn (λ e. false≢true (sym is_txn ∙ ap (λ u. u == released_owner) (sym e)))

  granted_zero : (c : Cell) → has_place n c released_owner ≡ has_place m c released_owner
  granted_zero c = granted_place c released_owner ∙ ap (λ b. has_place m c released_owner || (b && is_accessed xs c)) zero_txn ∙ or_none (has_place m c released_owner)
    where
      or_none : (b : Bool) → (b || false) ≡ b
      or_none true = refl
      or_none false = refl

  granted_opened : (table_of n new).opened ≡ (table_of m old).opened
  granted_opened = same_numbers _ _ (λ u. opened-seen n new u ∙ ap (λ b. not (u == released_owner) && b) (still u) ∙ sym (opened-seen m old u))

  pub granted_kept : IsKept n new
  granted_kept = record {
    marked = λ c u is_real place. of_place c u is_real (or_cases (has_place m c u) ((u == txn) && is_accessed xs c) (sym (granted_place c u) ∙ place));
    unmarked = λ c. same_truth (is_marked_of (marks_at n c released_owner)) false (λ marked. of_zero c (marked_from c released_owner marked)) (λ e. absurd (false≢true e));
    ready = still released_owner ∙ kept.ready;
  }
    where
      of_place : (c : Cell) (u : ℕ) → (u == released_owner) ≡ false → (has_place m c u ≡ true) ⊎ (((u == txn) && is_accessed xs c) ≡ true) → is_marked_of (marks_at n c u) ≡ true
      of_place c u is_real (inl e) = marked_still c u (kept.marked c u is_real e)
      of_place c u is_real (inr e) = both (u == txn) refl (is_accessed xs c) e (marked_now c)
        where
          both : (b : Bool) → (u == txn) ≡ b → (a : Bool) → (b && a) ≡ true → (a ≡ true → is_marked_of (marks_at n c txn) ≡ true) → is_marked_of (marks_at n c u) ≡ true
          both true d a h now = ap (λ v. is_marked_of (marks_at n c v)) (eqb-true u txn d) ∙ now h
          both false d a h now = absurd (false≢true h)

      of_zero : (c : Cell) → (is_marked_of (marks_at m c released_owner) ≡ true) ⊎ ((released_owner ≡ txn) × (is_accessed xs c ≡ true)) → false ≡ true
      of_zero c (inl e) = sym (kept.unmarked c) ∙ e
      of_zero c (inr e) = sym is_txn ∙ ap (λ u. u == released_owner) (sym e.0)

  pub granted : AreGiven (table_of m old) (table_of n new) txn xs
  granted = record {
    lines = λ l. lines-seen n new l ∙ granted_line l ∙ ap (λ b. b || is_given txn xs l) (sym (lines-seen m old l));
    released_cells = λ c. released_cells-seen n new c ∙ (λ i. granted_zero c i && not (granted_marked c i)) ∙ group (has_place m c released_owner) (is_marked_at m c) (is_accessed xs c)
        ∙ ap (λ b. b && not (is_accessed xs c)) (sym (released_cells-seen m old c));
    opened = granted_opened;
  }
    where
      group : (a b d : Bool) → (a && not (b || d)) ≡ (a && not b && not d)
      group true true d = refl
      group true false d = refl
      group false b d = refl

-- Want of memory: nothing is seen of the room that was taken back.
pub ungranted : (m n : Cells) (old new : Lists Cell) → ((c : Cell) (u : ℕ) → marks_at n c u ≡ marks_at m c u) → AreOpenStill old new → IsKept m old → IsKept n new × (table_of n new ≡ table_of m old)
ungranted m n old new same still kept = (
  record {
    marked = λ c u is_real place. ap is_marked_of (same c u) ∙ kept.marked c u is_real (sym (ap is_some (same c u)) ∙ place);
    unmarked = λ c. ap is_marked_of (same c released_owner) ∙ kept.unmarked c;
    ready = still released_owner ∙ kept.ready;
  },
  (λ i. record {
    lines = same_lines (table_of n new).lines (table_of m old).lines (λ l. lines-seen n new l ∙ ap (λ o. has_mark_of o l) (same l.cell l.owner) ∙ sym (lines-seen m old l)) i;
    released_cells = same_cells_set (table_of n new).released_cells (table_of m old).released_cells (λ c. released_cells-seen n new c ∙ (λ j. is_some (same c released_owner j) && not (marked c j)) ∙ sym (released_cells-seen m old c)) i;
    opened = same_numbers (table_of n new).opened (table_of m old).opened (λ u. opened-seen n new u ∙ ap (λ b. not (u == released_owner) && b) (still u) ∙ sym (opened-seen m old u)) i;
    keeps_all = false;
  }),
)
  where
    marked : (c : Cell) → is_marked_at n c ≡ is_marked_at m c
    marked c = same_truth _ _
        (λ e. let one = marked_one n c e in marked_by m c one.0 (sym (ap is_marked_of (same c one.0)) ∙ one.1))
        (λ e. let one = marked_one m c e in marked_by n c one.0 (ap is_marked_of (same c one.0) ∙ one.1))
