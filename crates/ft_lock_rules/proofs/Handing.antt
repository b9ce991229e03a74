-- What callers see after an owner has given its places to another.
use Rattle.std.proofs.Common.{◌≡◌, ℕ, ◌⊎◌, inl, inr, Bool, true, false, cond, not, ◌&&◌, ◌||◌, ◌==◌, List, Option, Some, None, is_some, Result, Ok, Err, refl, sym, ap, subst, ◌∙◌}
use Rattle.std.proofs.lemmas.Bool.{false≢true, and_parts, or_cases, or_left, or_right, eqb-true, eq-eqb}
use Rattle.std.specs.Option.{option_map}
use Rattle.std.specs.Result.{OnOk, OnErr}
use Rattle.std.specs.Ordering.{nat_cmp, eq_by_cmp}
use Rattle.std.specs.Cmp.{nat_cmp_total, unsigned_tied}
use Rattle.std.specs.FinMap as finite
use Rattle.std.specs.FinSet as set
use Rattle.ft_owned_lists.specs.OwnedLists.{Lists, list_in}
use Rattle.ft_cells.specs.declared.cell.Cell.{Cell}
use Rattle.ft_cells.specs.CellOrder.{cell_cmp}
use Rattle.ft_posix.specs.declared.call.Mode.{Mode}
use Rattle.ft_posix.specs.declared.call.Mode.TheVariants.{Read as ReadMode, Write as WriteMode}
use Rattle.ft_lock_rules.specs.declared.line.LockKind.{LockKind}
use Rattle.ft_lock_rules.specs.declared.line.LockKind.TheVariants.{Held, Retained}
use Rattle.ft_lock_rules.specs.declared.line.LockLine.{LockLine}
use Rattle.ft_lock_rules.specs.declared.lock_modes.LockModes.{LockModes}
use Rattle.ft_lock_rules.specs.LockModes.{no_marks, with_marks, as_retained, has_mark, is_marked_of}
use Rattle.ft_lock_rules.specs.Cells.{Cells, marks_at, released_owner, joined_marks, passed_to, after_hand}
use Rattle.ft_lock_rules.specs.Holdings.{has_place, AreOpenStill}
use Rattle.ft_lock_rules.specs.Locks.{LockTable, line_cmp, no_locks, is_opened, is_held, AreInherited, AreFreed}
use Rattle.ft_lock_rules.specs.Seen.{has_mark_of, has_line, is_marked_at, table_of, IsKept}
use Rattle.ft_lock_rules.proofs.Places.{marks-missing}
use Rattle.ft_lock_rules.proofs.Joining.{itself, apart_test}
use Rattle.ft_lock_rules.proofs.Tables.{lines-seen, released_cells-seen, opened-seen, locked-seen, marked_by, marked_one, same_truth, same_numbers, same_cells_set, same_lines, line, line_of_mark, mark_of_line}

-- Where the number is one that a transaction has.
or_none : (b : Bool) → (b || false) ≡ b
or_none true = refl
or_none false = refl

with_nothing : (x : LockModes) → with_marks x no_marks ≡ x
with_nothing x = λ i. record { read_held = or_none x.read_held i; read_retained = or_none x.read_retained i; write_held = or_none x.write_held i; write_retained = or_none x.write_retained i }

-- what is let go leaves no mark
join_nothing : {A : Type 0} (g : Option LockModes → A) → g (Some no_marks) ≡ g None → (x y : Option LockModes) → g (joined_marks x (option_map (passed_to released_owner) y)) ≡ g x
join_nothing g none None None = refl
join_nothing g none None (Some y) = none
join_nothing g none (Some x) None = refl
join_nothing g none (Some x) (Some y) = ap (λ z. g (Some z)) (with_nothing x)

no_line : (l : LockLine) → has_mark_of (Some no_marks) l ≡ false
no_line l = by_mode l.mode l.kind
  where
    by_mode : (mode : Mode) (kind : LockKind) → has_mark no_marks mode kind ≡ false
    by_mode ReadMode Held = refl
    by_mode ReadMode Retained = refl
    by_mode WriteMode Held = refl
    by_mode WriteMode Retained = refl

-- what an unmarked place has is no lock
pub unmarked_line : (o : Option LockModes) (l : LockLine) → is_marked_of o ≡ false → has_mark_of o l ≡ false
unmarked_line None l e = refl
unmarked_line (Some x) l e = by_mode l.mode l.kind
  where
    not_first : (a b c d : Bool) → (a || b || c || d) ≡ false → (a ≡ false) × (b ≡ false) × (c ≡ false) × (d ≡ false)
    not_first true b c d e = absurd (false≢true (sym e))
    not_first false true c d e = absurd (false≢true (sym e))
    not_first false false true d e = absurd (false≢true (sym e))
    not_first false false false true e = absurd (false≢true (sym e))
    not_first false false false false e = (refl, refl, refl, refl)

    by_mode : (mode : Mode) (kind : LockKind) → has_mark x mode kind ≡ false
    by_mode ReadMode Held = (not_first x.read_held x.read_retained x.write_held x.write_retained e).0
    by_mode ReadMode Retained = (not_first x.read_held x.read_retained x.write_held x.write_retained e).1
    by_mode WriteMode Held = (not_first x.read_held x.read_retained x.write_held x.write_retained e).2
    by_mode WriteMode Retained = (not_first x.read_held x.read_retained x.write_held x.write_retained e).3

-- Read at one owner, by a test g of its marks.
module _ {A : Type 0} (g : Option LockModes → A) (from to : ℕ) (f h : ℕ → Option LockModes) (after : (u : ℕ) → h u ≡ after_hand from to f u) where
  pub at_from : (u : ℕ) → (u == from) ≡ true → g (h u) ≡ g None
  at_from u e = ap g (after u ∙ ap (λ b. cond b None (cond (u == to) (joined_marks (f to) (option_map (passed_to to) (f from))) (f u))) e)

  pub at_to : (u : ℕ) → (u == from) ≡ false → (u == to) ≡ true → g (h u) ≡ g (joined_marks (f to) (option_map (passed_to to) (f from)))
  at_to u e d = ap g (after u ∙ ap (λ b. cond b None (cond (u == to) (joined_marks (f to) (option_map (passed_to to) (f from))) (f u))) e ∙ ap (λ b. cond b (joined_marks (f to) (option_map (passed_to to) (f from))) (f u)) d)

  pub at_other : (u : ℕ) → (u == from) ≡ false → (u == to) ≡ false → g (h u) ≡ g (f u)
  at_other u e d = ap g (after u ∙ ap (λ b. cond b None (cond (u == to) (joined_marks (f to) (option_map (passed_to to) (f from))) (f u))) e ∙ ap (λ b. cond b (joined_marks (f to) (option_map (passed_to to) (f from))) (f u)) d)

not_none : (b : Bool) (x : Bool) → b ≡ true → false ≡ (not b && x)
not_none b x e = sym (ap (λ c. not c && x) e)

not_kept : (b : Bool) (x : Bool) → b ≡ false → x ≡ (not b && x)
not_kept b x e = sym (ap (λ c. not c && x) e)

-- Letting go of what a transaction has.
module _ (m n : Cells) (txn : ℕ) (is_txn : (txn == released_owner) ≡ false) (after : (c : Cell) (u : ℕ) → marks_at n c u ≡ after_hand txn released_owner (marks_at m c) u)
    (lists : Lists Cell) (kept : IsKept m lists) where
  -- by any test of marks that finds nothing where there is no lock
  released_test : (g : Option LockModes → Bool) → g None ≡ false → g (Some no_marks) ≡ false → (c : Cell) → g (marks_at m c released_owner) ≡ false → (u : ℕ) → g (marks_at n c u) ≡ (not (u == txn) && g (marks_at m c u))
  released_test g none nothing c released_cells u = by_txn (u == txn) refl
    where
      by_released : (b : Bool) → (u == txn) ≡ false → (u == released_owner) ≡ b → g (marks_at n c u) ≡ g (marks_at m c u)
      by_released true e d =
          at_to g txn released_owner (marks_at m c) (marks_at n c) (after c) u e d ∙ join_nothing g (nothing ∙ sym none) (marks_at m c released_owner) (marks_at m c txn)
          ∙ ap (λ v. g (marks_at m c v)) (sym (eqb-true u released_owner d))
      by_released false e d = at_other g txn released_owner (marks_at m c) (marks_at n c) (after c) u e d

      by_txn : (b : Bool) → (u == txn) ≡ b → g (marks_at n c u) ≡ (not (u == txn) && g (marks_at m c u))
      by_txn true e = at_from g txn released_owner (marks_at m c) (marks_at n c) (after c) u e ∙ none ∙ not_none (u == txn) (g (marks_at m c u)) e
      by_txn false e = by_released (u == released_owner) e refl ∙ not_kept (u == txn) (g (marks_at m c u)) e

  pub released_lines : (l : LockLine) → has_line n l ≡ (not (l.owner == txn) && has_line m l)
  released_lines l = released_test (λ o. has_mark_of o l) refl (no_line l) l.cell (unmarked_line (marks_at m l.cell released_owner) l (kept.unmarked l.cell)) l.owner

  pub released_marks : (c : Cell) (u : ℕ) → is_marked_of (marks_at n c u) ≡ (not (u == txn) && is_marked_of (marks_at m c u))
  released_marks c u = released_test is_marked_of refl refl c (kept.unmarked c) u

  released_place : (c : Cell) → has_place n c released_owner ≡ (has_place m c released_owner || has_place m c txn)
  released_place c =
      at_to is_some txn released_owner (marks_at m c) (marks_at n c) (after c) released_owner (apart_test released_owner txn (λ e. false≢true (sym is_txn ∙ eq-eqb txn released_owner (sym e)))) (itself released_owner)
      ∙ joins (marks_at m c released_owner) (marks_at m c txn)
    where
      joins : (x y : Option LockModes) → is_some (joined_marks x (option_map (passed_to released_owner) y)) ≡ (is_some x || is_some y)
      joins None None = refl
      joins None (Some y) = refl
      joins (Some x) None = refl
      joins (Some x) (Some y) = refl

  -- whether somebody else has a lock
  released_marked : (c : Cell) → is_marked_at n c ≡ true → is_marked_at m c ≡ true
  released_marked c marked = let one = marked_one n c marked in marked_by m c one.0 (and_parts (not (one.0 == txn)) (is_marked_of (marks_at m c one.0)) (sym (released_marks c one.0) ∙ one.1)).1

  -- a cell that only this transaction had locked is let go
  pub released_here : (c : Cell) → (has_place n c released_owner && not (is_marked_at n c)) ≡ (has_place m c released_owner && not (is_marked_at m c) || (is_marked_at m c && not (is_marked_at n c)))
  released_here c =
      ap (λ b. b && not (is_marked_at n c)) (released_place c)
      ∙ by_marks (has_place m c released_owner) (has_place m c txn) (is_marked_at m c) (is_marked_at n c) (released_marked c)
      (λ locked free. of_txn locked free) (λ place. marked_by m c txn (kept.marked c txn is_txn place))
    where
      of_txn : is_marked_at m c ≡ true → is_marked_at n c ≡ false → has_place m c txn ≡ true
      of_txn locked free = let one = marked_one m c locked in by_owner one.0 one.1 (one.0 == txn) refl
        where
          place_of : (o : Option LockModes) → is_marked_of o ≡ true → is_some o ≡ true
          place_of None e = absurd (false≢true e)
          place_of (Some x) e = refl

          by_owner : (u : ℕ) → is_marked_of (marks_at m c u) ≡ true → (b : Bool) → (u == txn) ≡ b → has_place m c txn ≡ true
          by_owner u marked true e = ap (λ v. has_place m c v) (sym (eqb-true u txn e)) ∙ place_of (marks_at m c u) marked
          by_owner u marked false e = absurd (false≢true (sym free ∙ marked_by n c u (released_marks c u ∙ ap (λ b. not b && is_marked_of (marks_at m c u)) e ∙ marked)))

      by_marks : (a t p q : Bool) → (q ≡ true → p ≡ true) → (p ≡ true → q ≡ false → t ≡ true) → (t ≡ true → p ≡ true) → ((a || t) && not q) ≡ (a && not p || (p && not q))
      by_marks a t true true f g h = nothing (a || t) (a)
        where
          nothing : (x y : Bool) → (x && false) ≡ (y && false || false)
          nothing true true = refl
          nothing true false = refl
          nothing false true = refl
          nothing false false = refl
      by_marks a t false true f g h = absurd (false≢true (f refl))
      by_marks a t true false f g h = ap (λ s. (a || s) && true) (g refl refl) ∙ all a
        where
          all : (x : Bool) → ((x || true) && true) ≡ (x && false || true)
          all true = refl
          all false = refl
      by_marks a true false false f g h = absurd (false≢true (h refl))
      by_marks true false false false f g h = refl
      by_marks false false false false f g h = refl

-- who is open, after one has been closed
pub closed_opened : (m n : Cells) (old mid : Lists Cell) (txn : ℕ) → AreOpenStill old mid → (table_of n (finite.remove mid txn)).opened ≡ set.remove (table_of m old).opened txn
closed_opened m n old mid txn still = same_numbers _ _ (λ u.
    opened-seen n (finite.remove mid txn) u
    ∙ ap (λ b. not (u == released_owner) && b) (ap is_some (finite.get-remove nat_cmp_total mid txn u) ∙ out (eq_by_cmp nat_cmp u txn) (finite.get mid u) ∙ ap (λ b. not (eq_by_cmp nat_cmp u txn) && b) (still u))
    ∙ swap (not (u == released_owner)) (not (eq_by_cmp nat_cmp u txn)) (finite.contains_key old u)
    ∙ sym (set.contains-remove nat_cmp_total (table_of m old).opened txn u ∙ ap (λ b. not (eq_by_cmp nat_cmp u txn) && b) (opened-seen m old u)))
  where
    out : (b : Bool) (o : Option (List Cell)) → is_some (cond b None o) ≡ (not b && is_some o)
    out true o = refl
    out false o = refl

    swap : (a b c : Bool) → (a && (b && c)) ≡ (b && (a && c))
    swap true b c = refl
    swap false true c = refl
    swap false false c = refl

place_of_mark : (o : Option LockModes) → is_marked_of o ≡ true → is_some o ≡ true
place_of_mark None e = absurd (false≢true e)
place_of_mark (Some x) e = refl

-- what is kept of a table whose transaction has gone
module _ (m n : Cells) (txn : ℕ) (is_txn : (txn == released_owner) ≡ false) (after : (c : Cell) (u : ℕ) → marks_at n c u ≡ after_hand txn released_owner (marks_at m c) u)
    (old mid : Lists Cell) (kept : IsKept m old) (still : AreOpenStill old mid) where
  pub released_kept : IsKept n (finite.remove mid txn)
  released_kept = record {
    marked = λ c u is_real place. by_txn c u is_real place (u == txn) refl;
    unmarked = λ c. released_marks m n txn is_txn after old kept c released_owner ∙ ap (λ b. not (released_owner == txn) && b) (kept.unmarked c) ∙ none_of (not (released_owner == txn));
    ready = ap is_some (finite.get-remove nat_cmp_total mid txn released_owner)
        ∙ ap (λ b. is_some (cond b None (finite.get mid released_owner))) (unsigned_tied released_owner txn ∙ apart_test released_owner txn (λ e. false≢true (sym is_txn ∙ eq-eqb txn released_owner (sym e))))
        ∙ still released_owner ∙ kept.ready;
  }
    where
      none_of : (b : Bool) → (b && false) ≡ false
      none_of true = refl
      none_of false = refl

      by_txn : (c : Cell) (u : ℕ) → (u == released_owner) ≡ false → has_place n c u ≡ true → (b : Bool) → (u == txn) ≡ b → is_marked_of (marks_at n c u) ≡ true
      by_txn c u is_real place true e = absurd (false≢true (sym (at_from is_some txn released_owner (marks_at m c) (marks_at n c) (after c) u e) ∙ place))
      by_txn c u is_real place false e =
          let same = at_other (λ o. o) txn released_owner (marks_at m c) (marks_at n c) (after c) u e is_real in
          ap is_marked_of same ∙ kept.marked c u is_real (sym (ap is_some same) ∙ place)

-- what a parent has of its child's
joined_mark : (to : ℕ) → (to == released_owner) ≡ false → (x y : Option LockModes) (c : Cell) (u v : ℕ) (mode : Mode) (kind : LockKind)
    → has_mark_of (joined_marks x (option_map (passed_to to) y)) (line c u mode kind)
    ≡ (has_mark_of x (line c u mode kind) || (not (is_held kind) && (has_mark_of y (line c v mode Held) || has_mark_of y (line c v mode Retained))))
joined_mark to is_txn x y c u v mode kind =
    ap (λ b. has_mark_of (joined_marks x (option_map (λ (z : LockModes). cond b no_marks (as_retained z)) y)) (line c u mode kind)) is_txn ∙ by_parts x y mode kind
  where
    no_more : (b t : Bool) → b ≡ (b || (t && false))
    no_more true t = refl
    no_more false true = refl
    no_more false false = refl

    by_parts : (x y : Option LockModes) (mode : Mode) (kind : LockKind) → has_mark_of (joined_marks x (option_map (λ z. as_retained z) y)) (line c u mode kind)
        ≡ (has_mark_of x (line c u mode kind) || (not (is_held kind) && (has_mark_of y (line c v mode Held) || has_mark_of y (line c v mode Retained))))
    by_parts None None ReadMode Held = refl
    by_parts None None ReadMode Retained = refl
    by_parts None None WriteMode Held = refl
    by_parts None None WriteMode Retained = refl
    by_parts None (Some y) ReadMode Held = refl
    by_parts None (Some y) ReadMode Retained = refl
    by_parts None (Some y) WriteMode Held = refl
    by_parts None (Some y) WriteMode Retained = refl
    by_parts (Some x) None mode kind = no_more (has_mark x mode kind) (not (is_held kind))
    by_parts (Some x) (Some y) ReadMode Held = refl
    by_parts (Some x) (Some y) ReadMode Retained = refl
    by_parts (Some x) (Some y) WriteMode Held = refl
    by_parts (Some x) (Some y) WriteMode Retained = refl

-- A child's locks are its parent's.
module _ (m n : Cells) (child parent : ℕ) (is_child : (child == released_owner) ≡ false) (is_parent : (parent == released_owner) ≡ false) (apart : child ≡ parent → ⊥)
    (after : (c : Cell) (u : ℕ) → marks_at n c u ≡ after_hand child parent (marks_at m c) u) where
  parent_apart : (parent == child) ≡ false
  parent_apart = apart_test parent child (λ e. apart (sym e))

  pub inherited_lines : (l : LockLine) → has_line n l
      ≡ (not (l.owner == child) && (has_line m l || ((l.owner == parent) && not (is_held l.kind) && (has_line m (line l.cell child l.mode Held) || has_line m (line l.cell child l.mode Retained)))))
  inherited_lines l = by_child (l.owner == child) refl
    where
      more : Bool
      more = has_line m (line l.cell child l.mode Held) || has_line m (line l.cell child l.mode Retained)

      by_parent : (b : Bool) → (l.owner == child) ≡ false → (l.owner == parent) ≡ b
          → has_line n l ≡ (has_line m l || ((l.owner == parent) && not (is_held l.kind) && (has_line m (line l.cell child l.mode Held) || has_line m (line l.cell child l.mode Retained))))
      by_parent true e d =
          at_to (λ o. has_mark_of o l) child parent (marks_at m l.cell) (marks_at n l.cell) (after l.cell) l.owner e d
          ∙ joined_mark parent is_parent (marks_at m l.cell parent) (marks_at m l.cell child) l.cell l.owner child l.mode l.kind
          ∙ ap (λ v. has_mark_of (marks_at m l.cell v) l || (not (is_held l.kind) && (has_line m (line l.cell child l.mode Held) || has_line m (line l.cell child l.mode Retained)))) (sym (eqb-true l.owner parent d))
          ∙ sym (ap (λ b. has_line m l || (b && not (is_held l.kind) && (has_line m (line l.cell child l.mode Held) || has_line m (line l.cell child l.mode Retained)))) d)
      by_parent false e d =
          at_other (λ o. has_mark_of o l) child parent (marks_at m l.cell) (marks_at n l.cell) (after l.cell) l.owner e d
          ∙ sym (ap (λ b. has_line m l || (b && not (is_held l.kind) && (has_line m (line l.cell child l.mode Held) || has_line m (line l.cell child l.mode Retained)))) d ∙ or_none (has_line m l))

      by_child : (b : Bool) → (l.owner == child) ≡ b
          → has_line n l ≡ (not (l.owner == child) && (has_line m l || ((l.owner == parent) && not (is_held l.kind) && (has_line m (line l.cell child l.mode Held) || has_line m (line l.cell child l.mode Retained)))))
      by_child true e = at_from (λ o. has_mark_of o l) child parent (marks_at m l.cell) (marks_at n l.cell) (after l.cell) l.owner e ∙ not_none (l.owner == child) _ e
      by_child false e = by_parent (l.owner == parent) e refl ∙ not_kept (l.owner == child) _ e

  -- the parent has a mark where one of the two had one
  joined_marked : (c : Cell) → is_marked_of (marks_at n c parent) ≡ is_marked_of (joined_marks (marks_at m c parent) (option_map (passed_to parent) (marks_at m c child)))
  joined_marked c = at_to is_marked_of child parent (marks_at m c) (marks_at n c) (after c) parent parent_apart (itself parent)

  of_parent : (c : Cell) → is_marked_of (marks_at m c parent) ≡ true → is_marked_of (marks_at n c parent) ≡ true
  of_parent c marked =
      let one = line_of_mark c parent (marks_at m c parent) marked in
      joined_marked c ∙ mark_of_line (joined_marks (marks_at m c parent) (option_map (passed_to parent) (marks_at m c child))) (line c parent one.0 one.1)
      (joined_mark parent is_parent (marks_at m c parent) (marks_at m c child) c parent child one.0 one.1 ∙ or_left _ _ one.2)

  of_child : (c : Cell) → is_marked_of (marks_at m c child) ≡ true → is_marked_of (marks_at n c parent) ≡ true
  of_child c marked =
      let one = line_of_mark c child (marks_at m c child) marked in
      joined_marked c ∙ mark_of_line (joined_marks (marks_at m c parent) (option_map (passed_to parent) (marks_at m c child))) (line c parent one.0 Retained)
      (joined_mark parent is_parent (marks_at m c parent) (marks_at m c child) c parent child one.0 Retained
      ∙ or_right (has_mark_of (marks_at m c parent) (line c parent one.0 Retained)) _ (of_kind one.0 one.1 one.2))
    where
      of_kind : (mode : Mode) (kind : LockKind) → has_mark_of (marks_at m c child) (line c child mode kind) ≡ true
          → (has_mark_of (marks_at m c child) (line c child mode Held) || has_mark_of (marks_at m c child) (line c child mode Retained)) ≡ true
      of_kind mode Held e = or_left _ _ e
      of_kind mode Retained e = or_right (has_mark_of (marks_at m c child) (line c child mode Held)) _ e

  from_either : (c : Cell) → is_marked_of (marks_at n c parent) ≡ true → is_marked_at m c ≡ true
  from_either c marked =
      let one = line_of_mark c parent (joined_marks (marks_at m c parent) (option_map (passed_to parent) (marks_at m c child))) (sym (joined_marked c) ∙ marked) in
      of_one one.0 one.1 (or_cases _ _ (sym (joined_mark parent is_parent (marks_at m c parent) (marks_at m c child) c parent child one.0 one.1) ∙ one.2))
    where
      of_one : (mode : Mode) (kind : LockKind)
          → (has_mark_of (marks_at m c parent) (line c parent mode kind) ≡ true) ⊎ ((not (is_held kind) && (has_mark_of (marks_at m c child) (line c child mode Held) || has_mark_of (marks_at m c child) (line c child mode Retained))) ≡ true)
          → is_marked_at m c ≡ true
      of_one mode kind (inl e) = marked_by m c parent (mark_of_line (marks_at m c parent) (line c parent mode kind) e)
      of_one mode kind (inr e) = of_two (or_cases _ _ (and_parts (not (is_held kind)) _ e).1)
        where
          of_two : (has_mark_of (marks_at m c child) (line c child mode Held) ≡ true) ⊎ (has_mark_of (marks_at m c child) (line c child mode Retained) ≡ true) → is_marked_at m c ≡ true
          of_two (inl d) = marked_by m c child (mark_of_line (marks_at m c child) (line c child mode Held) d)
          of_two (inr d) = marked_by m c child (mark_of_line (marks_at m c child) (line c child mode Retained) d)

  pub inherited_marked : (c : Cell) → is_marked_at n c ≡ is_marked_at m c
  inherited_marked c = same_truth _ _
      (λ marked. let one = marked_one n c marked in back one.0 one.1 (one.0 == child) refl (one.0 == parent) refl)
      (λ marked. let one = marked_one m c marked in forth one.0 one.1 (one.0 == child) refl (one.0 == parent) refl)
    where
      back : (u : ℕ) → is_marked_of (marks_at n c u) ≡ true → (a : Bool) → (u == child) ≡ a → (b : Bool) → (u == parent) ≡ b → is_marked_at m c ≡ true
      back u marked true e b d = absurd (false≢true (sym (at_from is_marked_of child parent (marks_at m c) (marks_at n c) (after c) u e) ∙ marked))
      back u marked false e true d = from_either c (ap (λ v. is_marked_of (marks_at n c v)) (sym (eqb-true u parent d)) ∙ marked)
      back u marked false e false d = marked_by m c u (sym (at_other is_marked_of child parent (marks_at m c) (marks_at n c) (after c) u e d) ∙ marked)

      forth : (u : ℕ) → is_marked_of (marks_at m c u) ≡ true → (a : Bool) → (u == child) ≡ a → (b : Bool) → (u == parent) ≡ b → is_marked_at n c ≡ true
      forth u marked true e b d = marked_by n c parent (of_child c (ap (λ v. is_marked_of (marks_at m c v)) (sym (eqb-true u child e)) ∙ marked))
      forth u marked false e true d = marked_by n c parent (of_parent c (ap (λ v. is_marked_of (marks_at m c v)) (sym (eqb-true u parent d)) ∙ marked))
      forth u marked false e false d = marked_by n c u (at_other is_marked_of child parent (marks_at m c) (marks_at n c) (after c) u e d ∙ marked)

  zero_apart : (u : ℕ) → (u == released_owner) ≡ false → (released_owner == u) ≡ false
  zero_apart u e = apart_test released_owner u (λ d. false≢true (sym e ∙ eq-eqb u released_owner (sym d)))

  pub inherited_at_zero : (c : Cell) → marks_at n c released_owner ≡ marks_at m c released_owner
  inherited_at_zero c = at_other (λ o. o) child parent (marks_at m c) (marks_at n c) (after c) released_owner (zero_apart child is_child) (zero_apart parent is_parent)

  module _ (old mid : Lists Cell) (kept : IsKept m old) (still : AreOpenStill old mid) where
    pub inherited_kept : IsKept n (finite.remove mid child)
    inherited_kept = record {
      marked = λ c u is_real place. by_owner c u is_real place (u == child) refl (u == parent) refl;
      unmarked = λ c. ap is_marked_of (inherited_at_zero c) ∙ kept.unmarked c;
      ready = ap is_some (finite.get-remove nat_cmp_total mid child released_owner)
          ∙ ap (λ b. is_some (cond b None (finite.get mid released_owner))) (unsigned_tied released_owner child ∙ zero_apart child is_child)
          ∙ still released_owner ∙ kept.ready;
    }
      where
        places : (x y : Option LockModes) → is_some (joined_marks x (option_map (passed_to parent) y)) ≡ true → (is_some x ≡ true) ⊎ (is_some y ≡ true)
        places None None e = absurd (false≢true e)
        places None (Some y) e = inr refl
        places (Some x) y e = inl refl

        of_places : (c : Cell) → (has_place m c parent ≡ true) ⊎ (has_place m c child ≡ true) → is_marked_of (marks_at n c parent) ≡ true
        of_places c (inl e) = of_parent c (kept.marked c parent is_parent e)
        of_places c (inr e) = of_child c (kept.marked c child is_child e)

        by_owner : (c : Cell) (u : ℕ) → (u == released_owner) ≡ false → has_place n c u ≡ true → (a : Bool) → (u == child) ≡ a → (b : Bool) → (u == parent) ≡ b → is_marked_of (marks_at n c u) ≡ true
        by_owner c u is_real place true e b d = absurd (false≢true (sym (at_from is_some child parent (marks_at m c) (marks_at n c) (after c) u e) ∙ place))
        by_owner c u is_real place false e true d =
            ap (λ v. is_marked_of (marks_at n c v)) (eqb-true u parent d)
            ∙ of_places c (places (marks_at m c parent) (marks_at m c child) (sym (at_to is_some child parent (marks_at m c) (marks_at n c) (after c) u e d) ∙ place))
        by_owner c u is_real place false e false d =
            let same = at_other (λ o. o) child parent (marks_at m c) (marks_at n c) (after c) u e d in
            ap is_marked_of same ∙ kept.marked c u is_real (sym (ap is_some same) ∙ place)

    pub inherited : AreInherited (table_of m old) (table_of n (finite.remove mid child)) child parent
    inherited = record {
      lines = λ l. lines-seen n (finite.remove mid child) l ∙ inherited_lines l
          ∙ sym (λ i. not (l.owner == child) && (lines-seen m old l i || ((l.owner == parent) && not (is_held l.kind) && (lines-seen m old (line l.cell child l.mode Held) i || lines-seen m old (line l.cell child l.mode Retained) i))));
      released_cells = same_cells_set _ _ (λ c. released_cells-seen n (finite.remove mid child) c ∙ (λ i. is_some (inherited_at_zero c i) && not (inherited_marked c i)) ∙ sym (released_cells-seen m old c));
      opened = closed_opened m n old mid child still;
      keeps_all = refl;
    }

-- A transaction's locks are dropped.
pub released : (m n : Cells) (txn : ℕ) (is_txn : (txn == released_owner) ≡ false) (after : (c : Cell) (u : ℕ) → marks_at n c u ≡ after_hand txn released_owner (marks_at m c) u)
    (old mid : Lists Cell) → IsKept m old → AreOpenStill old mid → AreFreed true (table_of m old) (table_of n (finite.remove mid txn)) txn
released m n txn is_txn after old mid kept still = record {
  lines = λ l. lines-seen n (finite.remove mid txn) l ∙ released_lines m n txn is_txn after old kept l ∙ ap (λ b. not (l.owner == txn) && b) (sym (lines-seen m old l));
  released_cells = λ c. released_cells-seen n (finite.remove mid txn) c ∙ released_here m n txn is_txn after old kept c
      ∙ sym (λ i. released_cells-seen m old c i || (locked-seen m old c i && not (locked-seen n (finite.remove mid txn) c i)));
  opened = closed_opened m n old mid txn still;
}

-- an open transaction has a number and a list
pub opened_open : (t : LockTable) (m : Cells) (lists : Lists Cell) → table_of m lists ≡ t → (u : ℕ) → is_opened t u ≡ true → ((u == released_owner) ≡ false) × (is_some (finite.get lists u) ≡ true)
opened_open t m lists is u is_there = parts (u == released_owner) (finite.contains_key lists u) (sym (opened-seen m lists u) ∙ ap (λ x. is_opened x u) is ∙ is_there)
  where
    parts : (a b : Bool) → (not a && b) ≡ true → (a ≡ false) × (b ≡ true)
    parts true b e = absurd (false≢true e)
    parts false b e = (refl, e)

-- whether one is open, by its list
pub opened_is : (t : LockTable) (m : Cells) (lists : Lists Cell) → table_of m lists ≡ t → (u v : ℕ) → v ≡ u → is_opened t u ≡ (not (v == released_owner) && finite.contains_key lists v)
opened_is t m lists is u v same = ap (λ x. is_opened x u) (sym is) ∙ opened-seen m lists u ∙ ap (λ w. not (w == released_owner) && finite.contains_key lists w) (sym same)

module _ (t : LockTable) (m : Cells) (old : Lists Cell) (is : table_of m old ≡ t) (kept : IsKept m old) where
  module _ (k : Cells) (mid : Lists Cell) (still : AreOpenStill old mid) (n : Cells) (new : Lists Cell) (n_is : n ≡ k) where
    module _ (child parent c p : ℕ) (c_is : c ≡ child) (p_is : p ≡ parent) (child_open : is_opened t child ≡ true) (parent_open : is_opened t parent ≡ true) (apart : child ≡ parent → ⊥)
        (after : (d : Cell) (u : ℕ) → marks_at k d u ≡ after_hand c p (marks_at m d) u) (new_is : new ≡ finite.remove mid c) where
      handed_so : (d : Cell) (u : ℕ) → marks_at k d u ≡ after_hand child parent (marks_at m d) u
      handed_so d u = after d u ∙ (λ i. after_hand (c_is i) (p_is i) (marks_at m d) u)

      child_real : (child == released_owner) ≡ false
      child_real = (opened_open t m old is child child_open).0

      parent_real : (parent == released_owner) ≡ false
      parent_real = (opened_open t m old is parent parent_open).0

      ends : table_of k (finite.remove mid child) ≡ table_of n new
      ends = λ i. table_of (sym n_is i) (sym (new_is ∙ ap (finite.remove mid) c_is) i)

      pub inherit_kept : IsKept n new
      inherit_kept = subst (λ (x : Cells × Lists Cell). IsKept x.0 x.1) (λ i. (sym n_is i, sym (new_is ∙ ap (finite.remove mid) c_is) i))
          (inherited_kept m k child parent child_real parent_real apart handed_so old mid kept still)

      pub inherit_view : AreInherited t (table_of n new) child parent
      inherit_view = subst (λ x. AreInherited x (table_of n new) child parent) is
          (subst (λ x. AreInherited (table_of m old) x child parent) ends (inherited m k child parent child_real parent_real apart handed_so old mid kept still))

    module _ (txn u : ℕ) (u_is : u ≡ txn) (txn_open : is_opened t txn ≡ true)
        (after : (d : Cell) (v : ℕ) → marks_at k d v ≡ after_hand u released_owner (marks_at m d) v) (new_is : new ≡ finite.remove mid u) where
      released_so : (d : Cell) (v : ℕ) → marks_at k d v ≡ after_hand txn released_owner (marks_at m d) v
      released_so d v = after d v ∙ (λ i. after_hand (u_is i) released_owner (marks_at m d) v)

      txn_real : (txn == released_owner) ≡ false
      txn_real = (opened_open t m old is txn txn_open).0

      gone : table_of k (finite.remove mid txn) ≡ table_of n new
      gone = λ i. table_of (sym n_is i) (sym (new_is ∙ ap (finite.remove mid) u_is) i)

      pub release_kept : IsKept n new
      release_kept = subst (λ (x : Cells × Lists Cell). IsKept x.0 x.1) (λ i. (sym n_is i, sym (new_is ∙ ap (finite.remove mid) u_is) i))
          (released_kept m k txn txn_real released_so old mid kept still)

      pub release_view : AreFreed true t (table_of n new) txn
      release_view = subst (λ x. AreFreed true x (table_of n new) txn) is
          (subst (λ x. AreFreed true (table_of m old) x txn) gone (released m k txn txn_real released_so old mid kept still))

  -- one more transaction is open
  pub open_view : (n : Cells) (new : Lists Cell) (u : ℕ) (l : List Cell) → n ≡ m → (u == released_owner) ≡ false → new ≡ finite.insert old u l
      → table_of n new ≡ record t { opened = set.insert t.opened u }
  open_view n new u l n_is is_real new_is =
      let opens : (table_of m (finite.insert old u l)).opened ≡ set.insert t.opened u = same_numbers _ _ (λ v.
      opened-seen m (finite.insert old u l) v
      ∙ ap (λ b. not (v == released_owner) && b) (ap is_some (finite.get-insert nat_cmp_total old u l v) ∙ put (eq_by_cmp nat_cmp v u) (finite.get old v))
      ∙ by_number v (eq_by_cmp nat_cmp v u) refl
      ∙ sym (set.contains-insert nat_cmp_total t.opened u v ∙ ap (λ b. eq_by_cmp nat_cmp v u || b) (ap (λ x. is_opened x v) (sym is) ∙ opened-seen m old v))) in
      (λ i. table_of (n_is i) (new_is i)) ∙ (λ i. record { lines = (is i).lines; released_cells = (is i).released_cells; opened = opens i; keeps_all = (is i).keeps_all })
    where
      put : (b : Bool) (o : Option (List Cell)) → is_some (cond b (Some l) o) ≡ (b || is_some o)
      put true o = refl
      put false o = refl

      by_number : (v : ℕ) (b : Bool) → eq_by_cmp nat_cmp v u ≡ b
          → (not (v == released_owner) && (eq_by_cmp nat_cmp v u || finite.contains_key old v)) ≡ (eq_by_cmp nat_cmp v u || (not (v == released_owner) && finite.contains_key old v))
      by_number v true e =
          (λ i. not (v == released_owner) && (e i || finite.contains_key old v))
          ∙ ap (λ b. not b && true) (ap (λ x. x == released_owner) (eqb-true v u (sym (unsigned_tied v u) ∙ e)) ∙ is_real)
          ∙ sym (ap (λ b. b || (not (v == released_owner) && finite.contains_key old v)) e)
      by_number v false e =
          (λ i. not (v == released_owner) && (e i || finite.contains_key old v))
          ∙ sym (ap (λ b. b || (not (v == released_owner) && finite.contains_key old v)) e)

  -- what is kept where the lists alone have changed, and nobody has been closed
  pub kept_open : (n : Cells) (new : Lists Cell) → n ≡ m → (is_some (finite.get old released_owner) ≡ true → is_some (finite.get new released_owner) ≡ true) → IsKept n new
  kept_open n new n_is open_still = record {
    marked = λ c u is_real place. ap (λ x. is_marked_of (marks_at x c u)) n_is ∙ kept.marked c u is_real (sym (ap (λ x. has_place x c u) n_is) ∙ place);
    unmarked = λ c. ap (λ x. is_marked_of (marks_at x c released_owner)) n_is ∙ kept.unmarked c;
    ready = open_still kept.ready;
  }

-- opening one keeps the others open
pub opens_more : {E : Type 0} (r : Result (Unit {0}) E) (old new : Lists Cell) (u : ℕ) (l : List Cell) → OnOk r (new ≡ finite.insert old u l) → OnErr r (new ≡ old)
    → (v : ℕ) → is_some (finite.get old v) ≡ true → is_some (finite.get new v) ≡ true
opens_more (Ok x) old new u l ok err v there = ap (λ m. is_some (finite.get m v)) ok ∙ ap is_some (finite.get-insert nat_cmp_total old u l v) ∙ put (eq_by_cmp nat_cmp v u) (finite.get old v) there
  where
    put : (b : Bool) (o : Option (List Cell)) → is_some o ≡ true → is_some (cond b (Some l) o) ≡ true
    put true o e = refl
    put false o e = e
opens_more (Err e) old new u l ok err v there = ap (λ m. is_some (finite.get m v)) err ∙ there

abbrev no_lists : Lists Cell
no_lists = finite.empty

-- nothing is seen of a table with no cell
pub seen_none : (m : Cells) (lists : Lists Cell) → m ≡ finite.empty → lists ≡ finite.insert no_lists released_owner (list_in no_lists released_owner) → (IsKept m lists) × (table_of m lists ≡ no_locks)
seen_none m lists no_cells only = (
  record {
    marked = λ c u is_real place. absurd (false≢true (sym (ap is_some (nothing c u)) ∙ place));
    unmarked = λ c. ap is_marked_of (nothing c released_owner);
    ready = ap (λ x. is_some (finite.get x released_owner)) only ∙ ap is_some (finite.get-insert nat_cmp_total no_lists released_owner (list_in no_lists released_owner) released_owner);
  },
  (λ i. record {
    lines = same_lines (table_of m lists).lines set.empty (λ l. lines-seen m lists l ∙ ap (λ o. has_mark_of o l) (nothing l.cell l.owner) ∙ sym (set.contains-empty line_cmp l)) i;
    released_cells = same_cells_set (table_of m lists).released_cells set.empty (λ c. released_cells-seen m lists c ∙ ap (λ o. is_some o && not (is_marked_at m c)) (nothing c released_owner) ∙ sym (set.contains-empty cell_cmp c)) i;
    opened = same_numbers (table_of m lists).opened set.empty (λ u. opened-seen m lists u ∙ nobody u (u == released_owner) refl ∙ sym (set.contains-empty nat_cmp u)) i;
    keeps_all = false;
  }),
)
  where
    nothing : (c : Cell) (u : ℕ) → marks_at m c u ≡ None
    nothing c u = marks-missing m c (sym (ap (λ x. finite.get x c) no_cells ∙ finite.get-empty cell_cmp c)) u

    nobody : (u : ℕ) (b : Bool) → (u == released_owner) ≡ b → (not (u == released_owner) && finite.contains_key lists u) ≡ false
    nobody u true e = ap (λ b. not b && finite.contains_key lists u) e
    nobody u false e =
        ap (λ b. not b && finite.contains_key lists u) e
        ∙ ap (λ x. is_some (finite.get x u)) only ∙ ap is_some (finite.get-insert nat_cmp_total no_lists released_owner (list_in no_lists released_owner) u)
        ∙ ap (λ b. is_some (cond b (Some (list_in no_lists released_owner)) (finite.get no_lists u))) (unsigned_tied u released_owner ∙ e) ∙ ap is_some (finite.get-empty nat_cmp u)
