-- What callers see after a place of what was let go is taken out.
use Rattle.std.proofs.Common.{◌≡◌, ℕ, Bool, true, false, cond, not, ◌&&◌, ◌==◌, List, Option, Some, None, IsSome, is_some, refl, sym, ap, ◌∙◌}
use Rattle.std.proofs.lemmas.Bool.{false≢true, eqb-true}
use Rattle.std.specs.Cmp.{nat_cmp_total, eq_by_cmp_equiv, unsigned_tied}
use Rattle.std.specs.FinMap as finite
use Rattle.std.specs.FinSet as set
use Rattle.ft_owned_lists.specs.OwnedLists.{Lists}
use Rattle.ft_cells.specs.declared.cell.Cell.{Cell}
use Rattle.ft_cells.specs.CellOrder.{cell_cmp, cell_cmp_total, same_cell, same_cell-is}
use Rattle.ft_lock_rules.specs.declared.line.LockLine.{LockLine}
use Rattle.ft_lock_rules.specs.declared.lock_modes.LockModes.{LockModes}
use Rattle.ft_lock_rules.specs.Cells.{Cells, marks_at, is_at, released_owner}
use Rattle.ft_lock_rules.specs.Holdings.{has_place}
use Rattle.ft_lock_rules.specs.Locks.{is_released}
use Rattle.ft_lock_rules.specs.LockModes.{is_marked_of}
use Rattle.ft_lock_rules.specs.Seen.{has_mark_of, has_line, is_marked_at, table_of, IsKept}
use Rattle.ft_lock_rules.proofs.Joining.{placed-out, itself}
use Rattle.ft_lock_rules.proofs.Tables.{lines-seen, released_cells-seen, opened-seen, marked_by, marked_one, same_truth, same_lines, same_cells_set, same_numbers}
use Rattle.ft_lock_rules.proofs.Handing.{unmarked_line}

module _ (m n : Cells) (k : Cell) (after : (c : Cell) (u : ℕ) → marks_at n c u ≡ cond (is_at k released_owner c u) None (marks_at m c u))
    (old new : Lists Cell) (rest : List Cell) (new_is : new ≡ finite.insert old released_owner rest) (kept : IsKept m old) where
  -- a test that finds nothing in what was let go
  same_test : (g : Option LockModes → Bool) → g None ≡ false → (c : Cell) → g (marks_at m c released_owner) ≡ false → (u : ℕ) → g (marks_at n c u) ≡ g (marks_at m c u)
  same_test g none c nothing u = ap g (after c u) ∙ by_place (same_cell c k) (u == released_owner) refl
    where
      by_place : (a b : Bool) → (u == released_owner) ≡ b → g (cond (a && b) None (marks_at m c u)) ≡ g (marks_at m c u)
      by_place true true e = none ∙ sym (ap (λ v. g (marks_at m c v)) (eqb-true u released_owner e) ∙ nothing)
      by_place true false e = refl
      by_place false b e = refl

  taken_line : (l : LockLine) → has_line n l ≡ has_line m l
  taken_line l = same_test (λ o. has_mark_of o l) refl l.cell (unmarked_line (marks_at m l.cell released_owner) l (kept.unmarked l.cell)) l.owner

  taken_mark : (c : Cell) (u : ℕ) → is_marked_of (marks_at n c u) ≡ is_marked_of (marks_at m c u)
  taken_mark c u = same_test is_marked_of refl c (kept.unmarked c) u

  taken_marked : (c : Cell) → is_marked_at n c ≡ is_marked_at m c
  taken_marked c = same_truth _ _
      (λ marked. let one = marked_one n c marked in marked_by m c one.0 (sym (taken_mark c one.0) ∙ one.1))
      (λ marked. let one = marked_one m c marked in marked_by n c one.0 (taken_mark c one.0 ∙ one.1))

  taken_place : (c : Cell) → has_place n c released_owner ≡ (not (same_cell c k) && has_place m c released_owner)
  taken_place c =
      ap is_some (after c released_owner) ∙ placed-out (is_at k released_owner c released_owner) (marks_at m c released_owner)
      ∙ ap (λ b. not b && has_place m c released_owner) (ap (λ b. same_cell c k && b) (itself released_owner) ∙ and_true (same_cell c k))
    where
      and_true : (b : Bool) → (b && true) ≡ b
      and_true true = refl
      and_true false = refl

  pub taken_kept : IsKept n new
  taken_kept = record {
    marked = λ c u is_real place. taken_mark c u ∙ kept.marked c u is_real (sym (placed c u is_real) ∙ place);
    unmarked = λ c. taken_mark c released_owner ∙ kept.unmarked c;
    ready = ap (λ x. is_some (finite.get x released_owner)) new_is ∙ ap is_some (finite.get-insert nat_cmp_total old released_owner rest released_owner);
  }
    where
      placed : (c : Cell) (u : ℕ) → (u == released_owner) ≡ false → has_place n c u ≡ has_place m c u
      placed c u is_real = ap is_some (after c u) ∙ ap (λ b. is_some (cond (same_cell c k && b) None (marks_at m c u))) is_real ∙ ap (λ b. is_some (cond b None (marks_at m c u))) (and_false (same_cell c k))
        where
          and_false : (b : Bool) → (b && false) ≡ false
          and_false true = refl
          and_false false = refl

  taken_opened : (table_of n new).opened ≡ (table_of m old).opened
  taken_opened = same_numbers _ _ (λ u.
      opened-seen n new u ∙ ap (λ x. not (u == released_owner) && is_some (finite.get x u)) new_is
      ∙ ap (λ b. not (u == released_owner) && is_some b) (finite.get-insert nat_cmp_total old released_owner rest u)
      ∙ ap (λ b. not (u == released_owner) && is_some (cond b (Some rest) (finite.get old u))) (unsigned_tied u released_owner)
      ∙ by_number (u == released_owner) (finite.get old u) ∙ sym (opened-seen m old u))
    where
      by_number : (b : Bool) (o : Option (List Cell)) → (not b && is_some (cond b (Some rest) o)) ≡ (not b && is_some o)
      by_number true o = refl
      by_number false o = refl

  taken_lines : (table_of n new).lines ≡ (table_of m old).lines
  taken_lines = same_lines _ _ (λ l. lines-seen n new l ∙ taken_line l ∙ sym (lines-seen m old l))

  -- where others have locks there, nothing is seen of it
  pub taken_unseen : (u : ℕ) × IsSome (marks_at n k u) → table_of n new ≡ table_of m old
  taken_unseen other =
      let still = same_cells_set (table_of n new).released_cells (table_of m old).released_cells (λ c.
      released_cells-seen n new c ∙ (λ i. taken_place c i && not (taken_marked c i))
      ∙ by_cell c (same_cell c k) refl ∙ sym (released_cells-seen m old c)) in
      λ i. record { lines = taken_lines i; released_cells = still i; opened = taken_opened i; keeps_all = false }
    where
      not_zero : (u : ℕ) → is_some (marks_at n k u) ≡ true → (b : Bool) → (u == released_owner) ≡ b → (u == released_owner) ≡ false
      not_zero u place true e = absurd (false≢true (sym (ap is_some (after k u) ∙ ap (λ b. is_some (cond b None (marks_at m k u))) (λ i. (eq_by_cmp_equiv cell_cmp_total).refl k i && e i)) ∙ place))
      not_zero u place false e = e

      marked : is_marked_at m k ≡ true
      marked =
          let real = not_zero other.0 other.1 (other.0 == released_owner) refl in
          sym (taken_marked k) ∙ marked_by n k other.0 (taken_kept.marked k other.0 real other.1)

      by_cell : (c : Cell) (b : Bool) → same_cell c k ≡ b → (not (same_cell c k) && has_place m c released_owner && not (is_marked_at m c)) ≡ (has_place m c released_owner && not (is_marked_at m c))
      by_cell c true e =
          let there = ap (is_marked_at m) (same_cell-is c k e) ∙ marked in
          (λ i. not (e i) && has_place m c released_owner && not (there i)) ∙ sym (ap (λ b. has_place m c released_owner && not b) there ∙ and_false (has_place m c released_owner))
        where
          and_false : (b : Bool) → (b && false) ≡ false
          and_false true = refl
          and_false false = refl
      by_cell c false e = λ i. not (e i) && has_place m c released_owner && not (is_marked_at m c)

  module _ (free : (u : ℕ) → marks_at n k u ≡ None) (there : is_some (marks_at m k released_owner) ≡ true) where
    -- the cell was let go
    pub taken_was : is_released (table_of m old) k ≡ true
    taken_was = released_cells-seen m old k ∙ (λ i. there i && not (unmarked i))
      where
        unmarked : is_marked_at m k ≡ false
        unmarked = same_truth (is_marked_at m k) false
            (λ marked. let one = marked_one n k (taken_marked k ∙ marked) in sym (ap is_marked_of (free one.0)) ∙ one.1) (λ e. absurd (false≢true e))

    -- and is not any more
    pub taken_seen : table_of n new ≡ record (table_of m old) { released_cells = set.remove (table_of m old).released_cells k }
    taken_seen =
        let less = same_cells_set (table_of n new).released_cells (set.remove (table_of m old).released_cells k) (λ c.
        released_cells-seen n new c ∙ (λ i. taken_place c i && not (taken_marked c i)) ∙ group (not (same_cell c k)) (has_place m c released_owner) (not (is_marked_at m c))
        ∙ ap (λ b. not (same_cell c k) && b) (sym (released_cells-seen m old c)) ∙ sym (set.contains-remove cell_cmp_total (table_of m old).released_cells k c)) in
        λ i. record { lines = taken_lines i; released_cells = less i; opened = taken_opened i; keeps_all = false }
      where
        group : (a b c : Bool) → (a && b && c) ≡ (a && (b && c))
        group true b c = refl
        group false b c = refl

-- nothing is let go where no cell is in the list
pub nothing_released : (m : Cells) (lists : Lists Cell) → ((c : Cell) → marks_at m c released_owner ≡ None) → (table_of m lists).released_cells ≡ set.empty
nothing_released m lists none = same_cells_set _ _ (λ c. released_cells-seen m lists c ∙ ap (λ o. is_some o && not (is_marked_at m c)) (none c) ∙ sym (set.contains-empty cell_cmp c))
