-- Places that are taken back, the newest first.
use Rattle.std.proofs.Common.{◌≡◌, ◌<◌, ◌-◌, ℕ, suc, Bool, true, false, cond, ◌&&◌, ◌||◌, ◌==◌, take, Option, Some, None, is_some, refl, sym, ap, ◌∙◌, arith}
use Rattle.std.proofs.lemmas.Bool.{eqb-true}
use Rattle.std.specs.List.{list_any}
use Rattle.std.specs.Option.{IfSome, IfNone}
use Rattle.std.specs.FinMap as finite
use Rattle.ft_owned_lists.specs.OwnedLists.{list_in}
use Rattle.ft_cells.specs.declared.cell.Cell.{Cell}
use Rattle.ft_cells.specs.CellOrder.{same_cell}
use Rattle.ft_lock_rules.specs.declared.lock_modes.LockModes.{LockModes}
use Rattle.ft_locks.specs.declared.holdings.Dropped.{Dropped}
use Rattle.ft_lock_rules.specs.Cells.{marks_at}
use Rattle.ft_lock_rules.specs.Holdings.{Held as Places, AreOpenStill, after_back, IsDropped}
use Rattle.ft_lock_rules.proofs.Joining.{open_if_listed, still-insert}

back_bools : (a s t : Bool) (x : Option LockModes) → cond (a && t) None (cond (s && a) None x) ≡ cond (a && (s || t)) None x
back_bools true true true x = refl
back_bools true true false x = refl
back_bools true false t x = refl
back_bools false true t x = refl
back_bools false false t x = refl

-- one place less to take back
pub back_step : (old new : Places) (owner count : ℕ) (r : Option Dropped) → 0 < count
    → IfNone r (((c : Cell) → marks_at old.cells c owner ≡ None) × (new ≡ old))
    → IfSome r (λ d. IsDropped old new owner d.freed)
    → (c : Cell) (u : ℕ) → after_back (count - 1) owner new.cells new.lists c u ≡ after_back count owner old.cells old.lists c u
back_step old new owner count (Some d) some none dropped c u =
    let next : count ≡ suc (count - 1) = omega (arith, some) in
    let rest = take (count - 1) (list_in new.lists owner) in
    ap (cond ((u == owner) && list_any (same_cell c) rest) None) (dropped.marks c u)
    ∙ back_bools (u == owner) (same_cell c dropped.cell) (list_any (same_cell c) rest) (marks_at old.cells c u)
    ∙ sym (ap (λ n. cond ((u == owner) && list_any (same_cell c) (take n (list_in old.lists owner))) None (marks_at old.cells c u)) next
    ∙ ap (λ l. cond ((u == owner) && list_any (same_cell c) (take (suc (count - 1)) l)) None (marks_at old.cells c u)) dropped.list)
back_step old new owner count None some none dropped c u =
    ap (λ (h : Places). after_back (count - 1) owner h.cells h.lists c u) none.1
    ∙ nothing (list_any (same_cell c) (take (count - 1) (list_in old.lists owner)))
    ∙ sym (nothing (list_any (same_cell c) (take count (list_in old.lists owner))))
  where
    by_owner : (a b : Bool) → (u == owner) ≡ a → cond (a && b) None (marks_at old.cells c u) ≡ marks_at old.cells c u
    by_owner true true e = sym (ap (marks_at old.cells c) (eqb-true u owner e) ∙ none.0 c)
    by_owner true false e = refl
    by_owner false b e = refl

    nothing : (b : Bool) → cond ((u == owner) && b) None (marks_at old.cells c u) ≡ marks_at old.cells c u
    nothing b = by_owner (u == owner) b refl

pub back_still : (old new : Places) (owner : ℕ) (r : Option Dropped)
    → IfNone r (((c : Cell) → marks_at old.cells c owner ≡ None) × (new ≡ old))
    → IfSome r (λ d. IsDropped old new owner d.freed) → AreOpenStill old.lists new.lists
back_still old new owner (Some d) none dropped u =
    ap (λ m. is_some (finite.get m u)) dropped.lists ∙ still-insert old.lists owner (list_in new.lists owner) (open_if_listed old.lists owner dropped.cell (list_in new.lists owner) dropped.list) u
back_still old new owner None none dropped u = ap (λ (h : Places). is_some (finite.get h.lists u)) none.1
