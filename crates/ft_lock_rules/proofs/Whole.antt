-- An owner's places given to one that has none, all together.
use Rattle.std.proofs.Common.{◌≡◌, ℕ, Bool, true, false, cond, ◌||◌, ◌==◌, List, [], ◌∷◌, ◌++◌, None, is_some, refl, sym, ap, subst, ◌∙◌}
use Rattle.std.proofs.lemmas.Bool.{eqb-true}
use Rattle.std.proofs.lemmas.List.{append-nil}
use Rattle.std.specs.List.{list_any}
use Rattle.std.specs.Option.{option_map}
use Rattle.std.specs.Cmp.{eq_by_cmp_equiv}
use Rattle.std.specs.FinMap as finite
use Rattle.ft_owned_lists.specs.OwnedLists.{Lists, list_in, spliced}
use Rattle.ft_cells.specs.declared.cell.Cell.{Cell}
use Rattle.ft_cells.specs.CellOrder.{cell_cmp_total, same_cell, same_cell-is}
use Rattle.ft_lock_rules.specs.Cells.{Cells, marks_at, joined_marks, passed_to, after_hand}
use Rattle.ft_lock_rules.specs.Holdings.{AreSingle, has_place, IsJoined, AreOpenStill}
use Rattle.ft_lock_rules.proofs.Joining.{itself, apart_test, list-insert, place_after, still-twice}

-- the first of the cells on which an owner has its places is such a cell
pub first_has : (has : Cell → Bool) (k : Cell) (all rest : List Cell) → all ≡ k ∷ rest → ((c : Cell) → list_any (same_cell c) all ≡ has c) → has k ≡ true
first_has has k all rest is listed =
    sym (listed k) ∙ ap (λ l. list_any (same_cell k) l) is ∙ ap (λ b. b || list_any (same_cell k) rest) ((eq_by_cmp_equiv cell_cmp_total).refl k)

pub single_rest : (k : Cell) (all rest : List Cell) → all ≡ k ∷ rest → AreSingle all → AreSingle rest
single_rest k all rest is single = (subst AreSingle is single).1

-- and without its place there it has those on the cells that are left
pub rest_has : (m new : Cells) (k : Cell) (from to : ℕ) (all rest : List Cell) → all ≡ k ∷ rest → AreSingle all
    → ((c : Cell) → list_any (same_cell c) all ≡ has_place m c from)
    → ((c : Cell) (u : ℕ) → marks_at new c u ≡ cond (same_cell c k) (after_hand from to (marks_at m c) u) (marks_at m c u))
    → (c : Cell) → list_any (same_cell c) rest ≡ has_place new c from
rest_has m new k from to all rest is single listed after c = by_cell (same_cell c k) refl
  where
    gone : after_hand from to (marks_at m c) from ≡ None
    gone = ap (λ b. cond b None (cond (from == to) (joined_marks (marks_at m c to) (option_map (passed_to to) (marks_at m c from))) (marks_at m c from))) (itself from)

    by_cell : (b : Bool) → same_cell c k ≡ b → list_any (same_cell c) rest ≡ has_place new c from
    by_cell true e =
        ap (λ d. list_any (same_cell d) rest) (same_cell-is c k e) ∙ (subst AreSingle is single).0
        ∙ sym (ap is_some (after c from ∙ ap (λ b. cond b (after_hand from to (marks_at m c) from) (marks_at m c from)) e ∙ gone))
    by_cell false e =
        sym (ap (λ l. list_any (same_cell c) l) is ∙ ap (λ b. b || list_any (same_cell c) rest) e) ∙ listed c
        ∙ sym (ap is_some (after c from ∙ ap (λ b. cond b (after_hand from to (marks_at m c) from) (marks_at m c from)) e))

module _ (lists : Lists Cell) (from to : ℕ) (apart : from ≡ to → ⊥) (none : list_in lists to ≡ []) where
  -- the heir has the list of the owner
  pub whole_lists : (u : ℕ) → list_in (spliced lists from to) u ≡ cond (u == to) (list_in lists from) (cond (u == from) [] (list_in lists u))
  whole_lists u =
      list-insert (finite.insert lists from []) to (list_in lists from ++ list_in lists to) u
      ∙ ap (λ l. cond (u == to) l (list_in (finite.insert lists from []) u)) (ap (λ l. list_in lists from ++ l) none ∙ append-nil (list_in lists from))
      ∙ ap (cond (u == to) (list_in lists from)) (list-insert lists from [] u)

  pub whole_gone : list_in (spliced lists from to) from ≡ []
  whole_gone =
      whole_lists from ∙ ap (λ b. cond b (list_in lists from) (cond (from == from) [] (list_in lists from))) (apart_test from to apart)
      ∙ ap (λ b. cond b [] (list_in lists from)) (itself from)

  pub whole_still : is_some (finite.get lists from) ≡ true → is_some (finite.get lists to) ≡ true → AreOpenStill lists (spliced lists from to)
  whole_still here there = still-twice lists from to [] (list_in lists from ++ list_in lists to) here there

  pub joined-whole : (m new : Cells) → IsJoined (has_place m) lists → ((c : Cell) (u : ℕ) → marks_at new c u ≡ after_hand from to (marks_at m c) u)
      → IsJoined (has_place new) (spliced lists from to)
  joined-whole m new joined after = record {
    listed = λ u c.
        ap (λ l. list_any (same_cell c) l) (whole_lists u)
        ∙ by_tests u c (u == to) (u == from) (λ e. eqb-true u to e) (λ e. eqb-true u from e)
        ∙ sym (ap is_some (after c u) ∙ place_after true (u == from) (u == to) (passed_to to) (marks_at m c to) (marks_at m c from) (marks_at m c u));
    single = λ u. subst AreSingle (sym (whole_lists u)) (single_by u (u == to) (u == from));
  }
    where
      nobody : (c : Cell) → has_place m c to ≡ false
      nobody c = sym (joined.listed to c) ∙ ap (λ l. list_any (same_cell c) l) none

      by_tests : (u : ℕ) (c : Cell) (b a : Bool) → (b ≡ true → u ≡ to) → (a ≡ true → u ≡ from)
          → list_any (same_cell c) (cond b (list_in lists from) (cond a [] (list_in lists u))) ≡ cond a false (cond b (has_place m c to || has_place m c from) (has_place m c u))
      by_tests u c true true is_to is_from = absurd (apart (sym (is_from refl) ∙ is_to refl))
      by_tests u c true false is_to is_from = joined.listed from c ∙ sym (ap (λ b. b || has_place m c from) (nobody c))
      by_tests u c false true is_to is_from = refl
      by_tests u c false false is_to is_from = joined.listed u c

      single_by : (u : ℕ) (b a : Bool) → AreSingle (cond b (list_in lists from) (cond a [] (list_in lists u)))
      single_by u true a = joined.single from
      single_by u false true = tt
      single_by u false false = joined.single u
