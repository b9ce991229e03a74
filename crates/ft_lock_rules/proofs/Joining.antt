-- The lists of the owners' cells, as places come and go.
use Rattle.std.proofs.Common.{◌≡◌, ℕ, Bool, true, false, cond, not, ◌&&◌, ◌||◌, ◌==◌, List, [], ◌∷◌, drop, Option, Some, None, is_some, Result, Ok, Err, unwrap_or, refl, sym, ap, subst, ◌∙◌}
use Rattle.std.proofs.lemmas.Bool.{false≢true, eqb-true, eq-eqb}
use Rattle.std.specs.List.{list_any, slice_get}
use Rattle.std.specs.Option.{option_map}
use Rattle.std.specs.Result.{OnOk, OnErr, is_err}
use Rattle.std.specs.Ordering.{nat_cmp, eq_by_cmp}
use Rattle.std.specs.Cmp.{nat_cmp_total, eq_by_cmp_equiv, unsigned_tied}
use Rattle.std.specs.FinMap as finite
use Rattle.ft_owned_lists.specs.OwnedLists.{Lists, list_in, moved, first_moved}
use Rattle.ft_cells.specs.declared.cell.Cell.{Cell}
use Rattle.ft_cells.specs.CellOrder.{cell_cmp, cell_cmp_total, same_cell, same_cell-is}
use Rattle.ft_lock_rules.proofs.Places.{hand_same, marks-missing}
use Rattle.ft_lock_rules.specs.declared.lock_modes.LockModes.{LockModes}
use Rattle.ft_lock_rules.specs.Cells.{Cells, marks_at, is_at, joined_marks, passed_to, after_hand}
use Rattle.ft_lock_rules.specs.Holdings.{AreSingle, has_place, IsJoined, AreOpenStill, popped, popped_of}

read_put : {T : Type 0} (b : Bool) (l : List T) (x : Option (List T)) → unwrap_or (cond b (Some l) x) [] ≡ cond b l (unwrap_or x [])
read_put true l x = refl
read_put false l x = refl

read_out : {T : Type 0} (b : Bool) (x : Option (List T)) → unwrap_or (cond b None x) [] ≡ cond b [] (unwrap_or x [])
read_out true x = refl
read_out false x = refl

pub list-insert : {T : Type 0} (m : Lists T) (owner : ℕ) (l : List T) (u : ℕ) → list_in (finite.insert m owner l) u ≡ cond (u == owner) l (list_in m u)
list-insert m owner l u =
    ap (λ o. unwrap_or o []) (finite.get-insert nat_cmp_total m owner l u) ∙ read_put (eq_by_cmp nat_cmp u owner) l (finite.get m u)
    ∙ ap (λ b. cond b l (list_in m u)) (unsigned_tied u owner)

pub list-remove : {T : Type 0} (m : Lists T) (owner u : ℕ) → list_in (finite.remove m owner) u ≡ cond (u == owner) [] (list_in m u)
list-remove m owner u =
    ap (λ o. unwrap_or o []) (finite.get-remove nat_cmp_total m owner u) ∙ read_out (eq_by_cmp nat_cmp u owner) (finite.get m u)
    ∙ ap (λ b. cond b [] (list_in m u)) (unsigned_tied u owner)

-- the list of an owner, put again
pub list_again : {T : Type 0} (m : Lists T) (owner : ℕ) (l : List T) → l ≡ list_in m owner → (u : ℕ) → cond (u == owner) l (list_in m u) ≡ list_in m u
list_again m owner l same u = by_test (u == owner) refl
  where
    by_test : (b : Bool) → (u == owner) ≡ b → cond (u == owner) l (list_in m u) ≡ list_in m u
    by_test true e = ap (λ b. cond b l (list_in m u)) e ∙ same ∙ ap (list_in m) (sym (eqb-true u owner e))
    by_test false e = ap (λ b. cond b l (list_in m u)) e

module _ (has : Cell → ℕ → Bool) (m : Lists Cell) (joined : IsJoined has m) where
  pub joined-same : (has' : Cell → ℕ → Bool) (n : Lists Cell) → ((c : Cell) (u : ℕ) → has' c u ≡ has c u) → ((u : ℕ) → list_in n u ≡ list_in m u) → IsJoined has' n
  joined-same has' n same lists = record {
    listed = λ u c. ap (λ l. list_any (same_cell c) l) (lists u) ∙ joined.listed u c ∙ sym (same c u);
    single = λ u. subst AreSingle (sym (lists u)) (joined.single u);
  }

  -- a place that was not there stands in front
  pub joined-add : (has' : Cell → ℕ → Bool) (n : Lists Cell) (k : Cell) (owner : ℕ) → has k owner ≡ false
      → ((c : Cell) (u : ℕ) → has' c u ≡ (is_at k owner c u || has c u)) → ((u : ℕ) → list_in n u ≡ cond (u == owner) (k ∷ list_in m owner) (list_in m u)) → IsJoined has' n
  joined-add has' n k owner absent is lists = record {
    listed = λ u c. ap (λ l. list_any (same_cell c) l) (lists u) ∙ by_owner u c (u == owner) refl ∙ sym (is c u);
    single = λ u. subst AreSingle (sym (lists u)) (single_by u (u == owner) refl);
  }
    where
      by_owner : (u : ℕ) (c : Cell) (b : Bool) → (u == owner) ≡ b → list_any (same_cell c) (cond (u == owner) (k ∷ list_in m owner) (list_in m u)) ≡ (is_at k owner c u || has c u)
      by_owner u c true e =
          ap (λ b. list_any (same_cell c) (cond b (k ∷ list_in m owner) (list_in m u))) e
          ∙ ap (λ v. same_cell c k || list_any (same_cell c) (list_in m v)) (sym (eqb-true u owner e))
          ∙ ap (λ b. same_cell c k || b) (joined.listed u c)
          ∙ in_both (same_cell c k) (has c u)
          ∙ sym (ap (λ b. same_cell c k && b || has c u) e)
        where
          in_both : (a b : Bool) → (a || b) ≡ (a && true || b)
          in_both true b = refl
          in_both false b = refl
      by_owner u c false e =
          ap (λ b. list_any (same_cell c) (cond b (k ∷ list_in m owner) (list_in m u))) e ∙ joined.listed u c
          ∙ in_none (same_cell c k) (has c u) ∙ sym (ap (λ b. same_cell c k && b || has c u) e)
        where
          in_none : (a b : Bool) → b ≡ (a && false || b)
          in_none true b = refl
          in_none false b = refl

      single_by : (u : ℕ) (b : Bool) → (u == owner) ≡ b → AreSingle (cond (u == owner) (k ∷ list_in m owner) (list_in m u))
      single_by u true e = subst (λ b. AreSingle (cond b (k ∷ list_in m owner) (list_in m u))) (sym e) (joined.listed owner k ∙ absent, joined.single owner)
      single_by u false e = subst (λ b. AreSingle (cond b (k ∷ list_in m owner) (list_in m u))) (sym e) (joined.single u)

  -- the place of the newest is gone
  pub joined-drop : (has' : Cell → ℕ → Bool) (n : Lists Cell) (k : Cell) (owner : ℕ) (rest : List Cell) → list_in m owner ≡ k ∷ rest
      → ((c : Cell) (u : ℕ) → has' c u ≡ (not (is_at k owner c u) && has c u)) → ((u : ℕ) → list_in n u ≡ cond (u == owner) rest (list_in m u)) → IsJoined has' n
  joined-drop has' n k owner rest first is lists = record {
    listed = λ u c. ap (λ l. list_any (same_cell c) l) (lists u) ∙ by_owner u c (u == owner) refl ∙ sym (is c u);
    single = λ u. subst AreSingle (sym (lists u)) (single_by u (u == owner) refl);
  }
    where
      one : AreSingle (k ∷ rest)
      one = subst AreSingle first (joined.single owner)

      left : (c : Cell) (a : Bool) → same_cell c k ≡ a → list_any (same_cell c) rest ≡ (not (a && true) && (a || list_any (same_cell c) rest))
      left c true e = ap (λ d. list_any (same_cell d) rest) (same_cell-is c k e) ∙ one.0
      left c false e = refl

      by_owner : (u : ℕ) (c : Cell) (b : Bool) → (u == owner) ≡ b → list_any (same_cell c) (cond (u == owner) rest (list_in m u)) ≡ (not (is_at k owner c u) && has c u)
      by_owner u c true e =
          ap (λ b. list_any (same_cell c) (cond b rest (list_in m u))) e
          ∙ left c (same_cell c k) refl
          ∙ ap (λ x. not (same_cell c k && true) && x) (sym (ap (λ l. list_any (same_cell c) l) first) ∙ ap (λ v. list_any (same_cell c) (list_in m v)) (sym (eqb-true u owner e)) ∙ joined.listed u c)
          ∙ sym (ap (λ b. not (same_cell c k && b) && has c u) e)
      by_owner u c false e =
          ap (λ b. list_any (same_cell c) (cond b rest (list_in m u))) e ∙ joined.listed u c
          ∙ in_none (same_cell c k) (has c u) ∙ sym (ap (λ b. not (same_cell c k && b) && has c u) e)
        where
          in_none : (a b : Bool) → b ≡ (not (a && false) && b)
          in_none true b = refl
          in_none false b = refl

      single_by : (u : ℕ) (b : Bool) → (u == owner) ≡ b → AreSingle (cond (u == owner) rest (list_in m u))
      single_by u true e = subst (λ b. AreSingle (cond b rest (list_in m u))) (sym e) one.1
      single_by u false e = subst (λ b. AreSingle (cond b rest (list_in m u))) (sym e) (joined.single u)

-- What a place's marks say of whether it is there.
pub placed-put : (b : Bool) (x : LockModes) (o : Option LockModes) → is_some (cond b (Some x) o) ≡ (b || is_some o)
placed-put true x o = refl
placed-put false x o = refl

pub placed-out : (b : Bool) (o : Option LockModes) → is_some (cond b None o) ≡ (not b && is_some o)
placed-out true o = refl
placed-out false o = refl

pub placed-marked : (b : Bool) (f : LockModes → LockModes) (o : Option LockModes) → is_some (cond b (option_map f o) o) ≡ is_some o
placed-marked true f None = refl
placed-marked true f (Some x) = refl
placed-marked false f o = refl

pub first_is : {T : Type 0} (l : List T) (k : T) → Some k ≡ slice_get l 0 → l ≡ k ∷ drop 1 l
first_is [] k e = absurd (false≢true (sym (ap is_some e)))
first_is (c ∷ more) k e = ap (λ x. x ∷ more) (sym (ap (λ o. unwrap_or o c) e))

pub none_first : {T : Type 0} (l : List T) → None ≡ slice_get l 0 → l ≡ []
none_first [] e = refl
none_first (c ∷ more) e = absurd (false≢true (ap is_some e))

-- the newest cell is one on which its owner has a place
pub front_there : (has : Cell → ℕ → Bool) (m : Lists Cell) → IsJoined has m → (k : Cell) (owner : ℕ) (rest : List Cell) → list_in m owner ≡ k ∷ rest → has k owner ≡ true
front_there has m joined k owner rest first =
    sym (joined.listed owner k) ∙ ap (λ l. list_any (same_cell k) l) first ∙ ap (λ b. b || list_any (same_cell k) rest) ((eq_by_cmp_equiv cell_cmp_total).refl k)

pub itself : (n : ℕ) → (n == n) ≡ true
itself n = eq-eqb n n refl

pub apart_test : (a b : ℕ) → (a ≡ b → ⊥) → (a == b) ≡ false
apart_test a b apart = by_test (a == b) refl
  where
    by_test : (t : Bool) → (a == b) ≡ t → (a == b) ≡ false
    by_test true e = absurd (apart (eqb-true a b e))
    by_test false e = e

pub popped_is : {T : Type 0} (m : Lists T) (owner : ℕ) (k : T) (rest : List T) → list_in m owner ≡ k ∷ rest → popped m owner ≡ finite.insert m owner rest
popped_is m owner k rest first = ap (popped_of m owner) first

pub moved_is : {T : Type 0} (m : Lists T) (from to : ℕ) (k : T) (rest : List T) → list_in m from ≡ k ∷ rest → moved m from to ≡ finite.insert (finite.insert m from rest) to (k ∷ list_in m to)
moved_is m from to k rest first = ap (first_moved m from to) first

pub list_there : {T : Type 0} (m : Lists T) (owner : ℕ) (l : List T) → list_in (finite.insert m owner l) owner ≡ l
list_there m owner l = list-insert m owner l owner ∙ ap (λ b. cond b l (list_in m owner)) (itself owner)

pub list_elsewhere : (m : Lists Cell) (owner : ℕ) (l : List Cell) (u : ℕ) → (u ≡ owner → ⊥) → list_in (finite.insert m owner l) u ≡ list_in m u
list_elsewhere m owner l u apart = list-insert m owner l u ∙ ap (λ b. cond b l (list_in m u)) (apart_test u owner apart)

-- an owner with a cell is open
pub open_if_listed : (m : Lists Cell) (owner : ℕ) (k : Cell) (rest : List Cell) → list_in m owner ≡ k ∷ rest → is_some (finite.get m owner) ≡ true
open_if_listed m owner k rest first = by_get (finite.get m owner) first
  where
    by_get : (o : Option (List Cell)) → unwrap_or o [] ≡ k ∷ rest → is_some o ≡ true
    by_get None e = absurd (false≢true (ap (λ l. not_empty l) e))
      where
        not_empty : List Cell → Bool
        not_empty [] = false
        not_empty (c ∷ more) = true
    by_get (Some l) e = refl

-- to put the list of an owner that is open opens nobody
pub still-insert : (m : Lists Cell) (owner : ℕ) (l : List Cell) → is_some (finite.get m owner) ≡ true → AreOpenStill m (finite.insert m owner l)
still-insert m owner l was_open u =
    ap is_some (finite.get-insert nat_cmp_total m owner l u) ∙ by_test (eq_by_cmp nat_cmp u owner) refl
  where
    by_test : (b : Bool) → eq_by_cmp nat_cmp u owner ≡ b → is_some (cond (eq_by_cmp nat_cmp u owner) (Some l) (finite.get m u)) ≡ is_some (finite.get m u)
    by_test true e = ap (λ b. is_some (cond b (Some l) (finite.get m u))) e ∙ sym (ap (λ v. is_some (finite.get m v)) (eqb-true u owner (sym (unsigned_tied u owner) ∙ e)) ∙ was_open)
    by_test false e = ap (λ b. is_some (cond b (Some l) (finite.get m u))) e

pub still-twice : (m : Lists Cell) (a b : ℕ) (l k : List Cell) → is_some (finite.get m a) ≡ true → is_some (finite.get m b) ≡ true → AreOpenStill m (finite.insert (finite.insert m a l) b k)
still-twice m a b l k here there u = still-insert (finite.insert m a l) b k (still-insert m a l here b ∙ there) u ∙ still-insert m a l here u

-- What a hand-over says of who has a place.
pub place_after : (s a b : Bool) (p : LockModes → LockModes) (x y z : Option LockModes)
    → is_some (cond s (cond a None (cond b (joined_marks x (option_map p y)) z)) z) ≡ cond s (cond a false (cond b (is_some x || is_some y) (is_some z))) (is_some z)
place_after false a b p x y z = refl
place_after true true b p x y z = refl
place_after true false false p x y z = refl
place_after true false true p None None z = refl
place_after true false true p None (Some y) z = refl
place_after true false true p (Some x) None z = refl
place_after true false true p (Some x) (Some y) z = refl

merged_place : (s a b x y z : Bool) → (s ≡ true → x ≡ true) → (b ≡ true → z ≡ x) → cond s (cond a false (cond b (x || y) z)) z ≡ (not (s && a) && z)
merged_place false a b x y z there at = refl
merged_place true true b x y z there at = refl
merged_place true false true x y z there at = ap (λ t. t || y) (there refl) ∙ sym (at refl ∙ there refl)
merged_place true false false x y z there at = refl

moved_place : (s a b x y z : Bool) → (s ≡ true → x ≡ false) → (s ≡ true → y ≡ true) → (a ≡ true → b ≡ true → ⊥) → cond s (cond a false (cond b (x || y) z)) z ≡ (s && b || (not (s && a) && z))
moved_place false a b x y z none some apart = refl
moved_place true true true x y z none some apart = absurd (apart refl refl)
moved_place true true false x y z none some apart = refl
moved_place true false true x y z none some apart = ap (λ t. t || y) (none refl) ∙ some refl
moved_place true false false x y z none some apart = refl

module _ (m : Cells) (k : Cell) (from to : ℕ) (new : Cells) (after : (c : Cell) (u : ℕ) → marks_at new c u ≡ cond (same_cell c k) (after_hand from to (marks_at m c) u) (marks_at m c u)) where
  has_after : (c : Cell) (u : ℕ) → has_place new c u ≡ cond (same_cell c k) (cond (u == from) false (cond (u == to) (has_place m c to || has_place m c from) (has_place m c u))) (has_place m c u)
  has_after c u = ap is_some (after c u) ∙ place_after (same_cell c k) (u == from) (u == to) (passed_to to) (marks_at m c to) (marks_at m c from) (marks_at m c u)

  pub merged_has : has_place m k to ≡ true → (c : Cell) (u : ℕ) → has_place new c u ≡ (not (is_at k from c u) && has_place m c u)
  merged_has there c u = has_after c u ∙ merged_place (same_cell c k) (u == from) (u == to) (has_place m c to) (has_place m c from) (has_place m c u)
      (λ tied. ap (λ d. has_place m d to) (same_cell-is c k tied) ∙ there) (λ tied. ap (has_place m c) (eqb-true u to tied))

  pub moved_has : has_place m k to ≡ false → has_place m k from ≡ true → (from ≡ to → ⊥) → (c : Cell) (u : ℕ) → has_place new c u ≡ (is_at k to c u || (not (is_at k from c u) && has_place m c u))
  moved_has none some apart c u = has_after c u ∙ moved_place (same_cell c k) (u == from) (u == to) (has_place m c to) (has_place m c from) (has_place m c u)
      (λ tied. ap (λ d. has_place m d to) (same_cell-is c k tied) ∙ none) (λ tied. ap (λ d. has_place m d from) (same_cell-is c k tied) ∙ some)
      (λ a b. apart (sym (eqb-true u from a) ∙ eqb-true u to b))

  module _ (lists : Lists Cell) (rest : List Cell) (first : list_in lists from ≡ k ∷ rest) (joined : IsJoined (has_place m) lists) where
    pub joined-merged : has_place m k to ≡ true → IsJoined (has_place new) (finite.insert lists from rest)
    joined-merged there = joined-drop (has_place m) lists joined (has_place new) (finite.insert lists from rest) k from rest first (merged_has there) (list-insert lists from rest)

    pub joined-moved : has_place m k to ≡ false → (from ≡ to → ⊥) → IsJoined (has_place new) (finite.insert (finite.insert lists from rest) to (k ∷ list_in lists to))
    joined-moved none apart =
        let without : Cell → ℕ → Bool = λ c u. not (is_at k from c u) && has_place m c u in
        let between = joined-drop (has_place m) lists joined without (finite.insert lists from rest) k from rest first (λ c u. refl) (list-insert lists from rest) in
        joined-add without (finite.insert lists from rest) between (has_place new) (finite.insert (finite.insert lists from rest) to (k ∷ list_in lists to)) k to
        (without_none (is_at k from k to) (has_place m k to) none)
        (moved_has none (front_there (has_place m) lists joined k from rest first) apart)
        (λ u. list-insert (finite.insert lists from rest) to (k ∷ list_in lists to) u
        ∙ ap (λ l. cond (u == to) (k ∷ l) (list_in (finite.insert lists from rest) u)) (sym (list_elsewhere lists from rest to (λ e. apart (sym e)))))
      where
        without_none : (a b : Bool) → b ≡ false → (not a && b) ≡ false
        without_none true b e = refl
        without_none false b e = e

-- to hand over again what was handed over changes nothing
pub hand_again : (from to : ℕ) → (from ≡ to → ⊥) → (f : ℕ → Option LockModes) (u : ℕ) → after_hand from to (after_hand from to f) u ≡ after_hand from to f u
hand_again from to apart f u =
    ap (λ x. cond (u == from) None (cond (u == to) (joined_marks (after_hand from to f to) (option_map (passed_to to) x)) (after_hand from to f u))) (nothing_left f)
    ∙ ap (λ x. cond (u == from) None (cond (u == to) x (after_hand from to f u))) (joins_none (after_hand from to f to))
    ∙ again (u == from) (u == to) (λ tied. ap (after_hand from to f) (sym (eqb-true u to tied)))
    ∙ twice (u == from) (cond (u == to) (joined_marks (f to) (option_map (passed_to to) (f from))) (f u))
  where
    twice : (a : Bool) (x : Option LockModes) → cond a None (cond a None x) ≡ cond a None x
    twice true x = refl
    twice false x = refl

    nothing_left : (g : ℕ → Option LockModes) → after_hand from to g from ≡ None
    nothing_left g = ap (λ b. cond b None (cond (from == to) (joined_marks (g to) (option_map (passed_to to) (g from))) (g from))) (itself from)

    joins_none : (x : Option LockModes) → joined_marks x None ≡ x
    joins_none None = refl
    joins_none (Some x) = refl

    again : (a b : Bool) → (b ≡ true → after_hand from to f to ≡ after_hand from to f u) → cond a None (cond b (after_hand from to f to) (after_hand from to f u)) ≡ cond a None (after_hand from to f u)
    again true b same = refl
    again false true same = same refl
    again false false same = refl

-- where an owner has no place left, a hand-over from it changes nothing
pub hand_none : (from to : ℕ) (f : ℕ → Option LockModes) → f from ≡ None → (u : ℕ) → after_hand from to f u ≡ f u
hand_none from to f none u =
    ap (λ x. cond (u == from) None (cond (u == to) (joined_marks (f to) (option_map (passed_to to) x)) (f u))) none
    ∙ by_tests (u == from) (u == to) (λ tied. ap f (eqb-true u from tied) ∙ none) (λ tied. ap f (sym (eqb-true u to tied)))
  where
    joins_none : (x : Option LockModes) → joined_marks x None ≡ x
    joins_none None = refl
    joins_none (Some x) = refl

    by_tests : (a b : Bool) → (a ≡ true → f u ≡ None) → (b ≡ true → f to ≡ f u) → cond a None (cond b (joined_marks (f to) None) (f u)) ≡ f u
    by_tests true b gone same = sym (gone refl)
    by_tests false true gone same = joins_none (f to) ∙ same refl
    by_tests false false gone same = refl

-- one cell handed over, and then all
pub hand_step : (m new : Cells) (k : Cell) (from to : ℕ) → (from ≡ to → ⊥) → ((c : Cell) (u : ℕ) → marks_at new c u ≡ cond (same_cell c k) (after_hand from to (marks_at m c) u) (marks_at m c u))
    → (c : Cell) (u : ℕ) → after_hand from to (marks_at new c) u ≡ after_hand from to (marks_at m c) u
hand_step m new k from to apart after c u = by_cell (same_cell c k) refl
  where
    by_cell : (b : Bool) → same_cell c k ≡ b → after_hand from to (marks_at new c) u ≡ after_hand from to (marks_at m c) u
    by_cell true e =
        hand_same from to (marks_at new c) (after_hand from to (marks_at m c)) (λ v. after c v ∙ ap (λ b. cond b (after_hand from to (marks_at m c) v) (marks_at m c v)) e) u
        ∙ hand_again from to apart (marks_at m c) u
    by_cell false e =
        hand_same from to (marks_at new c) (marks_at m c) (λ v. after c v ∙ ap (λ b. cond b (after_hand from to (marks_at m c) v) (marks_at m c v)) e) u

-- an owner without cells has no place
pub none_placed : (m : Cells) (lists : Lists Cell) → IsJoined (has_place m) lists → (owner : ℕ) → list_in lists owner ≡ [] → (c : Cell) → marks_at m c owner ≡ None
none_placed m lists joined owner none c = nothing (marks_at m c owner) (sym (joined.listed owner c) ∙ ap (λ l. list_any (same_cell c) l) none)
  where
    nothing : (x : Option LockModes) → is_some x ≡ false → x ≡ None
    nothing None e = refl
    nothing (Some x) e = absurd (false≢true (sym e))

pub joined-none : (m : Cells) (lists : Lists Cell) → m ≡ finite.empty → lists ≡ finite.empty → IsJoined (has_place m) lists
joined-none m lists no_cells no_lists = record {
  listed = λ u c. ap (λ l. list_any (same_cell c) l) (empty u)
      ∙ sym (ap is_some (marks-missing m c (sym (ap (λ n. finite.get n c) no_cells ∙ finite.get-empty cell_cmp c)) u));
  single = λ u. subst AreSingle (sym (empty u)) tt;
}
  where
    empty : (u : ℕ) → list_in lists u ≡ []
    empty u = ap (λ n. list_in n u) no_lists ∙ ap (λ o. unwrap_or o []) (finite.get-empty nat_cmp u)

pub opened_lists : {T E : Type 0} (r : Result (Unit {0}) E) (old new : Lists T) (owner : ℕ) → OnOk r (new ≡ finite.insert old owner (list_in old owner)) → OnErr r (new ≡ old)
    → (u : ℕ) → list_in new u ≡ list_in old u
opened_lists (Ok x) old new owner ok err u = ap (λ m. list_in m u) ok ∙ list-insert old owner (list_in old owner) u ∙ list_again old owner (list_in old owner) refl u
opened_lists (Err e) old new owner ok err u = ap (λ m. list_in m u) err

pub ok_if : {X E : Type 0} (r : Result X E) (P : Type 0) → is_err r ≡ false → OnOk r P → P
ok_if (Ok x) P fine p = p
ok_if (Err e) P fine p = absurd (false≢true (sym fine))

pub err_if : {X E : Type 0} (r : Result X E) (P : Type 0) → is_err r ≡ true → OnErr r P → P
err_if (Ok x) P failed p = absurd (false≢true failed)
err_if (Err e) P failed p = p

pub none_had : (had : Option LockModes) → is_some had ≡ false → had ≡ None
none_had None e = refl
none_had (Some x) e = absurd (false≢true (sym e))

-- a place that was made is there
pub placed_there : (m new : Cells) (k : Cell) (owner : ℕ) (marks : LockModes) → ((c : Cell) (u : ℕ) → marks_at new c u ≡ cond (is_at k owner c u) (Some marks) (marks_at m c u)) → is_some (marks_at new k owner) ≡ true
placed_there m new k owner marks put = ap is_some (put k owner) ∙ ap (λ b. is_some (cond b (Some marks) (marks_at m k owner))) (λ i. (eq_by_cmp_equiv cell_cmp_total).refl k i && itself owner i)

-- a place that was made and taken out again leaves the places as they were
pub placed_back : (m new back : Cells) (k : Cell) (owner : ℕ) (marks : LockModes) → marks_at m k owner ≡ None
    → ((c : Cell) (u : ℕ) → marks_at new c u ≡ cond (is_at k owner c u) (Some marks) (marks_at m c u))
    → ((c : Cell) (u : ℕ) → marks_at back c u ≡ cond (is_at k owner c u) None (marks_at new c u))
    → (c : Cell) (u : ℕ) → marks_at back c u ≡ marks_at m c u
placed_back m new back k owner marks absent put out c u =
    out c u ∙ ap (cond (is_at k owner c u) None) (put c u) ∙ by_tests (same_cell c k) (u == owner) (λ d e. (λ i. marks_at m (same_cell-is c k d i) (eqb-true u owner e i)) ∙ absent)
  where
    by_tests : (s a : Bool) → (s ≡ true → a ≡ true → marks_at m c u ≡ None) → cond (s && a) None (cond (s && a) (Some marks) (marks_at m c u)) ≡ marks_at m c u
    by_tests true true none = sym (none refl refl)
    by_tests true false none = refl
    by_tests false a none = refl
