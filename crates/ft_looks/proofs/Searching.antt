-- Where a cell's access stands in a list in order, as the search by halves closes in on it.
use Rattle.std.proofs.Common.{◌≡◌, ◌≤◌, ◌<◌, ◌+◌, ◌-◌, ◌/◌, ℕ, zero, suc, Bool, true, false, List, [], ◌∷◌, length, get_or, refl, sym, ap, ◌∙◌, subst, arith}
use Rattle.std.specs.Prelude.{T}
use Rattle.std.proofs.lemmas.Bool.{false≢true}
use Rattle.std.specs.declared.cmp.Ordering.{Ordering}
use Rattle.std.specs.declared.cmp.Ordering.TheVariants.{Less, Equal, Greater}
use Rattle.std.specs.Ordering.{is_lt}
use Rattle.std.specs.FinMap.Entries.{by_order, below_all}
use Rattle.ft_cells.specs.declared.cell.Cell.{Cell}
use Rattle.ft_cells.specs.CellOrder.{cell_cmp, cell_cmp_total}
use Rattle.ft_posix.specs.declared.call.Access.{Access}
use Rattle.ft_posix.specs.Accesses.{as_entries, AreInOrder, place_in, is_noted}
use Rattle.ft_cells.proofs.Conjunction.{first, second}
use Rattle.ft_posix.proofs.Placing.{place-within, noted-within}

pub less : (o : Ordering) → T (is_lt o) → o ≡ Less
less Less p = refl
less Equal p = absurd p
less Greater p = absurd p

-- a cell that stands below each of these stands below the one at this place
below_at : (x : Cell) (list : List Access) (i : ℕ) (d : Access) → T (below_all cell_cmp x (as_entries list)) → i < length list → cell_cmp x (get_or list i d).cell ≡ Less
below_at x [] i d h within = absurd (omega (arith, within))
below_at x (a ∷ more) zero d h within = less _ (first _ _ h)
below_at x (a ∷ more) (suc i) d h within = below_at x more i d (second _ _ h) (omega (arith, within))

-- what has a greater one at this place stands before it, or there if it is another's
pub less_at : (c : Cell) (list : List Access) (i : ℕ) (d : Access) → i < length list → cell_cmp c (get_or list i d).cell ≡ Less
    → (place_in c list ≤ i) × (is_noted c list ≡ true → place_in c list < i)
less_at c [] i d within h = absurd (omega (arith, within))
less_at c (a ∷ more) zero d within h = (
  subst (λ r. by_order r 0 0 (suc (place_in c more)) ≤ 0) (sym h) (omega arith),
  subst (λ r. by_order r false true (is_noted c more) ≡ true → by_order r 0 0 (suc (place_in c more)) < 0) (sym h) (λ n. absurd (false≢true n)),
)
less_at c (a ∷ more) (suc i) d within h =
    let inside : i < length more = omega (arith, within) in
    let rest : (place_in c more ≤ i) × (is_noted c more ≡ true → place_in c more < i) = less_at c more i d inside h in
    elim (cell_cmp c a.cell) as (λ r. (by_order r 0 0 (suc (place_in c more)) ≤ suc i) × (by_order r false true (is_noted c more) ≡ true → by_order r 0 0 (suc (place_in c more)) < suc i)) [
      | Less ↦ (omega arith, λ n. absurd (false≢true n))
      | Equal ↦ (omega arith, λ n. omega arith)
      | Greater ↦ (let low = rest.0 in omega (arith, low), λ n. (let low = rest.1 n in omega (arith, low)))
    ]

no_less : (r : Ordering) → r ≡ Less → r ≡ Greater → {A : Type 0} → A
no_less r a b {A} = cc

no_equal : (r : Ordering) → r ≡ Less → r ≡ Equal → {A : Type 0} → A
no_equal r a b {A} = cc

later : (i n : ℕ) → i < n → suc i < suc n
later i n h = omega arith

-- what has a lesser one at this place stands behind it
pub greater_at : (c : Cell) (list : List Access) (i : ℕ) (d : Access) → AreInOrder list → i < length list → cell_cmp c (get_or list i d).cell ≡ Greater → i < place_in c list
greater_at c [] i d order within h = absurd (omega (arith, within))
greater_at c (a ∷ more) zero d order within h = subst (λ r. 0 < by_order r 0 0 (suc (place_in c more))) (sym h) (omega arith)
greater_at c (a ∷ more) (suc i) d order within h =
    let inside : i < length more = omega (arith, within) in
    let rest : i < place_in c more = greater_at c more i d (second _ _ order) inside h in
    let under : cell_cmp a.cell (get_or more i d).cell ≡ Less = below_at a.cell more i d (first _ _ order) inside in
    elim (cell_cmp c a.cell) as (λ r. cell_cmp c a.cell ≡ r → suc i < by_order r 0 0 (suc (place_in c more))) [
      | Less ↦ λ e. no_less _ (cell_cmp_total.trans c a.cell _ e under) h
      | Equal ↦ λ e. no_less _ (cell_cmp_total.congr c a.cell _ e ∙ under) h
      | Greater ↦ λ e. later i (place_in c more) rest
    ] refl

-- the place that has the cell itself
pub equal_at : (c : Cell) (list : List Access) (i : ℕ) (d : Access) → AreInOrder list → i < length list → cell_cmp c (get_or list i d).cell ≡ Equal → (i ≡ place_in c list) × (true ≡ is_noted c list)
equal_at c [] i d order within h = absurd (omega (arith, within))
equal_at c (a ∷ more) zero d order within h =
    subst (λ r. (0 ≡ by_order r 0 0 (suc (place_in c more))) × (true ≡ by_order r false true (is_noted c more))) (sym h) (refl, refl)
equal_at c (a ∷ more) (suc i) d order within h =
    let inside : i < length more = omega (arith, within) in
    let rest : (i ≡ place_in c more) × (true ≡ is_noted c more) = equal_at c more i d (second _ _ order) inside h in
    let under : cell_cmp a.cell (get_or more i d).cell ≡ Less = below_at a.cell more i d (first _ _ order) inside in
    elim (cell_cmp c a.cell) as (λ r. cell_cmp c a.cell ≡ r → (suc i ≡ by_order r 0 0 (suc (place_in c more))) × (true ≡ by_order r false true (is_noted c more))) [
      | Less ↦ λ e. no_equal _ (cell_cmp_total.trans c a.cell _ e under) h
      | Equal ↦ λ e. no_equal _ (cell_cmp_total.congr c a.cell _ e ∙ under) h
      | Greater ↦ λ e. (ap suc rest.0, rest.1)
    ] refl

-- the cell's place lies between these
pub record IsBetween (c : Cell) (list : List Access) (from to : ℕ) : Type 0 where
  pub above : from ≤ place_in c list
  pub below : place_in c list ≤ to
  pub noted : is_noted c list ≡ true → place_in c list < to

pub anywhere : (c : Cell) (list : List Access) (n : ℕ) → n ≡ length list → IsBetween c list 0 n
anywhere c list n is = record {
  above = omega arith;
  below = subst (λ k. place_in c list ≤ k) (sym is) (place-within c list);
  noted = λ h. subst (λ k. place_in c list < k) (sym is) (noted-within c list h);
}

not_true : (b : Bool) → (b ≡ true → ⊥) → false ≡ b
not_true true h = absurd (h refl)
not_true false h = refl

-- where nothing is left between, the cell is not there
pub nowhere : (c : Cell) (list : List Access) (from to : ℕ) → IsBetween c list from to → to ≤ from → (from ≡ place_in c list) × (false ≡ is_noted c list)
nowhere c list from to b over =
    let above = b.above in
    let below = b.below in
    (omega (arith, above, below, over), not_true _ (λ h. (let low = b.noted h in omega (arith, low, above, over))))

-- what stands before a greater one lies in the lower part
pub lowered : (c : Cell) (list : List Access) (from to at : ℕ) (d : Access) → IsBetween c list from to → at < length list → cell_cmp c (get_or list at d).cell ≡ Less
    → (f t : ℕ) → f ≡ from → t ≡ at → IsBetween c list f t
lowered c list from to at d b within h f t f_is t_is =
    let found : (place_in c list ≤ at) × (is_noted c list ≡ true → place_in c list < at) = less_at c list at d within h in
    record {
      above = subst (λ n. n ≤ place_in c list) (sym f_is) b.above;
      below = subst (λ n. place_in c list ≤ n) (sym t_is) found.0;
      noted = λ there. subst (λ n. place_in c list < n) (sym t_is) (found.1 there);
    }

-- what stands behind a lesser one lies in the upper part
pub raised : (c : Cell) (list : List Access) (from to at : ℕ) (d : Access) → AreInOrder list → IsBetween c list from to → at < length list → cell_cmp c (get_or list at d).cell ≡ Greater
    → (f t : ℕ) → f ≡ at + 1 → t ≡ to → IsBetween c list f t
raised c list from to at d order b within h f t f_is t_is =
    let found : at < place_in c list = greater_at c list at d order within h in
    record {
      above = omega (arith, found, f_is);
      below = subst (λ n. place_in c list ≤ n) (sym t_is) b.below;
      noted = λ there. subst (λ n. place_in c list < n) (sym t_is) (b.noted there);
    }

-- the middle of what is left
pub halved : (from to : ℕ) → from < to → (from ≤ from + (to - from) / 2) × (from + (to - from) / 2 < to)
halved from to left = (omega arith, omega arith)
