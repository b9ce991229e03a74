-- Where a cell's access stands in a list in order, and what the list is with it.
use Rattle.std.proofs.Common.{◌≡◌, ◌≤◌, ◌<◌, ℕ, suc, Bool, true, false, List, [], ◌∷◌, ◌++◌, map, drop, length, refl, sym, ap, ◌∙◌, subst, arith}
use Rattle.std.specs.Prelude.{T}
use Rattle.std.proofs.lemmas.Bool.{false≢true}
use Rattle.std.specs.declared.cmp.Ordering.TheVariants.{Less, Equal, Greater}
use Rattle.std.specs.List.{insert}
use Rattle.std.proofs.lemmas.List.{take_all, drop_all}
use Rattle.std.specs.Prelude.{slice_set, slice_index_or}
use Rattle.std.specs.FinMap as finite
use Rattle.std.specs.FinMap.Entries.{by_order, is_sorted-put}
use Rattle.ft_cells.specs.declared.cell.Cell.{Cell}
use Rattle.ft_cells.specs.CellOrder.{cell_cmp, cell_cmp_total}
use Rattle.ft_posix.specs.declared.call.Mode.{Mode}
use Rattle.ft_posix.specs.declared.call.Access.{Access}
use Rattle.ft_posix.specs.Accesses.{Modes, listed, as_entries, AreInOrder, place_in, is_noted}

abbrev map_of : List Access → Modes
map_of list = finite.from_sorted (as_entries list)

abbrev pub access : Cell → Mode → Access
access c m = record { cell = c; mode = m }

-- it stands within the list, or right behind it
pub place-within : (c : Cell) (list : List Access) → place_in c list ≤ length list
place-within c [] = omega arith
place-within c (a ∷ more) = elim (cell_cmp c a.cell) as (λ r. by_order r 0 0 (suc (place_in c more)) ≤ suc (length more)) [
  | Less ↦ omega arith
  | Equal ↦ omega arith
  | Greater ↦ (let rest = place-within c more in omega arith)
]

pub noted-within : (c : Cell) (list : List Access) → is_noted c list ≡ true → place_in c list < length list
noted-within c [] h = absurd (false≢true h)
noted-within c (a ∷ more) given = elim (cell_cmp c a.cell) as (λ r. by_order r false true (is_noted c more) ≡ true → by_order r 0 0 (suc (place_in c more)) < suc (length more)) [
  | Less ↦ λ h. absurd (false≢true h)
  | Equal ↦ λ h. omega arith
  | Greater ↦ λ h. (let rest = noted-within c more h in omega arith)
] given

-- to put in behind the last is to push
pub behind : (list : List Access) (at : ℕ) (a : Access) → at ≡ length list → list ++ a ∷ [] ≡ insert list at a
behind list at a is =
    let all : length list ≤ at = omega (arith, is) in
    sym (ap (λ front. front ++ a ∷ drop at list) (take_all at list all) ∙ ap (λ rest. list ++ a ∷ rest) (drop_all at list all))

-- one that is not noted is put in
pub put-new : (c : Cell) (m : Mode) (list : List Access) → is_noted c list ≡ false
    → as_entries (insert list (place_in c list) (access c m)) ≡ finite.put cell_cmp c m (as_entries list)
put-new c m [] h = refl
put-new c m (a ∷ more) given =
    elim (cell_cmp c a.cell) as (λ r. by_order r false true (is_noted c more) ≡ false
    → as_entries (insert (a ∷ more) (by_order r 0 0 (suc (place_in c more))) (access c m))
    ≡ by_order r ((c, m) ∷ (a.cell, a.mode) ∷ as_entries more) ((a.cell, m) ∷ as_entries more) ((a.cell, a.mode) ∷ finite.put cell_cmp c m (as_entries more))) [
      | Less ↦ λ h. refl
      | Equal ↦ λ h. absurd (false≢true (sym h))
      | Greater ↦ λ h. ap (λ es. (a.cell, a.mode) ∷ es) (put-new c m more h)
    ] given

-- one that is noted gets another mode
pub put-again : (c : Cell) (m : Mode) (there d : Access) (list : List Access) → is_noted c list ≡ true → there ≡ slice_index_or list (place_in c list) d
    → as_entries (slice_set list (place_in c list) (access there.cell m)) ≡ finite.put cell_cmp c m (as_entries list)
put-again c m there d [] h is = absurd (false≢true h)
put-again c m there d (a ∷ more) given found =
    elim (cell_cmp c a.cell) as (λ r. by_order r false true (is_noted c more) ≡ true → there ≡ slice_index_or (a ∷ more) (by_order r 0 0 (suc (place_in c more))) d
    → as_entries (slice_set (a ∷ more) (by_order r 0 0 (suc (place_in c more))) (access there.cell m))
    ≡ by_order r ((c, m) ∷ (a.cell, a.mode) ∷ as_entries more) ((a.cell, m) ∷ as_entries more) ((a.cell, a.mode) ∷ finite.put cell_cmp c m (as_entries more))) [
      | Less ↦ λ h is. absurd (false≢true h)
      | Equal ↦ λ h is. ap (λ (t : Access). (t.cell, m) ∷ as_entries more) is
      | Greater ↦ λ h is. ap (λ es. (a.cell, a.mode) ∷ es) (put-again c m there d more h is)
    ] given found

-- a list in order, with one cell more or one of them accessed in another way, is the map with that
-- cell put in
pub noted-map : (c : Cell) (m : Mode) (old new : List Access) → AreInOrder old → as_entries new ≡ finite.put cell_cmp c m (as_entries old)
    → AreInOrder new × (map_of new ≡ finite.insert (map_of old) c m)
noted-map c m old new order is =
    let up = subst (λ es. T (finite.is_sorted cell_cmp es)) (sym is) (is_sorted-put cell_cmp cell_cmp_total c m (as_entries old) order) in (
      up,
      finite.same_entries_map _ _ (finite.entries-from_sorted cell_cmp (as_entries new) up ∙ is
          ∙ ap (finite.put cell_cmp c m) (sym (finite.entries-from_sorted cell_cmp (as_entries old) order)) ∙ sym (finite.entries-insert cell_cmp_total _ c m)),
    )

-- no access is no cell
pub nothing_noted : finite.from_sorted {R = cell_cmp} (as_entries []) ≡ finite.empty
nothing_noted = finite.empty_of_len _ (finite.len-entries _ ∙ ap length (finite.entries-from_sorted cell_cmp [] tt))

again : (list : List Access) → map (λ (e : Cell × Mode). access e.0 e.1) (as_entries list) ≡ list
again [] = refl
again (a ∷ more) = ap (λ rest. a ∷ rest) (again more)

-- the list is what the map lists
pub told : (list : List Access) → AreInOrder list → list ≡ listed (finite.from_sorted (as_entries list))
told list order = sym (ap (map (λ (e : Cell × Mode). access e.0 e.1)) (finite.entries-from_sorted cell_cmp (as_entries list) order) ∙ again list)

-- where the cell's place was found in these accesses
pub record IsFoundAt (c : Cell) (items seen : List Access) (at : ℕ) (b : Bool) : Type 0 where
  pub seen_is : seen ≡ items
  pub place : at ≡ place_in c seen
  pub noted : b ≡ is_noted c seen

module _ (c : Cell) (items seen : List Access) (at : ℕ) (b : Bool) (found : IsFoundAt c items seen at b) where
  place_is : at ≡ place_in c items
  place_is = found.place ∙ ap (place_in c) found.seen_is

  noted_is : b ≡ is_noted c items
  noted_is = found.noted ∙ ap (is_noted c) found.seen_is

  pub at-within : (n : ℕ) → length seen ≡ n → at ≤ n
  at-within n is = subst (λ k. at ≤ k) is (subst (λ k. k ≤ length seen) (sym found.place) (place-within c seen))

  pub at-below : (n : ℕ) → length seen ≡ n → b ≡ true → at < n
  at-below n is sure = subst (λ k. at < k) is (subst (λ k. k < length seen) (sym found.place) (noted-within c seen (sym found.noted ∙ sure)))

  module _ (m : Mode) (old : Modes) (order : AreInOrder items) (view : map_of items ≡ old) where
    pub note-again : b ≡ true → (there d : Access) → there ≡ slice_index_or items at d
        → AreInOrder (slice_set items at (access there.cell m)) × (map_of (slice_set items at (access there.cell m)) ≡ finite.insert old c m)
    note-again sure there d is =
        let both = noted-map c m items (slice_set items at (access there.cell m)) order
        (ap (λ n. as_entries (slice_set items n (access there.cell m))) place_is
        ∙ put-again c m there d items (sym noted_is ∙ sure) (is ∙ ap (λ n. slice_index_or items n d) place_is)) in
        (both.0, both.1 ∙ ap (λ n. finite.insert n c m) view)

    pub note-new : b ≡ false → (new : List Access) → new ≡ insert items at (access c m)
        → AreInOrder new × (map_of new ≡ finite.insert old c m)
    note-new none new is =
        let both = noted-map c m items new order
        (ap as_entries is ∙ ap (λ n. as_entries (insert items n (access c m))) place_is ∙ put-new c m items (sym noted_is ∙ none)) in
        (both.0, both.1 ∙ ap (λ n. finite.insert n c m) view)
