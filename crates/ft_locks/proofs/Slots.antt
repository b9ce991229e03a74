-- The cells in their slab as callers see them, as a cell comes, gets other holders, and goes.
use Rattle.std.proofs.Common.{◌≡◌, ℕ, zero, suc, ◌+◌, ◌<◌, Bool, true, false, cond, ◌||◌, List, [], ◌∷◌, map, get_or, Option, Some, None, IsSome, is_some, refl, sym, ap, subst, ◌∙◌, arith}
use Rattle.std.proofs.lemmas.Bool.{false≢true}
use Rattle.std.specs.Option.{option_map, IfSome}
use Rattle.std.specs.Prelude.{IsSomeAnd}
use Rattle.std.specs.List.{list_any}
use Rattle.std.specs.Ordering.{nat_cmp, eq_by_cmp}
use Rattle.std.specs.Cmp.{nat_cmp_total, eq_by_cmp_equiv}
use Rattle.std.specs.FinMap as finite
use Rattle.std.specs.Map.{lookup}
use Rattle.std.proofs.lemmas.Map.Made.{lookup-map_values}
use Rattle.slab.specs.Slab.{Slab, get, entries_from, with_value, Updates}
use Rattle.slab.proofs.SlabLemmas.{Updates-with_value}
use Rattle.ft_cells.specs.declared.cell.Cell.{Cell}
use Rattle.ft_cells.specs.CellOrder.{cell_cmp, cell_cmp_total, same_cell, same_cell-is}
use Rattle.ft_locks.specs.declared.cells.Locked.{Locked}
use Rattle.ft_lock_rules.specs.CellLocks.{Owners}
use Rattle.ft_lock_rules.specs.Cells.{Cells, CellKeys, Keyed, marks_at, holders_of, holders_under}
use Rattle.ft_locks.specs.Slots.{owners_of, cells_of, at_of, keys_in, keyed_of, AreKeyed, shown, ShowSame}
use Rattle.ft_locks.specs.Lending.{with_holders_of, with_holders}
use Rattle.ft_lock_rules.proofs.Paired.{the_one, tie, no_tie, tied, untied, paired-put, paired-out, paired-same}
use Rattle.ft_lock_rules.proofs.CellViews.{key_in, same_cells, turned_cell}
use Rattle.ft_lock_rules.proofs.Places.{put_back}

pub same_itself : (c : Cell) → same_cell c c ≡ true
same_itself c = (eq_by_cmp_equiv cell_cmp_total).refl c

-- the cell in a slot
abbrev pub cell_in : Option Locked → Option Cell
cell_in o = option_map (λ l. l.cell) o

abbrev pub keyed_from : ℕ → List (Option Locked) → List (ℕ × Cell)
keyed_from n slots = map (λ e. (e.0, e.1.cell)) (entries_from n slots)

below : (slots : List (Option Locked)) (n k : ℕ) → k < n → finite.find nat_cmp k (keyed_from n slots) ≡ None
below [] n k lt = refl
below (None ∷ slots) n k lt = below slots (n + 1) k (omega arith)
below (Some l ∷ slots) n k lt = ap (λ b. cond b (Some l.cell) (finite.find nat_cmp k (keyed_from (n + 1) slots))) (no_tie k n (λ is. omega arith)) ∙ below slots (n + 1) k (omega arith)

from : (slots : List (Option Locked)) (n d k : ℕ) → k ≡ n + d → finite.find nat_cmp k (keyed_from n slots) ≡ cell_in (get_or slots d None)
from [] n d k is = refl
from (None ∷ slots) n zero k is = below slots (n + 1) k (omega arith)
from (Some l ∷ slots) n zero k is = ap (λ b. cond b (Some l.cell) (finite.find nat_cmp k (keyed_from (n + 1) slots))) (tie k n (omega arith))
from (None ∷ slots) n (suc d) k is = from slots (n + 1) d k (omega arith)
from (Some l ∷ slots) n (suc d) k is =
    ap (λ b. cond b (Some l.cell) (finite.find nat_cmp k (keyed_from (n + 1) slots))) (no_tie k n (λ e. omega arith)) ∙ from slots (n + 1) d k (omega arith)

-- what stands under a key
pub get-at : (s : Slab Locked) (k : ℕ) → finite.get (at_of s) k ≡ cell_in (get s k)
get-at s k = finite.get-from_entries nat_cmp_total (keyed_from 0 s.slots) k ∙ from s.slots 0 k k (omega arith)

pub at-there : (s : Slab Locked) (k : ℕ) (l : Locked) → get s k ≡ Some l → finite.get (at_of s) k ≡ Some l.cell
at-there s k l there = get-at s k ∙ ap cell_in there

-- only the cell that stands under a key does
pub stands_if : (s : Slab Locked) (k : ℕ) (l : Locked) (c : Cell) → get s k ≡ Some l → finite.get (at_of s) k ≡ Some c → same_cell l.cell c ≡ true
stands_if s k l c there is = ap (same_cell l.cell) (sym (the_one l.cell c (sym (at-there s k l there) ∙ is))) ∙ same_itself l.cell

pub at-none : (s : Slab Locked) (k : ℕ) → get s k ≡ None → finite.get (at_of s) k ≡ None
at-none s k there = get-at s k ∙ ap cell_in there

find_lookup : (es : List (Cell × Owners)) (q : Cell) → finite.find cell_cmp q es ≡ lookup (same_cell q) es
find_lookup [] q = refl
find_lookup (e ∷ es) q = ap (cond (same_cell q e.0) (Some e.1)) (find_lookup es q)

-- what a cell has
pub get-cells : (s : Slab Locked) (index : List (Cell × ℕ)) (q : Cell) → finite.get (cells_of s index) q ≡ option_map (λ k. owners_of (get s k)) (key_in index q)
get-cells s index q =
    finite.get-from_entries cell_cmp_total (map (λ e. (e.0, owners_of (get s e.1))) index) q
    ∙ find_lookup (map (λ e. (e.0, owners_of (get s e.1))) index) q ∙ lookup-map_values (λ k. owners_of (get s k)) (same_cell q) index

pub cells-there : (s : Slab Locked) (index : List (Cell × ℕ)) (q : Cell) (k : ℕ) (o : Option Locked) → key_in index q ≡ Some k → get s k ≡ o → finite.get (cells_of s index) q ≡ Some (owners_of o)
cells-there s index q k o key there = get-cells s index q ∙ ap (option_map (λ j. owners_of (get s j))) key ∙ ap (λ x. Some (owners_of x)) there

some_of : {A B : Type 0} (f : A → B) (o : Option A) → is_some (option_map f o) ≡ is_some o
some_of f None = refl
some_of f (Some x) = refl

pub cells-some : (s : Slab Locked) (index : List (Cell × ℕ)) (q : Cell) → finite.contains_key (cells_of s index) q ≡ is_some (key_in index q)
cells-some s index q = ap is_some (get-cells s index q) ∙ some_of (λ k. owners_of (get s k)) (key_in index q)

-- the holders under a key are those of the slot
pub under-slot : (s : Slab Locked) (index : List (Cell × ℕ)) → AreKeyed (at_of s) index → (k : ℕ)
    → holders_under (record { cells = cells_of s index; at = at_of s }) k ≡ option_map (λ l. l.holders) (get s k)
under-slot s index keyed k = by_slot (get s k) refl
  where
    by_slot : (o : Option Locked) → get s k ≡ o → holders_of (cells_of s index) (finite.get (at_of s) k) ≡ option_map (λ l. l.holders) o
    by_slot None e = ap (holders_of (cells_of s index)) (at-none s k e)
    by_slot (Some l) e = ap (holders_of (cells_of s index)) (at-there s k l e) ∙ cells-there s index l.cell k (Some l) ((keyed l.cell k).1 (at-there s k l e)) e

-- what the index has is what stands there
pub key-at : (at : CellKeys) (index : List (Cell × ℕ)) (q : Cell) (r : Option ℕ) → AreKeyed at index → r ≡ key_in index q → IfSome r (λ k. finite.get at k ≡ Some q)
key-at at index q None keyed is = tt
key-at at index q (Some k) keyed is = (keyed q k).0 (sym is)

same_at : (m n : CellKeys) → ((k : ℕ) → finite.get m k ≡ finite.get n k) → m ≡ n
same_at m n is = finite.same_map nat_cmp_total finite.nat_cmp-IsAntisymmetric m n is

-- One slot has changed.
module _ (s s' : Slab Locked) (k : ℕ) (o : Option Locked) (changes : Updates s s' k o) where
  got-at : (j : ℕ) → finite.get (at_of s') j ≡ cond (eq_by_cmp nat_cmp j k) (cell_in o) (finite.get (at_of s) j)
  got-at j = get-at s' j ∙ by_key (eq_by_cmp nat_cmp j k) refl
    where
      by_key : (b : Bool) → eq_by_cmp nat_cmp j k ≡ b → cell_in (get s' j) ≡ cond (eq_by_cmp nat_cmp j k) (cell_in o) (finite.get (at_of s) j)
      by_key true e = ap (λ i. cell_in (get s' i)) (tied j k e) ∙ ap cell_in changes.changed ∙ sym (ap (λ b. cond b (cell_in o) (finite.get (at_of s) j)) e)
      by_key false e = ap cell_in (changes.others j (untied j k e)) ∙ sym (get-at s j) ∙ sym (ap (λ b. cond b (cell_in o) (finite.get (at_of s) j)) e)

  pub at-put : (c : Cell) → cell_in o ≡ Some c → at_of s' ≡ finite.insert (at_of s) k c
  at-put c is = same_at _ _ (λ j. got-at j ∙ ap (λ x. cond (eq_by_cmp nat_cmp j k) x (finite.get (at_of s) j)) is ∙ sym (finite.get-insert nat_cmp_total (at_of s) k c j))

  pub at-out : o ≡ None → at_of s' ≡ finite.remove (at_of s) k
  at-out is = same_at _ _ (λ j. got-at j ∙ ap (λ x. cond (eq_by_cmp nat_cmp j k) (cell_in x) (finite.get (at_of s) j)) is ∙ sym (finite.get-remove nat_cmp_total (at_of s) k j))

  pub at-same : cell_in o ≡ finite.get (at_of s) k → at_of s' ≡ at_of s
  at-same is = same_at _ _ (λ j. got-at j ∙ by_key j (eq_by_cmp nat_cmp j k) refl)
    where
      by_key : (j : ℕ) (b : Bool) → eq_by_cmp nat_cmp j k ≡ b → cond (eq_by_cmp nat_cmp j k) (cell_in o) (finite.get (at_of s) j) ≡ finite.get (at_of s) j
      by_key j true e = ap (λ b. cond b (cell_in o) (finite.get (at_of s) j)) e ∙ is ∙ ap (finite.get (at_of s)) (sym (tied j k e))
      by_key j false e = ap (λ b. cond b (cell_in o) (finite.get (at_of s) j)) e

  -- cells with other keys have what they had
  elsewhere : (index index' : List (Cell × ℕ)) (q : Cell) → key_in index' q ≡ key_in index q → (key_in index q ≡ Some k → ⊥)
      → finite.get (cells_of s' index') q ≡ finite.get (cells_of s index) q
  elsewhere index index' q same not_there =
      get-cells s' index' q ∙ ap (option_map (λ j. owners_of (get s' j))) same ∙ by_key (key_in index q) refl ∙ sym (get-cells s index q)
    where
      by_key : (x : Option ℕ) → key_in index q ≡ x → option_map (λ j. owners_of (get s' j)) x ≡ option_map (λ j. owners_of (get s j)) x
      by_key None e = refl
      by_key (Some j) e = ap (λ y. Some (owners_of y)) (changes.others j (λ is. not_there (e ∙ ap Some is)))

  module _ (index : List (Cell × ℕ)) (keyed : AreKeyed (at_of s) index) where
    -- a new cell
    pub cells-put : (index' : List (Cell × ℕ)) (c : Cell) → get s k ≡ None → ((q : Cell) → key_in index' q ≡ cond (same_cell c q) (Some k) (key_in index q))
        → cells_of s' index' ≡ finite.insert (cells_of s index) c (owners_of o)
    cells-put index' c free put = same_cells _ _ (λ q. by_cell q (same_cell c q) refl ∙ sym (finite.get-insert cell_cmp_total (cells_of s index) c (owners_of o) q))
      where
        by_cell : (q : Cell) (b : Bool) → same_cell c q ≡ b → finite.get (cells_of s' index') q ≡ cond (same_cell q c) (Some (owners_of o)) (finite.get (cells_of s index) q)
        by_cell q true e =
            cells-there s' index' q k o (put q ∙ ap (λ b. cond b (Some k) (key_in index q)) e) changes.changed
            ∙ sym (ap (λ b. cond b (Some (owners_of o)) (finite.get (cells_of s index) q)) (turned_cell q c ∙ e))
        by_cell q false e =
            elsewhere index index' q (put q ∙ ap (λ b. cond b (Some k) (key_in index q)) e)
            (λ is. false≢true (ap is_some (sym (at-none s k free) ∙ (keyed q k).0 is)))
            ∙ sym (ap (λ b. cond b (Some (owners_of o)) (finite.get (cells_of s index) q)) (turned_cell q c ∙ e))

    -- only the cell that stands there has its key
    alone : (c q : Cell) → finite.get (at_of s) k ≡ Some c → same_cell c q ≡ false → key_in index q ≡ Some k → ⊥
    alone c q there e is =
        let same : c ≡ q = the_one c q (sym there ∙ (keyed q k).0 is) in
        false≢true (sym e ∙ ap (same_cell c) (sym same) ∙ same_itself c)

    -- a cell with other holders
    pub cells-changed : (c : Cell) → finite.get (at_of s) k ≡ Some c → cells_of s' index ≡ finite.insert (cells_of s index) c (owners_of o)
    cells-changed c there = same_cells _ _ (λ q. by_cell q (same_cell c q) refl ∙ sym (finite.get-insert cell_cmp_total (cells_of s index) c (owners_of o) q))
      where
        by_cell : (q : Cell) (b : Bool) → same_cell c q ≡ b → finite.get (cells_of s' index) q ≡ cond (same_cell q c) (Some (owners_of o)) (finite.get (cells_of s index) q)
        by_cell q true e =
            cells-there s' index q k o ((keyed q k).1 (there ∙ ap Some (same_cell-is c q e))) changes.changed
            ∙ sym (ap (λ b. cond b (Some (owners_of o)) (finite.get (cells_of s index) q)) (turned_cell q c ∙ e))
        by_cell q false e = elsewhere index index q refl (alone c q there e) ∙ sym (ap (λ b. cond b (Some (owners_of o)) (finite.get (cells_of s index) q)) (turned_cell q c ∙ e))

    -- a cell less
    pub cells-out : (index' : List (Cell × ℕ)) (c : Cell) → finite.get (at_of s) k ≡ Some c → ((q : Cell) → key_in index' q ≡ cond (same_cell c q) None (key_in index q))
        → cells_of s' index' ≡ finite.remove (cells_of s index) c
    cells-out index' c there out = same_cells _ _ (λ q. by_cell q (same_cell c q) refl ∙ sym (finite.get-remove cell_cmp_total (cells_of s index) c q))
      where
        by_cell : (q : Cell) (b : Bool) → same_cell c q ≡ b → finite.get (cells_of s' index') q ≡ cond (same_cell q c) None (finite.get (cells_of s index) q)
        by_cell q true e =
            get-cells s' index' q ∙ ap (option_map (λ j. owners_of (get s' j))) (out q ∙ ap (λ b. cond b None (key_in index q)) e)
            ∙ sym (ap (λ b. cond b None (finite.get (cells_of s index) q)) (turned_cell q c ∙ e))
        by_cell q false e =
            elsewhere index index' q (out q ∙ ap (λ b. cond b None (key_in index q)) e) (alone c q there e)
            ∙ sym (ap (λ b. cond b None (finite.get (cells_of s index) q)) (turned_cell q c ∙ e))

-- The keys of the cells, as one comes and as one goes.
module _ (at : CellKeys) (index index' : List (Cell × ℕ)) (c : Cell) (k : ℕ) (keyed : AreKeyed at index) where
  pub keyed-put : finite.get at k ≡ None → key_in index c ≡ None → ((q : Cell) → key_in index' q ≡ cond (same_cell c q) (Some k) (key_in index q)) → AreKeyed (finite.insert at k c) index'
  keyed-put free absent put =
      paired-put same_cell same_cell-is same_itself (key_in index) (key_in index') (finite.get at) (finite.get (finite.insert at k c)) c k keyed free absent put (finite.get-insert nat_cmp_total at k c)

  pub keyed-out : finite.get at k ≡ Some c → ((q : Cell) → key_in index' q ≡ cond (same_cell c q) None (key_in index q)) → AreKeyed (finite.remove at k) index'
  keyed-out there out =
      paired-out same_cell same_cell-is same_itself (key_in index) (key_in index') (finite.get at) (finite.get (finite.remove at k)) c k keyed there out (finite.get-remove nat_cmp_total at k)

pub keyed-none : (s : Slab Locked) (index : List (Cell × ℕ)) → s.slots ≡ [] → index ≡ [] → AreKeyed (at_of s) index
keyed-none s index empty none c k = (
  λ is. absurd (false≢true (ap is_some (sym (ap (λ es. key_in es c) none) ∙ is))),
  λ is. absurd (false≢true (ap is_some (sym (at-none s k (ap (λ slots. get_or slots k None) empty)) ∙ is))),
)

-- room alone changes nothing
pub updates-after : (s s1 s2 : Slab Locked) (k : ℕ) (o : Option Locked) → s1 ≡ record s { capacity = s1.capacity } → Updates s1 s2 k o → Updates s s2 k o
updates-after s s1 s2 k o room changes = record { changed = changes.changed; others = λ j apart. changes.others j apart ∙ ap (λ (t : Slab Locked). get t j) room }

pub put-there : (at at' : CellKeys) (k : ℕ) (c : Cell) → at' ≡ finite.insert at k c → finite.get at' k ≡ Some c
put-there at at' k c is = ap (λ m. finite.get m k) is ∙ finite.get-insert nat_cmp_total at k c k ∙ ap (λ b. cond b (Some c) (finite.get at k)) (tie k k refl)

-- a cell that comes leaves the others where they stand
pub put-others : (at at' : CellKeys) (k : ℕ) (c : Cell) → at' ≡ finite.insert at k c → finite.get at k ≡ None → (j : ℕ) → IsSome (finite.get at j) → finite.get at' j ≡ finite.get at j
put-others at at' k c is free j there =
    ap (λ m. finite.get m j) is ∙ finite.get-insert nat_cmp_total at k c j
    ∙ ap (λ b. cond b (Some c) (finite.get at j)) (no_tie j k (λ same. false≢true (ap is_some (sym (ap (finite.get at) same ∙ free)) ∙ there)))

-- a cell on which nobody has a place leaves the others where they stand
pub out-others : (at at' : CellKeys) (k : ℕ) (c : Cell) (new : Cells) → finite.get at k ≡ Some c → at' ≡ finite.remove at k → ((u : ℕ) → marks_at new c u ≡ None)
    → (j : ℕ) (d : Cell) (u : ℕ) → finite.get at j ≡ Some d → IsSome (marks_at new d u) → finite.get at' j ≡ Some d
out-others at at' k c new there is gone j d u stands placed =
    ap (λ m. finite.get m j) is ∙ finite.get-remove nat_cmp_total at k j ∙ ap (λ b. cond b None (finite.get at j)) (no_tie j k apart) ∙ stands
  where
    apart : j ≡ k → ⊥
    apart same =
        let one : d ≡ c = the_one d c (sym stands ∙ ap (finite.get at) same ∙ there) in
        false≢true (sym (ap (λ e. is_some (marks_at new e u)) one ∙ ap is_some (gone u)) ∙ placed)

-- What is said of the cell under a key, where one stands there.
pub if_known : {A : Type 0} (o : Option A) (x : A) (P : A → Type 0) → o ≡ Some x → IfSome o P → P x
if_known o x P is h = subst (λ y. IfSome y P) is h

pub known_if : {A : Type 0} (o : Option A) (x : A) (P : A → Type 0) → o ≡ Some x → P x → IfSome o P
known_if o x P is p = subst (λ y. IfSome y P) (sym is) p

pub some_and : {A : Type 0} (o : Option A) (P : A → Type 0) → IsSomeAnd o P → (x : A) × (o ≡ Some x) × P x
some_and None P none = absurd none
some_and (Some x) P p = (x, refl, p)

pub there_if : {A : Type 0} (o : Option A) → false ≡ is_some o → None ≡ o
there_if None e = refl
there_if (Some x) e = absurd (false≢true e)

-- the cell under a key has other holders
pub changed_under : (m : Cells) (o : Option Cell) (c : Cell) (h : Owners) (P : Cells → Cell → Type 0) → o ≡ Some c → P (finite.insert m c h) c → IfSome o (λ d. P (with_holders_of m o h) d)
changed_under m o c h P is p = subst (λ y. IfSome y (λ d. P (with_holders_of m y h) d)) (sym is) p

pub back_under : (k : Keyed) (key : ℕ) (c : Cell) (h : Owners) → finite.get k.at key ≡ Some c → Some h ≡ finite.get k.cells c → with_holders k key h ≡ k
back_under k key c h is there = λ i. record { cells = (ap (λ o. with_holders_of k.cells o h) is ∙ put_back k.cells c h there) i; at = k.at }

-- What callers see of the slab and the index.
module _ (s : Slab Locked) (index : List (Cell × ℕ)) (seen : Keyed) (is : record { cells = cells_of s index; at = at_of s } ≡ seen) where
  pub seen-at : (k : ℕ) (o : Option Locked) → get s k ≡ o → cell_in o ≡ finite.get seen.at k
  seen-at k o there = sym (get-at s k ∙ ap cell_in there) ∙ ap (λ (m : Keyed). finite.get m.at k) is

  pub seen-key : (q : Cell) → is_some (key_in index q) ≡ finite.contains_key seen.cells q
  seen-key q = sym (cells-some s index q) ∙ ap (λ (m : Keyed). finite.contains_key m.cells q) is

  pub no_key : (q : Cell) → finite.get seen.cells q ≡ None → key_in index q ≡ None
  no_key q none = nothing (key_in index q) (seen-key q ∙ ap is_some none)
    where
      nothing : (o : Option ℕ) → is_some o ≡ false → o ≡ None
      nothing None e = refl
      nothing (Some k) e = absurd (false≢true (sym e))

  module _ (keyed : AreKeyed (at_of s) index) where
    pub seen-under : (k : ℕ) (o : Option Locked) → get s k ≡ o → option_map (λ l. l.holders) o ≡ holders_under seen k
    seen-under k o there = sym (under-slot s index keyed k ∙ ap (option_map (λ l. l.holders)) there) ∙ ap (λ (m : Keyed). holders_under m k) is

    module _ (k : ℕ) (l : Locked) (there : get s k ≡ Some l) (holders : Owners) where
      abbrev pub lent_slab : Slab Locked
      lent_slab = with_value s k (record l { holders = holders })

      lent_changes : Updates s lent_slab k (Some (record l { holders = holders }))
      lent_changes = Updates-with_value s k (record l { holders = holders }) (ap is_some there)

      pub lent-at : at_of lent_slab ≡ at_of s
      lent-at = at-same s lent_slab k (Some (record l { holders = holders })) lent_changes (sym (at-there s k l there))

      -- what is written behind a loan of holders is seen at their cell
      pub lent-seen : ◌≡◌ {A = Keyed} (record { cells = cells_of lent_slab index; at = at_of lent_slab }) (with_holders seen k holders)
      lent-seen =
          (λ i. record { cells = cells-changed s lent_slab k (Some (record l { holders = holders })) lent_changes index keyed l.cell (at-there s k l there) i; at = lent-at i })
          ∙ ap (λ o. record { cells = with_holders_of (cells_of s index) o holders; at = at_of s }) (sym (at-there s k l there))
          ∙ ap (λ (m : Keyed). with_holders m k holders) is

-- the same of the keys that the slab itself has
pub lent-keyed : (s : Slab Locked) (seen : Keyed) (is : keyed_of s ≡ seen) (keyed : AreKeyed (at_of s) (keys_in (at_of s))) (k : ℕ) (l : Locked) (there : get s k ≡ Some l) (holders : Owners)
    → keyed_of (with_value s k (record l { holders = holders })) ≡ with_holders seen k holders
lent-keyed s seen is keyed k l there holders =
    ap (λ at. record { cells = cells_of (lent_slab s (keys_in (at_of s)) seen is keyed k l there holders) (keys_in at); at = at_of (lent_slab s (keys_in (at_of s)) seen is keyed k l there holders) }) (lent-at s (keys_in (at_of s)) seen is keyed k l there holders)
    ∙ lent-seen s (keys_in (at_of s)) seen is keyed k l there holders

-- Something stands in a slot where it is among the entries.
pub any_there : (p : Locked → Bool) (slots : List (Option Locked)) (n d : ℕ) (l : Locked) → get_or slots d None ≡ Some l → p l ≡ true → list_any (λ e. p e.1) (entries_from n slots) ≡ true
any_there p [] n d l there is = absurd (false≢true (ap is_some there))
any_there p (None ∷ slots) n zero l there is = absurd (false≢true (ap is_some there))
any_there p (Some x ∷ slots) n zero l there is = ap (λ b. b || list_any (λ e. p e.1) (entries_from (n + 1) slots)) (ap p (the_one x l there) ∙ is)
any_there p (None ∷ slots) n (suc d) l there is = any_there p slots (n + 1) d l there is
any_there p (Some x ∷ slots) n (suc d) l there is = ap (λ b. p x || b) (any_there p slots (n + 1) d l there is) ∙ or_true (p x)
  where
    or_true : (b : Bool) → (b || true) ≡ true
    or_true true = refl
    or_true false = refl

pub there_any : (p : Locked → Bool) (slots : List (Option Locked)) (n : ℕ) → list_any (λ e. p e.1) (entries_from n slots) ≡ true → (d : ℕ) × (l : Locked) × (get_or slots d None ≡ Some l) × (p l ≡ true)
there_any p [] n any = absurd (false≢true any)
there_any p (None ∷ slots) n any = let later = there_any p slots (n + 1) any in (suc later.0, later.1, later.2, later.3)
there_any p (Some x ∷ slots) n any = by_test (p x) refl any (there_any p slots (n + 1))
  where
    by_test : (b : Bool) → p x ≡ b → (b || list_any (λ e. p e.1) (entries_from (n + 1) slots)) ≡ true
        → (list_any (λ e. p e.1) (entries_from (n + 1) slots) ≡ true → (d : ℕ) × (l : Locked) × (get_or slots d None ≡ Some l) × (p l ≡ true))
        → (d : ℕ) × (l : Locked) × (get_or (Some x ∷ slots) d None ≡ Some l) × (p l ≡ true)
    by_test true e any later = (0, x, refl, e)
    by_test false e any later = let found = later any in (suc found.0, found.1, found.2, found.3)

pub and_some : {A : Type 0} (o : Option A) (x : A) (P : A → Type 0) → o ≡ Some x → P x → IsSomeAnd o P
and_some o x P is p = subst (λ y. IsSomeAnd y P) (sym is) p

-- What shows the same cells with the same holders.
module _ (s s' : Slab Locked) (same : ShowSame (get s) (get s')) where
  pub at-shown : at_of s' ≡ at_of s
  at-shown = same_at _ _ (λ k. get-at s' k ∙ by_slots (get s' k) (get s k) (same k) ∙ sym (get-at s k))
    where
      by_slots : (x y : Option Locked) → shown x ≡ shown y → cell_in x ≡ cell_in y
      by_slots None None e = refl
      by_slots None (Some y) e = absurd (false≢true (ap is_some e))
      by_slots (Some x) None e = absurd (false≢true (sym (ap is_some e)))
      by_slots (Some x) (Some y) e = ap (λ (p : Cell × Owners). Some p.0) (the_one (x.cell, x.holders) (y.cell, y.holders) e)

  pub cells-shown : (index : List (Cell × ℕ)) → cells_of s' index ≡ cells_of s index
  cells-shown index = same_cells _ _ (λ q. get-cells s' index q ∙ by_key (key_in index q) ∙ sym (get-cells s index q))
    where
      by_slots : (x y : Option Locked) → shown x ≡ shown y → owners_of x ≡ owners_of y
      by_slots None None e = refl
      by_slots None (Some y) e = absurd (false≢true (ap is_some e))
      by_slots (Some x) None e = absurd (false≢true (sym (ap is_some e)))
      by_slots (Some x) (Some y) e = ap (λ (p : Cell × Owners). p.1) (the_one (x.cell, x.holders) (y.cell, y.holders) e)

      by_key : (o : Option ℕ) → option_map (λ k. owners_of (get s' k)) o ≡ option_map (λ k. owners_of (get s k)) o
      by_key None = refl
      by_key (Some k) = ap Some (by_slots (get s' k) (get s k) (same k))

-- an index that has the same keys shows the same
pub cells-index : (s : Slab Locked) (es fs : List (Cell × ℕ)) → ((q : Cell) → key_in fs q ≡ key_in es q) → cells_of s fs ≡ cells_of s es
cells-index s es fs same = same_cells _ _ (λ q. get-cells s fs q ∙ ap (option_map (λ k. owners_of (get s k))) (same q) ∙ sym (get-cells s es q))

pub keyed-index : (at : CellKeys) (es fs : List (Cell × ℕ)) → ((q : Cell) → key_in fs q ≡ key_in es q) → AreKeyed at es → AreKeyed at fs
keyed-index at es fs same keyed = paired-same (key_in es) (key_in fs) (finite.get at) (finite.get at) keyed same (λ k. refl)

-- a key that was put for nothing is taken out again
pub index-back : (es fs gs : List (Cell × ℕ)) (c : Cell) (k : ℕ) → key_in es c ≡ None → ((q : Cell) → key_in fs q ≡ cond (same_cell c q) (Some k) (key_in es q))
    → ((q : Cell) → key_in gs q ≡ cond (same_cell c q) None (key_in fs q)) → (q : Cell) → key_in gs q ≡ key_in es q
index-back es fs gs c k absent put out q = out q ∙ ap (cond (same_cell c q) None) (put q) ∙ by_cell (same_cell c q) refl
  where
    by_cell : (b : Bool) → same_cell c q ≡ b → cond (same_cell c q) None (cond (same_cell c q) (Some k) (key_in es q)) ≡ key_in es q
    by_cell true e = ap (λ b. cond b None (cond b (Some k) (key_in es q))) e ∙ sym (ap (key_in es) (sym (same_cell-is c q e)) ∙ absent)
    by_cell false e = ap (λ b. cond b None (cond b (Some k) (key_in es q))) e
