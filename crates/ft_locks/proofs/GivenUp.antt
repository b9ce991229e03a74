-- What is seen of the cells that were let go all at once, as locks come and go and as they are told.
use Rattle.std.proofs.Common.{◌≡◌, ◌≢◌, ℕ, zero, suc, ◌+◌, ◌<◌, ◌≤◌, Bool, true, false, cond, not, ◌&&◌, ◌||◌, ◌==◌, List, [], ◌∷◌, filter, length, drop, get_or, Option, Some, None, is_some, unwrap_or, refl, sym, ap, subst, ◌∙◌, arith, inl, inr, eq-eqb}
use Rattle.std.proofs.lemmas.Bool.{false≢true, and_parts, and_from, or_cases, or_left, or_right}
use Rattle.std.proofs.lemmas.List.Sums.{length-filter}
use Rattle.std.proofs.lemmas.Map.Views.{any-filter_same}
use Rattle.std.specs.Prelude.{slice_index_or}
use Rattle.std.specs.List.{list_any}
use Rattle.std.specs.Option.{option_map, IsSomeAnd}
use Rattle.std.specs.Ordering.{nat_cmp, eq_by_cmp}
use Rattle.std.specs.Cmp.{nat_cmp_total, unsigned_tied}
use Rattle.std.specs.FinMap as finite
use Rattle.std.specs.FinSet as set
use Rattle.slab.specs.Slab.{Slab, get, slab_len, entries, entries_from}
use Rattle.ft_laws.proofs.Tests.{by_test}
use Rattle.ft_owned_lists.specs.OwnedLists.{Lists, list_in}
use Rattle.ft_cells.specs.declared.cell.Cell.{Cell}
use Rattle.ft_cells.specs.CellOrder.{cell_cmp, cell_cmp_total, same_cell, same_cell-is}
use Rattle.ft_posix.specs.declared.call.Mode.{Mode}
use Rattle.ft_posix.specs.declared.call.Access.{Access}
use Rattle.ft_forest.specs.Transactions.{Transactions}
use Rattle.ft_lock_rules.specs.declared.line.LockKind.TheVariants.{Held as HeldKind}
use Rattle.ft_lock_rules.specs.declared.line.LockLine.{LockLine}
use Rattle.ft_lock_rules.specs.declared.rule.Rule.{Rule}
use Rattle.ft_lock_rules.specs.LockModes.{is_marked_of}
use Rattle.ft_lock_rules.specs.CellLocks.{Owners}
use Rattle.ft_lock_rules.specs.Cells.{Cells, Keyed, marks_at, after_hand, released_owner}
use Rattle.ft_lock_rules.specs.Holdings.{Held, AreSingle, AreOpenStill, AreJoined, AreUsed, has_place, cells_under, lists_under}
use Rattle.ft_lock_rules.specs.Seen.{has_mark_of, is_marked_at, keeps_of, is_kept_among, is_kept_at, table_of, IsKept}
use Rattle.ft_lock_rules.specs.Locks.{LockTable, no_locks, has_lock, is_locked, is_released, is_held, same_mode, has_access, is_accessed, is_kept_by, is_kept, may_be_useless, AreGiven, AreGranted, AreInherited, AreFreed, AreReleased, AreListed, AreBlockers, IsInTheWay}
use Rattle.ft_lock_rules.specs.Knowing.{is_known}
use Rattle.ft_lock_rules.proofs.CellViews.{key_in}
use Rattle.ft_lock_rules.proofs.Paired.{the_one, tied}
use Rattle.ft_lock_rules.proofs.Places.{marks-missing}
use Rattle.ft_lock_rules.proofs.Joining.{itself, apart_test, list-insert}
use Rattle.ft_lock_rules.proofs.Tables.{line, cell_locked, lines-seen, locked-seen, released_cells-seen, marked_by, marked_one, same_truth, same_cells_set}
use Rattle.ft_lock_rules.proofs.Under.{list-under, none-under}
use Rattle.ft_lock_rules.proofs.Handing.{closed_opened, released, released_kept}
use Rattle.ft_lock_rules.proofs.Knowing.{known_law, still-kept, kept-locked}
use Rattle.ft_lock_rules.proofs.Emptied.{keeps-none, among-one, kept-seen}
use Rattle.ft_lock_rules.proofs.Granted.{some_access}
use Rattle.ft_locks.specs.declared.cells.Locked.{Locked}
use Rattle.ft_locks.specs.Slots.{at_of, keys_in, cells_of, AreKeyed, owners_of}
use Rattle.ft_locks.specs.BulkReleased.{IsAllOf, has_keeper, left_in, left_from, is_left, with_bulk, seen_as, EndBefore, IsTaken}
use Rattle.ft_locks.proofs.Slots.{at-there, at-none, get-cells, cells-there, any_there, there_any, same_itself, some_and}

module _ (all : Bool) where
  -- What is seen of it, cell by cell.
  pub gone-seen : (bulk : List (ℕ × Locked)) (t : LockTable) (c : Cell) → is_released (with_bulk all bulk t) c ≡ (is_released t c || (not (is_locked t c) && is_left all bulk c))
  gone-seen bulk t c =
      set.contains-union cell_cmp_total t.released_cells (set.from_list (filter (λ k. not (is_locked t k)) (left_in all bulk))) c
      ∙ ap (λ b. is_released t c || b)
      (set.contains-from_list cell_cmp_total (filter (λ k. not (is_locked t k)) (left_in all bulk)) c
      ∙ any-filter_same (same_cell c) (λ k. not (is_locked t k)) (not (is_locked t c)) (λ k tied. ap (λ d. not (is_locked t d)) (sym (same_cell-is c k tied))) (left_in all bulk))

  -- two tables with the same locks and the same open transactions, whose cells that were let go are
  -- the same, are one
  same_table : (s t : LockTable) → s.lines ≡ t.lines → ((c : Cell) → is_released s c ≡ is_released t c) → s.opened ≡ t.opened → s.keeps_all ≡ t.keeps_all → s ≡ t
  same_table s t lines same opened keeps = λ i. record { lines = lines i; released_cells = same_cells_set s.released_cells t.released_cells same i; opened = opened i; keeps_all = keeps i }

  or_nothing : (a b : Bool) → (a || (b && false)) ≡ a
  or_nothing true b = refl
  or_nothing false true = refl
  or_nothing false false = refl

  -- where none is left nothing is let go besides
  pub gone-none : (bulk : List (ℕ × Locked)) (t : LockTable) → bulk ≡ [] → with_bulk all bulk t ≡ t
  gone-none bulk t none = ap (λ g. with_bulk all g t) none ∙ same_table (with_bulk all [] t) t refl (λ c. gone-seen [] t c ∙ or_nothing (is_released t c) (not (is_locked t c))) refl refl

  -- Locks come and go.

  given_bits : (g l a x : Bool) → ((g && not a) || (not (l || a) && x)) ≡ ((g || (not l && x)) && not a)
  given_bits true true true x = refl
  given_bits true true false x = refl
  given_bits true false true x = refl
  given_bits true false false x = refl
  given_bits false true true x = refl
  given_bits false true false x = refl
  given_bits false false true true = refl
  given_bits false false true false = refl
  given_bits false false false true = refl
  given_bits false false false false = refl

  released_bits : (a l m x : Bool) → (m ≡ true → l ≡ true) → ((a || (l && not m)) || (not m && x)) ≡ ((a || (not l && x)) || (l && not m))
  released_bits a false true x still = absurd (false≢true (still refl))
  released_bits true true true x still = refl
  released_bits false true true x still = refl
  released_bits true true false x still = refl
  released_bits false true false x still = refl
  released_bits true false false x still = refl
  released_bits false false false true still = refl
  released_bits false false false false still = refl

  -- what is accessed in a mode is accessed
  access_cell : (xs : List Access) (c : Cell) (mode : Mode) → has_access xs c mode ≡ true → is_accessed xs c ≡ true
  access_cell [] c mode e = e
  access_cell (a ∷ xs) c mode e = by_head (same_cell a.cell c) (same_mode a.mode mode) e (access_cell xs c mode)
    where
      by_head : (p q : Bool) → ((p && q) || has_access xs c mode) ≡ true → (has_access xs c mode ≡ true → is_accessed xs c ≡ true) → (p || is_accessed xs c) ≡ true
      by_head true q h later = refl
      by_head false q h later = later h

  module _ (bulk : List (ℕ × Locked)) (t s : LockTable) where
    module _ (txn : ℕ) (accesses : List Access) (are : AreGiven t s txn accesses) where
      granted_locked : (c : Cell) → is_locked s c ≡ (is_locked t c || is_accessed accesses c)
      granted_locked c = same_truth _ _
          (λ locked.
          let one = known_law.locked s c locked in
          elim (or_cases (has_lock t one.0) _ (sym (are.lines one.0) ∙ one.1)) [
            | inl was ↦ or_left (is_locked t c) (is_accessed accesses c) (subst (λ d. is_locked t d ≡ true) one.2 (cell_locked t one.0 was))
            | inr given ↦ or_right (is_locked t c) (is_accessed accesses c)
                (subst (λ d. is_accessed accesses d ≡ true) one.2 (access_cell accesses one.0.cell one.0.mode (and_parts (is_held one.0.kind && (one.0.owner == txn)) _ given).1))
          ])
          (λ either. elim (or_cases (is_locked t c) (is_accessed accesses c) either) [
            | inl was ↦
                let one = known_law.locked t c was in
                subst (λ d. is_locked s d ≡ true) one.2 (cell_locked s one.0 (are.lines one.0 ∙ or_left (has_lock t one.0) _ one.1))
            | inr accessed ↦
                let mode = some_access accesses c accessed in
                let new : LockLine = line c txn mode.0 HeldKind in
                cell_locked s new (are.lines new ∙ or_right (has_lock t new) _ (λ i. true && itself txn i && mode.1 i))
          ])

      pub granted-gone : AreGiven (with_bulk all bulk t) (with_bulk all bulk s) txn accesses
      granted-gone = record {
        lines = are.lines;
        released_cells = λ c. gone-seen bulk s c ∙ (λ i. are.released_cells c i || (not (granted_locked c i) && is_left all bulk c))
            ∙ given_bits (is_released t c) (is_locked t c) (is_accessed accesses c) (is_left all bulk c)
            ∙ ap (λ b. b && not (is_accessed accesses c)) (sym (gone-seen bulk t c));
        opened = are.opened;
      }

    -- where the same cells are locked
    module _ (locked : (c : Cell) → is_locked s c ≡ is_locked t c) where
      same-released_cells : s.released_cells ≡ t.released_cells → (with_bulk all bulk s).released_cells ≡ (with_bulk all bulk t).released_cells
      same-released_cells same = same_cells_set _ _ (λ c. gone-seen bulk s c ∙ (λ i. set.contains (same i) c || (not (locked c i) && is_left all bulk c)) ∙ sym (gone-seen bulk t c))

      pub inherited-gone : (child parent : ℕ) → AreInherited t s child parent → AreInherited (with_bulk all bulk t) (with_bulk all bulk s) child parent
      inherited-gone child parent are = record { lines = are.lines; released_cells = same-released_cells are.released_cells; opened = are.opened; keeps_all = are.keeps_all }

    pub released-gone : (txn : ℕ) → AreFreed true t s txn → AreFreed true (with_bulk all bulk t) (with_bulk all bulk s) txn
    released-gone txn are = record {
      lines = are.lines;
      released_cells = λ c. gone-seen bulk s c ∙ ap (λ b. b || (not (is_locked s c) && is_left all bulk c)) (are.released_cells c)
          ∙ released_bits (is_released t c) (is_locked t c) (is_locked s c) (is_left all bulk c) (λ locked.
          let one = known_law.locked s c locked in
          subst (λ d. is_locked t d ≡ true) one.2 (cell_locked t one.0 (and_parts (not (one.0.owner == txn)) (has_lock t one.0) (sym (are.lines one.0) ∙ one.1)).1))
          ∙ ap (λ b. b || (is_locked t c && not (is_locked s c))) (sym (gone-seen bulk t c));
      opened = are.opened;
    }

  -- What is told of the locks alone.
  module _ (k : Bool) (bulk : List (ℕ × Locked)) (t : LockTable) where
    in_way : (rule : Rule) (forest : Transactions) (txn : ℕ) (accesses : List Access) (y : ℕ) → IsInTheWay rule t forest txn accesses y → IsInTheWay rule (seen_as k (with_bulk all bulk t)) forest txn accesses y
    in_way rule forest txn accesses y w = record { line = w.line; there = w.there; owner = w.owner; conflicts = w.conflicts; counted = w.counted }

    in_way_back : (rule : Rule) (forest : Transactions) (txn : ℕ) (accesses : List Access) (y : ℕ) → IsInTheWay rule (seen_as k (with_bulk all bulk t)) forest txn accesses y → IsInTheWay rule t forest txn accesses y
    in_way_back rule forest txn accesses y w = record { line = w.line; there = w.there; owner = w.owner; conflicts = w.conflicts; counted = w.counted }

    pub blockers-gone : (rule : Rule) (forest : Transactions) (txn : ℕ) (accesses : List Access) (ys : List ℕ) → AreBlockers rule t forest txn accesses ys → AreBlockers rule (seen_as k (with_bulk all bulk t)) forest txn accesses ys
    blockers-gone rule forest txn accesses ys are = record {
      rising = are.rising;
      sound = λ y there. in_way rule forest txn accesses y (are.sound y there);
      all = λ y w. are.all y (in_way_back rule forest txn accesses y w);
    }

    pub listed-gone : (lines : List LockLine) → AreListed t lines → AreListed (seen_as k (with_bulk all bulk t)) lines
    listed-gone lines are = record { order = are.order; exact = are.exact }

  -- The first of them goes.
  module _ (bulk rest : List (ℕ × Locked)) (e : ℕ × Locked) (first : bulk ≡ e ∷ rest) (t : LockTable) where
    -- on whose cell nobody had a lock
    pub passed-unlocked : has_keeper all e.1 ≡ false → left_in all bulk ≡ left_in all rest
    passed-unlocked none = ap (left_in all) first ∙ ap (λ b. cond b (e.1.cell ∷ left_in all rest) (left_in all rest)) none

    pub passed-single : AreSingle (left_in all bulk) → AreSingle (left_in all rest)
    passed-single single = by_lock (has_keeper all e.1) (subst (λ g. AreSingle (left_in all g)) first single)
      where
        by_lock : (b : Bool) → AreSingle (cond b (e.1.cell ∷ left_in all rest) (left_in all rest)) → AreSingle (left_in all rest)
        by_lock true both = both.1
        by_lock false more = more

    module _ (locked : has_keeper all e.1 ≡ true) where
      left_first : (c : Cell) → is_left all bulk c ≡ (same_cell c e.1.cell || is_left all rest c)
      left_first c = ap (λ g. is_left all g c) first ∙ ap (λ b. list_any (same_cell c) (cond b (e.1.cell ∷ left_in all rest) (left_in all rest))) locked

      -- which is known besides
      pub passed-known : is_known t e.1.cell ≡ true → with_bulk all rest t ≡ with_bulk all bulk t
      passed-known known = same_table _ _ refl (λ c. gone-seen rest t c ∙ by_cell c (same_cell c e.1.cell) refl ∙ ap (λ b. is_released t c || (not (is_locked t c) && b)) (sym (left_first c)) ∙ sym (gone-seen bulk t c)) refl refl
        where
          bits : (l g x : Bool) → (l || g) ≡ true → (g || (not l && x)) ≡ (g || (not l && true))
          bits true g x h = refl
          bits false true x h = refl
          bits false false x h = absurd (false≢true h)

          by_cell : (c : Cell) (b : Bool) → same_cell c e.1.cell ≡ b → (is_released t c || (not (is_locked t c) && is_left all rest c)) ≡ (is_released t c || (not (is_locked t c) && (same_cell c e.1.cell || is_left all rest c)))
          by_cell c true is =
              bits (is_locked t c) (is_released t c) (is_left all rest c) (ap (is_known t) (same_cell-is c e.1.cell is) ∙ known)
              ∙ ap (λ b. is_released t c || (not (is_locked t c) && (b || is_left all rest c))) (sym is)
          by_cell c false is = ap (λ b. is_released t c || (not (is_locked t c) && (b || is_left all rest c))) (sym is)

      -- which is not known besides
      module _ (unknown : is_known t e.1.cell ≡ false) (single : AreSingle (left_in all bulk)) where
        parts : (is_locked t e.1.cell ≡ false) × (is_released t e.1.cell ≡ false)
        parts = both (is_locked t e.1.cell) (is_released t e.1.cell) unknown
          where
            both : (a b : Bool) → (a || b) ≡ false → (a ≡ false) × (b ≡ false)
            both true b h = absurd (false≢true (sym h))
            both false b h = (refl, h)

        pub told-was : is_released (with_bulk all bulk t) e.1.cell ≡ true
        told-was =
            gone-seen bulk t e.1.cell ∙ (λ i. parts.1 i || (not (parts.0 i) && left_first e.1.cell i))
            ∙ ap (λ b. b || is_left all rest e.1.cell) (same_itself e.1.cell)

        not_later : is_left all rest e.1.cell ≡ false
        not_later = by_lock (has_keeper all e.1) locked (subst (λ g. AreSingle (left_in all g)) first single)
          where
            by_lock : (b : Bool) → b ≡ true → AreSingle (cond b (e.1.cell ∷ left_in all rest) (left_in all rest)) → is_left all rest e.1.cell ≡ false
            by_lock true is both = both.0
            by_lock false is both = absurd (false≢true is)

        pub told-taken : IsTaken (with_bulk all bulk t) (with_bulk all rest t) e.1.cell
        told-taken = same_table (with_bulk all rest t) (record (with_bulk all bulk t) { released_cells = set.remove (with_bulk all bulk t).released_cells e.1.cell }) refl (λ c.
            gone-seen rest t c ∙ by_cell c (same_cell c e.1.cell) refl
            ∙ ap (λ b. not (same_cell c e.1.cell) && b) (ap (λ b. is_released t c || (not (is_locked t c) && b)) (sym (left_first c)) ∙ sym (gone-seen bulk t c))
            ∙ sym (set.contains-remove cell_cmp_total (with_bulk all bulk t).released_cells e.1.cell c)) refl refl
          where
            by_cell : (c : Cell) (b : Bool) → same_cell c e.1.cell ≡ b
                → (is_released t c || (not (is_locked t c) && is_left all rest c)) ≡ (not (same_cell c e.1.cell) && (is_released t c || (not (is_locked t c) && (same_cell c e.1.cell || is_left all rest c))))
            by_cell c true is =
                let one = same_cell-is c e.1.cell is in
                (λ i. (ap (is_released t) one ∙ parts.1) i || (not ((ap (is_locked t) one ∙ parts.0) i) && (ap (is_left all rest) one ∙ not_later) i))
                ∙ sym (ap (λ b. not b && (is_released t c || (not (is_locked t c) && (b || is_left all rest c)))) is)
            by_cell c false is = sym (ap (λ b. not b && (is_released t c || (not (is_locked t c) && (b || is_left all rest c)))) is)

    -- which is not to be told
    pub passed-over : (has_keeper all e.1 && not (is_known t e.1.cell)) ≡ false → with_bulk all rest t ≡ with_bulk all bulk t
    passed-over not_told = by_test (has_keeper all e.1)
        (λ locked. passed-known locked (known_else (has_keeper all e.1) (is_known t e.1.cell) locked not_told))
        (λ none. ap (λ cells. record t { released_cells = set.union t.released_cells (set.from_list (filter (λ c. not (is_locked t c)) cells)) }) (sym (passed-unlocked none)))
      where
        known_else : (a b : Bool) → a ≡ true → (a && not b) ≡ false → b ≡ true
        known_else true true is h = refl
        known_else true false is h = absurd (false≢true (sym h))
        known_else false b is h = absurd (false≢true is)

    pub told-both : (has_keeper all e.1 && not (is_known t e.1.cell)) ≡ true → (has_keeper all e.1 ≡ true) × (is_known t e.1.cell ≡ false)
    told-both told = parts_of (has_keeper all e.1) (is_known t e.1.cell) told
      where
        parts_of : (a b : Bool) → (a && not b) ≡ true → (a ≡ true) × (b ≡ false)
        parts_of true false h = (refl, refl)
        parts_of true true h = absurd (false≢true h)
        parts_of false b h = absurd (false≢true h)

-- whether a cell is known, by what is found there
pub known-found : (m : Cells) (lists : Lists Cell) (c : Cell) (locked listed : Bool) → locked ≡ is_locked (table_of m lists) c → listed ≡ has_place m c released_owner → (locked || listed) ≡ is_known (table_of m lists) c
known-found m lists c locked listed locked_is listed_is =
    (λ i. (locked_is ∙ locked-seen m lists c) i || listed_is i) ∙ bits (is_marked_at m c) (has_place m c released_owner)
    ∙ sym (λ i. locked-seen m lists c i || released_cells-seen m lists c i)
  where
    bits : (l h : Bool) → (l || h) ≡ (l || (h && not l))
    bits true h = refl
    bits false true = refl
    bits false false = refl

pub known-locked : (t : LockTable) (c : Cell) (locked : Bool) → locked ≡ is_locked t c → locked ≡ true → locked ≡ is_known t c
known-locked t c locked is true_is = true_is ∙ sym (or_left (is_locked t c) (is_released t c) (sym is ∙ true_is))

pub untrue : (b : Bool) → not b ≡ false → b ≡ true
untrue true e = refl
untrue false e = sym e

pub told_if : (a b : Bool) → a ≡ true → not b ≡ (a && not b)
told_if true b is = refl
told_if false b is = absurd (false≢true is)

pub told_unless : (a b : Bool) → a ≡ false → false ≡ (a && not b)
told_unless true b is = absurd (false≢true (sym is))
told_unless false b is = refl

module _ (all : Bool) where
  -- What is given up is what stands in the slab.

  left-any : (c : Cell) (bulk : List (ℕ × Locked)) → is_left all bulk c ≡ list_any (λ e. has_keeper all e.1 && same_cell c e.1.cell) bulk
  left-any c [] = refl
  left-any c (e ∷ bulk) = by_lock (has_keeper all e.1) (left-any c bulk)
    where
      by_lock : (b : Bool) → is_left all bulk c ≡ list_any (λ x. has_keeper all x.1 && same_cell c x.1.cell) bulk
          → list_any (same_cell c) (cond b (e.1.cell ∷ left_in all bulk) (left_in all bulk)) ≡ ((b && same_cell c e.1.cell) || list_any (λ x. has_keeper all x.1 && same_cell c x.1.cell) bulk)
      by_lock true later = ap (λ b. same_cell c e.1.cell || b) later
      by_lock false later = later

  module _ (s : Slab Locked) (keyed : AreKeyed (at_of s) (keys_in (at_of s))) where
    abbrev passes : Cell → Locked → Bool
    passes c l = has_keeper all l && same_cell c l.cell

    abbrev nobody : Owners
    nobody = finite.empty

    abbrev table : Cells
    table = cells_of s (keys_in (at_of s))

    found_there : (c : Cell) (k : ℕ) (l : Locked) → get s k ≡ Some l → c ≡ l.cell → is_kept_at all table c ≡ has_keeper all l
    found_there c k l there is =
        ap (λ o. is_kept_among all c (unwrap_or o finite.empty))
        (cells-there s (keys_in (at_of s)) c k (Some l) ((keyed c k).1 (at-there s k l there ∙ ap Some (sym is))) there)
        ∙ ap (λ d. is_kept_among all d l.holders) is

    marked_if_left : (c : Cell) → list_any (λ e. passes c e.1) (entries s) ≡ true → is_kept_at all table c ≡ true
    marked_if_left c any =
        let one = there_any (passes c) s.slots 0 any in
        let both = and_parts (has_keeper all one.1) (same_cell c one.1.cell) one.3 in
        found_there c one.0 one.1 one.2 (same_cell-is c one.1.cell both.1) ∙ both.0

    left_if_marked : (c : Cell) → is_kept_at all table c ≡ true → list_any (λ e. passes c e.1) (entries s) ≡ true
    left_if_marked c marked = by_key (key_in (keys_in (at_of s)) c) refl
      where
        by_slot : (k : ℕ) → finite.get (at_of s) k ≡ Some c → (o : Option Locked) → get s k ≡ o → list_any (λ e. passes c e.1) (entries s) ≡ true
        by_slot k in_slot None e = absurd (false≢true (ap is_some (sym (at-none s k e) ∙ in_slot)))
        by_slot k in_slot (Some l) e =
            let is : l.cell ≡ c = the_one l.cell c (sym (at-there s k l e) ∙ in_slot) in
            any_there (passes c) s.slots 0 k l e
            (and_from (has_keeper all l) (same_cell c l.cell) (sym (found_there c k l e (sym is)) ∙ marked) (ap (same_cell c) is ∙ same_itself c))

        by_key : (o : Option ℕ) → key_in (keys_in (at_of s)) c ≡ o → list_any (λ e. passes c e.1) (entries s) ≡ true
        by_key None e =
            let none : finite.get table c ≡ None = get-cells s (keys_in (at_of s)) c ∙ ap (option_map (λ k. owners_of (get s k))) e in
            let one = among-one (keeps_of all c) (keeps-none all c) nobody (sym (ap (λ o. is_kept_among all c (unwrap_or o finite.empty)) none) ∙ marked) in
            absurd (false≢true (sym (keeps-none all c) ∙ sym (ap (keeps_of all c) (finite.get-empty nat_cmp one.0)) ∙ one.1))
        by_key (Some k) e = by_slot k ((keyed c k).0 e) (get s k) refl

    -- the cells that are left are those that a lock keeps
    pub given-left : (c : Cell) → is_left all (entries s) c ≡ is_kept_at all table c
    given-left c = left-any c (entries s) ∙ same_truth _ _ (marked_if_left c) (left_if_marked c)

    one_key : (j k : ℕ) (l m : Locked) → get s j ≡ Some l → get s k ≡ Some m → same_cell l.cell m.cell ≡ true → j ≡ k
    one_key j k l m here there same =
        the_one j k (sym ((keyed l.cell j).1 (at-there s j l here)) ∙ (keyed l.cell k).1 (at-there s k m there ∙ ap Some (sym (same_cell-is l.cell m.cell same))))

    shifted : (slots : List (Option Locked)) (o : Option Locked) (n : ℕ) → ((i : ℕ) → get_or (o ∷ slots) i None ≡ get s (n + i)) → (i : ℕ) → get_or slots i None ≡ get s (n + 1 + i)
    shifted slots o n from i = let shift : n + suc i ≡ n + 1 + i = omega arith in from (suc i) ∙ ap (get s) shift

    in_slot : (slots : List (Option Locked)) (l : Locked) (n : ℕ) → ((i : ℕ) → get_or (Some l ∷ slots) i None ≡ get s (n + i)) → get s n ≡ Some l
    in_slot slots l n from = let same : n ≡ n + 0 = omega arith in ap (get s) same ∙ sym (from 0)

    -- a cell does not stand behind its own key again
    elsewhere : (slots : List (Option Locked)) (n j : ℕ) (l : Locked) → j < n → get s j ≡ Some l → ((i : ℕ) → get_or slots i None ≡ get s (n + i)) → list_any (same_cell l.cell) (left_in all (entries_from n slots)) ≡ false
    elsewhere [] n j l lt there from = refl
    elsewhere (None ∷ slots) n j l lt there from = elsewhere slots (n + 1) j l (omega (arith, lt)) there (shifted slots None n from)
    elsewhere (Some m ∷ slots) n j l lt there from = by_lock (has_keeper all m) (elsewhere slots (n + 1) j l (omega (arith, lt)) there (shifted slots (Some m) n from))
      where
        other : same_cell l.cell m.cell ≡ false
        other = by_test (same_cell l.cell m.cell) (λ e. absurd (omega (arith, lt, one_key j n l m there (in_slot slots m n from) e))) (λ e. e)

        by_lock : (b : Bool) → list_any (same_cell l.cell) (left_in all (entries_from (n + 1) slots)) ≡ false
            → list_any (same_cell l.cell) (cond b (m.cell ∷ left_in all (entries_from (n + 1) slots)) (left_in all (entries_from (n + 1) slots))) ≡ false
        by_lock true later = (λ i. other i || later i)
        by_lock false later = later

    singly : (slots : List (Option Locked)) (n : ℕ) → ((i : ℕ) → get_or slots i None ≡ get s (n + i)) → AreSingle (left_in all (entries_from n slots))
    singly [] n from = tt
    singly (None ∷ slots) n from = singly slots (n + 1) (shifted slots None n from)
    singly (Some l ∷ slots) n from =
        by_lock (has_keeper all l) (elsewhere slots (n + 1) n l (omega arith) (in_slot slots l n from) (shifted slots (Some l) n from)) (singly slots (n + 1) (shifted slots (Some l) n from))
      where
        by_lock : (b : Bool) → list_any (same_cell l.cell) (left_in all (entries_from (n + 1) slots)) ≡ false → AreSingle (left_in all (entries_from (n + 1) slots))
            → AreSingle (cond b (l.cell ∷ left_in all (entries_from (n + 1) slots)) (left_in all (entries_from (n + 1) slots)))
        by_lock true apart more = (apart, more)
        by_lock false apart more = more

    -- and none of them is left twice
    pub given-single : AreSingle (left_in all (entries s))
    given-single = singly s.slots 0 (λ i. let same : i ≡ 0 + i = omega arith in ap (get s) same)

    -- Where each owner in_slot alone on its cell, nobody else has a place.
    module _ (owner : ℕ) (last : (k : ℕ) (l : Locked) → get s k ≡ Some l → IsAllOf owner l.holders) where
      pub nobody-else : (c : Cell) (u : ℕ) → (u == owner) ≡ false → marks_at table c u ≡ None
      nobody-else c u apart = by_key (key_in (keys_in (at_of s)) c) refl
        where
          by_slot : (k : ℕ) (o : Option Locked) → get s k ≡ o → finite.get (owners_of o) u ≡ None
          by_slot k None e = finite.get-empty nat_cmp u
          by_slot k (Some l) e =
              sym (finite.get-remove nat_cmp_total l.holders owner u ∙ ap (λ b. cond b None (finite.get l.holders u)) (unsigned_tied u owner ∙ apart)) ∙ last k l e u

          by_key : (o : Option ℕ) → key_in (keys_in (at_of s)) c ≡ o → marks_at table c u ≡ None
          by_key None e =
              ap (λ o. finite.get (unwrap_or o finite.empty) u) (get-cells s (keys_in (at_of s)) c ∙ ap (option_map (λ k. owners_of (get s k))) e)
              ∙ finite.get-empty nat_cmp u
          by_key (Some k) e =
              ap (λ o. finite.get (unwrap_or o finite.empty) u) (get-cells s (keys_in (at_of s)) c ∙ ap (option_map (λ k. owners_of (get s k))) e)
              ∙ by_slot k (get s k) refl

module _ (all : Bool) where
  -- What is let go one by one.
  module _ (held back next : Held) (bulk : List (ℕ × Locked)) (owner : ℕ) (apart : owner ≡ 0 → ⊥) (kept : IsKept held.cells held.lists) (same : back ≡ held)
      (after : (c : Cell) (u : ℕ) → marks_at next.cells c u ≡ after_hand owner released_owner (marks_at back.cells c) u) (still : AreOpenStill back.lists next.lists) where
    after_held : (c : Cell) (u : ℕ) → marks_at next.cells c u ≡ after_hand owner released_owner (marks_at held.cells c) u
    after_held c u = after c u ∙ ap (λ (h : Held). after_hand owner released_owner (marks_at h.cells c) u) same

    still_held : AreOpenStill held.lists next.lists
    still_held u = still u ∙ ap (λ (h : Held). is_some (finite.get h.lists u)) same

    pub listed-kept : IsKept next.cells (finite.remove next.lists owner)
    listed-kept = released_kept held.cells next.cells owner (apart_test owner released_owner apart) after_held held.lists next.lists kept still_held

    pub listed-released : AreFreed true (with_bulk all bulk (table_of held.cells held.lists)) (with_bulk all bulk (table_of next.cells (finite.remove next.lists owner))) owner
    listed-released =
        released-gone all bulk (table_of held.cells held.lists) (table_of next.cells (finite.remove next.lists owner)) owner
        (released held.cells next.cells owner (apart_test owner released_owner apart) after_held held.lists next.lists kept still_held)

pub no_length : {A : Type 0} (l : List A) → length l ≡ 0 → l ≡ []
no_length [] none = refl
no_length (x ∷ l) none = absurd (omega (arith, none))

-- What is left in a slab from a key on.

abbrev in_front : ℕ → Option Locked → List (ℕ × Locked) → List (ℕ × Locked)
in_front m None es = es
in_front m (Some l) es = (m, l) ∷ es

at_drop : (slots : List (Option Locked)) (n m : ℕ) → entries_from m (drop n slots) ≡ in_front m (get_or slots n None) (entries_from (m + 1) (drop (suc n) slots))
at_drop [] zero m = refl
at_drop [] (suc n) m = refl
at_drop (None ∷ slots) zero m = refl
at_drop (Some l ∷ slots) zero m = refl
at_drop (o ∷ slots) (suc n) m = at_drop slots n m

got_drop : (slots : List (Option Locked)) (k i : ℕ) → get_or (drop k slots) i None ≡ get_or slots (k + i) None
got_drop slots zero i = let same : i ≡ 0 + i = omega arith in ap (λ j. get_or slots j None) same
got_drop [] (suc k) i = refl
got_drop (o ∷ slots) (suc k) i = let same : suc (k + i) ≡ suc k + i = omega arith in got_drop slots k i ∙ ap (λ j. get_or (o ∷ slots) j None) same

entries_same : (xs ys : List (Option Locked)) (m : ℕ) → ((i : ℕ) → get_or xs i None ≡ get_or ys i None) → entries_from m xs ≡ entries_from m ys
entries_same [] [] m same = refl
entries_same [] (None ∷ ys) m same = entries_same [] ys (m + 1) (λ i. same (suc i))
entries_same [] (Some y ∷ ys) m same = absurd (false≢true (ap is_some (same 0)))
entries_same (None ∷ xs) [] m same = entries_same xs [] (m + 1) (λ i. same (suc i))
entries_same (Some x ∷ xs) [] m same = absurd (false≢true (ap is_some (sym (same 0))))
entries_same (None ∷ xs) (None ∷ ys) m same = entries_same xs ys (m + 1) (λ i. same (suc i))
entries_same (None ∷ xs) (Some y ∷ ys) m same = absurd (false≢true (ap is_some (same 0)))
entries_same (Some x ∷ xs) (None ∷ ys) m same = absurd (false≢true (ap is_some (sym (same 0))))
entries_same (Some x ∷ xs) (Some y ∷ ys) m same = λ i. (m, the_one x y (same 0) i) ∷ entries_same xs ys (m + 1) (λ j. same (suc j)) i

-- the first key is passed, and what stands behind it stays
pub left_step : (s s' : Slab Locked) (n n' : ℕ) → n' ≡ n + 1 → ((k : ℕ) → (k == n) ≡ false → get s' k ≡ get s k) → left_from n s ≡ in_front n (get s n) (left_from n' s')
left_step s s' n n' is others =
    at_drop s.slots n n
    ∙ ap (in_front n (get s n))
    (entries_same (drop (suc n) s.slots) (drop (suc n) s'.slots) (n + 1) (λ i.
    got_drop s.slots (suc n) i ∙ sym (others (suc n + i) (apart_test (suc n + i) n (λ e. omega (arith, e)))) ∙ sym (got_drop s'.slots (suc n) i))
    ∙ (let same : n + 1 ≡ n' = sym is in let more : suc n ≡ n' = omega (arith, is) in λ i. entries_from (same i) (drop (more i) s'.slots)))

-- behind the end nothing is left
pub left_nothing : (s : Slab Locked) (n end : ℕ) → EndBefore s end → end ≤ n → left_from n s ≡ []
left_nothing s n end within over = entries_same (drop n s.slots) [] n (λ i. got_drop s.slots n i ∙ nothing_at (n + i) (omega (arith, over)))
  where
    nothing_at : (k : ℕ) → end ≤ k → get s k ≡ None
    nothing_at k behind = by_slot (get s k) refl
      where
        by_slot : (o : Option Locked) → get s k ≡ o → get s k ≡ None
        by_slot None e = e
        by_slot (Some l) e = absurd (omega (arith, behind, within k (ap is_some e)))

pub in_front_of : (m : ℕ) (o : Option Locked) (l : Locked) (es : List (ℕ × Locked)) → o ≡ Some l → in_front m o es ≡ (m, l) ∷ es
in_front_of m o l es is = ap (λ x. in_front m x es) is

module _ (all : Bool) where
  -- one of them is passed that is not to be told
  pub step-over : (s s' : Slab Locked) (n n' : ℕ) (t : LockTable) → n' ≡ n + 1 → ((k : ℕ) → (k == n) ≡ false → get s' k ≡ get s k)
      → ((l : Locked) → get s n ≡ Some l → (has_keeper all l && not (is_known t l.cell)) ≡ false) → AreSingle (left_in all (left_from n s))
      → AreSingle (left_in all (left_from n' s')) × (with_bulk all (left_from n' s') t ≡ with_bulk all (left_from n s) t)
  step-over s s' n n' t is others passed single = by_slot (get s n) refl
    where
      by_slot : (o : Option Locked) → get s n ≡ o → AreSingle (left_in all (left_from n' s')) × (with_bulk all (left_from n' s') t ≡ with_bulk all (left_from n s) t)
      by_slot None e =
          let same : left_from n s ≡ left_from n' s' = left_step s s' n n' is others ∙ ap (λ o. in_front n o (left_from n' s')) e in
          (subst (λ g. AreSingle (left_in all g)) same single, ap (λ g. with_bulk all g t) (sym same))
      by_slot (Some l) e =
          let first : left_from n s ≡ (n, l) ∷ left_from n' s' = left_step s s' n n' is others ∙ in_front_of n (get s n) l (left_from n' s') e in
          (passed-single all (left_from n s) (left_from n' s') (n, l) first t single, passed-over all (left_from n s) (left_from n' s') (n, l) first t (passed l e))

  pub step-single : (s s' : Slab Locked) (n n' : ℕ) → n' ≡ n + 1 → ((k : ℕ) → (k == n) ≡ false → get s' k ≡ get s k) → AreSingle (left_in all (left_from n s)) → AreSingle (left_in all (left_from n' s'))
  step-single s s' n n' is others single = by_slot (get s n) refl
    where
      by_slot : (o : Option Locked) → get s n ≡ o → AreSingle (left_in all (left_from n' s'))
      by_slot None e = subst (λ g. AreSingle (left_in all g)) (left_step s s' n n' is others ∙ ap (λ o. in_front n o (left_from n' s')) e) single
      by_slot (Some l) e =
          passed-single all (left_from n s) (left_from n' s') (n, l) (left_step s s' n n' is others ∙ in_front_of n (get s n) l (left_from n' s') e) no_locks single

  -- and one that is
  pub step-told : (s s' : Slab Locked) (n n' : ℕ) (t : LockTable) → n' ≡ n + 1 → ((k : ℕ) → (k == n) ≡ false → get s' k ≡ get s k) → (cell : Cell)
      → ((l : Locked) × (get s n ≡ Some l) × (l.cell ≡ cell) × ((has_keeper all l && not (is_known t l.cell)) ≡ true)) → AreSingle (left_in all (left_from n s))
      → AreSingle (left_in all (left_from n' s')) × (is_released (with_bulk all (left_from n s) t) cell ≡ true) × IsTaken (with_bulk all (left_from n s) t) (with_bulk all (left_from n' s') t) cell
  step-told s s' n n' t is others cell one single =
      let first : left_from n s ≡ (n, one.0) ∷ left_from n' s' = left_step s s' n n' is others ∙ in_front_of n (get s n) one.0 (left_from n' s') one.1 in
      let told = told-both all (left_from n s) (left_from n' s') (n, one.0) first t one.3 in (
        passed-single all (left_from n s) (left_from n' s') (n, one.0) first t single,
        ap (is_released (with_bulk all (left_from n s) t)) (sym one.2) ∙ told-was all (left_from n s) (left_from n' s') (n, one.0) first t told.0 told.1 single,
        subst (λ d. IsTaken (with_bulk all (left_from n s) t) (with_bulk all (left_from n' s') t) d) one.2 (told-taken all (left_from n s) (left_from n' s') (n, one.0) first t told.0 told.1 single),
      )

-- Where each of the first slots has a value, as many as there are values, no other has one.
filled_first : {T : Type 0} (xs : List (Option T)) (n : ℕ) → n ≡ length (filter is_some xs) → ((k : ℕ) → k < n → is_some (slice_index_or xs k None) ≡ true)
    → (k : ℕ) → is_some (slice_index_or xs k None) ≡ true → k < n
filled_first [] n is all k some = absurd (false≢true some)
filled_first (None ∷ xs) zero is all zero some = absurd (false≢true some)
filled_first (None ∷ xs) zero is all (suc k) some = absurd (nothing (filled_first xs zero is (λ j lt. absurd (nothing lt)) k some))
  where
    nothing : {j : ℕ} → j < zero → ⊥
    nothing lt = omega arith
filled_first (None ∷ xs) (suc n) is all k some = absurd (false≢true (all zero (omega arith)))
filled_first (Some x ∷ xs) zero is all k some = absurd (omega (arith, is))
filled_first (Some x ∷ xs) (suc n) is all zero some = omega arith
filled_first (Some x ∷ xs) (suc n) is all (suc k) some =
    let less = filled_first xs n (omega (arith, is)) (λ j lt. all (suc j) (omega (arith, lt))) k some in
    omega (arith, less)

module _ (s : Slab Locked) (owner count : ℕ) (is : count ≡ slab_len s) (all : (k : ℕ) → k < count → IsSomeAnd (get s k) (λ l. IsAllOf owner l.holders)) where
  pub before_end : (k : ℕ) → is_some (get s k) ≡ true → k < count
  before_end k some = filled_first s.slots count (is ∙ sym (length-filter is_some s.slots)) (λ j lt. ap is_some (some_and (get s j) _ (all j lt)).1) k some

  pub all_of : (k : ℕ) (l : Locked) → get s k ≡ Some l → IsAllOf owner l.holders
  all_of k l there = subst (λ o. IsSomeAnd o (λ x. IsAllOf owner x.holders)) there (all k (before_end k (ap is_some there)))

-- a key is taken where a cell stands under it
pub at_some : (s : Slab Locked) (k : ℕ) → is_some (get s k) ≡ true → is_some (finite.get (at_of s) k) ≡ true
at_some s k some = by_slot (get s k) refl some
  where
    by_slot : (o : Option Locked) → get s k ≡ o → is_some o ≡ true → is_some (finite.get (at_of s) k) ≡ true
    by_slot None e h = absurd (false≢true h)
    by_slot (Some l) e h = ap is_some (at-there s k l e)

pub some_at : (s : Slab Locked) (k : ℕ) → is_some (finite.get (at_of s) k) ≡ true → (l : Locked) × (get s k ≡ Some l)
some_at s k some = by_slot (get s k) refl
  where
    by_slot : (o : Option Locked) → get s k ≡ o → (l : Locked) × (get s k ≡ Some l)
    by_slot None e = absurd (false≢true (sym (ap is_some (at-none s k e)) ∙ some))
    by_slot (Some l) e = (l, e)

-- All is let go at once by the only owner that has a place.
module _ (m n : Cells) (owner : ℕ) (is_owner : (owner == released_owner) ≡ false) (alone : (c : Cell) (u : ℕ) → (u == owner) ≡ false → marks_at m c u ≡ None) (empty : n ≡ finite.empty)
    (old mid : Lists Cell) (kept : IsKept m old) (still : AreOpenStill old mid) where
  nothing : (c : Cell) (u : ℕ) → marks_at n c u ≡ None
  nothing c u = marks-missing n c (sym (ap (λ x. finite.get x c) empty ∙ finite.get-empty cell_cmp c)) u

  unmarked : (c : Cell) → is_marked_at n c ≡ false
  unmarked c = by_test (is_marked_at n c) (λ e. let one = marked_one n c e in absurd (false≢true (sym (ap is_marked_of (nothing c one.0)) ∙ one.1))) (λ e. e)

  not_zero : (released_owner == owner) ≡ false
  not_zero = apart_test released_owner owner (λ e. false≢true (sym is_owner ∙ eq-eqb owner released_owner (sym e)))

  pub given-kept : IsKept n (finite.remove mid owner)
  given-kept = record {
    marked = λ c u is_real place. absurd (false≢true (sym (ap is_some (nothing c u)) ∙ place));
    unmarked = λ c. ap is_marked_of (nothing c released_owner);
    ready = ap is_some (finite.get-remove nat_cmp_total mid owner released_owner)
        ∙ ap (λ b. is_some (cond b None (finite.get mid released_owner))) (unsigned_tied released_owner owner ∙ not_zero)
        ∙ still released_owner ∙ kept.ready;
  }

  -- no cell is locked then
  pub given-free : (c : Cell) → is_locked (table_of n (finite.remove mid owner)) c ≡ false
  given-free c = locked-seen n (finite.remove mid owner) c ∙ unmarked c

  module _ (was all : Bool) (before bulk : List (ℕ × Locked)) (none : before ≡ []) (given : (c : Cell) → is_left all bulk c ≡ is_kept_at all m c) where
    abbrev before_table : LockTable
    before_table = table_of m old

    abbrev after_table : LockTable
    after_table = table_of n (finite.remove mid owner)

    given_line : (l : LockLine) → has_lock after_table l ≡ (not (l.owner == owner) && has_lock before_table l)
    given_line l =
        lines-seen n (finite.remove mid owner) l ∙ ap (λ o. has_mark_of o l) (nothing l.cell l.owner)
        ∙ by_test (l.owner == owner)
        (λ e. sym (ap (λ b. not b && has_lock before_table l) e))
        (λ e. sym (λ i. not (e i) && (lines-seen m old l ∙ ap (λ o. has_mark_of o l) (alone l.cell l.owner e)) i))

    none_before : (c : Cell) → is_released (with_bulk was before before_table) c ≡ false
    none_before c =
        ap (λ x. is_released x c) (gone-none was before before_table none) ∙ released_cells-seen m old c
        ∙ ap (λ o. is_some o && not (is_marked_at m c)) (alone c released_owner not_zero)

    none_after : (c : Cell) → is_kept_by all after_table c ≡ false
    none_after c = by_test (is_kept_by all after_table c) (λ kept. absurd (false≢true (sym (given-free c) ∙ kept-locked all after_table c kept))) (λ free. free)

    given_let_go : (c : Cell) → is_released (with_bulk all bulk after_table) c
        ≡ (is_released (with_bulk was before before_table) c || (is_kept_by all (with_bulk was before before_table) c && not (is_kept_by all (with_bulk all bulk after_table) c)))
    given_let_go c =
        gone-seen all bulk after_table c
        ∙ (λ i. (released_cells-seen n (finite.remove mid owner) c ∙ ap (λ o. is_some o && not (is_marked_at n c)) (nothing c released_owner)) i || (not (given-free c i) && given c i))
        ∙ and_all (is_kept_at all m c)
        ∙ sym (λ i. none_before c i || (kept-seen all m old c i && not (none_after c i)))
      where
        and_all : (b : Bool) → b ≡ (b && true)
        and_all true = refl
        and_all false = refl

    pub given-released : AreFreed all (with_bulk was before before_table) (with_bulk all bulk after_table) owner
    given-released = record { lines = given_line; released_cells = given_let_go; opened = closed_opened m n old mid owner still }

-- The same tables, whichever locks keep their cells.

pub seen-given : (k j : Bool) (t s : LockTable) (txn : ℕ) (accesses : List Access) → AreGiven t s txn accesses → AreGiven (seen_as k t) (seen_as j s) txn accesses
seen-given k j t s txn accesses are = record { lines = are.lines; released_cells = are.released_cells; opened = are.opened }

pub seen-inherited : (k : Bool) (t s : LockTable) (child parent : ℕ) → AreInherited t s child parent → AreInherited (seen_as k t) (seen_as k s) child parent
seen-inherited k t s child parent are = record { lines = are.lines; released_cells = are.released_cells; opened = are.opened; keeps_all = refl }

seen-freed : (all k j : Bool) (t s : LockTable) (txn : ℕ) → AreFreed all t s txn → AreFreed all (seen_as k t) (seen_as j s) txn
seen-freed all k j t s txn are = record { lines = are.lines; released_cells = are.released_cells; opened = are.opened }

-- all at once
pub at-once : (k : Bool) (t s : LockTable) (txn : ℕ) → AreFreed k t s txn → ((c : Cell) → is_locked s c ≡ false) → AreReleased (seen_as k t) (seen_as false s) txn
at-once true t s txn are none = record { freed = seen-freed true true false t s txn are; free = λ _. none }
at-once false t s txn are none = record { freed = seen-freed false false false t s txn are; free = λ _. none }

-- one by one
pub one-by-one : (k : Bool) (t s : LockTable) (txn : ℕ) → AreFreed true t s txn → AreReleased (seen_as k t) (seen_as true s) txn
one-by-one true t s txn are = record { freed = seen-freed true true true t s txn are; free = λ e. absurd (false≢true (sym e)) }
one-by-one false t s txn are = record { freed = seen-freed true false true t s txn are; free = λ e. absurd (false≢true (sym e)) }

-- where released cells are left, any lock keeps its cell after a grant
module _ (k has : Bool) (t s : LockTable) (txn : ℕ) (accesses : List Access) (are : AreGiven t s txn accesses) (none : has ≡ false → (c : Cell) → is_released t c ≡ false) where
  more-kept : (c : Cell) → is_kept_by k t c ≡ true → is_kept_by k s c ≡ true
  more-kept = still-kept k t s (λ l e. (l, are.lines l ∙ or_left (has_lock t l) _ e, refl, refl))

  locked-then : (c : Cell) → is_locked s c ≡ true → has ≡ true → is_kept_by (k || has) s c ≡ true
  locked-then c locked is = ap (λ b. is_kept_by b s c) (ap (λ b. k || b) is ∙ or_true k) ∙ locked
    where
      or_true : (b : Bool) → (b || true) ≡ true
      or_true true = refl
      or_true false = refl

  kept-then : (c : Cell) → is_kept_by k s c ≡ true → is_kept_by (k || has) s c ≡ true
  kept-then c kept = by_test has
      (λ e. locked-then c (kept-locked k s c kept) e)
      (λ e. ap (λ b. is_kept_by b s c) (ap (λ b. k || b) e ∙ or_false k) ∙ kept)
    where
      or_false : (b : Bool) → (b || false) ≡ b
      or_false true = refl
      or_false false = refl

  granted-useless : (c : Cell) → may_be_useless (seen_as k t) c ≡ true → may_be_useless (seen_as (k || has) s) c ≡ true
  granted-useless c h = elim (or_cases (is_kept_by k t c) (is_released t c) h) [
    | inl kept ↦ or_left (is_kept_by (k || has) s c) (is_released s c) (kept-then c (more-kept c kept))
    | inr was ↦ by_test has
        (λ left. by_test (is_accessed accesses c)
        (λ accessed. or_left (is_kept_by (k || has) s c) (is_released s c) (locked-then c (granted_locked true [] t s txn accesses are c ∙ or_right (is_locked t c) (is_accessed accesses c) accessed) left))
        (λ apart. or_right (is_kept_by (k || has) s c) (is_released s c) (are.released_cells c ∙ and_from (is_released t c) (not (is_accessed accesses c)) was (ap not apart))))
        (λ no. absurd (false≢true (sym (none no c) ∙ was)))
  ]

  pub granted-seen : AreGranted (seen_as k t) (seen_as (k || has) s) txn accesses
  granted-seen = record { given = seen-given k (k || has) t s txn accesses are; useless = granted-useless }

-- a list with no cell
none_listed : (l : List Cell) → ((c : Cell) → list_any (same_cell c) l ≡ false) → l ≡ []
none_listed [] none = refl
none_listed (c ∷ l) none = absurd (false≢true (sym (none c) ∙ ap (λ b. b || list_any (same_cell c) l) (same_itself c)))

-- The lists of owners, where only one has places, and these go.
module _ (k : Keyed) (chains : Lists ℕ) (owner : ℕ) (joined : AreJoined k chains) (alone : (c : Cell) (u : ℕ) → (u == owner) ≡ false → marks_at k.cells c u ≡ None) where
  pub no_others : (u : ℕ) → u ≢ owner → list_in chains u ≡ []
  no_others u apart =
      none-under k.at (list_in chains u) (joined.used u)
      (sym (list-under k.at chains u)
      ∙ none_listed (list_in (lists_under k.at chains) u) (λ c. joined.joined.listed u c ∙ ap is_some (alone c u (apart_test u owner apart))))

  module _ (k' : Keyed) (chains' : Lists ℕ) (cleared : chains' ≡ finite.insert chains owner []) (empty : k'.cells ≡ finite.empty) where
    no_keys : (u : ℕ) → list_in chains' u ≡ []
    no_keys u =
        ap (λ x. list_in x u) cleared ∙ list-insert chains owner [] u
        ∙ by_test (u == owner)
        (λ is. ap (λ b. cond b [] (list_in chains u)) is)
        (λ apart. ap (λ b. cond b [] (list_in chains u)) apart ∙ no_others u (λ is. false≢true (sym apart ∙ eq-eqb u owner is)))

    no_cells : (u : ℕ) → list_in (lists_under k'.at chains') u ≡ []
    no_cells u = list-under k'.at chains' u ∙ ap (cells_under k'.at) (no_keys u)

    pub given-joined : AreJoined k' chains'
    given-joined = record {
      joined = record {
        listed = λ u c. ap (list_any (same_cell c)) (no_cells u)
            ∙ sym (ap is_some (marks-missing k'.cells c (sym (ap (λ x. finite.get x c) empty ∙ finite.get-empty cell_cmp c)) u));
        single = λ u. subst AreSingle (sym (no_cells u)) tt;
      };
      used = λ u. subst (AreUsed k'.at) (sym (no_keys u)) tt;
    }

    pub given-list : list_in (lists_under k'.at chains') owner ≡ []
    given-list = no_cells owner

-- the owners that are open stay so
pub given-still : (m n : Lists ℕ) (owner : ℕ) → n ≡ finite.insert m owner [] → is_some (finite.get m owner) ≡ true → (u : ℕ) → finite.contains_key n u ≡ finite.contains_key m u
given-still m n owner cleared is_open u = ap (λ x. finite.contains_key x u) cleared ∙ ap is_some (finite.get-insert nat_cmp_total m owner [] u) ∙ by_key (eq_by_cmp nat_cmp u owner) refl
  where
    by_key : (b : Bool) → eq_by_cmp nat_cmp u owner ≡ b → is_some (cond b (Some []) (finite.get m u)) ≡ is_some (finite.get m u)
    by_key true e = sym (ap (λ v. is_some (finite.get m v)) (tied u owner e) ∙ is_open)
    by_key false e = refl
