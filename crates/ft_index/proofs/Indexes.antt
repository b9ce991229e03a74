-- What a change of one key leaves of an index.
use Rattle.std.proofs.Common.{◌≡◌, ◌<◌, ◌≤◌, ◌+◌, ◌-◌, ◌==◌, ◌^◌, ℕ, List, Option, Some, None, Bool, true, false, cond, is_some, length, set, drop, refl, sym, ap, subst, arith, ◌∙◌}
use Rattle.std.proofs.Math.ListN.{length-set}
use Rattle.std.proofs.lemmas.List.{get_or-drop}
use Rattle.std.specs.List.{Contains}
use Rattle.std.specs.Ordering.{nat_cmp, eq_by_cmp}
use Rattle.std.specs.Cmp.{nat_cmp_total}
use Rattle.std.specs.FinMap.{FinMap, get, insert, remove, len, len-insert, len-remove, len-empty, empty_of_len, get-empty, get-remove}
use Rattle.ft_base.proofs.Views.{at}
use Rattle.ft_index.specs.declared.slot.Slot.{Slot}
use Rattle.ft_index.specs.Slots.{listed, map_of, free, slot_at, AreSlots, HasMark, keys_of}
use Rattle.ft_index.specs.Probing.{home_of, Sets, SameKeys, AreLed, AreLedBut, IsPlaced, IsTable, IsIndex}
use Rattle.ft_index.proofs.Listed.{by_test}
use Rattle.ft_index.proofs.Changes.{full, is_same, is_other, sets-set, put, taken, IsPut, IsTaken}
use Rattle.ft_index.proofs.Runs.{key_stands, key_in_run}
use Rattle.ft_index.proofs.Maps.{where_key, key_there, not_there, map-put, map-taken}
use Rattle.ft_index.proofs.Probes.{led_but, led_same}
use Rattle.ft_index.proofs.Growths.{placed_put, placed_table, blank_table, blank_same}

-- an index without keys
pub blank_index : (homes : ℕ) (slots : List Slot) → ((i : ℕ) → (slot_at slots i).mark ≡ 0) → homes ≤ length slots → homes ≤ 2 ^ 32 → IsIndex homes 0 slots
blank_index homes slots none inside few = record {
  table = blank_table homes slots none inside few;
  counted = let n : len (map_of slots) ≡ 0 = ap len (blank_same slots none) ∙ len-empty nat_cmp ℕ in sym n;
  few = omega arith;
}

module _ (homes : ℕ) (old new : List Slot) (m : FinMap nat_cmp ℕ) (key hash : ℕ) (seen : map_of old ≡ m) (table : IsTable homes old) (fits : key + 1 < 2 ^ 32) (none : get m key ≡ None) (placed : IsPlaced homes old new (full key hash)) where
  pub inserted_map : map_of new ≡ insert m key hash
  inserted_map = map-put old m seen new key hash (placed_put homes old new key hash table fits (not_there old m seen key none) placed)

  pub inserted_index : (count : ℕ) → count ≡ len m → count < homes → IsIndex homes (count + 1) new
  inserted_index count counted room = record {
    table = placed_table homes old new key hash table fits (not_there old m seen key none) placed;
    counted = let one : len (insert m key hash) ≡ len m + 1 = len-insert nat_cmp_total m key hash ∙ ap (λ o. cond (is_some o) (len m) (len m + 1)) none in
        let n = ap len inserted_map in omega arith;
    few = omega arith;
  }

-- a key of a map is counted
pub some_counted : (m : FinMap nat_cmp ℕ) (key hash : ℕ) → get m key ≡ Some hash → 0 < len m
some_counted m key hash is = by_test (len m == 0)
    (λ e. absurd (let no : Some hash ≡ None = sym is ∙ ap (λ n. get n key) (empty_of_len m (is_same (len m) 0 e)) ∙ get-empty nat_cmp key in cc))
    (λ e. let other = is_other (len m) 0 e in omega arith)

-- where the search for a key of a map leads
module _ (homes : ℕ) (old : List Slot) (m : FinMap nat_cmp ℕ) (key hash : ℕ) (seen : map_of old ≡ m) (table : IsTable homes old) (is : get m key ≡ Some hash) where
  pub key_fits : key + 1 < 2 ^ 32
  key_fits = let s = where_key old m seen key hash is in let f = table.apart.fits s.0 in let n = s.1.mark in omega arith

  pub has_mark : (start : ℕ) → start ≡ home_of homes hash → HasMark old start (key + 1)
  has_mark start begins = let s = where_key old m seen key hash is in let n = s.1.mark in record {
    place = s.0;
    behind = let h = (table.led s.0 (omega arith)).home in let e : home_of homes (slot_at old s.0).hash ≡ home_of homes hash = ap (home_of homes) s.1.hash in omega arith;
    marked = s.1.mark;
    some = omega arith;
  }

module _ (homes : ℕ) (old mid new : List Slot) (m : FinMap nat_cmp ℕ) (i key hash : ℕ) (seen : map_of old ≡ m) (table : IsTable homes old) (mark : (slot_at old i).mark ≡ key + 1) (sets : Sets old mid i free) where
  pub mid_taken : IsTaken old mid key
  mid_taken = taken old mid i key hash table.apart sets mark

  pub mid_led : AreLedBut homes mid i
  mid_led = led_but homes old mid i sets table.led

  pub removed_map : SameKeys mid new → map_of new ≡ remove m key
  removed_map same = same ∙ map-taken old m seen mid key mid_taken

  pub removed_index : (count : ℕ) → get m key ≡ Some hash → SameKeys mid new → AreSlots new → AreLed homes new → homes ≤ length new → count ≡ len m → count ≤ homes → IsIndex homes (count - 1) new
  removed_index count is same apart led inside counted few = record {
    table = record { apart = apart; led = led; within = inside; few = table.few };
    counted = let one : len (remove m key) ≡ len m - 1 = len-remove nat_cmp_total m key ∙ ap (λ o. cond (is_some o) (len m - 1) (len m)) is in
        let n = ap len (removed_map same) in omega arith;
    few = omega arith;
  }

no_choice : (b : Bool) (o : Option ℕ) → cond b o o ≡ o
no_choice true o = refl
no_choice false o = refl

module _ (homes : ℕ) (old : List Slot) (i : ℕ) (m : FinMap nat_cmp ℕ) (key to hash : ℕ) (seen : map_of old ≡ m) (table : IsTable homes old) (mark : (slot_at old i).mark ≡ key + 1) (inside : i < length old) (lower : to < key) (is : get m key ≡ Some hash) (none : get m to ≡ None) where
  abbrev between : List Slot
  between = set old i free

  abbrev after : List Slot
  after = set old i (full to hash)

  out : IsTaken old between key
  out = taken old between i key 0 table.apart (sets-set old i free inside) mark

  rekeyed : IsPut between after to hash
  rekeyed =
      let first = sets-set old i free inside in
      let sets = sets-set old i (full to hash) inside in
      let absent : at (listed old) to ≡ None = not_there old m seen to none in
      put between after i to hash out.are (record { here = sets.here; others = λ j other. sets.others j other ∙ sym (first.others j other) })
      (let f = table.apart.fits i in omega arith)
      (ap (λ (x : Slot). x.mark) first.here) (out.listed to ∙ ap (cond (key == to) None) absent ∙ no_choice (key == to) None)

  pub rekeyed_map : map_of (set old i (full to hash)) ≡ insert (remove m key) to hash
  rekeyed_map = map-put between (remove m key) (map-taken old m seen between key out) after to hash rekeyed

  own_hash : (slot_at old i).hash ≡ hash
  own_hash = let s = where_key old m seen key hash is in let n = s.1.mark in
      ap (λ j. (slot_at old j).hash) (table.apart.unique i s.0 (omega arith) (omega arith)) ∙ s.1.hash

  pub rekeyed_index : (count : ℕ) → count ≡ len m → count ≤ homes → IsIndex homes count (set old i (full to hash))
  rekeyed_index count counted few = record {
    table = record {
      apart = rekeyed.are;
      led = led_same homes old after i (full to hash) (sets-set old i (full to hash) inside) (omega arith) (omega arith) (sym own_hash) table.led;
      within = let l = length-set old i (full to hash) in let w = table.within in omega arith;
      few = table.few;
    };
    counted =
        let some = some_counted m key hash is in
        let gone : get (remove m key) to ≡ None = get-remove nat_cmp_total m key to ∙ ap (cond (eq_by_cmp nat_cmp to key) None) none ∙ no_choice (eq_by_cmp nat_cmp to key) None in
        let one : len (insert (remove m key) to hash) ≡ len (remove m key) + 1 = len-insert nat_cmp_total (remove m key) to hash ∙ ap (λ o. cond (is_some o) (len (remove m key)) (len (remove m key) + 1)) gone in
        let less : len (remove m key) ≡ len m - 1 = len-remove nat_cmp_total m key ∙ ap (λ o. cond (is_some o) (len m - 1) (len m)) is in
        let n = ap len rekeyed_map in omega arith;
    few = few;
  }

-- the keys that the search for a hash meets are those of the hash
module _ (homes : ℕ) (slots : List Slot) (m : FinMap nat_cmp ℕ) (start hash : ℕ) (seen : map_of slots ≡ m) (table : IsTable homes slots) (begins : start ≡ home_of homes hash) where
  pub key_there_in : (key : ℕ) → Contains (keys_of hash (drop start slots)) key → get m key ≡ Some hash
  key_there_in key has = let s = key_stands hash (drop start slots) key has in
      key_there slots m seen (start + s.0) key hash table.apart (record {
        mark = ap (λ (x : Slot). x.mark) (behind s.0) ∙ s.1.mark;
        hash = ap (λ (x : Slot). x.hash) (behind s.0) ∙ s.1.hash;
      })
    where
      behind : (i : ℕ) → slot_at slots (start + i) ≡ slot_at (drop start slots) i
      behind i = sym (get_or-drop start slots i free)

  pub key_in_way : (key : ℕ) → get m key ≡ Some hash → Contains (keys_of hash (drop start slots)) key
  key_in_way key is = let s = where_key slots m seen key hash is in
      let n = s.1.mark in
      let led = table.led s.0 (omega arith) in
      let home : home_of homes (slot_at slots s.0).hash ≡ start = ap (home_of homes) s.1.hash ∙ sym begins in
      let from : start ≤ s.0 = let h = led.home in omega arith in
      let at : start + (s.0 - start) ≡ s.0 = omega arith in
      key_in_run hash (drop start slots) (s.0 - start) key
      (λ j lt. subst (λ (x : Slot). 0 < x.mark) (sym (get_or-drop start slots j free)) (led.full (start + j) (omega arith) (omega arith)))
      (record {
        mark = ap (λ (x : Slot). x.mark) (get_or-drop start slots (s.0 - start) free) ∙ ap (λ n. (slot_at slots n).mark) at ∙ s.1.mark;
        hash = ap (λ (x : Slot). x.hash) (get_or-drop start slots (s.0 - start) free) ∙ ap (λ n. (slot_at slots n).hash) at ∙ s.1.hash;
      })
