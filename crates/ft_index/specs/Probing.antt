-- How slots are searched: from the home of a hash on, up to a free slot or the end.
use Rattle.std.specs.Prelude.{◌≡◌, ◌≢◌, ◌<◌, ◌≤◌, ◌+◌, ◌*◌, ◌/◌, ◌^◌, ℕ, List, length}
use Rattle.std.specs.FinMap as finite
use Rattle.ft_index.specs.declared.slot.Slot.{Slot}
use Rattle.ft_index.specs.Slots.{slot_at, AreSlots, AreFull, map_of}

-- the slot, among `homes` of them, where the search for a hash begins: the hash as a part of 2^32
unfoldable pub home_of : ℕ → ℕ → ℕ
home_of homes hash = hash * homes / 2 ^ 32

-- one place has this slot now, and each other place has the slot that it had
pub record Sets (old new : List Slot) (i : ℕ) (slot : Slot) : Type 0 where
  pub here : slot_at new i ≡ slot
  pub others : (j : ℕ) → j ≢ i → slot_at new j ≡ slot_at old j

-- both lists have the same keys with the same hashes
abbrev pub SameKeys : List Slot → List Slot → Type 0
SameKeys old new = map_of new ≡ map_of old

-- the slot at a place is not before its home, and each slot between the two is full
pub record IsLed (homes : ℕ) (slots : List Slot) (i : ℕ) : Type 0 where
  pub home : home_of homes (slot_at slots i).hash ≤ i
  pub full : AreFull slots (home_of homes (slot_at slots i).hash) i

-- each full slot is so placed that the search for its key leads to it
abbrev pub AreLed : ℕ → List Slot → Type 0
AreLed homes slots = (i : ℕ) → 0 < (slot_at slots i).mark → IsLed homes slots i

-- the same as `IsLed`, except that a gap may be between the two
pub record IsLedBut (homes : ℕ) (slots : List Slot) (gap i : ℕ) : Type 0 where
  pub home : home_of homes (slot_at slots i).hash ≤ i
  pub full : (j : ℕ) → home_of homes (slot_at slots i).hash ≤ j → j < i → j ≢ gap → 0 < (slot_at slots j).mark

-- the search for each key leads to it, if it passes over the gap
abbrev pub AreLedBut : ℕ → List Slot → ℕ → Type 0
AreLedBut homes slots gap = (i : ℕ) → 0 < (slot_at slots i).mark → IsLedBut homes slots gap i

-- the gap is the only break on the way to each key; each key between the gap and the end has its
-- home after the gap
pub record IsClosing (homes : ℕ) (slots : List Slot) (gap end : ℕ) : Type 0 where
  pub apart : AreSlots slots
  pub free : (slot_at slots gap).mark ≡ 0
  pub led : AreLedBut homes slots gap
  pub before : gap < end
  pub full : AreFull slots (gap + 1) end
  pub passed : (i : ℕ) → gap < i → i < end → gap < home_of homes (slot_at slots i).hash

-- the slot is put where one was free, its home is not after it, and no slot from its home on is
-- free before it
pub record IsPlaced (homes : ℕ) (old new : List Slot) (slot : Slot) : Type 0 where
  pub place : ℕ
  pub free : (slot_at old place).mark ≡ 0
  pub sets : Sets old new place slot
  pub home : home_of homes slot.hash ≤ place
  pub full : AreFull old (home_of homes slot.hash) place
  pub longer : length old ≤ length new

-- each key is found from the home of its hash, which is one of `homes`
pub record IsTable (homes : ℕ) (slots : List Slot) : Type 0 where
  pub apart : AreSlots slots
  pub led : AreLed homes slots
  pub within : homes ≤ length slots
  pub few : homes ≤ 2 ^ 32

-- the same as `IsTable`, and `count` is the number of keys
pub record IsIndex (homes count : ℕ) (slots : List Slot) : Type 0 where
  pub table : IsTable homes slots
  pub counted : count ≡ finite.len (map_of slots)
  pub few : count ≤ homes
