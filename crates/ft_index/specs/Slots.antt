-- How keys are kept in slots. No caller needs to know this: `Index` keeps it true of its field.
use Rattle.std.specs.Prelude.{◌≡◌, ◌<◌, ◌≤◌, ◌+◌, ◌-◌, ◌==◌, ◌^◌, ℕ, List, [], ◌∷◌, cond, slice_index_or}
use Rattle.std.specs.Ordering.{nat_cmp}
use Rattle.std.specs.FinMap as finite
use Rattle.ft_index.specs.declared.slot.Slot.{Slot}

-- the full slots, each as its key and hash
abbrev pub listed : List Slot → List (ℕ × ℕ)
listed [] = []
listed (slot ∷ slots) = cond (slot.mark == 0) (listed slots) ((slot.mark - 1, slot.hash) ∷ listed slots)

-- the map that they make
abbrev pub map_of : List Slot → finite.FinMap nat_cmp ℕ
map_of slots = finite.from_entries (listed slots)

-- the keys of a hash, up to the first free slot
abbrev pub keys_of : ℕ → List Slot → List ℕ
keys_of hash [] = []
keys_of hash (slot ∷ slots) = cond (slot.mark == 0) [] (cond (slot.hash == hash) ((slot.mark - 1) ∷ keys_of hash slots) (keys_of hash slots))

-- a slot without a key
abbrev pub free : Slot
free = record { mark = 0; hash = 0 }

-- the slot at a place, or a free one past the end
abbrev pub slot_at : List Slot → ℕ → Slot
slot_at slots i = slice_index_or slots i free

-- some slot from a place on has this mark, which is not that of a free slot
pub record HasMark (slots : List Slot) (start mark : ℕ) : Type 0 where
  pub place : ℕ
  pub behind : start ≤ place
  pub marked : (slot_at slots place).mark ≡ mark
  pub some : 0 < mark

-- each slot from one place up to another is full
abbrev pub AreFull : List Slot → ℕ → ℕ → Type 0
AreFull slots start end = (i : ℕ) → start ≤ i → i < end → 0 < (slot_at slots i).mark

-- a key with its hash is at a place
pub record Stands (slots : List Slot) (i key value : ℕ) : Type 0 where
  pub mark : (slot_at slots i).mark ≡ key + 1
  pub hash : (slot_at slots i).hash ≡ value

-- no key is at two places, and each mark has at most 32 bits
pub record AreSlots (slots : List Slot) : Type 0 where
  pub fits : (i : ℕ) → (slot_at slots i).mark < 2 ^ 32
  pub unique : (i j : ℕ) → 0 < (slot_at slots i).mark → (slot_at slots i).mark ≡ (slot_at slots j).mark → i ≡ j
