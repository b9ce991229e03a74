-- The map that slots make, after a change of one slot.
use Rattle.std.proofs.Common.{◌≡◌, ℕ, List, Some, None, sym, ◌∙◌}
use Rattle.std.specs.Ordering.{nat_cmp}
use Rattle.std.specs.FinMap.{FinMap, get, insert, remove}
use Rattle.ft_base.proofs.Views.{at, get-seen, view-put, view-remove}
use Rattle.ft_index.specs.declared.slot.Slot.{Slot}
use Rattle.ft_index.specs.Slots.{listed, map_of, Stands, AreSlots}
use Rattle.ft_index.proofs.Listed.{standing, has_standing}
use Rattle.ft_index.proofs.Changes.{IsPut, IsTaken}

module _ (old : List Slot) (m : FinMap nat_cmp ℕ) (seen : map_of old ≡ m) where
  -- a key of the map stands in a slot
  pub where_key : (key hash : ℕ) → get m key ≡ Some hash → (i : ℕ) × Stands old i key hash
  where_key key hash is = standing old key hash (get-seen (listed old) m key seen ∙ is)

  -- and what stands in a slot is in the map
  pub key_there : (i key hash : ℕ) → AreSlots old → Stands old i key hash → get m key ≡ Some hash
  key_there i key hash are stands = sym (get-seen (listed old) m key seen) ∙ has_standing old i key hash are stands

  -- a key that the map has not is listed nowhere
  pub not_there : (key : ℕ) → get m key ≡ None → at (listed old) key ≡ None
  not_there key none = get-seen (listed old) m key seen ∙ none

  pub map-put : (new : List Slot) (key hash : ℕ) → IsPut old new key hash → map_of new ≡ insert m key hash
  map-put new key hash put = view-put (listed old) (listed new) m key hash seen put.listed

  pub map-taken : (new : List Slot) (key : ℕ) → IsTaken old new key → map_of new ≡ remove m key
  map-taken new key taken = view-remove (listed old) (listed new) m key seen taken.listed
