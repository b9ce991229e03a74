-- How slots are filled with the keys of others.
use Rattle.std.proofs.Common.{◌≡◌, ◌<◌, ◌≤◌, ◌+◌, ◌-◌, ◌==◌, ◌^◌, ℕ, List, [], ◌∷◌, ◌++◌, Some, None, cond, length, take, replicate, sym, ap, subst, arith, ◌∙◌}
use Rattle.std.proofs.lemmas.List.{get_or-replicate, length-replicate, length-take-le, get_or-take, take_more}
use Rattle.std.specs.FinMap.{get, from_entries}
use Rattle.ft_base.proofs.Views.{at, get-view}
use Rattle.ft_index.specs.declared.slot.Slot.{Slot}
use Rattle.ft_index.specs.Slots.{listed, map_of, free, slot_at, AreSlots}
use Rattle.ft_index.specs.Probing.{SameKeys, AreLed, IsPlaced, IsTable}
use Rattle.ft_index.proofs.Listed.{by_order, standing}
use Rattle.ft_index.proofs.Changes.{full, as_full, not_some, within, past_end, sets-push, put, IsPut}
use Rattle.ft_index.proofs.Probes.{same_keys, led_more}

-- slots of which none is full
pub blank_apart : (slots : List Slot) → ((i : ℕ) → (slot_at slots i).mark ≡ 0) → AreSlots slots
blank_apart slots none = record {
  fits = λ i. let n = none i in omega arith;
  unique = λ i j some same. absurd (let n = none i in omega arith);
}

pub blank_led : (homes : ℕ) (slots : List Slot) → ((i : ℕ) → (slot_at slots i).mark ≡ 0) → AreLed homes slots
blank_led homes slots none i some = absurd (let n = none i in omega arith)

pub blank_table : (homes : ℕ) (slots : List Slot) → ((i : ℕ) → (slot_at slots i).mark ≡ 0) → homes ≤ length slots → homes ≤ 2 ^ 32 → IsTable homes slots
blank_table homes slots none within few = record { apart = blank_apart slots none; led = blank_led homes slots none; within = within; few = few }

pub blank_same : (slots : List Slot) → ((i : ℕ) → (slot_at slots i).mark ≡ 0) → SameKeys [] slots
blank_same slots none = same_keys [] slots (λ q. not_some (at (listed slots) q) (λ v is. let s = standing slots q v is in let m = s.1.mark in let n = none s.0 in absurd (omega arith)))

pub blank-replicate : (n i : ℕ) → (slot_at (replicate n free) i).mark ≡ 0
blank-replicate n i = by_order n i
    (λ past. ap (λ (x : Slot). x.mark) (past_end (replicate n free) i (let l = length-replicate n free in omega arith)))
    (λ lt. ap (λ (x : Slot). x.mark) (get_or-replicate n i free free lt))

pub free_table : (homes : ℕ) (slots : List Slot) → slots ≡ replicate homes free → homes ≤ 2 ^ 32 → IsTable homes slots
free_table homes slots is few = subst (IsTable homes) (sym is) (blank_table homes (replicate homes free) (blank-replicate homes) (let l = length-replicate homes free in omega arith) few)

pub free_same : (homes : ℕ) (slots : List Slot) → slots ≡ replicate homes free → SameKeys [] slots
free_same homes slots is = subst (SameKeys []) (sym is) (blank_same (replicate homes free) (blank-replicate homes))

-- what the same map has at a key
pub at_same : (old new : List Slot) → SameKeys old new → (q : ℕ) → at (listed new) q ≡ at (listed old) q
at_same old new same q = sym (get-view (listed new) q) ∙ ap (λ m. get m q) same ∙ get-view (listed old) q

module _ (slots : List Slot) (i : ℕ) (apart : AreSlots slots) (inside : i < length slots) where
  front : (j : ℕ) → j < i → slot_at (take i slots) j ≡ slot_at slots j
  front j lt = get_or-take i slots j free lt

  back : (j : ℕ) → i ≤ j → slot_at (take i slots) j ≡ free
  back j le = past_end (take i slots) j (let l = length-take-le i slots (omega arith) in omega arith)

  -- the first slots are apart
  front_apart : AreSlots (take i slots)
  front_apart = record {
    fits = λ j. by_order i j
        (λ le. let n : (slot_at (take i slots) j).mark ≡ 0 = ap (λ (x : Slot). x.mark) (back j le) in omega arith)
        (λ lt. let n : (slot_at (take i slots) j).mark ≡ (slot_at slots j).mark = ap (λ (x : Slot). x.mark) (front j lt) in let f = apart.fits j in omega arith);
    unique = λ j k some same. by_order i j
        (λ le. absurd (let n : (slot_at (take i slots) j).mark ≡ 0 = ap (λ (x : Slot). x.mark) (back j le) in omega arith))
        (λ lt. let n : (slot_at (take i slots) j).mark ≡ (slot_at slots j).mark = ap (λ (x : Slot). x.mark) (front j lt) in by_order i k
        (λ le. absurd (let o : (slot_at (take i slots) k).mark ≡ 0 = ap (λ (x : Slot). x.mark) (back k le) in omega arith))
        (λ gt. let o : (slot_at (take i slots) k).mark ≡ (slot_at slots k).mark = ap (λ (x : Slot). x.mark) (front k gt) in apart.unique j k (omega arith) (omega arith)));
  }

  -- the next key is not among them
  next_absent : (key : ℕ) → (slot_at slots i).mark ≡ key + 1 → at (listed (take i slots)) key ≡ None
  next_absent key mark = not_some (at (listed (take i slots)) key) (λ v is.
      let s = standing (take i slots) key v is in
      let m = s.1.mark in
      by_order i s.0
      (λ le. absurd (let n : (slot_at (take i slots) s.0).mark ≡ 0 = ap (λ (x : Slot). x.mark) (back s.0 le) in omega arith))
      (λ lt. absurd (let n : (slot_at (take i slots) s.0).mark ≡ (slot_at slots s.0).mark = ap (λ (x : Slot). x.mark) (front s.0 lt) in let u = apart.unique s.0 i (omega arith) (omega arith) in omega arith)))

  -- a full slot comes to those before it
  next_put : (key hash : ℕ) → slot_at slots i ≡ full key hash → key + 1 < 2 ^ 32 → IsPut (take i slots) (take (i + 1) slots) key hash
  next_put key hash is fits = subst (λ xs. IsPut (take i slots) xs key hash) (sym (take_more slots i free inside ∙ ap (λ (x : Slot). take i slots ++ x ∷ []) is))
      (put (take i slots) (take i slots ++ full key hash ∷ []) (length (take i slots)) key hash front_apart (sets-push (take i slots) (full key hash)) fits
      (ap (λ (x : Slot). x.mark) (past_end (take i slots) (length (take i slots)) (omega arith)))
      (next_absent key (ap (λ (x : Slot). x.mark) is)))

module _ (homes : ℕ) (old new : List Slot) (key hash : ℕ) (table : IsTable homes old) (fits : key + 1 < 2 ^ 32) (absent : at (listed old) key ≡ None) (placed : IsPlaced homes old new (full key hash)) where
  pub placed_put : IsPut old new key hash
  placed_put = put old new placed.place key hash table.apart placed.sets fits placed.free absent

  pub placed_table : IsTable homes new
  placed_table = record {
    apart = placed_put.are;
    led = led_more homes old new (full key hash) placed table.led;
    within = let l = placed.longer in let w = table.within in omega arith;
    few = table.few;
  }

-- a key more is copied
pub record IsCopied (homes : ℕ) (slots new : List Slot) : Type 0 where
  pub table : IsTable homes new
  pub same : SameKeys slots new

pub copied : (homes : ℕ) (slots old new : List Slot) (i : ℕ) → AreSlots slots → i < length slots → 0 < (slot_at slots i).mark → IsTable homes old → SameKeys (take i slots) old → IsPlaced homes old new (slot_at slots i) → IsCopied homes (take (i + 1) slots) new
copied homes slots old new i apart inside some table same placed =
    let slot = slot_at slots i in
    let key = slot.mark - 1 in
    let is : slot ≡ full key slot.hash = as_full slot key (omega arith) in
    let fits : key + 1 < 2 ^ 32 = let f = apart.fits i in omega arith in
    let absent : at (listed old) key ≡ None = at_same (take i slots) old same key ∙ next_absent slots i apart inside key (omega arith) in
    let there = subst (IsPlaced homes old new) is placed in
    let more = next_put slots i apart inside key slot.hash is fits in
    let put_there = placed_put homes old new key slot.hash table fits absent there in
    record {
      table = placed_table homes old new key slot.hash table fits absent there;
      same = same_keys (take (i + 1) slots) new (λ q. put_there.listed q ∙ ap (cond (key == q) (Some slot.hash)) (at_same (take i slots) old same q) ∙ sym (more.listed q));
    }

listed_free : (slots : List Slot) (slot : Slot) → slot.mark ≡ 0 → listed (slots ++ slot ∷ []) ≡ listed slots
listed_free [] slot none = ap (λ n. cond (n == 0) [] ((n - 1, slot.hash) ∷ [])) none
listed_free (x ∷ slots) slot none = ap (λ xs. cond (x.mark == 0) xs ((x.mark - 1, x.hash) ∷ xs)) (listed_free slots slot none)

-- a free slot is passed
pub skipped : (slots table : List Slot) (i : ℕ) → i < length slots → (slot_at slots i).mark ≡ 0 → SameKeys (take i slots) table → SameKeys (take (i + 1) slots) table
skipped slots table i inside none same = same ∙ sym (ap (λ xs. map_of xs) (take_more slots i free inside) ∙ ap (λ es. from_entries es) (listed_free (take i slots) (slot_at slots i) none))
