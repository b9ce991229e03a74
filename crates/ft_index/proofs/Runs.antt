-- Which keys a run of slots has.
use Rattle.std.proofs.Common.{◌≡◌, ◌<◌, ◌-◌, ◌==◌, ℕ, zero, suc, List, [], ◌∷◌, Bool, true, false, cond, refl, sym, ap, subst, arith, ◌∙◌}
use Rattle.std.proofs.lemmas.Bool.Decides.{nat_tests}
use Rattle.std.specs.List.{Contains}
use Rattle.ft_index.specs.declared.slot.Slot.{Slot}
use Rattle.ft_index.specs.Slots.{keys_of, slot_at, Stands}
use Rattle.ft_index.proofs.Listed.{by_test}
use Rattle.ft_index.proofs.Changes.{is_same, itself}

full_test : (mark : ℕ) → 0 < mark → (mark == 0) ≡ false
full_test mark some = grind (arith, nat_tests)

some_test : (mark : ℕ) → (mark == 0) ≡ false → 0 < mark
some_test mark e = grind (arith, nat_tests)

first : (x : ℕ) (xs : List ℕ) → Contains (x ∷ xs) x
first x xs = (0, omega arith, refl)

later : (x y : ℕ) (xs : List ℕ) → Contains xs y → Contains (x ∷ xs) y
later x y xs h = (suc h.0, (let within = h.1 in omega arith), h.2)

-- a key is the first, or one of those behind it
earlier : {P : Type 0} (x y : ℕ) (xs : List ℕ) → Contains (x ∷ xs) y → (x ≡ y → P) → (Contains xs y → P) → P
earlier x y xs (zero, within, is) here there = here is
earlier x y xs (suc k, within, is) here there = there (k, omega arith, is)

-- what a run has of a slot and of those behind it
step : Bool → Bool → ℕ → List ℕ → List ℕ
step true own key keys = []
step false own key keys = cond own (key ∷ keys) keys

keys_head : (hash : ℕ) (slot : Slot) (slots : List Slot) → keys_of hash (slot ∷ slots) ≡ step (slot.mark == 0) (slot.hash == hash) (slot.mark - 1) (keys_of hash slots)
unfolding step
keys_head hash slot slots = elim (slot.mark == 0) as (λ b. cond b [] (cond (slot.hash == hash) ((slot.mark - 1) ∷ keys_of hash slots) (keys_of hash slots)) ≡ step b (slot.hash == hash) (slot.mark - 1) (keys_of hash slots)) [ true ↦ refl | false ↦ refl ]

keys_full : (hash : ℕ) (slot : Slot) (slots : List Slot) (own : Bool) → (slot.mark == 0) ≡ false → (slot.hash == hash) ≡ own → keys_of hash (slot ∷ slots) ≡ cond own ((slot.mark - 1) ∷ keys_of hash slots) (keys_of hash slots)
unfolding step
keys_full hash slot slots own e f = keys_head hash slot slots ∙ ap (λ b. step b (slot.hash == hash) (slot.mark - 1) (keys_of hash slots)) e ∙ ap (λ b. cond b ((slot.mark - 1) ∷ keys_of hash slots) (keys_of hash slots)) f

-- a key of a run stands in a slot
pub key_stands : (hash : ℕ) (slots : List Slot) (key : ℕ) → Contains (keys_of hash slots) key → (i : ℕ) × Stands slots i key hash
unfolding step
key_stands hash [] key h = absurd (let within = h.1 in omega arith)
key_stands hash (slot ∷ slots) key h =
    let behind = λ (there : Contains (keys_of hash slots) key). let s = key_stands hash slots key there in let at : (i : ℕ) × Stands (slot ∷ slots) i key hash = (suc s.0, record { mark = s.1.mark; hash = s.1.hash }) in at in
    by_test (slot.mark == 0)
    (λ e. absurd (let none : Contains [] key = subst (λ keys. Contains keys key) (keys_head hash slot slots ∙ ap (λ b. step b (slot.hash == hash) (slot.mark - 1) (keys_of hash slots)) e) h in let within = none.1 in omega arith))
    (λ e. let some = some_test slot.mark e in by_test (slot.hash == hash)
    (λ f. earlier (slot.mark - 1) key (keys_of hash slots) (subst (λ keys. Contains keys key) (keys_full hash slot slots true e f) h)
    (λ is. (0, record { mark = omega arith; hash = is_same slot.hash hash f }))
    behind)
    (λ f. behind (subst (λ keys. Contains keys key) (keys_full hash slot slots false e f) h)))

-- a key that stands behind full slots alone is one of the run
pub key_in_run : (hash : ℕ) (slots : List Slot) (i key : ℕ) → ((j : ℕ) → j < i → 0 < (slot_at slots j).mark) → Stands slots i key hash → Contains (keys_of hash slots) key
key_in_run hash [] i key before stands = absurd (let m = stands.mark in omega arith)
key_in_run hash (slot ∷ slots) zero key before stands = let m = stands.mark in
    subst (λ keys. Contains keys key) (sym (keys_full hash slot slots true (full_test slot.mark (omega arith)) (ap (λ n. n == hash) stands.hash ∙ itself hash)))
    (let is : slot.mark - 1 ≡ key = omega arith in subst (λ n. Contains ((slot.mark - 1) ∷ keys_of hash slots) n) is (first (slot.mark - 1) (keys_of hash slots)))
key_in_run hash (slot ∷ slots) (suc i) key before stands =
    let some : 0 < slot.mark = before 0 (omega arith) in
    let rest = key_in_run hash slots i key (λ j lt. before (suc j) (omega arith)) (record { mark = stands.mark; hash = stands.hash }) in
    by_test (slot.hash == hash)
    (λ f. subst (λ keys. Contains keys key) (sym (keys_full hash slot slots true (full_test slot.mark some) f)) (later (slot.mark - 1) key (keys_of hash slots) rest))
    (λ f. subst (λ keys. Contains keys key) (sym (keys_full hash slot slots false (full_test slot.mark some) f)) rest)
