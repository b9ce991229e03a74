-- What the map that slots make has at a key.
use Rattle.std.proofs.Common.{◌≡◌, ◌<◌, ◌≤◌, ◌+◌, ◌-◌, ◌==◌, ℕ, zero, suc, List, [], ◌∷◌, Option, Some, Bool, true, false, cond, refl, sym, ap, arith, ◌∙◌}
use Rattle.std.proofs.lemmas.Bool.Decides.{nat_tests, leb_tells}
use Rattle.std.proofs.Math.Logic.{inl, inr}
use Rattle.ft_base.proofs.Views.{at}
use Rattle.ft_index.specs.declared.slot.Slot.{Slot}
use Rattle.ft_index.specs.Slots.{listed, slot_at, Stands, AreSlots}

pub by_test : {P : Type 0} (b : Bool) → (b ≡ true → P) → (b ≡ false → P) → P
by_test {P} b when unless = elim b as (λ t. b ≡ t → P) [ true ↦ when | false ↦ unless ] refl

pub by_order : {P : Type 0} (a b : ℕ) → (a ≤ b → P) → (b < a → P) → P
by_order {P} a b low high = elim (leb_tells a b) as (λ _. P) [ inl h ↦ low h.1 | inr h ↦ high h.1 ]

at_full : (mark key : ℕ) → (mark == 0) ≡ false → (key == mark - 1) ≡ true → mark ≡ key + 1
at_full mark key full is = grind (arith, nat_tests)

not_free : (mark key : ℕ) → mark ≡ key + 1 → (mark == 0) ≡ false
not_free mark key is = grind (arith, nat_tests)

is_key : (mark key : ℕ) → mark ≡ key + 1 → (key == mark - 1) ≡ true
is_key mark key is = grind (arith, nat_tests)

-- what is listed at a key of a slot and of those behind it
pick : Bool → Bool → ℕ → Option ℕ → Option ℕ
pick true b hash o = o
pick false b hash o = cond b (Some hash) o

listed_head : (slot : Slot) (slots : List Slot) (key : ℕ) → at (listed (slot ∷ slots)) key ≡ pick (slot.mark == 0) (key == slot.mark - 1) slot.hash (at (listed slots) key)
unfolding pick
listed_head slot slots key = elim (slot.mark == 0) as (λ b. at (cond b (listed slots) ((slot.mark - 1, slot.hash) ∷ listed slots)) key ≡ pick b (key == slot.mark - 1) slot.hash (at (listed slots) key)) [ true ↦ refl | false ↦ refl ]

further : (slot : Slot) (slots : List Slot) (key hash : ℕ) → ((i : ℕ) × Stands slots i key hash) → (i : ℕ) × Stands (slot ∷ slots) i key hash
further slot slots key hash h = (suc h.0, record { mark = h.1.mark; hash = h.1.hash })

-- where the list has a key, it stands in a slot
pub standing : (slots : List Slot) (key hash : ℕ) → at (listed slots) key ≡ Some hash → (i : ℕ) × Stands slots i key hash
unfolding pick
standing [] key hash is = absurd (cc)
standing (slot ∷ slots) key hash is = by_test (slot.mark == 0)
    (λ e. further slot slots key hash (standing slots key hash (sym (listed_head slot slots key ∙ ap (λ b. pick b (key == slot.mark - 1) slot.hash (at (listed slots) key)) e) ∙ is)))
    (λ e. by_test (key == slot.mark - 1)
    (λ f. (0, record { mark = at_full slot.mark key e f; hash = let h : Some slot.hash ≡ Some hash = sym (listed_head slot slots key ∙ ap (λ b. pick b (key == slot.mark - 1) slot.hash (at (listed slots) key)) e ∙ ap (λ b. cond b (Some slot.hash) (at (listed slots) key)) f) ∙ is in cc }))
    (λ f. further slot slots key hash (standing slots key hash (sym (listed_head slot slots key ∙ ap (λ b. pick b (key == slot.mark - 1) slot.hash (at (listed slots) key)) e ∙ ap (λ b. cond b (Some slot.hash) (at (listed slots) key)) f) ∙ is))))

-- where a key stands in a slot, the list has it
pub some_standing : (slots : List Slot) (i key hash : ℕ) → Stands slots i key hash → (h : ℕ) × (at (listed slots) key ≡ Some h)
unfolding pick
some_standing [] i key hash stands = absurd (let m = stands.mark in omega arith)
some_standing (slot ∷ slots) zero key hash stands = (
  slot.hash,
  listed_head slot slots key
      ∙ ap (λ b. pick b (key == slot.mark - 1) slot.hash (at (listed slots) key)) (not_free slot.mark key stands.mark)
      ∙ ap (λ b. cond b (Some slot.hash) (at (listed slots) key)) (is_key slot.mark key stands.mark),
)
some_standing (slot ∷ slots) (suc i) key hash stands =
    let rest = some_standing slots i key hash (record { mark = stands.mark; hash = stands.hash }) in
    by_test (slot.mark == 0)
    (λ e. (rest.0, listed_head slot slots key ∙ ap (λ b. pick b (key == slot.mark - 1) slot.hash (at (listed slots) key)) e ∙ rest.1))
    (λ e. by_test (key == slot.mark - 1)
    (λ f. (slot.hash, listed_head slot slots key ∙ ap (λ b. pick b (key == slot.mark - 1) slot.hash (at (listed slots) key)) e ∙ ap (λ b. cond b (Some slot.hash) (at (listed slots) key)) f))
    (λ f. (rest.0, listed_head slot slots key ∙ ap (λ b. pick b (key == slot.mark - 1) slot.hash (at (listed slots) key)) e ∙ ap (λ b. cond b (Some slot.hash) (at (listed slots) key)) f ∙ rest.1)))

-- no key stands at two places
pub one_place : (slots : List Slot) (i j key h g : ℕ) → AreSlots slots → Stands slots i key h → Stands slots j key g → i ≡ j
one_place slots i j key h g are s t = let m = s.mark in let n = t.mark in are.unique i j (omega arith) (m ∙ sym n)

pub has_standing : (slots : List Slot) (i key hash : ℕ) → AreSlots slots → Stands slots i key hash → at (listed slots) key ≡ Some hash
has_standing slots i key hash are stands =
    let some = some_standing slots i key hash stands in
    let there = standing slots key some.0 some.1 in
    let same = one_place slots i there.0 key hash some.0 are stands there.1 in
    some.1 ∙ ap Some (sym there.1.hash ∙ ap (λ n. (slot_at slots n).hash) (sym same) ∙ stands.hash)
