-- What a change of one slot leaves of the map that slots make.
use Rattle.std.proofs.Common.{◌≡◌, ◌≢◌, ◌<◌, ◌≤◌, ◌+◌, ◌-◌, ◌==◌, ◌^◌, ℕ, zero, suc, List, [], ◌∷◌, ◌++◌, Option, Some, None, true, false, cond, length, set, refl, sym, ap, arith, ◌∙◌}
use Rattle.std.proofs.lemmas.Bool.Decides.{nat_tests}
use Rattle.std.proofs.Math.ListN.{get_or-eq_default}
use Rattle.std.proofs.lemmas.List.{get_or-set_same, get_or-set_other}
use Rattle.std.proofs.Math.Seq.{get_or-append_seam}
use Rattle.ft_base.proofs.Views.{at}
use Rattle.ft_index.specs.declared.slot.Slot.{Slot}
use Rattle.ft_index.specs.Slots.{listed, free, slot_at, Stands, AreSlots}
use Rattle.ft_index.specs.Probing.{Sets}
use Rattle.ft_index.proofs.Listed.{by_test, by_order, standing, some_standing, has_standing}

pub is_same : (i j : ℕ) → (i == j) ≡ true → i ≡ j
is_same i j e = grind (arith, nat_tests)

pub itself : (i : ℕ) → (i == i) ≡ true
itself i = grind (arith, nat_tests)

pub is_other : (i j : ℕ) → (i == j) ≡ false → i ≢ j
is_other i j e = grind (arith, nat_tests)

-- a full slot of a key
abbrev pub full : ℕ → ℕ → Slot
full key hash = record { mark = key + 1; hash = hash }

pub sets-set : (slots : List Slot) (i : ℕ) (slot : Slot) → i < length slots → Sets slots (set slots i slot) i slot
sets-set slots i slot within = record {
  here = get_or-set_same slots i slot free within;
  others = λ j other. get_or-set_other slots i j slot free other;
}

past_push : (slots : List Slot) (slot : Slot) (j : ℕ) → j ≢ length slots → slot_at (slots ++ slot ∷ []) j ≡ slot_at slots j
past_push [] slot zero other = absurd (other refl)
past_push [] slot (suc j) other = refl
past_push (x ∷ slots) slot zero other = refl
past_push (x ∷ slots) slot (suc j) other = past_push slots slot j (λ e. other (ap suc e))

pub past_end : (slots : List Slot) (i : ℕ) → length slots ≤ i → slot_at slots i ≡ free
past_end slots i past = get_or-eq_default slots free past

pub within : (slots : List Slot) (i key hash : ℕ) → Stands slots i key hash → i < length slots
within slots i key hash stands = by_order (length slots) i
    (λ past. absurd (let m = stands.mark in let n : (slot_at slots i).mark ≡ 0 = ap (λ (x : Slot). x.mark) (past_end slots i past) in omega arith))
    (λ lt. lt)

pub sets-push : (slots : List Slot) (slot : Slot) → Sets slots (slots ++ slot ∷ []) (length slots) slot
sets-push slots slot = record {
  here = get_or-append_seam slots slot [] free;
  others = past_push slots slot;
}

pub by_value : (o p : Option ℕ) → ((v : ℕ) → o ≡ Some v → p ≡ Some v) → ((v : ℕ) → p ≡ Some v → o ≡ Some v) → o ≡ p
by_value (Some v) p to back = sym (to v refl)
by_value None (Some w) to back = back w refl
by_value None None to back = refl

pub not_some : (o : Option ℕ) → ((v : ℕ) → o ≡ Some v → ⊥) → o ≡ None
not_some o never = elim o as (λ p. o ≡ p → p ≡ None) [ Some v ↦ λ is. absurd (never v is) | None ↦ λ is. refl ] refl

-- the same slot stands in both lists
kept : (old new : List Slot) (i : ℕ) (slot : Slot) (j key hash : ℕ) → Sets old new i slot → j ≢ i → Stands old j key hash → Stands new j key hash
kept old new i slot j key hash sets other s = record {
  mark = ap (λ (x : Slot). x.mark) (sets.others j other) ∙ s.mark;
  hash = ap (λ (x : Slot). x.hash) (sets.others j other) ∙ s.hash;
}

kept_back : (old new : List Slot) (i : ℕ) (slot : Slot) (j key hash : ℕ) → Sets old new i slot → j ≢ i → Stands new j key hash → Stands old j key hash
kept_back old new i slot j key hash sets other s = record {
  mark = sym (ap (λ (x : Slot). x.mark) (sets.others j other)) ∙ s.mark;
  hash = sym (ap (λ (x : Slot). x.hash) (sets.others j other)) ∙ s.hash;
}

-- what is left where a free place was given a new key
pub record IsPut (old new : List Slot) (key hash : ℕ) : Type 0 where
  pub are : AreSlots new
  pub listed : (q : ℕ) → at (listed new) q ≡ cond (key == q) (Some hash) (at (listed old) q)

-- and where a key's slot became free
pub record IsTaken (old new : List Slot) (key : ℕ) : Type 0 where
  pub are : AreSlots new
  pub listed : (q : ℕ) → at (listed new) q ≡ cond (key == q) None (at (listed old) q)

module _ (old new : List Slot) (i key hash : ℕ) (are : AreSlots old) where
  absent : at (listed old) key ≡ None → (j : ℕ) → (slot_at old j).mark ≡ key + 1 → ⊥
  absent none j m = let some = some_standing old j key (slot_at old j).hash (record { mark = m; hash = refl }) in
      let no : Some some.0 ≡ None = sym some.1 ∙ none in absurd (cc)

  put_unique : Sets old new i (full key hash) → at (listed old) key ≡ None → (a b : ℕ) → 0 < (slot_at new a).mark → (slot_at new a).mark ≡ (slot_at new b).mark → a ≡ b
  put_unique sets none a b some same =
      let here : (slot_at new i).mark ≡ key + 1 = ap (λ (x : Slot). x.mark) sets.here in
      by_test (a == i)
      (λ e. by_test (b == i)
      (λ f. is_same a i e ∙ sym (is_same b i f))
      (λ f. absurd (absent none b (sym (ap (λ (x : Slot). x.mark) (sets.others b (is_other b i f))) ∙ sym same ∙ ap (λ n. (slot_at new n).mark) (is_same a i e) ∙ here))))
      (λ e. by_test (b == i)
      (λ f. absurd (absent none a (sym (ap (λ (x : Slot). x.mark) (sets.others a (is_other a i e))) ∙ same ∙ ap (λ n. (slot_at new n).mark) (is_same b i f) ∙ here)))
      (λ f. let p : (slot_at new a).mark ≡ (slot_at old a).mark = ap (λ (x : Slot). x.mark) (sets.others a (is_other a i e)) in
      let q : (slot_at new b).mark ≡ (slot_at old b).mark = ap (λ (x : Slot). x.mark) (sets.others b (is_other b i f)) in
      are.unique a b (omega arith) (sym p ∙ same ∙ q)))

  put_fits : Sets old new i (full key hash) → key + 1 < 2 ^ 32 → (a : ℕ) → (slot_at new a).mark < 2 ^ 32
  put_fits sets fits a = by_test (a == i)
      (λ e. let n : (slot_at new a).mark ≡ key + 1 = ap (λ n. (slot_at new n).mark) (is_same a i e) ∙ ap (λ (x : Slot). x.mark) sets.here in omega arith)
      (λ e. let n : (slot_at new a).mark ≡ (slot_at old a).mark = ap (λ (x : Slot). x.mark) (sets.others a (is_other a i e)) in let f = are.fits a in omega arith)

  pub put : Sets old new i (full key hash) → key + 1 < 2 ^ 32 → (slot_at old i).mark ≡ 0 → at (listed old) key ≡ None → IsPut old new key hash
  put sets fits was none =
      let after : AreSlots new = record { fits = put_fits sets fits; unique = put_unique sets none } in
      let here : (slot_at new i).mark ≡ key + 1 = ap (λ (x : Slot). x.mark) sets.here in
      record {
        are = after;
        listed = λ q. by_test (key == q)
            (λ e. ap (λ n. at (listed new) n) (sym (is_same key q e)) ∙ has_standing new i key hash after (record { mark = here; hash = ap (λ (x : Slot). x.hash) sets.here }) ∙ ap (λ b. cond b (Some hash) (at (listed old) q)) (sym e))
            (λ e. by_value (at (listed new) q) (at (listed old) q)
            (λ v is. let s = standing new q v is in
            let m = s.1.mark in
            let other : s.0 ≢ i = λ same. is_other key q e (let n : (slot_at new s.0).mark ≡ (slot_at new i).mark = ap (λ n. (slot_at new n).mark) same in omega arith) in
            has_standing old s.0 q v are (kept_back old new i (full key hash) s.0 q v sets other s.1))
            (λ v is. let s = standing old q v is in
            let m = s.1.mark in
            let other : s.0 ≢ i = λ same. absurd (let n : (slot_at old s.0).mark ≡ (slot_at old i).mark = ap (λ n. (slot_at old n).mark) same in omega arith) in
            has_standing new s.0 q v after (kept old new i (full key hash) s.0 q v sets other s.1))
            ∙ ap (λ b. cond b (Some hash) (at (listed old) q)) (sym e));
      }

  take_unique : Sets old new i free → (a b : ℕ) → 0 < (slot_at new a).mark → (slot_at new a).mark ≡ (slot_at new b).mark → a ≡ b
  take_unique sets a b some same =
      let here : (slot_at new i).mark ≡ 0 = ap (λ (x : Slot). x.mark) sets.here in
      by_test (a == i)
      (λ e. absurd (let n : (slot_at new a).mark ≡ (slot_at new i).mark = ap (λ n. (slot_at new n).mark) (is_same a i e) in omega arith))
      (λ e. by_test (b == i)
      (λ f. absurd (let n : (slot_at new b).mark ≡ (slot_at new i).mark = ap (λ n. (slot_at new n).mark) (is_same b i f) in omega arith))
      (λ f. let p : (slot_at new a).mark ≡ (slot_at old a).mark = ap (λ (x : Slot). x.mark) (sets.others a (is_other a i e)) in
      let q : (slot_at new b).mark ≡ (slot_at old b).mark = ap (λ (x : Slot). x.mark) (sets.others b (is_other b i f)) in
      are.unique a b (omega arith) (sym p ∙ same ∙ q)))

  take_fits : Sets old new i free → (a : ℕ) → (slot_at new a).mark < 2 ^ 32
  take_fits sets a = by_test (a == i)
      (λ e. let n : (slot_at new a).mark ≡ 0 = ap (λ n. (slot_at new n).mark) (is_same a i e) ∙ ap (λ (x : Slot). x.mark) sets.here in omega arith)
      (λ e. let n : (slot_at new a).mark ≡ (slot_at old a).mark = ap (λ (x : Slot). x.mark) (sets.others a (is_other a i e)) in let f = are.fits a in omega arith)

  pub taken : Sets old new i free → (slot_at old i).mark ≡ key + 1 → IsTaken old new key
  taken sets was =
      let after : AreSlots new = record { fits = take_fits sets; unique = take_unique sets } in
      let here : (slot_at new i).mark ≡ 0 = ap (λ (x : Slot). x.mark) sets.here in
      record {
        are = after;
        listed = λ q. by_test (key == q)
            (λ e. not_some (at (listed new) q) (λ v is. let s = standing new q v is in
            let k = is_same key q e in
            let m = s.1.mark in
            let other : s.0 ≢ i = λ same. absurd (let n : (slot_at new s.0).mark ≡ (slot_at new i).mark = ap (λ n. (slot_at new n).mark) same in omega arith) in
            let n : (slot_at new s.0).mark ≡ (slot_at old s.0).mark = ap (λ (x : Slot). x.mark) (sets.others s.0 other) in
            other (are.unique s.0 i (omega arith) (omega arith))) ∙ ap (λ b. cond b None (at (listed old) q)) (sym e))
            (λ e. by_value (at (listed new) q) (at (listed old) q)
            (λ v is. let s = standing new q v is in
            let m = s.1.mark in
            let other : s.0 ≢ i = λ same. absurd (let n : (slot_at new s.0).mark ≡ (slot_at new i).mark = ap (λ n. (slot_at new n).mark) same in omega arith) in
            has_standing old s.0 q v are (kept_back old new i free s.0 q v sets other s.1))
            (λ v is. let s = standing old q v is in
            let m = s.1.mark in
            let other : s.0 ≢ i = λ same. is_other key q e (let n : (slot_at old s.0).mark ≡ (slot_at old i).mark = ap (λ n. (slot_at old n).mark) same in omega arith) in
            has_standing new s.0 q v after (kept old new i free s.0 q v sets other s.1))
            ∙ ap (λ b. cond b None (at (listed old) q)) (sym e));
      }

-- what is left where a key's slot moved to a free place
pub record Moves (old new : List Slot) (i j : ℕ) : Type 0 where
  pub here : slot_at new i ≡ slot_at old j
  pub there : slot_at new j ≡ free
  pub others : (m : ℕ) → m ≢ i → m ≢ j → slot_at new m ≡ slot_at old m

-- all keys are as they were
pub record AreSame (old new : List Slot) : Type 0 where
  pub are : AreSlots new
  pub listed : (q : ℕ) → at (listed new) q ≡ at (listed old) q

pub as_full : (slot : Slot) (key : ℕ) → slot.mark ≡ key + 1 → slot ≡ full key slot.hash
as_full slot key m = λ n. record { mark = m n; hash = slot.hash }

pub moved : (old new : List Slot) (i j : ℕ) → AreSlots old → Moves old new i j → i ≢ j → (slot_at old i).mark ≡ 0 → 0 < (slot_at old j).mark → j < length old → AreSame old new
moved old new i j are moves apart was some within =
    let key = (slot_at old j).mark - 1 in
    let hash = (slot_at old j).hash in
    let m : (slot_at old j).mark ≡ key + 1 = omega arith in
    let between = set old j free in
    let out = sets-set old j free within in
    let taken_out = taken old between j key hash are out m in
    let back : Sets between new i (full key hash) = record {
      here = moves.here ∙ as_full (slot_at old j) key m;
      others = λ n other. by_test (n == j)
          (λ e. ap (slot_at new) (is_same n j e) ∙ moves.there ∙ sym out.here ∙ ap (slot_at between) (sym (is_same n j e)))
          (λ e. moves.others n other (is_other n j e) ∙ sym (out.others n (is_other n j e)));
    } in
    let none : at (listed between) key ≡ None = taken_out.listed key ∙ ap (λ b. cond b None (at (listed old) key)) (itself key) in
    let there = put between new i key hash taken_out.are back (let f = are.fits j in omega arith) (ap (λ (x : Slot). x.mark) (out.others i apart) ∙ was) none in
    record {
      are = there.are;
      listed = λ q. there.listed q ∙ by_test (key == q)
          (λ e. ap (λ b. cond b (Some hash) (at (listed between) q)) e ∙ sym (has_standing old j key hash are (record { mark = m; hash = refl })) ∙ ap (at (listed old)) (is_same key q e))
          (λ e. ap (λ b. cond b (Some hash) (at (listed between) q)) e ∙ taken_out.listed q ∙ ap (λ b. cond b None (at (listed old) q)) e);
    }
