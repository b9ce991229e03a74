-- How a change of slots leaves the ways to the keys.
use Rattle.std.proofs.Common.{◌≡◌, ◌≢◌, ◌<◌, ◌≤◌, ◌+◌, ◌==◌, ℕ, List, length, set, sym, ap, subst, arith, ◌∙◌}
use Rattle.std.proofs.Math.ListN.{length-set}
use Rattle.std.specs.Cmp.{nat_cmp_total}
use Rattle.std.specs.FinMap.{same_map, nat_cmp-IsAntisymmetric}
use Rattle.ft_base.proofs.Views.{at, get-view}
use Rattle.ft_index.specs.declared.slot.Slot.{Slot}
use Rattle.ft_index.specs.Slots.{listed, free, slot_at}
use Rattle.ft_index.specs.Probing.{home_of, Sets, SameKeys, AreLed, AreLedBut, IsClosing, IsPlaced}
use Rattle.ft_index.proofs.Listed.{by_test, by_order}
use Rattle.ft_index.proofs.Changes.{is_same, is_other, sets-set, Moves, moved, AreSame}

-- lists that have the same at each key make the same map
pub same_keys : (old new : List Slot) → ((q : ℕ) → at (listed new) q ≡ at (listed old) q) → SameKeys old new
same_keys old new same = same_map nat_cmp_total nat_cmp-IsAntisymmetric _ _ (λ q. get-view (listed new) q ∙ same q ∙ sym (get-view (listed old) q))

module _ (homes : ℕ) (old new : List Slot) where
  -- a key was taken out
  pub led_but : (gap : ℕ) → Sets old new gap free → AreLed homes old → AreLedBut homes new gap
  led_but gap sets led i some = by_test (i == gap)
      (λ e. absurd (let n : (slot_at new i).mark ≡ 0 = ap (λ n. (slot_at new n).mark) (is_same i gap e) ∙ ap (λ (x : Slot). x.mark) sets.here in omega arith))
      (λ e. let same = sets.others i (is_other i gap e) in
      let was = led i (subst (λ (x : Slot). 0 < x.mark) same some) in
      let home : home_of homes (slot_at new i).hash ≡ home_of homes (slot_at old i).hash = ap (λ (x : Slot). home_of homes x.hash) same in
      record {
        home = let h = was.home in omega arith;
        full = λ j from to other. subst (λ (x : Slot). 0 < x.mark) (sym (sets.others j other)) (was.full j (omega arith) to);
      })

  -- a key was placed
  pub led_more : (slot : Slot) → IsPlaced homes old new slot → AreLed homes old → AreLed homes new
  led_more slot placed led i some = by_test (i == placed.place)
      (λ e. let same = is_same i placed.place e in
      let is : slot_at new i ≡ slot = ap (slot_at new) same ∙ placed.sets.here in
      let home : home_of homes (slot_at new i).hash ≡ home_of homes slot.hash = ap (λ (x : Slot). home_of homes x.hash) is in
      record {
        home = let h = placed.home in omega arith;
        full = λ j from to. subst (λ (x : Slot). 0 < x.mark) (sym (placed.sets.others j (λ k. omega arith))) (placed.full j (omega arith) (omega arith));
      })
      (λ e. let same = placed.sets.others i (is_other i placed.place e) in
      let was = led i (subst (λ (x : Slot). 0 < x.mark) same some) in
      let home : home_of homes (slot_at new i).hash ≡ home_of homes (slot_at old i).hash = ap (λ (x : Slot). home_of homes x.hash) same in
      record {
        home = let h = was.home in omega arith;
        full = λ j from to. by_test (j == placed.place)
            (λ f. absurd (let free = placed.free in let n : (slot_at old j).mark ≡ (slot_at old placed.place).mark = ap (λ n. (slot_at old n).mark) (is_same j placed.place f) in let g = was.full j (omega arith) to in omega arith))
            (λ f. subst (λ (x : Slot). 0 < x.mark) (sym (placed.sets.others j (is_other j placed.place f))) (was.full j (omega arith) to));
      })

-- a key was given another number
pub led_same : (homes : ℕ) (old new : List Slot) (i : ℕ) (slot : Slot) → Sets old new i slot → 0 < (slot_at old i).mark → 0 < slot.mark → slot.hash ≡ (slot_at old i).hash → AreLed homes old → AreLed homes new
led_same homes old new i slot sets was is same led j some =
    let here : 0 < (slot_at old j).mark = by_test (j == i)
    (λ e. subst (λ n. 0 < (slot_at old n).mark) (sym (is_same j i e)) was)
    (λ e. subst (λ (x : Slot). 0 < x.mark) (sets.others j (is_other j i e)) some) in
    let hash : (slot_at new j).hash ≡ (slot_at old j).hash = by_test (j == i)
    (λ e. ap (λ n. (slot_at new n).hash) (is_same j i e) ∙ ap (λ (x : Slot). x.hash) sets.here ∙ same ∙ ap (λ n. (slot_at old n).hash) (sym (is_same j i e)))
    (λ e. ap (λ (x : Slot). x.hash) (sets.others j (is_other j i e))) in
    let home : home_of homes (slot_at new j).hash ≡ home_of homes (slot_at old j).hash = ap (home_of homes) hash in
    let before = led j here in
    record {
      home = let h = before.home in omega arith;
      full = λ k from to. by_test (k == i)
          (λ e. subst (λ (x : Slot). 0 < x.mark) (sym (ap (slot_at new) (is_same k i e) ∙ sets.here)) is)
          (λ e. subst (λ (x : Slot). 0 < x.mark) (sym (sets.others k (is_other k i e))) (before.full k (omega arith) to));
    }

-- where the gap is followed by a free slot, no way leads over it
pub closed : (homes : ℕ) (slots : List Slot) (gap end : ℕ) → IsClosing homes slots gap end → (slot_at slots end).mark ≡ 0 → AreLed homes slots
closed homes slots gap end c past i some =
    let was = c.led i some in
    record {
      home = was.home;
      full = λ j from to. by_test (j == gap)
          (λ e. let same = is_same j gap e in by_order end i
          (λ le. by_test (i == end)
          (λ f. absurd (let n : (slot_at slots i).mark ≡ (slot_at slots end).mark = ap (λ n. (slot_at slots n).mark) (is_same i end f) in omega arith))
          (λ f. let other = is_other i end f in absurd (let b = c.before in let g = was.full end (omega arith) (omega arith) (λ k. omega arith) in omega arith)))
          (λ lt. absurd (let p = c.passed i (omega arith) lt in omega arith)))
          (λ e. was.full j from to (is_other j gap e));
    }

-- what stands behind the gap stays where its home is behind it
pub stays : (homes : ℕ) (slots : List Slot) (gap end : ℕ) → IsClosing homes slots gap end → 0 < (slot_at slots end).mark → gap < home_of homes (slot_at slots end).hash → IsClosing homes slots gap (end + 1)
stays homes slots gap end c some behind = record {
  apart = c.apart;
  free = c.free;
  led = c.led;
  before = let b = c.before in omega arith;
  full = λ i from to. by_test (i == end)
      (λ e. let same = is_same i end e in subst (λ n. 0 < (slot_at slots n).mark) (sym same) some)
      (λ e. let other = is_other i end e in c.full i from (omega arith));
  passed = λ i from to. by_test (i == end)
      (λ e. let same = is_same i end e in subst (λ n. gap < home_of homes (slot_at slots n).hash) (sym same) behind)
      (λ e. let other = is_other i end e in c.passed i from (omega arith));
}

module _ (homes : ℕ) (old new : List Slot) (gap end : ℕ) (c : IsClosing homes old gap end) (some : 0 < (slot_at old end).mark) (home : home_of homes (slot_at old end).hash ≤ gap) (within : end < length old) (moves : Moves old new gap end) where
  pub moved_same : AreSame old new
  moved_same = moved old new gap end c.apart moves (λ e. let b = c.before in omega arith) c.free some within

  moved_led : AreLedBut homes new end
  moved_led i full = by_test (i == end)
      (λ e. absurd (let n : (slot_at new i).mark ≡ 0 = ap (λ n. (slot_at new n).mark) (is_same i end e) ∙ ap (λ (x : Slot). x.mark) moves.there in omega arith))
      (λ e. let not_end = is_other i end e in by_test (i == gap)
      (λ f. let same = is_same i gap f in
      let is : slot_at new i ≡ slot_at old end = ap (slot_at new) same ∙ moves.here in
      let h : home_of homes (slot_at new i).hash ≡ home_of homes (slot_at old end).hash = ap (λ (x : Slot). home_of homes x.hash) is in
      let was = c.led end some in let b = c.before in
      record {
        home = omega arith;
        full = λ j from to other. let not_gap : j ≢ gap = λ k. omega arith in
            subst (λ (x : Slot). 0 < x.mark) (sym (moves.others j not_gap other)) (was.full j (omega arith) (omega arith) not_gap);
      })
      (λ f. let not_gap = is_other i gap f in
      let is = moves.others i not_gap not_end in
      let h : home_of homes (slot_at new i).hash ≡ home_of homes (slot_at old i).hash = ap (λ (x : Slot). home_of homes x.hash) is in
      let was = c.led i (subst (λ (x : Slot). 0 < x.mark) is full) in
      record {
        home = let w = was.home in omega arith;
        full = λ j from to other. by_test (j == gap)
            (λ g. subst (λ (x : Slot). 0 < x.mark) (sym (ap (slot_at new) (is_same j gap g) ∙ moves.here)) some)
            (λ g. let apart = is_other j gap g in subst (λ (x : Slot). 0 < x.mark) (sym (moves.others j apart other)) (was.full j (omega arith) to apart));
      }))

  -- what stood behind the gap moved into it, and left a gap
  pub moves_on : IsClosing homes new end (end + 1)
  moves_on = record {
    apart = moved_same.are;
    free = ap (λ (x : Slot). x.mark) moves.there;
    led = moved_led;
    before = omega arith;
    full = λ i from to. absurd (omega arith);
    passed = λ i from to. absurd (omega arith);
  }

-- what two writes leave: the one slot in the gap, and none where it stood
pub moves-set : (old : List Slot) (gap end : ℕ) → gap ≢ end → gap < length old → end < length old → Moves old (set (set old gap (slot_at old end)) end free) gap end
moves-set old gap end apart low high =
    let first = sets-set old gap (slot_at old end) low in
    let second = sets-set (set old gap (slot_at old end)) end free (let l = length-set old gap (slot_at old end) in omega arith) in
    record {
      here = second.others gap apart ∙ first.here;
      there = second.here;
      others = λ m a b. second.others m b ∙ first.others m a;
    }
