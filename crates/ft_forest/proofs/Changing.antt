-- What callers see of a change of the records.
use Rattle.std.proofs.Common.{◌≡◌, ◌<◌, ◌≤◌, ◌+◌, ◌^◌, ℕ, Bool, true, false, Option, Some, None, inl, inr, length, refl, sym, ap, subst, ◌∙◌, arith, add_assoc}
use Rattle.std.specs.Prelude.{◌||◌, nat_le}
use Rattle.std.specs.Option.{option_map}
use Rattle.std.proofs.lemmas.List.{length-map}
use Rattle.std.proofs.lemmas.Bool.{false≢true, leb-false, cases_lt}
use Rattle.ft_history.proofs.Words.{put_same, put_other, by_number, none_some}
use Rattle.ft_forest.specs.declared.TheConstants.{MOST_TRANSACTIONS, LAST_NUMBER}
use Rattle.ft_forest.specs.declared.limits.ForestLimits.{ForestLimits}
use Rattle.ft_forest.specs.declared.state.State.{State}
use Rattle.ft_forest.specs.declared.state.State.TheVariants.{Live}
use Rattle.ft_forest.specs.declared.records.Records.{Records}
use Rattle.ft_forest.specs.Transactions.{Transactions, parent_in, state_in, last_in, is_live_state, is_live, IsLiveChild, HasBegun, HasEnded}
use Rattle.ft_forest.specs.Refusals.{is_full, begin_refusal}
use Rattle.ft_forest.specs.Places.{IsDepthBelow}
use Rattle.ft_forest.specs.Records.{Links, AreLinked, IsSibling, IsYoungest, IsOlder, IsYounger, transaction_from, no_links, links_of, links_by, number_at, transactions_of, AreRecords, begun_links, ended_links, DepthIs, is_child_at}
use Rattle.ft_forest.proofs.Refusing.{not_full}
use Rattle.ft_forest.proofs.Counting.{count-most}
use Rattle.ft_forest.proofs.Seeing.{by_place, same_place, state-at, parent-at, state-none, parent-none, last-is, depth-seen}
use Rattle.ft_forest.proofs.Ending.{ended-linked}
use Rattle.ft_forest.proofs.Beginning.{begun-linked}

pub none_live : None ≡ Some Live → ⊥
none_live e = cc

module _ (limits : ForestLimits) (base : ℕ) (r : Records) (h : AreRecords limits base r) where
  abbrev old : Transactions
  old = transactions_of limits base r

  abbrev s : Links
  s = links_of r

  -- the record of a live transaction is live
  pub live-links : (i t : ℕ) → t ≡ number_at base i → state_in old t ≡ Some Live → s.state i ≡ Some Live
  live-links i t is live = sym (state-at limits base r i) ∙ ap (state_in old) (sym is) ∙ live

  -- who is live was begun
  pub live-begun : (i : ℕ) → s.state i ≡ Some Live → i < length r.list.items
  live-begun i l = elim (cases_lt i (length r.list.items)) [ inl lt ↦ lt | inr ge ↦ absurd (none_live (sym (h.linked.unbegun i ge) ∙ l)) ]

  -- more is kept of who is live
  pub live-kept : (i : ℕ) → s.state i ≡ Some Live → s.kept i ≡ true
  live-kept i l = h.linked.kept i ∙ ap is_live l

  pub parent-kept : (i : ℕ) → s.state i ≡ Some Live → (p : ℕ) → s.parent i ≡ Some p → s.kept p ≡ true
  parent-kept i l p is = live-kept p (h.linked.live_parent i p l is)

  pub older-kept : (i : ℕ) → s.state i ≡ Some Live → (y : ℕ) → s.older i ≡ Some y → s.kept y ≡ true
  older-kept i l y is = live-kept y (subst (IsOlder s (s.parent i) i) is (h.linked.older i l)).0.live

  pub younger-kept : (i : ℕ) → s.state i ≡ Some Live → (y : ℕ) → s.younger i ≡ Some y → s.kept y ≡ true
  younger-kept i l y is = live-kept y (subst (IsYounger s (s.parent i) i) is (h.linked.younger i l)).0.live

  pub youngest-kept : (p : Option ℕ) (y : ℕ) → s.youngest p ≡ Some y → s.kept y ≡ true
  youngest-kept p y is = live-kept y (subst (IsYoungest s p) is (h.linked.youngest p)).0.live

  pub few-children : (p : ℕ) → s.children p < 2 ^ 63
  few-children p =
      let counted = h.linked.children p in
      let most = count-most (is_child_at s p) (length r.list.items) in
      let few = h.few in
      let sound = h.sound in
      omega arith

  module _ (i t : ℕ) (is : t ≡ number_at base i) (live : state_in old t ≡ Some Live) (no_child : (x : ℕ) → IsLiveChild old t x → ⊥) (state : State) (ended : is_live_state state ≡ false) (r' : Records) (now : links_of r' ≡ ended_links (links_of r) i state) where
    live-at : s.state i ≡ Some Live
    live-at = sym (state-at limits base r i) ∙ ap (state_in old) (sym is) ∙ live

    childless : (y : ℕ) → IsSibling s (Some i) y → ⊥
    childless y c = no_child (number_at base y) (record {
      child = parent-at limits base r y ∙ ap (option_map (number_at base)) c.parent ∙ ap Some (sym is);
      live = state-at limits base r y ∙ c.live;
    })

    pub records-ended : AreRecords limits base r'
    records-ended = record {
      linked = subst AreLinked (sym now) (ended-linked s h.linked i state ended live-at childless);
      few = subst (λ n. n ≤ limits.transactions) (sym (ap (λ (l : Links). l.count) now)) h.few;
      sound = h.sound;
      numbers = λ j lt. h.numbers j (subst (λ n. j < n) (ap (λ (l : Links). l.count) now) lt);
    }

    pub value-ended : HasEnded old (transactions_of limits base r') t state
    value-ended = record {
      limits = refl;
      base = refl;
      last = last-is limits base r' ∙ ap (λ (l : Links). base + l.count) now ∙ sym (last-is limits base r);
      parents = λ x. by_place base x
          (λ le. parent-none limits base r' x le ∙ sym (parent-none limits base r x le))
          (λ j e. ap (parent_in (transactions_of limits base r')) e ∙ parent-at limits base r' j ∙ ap (λ (l : Links). option_map (number_at base) (l.parent j)) now ∙ sym (parent-at limits base r j) ∙ ap (parent_in old) (sym e));
      states = λ x. by_place base x
          (λ le. state-none limits base r' x le ∙ sym (state-none limits base r x le) ∙ sym (put_other (state_in old) t (Some state) x (λ e. let k : x ≡ t = e in absurd (omega arith))))
          (λ j e. ap (state_in (transactions_of limits base r')) e ∙ state-at limits base r' j ∙ ap (λ (l : Links). l.state j) now ∙ by_number j i
          (λ same. put_same s.state i (Some state) j same ∙ sym (put_same (state_in old) t (Some state) x (e ∙ ap (number_at base) same ∙ sym is)))
          (λ ne. put_other s.state i (Some state) j ne ∙ sym (state-at limits base r j) ∙ ap (state_in old) (sym e)
          ∙ sym (put_other (state_in old) t (Some state) x (λ k. ne (same_place base j i (sym e ∙ k ∙ is))))));
    }

  -- there is room for one more
  room-both : (a b : Bool) → (a || b) ≡ false → (a ≡ false) × (b ≡ false)
  room-both true b e = absurd (false≢true (sym e))
  room-both false b e = (refl, e)

  pub room : is_full old ≡ false → (length r.list.items < limits.transactions) × (last_in old < LAST_NUMBER)
  room e =
      let both = room-both (nat_le limits.transactions (length old.list)) (nat_le LAST_NUMBER (last_in old)) e in
      (subst (λ n. n < limits.transactions) (length-map r.list.items (transaction_from base)) (leb-false limits.transactions (length old.list) both.0), leb-false LAST_NUMBER (last_in old) both.1)

  module _ (free : begin_refusal old ≡ None) (parent : Option ℕ) (depth : ℕ) (live : (p : ℕ) → parent ≡ Some p → state_in old (number_at base p) ≡ Some Live) (deeper : IsDepthBelow old parent depth) where
    live-parent : (p : ℕ) → parent ≡ Some p → s.state p ≡ Some Live
    live-parent p e = sym (state-at limits base r p) ∙ live p e

    pub parent-begun : (p : ℕ) → parent ≡ Some p → p < length r.list.items
    parent-begun p e = live-begun p (live-parent p e)

    pub above-kept : (p : ℕ) → parent ≡ Some p → s.kept p ≡ true
    above-kept p e = live-kept p (live-parent p e)

    pub has-room : length r.list.items < limits.transactions
    has-room = (room (not_full old free)).0

    deeper-at : DepthIs s parent depth
    deeper-at = by_parent-depth parent refl deeper
      where
        by_parent-depth : (o : Option ℕ) → parent ≡ o → IsDepthBelow old o depth → DepthIs s o depth
        by_parent-depth None e d = d
        by_parent-depth (Some p) e d = d ∙ ap (λ n. n + 1) (sym (depth-seen limits base r h p (live-parent p e)))

    module _ (r' : Records) (now : links_of r' ≡ begun_links (links_of r) parent depth) where
      count-is : length r'.list.items ≡ length r.list.items + 1
      count-is = ap (λ (l : Links). l.count) now

      pub records-begun : AreRecords limits base r'
      records-begun =
          let space = room (not_full old free) in
          let last = last-is limits base r in
          record {
            linked = subst AreLinked (sym now) (begun-linked s h.linked parent depth live-parent deeper-at);
            few = let lt = space.0 in let n = count-is in omega arith;
            sound = h.sound;
            numbers = λ j lt. let n = count-is in let most = space.1 in omega arith;
          }

      number-is : number_at base (length r.list.items) ≡ last_in old + 1
      number-is = let last = last-is limits base r in omega arith

      pub value-begun : HasBegun old (transactions_of limits base r') (option_map (number_at base) parent)
      value-begun = record {
        limits = refl;
        base = refl;
        last = last-is limits base r' ∙ ap (λ n. base + n) count-is ∙ sym (add_assoc base (length r.list.items) 1) ∙ ap (λ n. n + 1) (sym (last-is limits base r));
        parents = λ x. by_place base x
            (λ le. parent-none limits base r' x le ∙ sym (parent-none limits base r x le) ∙ sym (put_other (parent_in old) (last_in old + 1) (option_map (number_at base) parent) x (λ e. let k : x ≡ last_in old + 1 = e in let last = last-is limits base r in absurd (omega arith))))
            (λ j e. ap (parent_in (transactions_of limits base r')) e ∙ parent-at limits base r' j ∙ ap (λ (l : Links). option_map (number_at base) (l.parent j)) now ∙ by_number j (length r.list.items)
            (λ same. ap (option_map (number_at base)) (put_same s.parent (length r.list.items) parent j same)
            ∙ sym (put_same (parent_in old) (last_in old + 1) (option_map (number_at base) parent) x (e ∙ ap (number_at base) same ∙ number-is)))
            (λ ne. ap (option_map (number_at base)) (put_other s.parent (length r.list.items) parent j ne) ∙ sym (parent-at limits base r j) ∙ ap (parent_in old) (sym e)
            ∙ sym (put_other (parent_in old) (last_in old + 1) (option_map (number_at base) parent) x (λ k. ne (same_place base j (length r.list.items) (sym e ∙ k ∙ sym number-is))))));
        states = λ x. by_place base x
            (λ le. state-none limits base r' x le ∙ sym (state-none limits base r x le) ∙ sym (put_other (state_in old) (last_in old + 1) (Some Live) x (λ e. let k : x ≡ last_in old + 1 = e in let last = last-is limits base r in absurd (omega arith))))
            (λ j e. ap (state_in (transactions_of limits base r')) e ∙ state-at limits base r' j ∙ ap (λ (l : Links). l.state j) now ∙ by_number j (length r.list.items)
            (λ same. put_same s.state (length r.list.items) (Some Live) j same
            ∙ sym (put_same (state_in old) (last_in old + 1) (Some Live) x (e ∙ ap (number_at base) same ∙ number-is)))
            (λ ne. put_other s.state (length r.list.items) (Some Live) j ne ∙ sym (state-at limits base r j) ∙ ap (state_in old) (sym e)
            ∙ sym (put_other (state_in old) (last_in old + 1) (Some Live) x (λ k. ne (same_place base j (length r.list.items) (sym e ∙ k ∙ sym number-is))))));
      }

-- the same records
pub records-same : (limits : ForestLimits) (base : ℕ) (r r' : Records) → AreRecords limits base r → r'.list.items ≡ r.list.items → r'.youngest ≡ r.youngest → r'.live ≡ r.live → AreRecords limits base r'
records-same limits base r r' h items youngest live = record {
  linked = subst AreLinked (λ i. links_by (sym youngest i) (sym items i) (sym live i)) h.linked;
  few = subst (λ rs. length rs ≤ limits.transactions) (sym items) h.few;
  sound = h.sound;
  numbers = λ i lt. h.numbers i (subst (λ rs. i < length rs) items lt);
}

-- the records of no transaction are sound
pub none-linked : AreLinked no_links
none-linked = record {
  begun = λ i lt. absurd (omega arith);
  unbegun = λ i ge. refl;
  kept = λ i. refl;
  lower = λ i p e. absurd (none_some p e);
  live_parent = λ i p l e. absurd (none_some p e);
  youngest = λ p x is. none_live is.live;
  older = λ i l. absurd (none_live l);
  younger = λ i l. absurd (none_live l);
  children = λ p. refl;
  depth = λ i l. absurd (none_live l);
}

pub records-none : (limits : ForestLimits) (base : ℕ) (r : Records) → limits.transactions ≤ MOST_TRANSACTIONS → links_of r ≡ no_links → AreRecords limits base r
records-none limits base r sound none =
    let count : length r.list.items ≡ 0 = ap (λ (l : Links). l.count) none in
    record {
      linked = subst AreLinked (sym none) none-linked;
      few = omega arith;
      sound = sound;
      numbers = λ i lt. absurd (omega arith);
    }
