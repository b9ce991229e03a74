-- What it is to be live, as four facts.
use Rattle.std.proofs.Common.{◌≡◌, ◌<◌, ◌≤◌, ℕ, Bool, true, false, cond, ◌&&◌, Some, None, List, refl, ap, ◌∙◌}
use Rattle.std.specs.Prelude.{nat_lt, nat_le}
use Rattle.std.proofs.lemmas.Bool.{and_parts, and_from, ltb-true, lt-ltb, leb-true, le-leb}
use Rattle.ft_laws.specs.Calls.{Calls}
use Rattle.ft_history.specs.History.{Event, last_transaction, is_committed, is_gone, IsLive}
use Rattle.ft_history.specs.History.Fate.{Live, Committed, Aborted}

live_tests : (b c g : Bool) → cond b (Some (cond c Committed (cond g Aborted Live))) None ≡ Some Live → (b ≡ true) × (c ≡ false) × (g ≡ false)
live_tests true true g h = absurd (cc)
live_tests true false true h = absurd (cc)
live_tests true false false h = (refl, refl, refl)
live_tests false c g h = absurd (cc)

module _ (C : Calls) (first : ℕ) (h : List (Event C)) (t : ℕ) where
  -- begun since the base, not committed, and no aborted one at or above it
  pub record Lived : Type 0 where
    pub since : first < t
    pub begun : t ≤ last_transaction C first h
    pub uncommitted : is_committed C h t ≡ false
    pub there : is_gone C h t ≡ false

  pub lived : IsLive C first h t → Lived
  lived live =
      let tests = live_tests (nat_lt first t && nat_le t (last_transaction C first h)) (is_committed C h t) (is_gone C h t) live in
      let range = and_parts (nat_lt first t) (nat_le t (last_transaction C first h)) tests.0 in
      record { since = ltb-true first t range.0; begun = leb-true t (last_transaction C first h) range.1; uncommitted = tests.1; there = tests.2 }

  pub lives : Lived → IsLive C first h t
  lives l =
      ap (λ b. cond b (Some (cond (is_committed C h t) Committed (cond (is_gone C h t) Aborted Live))) None)
      (and_from (nat_lt first t) (nat_le t (last_transaction C first h)) (lt-ltb first t l.since) (le-leb t (last_transaction C first h) l.begun))
      ∙ ap (λ b. Some (cond b Committed (cond (is_gone C h t) Aborted Live))) l.uncommitted ∙ ap (λ b. Some (cond b Aborted Live)) l.there
