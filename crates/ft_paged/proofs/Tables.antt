-- What a table of groups has at a number, and what a change of one place leaves.
use Rattle.std.proofs.Common.{IsSome, ◌≡◌, ◌≤◌, ◌<◌, ◌+◌, ◌*◌, ℕ, List, [], length, Option, Some, None, set, get_or, arith, sym, ap, ◌∙◌}
use Rattle.std.proofs.Math.ListN.{get_or-eq_default}
use Rattle.std.specs.Ordering.{nat_cmp}
use Rattle.std.specs.FinMap.{FinMap, get, insert, remove}
use Rattle.ft_paged.specs.declared.TheConstants.{GROUP_LEN}
use Rattle.ft_paged.specs.Paged.{dense, spread, joined_places, HaveLen}
use Rattle.ft_paged.proofs.Places.{laid, laid-at, laid-put, laid-taken, get-place, has-place, is-past, no-place}
use Rattle.ft_paged.proofs.Pages.{joined-length, joined-get, joined-set}

-- a number stands at the place of a group, counted from the first that is not skipped
abbrev pub StandsAt : ℕ → ℕ → ℕ → ℕ → Type 0
StandsAt skipped group place q = (q ≡ GROUP_LEN * (skipped + group) + place + 1) × (place < GROUP_LEN)

module _ {V : Type 0} where
  pub table-get : (z : Option V) (skipped : ℕ) (ps : List (List (Option V))) (group place q : ℕ) → HaveLen GROUP_LEN ps → StandsAt skipped group place q → group < length ps → get_or (get_or ps group []) place None ≡ get (dense (spread z skipped ps)) q
  table-get z skipped ps group place q are at there = let stands = at.0 in
      sym (get-place (spread z skipped ps) q ∙ laid-at z (GROUP_LEN * skipped) (joined_places ps) q (GROUP_LEN * group + place) (omega arith) ∙ joined-get GROUP_LEN ps group place are there at.1)

  pub table-none : (z : Option V) (skipped : ℕ) (ps : List (List (Option V))) (group place q : ℕ) → HaveLen GROUP_LEN ps → StandsAt skipped group place q → length ps ≤ group → get (dense (spread z skipped ps)) q ≡ None
  table-none z skipped ps group place q are at past = let stands = at.0 in let long = joined-length GROUP_LEN ps are in
      get-place (spread z skipped ps) q ∙ laid-at z (GROUP_LEN * skipped) (joined_places ps) q (GROUP_LEN * group + place) (omega arith) ∙ get_or-eq_default (joined_places ps) None (omega arith)

  pub table-put : (z : Option V) (skipped : ℕ) (ps : List (List (Option V))) (group place q : ℕ) (v : V) → HaveLen GROUP_LEN ps → StandsAt skipped group place q → group < length ps
      → dense (spread z skipped (set ps group (set (get_or ps group []) place (Some v)))) ≡ insert (dense (spread z skipped ps)) q v
  table-put z skipped ps group place q v are at there = let stands = at.0 in let within = at.1 in let long = joined-length GROUP_LEN ps are in
      ap (λ xs. dense (laid z (GROUP_LEN * skipped) xs)) (joined-set GROUP_LEN ps group place (Some v) are there within)
      ∙ laid-put z (GROUP_LEN * skipped) (joined_places ps) q (GROUP_LEN * group + place) v (omega arith) (omega arith)

  pub table-taken : (z : Option V) (skipped : ℕ) (ps : List (List (Option V))) (group place q : ℕ) → HaveLen GROUP_LEN ps → StandsAt skipped group place q → group < length ps
      → dense (spread z skipped (set ps group (set (get_or ps group []) place None))) ≡ remove (dense (spread z skipped ps)) q
  table-taken z skipped ps group place q are at there = let stands = at.0 in let within = at.1 in let long = joined-length GROUP_LEN ps are in
      ap (λ xs. dense (laid z (GROUP_LEN * skipped) xs)) (joined-set GROUP_LEN ps group place None are there within)
      ∙ laid-taken z (GROUP_LEN * skipped) (joined_places ps) q (GROUP_LEN * group + place) (omega arith) (omega arith)

  -- a number without a group loses no value
  pub table-absent : (z : Option V) (skipped : ℕ) (ps : List (List (Option V))) (group place q : ℕ) → HaveLen GROUP_LEN ps → StandsAt skipped group place q → length ps ≤ group
      → dense (spread z skipped ps) ≡ remove (dense (spread z skipped ps)) q
  table-absent z skipped ps group place q are at past = let stands = at.0 in let long = joined-length GROUP_LEN ps are in
      no-place z (GROUP_LEN * skipped) (joined_places ps) q (GROUP_LEN * group + place) (omega arith) (omega arith)

  -- what has a value stands in a group
  pub table-has : (z : Option V) (skipped : ℕ) (ps : List (List (Option V))) (m : FinMap nat_cmp V) (group place q : ℕ) → HaveLen GROUP_LEN ps → StandsAt skipped group place q → dense (spread z skipped ps) ≡ m → IsSome (get m q) → group < length ps
  table-has z skipped ps m group place q are at is some = let stands = at.0 in let within = at.1 in let long = joined-length GROUP_LEN ps are in
      let lt : GROUP_LEN * group + place < length (joined_places ps) = has-place z (GROUP_LEN * skipped) (joined_places ps) m q (GROUP_LEN * group + place) (omega arith) is some in omega arith

  -- whose number is not skipped
  pub table-past : (z : Option V) (skipped : ℕ) (ps : List (List (Option V))) (m : FinMap nat_cmp V) (group place q : ℕ) → q ≡ GROUP_LEN * group + place + 1 → place < GROUP_LEN → dense (spread z skipped ps) ≡ m → IsSome (get m q) → skipped ≤ group
  table-past z skipped ps m group place q stands within is some =
      let lt : GROUP_LEN * skipped < q = is-past z (GROUP_LEN * skipped) (joined_places ps) m q (omega arith) is some in omega arith
