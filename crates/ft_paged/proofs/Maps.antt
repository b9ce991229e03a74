-- What a map of groups has at a number, and what a change of one place leaves.
use Rattle.std.proofs.Common.{IsSome, ◌≡◌, ◌≤◌, ◌<◌, ◌+◌, ◌-◌, ◌*◌, ◌^◌, ℕ, suc, List, [], ◌∷◌, length, Option, Some, None, set, get_or, drop, arith, refl, sym, ap, subst, ◌∙◌}
use Rattle.std.proofs.Math.ListN.{get_or-eq_default}
use Rattle.std.proofs.lemmas.List.{length-set}
use Rattle.std.specs.Ordering.{nat_cmp}
use Rattle.std.specs.FinMap.{FinMap, get, insert, remove}
use Rattle.ft_paged.specs.declared.TheConstants.{GROUP_LEN}
use Rattle.ft_paged.specs.Paged.{numbered, dense, valued, joined_places, HaveLen, AreGroups, IsSpare, IsPagedMap, IsFirstFrom}
use Rattle.ft_paged.proofs.Places.{get-place, place-put, place-taken, inside, absent}
use Rattle.ft_paged.proofs.Pages.{joined-length, joined-get, joined-set, pages-set, pages-long, valued-put, valued-taken, valued-most}

-- a number stands at the place of a group
abbrev pub IsAt : ℕ → ℕ → ℕ → Type 0
IsAt group place q = (q ≡ GROUP_LEN * group + place) × (place < GROUP_LEN)

module _ {V : Type 0} where
  -- where the group of a number stands, its place has what the map has
  pub map-get : (ps : List (List (Option V))) (group place q : ℕ) → HaveLen GROUP_LEN ps → IsAt group place q → group < length ps → get_or (get_or ps group []) place None ≡ get (dense (joined_places ps)) q
  map-get ps group place q are at there =
      sym (joined-get GROUP_LEN ps group place are there at.1) ∙ ap (λ k. get_or (joined_places ps) k None) (sym at.0) ∙ sym (get-place (joined_places ps) q)

  pub map-none : (ps : List (List (Option V))) (group place q : ℕ) → HaveLen GROUP_LEN ps → IsAt group place q → length ps ≤ group → get (dense (joined_places ps)) q ≡ None
  map-none ps group place q are at past = let stands = at.0 in let long = joined-length GROUP_LEN ps are in
      get-place (joined_places ps) q ∙ get_or-eq_default (joined_places ps) None (omega arith)

  long-enough : (ps : List (List (Option V))) (group place q : ℕ) → HaveLen GROUP_LEN ps → IsAt group place q → group < length ps → q < length (joined_places ps)
  long-enough ps group place q are at there = let stands = at.0 in let within = at.1 in let long = joined-length GROUP_LEN ps are in omega arith

  -- another value there, or none
  set-there : (ps : List (List (Option V))) (group place q : ℕ) (o : Option V) → HaveLen GROUP_LEN ps → IsAt group place q → group < length ps → joined_places (set ps group (set (get_or ps group []) place o)) ≡ set (joined_places ps) q o
  set-there ps group place q o are at there = joined-set GROUP_LEN ps group place o are there at.1 ∙ ap (λ k. set (joined_places ps) k o) (sym at.0)

  pub map-put : (ps : List (List (Option V))) (group place q : ℕ) (v : V) → HaveLen GROUP_LEN ps → IsAt group place q → group < length ps
      → dense (joined_places (set ps group (set (get_or ps group []) place (Some v)))) ≡ insert (dense (joined_places ps)) q v
  map-put ps group place q v are at there = ap dense (set-there ps group place q (Some v) are at there) ∙ place-put (joined_places ps) q v (long-enough ps group place q are at there)

  pub map-taken : (ps : List (List (Option V))) (group place q : ℕ) → HaveLen GROUP_LEN ps → IsAt group place q → group < length ps
      → dense (joined_places (set ps group (set (get_or ps group []) place None))) ≡ remove (dense (joined_places ps)) q
  map-taken ps group place q are at there = ap dense (set-there ps group place q None are at there) ∙ place-taken (joined_places ps) q (long-enough ps group place q are at there)

  -- a number that has no value loses none
  pub map-absent : (ps : List (List (Option V))) (m : FinMap nat_cmp V) (q : ℕ) → dense (joined_places ps) ≡ m → None ≡ get m q → m ≡ remove m q
  map-absent ps m q is none =
      sym is ∙ absent (joined_places ps) q (sym (get-place (joined_places ps) q) ∙ ap (λ n. get n q) is ∙ sym none) ∙ ap (λ n. remove n q) is

  value-there : (ps : List (List (Option V))) (m : FinMap nat_cmp V) (q : ℕ) (v : V) → dense (joined_places ps) ≡ m → Some v ≡ get m q → IsSome (get_or (joined_places ps) q None)
  value-there ps m q v is there = subst IsSome (there ∙ sym (ap (λ n. get n q) is) ∙ get-place (joined_places ps) q) refl

  -- what has a value stands in a group
  pub map-has : (ps : List (List (Option V))) (m : FinMap nat_cmp V) (group place q : ℕ) (v : V) → HaveLen GROUP_LEN ps → IsAt group place q → dense (joined_places ps) ≡ m → Some v ≡ get m q → group < length ps
  map-has ps m group place q v are at is there =
      let stands = at.0 in let within = at.1 in let long = joined-length GROUP_LEN ps are in
      let lt = inside (joined_places ps) q (value-there ps m q v is there) in omega arith

  -- and is counted
  pub map-counted : (ps : List (List (Option V))) (m : FinMap nat_cmp V) (q : ℕ) (v : V) → dense (joined_places ps) ≡ m → Some v ≡ get m q → 1 ≤ valued (joined_places ps)
  map-counted ps m q v is there = let less = valued-taken (joined_places ps) q (value-there ps m q v is there) in omega arith

  -- how many values there are at most
  pub map-most : (count : ℕ) (ps : List (List (Option V))) (page group : List (Option V)) → IsPagedMap count ps page group → count ≤ 2 ^ 32
  map-most count ps page group sound =
      let few = sound.whole.few in let counted = sound.counted in let long = joined-length GROUP_LEN ps sound.whole.whole in let most = valued-most (joined_places ps) in omega arith

  set-groups : (ps : List (List (Option V))) (group place : ℕ) (o : Option V) → AreGroups ps → group < length ps → AreGroups (set ps group (set (get_or ps group []) place o))
  set-groups ps group place o sound there = record {
    whole = pages-set GROUP_LEN ps group (set (get_or ps group []) place o) sound.whole (length-set (get_or ps group []) place o ∙ pages-long GROUP_LEN ps group sound.whole there);
    few = let long = length-set ps group (set (get_or ps group []) place o) in let few = sound.few in omega arith;
  }

  -- what a map keeps true where a number gets a value, and where one loses its own
  pub map-put-sound : (count : ℕ) (ps : List (List (Option V))) (group place q : ℕ) (v : V) (page spare : List (Option V)) → count ≡ valued (joined_places ps) → AreGroups ps → IsAt group place q → group < length ps
      → get (dense (joined_places ps)) q ≡ None → IsSpare page spare → IsPagedMap (count + 1) (set ps group (set (get_or ps group []) place (Some v))) page spare
  map-put-sound count ps group place q v page spare counted sound at there none unused = record {
    whole = set-groups ps group place (Some v) sound there;
    counted =
        let more : valued (joined_places (set ps group (set (get_or ps group []) place (Some v)))) ≡ suc (valued (joined_places ps)) =
        ap valued (set-there ps group place q (Some v) sound.whole at there)
        ∙ valued-put (joined_places ps) q v (long-enough ps group place q sound.whole at there) (sym (get-place (joined_places ps) q) ∙ none) in omega arith;
    unused = unused;
  }

  pub map-taken-sound : (count : ℕ) (ps : List (List (Option V))) (m : FinMap nat_cmp V) (group place q : ℕ) (v : V) (page spare : List (Option V)) → count ≡ valued (joined_places ps) → AreGroups ps → IsAt group place q
      → dense (joined_places ps) ≡ m → Some v ≡ get m q → IsSpare page spare → IsPagedMap (count - 1) (set ps group (set (get_or ps group []) place None)) page spare
  map-taken-sound count ps m group place q v page spare counted sound at is had unused =
      let there = map-has ps m group place q v sound.whole at is had in record {
        whole = set-groups ps group place None sound there;
        counted =
            let less : suc (valued (joined_places (set ps group (set (get_or ps group []) place None)))) ≡ valued (joined_places ps) =
            ap suc (ap valued (set-there ps group place q None sound.whole at there)) ∙ valued-taken (joined_places ps) q (value-there ps m q v is had) in omega arith;
        unused = unused;
      }

  -- the first number of those that are left
  pub first-left : (xs : List (Option V)) (from place : ℕ) (v : V) → IsFirstFrom xs from (Some (place, v)) → numbered from (drop from xs) ≡ (place, v) ∷ numbered (place + 1) (drop (place + 1) xs)
  first-left xs from place v first =
      let here : from ≡ 0 + from = omega arith in
      let there : 0 + place ≡ place = omega arith in
      ap (λ n. numbered n (drop from xs)) here ∙ first 0 ∙ ap (λ n. (n, v) ∷ numbered (n + 1) (drop (place + 1) xs)) there

  pub none-left : (xs : List (Option V)) (from : ℕ) → IsFirstFrom xs from None → numbered from (drop from xs) ≡ []
  none-left xs from none = let here : from ≡ 0 + from = omega arith in ap (λ n. numbered n (drop from xs)) here ∙ none 0
