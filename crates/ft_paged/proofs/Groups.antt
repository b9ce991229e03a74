-- The places of a group: where one stands in the pages, and what a change of it or more pages leave.
use Rattle.std.proofs.Common.{◌≡◌, ◌≤◌, ◌<◌, ◌+◌, ◌-◌, ◌*◌, ◌/◌, ◌%◌, ℕ, zero, suc, List, [], ◌∷◌, ◌++◌, length, Option, Some, None, IsSome, Result, Ok, Err, OnErr, false, is_some, set, get_or, replicate, arith, refl, sym, ap, subst, ◌∙◌}
use Rattle.std.proofs.lemmas.List.{length-set, append_assoc, replicate-append-replicate, set-append_left}
use Rattle.std.proofs.lemmas.Bool.{false≢true}
use Rattle.std.proofs.Math.ListN.{get_or-eq_default}
use Rattle.std.proofs.Math.Nat.{div-add-mod, mod-lt}
use Rattle.ft_paged.specs.declared.TheConstants.{PAGE_LEN, GROUP_LEN, GROUP_PAGES}
use Rattle.ft_paged.specs.Paged.{blank, blank_group, valued, joined_places, group_places, HaveLen, IsGroup}
use Rattle.ft_paged.proofs.Places.{behind, inside}
use Rattle.ft_paged.proofs.Pages.{joined-length, joined-get, joined-set, joined-more, lengthened, pages-set, pages-long, valued-put, valued-again, valued-taken, valued-nothing, valued-most}

-- a place of a group stands in a page
abbrev pub StandsIn : ℕ → ℕ → ℕ → Type 0
StandsIn page within place = (place ≡ PAGE_LEN * page + within) × (within < PAGE_LEN)

valued-none : (V : Type 0) (n : ℕ) → valued {V = V} (replicate n None) ≡ 0
valued-none V zero = refl
valued-none V (suc n) = valued-none V n

module _ {V : Type 0} where
  valued-append : (xs ys : List (Option V)) → valued (xs ++ ys) ≡ valued xs + valued ys
  valued-append [] ys = omega arith
  valued-append (None ∷ xs) ys = valued-append xs ys
  valued-append (Some x ∷ xs) ys = let more = valued-append xs ys in omega arith

  -- the places behind the pages
  abbrev rest : ℕ → List (Option V)
  rest n = replicate (GROUP_LEN - PAGE_LEN * n) None

  pub group-empty : (ps : List (List (Option V))) → ps ≡ [] → group_places ps ≡ blank_group
  group-empty ps is = ap group_places is

  -- what a place has
  pub group-get : (ps : List (List (Option V))) (page within place : ℕ) → HaveLen PAGE_LEN ps → StandsIn page within place → page < length ps → get_or (get_or ps page []) within None ≡ get_or (group_places ps) place None
  group-get ps page within place are at there =
      sym (joined-get PAGE_LEN ps page within are there at.1) ∙ ap (λ k. get_or (joined_places ps) k None) (sym at.0) ∙ sym (behind (joined_places ps) (GROUP_LEN - PAGE_LEN * length ps) place)

  pub group-none : (ps : List (List (Option V))) (page within place : ℕ) → HaveLen PAGE_LEN ps → StandsIn page within place → length ps ≤ page → get_or (group_places ps) place None ≡ None
  group-none ps page within place are at past = let stands = at.0 in let long = joined-length PAGE_LEN ps are in
      behind (joined_places ps) (GROUP_LEN - PAGE_LEN * length ps) place ∙ get_or-eq_default (joined_places ps) None (omega arith)

  -- a place that has a value stands in a page
  pub group-has : (ps : List (List (Option V))) (places : List (Option V)) (page within place : ℕ) → HaveLen PAGE_LEN ps → StandsIn page within place → group_places ps ≡ places → IsSome (get_or places place None) → page < length ps
  group-has ps places page within place are at is some =
      let stands = at.0 in let less = at.1 in let long = joined-length PAGE_LEN ps are in
      let lt : place < length (joined_places ps) = inside (joined_places ps) place (subst IsSome (sym (sym (behind (joined_places ps) (GROUP_LEN - PAGE_LEN * length ps) place) ∙ ap (λ xs. get_or xs place None) is)) some) in omega arith

  -- a place that is set
  pub group-set : (ps : List (List (Option V))) (page within place : ℕ) (o : Option V) → HaveLen PAGE_LEN ps → StandsIn page within place → page < length ps
      → group_places (set ps page (set (get_or ps page []) within o)) ≡ set (group_places ps) place o
  group-set ps page within place o are at there =
      let stands = at.0 in let less = at.1 in let long = joined-length PAGE_LEN ps are in
      ap (λ xs. xs ++ rest (length (set ps page (set (get_or ps page []) within o)))) (joined-set PAGE_LEN ps page within o are there at.1 ∙ ap (λ k. set (joined_places ps) k o) (sym at.0))
      ∙ ap (λ n. set (joined_places ps) place o ++ rest n) (length-set ps page (set (get_or ps page []) within o)) ∙ sym (set-append_left (joined_places ps) (rest (length ps)) place o (omega arith))

  -- how many places have a value then
  pub count-put : (ps : List (List (Option V))) (page within place : ℕ) (v : V) → HaveLen PAGE_LEN ps → StandsIn page within place → page < length ps → get_or (get_or ps page []) within None ≡ None
      → valued (joined_places (set ps page (set (get_or ps page []) within (Some v)))) ≡ suc (valued (joined_places ps))
  count-put ps page within place v are at there none =
      let less = at.1 in let long = joined-length PAGE_LEN ps are in
      ap valued (joined-set PAGE_LEN ps page within (Some v) are there at.1) ∙ valued-put (joined_places ps) (PAGE_LEN * page + within) v (omega arith) (joined-get PAGE_LEN ps page within are there at.1 ∙ none)

  pub count-again : (ps : List (List (Option V))) (page within place : ℕ) (v : V) → HaveLen PAGE_LEN ps → StandsIn page within place → page < length ps → IsSome (get_or (get_or ps page []) within None)
      → valued (joined_places (set ps page (set (get_or ps page []) within (Some v)))) ≡ valued (joined_places ps)
  count-again ps page within place v are at there some =
      ap valued (joined-set PAGE_LEN ps page within (Some v) are there at.1) ∙ valued-again (joined_places ps) (PAGE_LEN * page + within) v (subst IsSome (sym (joined-get PAGE_LEN ps page within are there at.1)) some)

  pub count-taken : (ps : List (List (Option V))) (page within place : ℕ) → HaveLen PAGE_LEN ps → StandsIn page within place → page < length ps → IsSome (get_or (get_or ps page []) within None)
      → suc (valued (joined_places (set ps page (set (get_or ps page []) within None)))) ≡ valued (joined_places ps)
  count-taken ps page within place are at there some =
      ap suc (ap valued (joined-set PAGE_LEN ps page within None are there at.1)) ∙ valued-taken (joined_places ps) (PAGE_LEN * page + within) (subst IsSome (sym (joined-get PAGE_LEN ps page within are there at.1)) some)

  -- pages more, without values
  pub group-more : (ps qs : List (List (Option V))) (n : ℕ) → qs ≡ ps ++ replicate n blank → length ps + n ≤ GROUP_PAGES → group_places qs ≡ group_places ps
  group-more ps qs n is few =
      let all : PAGE_LEN * n + (GROUP_LEN - PAGE_LEN * (length ps + n)) ≡ GROUP_LEN - PAGE_LEN * length ps = omega arith in
      ap (λ k. joined_places qs ++ rest k) (lengthened blank ps qs n is) ∙ ap (λ xs. xs ++ rest (length ps + n)) (ap joined_places is ∙ joined-more PAGE_LEN ps n)
      ∙ append_assoc (joined_places ps) (replicate (PAGE_LEN * n) None) (rest (length ps + n))
      ∙ ap (λ xs. joined_places ps ++ xs) (replicate-append-replicate (PAGE_LEN * n) (GROUP_LEN - PAGE_LEN * (length ps + n)) None ∙ ap (λ k. replicate k None) all)

  pub count-more : (ps qs : List (List (Option V))) (n : ℕ) → qs ≡ ps ++ replicate n blank → valued (joined_places qs) ≡ valued (joined_places ps)
  count-more ps qs n is =
      let same = ap valued (ap joined_places is ∙ joined-more PAGE_LEN ps n) ∙ valued-append (joined_places ps) (replicate (PAGE_LEN * n) None) in let none = valued-none V (PAGE_LEN * n) in omega arith

  -- where no place has a value
  pub group-nothing : (ps : List (List (Option V))) → HaveLen PAGE_LEN ps → length ps ≤ GROUP_PAGES → valued (joined_places ps) ≡ 0 → group_places ps ≡ blank_group
  group-nothing ps are few none =
      let long = joined-length PAGE_LEN ps are in let all : length (joined_places ps) + (GROUP_LEN - PAGE_LEN * length ps) ≡ GROUP_LEN = omega arith in
      ap (λ xs. xs ++ rest (length ps)) (valued-nothing (joined_places ps) none) ∙ replicate-append-replicate (length (joined_places ps)) (GROUP_LEN - PAGE_LEN * length ps) None ∙ ap (λ k. replicate k None) all

  pub group-unused : (ps : List (List (Option V))) → group_places ps ≡ blank_group → valued (joined_places ps) ≡ 0
  group-unused ps is =
      let same = sym (valued-append (joined_places ps) (rest (length ps))) ∙ ap valued is ∙ valued-none V GROUP_LEN in omega arith

  -- no group has more values than places
  pub count-most : (used : ℕ) (ps : List (List (Option V))) → IsGroup used ps → used ≤ GROUP_LEN
  count-most used ps sound =
      let long = joined-length PAGE_LEN ps sound.whole in let most = valued-most (joined_places ps) in let few = sound.few in let counted = sound.counted in omega arith

  -- what a group keeps true where one place is set
  pub group-sound : (used used' : ℕ) (ps : List (List (Option V))) (page within : ℕ) (o : Option V) → IsGroup used ps → page < length ps → used' ≡ valued (joined_places (set ps page (set (get_or ps page []) within o)))
      → IsGroup used' (set ps page (set (get_or ps page []) within o))
  group-sound used used' ps page within o sound there counted = record {
    whole = pages-set PAGE_LEN ps page (set (get_or ps page []) within o) sound.whole (length-set (get_or ps page []) within o ∙ pages-long PAGE_LEN ps page sound.whole there);
    few = let long = length-set ps page (set (get_or ps page []) within o) in let few = sound.few in omega arith;
    counted = counted;
  }

pub none-when : {V : Type 0} (o : Option V) → false ≡ is_some o → o ≡ None
none-when None is = refl
none-when (Some x) is = absurd (false≢true is)

pub on-err : {T E P : Type 0} (r : Result T E) → P → OnErr r P
on-err (Ok x) p = tt
on-err (Err e) p = p

-- a place stands where its number says
pub stands-in : (place : ℕ) → StandsIn (place / PAGE_LEN) (place % PAGE_LEN) place
stands-in place = (sym (div-add-mod place PAGE_LEN), mod-lt place (omega arith))
