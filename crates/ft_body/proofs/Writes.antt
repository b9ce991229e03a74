-- A write into a list that was padded to hold it, and what was overwritten put back.
use Rattle.std.proofs.Common.{refl, ◌≡◌, ℕ, ◌+◌, ◌-◌, ◌<◌, ◌≤◌, List, [], ◌∷◌, ◌++◌, length, take, drop, get_or, arith, rules, ap, sym, ◌∙◌, ⊎_elim, length-take-le}
use Rattle.std.specs.Prelude.{replicate}
use Prim.Native.Nat.{min, max}
use Rattle.std.proofs.lemmas.List.{places, same_lists, get_or-take}
use Rattle.std.proofs.lemmas.Bool.{cases_lt}
use Rattle.ft_body.specs.Bytes.{padded, laid_over, written}

-- padded far enough to hold the write, the list is written like the one that is padded to its start
laid_over-resized : (xs : List ℕ) (start : ℕ) (ys : List ℕ) (n : ℕ) → n ≡ max (start + length ys) (length xs)
    → laid_over (take n xs ++ replicate (n - length xs) 0) start ys ≡ laid_over (padded xs start) start ys
laid_over-resized xs start ys n e = same_lists _ _ (search (rules, places)) (λ k d h. grind (arith, places))

-- what is written where there is something to write
pub written-some : (xs : List ℕ) (start : ℕ) (ys : List ℕ) → 0 < length ys → written xs start ys ≡ laid_over (padded xs start) start ys
written-some xs start [] h = absurd (omega arith)
written-some xs start (y ∷ ys) h = refl

-- a list that was padded, and then had the bytes laid over it, is written
pub padded_then_laid_over : (xs wide after : List ℕ) (start : ℕ) (ys : List ℕ) (n size : ℕ) → 0 < length ys → size ≡ length xs → n ≡ max (start + length ys) size
    → wide ≡ take n xs ++ replicate (n - size) 0 → after ≡ laid_over wide start ys → after ≡ written xs start ys
padded_then_laid_over xs wide after start ys n size some is e pads lays =
    lays ∙ ap (λ zs. laid_over zs start ys) (pads ∙ ap (λ m. take n xs ++ replicate (n - m) 0) is)
    ∙ laid_over-resized xs start ys n (e ∙ ap (λ m. max (start + length ys) m) is) ∙ sym (written-some xs start ys some)

-- the elements before those that were laid over
pub laid_over-before : (xs : List ℕ) (start : ℕ) (ys : List ℕ) (k d : ℕ) → k < start → start ≤ length xs → get_or (laid_over xs start ys) k d ≡ get_or xs k d
laid_over-before xs start ys k d h l = grind (arith, places)

-- those behind them
pub laid_over-behind : (xs : List ℕ) (start : ℕ) (ys : List ℕ) (k d : ℕ) → start + length ys ≤ k → start ≤ length xs → get_or (laid_over xs start ys) k d ≡ get_or xs k d
laid_over-behind xs start ys k d h l = grind (arith, places)

-- and they themselves
pub laid_over-there : (xs : List ℕ) (start : ℕ) (ys : List ℕ) (k d : ℕ) → start ≤ k → k < start + length ys → start ≤ length xs → get_or (laid_over xs start ys) k d ≡ get_or ys (k - start) d
laid_over-there xs start ys k d g h l = grind (arith, places)

pub length-laid_over : (xs : List ℕ) (start : ℕ) (ys : List ℕ) → start ≤ length xs → length (laid_over xs start ys) ≡ max (start + length ys) (length xs)
length-laid_over xs start ys l = grind (arith, places)

pub length-padded : (xs : List ℕ) (n : ℕ) → length (padded xs n) ≡ max n (length xs)
length-padded xs n = grind (arith, places)

padded-at : (xs : List ℕ) (n k d : ℕ) → k < length xs → get_or (padded xs n) k d ≡ get_or xs k d
padded-at xs n k d h = grind (arith, places)

-- a part of a list, from one index up to another
part : List ℕ → ℕ → ℕ → List ℕ
part xs from end = take (end - from) (drop from xs)

part-at : (xs : List ℕ) (from end k d : ℕ) → from ≤ k → k < end → get_or (part xs from end) (k - from) d ≡ get_or xs k d
unfolding part
part-at xs from end k d h l = grind (arith, places)

length-part : (xs : List ℕ) (from end : ℕ) → end ≤ length xs → length (part xs from end) ≡ end - from
unfolding part
length-part xs from end h = grind (arith, places)

-- where a list agrees with another outside of a part, it is that other with the part laid over,
-- index by index
part_back-at : (xs after : List ℕ) (from end : ℕ) → from ≤ end → end ≤ length xs → length xs ≤ length after
    → ((k d : ℕ) → k < from → get_or after k d ≡ get_or xs k d) → ((k d : ℕ) → end ≤ k → k < length xs → get_or after k d ≡ get_or xs k d)
    → (k d : ℕ) → k < length xs → get_or (laid_over after from (part xs from end)) k d ≡ get_or xs k d
part_back-at xs after from end f e l before behind k d h =
    let long : length (part xs from end) ≡ end - from = length-part xs from end e in
    ⊎_elim
    (λ (below : k < from). laid_over-before after from (part xs from end) k d below (omega arith) ∙ before k d below)
    (λ (above : from ≤ k). ⊎_elim
    (λ (inside : k < end). laid_over-there after from (part xs from end) k d above (omega arith) (omega arith) ∙ part-at xs from end k d above inside)
    (λ (past : end ≤ k). laid_over-behind after from (part xs from end) k d (omega arith) (omega arith) ∙ behind k d past h)
    (cases_lt k end))
    (cases_lt k from)

-- and as a whole
part_back : (xs after : List ℕ) (from end : ℕ) → from ≤ end → end ≤ length xs → length xs ≤ length after
    → ((k d : ℕ) → k < from → get_or after k d ≡ get_or xs k d) → ((k d : ℕ) → end ≤ k → k < length xs → get_or after k d ≡ get_or xs k d)
    → xs ≡ take (length xs) (laid_over after from (part xs from end))
part_back xs after from end f e l before behind =
    let all : List ℕ = laid_over after from (part xs from end) in
    let long : length all ≡ max (from + length (part xs from end)) (length after) = length-laid_over after from (part xs from end) (omega arith) in
    same_lists _ _ (sym (length-take-le (length xs) all (omega arith)))
    (λ k d h. sym (get_or-take (length xs) all k d h ∙ part_back-at xs after from end f e l before behind k d h))

-- what stood there brings the list back
laid_over-back : (xs : List ℕ) (start : ℕ) (ys : List ℕ) (from end : ℕ) → from ≡ min start (length xs) → end ≡ min (start + length ys) (length xs)
    → xs ≡ take (length xs) (laid_over (laid_over (padded xs start) start ys) from (part xs from end))
laid_over-back xs start ys from end e f =
    let room : start ≤ length (padded xs start) = omega (arith, length-padded xs start) in
    part_back xs (laid_over (padded xs start) start ys) from end (omega arith) (omega arith) (omega (arith, length-laid_over (padded xs start) start ys room, length-padded xs start))
    (λ k d h. laid_over-before (padded xs start) start ys k d (omega arith) room ∙ padded-at xs start k d (omega arith))
    (λ k d h l. laid_over-behind (padded xs start) start ys k d (omega arith) room ∙ padded-at xs start k d l)

-- and there is room for it
laid_over-holds : (xs : List ℕ) (start : ℕ) (ys : List ℕ) (from end : ℕ) → from ≡ min start (length xs) → end ≡ min (start + length ys) (length xs)
    → from + length (part xs from end) ≤ length (laid_over (padded xs start) start ys)
laid_over-holds xs start ys from end e f =
    let room : start ≤ length (padded xs start) = omega (arith, length-padded xs start) in
    let long : length (part xs from end) ≡ end - from = length-part xs from end (omega arith) in
    omega (arith, length-laid_over (padded xs start) start ys room, length-padded xs start)

-- what was read at the place of a write takes the write back
pub written-back : (xs after lost : List ℕ) (start : ℕ) (ys : List ℕ) (from end size : ℕ) → 0 < length ys → size ≡ length xs
    → from ≡ min start size → end ≡ min (start + length ys) size → lost ≡ take (end - from) (drop from xs) → after ≡ written xs start ys
    → (from + length lost ≤ length after) × (xs ≡ take size (laid_over after from lost))
unfolding part
written-back xs after lost start ys from end size some is e f reads writes =
    let lays : after ≡ laid_over (padded xs start) start ys = writes ∙ written-some xs start ys some in
    let e' : from ≡ min start (length xs) = e ∙ ap (min start) is in
    let f' : end ≡ min (start + length ys) (length xs) = f ∙ ap (min (start + length ys)) is in (
      rw (lays, reads) (laid_over-holds xs start ys from end e' f'),
      rw (lays, reads, is) (laid_over-back xs start ys from end e' f'),
    )
