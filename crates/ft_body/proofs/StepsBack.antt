-- Steps that change the blocks, and how what they destroyed brings the blocks from before back.
use Rattle.std.proofs.Common.{refl, suc, zero, ◌≡◌, ℕ, ◌+◌, ◌-◌, ◌<◌, ◌≤◌, List, [], ◌∷◌, ◌++◌, length, take, drop, get_or, arith, ap, sym, ◌∙◌, subst, length-append, length-take-le, length-drop}
use Rattle.std.specs.List.{insert, remove}
use Rattle.std.proofs.Math.ListN.{set}
use Rattle.std.proofs.lemmas.List.{places, take-append-drop, take_all, drop_at, take_at, drop_more, append_assoc, append-nil, drop-drop, length-set, get_or-set_same}
use Rattle.ft_body.specs.declared.blocks.Placed.{Placed}
use Rattle.ft_body.specs.declared.blocks.LostBlocks.{LostBlocks}
use Rattle.ft_body.specs.declared.blocks.LostBlocks.TheVariants.{Changed}
use Rattle.ft_body.specs.Bytes.{BodyChange}
use Rattle.ft_body.specs.Blocks.{no_block, placed_at, FitsBack, step_back, Undoes, StillUndoes}

-- one more step
pub undoes_more : (steps : List LostBlocks) (lost : LostBlocks) (now was before : List Placed) → Undoes steps was before → FitsBack lost now → was ≡ step_back lost now
    → Undoes (steps ++ lost ∷ []) now before
undoes_more [] lost now was before u fits e = (now, refl, fits, u ∙ e)
undoes_more (step ∷ more) lost now was before u fits e = (u.0, undoes_more more lost now was u.0 u.1 fits e, u.2, u.3)

pub still_more : (steps more : List LostBlocks) (lost : LostBlocks) (now was : List Placed) → more ≡ steps ++ lost ∷ [] → FitsBack lost now → was ≡ step_back lost now
    → StillUndoes steps more was now
still_more steps more lost now was is fits e before u = rw is (undoes_more steps lost now was before u fits e)

-- and one is put back
pub undoes_less : (steps : List LostBlocks) (lost : LostBlocks) (now before : List Placed) → Undoes (steps ++ lost ∷ []) now before
    → FitsBack lost now × Undoes steps (step_back lost now) before
undoes_less [] lost now before u = (subst (λ bs. FitsBack lost bs) u.1 u.2, u.3 ∙ ap (step_back lost) u.1)
undoes_less (step ∷ more) lost now before u =
    let rest = undoes_less more lost now u.0 u.1 in (rest.0, (u.0, rest.1, u.2, u.3))

-- a block that was added and taken away
pub remove_insert : {X : Type 0} (xs : List X) (i : ℕ) (x : X) → i ≤ length xs → remove (insert xs i x) i ≡ xs
remove_insert xs zero x h = refl
remove_insert [] (suc i) x h = absurd (omega arith)
remove_insert (y ∷ ys) (suc i) x h = ap (λ zs. y ∷ zs) (remove_insert ys i x (omega arith))

-- a block that was changed and put back
pub set_back : {X : Type 0} (xs : List X) (i : ℕ) (x y d : X) → i < length xs → y ≡ get_or xs i d → xs ≡ set (set xs i x) i y
set_back [] i x y d h e = absurd (omega arith)
set_back (z ∷ zs) zero x y d h e = λ k. sym e k ∷ zs
set_back (z ∷ zs) (suc i) x y d h e = ap (λ ws. z ∷ ws) (set_back zs i x y d (omega arith) e)

pub changed_back : (was now : List Placed) (i : ℕ) (old : Placed) (block : List ℕ) (undo : BodyChange) → i < length was → old ≡ placed_at was i
    → now ≡ set was i record { at = old.at; block = block } → undo ≡ record { before = old.block; after = block }
    → FitsBack (Changed i undo) now × (was ≡ step_back (Changed i undo) now)
changed_back was now i old block undo h found is e =
    let new : Placed = record { at = old.at; block = block } in
    let size : length (set was i new) ≡ length was = length-set was i new in
    let there : placed_at now i ≡ new = ap (λ bs. placed_at bs i) is ∙ get_or-set_same was i new no_block h in
    let back : record { at = (placed_at now i).at; block = undo.before } ≡ old = λ k. record { at = (there k).at; block = (e k).before } in (
      (omega (arith, ap length is), ap (λ p. p.block) there ∙ sym (ap (λ u. u.after) e)),
      set_back was i new record { at = (placed_at now i).at; block = undo.before } no_block h (back ∙ found)
          ∙ ap (λ bs. set bs i record { at = (placed_at now i).at; block = undo.before }) (sym is),
    )

-- blocks that were cut off and put back
pub tail_back : {X : Type 0} (was front now others : List X) (kept : ℕ) → kept ≤ length was → length front ≡ kept → now ≡ take kept was ++ drop kept front
    → others ≡ take kept front ++ drop kept was → (now ≡ take kept was) × (kept ≤ length now) × (kept ≤ length others) × (was ≡ take kept now ++ drop kept others)
tail_back was front now others kept h long is are =
    let none : drop kept front ≡ [] = grind (arith, places) in
    let all : take kept front ≡ front = take_all kept front (omega arith) in
    let new : now ≡ take kept was = is ∙ ap (λ zs. take kept was ++ zs) none ∙ append-nil (take kept was) in
    let old : others ≡ front ++ drop kept was = are ∙ ap (λ zs. zs ++ drop kept was) all in
    let size : length (take kept was) ≡ kept = length-take-le kept was h in
    let front_of : take kept now ≡ take kept was = ap (take kept) new ∙ take_all kept (take kept was) (omega arith) in
    let back_of : drop kept others ≡ drop kept was = ap (drop kept) old ∙ drop_at front (drop kept was) kept long in (
      new,
      omega (arith, ap length new),
      omega (arith, ap length old, length-append front (drop kept was)),
      sym (ap (λ zs. zs ++ drop kept others) front_of ∙ ap (λ zs. take kept was ++ zs) back_of ∙ take-append-drop kept was),
    )

-- a block that was moved behind the others and put back
pub last_back : {X : Type 0} (was moved : List X) (i : ℕ) (d : X) → i < length was → moved ≡ remove was i ++ get_or was i d ∷ []
    → (i < length moved) × (was ≡ take i moved ++ drop (length moved - 1) moved ++ take (length moved - 1 - i) (drop i moved))
last_back {X} was moved i d h is =
    let a : List X = take i was in
    let b : List X = drop (i + 1) was in
    let x : List X = get_or was i d ∷ [] in
    let whole : moved ≡ (a ++ b) ++ x = is ∙ ap (λ n. (a ++ drop n was) ++ x) (let more : suc i ≡ i + 1 = omega arith in more) in
    let apart : moved ≡ a ++ (b ++ x) = whole ∙ append_assoc a b x in
    let front : length a ≡ i = length-take-le i was (omega arith) in
    let size : length moved ≡ i + length b + 1 = omega (arith, ap length apart, length-append a (b ++ x), length-append b x, front) in
    let first : take i moved ≡ a = ap (take i) apart ∙ take_at a (b ++ x) i front in
    let last : drop (length moved - 1) moved ≡ x = ap (drop (length moved - 1)) whole ∙ drop_at (a ++ b) x (length moved - 1) (omega (arith, length-append a b)) in
    let middle : take (length moved - 1 - i) (drop i moved) ≡ b =
    ap (take (length moved - 1 - i)) (ap (drop i) apart ∙ drop_at a (b ++ x) i front) ∙ take_at b x (length moved - 1 - i) (omega arith) in (
      omega arith,
      sym (ap (λ zs. zs ++ drop (length moved - 1) moved ++ take (length moved - 1 - i) (drop i moved)) first
          ∙ ap (λ zs. a ++ zs ++ take (length moved - 1 - i) (drop i moved)) last ∙ ap (λ zs. a ++ x ++ zs) middle ∙ append_assoc a x b
          ∙ ap (λ zs. a ++ zs) (sym (drop_more was i d h)) ∙ take-append-drop i was),
    )

-- and the others without it
pub last_off : {X : Type 0} (was moved new : List X) (i n : ℕ) (d : X) → i < length was → moved ≡ remove was i ++ get_or was i d ∷ [] → n ≡ length was → new ≡ take (n - 1) moved → new ≡ remove was i
last_off was moved new i n d h is size e =
    let long : length (remove was i) ≡ n - 1 = grind (arith, places) in
    e ∙ ap (take (n - 1)) is ∙ take_at (remove was i) (get_or was i d ∷ []) (n - 1) long

-- the last moved to an index
pub last_moved : {X : Type 0} (xs ys : List X) (i : ℕ) → i < length xs
    → ys ≡ drop (length (take (length xs - i) (drop i xs)) - 1) (take (length xs - i) (drop i xs)) ++ take (length (take (length xs - i) (drop i xs)) - 1) (take (length xs - i) (drop i xs))
    → take i xs ++ ys ≡ take i xs ++ drop (length xs - 1) xs ++ take (length xs - 1 - i) (drop i xs)
last_moved {X} xs ys i h is =
    let rest : List X = drop i xs in
    let size : length rest ≡ length xs - i = length-drop i xs in
    let whole : take (length xs - i) rest ≡ rest = take_all (length xs - i) rest (omega arith) in
    let turned : ys ≡ drop (length rest - 1) rest ++ take (length rest - 1) rest = is ∙ ap (λ zs. drop (length zs - 1) zs ++ take (length zs - 1) zs) whole in
    let last : drop (length rest - 1) rest ≡ drop (length xs - 1) xs =
    drop-drop (length rest - 1) i xs ∙ ap (λ n. drop n xs) (let same : i + (length rest - 1) ≡ length xs - 1 = omega arith in same) in
    let others : take (length rest - 1) rest ≡ take (length xs - 1 - i) rest = ap (λ n. take n rest) (let same : length rest - 1 ≡ length xs - 1 - i = omega arith in same) in
    ap (λ zs. take i xs ++ zs) (turned ∙ ap (λ zs. zs ++ take (length rest - 1) rest) last ∙ ap (λ zs. drop (length xs - 1) xs ++ zs) others)
    ∙ sym (append_assoc (take i xs) (drop (length xs - 1) xs) (take (length xs - 1 - i) rest))
