-- How the bytes of a file are compared.
use Rattle.std.proofs.Common.{◌≡◌, ◌≢◌, ◌<◌, ◌≤◌, ◌+◌, ◌-◌, ℕ, Bool, true, false, not, eqb, List, [], ◌∷◌, ◌++◌, Option, None, Some, length, min, take, drop, refl, sym, ap, ◌∙◌, arith, append_assoc, length-append}
use Rattle.std.proofs.lemmas.List.{length-drop, length-take, take-append-le, take-append-drop, take_all, take_at}
use Rattle.std.proofs.lemmas.Bool.{not-false}
use Rattle.std.proofs.lemmas.Bool.Decides.{Decides-eqb}
use Rattle.std.proofs.lemmas.Slice.Eq.{slice_eq-Decides}
use Rattle.std.specs.Cmp.Lexicographic.{pointwise}
use Rattle.std.specs.Io.KnownBytes.{Consumes, IsAtEnd}
use Rattle.ft_into.specs.Compares.{AreOthers, HasMore}

-- what follows the same front is the same
after_front : (front xs ys : List ℕ) → front ++ xs ≡ front ++ ys → xs ≡ ys
after_front [] xs ys h = h
after_front (x ∷ front) xs ys h = after_front front xs ys (ap (drop 1) h)

-- the file ends before the bytes that are left
pub others_end : (a b c : Option (List ℕ)) (bytes front rest : List ℕ) → bytes ≡ front ++ rest → 0 < length rest → Consumes a b front → Consumes b c [] → IsAtEnd c → AreOthers a bytes
others_end None b c bytes front rest is some h k end = tt
others_end (Some xs) None c bytes front rest is some h k end = absurd h
others_end (Some xs) (Some ys) None bytes front rest is some h k end = absurd k
others_end (Some xs) (Some ys) (Some zs) bytes front rest is some h k end = λ more all.
    let none : ys ≡ [] = k ∙ end in
    let left : length ys ≡ 0 = ap length none in
    let long : length front + length ys ≡ (length front + length rest) + length more =
    sym (length-append front ys) ∙ ap length (sym h ∙ all ∙ ap (λ (l : List ℕ). l ++ more) is) ∙ length-append (front ++ rest) more ∙ ap (λ (n : ℕ). n + length more) (length-append front rest) in
    omega (arith, long, left, some)

-- the next bytes of the file are others than those that are left
pub others_differ : (a b c : Option (List ℕ)) (bytes front rest piece : List ℕ) (n : ℕ) → bytes ≡ front ++ rest → n ≤ length rest → length piece ≡ n → piece ≢ take n rest
    → Consumes a b front → Consumes b c piece → AreOthers a bytes
others_differ None b c bytes front rest piece n is fits long other h k = tt
others_differ (Some xs) None c bytes front rest piece n is fits long other h k = absurd h
others_differ (Some xs) (Some ys) None bytes front rest piece n is fits long other h k = absurd k
others_differ (Some xs) (Some ys) (Some zs) bytes front rest piece n is fits long other h k = λ more all.
    let same : ys ≡ rest ++ more = after_front front ys (rest ++ more) (sym h ∙ all ∙ ap (λ (l : List ℕ). l ++ more) is ∙ append_assoc front rest more) in
    let whole : take n (piece ++ zs) ≡ piece = take_at piece zs n long in
    other (sym whole ∙ ap (take n) (sym k ∙ same) ∙ take-append-le n rest more fits)

-- one byte more was read
pub more_left : (a b : Option (List ℕ)) (piece : List ℕ) → 0 < length piece → Consumes a b piece → HasMore a
more_left None b piece some h = tt
more_left (Some xs) None piece some h = absurd h
more_left (Some xs) (Some ys) piece some h = λ none.
    let long : length piece + length ys ≡ 0 = sym (length-append piece ys) ∙ ap length (sym h ∙ none) in
    omega (arith, long, some)

-- nothing was read, and nothing is left
pub none_left : (a b : Option (List ℕ)) → Consumes a b [] → IsAtEnd b → IsAtEnd a
none_left None b h k = tt
none_left (Some xs) None h k = absurd h
none_left (Some xs) (Some ys) h k = h ∙ k

-- a test that found a difference, and one that found none
pub tested_others : (xs ys : List ℕ) (r : Bool) → r ≡ not (pointwise eqb xs ys) → r ≡ true → xs ≢ ys
tested_others xs ys r is holds same =
    let equal : pointwise eqb xs ys ≡ true = (slice_eq-Decides Decides-eqb xs ys (pointwise eqb xs ys) refl).1 same in
    let none : not true ≡ true = sym (is ∙ ap not equal) ∙ holds in
    cc

pub tested_same : (xs ys : List ℕ) (r : Bool) → r ≡ not (pointwise eqb xs ys) → r ≡ false → xs ≡ ys
tested_same xs ys r is fails = (slice_eq-Decides Decides-eqb xs ys (pointwise eqb xs ys) refl).0 (not-false (pointwise eqb xs ys) (sym is ∙ fails))

-- no more is read at once than what is left
pub within : (n m : ℕ) (piece rest room : List ℕ) → n ≤ length piece → length piece ≡ length (take m room) → m ≡ min (length rest) (length room) → n ≤ length rest
within n m piece rest room few long most = omega (arith, length-take m room)

further : (a b c : Option (List ℕ)) (front piece : List ℕ) → Consumes a b front → Consumes b c piece → Consumes a c (front ++ piece)
further None b c front piece h k = tt
further (Some xs) None c front piece h k = absurd h
further (Some xs) (Some ys) None front piece h k = absurd k
further (Some xs) (Some ys) (Some zs) front piece h k = h ∙ ap (λ (l : List ℕ). front ++ l) k ∙ sym (append_assoc front piece zs)

-- the bytes so far, and those that were read now
pub goes_further : (a b c : Option (List ℕ)) (bytes front rest piece : List ℕ) (n : ℕ) → bytes ≡ front ++ rest → piece ≡ take n rest → Consumes a b front → Consumes b c piece
    → (bytes ≡ (front ++ piece) ++ take (length rest - n) (drop n rest)) × Consumes a c (front ++ piece)
goes_further a b c bytes front rest piece n is same h k =
    let back : take (length rest - n) (drop n rest) ≡ drop n rest = take_all (length rest - n) (drop n rest) (omega (arith, length-drop n rest)) in
    let split : rest ≡ piece ++ drop n rest = sym (take-append-drop n rest) ∙ ap (λ (l : List ℕ). l ++ drop n rest) (sym same) in (
      is ∙ ap (λ (l : List ℕ). front ++ l) (split ∙ ap (λ (l : List ℕ). piece ++ l) (sym back)) ∙ sym (append_assoc front piece (take (length rest - n) (drop n rest))),
      further a b c front piece h k,
    )
