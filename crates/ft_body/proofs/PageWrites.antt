-- A page that is written: what stands where, with zeros behind the bytes that are kept.
use Rattle.std.proofs.Common.{refl, ◌≡◌, ℕ, ◌+◌, ◌-◌, ◌<◌, ◌≤◌, List, [], ◌∷◌, length, take, get_or, arith, ap, sym, ◌∙◌, ⊎_elim}
use Rattle.std.specs.Prelude.{Result, Ok, Err, IfOk, OnOk}
use Prim.Native.Nat.{max}
use Rattle.std.proofs.lemmas.List.{places, get_or-take, get_or_past}
use Rattle.std.proofs.lemmas.Bool.{cases_lt}
use Rattle.ft_body.specs.Bytes.{padded, laid_over, written}
use Rattle.ft_body.specs.Paging.{IsWritten, IsPage, EndsWithNoZero}
use Rattle.ft_body.proofs.Writes.{written-some, laid_over-before, laid_over-behind, laid_over-there, length-laid_over, length-padded}

-- zeros behind a list change no byte
pub padded-at_any : (xs : List ℕ) (n k : ℕ) → get_or (padded xs n) k 0 ≡ get_or xs k 0
padded-at_any xs n k = ⊎_elim (λ (h : k < length xs). grind (arith, places))
    (λ (h : length xs ≤ k). ⊎_elim (λ (g : k < n). grind (arith, places)) (λ (g : n ≤ k). grind (arith, places)) (cases_lt k n))
    (cases_lt k (length xs))

-- a list that is written has the bytes there, and elsewhere what it had
written_some_at : (xs : List ℕ) (start : ℕ) (ys : List ℕ) → 0 < length ys → IsWritten (λ k. get_or xs k 0) (λ k. get_or (written xs start ys) k 0) start ys
written_some_at xs start ys some =
    let room : start ≤ length (padded xs start) = omega (arith, length-padded xs start) in
    rw (written-some xs start ys some) record {
      before = λ k h. laid_over-before (padded xs start) start ys k 0 h room ∙ padded-at_any xs start k;
      there = λ k h. laid_over-there (padded xs start) start ys (start + k) 0 (omega arith) (omega arith) room ∙ ap (λ j. get_or ys j 0) (let same : start + k - start ≡ k = omega arith in same);
      behind = λ k h. laid_over-behind (padded xs start) start ys k 0 h room ∙ padded-at_any xs start k;
    }

-- and where there is nothing to write, all that it had
pub written_at : (xs : List ℕ) (start : ℕ) (ys : List ℕ) → IsWritten (λ k. get_or xs k 0) (λ k. get_or (written xs start ys) k 0) start ys
written_at xs start [] = record { before = λ k h. refl; there = λ k h. absurd (omega arith); behind = λ k h. refl }
written_at xs start (y ∷ ys) = written_some_at xs start (y ∷ ys) (omega arith)

-- its length
pub length-written : (xs : List ℕ) (start : ℕ) (ys : List ℕ) → 0 < length ys → length (written xs start ys) ≡ max (start + length ys) (length xs)
length-written xs start ys some =
    let room : start ≤ length (padded xs start) = omega (arith, length-padded xs start) in
    rw (written-some xs start ys some) (omega (arith, length-laid_over (padded xs start) start ys room, length-padded xs start))

-- zeros that are left out behind a list change no byte
pub front-at : (xs ys : List ℕ) (n k : ℕ) → ys ≡ take n xs → ((k : ℕ) → n ≤ k → get_or xs k 0 ≡ 0) → get_or ys k 0 ≡ get_or xs k 0
front-at xs ys n k e zeros = ⊎_elim (λ (h : k < n). ap (λ zs. get_or zs k 0) e ∙ get_or-take n xs k 0 h)
    (λ (h : n ≤ k). ap (λ zs. get_or zs k 0) e ∙ (let short : length (take n xs) ≤ k = grind (arith, places) in get_or_past (take n xs) k 0 short) ∙ sym (zeros k h))
    (cases_lt k n)

-- what is written without its zeros at the end is written with them, where nothing stood there
pub written_with_zeros : (xs : List ℕ) (new : ℕ → ℕ) (start : ℕ) (ys bytes : List ℕ) → length xs ≤ start + length ys → length ys ≤ length bytes
    → ys ≡ take (length ys) bytes → ((k : ℕ) → length ys ≤ k → get_or bytes k 0 ≡ 0)
    → IsWritten (λ k. get_or xs k 0) new start ys → IsWritten (λ k. get_or xs k 0) new start bytes
written_with_zeros xs new start ys bytes ends fits e zeros w = record {
  before = w.before;
  there = λ k h. ⊎_elim (λ (g : k < length ys). w.there k g ∙ front-at bytes ys (length ys) k e zeros)
      (λ (g : length ys ≤ k). w.behind (start + k) (omega arith) ∙ get_or_past xs (start + k) 0 (omega arith) ∙ sym (zeros k g)) (cases_lt k (length ys));
  behind = λ k h. w.behind k (omega arith);
}

-- bytes that end a shorter list
pub written_shorter : (xs new : List ℕ) (start : ℕ) (ys bytes : List ℕ) → length xs ≤ start + length bytes
    → ys ≡ take (length ys) bytes → ((k : ℕ) → length ys ≤ k → get_or bytes k 0 ≡ 0)
    → ((k : ℕ) → k < start → get_or new k 0 ≡ get_or xs k 0) → ((k : ℕ) → start ≤ k → get_or new k 0 ≡ get_or ys (k - start) 0)
    → IsWritten (λ k. get_or xs k 0) (λ k. get_or new k 0) start bytes
written_shorter xs new start ys bytes ends e zeros before there = record {
  before = before;
  there = λ k h. there (start + k) (omega arith) ∙ ap (λ j. get_or ys j 0) (let same : start + k - start ≡ k = omega arith in same) ∙ front-at bytes ys (length ys) k e zeros;
  behind = λ k h. there k (omega arith) ∙ front-at bytes ys (length ys) (k - start) e zeros ∙ get_or_past bytes (k - start) 0 (omega arith) ∙ sym (get_or_past xs k 0 (omega arith));
}

-- a page that is written inside is a page
pub written-page_inside : (xs : List ℕ) (start : ℕ) (ys : List ℕ) → IsPage xs → start + length ys < length xs → IsPage (written xs start ys)
written-page_inside xs start [] page h = page
written-page_inside xs start (y ∷ ys) page h =
    let long : length (written xs start (y ∷ ys)) ≡ length xs = omega (arith, length-written xs start (y ∷ ys) (omega arith)) in
    let w = written_at xs start (y ∷ ys) in
    let fits : length xs ≤ 4096 = page.fits in record {
      fits = omega arith;
      no_end_zero = λ some e. page.no_end_zero (omega arith) (sym (w.behind (length xs - 1) (omega arith)) ∙ ap (λ n. get_or (written xs start (y ∷ ys)) (n - 1) 0) (sym long) ∙ e);
    }

-- and so is one that ends with the bytes
pub written-page_end : (xs : List ℕ) (start : ℕ) (ys : List ℕ) → IsPage xs → start + length ys ≤ 4096 → length xs ≤ start + length ys → EndsWithNoZero ys
    → IsPage (written xs start ys)
written-page_end xs start [] page fits ends last = page
written-page_end xs start (y ∷ ys) page fits ends last =
    let long : length (written xs start (y ∷ ys)) ≡ start + length (y ∷ ys) = omega (arith, length-written xs start (y ∷ ys) (omega arith)) in
    let w = written_at xs start (y ∷ ys) in record {
      fits = omega arith;
      no_end_zero = λ some e. last (omega arith) (sym (w.there (length (y ∷ ys) - 1) (omega arith))
          ∙ ap (λ n. get_or (written xs start (y ∷ ys)) n 0) (let same : start + (length (y ∷ ys) - 1) ≡ length (written xs start (y ∷ ys)) - 1 = omega arith in same) ∙ e);
    }

-- two facts of the value, where there is one
pub if_ok_both : {T E : Type 0} (P Q R : T → Type 0) (r : Result T E) → ((x : T) → P x → Q x → R x) → IfOk r P → IfOk r Q → IfOk r R
if_ok_both P Q R (Ok x) f p q = f x p q
if_ok_both P Q R (Err e) f p q = tt

pub on_ok_both : {T E P Q R : Type 0} (r : Result T E) → (P → Q → R) → OnOk r P → OnOk r Q → OnOk r R
on_ok_both {P = P} {Q = Q} {R = R} r f p q = if_ok_both (λ _. P) (λ _. Q) (λ _. R) r (λ _ x y. f x y) p q

-- bytes that are laid over others
pub laid_over_at : (xs : List ℕ) (start : ℕ) (ys : List ℕ) → start + length ys ≤ length xs → IsWritten (λ k. get_or xs k 0) (λ k. get_or (laid_over xs start ys) k 0) start ys
laid_over_at xs start ys fits =
    let room : start ≤ length xs = omega arith in record {
      before = λ k h. laid_over-before xs start ys k 0 h room;
      there = λ k h. laid_over-there xs start ys (start + k) 0 (omega arith) (omega arith) room ∙ ap (λ j. get_or ys j 0) (let same : start + k - start ≡ k = omega arith in same);
      behind = λ k h. laid_over-behind xs start ys k 0 h room;
    }
