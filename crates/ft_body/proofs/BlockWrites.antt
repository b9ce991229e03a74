-- A block that is written and cut: what stands where, with zeros behind the bytes that are kept.
use Rattle.std.proofs.Common.{refl, ◌≡◌, ℕ, ◌+◌, ◌-◌, ◌<◌, ◌≤◌, List, [], ◌∷◌, length, take, get_or, arith, ap, sym, ◌∙◌, ⊎_elim}
use Rattle.std.proofs.lemmas.List.{get_or_past}
use Rattle.std.proofs.lemmas.Bool.{cases_lt}
use Rattle.ft_body.specs.Bytes.{written, resized}
use Rattle.ft_body.specs.Blocks.{IsBlock}
use Rattle.ft_body.specs.Paging.{IsWritten, IsFront, IsFrontEnd, EndsWithNoZero}
use Rattle.ft_body.proofs.PageWrites.{written_at, length-written, front-at}
use Rattle.ft_body.proofs.Filled.{length-resized, resized-before, resized-behind}

-- a block that is written inside is a block
pub block_inside : (xs : List ℕ) (start : ℕ) (ys : List ℕ) → IsBlock xs → start + length ys < length xs → IsBlock (written xs start ys)
block_inside xs start [] block h = block
block_inside xs start (y ∷ ys) block h =
    let long : length (written xs start (y ∷ ys)) ≡ length xs = omega (arith, length-written xs start (y ∷ ys) (omega arith)) in
    let w = written_at xs start (y ∷ ys) in
    let fits : length xs ≤ 2097152 = block.fits in record {
      fits = omega arith;
      some = omega arith;
      no_end_zero = λ some e. block.no_end_zero (omega arith) (sym (w.behind (length xs - 1) (omega arith)) ∙ ap (λ n. get_or (written xs start (y ∷ ys)) (n - 1) 0) (sym long) ∙ e);
    }

-- and so is one that ends with the bytes, also where there was none
pub block_end : (xs : List ℕ) (start : ℕ) (ys : List ℕ) → 0 < length ys → start + length ys ≤ 2097152 → length xs ≤ start + length ys → EndsWithNoZero ys
    → IsBlock (written xs start ys)
block_end xs start ys some fits ends last =
    let long : length (written xs start ys) ≡ start + length ys = omega (arith, length-written xs start ys some) in
    let w = written_at xs start ys in record {
      fits = omega arith;
      some = omega arith;
      no_end_zero = λ more e. last some (sym (w.there (length ys - 1) (omega arith))
          ∙ ap (λ n. get_or (written xs start ys) n 0) (let same : start + (length ys - 1) ≡ length (written xs start ys) - 1 = omega arith in same) ∙ e);
    }

pub block_at_end : (xs : List ℕ) (start : ℕ) (ys : List ℕ) → IsBlock xs → start + length ys ≤ 2097152 → length xs ≤ start + length ys → EndsWithNoZero ys → IsBlock (written xs start ys)
block_at_end xs start [] block fits ends last = block
block_at_end xs start (y ∷ ys) block fits ends last = block_end xs start (y ∷ ys) (omega arith) fits ends last

-- bytes that were written without the zeros at their end, and what stood there cut off
pub written_then_cut : (xs bytes ys : List ℕ) (mid new : ℕ → ℕ) (start : ℕ) → length xs ≤ start + length bytes → length ys ≤ length bytes → ys ≡ take (length ys) bytes
    → ((k : ℕ) → length ys ≤ k → get_or bytes k 0 ≡ 0) → IsWritten (λ k. get_or xs k 0) mid start ys → IsFront mid new (start + length ys)
    → IsWritten (λ k. get_or xs k 0) new start bytes
written_then_cut xs bytes ys mid new start ends fits e zeros w front = record {
  before = λ k h. front.before k (omega arith) ∙ w.before k h;
  there = λ k h. ⊎_elim
      (λ (g : k < length ys). front.before (start + k) (omega arith) ∙ w.there k g ∙ front-at bytes ys (length ys) k e zeros)
      (λ (g : length ys ≤ k). front.zeros (start + k) (omega arith) ∙ sym (zeros k g)) (cases_lt k (length ys));
  behind = λ k h. front.zeros k (omega arith) ∙ sym (get_or_past xs k 0 (omega arith));
}

-- a block that is cut to where its front ends
end_within : (xs : List ℕ) (size end : ℕ) → IsFrontEnd (λ k. get_or xs k 0) size end → end ≤ length xs
end_within xs size end is = ⊎_elim (λ (h : length xs < end). absurd (is.last (omega arith) (get_or_past xs (end - 1) 0 (omega arith)))) (λ (h : end ≤ length xs). h) (cases_lt (length xs) end)

pub cut_block : (xs : List ℕ) (size end : ℕ) → IsBlock xs → IsFrontEnd (λ k. get_or xs k 0) size end → 0 < end → (end ≤ 2097152) × IsBlock (resized xs end)
cut_block xs size end block is some =
    let within : end ≤ length xs = end_within xs size end is in
    let fits : length xs ≤ 2097152 = block.fits in
    let long : length (resized xs end) ≡ end = length-resized xs end in (
      omega arith,
      record {
        fits = omega arith;
        some = omega arith;
        no_end_zero = λ more e. is.last some (sym (resized-before xs end (end - 1) (omega arith)) ∙ ap (λ n. get_or (resized xs end) (n - 1) 0) (sym long) ∙ e);
      },
    )

pub cut_block_front : (xs : List ℕ) (size end : ℕ) → IsFrontEnd (λ k. get_or xs k 0) size end → IsFront (λ k. get_or xs k 0) (λ k. get_or (resized xs end) k 0) size
cut_block_front xs size end is =
    let within : end ≤ size = is.within in record {
      before = λ k h. ⊎_elim (λ (g : k < end). resized-before xs end k g) (λ (g : end ≤ k). resized-behind xs end k g ∙ sym (is.zeros k g h)) (cases_lt k end);
      zeros = λ k h. resized-behind xs end k (omega arith);
    }

-- where nothing is kept of it
pub cut_all_front : (xs : List ℕ) (size : ℕ) → IsFrontEnd (λ k. get_or xs k 0) size 0 → IsFront (λ k. get_or xs k 0) (λ k. get_or [] k 0) size
cut_all_front xs size is = record { before = λ k h. sym (is.zeros k (omega arith) h); zeros = λ k h. refl }

-- and where all of it is
pub cut_none_front : (xs : List ℕ) (size : ℕ) → IsFrontEnd (λ k. get_or xs k 0) size (length xs) → IsFront (λ k. get_or xs k 0) (λ k. get_or xs k 0) size
cut_none_front xs size is =
    let within : length xs ≤ size = is.within in record { before = λ k h. refl; zeros = λ k h. get_or_past xs k 0 (omega arith) }

-- zeros that are written where nothing is
pub written_zeros : (start : ℕ) (bytes : List ℕ) → ((k : ℕ) → get_or bytes k 0 ≡ 0) → IsWritten (λ k. get_or [] k 0) (λ k. get_or [] k 0) start bytes
written_zeros start bytes zeros = record { before = λ k h. refl; there = λ k h. sym (zeros k); behind = λ k h. refl }
