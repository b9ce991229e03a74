use Rattle.std.proofs.Common.{◌≡◌, ◌∙◌, ◌+◌, ◌<◌, ℕ, List, true, false, get_or, sym, subst, ap, arith}
use Rattle.std.proofs.lemmas.Simd.{get_or-chunk}
use Rattle.ft_words.specs.Texts.{is_coded}
use Rattle.ft_words.proofs.PercentCoding.{coded_printed}
use Rattle.ft_words.proofs.SixteenBytes.{put_front, unmarked}
use Rattle.ft_words.proofs.lanes.put_printed.Goals as goal

pub returns-clause-printed : goal.returns-clause-printed
returns-clause-printed c = coded_printed bytes c.first_bit.result printed
  where
    bytes : List ℕ
    bytes = c.args.bytes.now

    printed : (k : ℕ) → k < c.first_bit.result → is_coded (get_or bytes k 0) ≡ false
    printed k below =
        let first : 0 + k ≡ k = omega arith in
        let lane = get_or-chunk 0 16 bytes k 0 (omega (arith, below, c.first_bit.ensures.within)) ∙ ap (λ n. get_or bytes n 0) first in
        unmarked _ c.coded_bits.result k (λ is. c.coded_bits.ensures k (omega (arith, below, c.first_bit.ensures.within)) (subst (λ b. is_coded b ≡ true) (sym lane) is)) (c.first_bit.ensures.below k below)

pub returns-clause-put : goal.returns-clause-put
returns-clause-put c = put_front c.args.place.now c.args.bytes.now c.first_bit.result (omega arith) (omega (arith, c.requires)) c.first_bit.ensures.within
