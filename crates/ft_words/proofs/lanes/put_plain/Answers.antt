use Rattle.std.proofs.Common.{◌≡◌, ◌∙◌, ◌+◌, ◌<◌, ◌==◌, ℕ, List, true, false, get_or, sym, subst, ap, arith}
use Rattle.std.proofs.lemmas.Bool.{false≢true}
use Rattle.std.proofs.lemmas.Simd.{get_or-chunk}
use Rattle.ft_words.proofs.Bytes.{free_take}
use Rattle.ft_words.proofs.SixteenBytes.{put_front, unmarked}
use Rattle.ft_words.proofs.lanes.put_plain.Goals as goal

pub returns-clause-plain : goal.returns-clause-plain
returns-clause-plain c = free_take 37 bytes c.first_bit.result (λ k below is. false≢true (sym (plain k below) ∙ is)) (omega (arith, c.first_bit.ensures.within))
  where
    bytes : List ℕ
    bytes = c.args.bytes.now

    plain : (k : ℕ) → k < c.first_bit.result → (get_or bytes k 0 == 37) ≡ false
    plain k below =
        let first : 0 + k ≡ k = omega arith in
        let lane = get_or-chunk 0 16 bytes k 0 (omega (arith, below, c.first_bit.ensures.within)) ∙ ap (λ n. get_or bytes n 0) first in
        unmarked _ c.percent_bits.result k (λ is. c.percent_bits.ensures k (omega (arith, below, c.first_bit.ensures.within)) (subst (λ b. (b == 37) ≡ true) (sym lane) is)) (c.first_bit.ensures.below k below)

pub returns-clause-put : goal.returns-clause-put
returns-clause-put c = put_front c.args.place.now c.args.bytes.now c.first_bit.result (omega arith) (omega (arith, c.requires)) c.first_bit.ensures.within
