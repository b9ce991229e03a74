use Rattle.std.proofs.Common.{◌≡◌, ◌⊎◌, ◌==◌, ℕ, true, bit_or, get_or, inl, inr}
use Rattle.std.specs.Prelude.{nat_le}
use Rattle.std.specs.Int.{bit_at}
use Rattle.ft_words.proofs.SixteenBytes.{one_of_three, or_left, or_right}
use Rattle.ft_words.proofs.lanes.coded_bits.Goals as goal

pub returns : goal.returns
returns c k below is = either (one_of_three _ _ _ is)
  where
    low : ℕ
    low = c.low_bits.result

    percent : ℕ
    percent = c.percent_bits.result

    high : ℕ
    high = c.high_bits.result

    byte : ℕ
    byte = get_or c.args.lanes k 0

    either : (nat_le byte 32 ≡ true) ⊎ (((byte == 37) ≡ true) ⊎ (nat_le 127 byte ≡ true)) → bit_at (bit_or (bit_or low percent) high) k ≡ 1
    either (inl h) = or_left (bit_or low percent) high k (or_left low percent k (c.low_bits.ensures k below h))
    either (inr (inl h)) = or_left (bit_or low percent) high k (or_right low percent k (c.percent_bits.ensures k below h))
    either (inr (inr h)) = or_right (bit_or low percent) high k (c.high_bits.ensures k below h)
