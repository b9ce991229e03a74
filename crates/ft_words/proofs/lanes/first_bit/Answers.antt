use Rattle.std.proofs.Common.{bit_or, arith, w64}
use Rattle.std.proofs.lemmas.Nat.{or_lt}
use Rattle.std.proofs.lemmas.Nat.Bits.{bit_at-trailing_zeros, bit_at-pow_same}
use Rattle.ft_words.proofs.SixteenBytes.{lowest_within, none_below, or_right, some_bit}
use Rattle.ft_words.proofs.lanes.first_bit.Goals as goal

pub returns-clause-within : goal.returns-clause-within
returns-clause-within c =
    let m = bit_or c.args.bits 65536 in
    let set = or_right c.args.bits 65536 16 (bit_at-pow_same 16) in
    let lowest = bit_at-trailing_zeros w64 m (some_bit m 16 set) (or_lt 64 c.args.bits 65536 c.ranges.bits.fits (omega arith)) in
    lowest_within m _ 16 lowest.2 set

pub returns-clause-below : goal.returns-clause-below
returns-clause-below c k below =
    let m = bit_or c.args.bits 65536 in
    let set = or_right c.args.bits 65536 16 (bit_at-pow_same 16) in
    let lowest = bit_at-trailing_zeros w64 m (some_bit m 16 set) (or_lt 64 c.args.bits 65536 c.ranges.bits.fits (omega arith)) in
    none_below c.args.bits 65536 k (lowest.2 k below)
