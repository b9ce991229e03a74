-- The result of `mix`.
use Rattle.std.specs.Prelude.{ℕ, ◌-◌, ◌*◌, ◌/◌, ◌^◌, bit_and, bit_xor}
use Rattle.ft_index.specs.declared.TheConstants.{MULTIPLIER}

-- the two halves of 128 bits, joined by xor
unfoldable pub folded : ℕ → ℕ
folded product = bit_xor (bit_and product (2 ^ 64 - 1)) (product / 2 ^ 64)

-- the hash of a word under a seed
unfoldable pub mix : ℕ → ℕ → ℕ
mix seed word = folded (bit_xor seed word * MULTIPLIER)
