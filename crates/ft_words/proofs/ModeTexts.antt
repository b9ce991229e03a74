-- What a format with four digits and zeros in front writes of a mode.
use Rattle.std.proofs.Common.{◌≡◌, ℕ, ◌-◌, ◌^◌, false, [], ◌++◌, length, replicate, append-nil, ap, ◌∙◌, arith}
use Rattle.std.specs.Fmt.{char_count, digits, format_spec, padded_integral}
use Rattle.ft_words.specs.Modes.{mode_text}

pub padded_mode : (mode : ℕ) → padded_integral (format_spec 32 0 4 4 (2 ^ 64 - 1)) false [] (digits 8 false mode) ≡ mode_text mode
unfolding padded_integral char_count
padded_mode mode =
    let text = digits 8 false mode in
    let zeros : 4 - length text - 0 - 0 ≡ 4 - length text = omega arith in
    ap (λ n. replicate n 48 ++ (text ++ [])) zeros ∙ ap (λ t. replicate (4 - length text) 48 ++ t) (append-nil text)
