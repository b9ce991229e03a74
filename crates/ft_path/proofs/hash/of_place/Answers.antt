use Rattle.std.proofs.Common.{◌∙◌}
use Rattle.ft_path.proofs.Mixing.{hashed_one, hashed_two, hashed_three, mix_along}
use Rattle.ft_path.proofs.hash.of_place.Goals as goal

pub returns-then-len-lt8 : goal.returns-then-len-lt8
returns-then-len-lt8 c =
    mix_along c.mix-hash.ensures (mix_along c.mix.ensures (λ _. c.args.seed) c.from.ensures) c.first_eight.ensures
    ∙ hashed_one _ _ _ c.requires c.if-len-lt8.true

pub returns-then-len-lt16 : goal.returns-then-len-lt16
returns-then-len-lt16 c =
    let first = mix_along c.mix-hash.ensures (mix_along c.mix.ensures (λ _. c.args.seed) c.from.ensures) c.first_eight.ensures in
    mix_along c.mix-hash-2.ensures first c.second_eight.ensures
    ∙ hashed_two _ _ _ c.requires c.if-len-lt8.false c.if-len-lt16.true

pub returns : goal.returns
returns c =
    let first = mix_along c.mix-hash.ensures (mix_along c.mix.ensures (λ _. c.args.seed) c.from.ensures) c.first_eight.ensures in
    mix_along c.mix-2.ensures (mix_along c.mix-hash-2.ensures first c.second_eight.ensures) c.last_six.ensures
    ∙ hashed_three _ _ _ c.requires c.if-len-lt16.false
