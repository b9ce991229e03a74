use Rattle.std.proofs.Common.{◌≡◌, ◌∙◌, ◌+◌, ◌-◌, ◌*◌, ◌/◌, length, ap, drop, arith}
use Rattle.std.proofs.lemmas.List.{take_rest}
use Rattle.ft_path.specs.Front.{front_of}
use Rattle.ft_path.specs.Hashed.{with_words}
use Rattle.ft_path.proofs.Mixing.{hashed_begins, next_word, mix_along}
use Rattle.ft_path.proofs.hash.of_text.Goals as goal

pub loop-word-init : goal.loop-word-init
loop-word-init c =
    let end = length c.args.bytes.now / 8 + 1 in
    let all : end - 0 ≡ end = omega arith in
    ap (λ n. with_words n c.mix-hash.result c.args.bytes.now) all
    ∙ ap (λ hash. with_words (length c.args.bytes.now / 8 + 1) hash c.args.bytes.now) c.mix-hash.ensures
    ∙ hashed_begins c.args.seed c.args.bytes.now

pub loop-word-preserved : goal.loop-word-preserved
loop-word-preserved c =
    let end = length c.args.bytes.now / 8 + 1 in
    ap (λ hash. with_words (end - (c.loop-word.word + 1)) hash (drop (8 * (c.loop-word.word + 1)) c.args.bytes.now))
    (mix_along c.mix-hash-in-loop-word.ensures (λ _. c.loop-word.hash) (c.front_of.ensures ∙ ap front_of (take_rest c.args.bytes.now (8 * c.loop-word.word))))
    ∙ next_word end c.loop-word.word c.loop-word.hash c.args.bytes.now c.loop-word-test.true
    ∙ c.loop-word.invariant
