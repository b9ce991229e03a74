use Rattle.std.proofs.Common.{arith}
use Rattle.ft_words.proofs.Bytes.{alone, free_take, free_text, not_alone}
use Rattle.ft_words.proofs.words.alone.Goals as goal

pub returns-in-None : goal.returns-in-None
returns-in-None c = alone c.args.text.now (free_text 32 c.args.text.now (λ j below. c.in-None.ensures j (omega arith) below))

pub returns-in-Some : goal.returns-in-Some
returns-in-Some c =
    let first = c.in-Some.ensures in
    not_alone c.args.text.now _ (free_take 32 c.args.text.now _ (λ j below. first.0.before j (omega arith) below) (omega (arith, first.0.high))) first.1 first.0.high
