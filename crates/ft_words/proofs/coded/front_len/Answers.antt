use Rattle.std.proofs.Common.{arith, length}
use Rattle.ft_words.proofs.Bytes.{free_take}
use Rattle.ft_words.proofs.coded.front_len.Goals as goal

pub returns-in-Some-clause-free : goal.returns-in-Some-clause-free
returns-in-Some-clause-free c =
    let first = c.in-Some.ensures in
    free_take 37 c.args.word.now _ (λ j below. first.0.before j (omega arith) below) (omega (arith, first.0.high))

pub returns-in-None-clause-free : goal.returns-in-None-clause-free
returns-in-None-clause-free c = free_take 37 c.args.word.now (length c.args.word.now) (λ j below. c.in-None.ensures j (omega arith) below) (omega arith)
