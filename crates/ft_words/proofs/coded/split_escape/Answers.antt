use Rattle.std.proofs.Common.{◌≡◌, ◌+◌, ◌*◌, get_or, arith, rules}
use Rattle.std.proofs.lemmas.List.{take_rest}
use Rattle.std.specs.Char.{digit_value}
use Rattle.percent_encoding.proofs.PercentLemmas.{KeepsFirst_from_no_escape, percent_decode_at_escape}
use Rattle.ft_words.proofs.coded.split_escape.Goals as goal

pub returns-in_default-clause-coded : goal.returns-in_default-clause-coded
returns-in_default-clause-coded c = KeepsFirst_from_no_escape _ (λ long percent high low. grind arith)

pub returns-in_err-high-clause-coded : goal.returns-in_err-high-clause-coded
returns-in_err-high-clause-coded c = rw c.from_residual.ensures (KeepsFirst_from_no_escape _ (λ long percent high low. search rules))

pub returns-in_err-low-clause-coded : goal.returns-in_err-low-clause-coded
returns-in_err-low-clause-coded c = rw c.from_residual-in_err-low.ensures (KeepsFirst_from_no_escape _ (λ long percent high low. search rules))

pub returns-clause-coded : goal.returns-clause-coded
returns-clause-coded c =
    let bytes = c.args.word.now in
    let value : 16 * c.in_ok-high.high + c.in_ok-low.low ≡ 16 * digit_value (get_or bytes 1 0) + digit_value (get_or bytes 2 0) = grind arith in
    rw (take_rest bytes 3, value) (percent_decode_at_escape bytes (omega arith) (search rules) (search rules) (search rules))
