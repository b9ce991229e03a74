use Rattle.std.proofs.Common.{◌∙◌, codes, sym, rules}
use Rattle.std.specs.Str.Parse.{ParsesUnsigned, ExplainsUnsignedError, HasUnsignedDigitsIfOk}
use Rattle.clap.specs.Words.{found_of}
use Rattle.clap.proofs.WalkLemmas.{first_value-rows}
use Rattle.ft_command.proofs.Choosing.{number_read}
use Rattle.ft_command.proofs.choice.asked_retries.Goals as goal

pub returns-in-None : goal.returns-in-None
returns-in-None c = sym (first_value-rows (found_of c.args.found.now) (codes "retries")) ∙ sym c.in-None.ensures

pub returns-in_ok-get_one-in-Some : goal.returns-in_ok-get_one-in-Some
returns-in_ok-get_one-in-Some c =
    number_read (codes "retries") _ (λ bs r. ParsesUnsigned 64 10 bs r × ExplainsUnsignedError 10 bs r × HasUnsignedDigitsIfOk bs r) (found_of c.args.found.now) c.get_one.result c.in_ok-get_one-in-Some.field-0
    (λ u x g. g.0) c.get_one.ensures.none c.get_one.ensures.value (search rules)
