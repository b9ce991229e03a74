use Rattle.std.proofs.Common.{rules}
use Rattle.std.proofs.lemmas.List.{take_rest}
use Rattle.ft_names.proofs.Wording.{words_of_last, words_of_one}
use Rattle.ft_names.proofs.numbering.split_last.Goals as goal

pub returns-in-Some : goal.returns-in-Some
returns-in-Some c = rw take_rest (words_of_last c.args.text.now c.in-Some.at (search rules) (search rules) (search rules))

pub returns-in-None : goal.returns-in-None
returns-in-None c = words_of_one c.args.text.now (search rules)
