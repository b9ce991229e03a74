use Rattle.std.proofs.Common.{◌≡◌, ◌∙◌, Some, ap, codes, rules}
use Rattle.std.specs.Prelude.{string_bytes}
use Rattle.clap.specs.Words.{found_of}
use Rattle.clap.proofs.WalkLemmas.{first_value-rows}
use Rattle.ft_command.proofs.choice.asked_after.Goals as goal

pub returns-in_ok-name-in-Some : goal.returns-in_ok-name-in-Some
returns-in_ok-name-in-Some c =
    let found = found_of c.args.found.now in
    let copied : string_bytes c.in_ok-name-in-Some.name ≡ c.in-Some.file.now = search rules in
    ap Some copied ∙ c.in-Some.ensures ∙ first_value-rows found (codes "after")

pub returns-in-None : goal.returns-in-None
returns-in-None c = c.in-None.ensures ∙ first_value-rows (found_of c.args.found.now) (codes "after")
