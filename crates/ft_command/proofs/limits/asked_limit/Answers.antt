use Rattle.std.proofs.Common.{◌∙◌, Option, None, Some, refl, sym, ap, subst}
use Rattle.clap.specs.Words.{Text, found_of}
use Rattle.clap.specs.Matches.{first_value}
use Rattle.clap.proofs.WalkLemmas.{first_value-rows}
use Rattle.ft_command.specs.Limits.{IsAskedBy, flag_name}
use Rattle.ft_command.proofs.limits.asked_limit.Goals as goal

pub returns-in-None-clause-ok : goal.returns-in-None-clause-ok
returns-in-None-clause-ok c =
    let found = found_of c.args.found.now in
    let none = c.in-None.ensures ∙ ap (first_value found) c.name.ensures ∙ first_value-rows found (flag_name c.args.flag) in
    subst (λ (text : Option Text). IsAskedBy c.args.flag text None) none refl

pub returns-in-None-limit_of-clause-err : goal.returns-in-None-limit_of-clause-err
returns-in-None-limit_of-clause-err c =
    let found = found_of c.args.found.now in
    let there = c.in-Some.ensures ∙ ap (first_value found) c.name.ensures ∙ first_value-rows found (flag_name c.args.flag) in
    (refl, (c.in-Some.value.now, sym there, sym c.in-None-limit_of.ensures))

pub returns-in-Some-limit_of-clause-ok : goal.returns-in-Some-limit_of-clause-ok
returns-in-Some-limit_of-clause-ok c =
    let found = found_of c.args.found.now in
    let there = c.in-Some.ensures ∙ ap (first_value found) c.name.ensures ∙ first_value-rows found (flag_name c.args.flag) in
    subst (λ (text : Option Text). IsAskedBy c.args.flag text (Some c.in-Some-limit_of.limit)) there (c.in-Some-limit_of.limit, refl, sym c.in-Some-limit_of.ensures)
