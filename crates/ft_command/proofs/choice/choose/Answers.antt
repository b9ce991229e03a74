use Rattle.std.proofs.Common.{◌≡◌, true, [], map, subst}
use Rattle.clap.specs.Words.{App, HasKind, HasMatchesOf, fault_of, is_simple_and_free}
use Rattle.ft_command.proofs.Choosing.{is_free, choice_of_error, choice_of_matches}
use Rattle.ft_command.proofs.choice.choose.Goals as goal

pub returns-in-Ok-try_get_matches_from : goal.returns-in-Ok-try_get_matches_from
returns-in-Ok-try_get_matches_from g c =
    let words = map g.S.AsStr.text c.args.words.now in
    choice_of_matches words c.in-Ok-try_get_matches_from.matches c.choice_of.result
    (subst (λ (a : App). is_simple_and_free a ≡ true → fault_of a words ≡ []) c.in-Ok.ensures c.in-Ok-try_get_matches_from.ensures.kinds is_free)
    (subst (λ (a : App). HasMatchesOf a words c.in-Ok-try_get_matches_from.matches) c.in-Ok.ensures c.in-Ok-try_get_matches_from.ensures.matches)
    c.choice_of.ensures

pub returns-in-Err : goal.returns-in-Err
returns-in-Err g c =
    let words = map g.S.AsStr.text c.args.words.now in
    choice_of_error words _ c.choice_at.result (subst (λ (a : App). is_simple_and_free a ≡ true → HasKind (fault_of a words) c.in-Err.error) c.in-Ok.ensures c.in-Err.ensures.kinds is_free) c.choice_at.ensures
