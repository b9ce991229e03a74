use Rattle.std.proofs.Common.{◌∙◌, Option, None, Some, codes, ap, refl, sym, subst}
use Rattle.clap.specs.Words.{Text, found_of}
use Rattle.clap.proofs.TakesLemmas.{passed_up}
use Rattle.clap.proofs.WalkLemmas.{first_value-rows}
use Rattle.ft_command.specs.Places.{IsPlaceIn, place_of}
use Rattle.ft_command.proofs.place.asked_place.Goals as goal

pub returns-in-None-clause-ok : goal.returns-in-None-clause-ok
returns-in-None-clause-ok c =
    let none = c.in-None.ensures ∙ first_value-rows (found_of c.args.found.now) (codes "at") in
    subst (λ (text : Option Text). IsPlaceIn text None) none refl

pub returns-in_err-path-in-Some-clause-err : goal.returns-in_err-path-in-Some-clause-err
returns-in_err-path-in-Some-clause-err c =
    let there = c.in-Some.ensures ∙ first_value-rows (found_of c.args.found.now) (codes "at") in
    let read = ap place_of (sym c.as_bytes.ensures.value) in
    passed_up c.from_residual.result c.in_err-path-in-Some.field-0.0 _ c.from_residual.ensures.1
    (λ no. (c.in-Some.word.now, sym there, read ∙ c.in_err-path-in-Some.ensures.err no))

pub returns-in_ok-path-in-Some-clause-ok : goal.returns-in_ok-path-in-Some-clause-ok
returns-in_ok-path-in-Some-clause-ok c =
    let there = c.in-Some.ensures ∙ first_value-rows (found_of c.args.found.now) (codes "at") in
    let read = ap place_of (sym c.as_bytes.ensures.value) in
    subst (λ (text : Option Text). IsPlaceIn text (Some c.in_ok-path-in-Some.path)) there
    (c.in_ok-path-in-Some.path, refl, read ∙ c.in_ok-path-in-Some.ensures.ok)
