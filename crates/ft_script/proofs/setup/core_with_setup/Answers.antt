use Rattle.std.proofs.Common.{List, ℕ, Option, Bor, inr, sym, subst}
use Rattle.std.proofs.lemmas.Result.{err_from_is_err_and}
use Rattle.std.specs.Option.{option_copied}
use Rattle.ft_core.specs.Limits.{of_history, of_tree}
use Rattle.ft_core.specs.States.{State, first_base, base_now}
use Rattle.ft_words.specs.Spelling.{lines_of}
use Rattle.ft_script.specs.Setup.{Begins, IsPlayedFirst, StopsBegin, StopsFirst}
use Rattle.ft_script.proofs.SetupFresh.{at_its_base, none_after, none_is_live_at, stops_before}
use Rattle.ft_script.proofs.setup.core_with_setup.Goals as goal

pub returns-in-None-clause-none_live : goal.returns-in-None-clause-none_live
returns-in-None-clause-none_live g c = none_is_live_at c.in_ok-core.core.state c.args.rule (of_history c.args.limits) (first_base (of_tree c.args.limits)) c.in_ok-core.ensures.state

pub returns-in_ok-play_setup-in-Some-clause-state : goal.returns-in_ok-play_setup-in-Some-clause-state
returns-in_ok-play_setup-in-Some-clause-state g c =
    let tells = g.F.DiskFiles.tells c.args.files.now in
    let new = c.play_setup.new.core.state in
    let played = subst (λ (s : State). IsPlayedFirst tells s (lines_of c.in-Some.text.now) new) c.in_ok-core.ensures.state c.in_ok-play_setup-in-Some.ensures.ok in
    subst (λ (script : Option (Bor (List ℕ))). Begins tells c.args.rule c.args.limits (option_copied script) new) (sym c.in-Some.is) played

pub returns-in_ok-play_setup-in-Some-clause-none_live : goal.returns-in_ok-play_setup-in-Some-clause-none_live
returns-in_ok-play_setup-in-Some-clause-none_live g c =
    let tells = g.F.DiskFiles.tells c.args.files.now in
    none_after tells c.in_ok-core.core.state (lines_of c.in-Some.text.now) c.play_setup.new.core.state c.in_ok-play_setup-in-Some.ensures.ok

pub returns-in_err-play_setup-in-Some-clause-fault : goal.returns-in_err-play_setup-in-Some-clause-fault
returns-in_err-play_setup-in-Some-clause-fault g c =
    let tells = g.F.DiskFiles.tells c.args.files.now in
    let fault = c.in_err-play_setup-in-Some.field-0.0 in
    let new = c.play_setup.new.core.state in
    let stopped = subst (λ (s : State). StopsFirst tells fault s (lines_of c.in-Some.text.now) new) c.in_ok-core.ensures.state c.in_err-play_setup-in-Some.ensures.fault in
    let begun = subst (λ (script : Option (Bor (List ℕ))). StopsBegin tells fault c.args.rule c.args.limits (option_copied script)) (sym c.in-Some.is) (inr (new, stopped)) in
    let p = err_from_is_err_and c.from_residual-in_err-play_setup-in-Some.result c.from_residual-in_err-play_setup-in-Some.ensures.1 in
    rw (p.1, p.2) begun

pub returns-in-None-clause-base : goal.returns-in-None-clause-base
returns-in-None-clause-base g c = at_its_base c.in_ok-core.core.state c.args.rule (of_history c.args.limits) (first_base (of_tree c.args.limits)) c.in_ok-core.ensures.state

pub returns-in_ok-play_setup-in-Some-clause-base : goal.returns-in_ok-play_setup-in-Some-clause-base
returns-in_ok-play_setup-in-Some-clause-base g c =
    let ok = c.in_ok-play_setup-in-Some.ensures.ok in
    let played : State = ok.0.0 in
    at_its_base c.play_setup.new.core.state played.rule played.limits (base_now played) ok.3

pub returns-in_err-core-clause-fault : goal.returns-in_err-core-clause-fault
returns-in_err-core-clause-fault g c =
    let tells = g.F.DiskFiles.tells c.args.files.now in
    let p = err_from_is_err_and c.from_residual.result c.from_residual.ensures.1 in
    rw (p.1, p.2) (stops_before tells c.in_err-core.field-0.0 c.args.rule c.args.limits (option_copied c.args.script) c.in_err-core.ensures.fault)
