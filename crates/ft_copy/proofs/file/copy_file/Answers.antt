use Rattle.std.proofs.Common.{ℕ, List, inl, inr, sym, subst, ◌∙◌}
use Rattle.std.proofs.lemmas.Result.{on_ok_weaker}
use Rattle.ft_copy.specs.declared.found.FileId.{FileId}
use Rattle.ft_copy.specs.declared.found.Given.{Given}
use Rattle.ft_copy.specs.Asked.{Open}
use Rattle.ft_copy.specs.Runs.{CopiesFile}
use Rattle.ft_copy.specs.Told.{Holds}
use Rattle.ft_copy.specs.Stops.{StopsPouring}
use Rattle.ft_copy.proofs.Doing.{consumed_none}
use Rattle.ft_copy.proofs.Same.{is_one}
use Rattle.ft_copy.proofs.Stopping.{at_fault, if_err, stops_another, stops_close, stops_open, stops_pour}
use Rattle.ft_copy.proofs.Visiting.{copied}
use Rattle.ft_copy.proofs.file.copy_file.Goals as goal

pub returns-then-not-is-clause-err : goal.returns-then-not-is-clause-err
returns-then-not-is-clause-err g c walk told =
    let place = c.args.place.now in
    let id = c.in_ok-opened.opened.id in
    let left = g.S.File.Read.remaining c.in_ok-opened.opened.file in
    let holds = subst (λ (p : List ℕ). g.S.Source.tells c.args.source.now (Holds p place.node id left)) c.as_slice-path.ensures c.in_ok-opened.ensures.ok in
    stops_another c.args.limits (g.S.Source.tells c.args.source.now) g.T.Target.does g.T.Target.fails place c.args.file.now walk c.args.target.now told (id, sym c.is.ensures ∙ c.if-not-is.true, inr (inl (left, holds)))

pub returns-in_err-open-clause-err : goal.returns-in_err-open-clause-err
returns-in_err-open-clause-err g c walk told =
    let tells = g.S.Source.tells c.args.source.now in
    let does = g.T.Target.does in
    let fails = g.T.Target.fails in
    let place = c.args.place.now in
    let given = c.kept_given-given.result in
    let left = g.S.File.Read.remaining c.in_ok-opened.opened.file in
    let held = subst (λ (id : FileId). tells (Holds c.as_slice-path.result.now place.node id left)) (is_one c.in_ok-opened.opened.id c.args.file.now.facts.id (sym c.is.ensures ∙ c.if-not-is.false)) c.in_ok-opened.ensures.ok in
    let holds = subst (λ (p : List ℕ). tells (Holds p place.node c.args.file.now.facts.id left)) c.as_slice-path.ensures held in
    let old = c.args.target.now in
    let new = c.open-2.new.self in
    at_fault c.from_residual-in_err-open.result c.from_residual-in_err-open.ensures.1
    (λ t is. stops_open c.args.limits tells does fails place c.args.file.now given c.kept_given-given.ensures walk told left holds t old new (consumed_none left)
    (subst (λ (p : List ℕ). fails old (Open p given.attributes) t new) c.as_slice-path.ensures (subst (λ e. fails old (Open c.as_slice-path.result.now given.attributes) e new) (sym is) c.in_err-open.ensures.err)))

pub returns-in_err-pour-clause-err : goal.returns-in_err-pour-clause-err
returns-in_err-pour-clause-err g c walk told =
    let tells = g.S.Source.tells c.args.source.now in
    let does = g.T.Target.does in
    let fails = g.T.Target.fails in
    let place = c.args.place.now in
    let given = c.kept_given-given.result in
    let left = g.S.File.Read.remaining c.in_ok-opened.opened.file in
    let held = subst (λ (id : FileId). tells (Holds c.as_slice-path.result.now place.node id left)) (is_one c.in_ok-opened.opened.id c.args.file.now.facts.id (sym c.is.ensures ∙ c.if-not-is.false)) c.in_ok-opened.ensures.ok in
    let holds = subst (λ (p : List ℕ). tells (Holds p place.node c.args.file.now.facts.id left)) c.as_slice-path.ensures held in
    let old = c.args.target.now in
    let opened = c.open-2.new.self in
    let new = c.pour.new.target in
    let was_opened = subst (λ (p : List ℕ). does old (Open p given.attributes) opened) c.as_slice-path.ensures c.in_ok-open.ensures.ok in
    at_fault c.from_residual-in_err-pour.result c.from_residual-in_err-pour.ensures.1
    (λ t is. stops_pour c.args.limits tells does fails place c.args.file.now given c.kept_given-given.ensures walk told left holds t old opened new was_opened
    (subst (λ e. StopsPouring does fails c.args.limits.file_size e left opened new) (sym is) c.in_err-pour.ensures.err))

pub returns-clause-ok : goal.returns-clause-ok
returns-clause-ok g c =
    let tells = g.S.Source.tells c.args.source.now in
    let does = g.T.Target.does in
    let place = c.args.place.now in
    let given = c.kept_given-given.result in
    let left = g.S.File.Read.remaining c.in_ok-opened.opened.file in
    let held = subst (λ (id : FileId). tells (Holds c.as_slice-path.result.now place.node id left)) (is_one c.in_ok-opened.opened.id c.args.file.now.facts.id (sym c.is.ensures ∙ c.if-not-is.false)) c.in_ok-opened.ensures.ok in
    let holds = subst (λ (p : List ℕ). tells (Holds p place.node c.args.file.now.facts.id left)) c.as_slice-path.ensures held in
    let old = c.args.target.now in
    let new = c.close.new.self in
    let opened = c.open-2.new.self in
    let was_opened = subst (λ (p : List ℕ). does old (Open p given.attributes) opened) c.as_slice-path.ensures c.in_ok-open.ensures.ok in
    on_ok_weaker c.close.result
    (λ closed. subst (λ (k : Given). CopiesFile c.args.limits tells does place c.args.file.now.facts.id k old new) c.kept_given-given.ensures
    (copied c.args.limits tells does old new opened c.pour.new.target place c.args.file.now.facts.id given left holds was_opened c.in_ok-pour.ensures.ok closed))
    c.close.ensures.ok

pub returns-clause-err : goal.returns-clause-err
returns-clause-err g c walk told =
    let tells = g.S.Source.tells c.args.source.now in
    let does = g.T.Target.does in
    let fails = g.T.Target.fails in
    let place = c.args.place.now in
    let given = c.kept_given-given.result in
    let left = g.S.File.Read.remaining c.in_ok-opened.opened.file in
    let held = subst (λ (id : FileId). tells (Holds c.as_slice-path.result.now place.node id left)) (is_one c.in_ok-opened.opened.id c.args.file.now.facts.id (sym c.is.ensures ∙ c.if-not-is.false)) c.in_ok-opened.ensures.ok in
    let holds = subst (λ (p : List ℕ). tells (Holds p place.node c.args.file.now.facts.id left)) c.as_slice-path.ensures held in
    let old = c.args.target.now in
    let opened = c.open-2.new.self in
    let was_opened = subst (λ (p : List ℕ). does old (Open p given.attributes) opened) c.as_slice-path.ensures c.in_ok-open.ensures.ok in
    let poured = c.in_ok-pour.ensures.ok in
    if_err c.close.result
    (λ t failed. stops_close c.args.limits tells does fails place c.args.file.now given c.kept_given-given.ensures walk told left holds t old opened c.pour.new.target c.close.new.self
    poured.0 poured.1.0 poured.1.1 was_opened poured.3 failed)
    c.close.ensures.err
