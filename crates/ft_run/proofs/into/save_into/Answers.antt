use Rattle.std.proofs.Common.{◌≡◌, Bool, List, Result, refl, sym, subst}
use Rattle.std.specs.Prelude.{MatchBool, OnOk}
use Rattle.ft_copy.specs.declared.copy_fault.CopyStop.{CopyStop}
use Rattle.ft_into.specs.declared.step.Step.{Step}
use Rattle.ft_into.specs.Carries.{CarriesOut}
use Rattle.ft_run.proofs.Savings.{compared}
use Rattle.ft_run.proofs.into.save_into.Goals as goal

pub returns-then-into-clause-ok : goal.returns-then-into-clause-ok
returns-then-into-clause-ok g c =
    let tree = c.in-Ok.ensures.ok in
    let steps = c.in-Ok-list_steps.steps.items in
    let listed = c.in-Ok-list_steps.ensures.listed in (
      tree.0,
      steps,
      listed.0,
      tree.1,
      compared (g.S.Source.tells c.args.disk.now) c.args.into.wishes c.args.limits tree.0 c.in-Ok.saved c.source-tree.result steps tree.2 c.source-tree.ensures c.in-Ok-list_steps.ensures.steps,
      listed.1,
      subst (λ (is_dry : Bool). MatchBool is_dry (c.args.maker ≡ c.args.maker) (CarriesOut g.M.Maker.does steps c.args.maker c.args.maker)) (sym c.if-into.true) refl,
    )

pub returns-in_default-Ok-clause-ok : goal.returns-in_default-Ok-clause-ok
returns-in_default-Ok-clause-ok g c =
    let tree = c.in-Ok.ensures.ok in
    let steps = c.in-Ok-list_steps.steps.items in
    let listed = c.in-Ok-list_steps.ensures.listed in
    let made = c.carry_out.result.0 in
    let done : CarriesOut g.M.Maker.does c.as_slice.result.now c.args.maker made =
    subst (λ (carried : Result (Unit {0}) CopyStop). OnOk carried (CarriesOut g.M.Maker.does c.as_slice.result.now c.args.maker made)) c.in_default-Ok.is-1 c.carry_out.ensures.steps in (
      tree.0,
      steps,
      listed.0,
      tree.1,
      compared (g.S.Source.tells c.args.disk.now) c.args.into.wishes c.args.limits tree.0 c.in-Ok.saved c.source-tree.result steps tree.2 c.source-tree.ensures c.in-Ok-list_steps.ensures.steps,
      listed.1,
      subst (λ (is_dry : Bool). MatchBool is_dry (made ≡ c.args.maker) (CarriesOut g.M.Maker.does steps c.args.maker made)) (sym c.if-into.false)
          (subst (λ (all : List Step). CarriesOut g.M.Maker.does all c.args.maker made) c.as_slice.ensures.value done),
    )
