use Rattle.std.proofs.Common.{◌≡◌, List, [], ◌∷◌, ◌++◌, inl, inr, length-append, append-nil, refl, sym, subst, ◌∙◌, arith, rules}
use Rattle.std.specs.List.{flat_map}
use Rattle.ft_copy.specs.declared.found.CopyPath.{CopyPath}
use Rattle.ft_copy.specs.Asked.{DoesAll}
use Rattle.ft_copy.specs.Runs.{WalksTo, asked_of}
use Rattle.ft_copy.specs.Walks.{firsts_of, standing}
use Rattle.ft_copy.proofs.Doing.{does_more, visits_more}
use Rattle.ft_copy.proofs.Walking.{none_left, walks_more, walks_one}
use Rattle.ft_copy.proofs.copying.visit_all.Goals as goal

pub loop-turns-init : goal.loop-turns-init
loop-turns-init g c = ([], refl, refl, search rules)

pub loop-turns-preserved : goal.loop-turns-preserved
loop-turns-preserved g c =
    let so_far = c.loop-turns.invariant in
    let tells = g.S.Source.tells c.args.source.now in
    let does = g.T.Target.does in
    let now = standing c.loop-turns.walk in
    let next = standing c.visit.new.walk in
    let visited = c.in-Ok.ensures.ok in (
      so_far.0 ++ visited.0 ∷ [],
      walks_more c.args.limits tells (standing c.args.walk.now) now next so_far.0 (visited.0 ∷ []) so_far.1
          (walks_one c.args.limits tells now next c.pop.new.self.items c.in-Some.place visited.0 c.in-Some.ensures.items visited.1),
      subst (λ l. DoesAll does c.args.target.now l c.visit.new.target) (sym (visits_more so_far.0 visited.0))
          (does_more does c.args.target.now c.loop-turns.target c.visit.new.target (flat_map asked_of so_far.0) (asked_of visited.0) so_far.2 visited.2),
      omega (arith, so_far.3, length-append so_far.0 (visited.0 ∷ []), c.loop-turns-test.true),
    )

pub returns-in_default-clause-ok : goal.returns-in_default-clause-ok
returns-in_default-clause-ok g c =
    let so_far = c.loop-turns.invariant in
    let left = c.loop-turns.walk.left in
    let walk = c.loop-turns.walk in
    let empty = none_left left.len left.items left.ok.0 c.in_default.ensures.cases.0 in
    let same : left.items ≡ c.pop.new.self.items = c.in_default.ensures.items ∙ append-nil c.pop.new.self.items in (
      so_far.0,
      subst (λ (l : List CopyPath). WalksTo c.args.limits (g.S.Source.tells c.args.source.now) (standing c.args.walk.now) so_far.0 (record { left = l; links = walk.links.items; firsts = firsts_of walk.firsts })) same so_far.1,
      sym same ∙ empty,
      so_far.2,
    )

pub returns-in-Err-clause-err : goal.returns-in-Err-clause-err
returns-in-Err-clause-err g c =
    let so_far = c.loop-turns.invariant in
    (so_far.0, standing c.loop-turns.walk, c.loop-turns.target, so_far.1, so_far.2, inl (c.pop.new.self.items, c.in-Some.place, c.in-Some.ensures.items, refl, c.in-Err.ensures.err))

pub returns-clause-err : goal.returns-clause-err
returns-clause-err g c =
    let so_far = c.loop-turns.invariant in (
      so_far.0,
      standing c.loop-turns.walk,
      c.loop-turns.target,
      so_far.1,
      so_far.2,
      inr (refl, c.at_root.ensures.path, c.at_root.ensures.trouble, omega (arith, so_far.3, c.loop-turns-test.false)),
    )
