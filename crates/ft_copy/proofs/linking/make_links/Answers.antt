use Rattle.std.proofs.Common.{[], ◌∷◌, ◌++◌, sym, subst}
use Rattle.std.specs.List.{flat_map}
use Rattle.ft_copy.specs.Asked.{DoesAll}
use Rattle.ft_copy.specs.Runs.{asked_of}
use Rattle.ft_copy.specs.Walks.{standing}
use Rattle.ft_copy.proofs.Doing.{does_more, visits_more}
use Rattle.ft_copy.proofs.Walking.{links_more, links_one}
use Rattle.ft_copy.proofs.linking.make_links.Goals as goal

pub loop-link-preserved : goal.loop-link-preserved
loop-link-preserved g c =
    let so_far = c.loop-link.invariant in
    let tells = g.S.Source.tells c.args.source.now in
    let does = g.T.Target.does in
    let now = standing c.loop-link.walk in
    let next = standing c.make_link.new.walk in
    let made = c.in-Ok.ensures.ok in (
      so_far.0 ++ made.0 ∷ [],
      links_more c.args.limits tells (standing c.args.walk.now) now next so_far.0 (made.0 ∷ []) so_far.1
          (links_one c.args.limits tells now next c.in-Some.link c.pop_front.new.self.items made.0 c.in-Some.ensures.items made.1),
      subst (λ l. DoesAll does c.args.target.now l c.make_link.new.target) (sym (visits_more so_far.0 made.0))
          (does_more does c.args.target.now c.loop-link.target c.make_link.new.target (flat_map asked_of so_far.0) (asked_of made.0) so_far.2 made.2),
    )
