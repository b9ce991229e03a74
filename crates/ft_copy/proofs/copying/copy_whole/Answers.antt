use Rattle.std.proofs.Common.{[], ◌∷◌, ◌++◌, sym, subst}
use Rattle.std.specs.List.{flat_map}
use Rattle.ft_cells.specs.declared.attributes.Attributes.{Attributes}
use Rattle.ft_copy.specs.Asked.{Finish}
use Rattle.ft_copy.specs.Kept.{kept_attributes}
use Rattle.ft_copy.specs.Runs.{asked_of}
use Rattle.ft_copy.specs.Walks.{Enters, Standing, standing}
use Rattle.ft_copy.specs.declared.found.TheConstants.{ROOT}
use Rattle.ft_copy.proofs.Doing.{does_more, does_one}
use Rattle.ft_copy.specs.Stops.{StopsLinks, StopsVisiting}
use Rattle.ft_copy.proofs.Stopping.{at_fault, stops_amid, stops_last, stops_linking}
use Rattle.ft_copy.proofs.copying.copy_whole.Goals as goal

pub returns-in_err-visit_all-clause-err : goal.returns-in_err-visit_all-clause-err
returns-in_err-visit_all-clause-err g c =
    let tells = g.S.Source.tells c.args.source.now in
    let does = g.T.Target.does in
    let fails = g.T.Target.fails in
    let begun = c.begin.new.target in
    let next = standing c.begin.new.walk in
    let new = c.visit_all.new.target in
    let entered = subst (λ (s : Standing). Enters tells [] ROOT c.in-Ok.top.id s next) (λ i. record { left = c.new.ensures.items i; links = c.new-2.ensures.items i; firsts = c.new-3.ensures i }) c.in-Ok.ensures.ok.2 in
    at_fault c.from_residual.result c.from_residual.ensures.1
    (λ e is. stops_amid c.args.limits tells does fails e c.in-Ok.top next c.args.target.now begun new c.in-Ok.ensures.ok.0 entered c.in-Ok.ensures.ok.1 (subst (λ s. StopsVisiting c.args.limits tells does fails s next begun new) (sym is) c.in_err-visit_all.ensures.err))

pub returns-in_err-make_links-clause-err : goal.returns-in_err-make_links-clause-err
returns-in_err-make_links-clause-err g c =
    let tells = g.S.Source.tells c.args.source.now in
    let does = g.T.Target.does in
    let fails = g.T.Target.fails in
    let begun = c.begin.new.target in
    let next = standing c.begin.new.walk in
    let all = c.in_ok-visit_all.ensures.ok in
    let walked = standing c.visit_all.new.walk in
    let visited = c.visit_all.new.target in
    let new = c.make_links.new.target in
    let entered = subst (λ (s : Standing). Enters tells [] ROOT c.in-Ok.top.id s next) (λ i. record { left = c.new.ensures.items i; links = c.new-2.ensures.items i; firsts = c.new-3.ensures i }) c.in-Ok.ensures.ok.2 in
    at_fault c.from_residual-in_err-make_links.result c.from_residual-in_err-make_links.ensures.1
    (λ e is. stops_linking c.args.limits tells does fails e c.in-Ok.top next walked all.0 c.args.target.now begun visited new c.in-Ok.ensures.ok.0 entered c.in-Ok.ensures.ok.1 all.1 all.2 all.3
    (subst (λ s. StopsLinks c.args.limits tells does fails s walked visited new) (sym is) c.in_err-make_links.ensures.err))

pub returns-in-Ok-finish-clause-ok : goal.returns-in-Ok-finish-clause-ok
returns-in-Ok-finish-clause-ok g c =
    let does = g.T.Target.does in
    let begun = c.in-Ok.ensures.ok in
    let all = c.in_ok-visit_all.ensures.ok in
    let walked = standing c.visit_all.new.walk in
    let linked = c.in_ok-make_links.ensures.ok in
    let next = standing c.begin.new.walk in
    let made = c.make_links.new.target in
    let last = c.finish.new.self in
    let kept = c.kept_attributes.result in
    let top = c.in-Ok.top in
    record {
      top = top;
      folder = begun.0;
      begun = next;
      visits = all.0;
      walked = walked;
      links = linked.0;
      done = linked.1;
      root = subst (λ (s : Standing). Enters (g.S.Source.tells c.args.source.now) [] ROOT c.in-Ok.top.id s next) (λ i. record { left = c.new.ensures.items i; links = c.new-2.ensures.items i; firsts = c.new-3.ensures i }) begun.2;
      walk = all.1;
      all = all.2;
      last = linked.2;
      all_links = linked.3;
      did = (
        c.begin.new.target,
        begun.1,
        does_more does c.begin.new.target made last (flat_map asked_of all.0 ++ flat_map asked_of linked.0) (Finish (kept_attributes c.args.limits top.attributes) ∷ [])
            (does_more does c.begin.new.target c.visit_all.new.target made (flat_map asked_of all.0) (flat_map asked_of linked.0) all.3 linked.4)
            (does_one does made last (Finish (kept_attributes c.args.limits top.attributes)) (subst (λ (a : Attributes). does made (Finish a) last) c.kept_attributes.ensures c.in-Ok-finish.ensures.ok)),
      );
    }

pub returns-clause-err : goal.returns-clause-err
returns-clause-err g c =
    let tells = g.S.Source.tells c.args.source.now in
    let begun = c.in-Ok.ensures.ok in
    let all = c.in_ok-visit_all.ensures.ok in
    let walked = standing c.visit_all.new.walk in
    let linked = c.in_ok-make_links.ensures.ok in
    let next = standing c.begin.new.walk in
    let entered = subst (λ (s : Standing). Enters tells [] ROOT c.in-Ok.top.id s next) (λ i. record { left = c.new.ensures.items i; links = c.new-2.ensures.items i; firsts = c.new-3.ensures i }) begun.2 in
    stops_last c.args.limits tells g.T.Target.does g.T.Target.fails c.at_root-in-Err-finish.result c.in-Err-finish.trouble c.in-Ok.top c.kept_attributes.result next walked linked.1 all.0 linked.0 c.args.target.now c.begin.new.target c.visit_all.new.target
    c.make_links.new.target c.finish.new.self
    c.at_root-in-Err-finish.ensures.trouble c.at_root-in-Err-finish.ensures.path begun.0 c.kept_attributes.ensures entered begun.1 all.1 all.2 linked.2 linked.3 all.3 linked.4 c.in-Err-finish.ensures.err
