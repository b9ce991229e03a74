use Rattle.std.proofs.Common.{◌<◌, List, ℕ, inl, inr, Some, refl, sym, ap, ◌∙◌, arith}
use Rattle.std.proofs.lemmas.Result.{on_ok_weaker}
use Rattle.ft_copy.specs.Walks.{FirstPaths, firsts_of, standing, with_first}
use Rattle.ft_copy.proofs.Stopping.{if_err, stops_copy_link, stops_further_link}
use Rattle.ft_copy.proofs.Visiting.{first_link, further_link}
use Rattle.ft_copy.proofs.linking.make_link.Goals as goal

pub returns-then-link-le1-clause-ok : goal.returns-then-link-le1-clause-ok
returns-then-link-le1-clause-ok g c =
    let walk = standing c.args.walk.now in
    on_ok_weaker c.copy_link.result (first_link c.args.limits (g.S.Source.tells c.args.source.now) g.T.Target.does c.args.target.now c.copy_link.new.target
    c.args.link.now walk walk c.if-link-limits.false (inl (c.if-link-le1.true, refl)))
    c.copy_link.ensures.ok

pub returns-then-link-le1-clause-err : goal.returns-then-link-le1-clause-err
returns-then-link-le1-clause-err g c =
    if_err c.copy_link.result
    (λ t failed. stops_copy_link c.args.limits (g.S.Source.tells c.args.source.now) g.T.Target.does g.T.Target.fails t c.args.link.now (standing c.args.walk.now)
    c.args.target.now c.copy_link.new.target failed)
    c.copy_link.ensures.err

pub returns-in-Some-clause-ok : goal.returns-in-Some-clause-ok
returns-in-Some-clause-ok g c =
    on_ok_weaker c.link.result (further_link c.args.limits (g.S.Source.tells c.args.source.now) g.T.Target.does c.args.target.now c.link.new.self
    c.args.link.now (standing c.args.walk.now) c.as_slice.result.now c.as_slice-path.result.now c.as_slice-path.ensures c.if-link-limits.false (omega (arith, c.if-link-le1.false))
    (sym c.in-Some.ensures ∙ ap Some (sym c.as_slice.ensures)))
    c.link.ensures.ok

pub returns-in-Some-clause-err : goal.returns-in-Some-clause-err
returns-in-Some-clause-err g c =
    if_err c.link.result
    (λ t failed. stops_further_link c.args.limits (g.S.Source.tells c.args.source.now) g.T.Target.does g.T.Target.fails t c.args.link.now (standing c.args.walk.now) c.as_slice.result.now c.as_slice-path.result.now
    c.args.target.now c.link.new.self c.as_slice-path.ensures (sym c.in-Some.ensures ∙ ap Some (sym c.as_slice.ensures)) failed)
    c.link.ensures.err

pub returns-in_ok-insert-in-None-clause-ok : goal.returns-in_ok-insert-in-None-clause-ok
returns-in_ok-insert-in-None-clause-ok g c =
    let many : 1 < c.args.link.now.facts.links = omega (arith, c.if-link-le1.false) in
    let firsts = firsts_of c.args.walk.now.firsts in
    let id = c.args.link.now.facts.id in
    let path_is = c.into.ensures ∙ c.in_ok-first-in-None.ensures.items ∙ c.as_slice-path.ensures in
    let noted = ap (λ (f : FirstPaths). record { left = c.args.walk.now.left.items; links = c.args.walk.now.links.items; firsts = f }) (c.in_ok-insert-in-None.ensures ∙ ap (λ (p : List ℕ). with_first id p firsts) path_is) in
    on_ok_weaker c.copy_link-in-None.result (first_link c.args.limits (g.S.Source.tells c.args.source.now) g.T.Target.does c.args.target.now c.copy_link-in-None.new.target
    c.args.link.now (standing c.args.walk.now) (standing (record { alloc = c.args.walk.now.alloc; left = c.args.walk.now.left; links = c.args.walk.now.links; firsts = c.insert.new.self }))
    c.if-link-limits.false (inr (many, sym c.in-None.ensures, noted)))
    c.copy_link-in-None.ensures.ok

pub returns-in_ok-insert-in-None-clause-err : goal.returns-in_ok-insert-in-None-clause-err
returns-in_ok-insert-in-None-clause-err g c =
    if_err c.copy_link-in-None.result
    (λ t failed. stops_copy_link c.args.limits (g.S.Source.tells c.args.source.now) g.T.Target.does g.T.Target.fails t c.args.link.now (standing c.args.walk.now)
    c.args.target.now c.copy_link-in-None.new.target failed)
    c.copy_link-in-None.ensures.err
