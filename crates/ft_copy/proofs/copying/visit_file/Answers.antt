use Rattle.std.proofs.Common.{ℕ, List, inl, inr, Some, refl, sym, ap, ◌∙◌, arith}
use Rattle.std.proofs.lemmas.Result.{on_ok_weaker}
use Rattle.ft_copy.specs.Walks.{FirstPaths, firsts_of, standing, with_first}
use Rattle.ft_copy.proofs.Stopping.{if_err, stops_link}
use Rattle.ft_copy.proofs.Visiting.{first_name, further_name}
use Rattle.ft_copy.proofs.copying.visit_file.Goals as goal

pub returns-then-facts-le1-clause-ok : goal.returns-then-facts-le1-clause-ok
returns-then-facts-le1-clause-ok g c =
    let walk = standing c.args.walk.now in
    on_ok_weaker c.copy_file.result (first_name c.args.limits (g.S.Source.tells c.args.source.now) g.T.Target.does c.args.target.now c.copy_file.new.target
    c.args.place.now c.args.file.now walk walk c.if-facts-limits.false c.if-facts-limits-2.false (inl (c.if-facts-le1.true, refl)))
    c.copy_file.ensures.ok

pub returns-in-Some-clause-ok : goal.returns-in-Some-clause-ok
returns-in-Some-clause-ok g c =
    on_ok_weaker c.link.result (further_name c.args.limits (g.S.Source.tells c.args.source.now) g.T.Target.does c.args.target.now c.link.new.self
    c.args.place.now c.args.file.now (standing c.args.walk.now) c.as_slice.result.now c.as_slice-in-Some.result.now c.as_slice-in-Some.ensures c.if-facts-limits.false c.if-facts-limits-2.false (omega (arith, c.if-facts-le1.false))
    (sym c.in-Some.ensures ∙ ap Some (sym c.as_slice.ensures)))
    c.link.ensures.ok

pub returns-in_ok-insert-in-None-clause-ok : goal.returns-in_ok-insert-in-None-clause-ok
returns-in_ok-insert-in-None-clause-ok g c =
    let firsts = firsts_of c.args.walk.now.firsts in
    let id = c.args.file.now.facts.id in
    let path_is = c.into.ensures ∙ c.in_ok-first-in-None.ensures.items ∙ c.as_slice-in-None.ensures in
    let noted = ap (λ (f : FirstPaths). record { left = c.args.walk.now.left.items; links = c.args.walk.now.links.items; firsts = f }) (c.in_ok-insert-in-None.ensures ∙ ap (λ (p : List ℕ). with_first id p firsts) path_is) in
    on_ok_weaker c.copy_file-in-None.result (first_name c.args.limits (g.S.Source.tells c.args.source.now) g.T.Target.does c.args.target.now c.copy_file-in-None.new.target
    c.args.place.now c.args.file.now (standing c.args.walk.now) (standing (record { alloc = c.args.walk.now.alloc; left = c.args.walk.now.left; links = c.args.walk.now.links; firsts = c.insert.new.self }))
    c.if-facts-limits.false c.if-facts-limits-2.false (inr (omega (arith, c.if-facts-le1.false), sym c.in-None.ensures, noted)))
    c.copy_file-in-None.ensures.ok

pub returns-in-Some-clause-err : goal.returns-in-Some-clause-err
returns-in-Some-clause-err g c told =
    if_err c.link.result
    (λ t failed. stops_link c.args.limits (g.S.Source.tells c.args.source.now) g.T.Target.does g.T.Target.fails t c.args.place.now c.args.file.now (standing c.args.walk.now) c.as_slice.result.now c.as_slice-in-Some.result.now
    c.args.target.now c.link.new.self c.as_slice-in-Some.ensures told (sym c.in-Some.ensures ∙ ap Some (sym c.as_slice.ensures)) failed)
    c.link.ensures.err
