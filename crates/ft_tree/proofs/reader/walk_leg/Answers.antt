use Rattle.std.proofs.Common.{rules, ◌≡◌, ℕ, ◌+◌, ◌∷◌, drop, Result, Ok, sym, ap, ◌∙◌}
use Rattle.std.proofs.lemmas.List.{drop_more}
use Rattle.ft_cells.specs.Looks.{Looks, answer, looked_at, all_noted, or_else}
use Rattle.ft_tree.specs.declared.reader.Halt.{Halt}
use Rattle.ft_tree.specs.Views.{view_of}
use Rattle.ft_tree.specs.Walk.{Leg, inner, halted, leg_from}
use Rattle.ft_tree.proofs.Reading.{end-on, noted-on}
use Rattle.ft_tree.proofs.reader.walk_leg.Goals as goal

-- a component, and the leg from where it leads
pub loop-passed-preserved : goal.loop-passed-preserved
loop-passed-preserved g c =
    let cells = g.R.Reader.cells in
    let noted = g.R.Reader.noted in
    let next = c.index-rest-passed.result in
    let behind = drop (c.loop-passed.passed + 1) c.in-Some.rest.now in
    let left : drop c.loop-passed.passed c.in-Some.rest.now ≡ next ∷ behind = drop_more c.in-Some.rest.now c.loop-passed.passed next c.loop-passed-test.true ∙ ap (λ name. name ∷ behind) (sym c.index-rest-passed.is) in
    let here = inner c.loop-passed.dir c.loop-passed.name.now in
    let on : Result ℕ Halt → Looks Leg = or_else (halted c.loop-passed.dir (next ∷ behind)) (λ dir. leg_from dir next behind c.args.follow c.args.route.slash) in
    let led : Ok c.in-Ok.number ≡ answer here (view_of (cells c.loop-passed.reader)) = search rules in
    let old = c.loop-passed.reader in
    record {
      end =
          end-on cells noted g.met.R.Reader.stays old c.inner.new.reader here on (Ok c.in-Ok.number) led c.in_ok-number.ensures.noted
          ∙ ap (λ names. answer (leg_from c.loop-passed.dir c.loop-passed.name.now names c.args.follow c.args.route.slash) (view_of (cells old))) (sym left)
          ∙ c.loop-passed.invariant.end;
      noted =
          noted-on cells noted g.met.R.Reader.stays old c.inner.new.reader here on (Ok c.in-Ok.number) led c.in_ok-number.ensures.noted
          ∙ ap (λ names. all_noted noted old (looked_at (leg_from c.loop-passed.dir c.loop-passed.name.now names c.args.follow c.args.route.slash) (view_of (cells old)))) (sym left)
          ∙ c.loop-passed.invariant.noted;
    }
