use Rattle.std.proofs.Common.{◌<◌, length, arith, refl, sym, ◌∙◌}
use Rattle.ft_looks.proofs.Searching.{anywhere, lowered, raised, equal_at, halved}
use Rattle.ft_looks.proofs.access_set.place_of.Goals as goal
use Rattle.ft_looks.proofs.access_set.place_of.Goals.{in-Less, in-Greater}

pub loop-from-init : goal.loop-from-init
loop-from-init g c = record {
  between = anywhere (g.T.Touch.cell c.args.touched.now) c.args.list.now _ refl;
  within = omega arith;
  tried = λ left. (omega arith, omega arith);
}

pub returns-in-Equal-clause-place : goal.returns-in-Equal-clause-place
returns-in-Equal-clause-place g c =
    let within : c.loop-from.at < length c.args.list.now = (let tried = c.loop-from.invariant.tried c.loop-from-test.true in omega arith) in
    (equal_at (g.T.Touch.cell c.args.touched.now) c.args.list.now c.loop-from.at c.index-list-at.result c.requires within (sym c.cmp_cell.ensures ∙ c.in-Equal.is)).0

pub returns-in-Equal-clause-noted : goal.returns-in-Equal-clause-noted
returns-in-Equal-clause-noted g c =
    let within : c.loop-from.at < length c.args.list.now = (let tried = c.loop-from.invariant.tried c.loop-from-test.true in omega arith) in
    (equal_at (g.T.Touch.cell c.args.touched.now) c.args.list.now c.loop-from.at c.index-list-at.result c.requires within (sym c.cmp_cell.ensures ∙ c.in-Equal.is)).1

pub loop-from-preserved : goal.loop-from-preserved
loop-from-preserved g c =
    let within : c.loop-from.at < length c.args.list.now = (let tried = c.loop-from.invariant.tried c.loop-from-test.true in omega arith) in
    record {
      between = elim c.match-cmp_cell.branch [
        | in-Less w ↦ lowered (g.T.Touch.cell c.args.touched.now) c.args.list.now _ _ c.loop-from.at c.index-list-at.result c.loop-from.invariant.between within (sym c.cmp_cell.ensures ∙ w.in-Less.is) _ _ w.from-is w.to-is
        | in-Greater w ↦ raised (g.T.Touch.cell c.args.touched.now) c.args.list.now _ _ c.loop-from.at c.index-list-at.result c.requires c.loop-from.invariant.between within (sym c.cmp_cell.ensures ∙ w.in-Greater.is) _ _ w.from-is w.to-is
      ];
      within = elim c.match-cmp_cell.branch [
        | in-Less w ↦ omega (arith, w.to-is, within)
        | in-Greater w ↦ omega (arith, w.to-is, c.loop-from.invariant.within)
      ];
      tried = λ left. halved _ _ left;
    }
