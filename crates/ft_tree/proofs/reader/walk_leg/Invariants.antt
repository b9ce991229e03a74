use Rattle.std.proofs.Common.{◌≡◌, drop}
use Rattle.ft_cells.specs.Looks.{answer, looked_at, all_noted}
use Rattle.ft_tree.specs.Views.{view_of}
use Rattle.ft_tree.specs.Walk.{leg, leg_from}
use Rattle.ft_tree.proofs.reader.walk_leg.Given as goal

-- the leg from here on is what is left of the whole leg
abbrev pub invariant-loop-passed : goal.invariant-loop-passed
invariant-loop-passed g l =
    let cells = g.R.Reader.cells in
    let all = all_noted g.R.Reader.noted in
    let left = leg_from l.dir l.name (drop l.passed l.rest) l.follow l.slash in
    let whole = leg l.fn.route.start l.fn.route.names.now l.follow l.slash in record {
      end : answer left (view_of (cells l.reader)) ≡ answer whole (view_of (cells l.initial.reader));
      noted : all l.reader (looked_at left (view_of (cells l.reader))) ≡ all l.initial.reader (looked_at whole (view_of (cells l.initial.reader)));
    }
