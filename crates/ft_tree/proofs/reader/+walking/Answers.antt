use Rattle.std.proofs.Common.{rules, arith, ◌≡◌, ◌∙◌, ap, Result, Ok, Err, ◌-◌}
use Rattle.std.proofs.lemmas.Bool.Decides.{nat_tests}
use Rattle.std.proofs.lemmas.Result.{IfOk-weaker, on_ok_weaker}
use Rattle.ft_path.specs.declared.errno.Errno.{Errno}
use Rattle.ft_cells.specs.declared.node.PathEnd.{PathEnd}
use Rattle.ft_cells.specs.declared.cell.Cell.TheVariants.{Bytes}
use Rattle.ft_cells.specs.Cells.{bytes_of}
use Rattle.ft_cells.specs.Looks.{Looks, answer, or_else}
use Rattle.ft_tree.specs.declared.reader.Way.{Way}
use Rattle.ft_tree.specs.Views.{view_of}
use Rattle.ft_tree.specs.Walk.{Ends, Meets, way_behind, walk_on}
use Rattle.ft_tree.proofs.Following.{behind-ends, behind-last, behind-more, walk-end, walk-noted}
use Rattle.ft_tree.proofs.reader.+walking.Goals as goal

-- the leg is the whole walk
pub walk_on-returns-in-Ends-clause-end : goal.walk_on-returns-in-Ends-clause-end
walk_on-returns-in-Ends-clause-end g t c =
    walk-end g.R.Reader.cells g.R.Reader.noted g.met.R.Reader.stays c.args.reader.now c.walk_leg.new.reader c.args.links.last c.args.route.start c.args.route.names.now c.args.route.slash (Ends c.in-Ends.end) (search rules) (search rules) c.args.links.left _ (behind-ends c.args.links.left c.args.links.last c.args.route.slash c.in-Ends.end)

pub walk_on-returns-in-Ends-clause-noted : goal.walk_on-returns-in-Ends-clause-noted
walk_on-returns-in-Ends-clause-noted g t c =
    walk-noted g.R.Reader.cells g.R.Reader.noted g.met.R.Reader.stays c.args.reader.now c.walk_leg.new.reader c.args.links.last c.args.route.start c.args.route.names.now c.args.route.slash (Ends c.in-Ends.end) (search rules) (search rules) c.args.links.left _ (behind-ends c.args.links.left c.args.links.last c.args.route.slash c.in-Ends.end)

-- a link too many
pub walk_on-returns-in-Meets-clause-end : goal.walk_on-returns-in-Meets-clause-end
walk_on-returns-in-Meets-clause-end g t c =
    walk-end g.R.Reader.cells g.R.Reader.noted g.met.R.Reader.stays c.args.reader.now c.walk_leg.new.reader c.args.links.last c.args.route.start c.args.route.names.now c.args.route.slash (Meets c.in-Meets.field-0.link c.in-Meets.field-0.dir c.in-Meets.field-0.names.now) (search rules) (search rules) c.args.links.left _ (behind-last c.args.links.left c.args.links.last c.args.route.slash c.in-Meets.field-0.link c.in-Meets.field-0.dir c.in-Meets.field-0.names.now (search rules))

pub walk_on-returns-in-Meets-clause-noted : goal.walk_on-returns-in-Meets-clause-noted
walk_on-returns-in-Meets-clause-noted g t c =
    walk-noted g.R.Reader.cells g.R.Reader.noted g.met.R.Reader.stays c.args.reader.now c.walk_leg.new.reader c.args.links.last c.args.route.start c.args.route.names.now c.args.route.slash (Meets c.in-Meets.field-0.link c.in-Meets.field-0.dir c.in-Meets.field-0.names.now) (search rules) (search rules) c.args.links.left _ (behind-last c.args.links.left c.args.links.last c.args.route.slash c.in-Meets.field-0.link c.in-Meets.field-0.dir c.in-Meets.field-0.names.now (search rules))

-- a link that is followed
pub walk_on-returns-in-Meets-2-clause-end : goal.walk_on-returns-in-Meets-2-clause-end
walk_on-returns-in-Meets-2-clause-end g t c =
    let met = Meets c.in-Meets.field-0.link c.in-Meets.field-0.dir c.in-Meets.field-0.names.now in
    let way = walk-end g.R.Reader.cells g.R.Reader.noted g.met.R.Reader.stays c.args.reader.now c.walk_leg.new.reader c.args.links.last c.args.route.start c.args.route.names.now c.args.route.slash met (search rules) (search rules) c.args.links.left _ (behind-more c.args.links.left (c.args.links.left - 1) c.args.links.last c.args.route.slash met (grind (arith, nat_tests))) in
    IfOk-weaker c.onward.result _ _ (λ end is. is ∙ way) c.onward.ensures.end

pub walk_on-returns-in-Meets-2-clause-noted : goal.walk_on-returns-in-Meets-2-clause-noted
walk_on-returns-in-Meets-2-clause-noted g t c =
    let met = Meets c.in-Meets.field-0.link c.in-Meets.field-0.dir c.in-Meets.field-0.names.now in
    let way = walk-noted g.R.Reader.cells g.R.Reader.noted g.met.R.Reader.stays c.args.reader.now c.walk_leg.new.reader c.args.links.last c.args.route.start c.args.route.names.now c.args.route.slash met (search rules) (search rules) c.args.links.left _ (behind-more c.args.links.left (c.args.links.left - 1) c.args.links.last c.args.route.slash met (grind (arith, nat_tests))) in
    on_ok_weaker c.onward.result (λ is. is ∙ way) c.onward.ensures.noted

-- and the walk from where it leads
pub onward-returns-in-Ok-clause-end : goal.onward-returns-in-Ok-clause-end
onward-returns-in-Ok-clause-end g t c =
    let cells = g.R.Reader.cells in
    let old = c.args.reader.now in
    let go : Way → Looks (Result PathEnd Errno) = λ way. walk_on c.args.links.left c.args.links.last way.start way.names way.slash in
    let same : cells c.target.new.self ≡ cells old = ap cells c.in_ok-target.ensures.noted ∙ g.met.R.Reader.stays old (Bytes c.args.met.link) in
    let led : Ok c.in-Ok.way ≡ way_behind c.args.met.dir c.args.met.names.now c.args.slash (bytes_of (cells old) c.args.met.link) = search rules in
    let way : answer (go c.in-Ok.way) (view_of (cells c.target.new.self)) ≡ answer (or_else Err go (way_behind c.args.met.dir c.args.met.names.now c.args.slash (bytes_of (cells old) c.args.met.link))) (view_of (cells old)) =
    ap (λ k. answer (go c.in-Ok.way) (view_of k)) same ∙ ap (λ r. answer (or_else Err go r) (view_of (cells old))) led in
    let names = ap (λ ns. answer (walk_on c.args.links.left c.args.links.last c.in-Ok.way.start ns c.in-Ok.way.slash) (view_of (cells c.target.new.self))) c.as_slice-in-Ok.ensures in
    IfOk-weaker c.walk_on.result _ _ (λ end is. is ∙ names ∙ way) c.walk_on.ensures.end
