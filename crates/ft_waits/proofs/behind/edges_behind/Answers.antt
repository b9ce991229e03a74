use Rattle.std.proofs.Common.{List, map, sym, ap, subst, ◌∙◌}
use Rattle.ft_core.specs.Reports.{AreLiveChildren, as_wait}
use Rattle.ft_core.specs.declared.reports.LiveChild.{LiveChild}
use Rattle.ft_waits.proofs.Edging.{listed_behind}
use Rattle.ft_waits.proofs.behind.edges_behind.Goals as goal

pub returns : goal.returns
returns c =
    let state = c.args.core.now.state in
    let children = subst (λ (pairs : List LiveChild). AreLiveChildren state pairs) (sym c.as_slice-2.ensures.value) c.in_ok-pairs.ensures in
    let waits = ap (map as_wait) c.as_slice.ensures.value ∙ c.in_ok-waits.ensures in
    listed_behind state c.args.queue.now c.as_slice-2.result.now children c.as_slice.result.now c.new-edges.result.items c.list_waits.new.edges.items c.list_children.new.edges.items waits c.new-edges.ensures.items c.in_ok-list_waits.ensures c.in_ok-list_children.ensures
