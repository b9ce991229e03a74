use Rattle.std.proofs.Common.{List, map, sym, ap, subst, ◌∙◌}
use Rattle.ft_laws.specs.Lists.{Each}
use Rattle.ft_core.specs.Reports.{AreLiveChildren, HasRisingBlockers, as_wait}
use Rattle.ft_core.specs.declared.reports.LiveChild.{LiveChild}
use Rattle.ft_waits.proofs.Once.{listed_once}
use Rattle.ft_waits.proofs.Waiting.{listed_exact}
use Rattle.ft_waits.proofs.listing.edges.Goals as goal

pub put_in_order-requires : goal.put_in_order-requires
put_in_order-requires c =
    let state = c.args.core.now.state in
    let children = subst (λ (pairs : List LiveChild). AreLiveChildren state pairs) (sym c.as_slice-2.ensures.value) c.in_ok-pairs.ensures in
    let waits = ap (map as_wait) c.as_slice.ensures.value ∙ c.in_ok-waits.ensures.list in
    let rising = subst (Each HasRisingBlockers) (sym c.as_slice.ensures.value) c.in_ok-waits.ensures.rising in
    listed_once state c.as_slice-2.result.now children c.as_slice.result.now c.new-edges.result.items c.list_waits.new.edges.items c.list_children.new.edges.items waits rising c.new-edges.ensures.items c.in_ok-list_waits.ensures c.in_ok-list_children.ensures

pub returns : goal.returns
returns c =
    let state = c.args.core.now.state in
    let children = subst (λ (pairs : List LiveChild). AreLiveChildren state pairs) (sym c.as_slice-2.ensures.value) c.in_ok-pairs.ensures in
    let waits = ap (map as_wait) c.as_slice.ensures.value ∙ c.in_ok-waits.ensures.list in
    let listed = listed_exact state c.as_slice-2.result.now children c.as_slice.result.now c.new-edges.result.items c.list_waits.new.edges.items c.list_children.new.edges.items waits c.new-edges.ensures.items c.in_ok-list_waits.ensures c.in_ok-list_children.ensures in
    record {
      order = c.put_in_order.ensures.order;
      exact = λ e. let same = c.put_in_order.ensures.same e in let exact = listed e in (λ h. exact.0 (same.0 h), λ h. same.1 (exact.1 h));
    }
