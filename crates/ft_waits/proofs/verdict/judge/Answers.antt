use Rattle.std.proofs.Common.{List, sym, subst, rules}
use Rattle.std.proofs.lemmas.List.Sorted.{IsNonDecreasingBy-from_sort_by_key}
use Rattle.ft_waits.specs.declared.edge.Edge.{Edge}
use Rattle.ft_waits.specs.Waits.{IsCycle, HasNoCycle, RankAllNamed, AreRanks, FallAlong}
use Rattle.ft_waits.specs.Walk.{AreInOrder}
use Rattle.ft_waits.proofs.Verdicts.{copy-moved, if_cycle, if_ranked}
use Rattle.ft_waits.proofs.verdict.judge.Goals as goal

pub judge_sorted-requires : goal.judge_sorted-requires
judge_sorted-requires c =
    subst (λ (es : List Edge). AreInOrder es) (sym c.as_slice.ensures.value)
    (IsNonDecreasingBy-from_sort_by_key (λ (e : Edge). e.from) c.sort_unstable_by_key.new.self.items c.sort_unstable_by_key.ensures.sorted (λ a r q k. search rules))

pub returns-clause-cycle : goal.returns-clause-cycle
returns-clause-cycle c =
    let moved = copy-moved c.args.edges.now c.in_ok-sorted.sorted.items c.sort_unstable_by_key.new.self.items c.as_slice.result.now c.in_ok-sorted.ensures.items c.sort_unstable_by_key.ensures.permutation c.as_slice.ensures.value in
    if_cycle c.args.edges.now c.as_slice.result.now moved c.judge_sorted.result c.judge_sorted.ensures (IsCycle c.args.edges.now) (λ members told. told.cycle)

pub returns-clause-named : goal.returns-clause-named
returns-clause-named c =
    let moved = copy-moved c.args.edges.now c.in_ok-sorted.sorted.items c.sort_unstable_by_key.new.self.items c.as_slice.result.now c.in_ok-sorted.ensures.items c.sort_unstable_by_key.ensures.permutation c.as_slice.ensures.value in
    if_ranked c.args.edges.now c.as_slice.result.now moved c.judge_sorted.result c.judge_sorted.ensures (RankAllNamed c.args.edges.now) (λ ranks told. told.named)

pub returns-clause-ranks : goal.returns-clause-ranks
returns-clause-ranks c =
    let moved = copy-moved c.args.edges.now c.in_ok-sorted.sorted.items c.sort_unstable_by_key.new.self.items c.as_slice.result.now c.in_ok-sorted.ensures.items c.sort_unstable_by_key.ensures.permutation c.as_slice.ensures.value in
    if_ranked c.args.edges.now c.as_slice.result.now moved c.judge_sorted.result c.judge_sorted.ensures (AreRanks c.args.edges.now) (λ ranks told. told.ranks_are)

pub returns-clause-falls : goal.returns-clause-falls
returns-clause-falls c =
    let moved = copy-moved c.args.edges.now c.in_ok-sorted.sorted.items c.sort_unstable_by_key.new.self.items c.as_slice.result.now c.in_ok-sorted.ensures.items c.sort_unstable_by_key.ensures.permutation c.as_slice.ensures.value in
    if_ranked c.args.edges.now c.as_slice.result.now moved c.judge_sorted.result c.judge_sorted.ensures (FallAlong c.args.edges.now) (λ ranks told. told.falls)

pub returns-clause-no_cycle : goal.returns-clause-no_cycle
returns-clause-no_cycle c =
    let moved = copy-moved c.args.edges.now c.in_ok-sorted.sorted.items c.sort_unstable_by_key.new.self.items c.as_slice.result.now c.in_ok-sorted.ensures.items c.sort_unstable_by_key.ensures.permutation c.as_slice.ensures.value in
    if_ranked c.args.edges.now c.as_slice.result.now moved c.judge_sorted.result c.judge_sorted.ensures (λ _. HasNoCycle c.args.edges.now) (λ ranks told. told.no_cycle)
