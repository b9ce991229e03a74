use Rattle.std.proofs.Common.{List, leb, ltb, rules}
use Rattle.std.proofs.lemmas.List.Sorted.{IsPartitionPoint-from_clause, IsPartitionedBy-leb, IsPartitionedBy-ltb}
use Rattle.ft_waits.specs.declared.edge.Edge.{Edge}
use Rattle.ft_waits.proofs.Outgoing.{out-lead, lead-out}
use Rattle.ft_waits.proofs.walk.Step.new.Goals as goal

pub returns-clause-ahead : goal.returns-clause-ahead
returns-clause-ahead c =
    let edges : List Edge = c.args.edges.now in
    let next = c.partition_point-next.result in
    let end = c.partition_point-end.result in
    let before = IsPartitionPoint-from_clause (λ (e : Edge). ltb e.from c.args.txn) edges next c.partition_point-next.ensures.partitioned (IsPartitionedBy-ltb (λ (e : Edge). e.from) edges c.args.txn c.requires) (λ a r q k. search rules) in
    let upto = IsPartitionPoint-from_clause (λ (e : Edge). leb e.from c.args.txn) edges end c.partition_point-end.ensures.partitioned (IsPartitionedBy-leb (λ (e : Edge). e.from) edges c.args.txn c.requires) (λ a r q k. search rules) in
    λ to. (out-lead edges c.args.txn next end c.partition_point-end.ensures.bound before upto to, lead-out edges c.args.txn next end c.partition_point-end.ensures.bound before upto to)
