use Rattle.std.proofs.Common.{refl, ap, eq-eqb, ◌∙◌}
use Rattle.std.proofs.lemmas.Bool.{or_left}
use Rattle.std.specs.Cmp.{nat_cmp_total, unsigned_tied}
use Rattle.std.specs.FinSet as set
use Rattle.ft_lock_rules.specs.Locks.{is_opened}
use Rattle.test_parts.proofs.of_locks.Crowd.begin.Goals as goal

pub returns : goal.returns
returns c =
    ap (λ table. is_opened table c.in_ok-txn.txn) c.in_ok-open.ensures.ok
    ∙ set.contains-insert nat_cmp_total _ c.in_ok-txn.txn c.in_ok-txn.txn
    ∙ or_left _ _ (unsigned_tied c.in_ok-txn.txn c.in_ok-txn.txn ∙ eq-eqb c.in_ok-txn.txn c.in_ok-txn.txn refl)
