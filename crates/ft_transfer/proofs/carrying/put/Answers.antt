use Rattle.std.proofs.Common.{inl, inr, rules}
use Rattle.ft_transfer.proofs.carrying.put.Goals as goal

pub returns-in_err-sub : goal.returns-in_err-sub
returns-in_err-sub g c =
    inr (c.in_ok-bytes.bytes.items, rw c.as_bytes.ensures.value at c.in_ok-bytes.ensures.ok, search rules)

pub returns : goal.returns
returns g c =
    inr (
      c.in_ok-bytes.bytes.items,
      rw c.as_bytes.ensures.value at c.in_ok-bytes.ensures.ok,
      inl (
        c.in_ok-sub.sub,
        c.txn_of.new.core.state,
        c.in_ok-sub.ensures,
        (c.put_in-made.result, c.put_in-made.new.core.state, rw c.into.ensures at c.put_in-made.ensures, c.end_sub.ensures),
      ),
    )
