use Rattle.std.proofs.Common.{inl, inr, refl, rules}
use Rattle.ft_transfer.proofs.carrying.put_in.Goals as goal

pub returns-in_err-done : goal.returns-in_err-done
returns-in_err-done c =
    inl (
      c.in_ok-fd.fd,
      c.number_of.new.core.state,
      c.in_ok-fd.ensures,
      inr (c.in_err-done.field-0.0, rw c.resizing.ensures at c.in_err-done.ensures, search rules),
    )

pub returns-in_err-done-2 : goal.returns-in_err-done-2
returns-in_err-done-2 c =
    inl (
      c.in_ok-fd.fd,
      c.number_of.new.core.state,
      c.in_ok-fd.ensures,
      inl (tt, c.done.new.core.state, rw c.resizing.ensures at c.in_ok-done.ensures, search rules),
    )

pub returns-in_err-closed : goal.returns-in_err-closed
returns-in_err-closed c =
    inl (
      c.in_ok-fd.fd,
      c.number_of.new.core.state,
      c.in_ok-fd.ensures,
      inl (
        tt,
        c.done.new.core.state,
        rw c.resizing.ensures at c.in_ok-done.ensures,
        inl (tt, c.done-2.new.core.state, c.in_ok-done-2.ensures, search rules),
      ),
    )

pub returns : goal.returns
returns c =
    inl (
      c.in_ok-fd.fd,
      c.number_of.new.core.state,
      c.in_ok-fd.ensures,
      inl (
        tt,
        c.done.new.core.state,
        rw c.resizing.ensures at c.in_ok-done.ensures,
        inl (
          tt,
          c.done-2.new.core.state,
          c.in_ok-done-2.ensures,
          inl (c.in_ok-closed.closed, c.well.new.core.state, c.in_ok-closed.ensures, (refl, refl)),
        ),
      ),
    )
