use Rattle.std.proofs.Common.{inl, rules}
use Rattle.ft_transfer.proofs.carrying.get_in.Goals as goal

pub returns-in_err-bytes : goal.returns-in_err-bytes
returns-in_err-bytes g c = inl (c.in_ok-fd.fd, c.number_of.new.core.state, c.in_ok-fd.ensures, search rules)

pub returns-in_err-closed : goal.returns-in_err-closed
returns-in_err-closed g c =
    inl (
      c.in_ok-fd.fd,
      c.number_of.new.core.state,
      c.in_ok-fd.ensures,
      inl (c.in_ok-bytes.bytes, c.bytes_of.new.core.state, c.in_ok-bytes.ensures, search rules),
    )

pub returns-in_err-write_file : goal.returns-in_err-write_file
returns-in_err-write_file g c =
    inl (
      c.in_ok-fd.fd,
      c.number_of.new.core.state,
      c.in_ok-fd.ensures,
      inl (
        c.in_ok-bytes.bytes,
        c.bytes_of.new.core.state,
        c.in_ok-bytes.ensures,
        inl (c.in_ok-closed.closed, c.well.new.core.state, c.in_ok-closed.ensures, search rules),
      ),
    )

pub returns : goal.returns
returns g c =
    inl (
      c.in_ok-fd.fd,
      c.number_of.new.core.state,
      c.in_ok-fd.ensures,
      inl (
        c.in_ok-bytes.bytes,
        c.bytes_of.new.core.state,
        c.in_ok-bytes.ensures,
        inl (c.in_ok-closed.closed, c.well.new.core.state, c.in_ok-closed.ensures, search rules),
      ),
    )
