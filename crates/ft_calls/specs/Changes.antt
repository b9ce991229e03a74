-- Attributes after a change.
use Rattle.std.specs.Prelude.{Option, None, Some}
use Rattle.ft_path.specs.declared.errno.Errno.{Errno}
use Rattle.ft_cells.specs.declared.attributes.Attributes.{Attributes}
use Rattle.ft_posix.specs.declared.call.Reply.TheVariants.{Done}
use Rattle.ft_posix.specs.Outcomes.{Outcome, failed, told}
use Rattle.ft_posix.specs.Attributes.{with_mode, with_owner}
use Rattle.ft_calls.specs.declared.attributes.Change.{Change}
use Rattle.ft_calls.specs.declared.attributes.Change.TheVariants.{Mode, Owners}

-- the attributes with another mode, or with another owner and another group
abbrev pub made : Change → Attributes → Attributes
made (Mode mode) = with_mode mode
made (Owners owner group) = with_owner owner group

-- the outcome of a call that has nothing to do: its fault, if it has one, or else `Done`
abbrev pub done_unless : Option Errno → Outcome
done_unless None = told Done
done_unless (Some e) = failed e
