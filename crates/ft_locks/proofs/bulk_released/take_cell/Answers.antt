use Rattle.std.proofs.Common.{ap, sym, ◌∙◌}
use Rattle.std.specs.Option.{option_copied_mut}
use Rattle.ft_locks.proofs.bulk_released.take_cell.Goals as goal

pub returns-clause-told : goal.returns-clause-told
returns-clause-told c = (
  c.in_ok-locked.locked.now,
  sym (sym (ap option_copied_mut c.in_ok-locked.was) ∙ c.get_mut.ensures.value),
  sym c.replace.ensures.value,
  sym c.is_unreported.ensures ∙ c.if-not-is_unreported.false,
)
