use Rattle.std.proofs.Common.{◌≡◌, ◌+◌, ap, sym, ◌∙◌, arith}
use Rattle.std.specs.List.{count_by}
use Rattle.ft_lock_rules.specs.Listing.{times_listed}
use Rattle.ft_locks.specs.Slots.{is_on}
use Rattle.ft_locks.proofs.Listed.{cell_more}
use Rattle.ft_locks.proofs.listing.list_cells.Goals as goal

pub loop-locked-preserved : goal.loop-locked-preserved
loop-locked-preserved c = λ l.
    cell_more (c.in-Some.field-0-0, c.in-Some.locked.now) c.as_slice.result.now c.loop-locked.lines.items c.list_cell.new.lines.items l c.next.new.self c.as_slice.ensures.holdings c.as_slice.ensures.apart (c.in_ok-list_cell.ensures l)
    ∙ ap (λ es. times_listed c.loop-locked.lines.items l + count_by (λ p. is_on l p.1) es) (sym c.in-Some.ensures.steps)
    ∙ c.loop-locked.invariant l

pub returns : goal.returns
returns c = λ l.
    let none : times_listed c.loop-locked.lines.items l ≡ times_listed c.loop-locked.lines.items l + 0 = omega arith in
    none ∙ ap (λ es. times_listed c.loop-locked.lines.items l + count_by (λ p. is_on l p.1) es) (sym c.in-None.ensures.steps.0)
    ∙ c.loop-locked.invariant l
    ∙ ap (λ es. times_listed c.args.lines.now.items l + count_by (λ p. is_on l p.1) es) (c.into_iter-locked-iterator.ensures.into_iter_gives ∙ c.iter-locked-items.ensures.rest)
