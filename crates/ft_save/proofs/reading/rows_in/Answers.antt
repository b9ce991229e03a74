use Rattle.std.proofs.Common.{◌≡◌, ◌-◌, ◌∷◌, ◌++◌, List, suc, sym, ap, ◌∙◌, arith, rules}
use Rattle.std.specs.Prelude.{option_map}
use Rattle.ft_save.specs.declared.row.Row.{Row}
use Rattle.ft_save.specs.Reading.{rows_of}
use Rattle.ft_save.proofs.Rows.{next_row}
use Rattle.ft_save.proofs.reading.rows_in.Goals as goal

pub loop-left-preserved : goal.loop-left-preserved
loop-left-preserved c =
    let left = c.loop-left.left in
    let rest_is : c.loop-left.rest ≡ c.in-Some.line.now ∷ c.next.new.self = search rules in
    let one : left ≡ suc (left - 1) = let some = c.loop-left-test.true in omega (arith, some) in
    next_row _ c.loop-left.rows.items left (left - 1) c.loop-left.rest c.in-Some.line.now c.next.new.self c.in-Some-2.row c.loop-left.invariant one rest_is (sym c.in_ok-row.ensures ∙ c.in-Some-2.is)
    ∙ ap (λ (rows : List Row). option_map (λ others. rows ++ others) (rows_of (left - 1) c.next.new.self)) (sym c.in_ok-push.ensures.items)
