use Rattle.std.proofs.Common.{◌≡◌, ◌++◌}
use Rattle.std.specs.Prelude.{option_map}
use Rattle.ft_save.specs.Reading.{rows_of}
use Rattle.ft_save.proofs.reading.rows_in.Given as goal

-- the rows so far, and then what is left
abbrev pub invariant-loop-left : goal.invariant-loop-left
invariant-loop-left l = rows_of l.count l.initial.rest ≡ option_map (λ others. l.rows.items ++ others) (rows_of l.left l.rest)

abbrev pub decreases-loop-left : goal.decreases-loop-left
decreases-loop-left l = l.left
