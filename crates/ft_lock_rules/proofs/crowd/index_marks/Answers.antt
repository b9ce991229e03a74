use Rattle.std.proofs.Common.{refl, subst}
use Rattle.ft_lock_rules.specs.CellLocks.{IsIndexIf}
use Rattle.ft_lock_rules.proofs.HolderReaders.{index_own}
use Rattle.ft_lock_rules.proofs.crowd.index_marks.Goals as goal

pub returns-in-Some : goal.returns-in-Some
returns-in-Some c = λ list owner apart at is.
    index_own c.in-Some.index c.mark.new.self list (subst (λ x. IsIndexIf x list) c.in-Some.is is) apart c.args.place owner at (record { owner = owner; marks = c.args.marks }) refl
    c.mark.ensures.places c.mark.ensures.later c.mark.ensures.writer
