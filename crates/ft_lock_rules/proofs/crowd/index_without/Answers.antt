use Rattle.std.proofs.Common.{subst, sym}
use Rattle.ft_lock_rules.specs.CellLocks.{IsIndexOf, IsIndexIf}
use Rattle.std.proofs.Common.{◌++◌, ◌∷◌, []}
use Rattle.ft_lock_rules.proofs.HolderReaders.{index_pop}
use Rattle.ft_lock_rules.proofs.crowd.index_without.Goals as goal

pub returns-in-Some : goal.returns-in-Some
returns-in-Some c = λ rest apart is.
    subst (λ x. IsIndexOf x rest) (sym c.remove.ensures)
    (index_pop c.in-Some.index rest c.args.last (subst (λ x. IsIndexIf x (rest ++ c.args.last ∷ [])) c.in-Some.is is) apart)
