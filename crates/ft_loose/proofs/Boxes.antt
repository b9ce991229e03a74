-- A loose box owns what a box of the same pointer and value owns, in the same machine value.
use denote.RattleType.{RattleType}
use Rattle.std_alloc.proofs.BoxSteps.Form as box
use Rattle.ft_loose.specs.contracts.RawBox as loose

module _ (E : box.Bx) where
  -- the type of a loose box
  abbrev pub Row : RattleType
  Row = loose.the_row (box.R E) (box.P E) E.al.g

  -- the box that it is
  abbrev pub boxed : Row.Denot → box.D E
  boxed l = record { ptr = l.at; alloc = l.alloc; value = l.value }
