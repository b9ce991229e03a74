-- Accesses, except for reads of cells that are known in advance: the entries on the way of a path's
-- front.
use Rattle.std.specs.Prelude.{◌≡◌, ◌≢◌, ◌⊎◌, List, [], ◌∷◌, Some, None}
use Rattle.std.specs.FinMap as finite
use Rattle.ft_laws.specs.Lists.{In}
use Rattle.ft_cells.specs.declared.cell.Cell.{Cell}
use Rattle.ft_posix.specs.declared.call.Mode.TheVariants.{Read as ReadMode, Write as WriteMode}
use Rattle.ft_posix.specs.declared.call.Access.{Access}
use Rattle.ft_posix.specs.Accesses.{Modes, listed}

-- the first modes are the second, except that a cell of the front that is read may be missing
abbrev pub AreBut : List Cell → Modes → Modes → Type 0
AreBut front some all = (c : Cell) → (finite.get some c ≡ finite.get all c) ⊎ (In c front × (finite.get some c ≡ None) × (finite.get all c ≡ Some ReadMode))

-- the list has each access of these modes, except for some reads of the front
pub record AreListedBut (front : List Cell) (modes : Modes) (list : List Access) : Type 0 where
  pub some : Modes
  pub are : AreBut front some modes
  pub list_is : list ≡ listed some

-- a read of a cell of the front
abbrev pub IsReadOf : List Cell → Access → Type 0
IsReadOf front a = In a.cell front × (a.mode ≡ ReadMode)

-- Two lists have the same accesses, except for reads of cells of the front.
pub record AreAlikeBut (front : List Cell) (xs ys : List Access) : Type 0 where
  pub one : (a : Access) → In a xs → In a ys ⊎ IsReadOf front a
  pub other : (a : Access) → In a ys → In a xs ⊎ IsReadOf front a

-- the access of each cell of a front
abbrev pub reads_of : List Cell → List Access
reads_of [] = []
reads_of (c ∷ cs) = record { cell = c; mode = ReadMode } ∷ reads_of cs

-- no cell is written
abbrev pub AreReads : Modes → Type 0
AreReads modes = (c : Cell) → finite.get modes c ≢ Some WriteMode
