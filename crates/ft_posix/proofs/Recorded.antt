-- What is noted of looks that are made one after the other.
use Rattle.std.proofs.Common.{◌≡◌, List, [], ◌∷◌, refl}
use Rattle.std.specs.FinMap as finite
use Rattle.ft_cells.specs.declared.cell.Cell.{Cell}
use Rattle.ft_cells.specs.Looks.{Looks, Answer, Look, View, answer, looked_at, all_noted, then}
use Rattle.ft_posix.specs.declared.call.Mode.TheVariants.{Read as ReadMode}
use Rattle.ft_posix.specs.Accesses.{Modes, with_looks}
use Rattle.ft_posix.specs.Looking.{Looking, noted_at}

-- the looks of two parts, one after the other
pub with_looks-then : {A B : Type 0} (m : Modes) (s : Looks A) (f : A → Looks B) (v : View) → with_looks m (looked_at (then s f) v) ≡ with_looks (with_looks m (looked_at s v)) (looked_at (f (answer s v)) v)
with_looks-then m (Answer x) f v = refl
with_looks-then m (Look c next) f v = with_looks-then (finite.insert m c ReadMode) (next (v c)) f v

-- cell by cell, and all at once
pub all_noted-is : (old : Looking) (cs : List Cell) → all_noted noted_at old cs ≡ record { cells = old.cells; modes = with_looks old.modes cs; front = old.front }
all_noted-is old [] = refl
all_noted-is old (c ∷ cs) = all_noted-is (noted_at old c) cs
