-- The rule of the book, and the effect of its step.
use Rattle.std.specs.Prelude.{ℕ, ◌≡◌, ◌==◌, true, List, [], ◌∷◌, ◌++◌, length, MatchBool}
use Rattle.logbook.specs.Pages.{Cell, Step, View, Book, Named}
use Rattle.ft_posix.specs.declared.stamped.StampedCall.{StampedCall}

-- the first word of a book is the length of its history, and the second, which is not used, is 0
abbrev pub IsKept : List Cell → List StampedCall → Type 0
IsKept cells log = cells ≡ (length log, true) ∷ (0, true) ∷ []

-- the first word of a book, as it is named
abbrev pub head_of : Book → Named
head_of b = record { tracked = true; key = 0; book = b }

-- a step adds the call to the history that was seen, or finds the length of a history that is
-- longer
abbrev pub Adds : Step StampedCall → View StampedCall ℕ → ℕ → View StampedCall ℕ → Type 0
Adds s v found w = MatchBool (found == s.old) (w.0 ≡ v.0 ++ s.ask ∷ []) (length w.0 ≡ found)
