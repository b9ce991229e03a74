-- A list of what undoes calls, put to the cells.
use Rattle.std.specs.Prelude.{◌≡◌, List, [], ◌∷◌, map}
use Rattle.ft_cells.specs.Cells.{Cells}
use Rattle.ft_posix.specs.Stored.{put_all}
use Rattle.ft_undo.specs.declared.logs.LogRecord.{LogRecord}
use Rattle.ft_undo.specs.Undone.{given_back, CanGiveAllBack}

-- each call is undone, from the newest on
abbrev pub taken_back : List LogRecord → Cells → Cells
taken_back [] cells = cells
taken_back (x ∷ xs) cells = taken_back xs (put_all cells (map given_back x.undo))

-- each may be when its turn comes
abbrev pub CanTakeBack : List LogRecord → Cells → Type 0
CanTakeBack [] cells = Unit {0}
CanTakeBack (x ∷ xs) cells = CanGiveAllBack cells x.undo × CanTakeBack xs (put_all cells (map given_back x.undo))

-- the newest call of a list, if there is one, is undone
abbrev pub TakesNewest : List LogRecord → Cells → Cells → Type 0
TakesNewest records old new = (x : LogRecord) (xs : List LogRecord) → records ≡ x ∷ xs → new ≡ put_all old (map given_back x.undo)
