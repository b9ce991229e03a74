-- Edits that keep files within the largest size.
use Rattle.std.specs.Prelude.{◌≤◌, List, [], ◌∷◌}
use Rattle.ft_body.specs.declared.TheConstants.{LARGEST_SIZE}
use Rattle.ft_posix.specs.declared.intent.Edit.{Edit}
use Rattle.ft_posix.specs.declared.intent.Edit.TheVariants.{Entry, Parent, Links, Overwrite, Resize, Open, DirAttributes, FileAttributes, Time}

-- the edited offsets and sizes are within the largest size
abbrev pub IsWithin : Edit → Type 0
IsWithin (Entry entry to) = Unit {0}
IsWithin (Parent d to) = Unit {0}
IsWithin (Links i to) = Unit {0}
IsWithin (Overwrite i at bytes) = at ≤ LARGEST_SIZE
IsWithin (Resize i size) = size ≤ LARGEST_SIZE
IsWithin (Open f to) = Unit {0}
IsWithin (DirAttributes d to) = Unit {0}
IsWithin (FileAttributes i to) = Unit {0}
IsWithin (Time i to) = Unit {0}

-- all edits are within it
abbrev pub AreWithin : List Edit → Type 0
AreWithin [] = Unit {0}
AreWithin (e ∷ es) = IsWithin e × AreWithin es
