-- When what a directory holds has what it is to have of a tree.
use Rattle.std.specs.Prelude.{◌==◌, ◌&&◌, ◌||◌, ◌%◌, Bool, true, false, not, pos, int_lt, if◌then◌else◌, Option, None, Some}
use Rattle.std.specs.Ordering.{int_eq}
use Rattle.ft_cells.specs.declared.attributes.Attributes.{Attributes}
use Rattle.ft_cells.specs.declared.attributes.Timestamp.{Timestamp}
use Rattle.ft_into.specs.declared.wishes.Wishes.{Wishes}

-- Attributes are given where they are the same. Where owners are not given, and are others, a mode
-- is given without S_ISUID and S_ISGID, 04000 and 02000.
abbrev pub are_given : Wishes → Attributes → Attributes → Bool
are_given wishes wanted held =
    if (wanted.owner == held.owner) && (wanted.group == held.group) then wanted.mode == held.mode
    else not wishes.owners && ((wanted.mode % 1024) == held.mode)

-- the time that is wanted is held
abbrev pub is_held : Timestamp → Option Timestamp → Bool
is_held wanted None = false
is_held wanted (Some held) = int_eq wanted.seconds held.seconds && (wanted.nanoseconds == held.nanoseconds)

-- A file has the time that is wanted: any, where there is none, or one before 1970, which can't be
-- given.
abbrev pub is_timed : Option Timestamp → Option Timestamp → Bool
is_timed None held = true
is_timed (Some wanted) held = int_lt wanted.seconds (pos 0) || is_held wanted held
