-- The session that a handle owns.
use Rattle.std.specs.Prelude.{Option, Some, None}
use mir.Syntax.{Ty}
use base.Fml.{Fml, feq}
use denote.RattleType.{RattleType}
use denote.RawPtr.{Ptr, null_ptr}
use Rattle.std_alloc.specs.Box.Ownership.{box_owns}

-- A closed handle is null. One that holds a value is the pointer of a box with it, whose block
-- goes back by the token.
abbrev pub held : (Ty → Ptr → Fml) → (R : RattleType) → Ptr → Option R.Denot → Fml
held token R p None = feq Ptr p null_ptr
held token R p (Some x) = box_owns token R p x
