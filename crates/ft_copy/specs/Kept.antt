-- The part of a mode that a copy keeps.
use Rattle.std.specs.Prelude.{◌%◌, ℕ, if◌then◌else◌}
use Rattle.ft_cells.specs.declared.attributes.Attributes.{Attributes}
use Rattle.ft_copy.specs.declared.found.Given.{Given}
use Rattle.ft_copy.specs.declared.limits.CopyLimits.{CopyLimits}

-- a mode without S_ISUID and S_ISGID, 04000 and 02000, the two highest of its twelve bits
abbrev pub without_set_id : ℕ → ℕ
without_set_id mode = mode % 1024

-- the attributes of a copy: a mode has those two bits only if they may be copied
abbrev pub kept_attributes : CopyLimits → Attributes → Attributes
kept_attributes limits a = if limits.set_id then a else record a { mode = without_set_id a.mode }

-- what the copy of a file is given
abbrev pub kept_given : CopyLimits → Given → Given
kept_given limits given = record { attributes = kept_attributes limits given.attributes; time = given.time }
