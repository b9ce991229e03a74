-- The modes and owners of directories and files (POSIX.1-2017, Base Definitions, sys/stat.h). The
-- defaults, which apply if none are set, are rules of this project.
use Rattle.std.specs.Prelude.{ℕ, Bool, cond, ◌==◌, ◌&&◌, Option, Some, None}
use Rattle.ft_cells.specs.declared.attributes.TheConstants.{DIRECTORY_MODE, FILE_MODE, LINK_MODE}
use Rattle.ft_cells.specs.declared.attributes.Attributes.{Attributes}
use Rattle.ft_cells.specs.declared.node.Kind.{Kind}
use Rattle.ft_cells.specs.declared.node.Kind.TheVariants.{Dir as DirKind, File as FileKind, Link as LinkKind}

-- the mode if none is set: 0755 for a directory, 0644 for a file, and 0777 for a symbolic link
abbrev pub default_mode : Kind → ℕ
default_mode DirKind = DIRECTORY_MODE
default_mode FileKind = FILE_MODE
default_mode LinkKind = LINK_MODE

-- the attributes if none are set: owner and group are 0
abbrev pub default_attributes : Kind → Attributes
default_attributes kind = record { mode = default_mode kind; owner = 0; group = 0 }

-- the attributes have the same mode, owner and group
abbrev pub same_attributes : Attributes → Attributes → Bool
same_attributes a b = (a.mode == b.mode) && (a.owner == b.owner) && (a.group == b.group)

-- what is stored of attributes: nothing, if they are the defaults of the kind
abbrev pub kept_attributes : Kind → Attributes → Option Attributes
kept_attributes kind a = cond (same_attributes a (default_attributes kind)) None (Some a)

-- the attributes of a directory or file of a kind, if this is what is stored of them
abbrev pub attributes_from : Kind → Option Attributes → Attributes
attributes_from kind None = default_attributes kind
attributes_from kind (Some a) = a
