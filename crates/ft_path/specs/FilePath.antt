-- The text of a path (POSIX.1-2017, Base Definitions, 3.271 Pathname): filenames separated by
-- slashes, with any slashes before and after them. Several slashes in a row count as one. POSIX
-- leaves two leading slashes open: that they count as one is a rule of this project. The faults of
-- a text are found before any lookup (4.13 Pathname Resolution): a null pathname does not resolve,
-- and the limits are {PATH_MAX} and {NAME_MAX} (limits.h).
use Rattle.std.specs.Prelude.{◌≡◌, ℕ, Bool, false, if◌then◌else◌, ◌==◌, ◌&&◌, ◌-◌, slice_get, nat_lt, nat_eq, List, [], ◌∷◌, length, filter, Result, Ok, Err, IsOk, Option, None, Some}
use Rattle.std.specs.Borrow.{Bor}
use Rattle.std.specs.List.{list_any, slice_split, ends_with}
use Rattle.ft_path.specs.declared.TheConstants.{LONGEST_NAME, LONGEST_PATH}
use Rattle.ft_path.specs.declared.errno.Errno.{Errno}
use Rattle.ft_path.specs.declared.errno.Errno.TheVariants.{ENOENT, ENAMETOOLONG, EINVAL}
use Rattle.ft_path.specs.declared.path.Parts.{Parts}
use Rattle.ft_path.specs.declared.path.PartsFault.{PartsFault}
use Rattle.ft_path.specs.declared.path.PartsFault.TheVariants.{Memory, Errno as TextFault}
use Rattle.ft_path.specs.declared.path.LastName.{LastName}
use Rattle.ft_path.specs.declared.path.LastName.TheVariants.{Absent, Dot, DotDot, Plain}
use Rattle.ft_path.specs.Name.{slash, has_nul, is_dot, is_dot_dot}

-- a piece between slashes is a component if it is not empty
abbrev pub is_component : List ℕ → Bool
is_component piece = nat_lt 0 (length piece)

-- the pieces that are left: none if no text is left
abbrev pub pieces_left : Option (Bor (List ℕ)) → List (List ℕ)
pieces_left None = []
pieces_left (Some text) = slice_split (λ byte. byte == slash) text.now

-- the components of a path, in order (3.272 Pathname Component): the pieces between slashes, except
-- the empty ones
abbrev pub components : List ℕ → List (List ℕ)
components bytes = filter is_component (slice_split (λ byte. byte == slash) bytes)

-- a component has more than 255 bytes ({NAME_MAX})
abbrev pub is_long : List ℕ → Bool
is_long component = nat_lt LONGEST_NAME (length component)

-- there is a component, and slashes follow the last one (4.13)
abbrev pub has_trailing_slash : List ℕ → Bool
has_trailing_slash bytes = nat_lt 0 (length (components bytes)) && ends_with nat_eq bytes (slash ∷ [])

-- the parts of a path, or the first fault of its text in this order: no bytes, ENOENT (4.13); more
-- than 4,095 bytes, ENAMETOOLONG; a component of more than 255 bytes, ENAMETOOLONG (System
-- Interfaces, 2.3; {PATH_MAX} is 4,096 with the null byte). The order is a rule of this project.
abbrev pub parts_of : List ℕ → Result Parts Errno
parts_of bytes =
    if length bytes == 0 then Err ENOENT
    else if nat_lt LONGEST_PATH (length bytes) then Err ENAMETOOLONG
    else if list_any is_long (components bytes) then Err ENAMETOOLONG
    else Ok (record { names = components bytes; trailing = has_trailing_slash bytes })

-- the path begins with a slash: it is absolute (3.2 Absolute Pathname)
abbrev pub begins_with_slash : List ℕ → Bool
begins_with_slash [] = false
begins_with_slash (byte ∷ bytes) = byte == slash

-- the parts of the text of a symbolic link (3.381 Symbolic Link): those of a path. A null byte,
-- which no call puts there, gives EINVAL. This is a rule of this project.
abbrev pub target_parts : List ℕ → Result Parts Errno
target_parts bytes = if has_nul bytes then Err EINVAL else parts_of bytes

-- what a last component is, if there is one
abbrev pub last_name : Option (List ℕ) → LastName
last_name None = Absent
last_name (Some name) = if is_dot name then Dot else if is_dot_dot name then DotDot else Plain

-- what the last of some components is
abbrev pub last_of : List (List ℕ) → LastName
last_of names = last_name (slice_get names (length names - 1))

-- the answer is the wanted one. Out of memory may be returned instead of parts, but never instead
-- of a fault of the text (a rule of this project).
abbrev pub IsAnswer : Result Parts Errno → Result Parts PartsFault → Type 0
IsAnswer wanted (Ok parts) = wanted ≡ Ok parts
IsAnswer wanted (Err (TextFault errno)) = wanted ≡ Err errno
IsAnswer wanted (Err Memory) = IsOk wanted
