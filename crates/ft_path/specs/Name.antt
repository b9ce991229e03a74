-- The names that a file in a directory may have (POSIX.1-2017, Base Definitions, 3.170 Filename): 1
-- to {NAME_MAX} bytes (limits.h), none of them null or a slash. Dot and dot-dot are names too.
-- Their meaning is decided when a path is resolved (4.13 Pathname Resolution). Names and paths are
-- compared as lists of bytes (std's `pointwise nat_eq`), and are ordered by their bytes (`slice_cmp
-- nat_cmp`).
use Rattle.std.specs.Prelude.{◌≡◌, ◌<◌, ◌≤◌, ◌==◌, ℕ, Bool, false, List, codes, length, nat_eq}
use Rattle.std.specs.List.{list_any}
use Rattle.std.specs.Cmp.Lexicographic.{pointwise}
use Rattle.ft_path.specs.declared.TheConstants.{LONGEST_NAME}

-- the byte `/` (3.271 Pathname)
abbrev pub slash : ℕ
slash = 47

-- some byte is null
abbrev pub has_nul : List ℕ → Bool
has_nul bytes = list_any (λ byte. byte == 0) bytes

-- some byte is a slash
abbrev pub has_slash : List ℕ → Bool
has_slash bytes = list_any (λ byte. byte == slash) bytes

-- no byte is null: the bytes are a string, as a pathname is (3.271)
abbrev pub IsNulFree : List ℕ → Type 0
IsNulFree bytes = has_nul bytes ≡ false

-- a name: 1 to 255 bytes, none of them null or a slash. `.` and `..` are names too.
pub record IsName (bytes : List ℕ) : Type 0 where
  pub not_empty : 0 < length bytes
  pub short : length bytes ≤ LONGEST_NAME
  pub no_nul : IsNulFree bytes
  pub no_slash : has_slash bytes ≡ false

-- the name `.`, of a directory in itself (4.13)
abbrev pub is_dot : List ℕ → Bool
is_dot name = pointwise nat_eq name (codes ".")

-- the name `..`, of a directory's parent (4.13)
abbrev pub is_dot_dot : List ℕ → Bool
is_dot_dot name = pointwise nat_eq name (codes "..")
