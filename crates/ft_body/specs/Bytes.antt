-- The bytes of a file (POSIX.1-2017, Base Definitions, 3.164 File): what a read gives, and what a
-- write and a change of the length leave. XSH is POSIX.1-2017, System Interfaces.
use Rattle.std.specs.Prelude.{ℕ, ◌+◌, ◌-◌, List, [], ◌∷◌, ◌++◌, length, take, drop, replicate}
use Rattle.ft_body.specs.declared.TheConstants.{LARGEST_SIZE}

-- the bytes from an offset on, at most `count`; at or past the end there are none (XSH read, pread)
abbrev pub bytes_at : List ℕ → ℕ → ℕ → List ℕ
bytes_at bytes offset count = take count (drop offset bytes)

-- how many bytes there is room for at an offset below a limit (XSH write, which leaves the limit
-- open)
abbrev pub room_at : ℕ → ℕ → ℕ
room_at limit offset = limit - offset

-- as many of the bytes as there is room for at an offset below a limit (XSH write)
abbrev pub fitting : ℕ → List ℕ → ℕ → List ℕ
fitting limit bytes offset = take (room_at limit offset) bytes

-- the bytes, and after them zeros up to a length (XSH lseek on gaps, ftruncate)
abbrev pub padded : List ℕ → ℕ → List ℕ
padded bytes size = bytes ++ replicate (size - length bytes) 0

-- the bytes cut to a length, or padded up to it (XSH ftruncate)
abbrev pub resized : List ℕ → ℕ → List ℕ
resized bytes size = take size (padded bytes size)

-- the bytes with others laid over them from an offset on, which may extend past the end (XSH write,
-- pwrite)
abbrev pub laid_over : List ℕ → ℕ → List ℕ → List ℕ
laid_over bytes offset others = take offset bytes ++ others ++ drop (offset + length others) bytes

-- the bytes after others were written at an offset, with zeros in a gap; writing none changes
-- nothing (XSH write, pwrite; lseek on gaps)
abbrev pub written : List ℕ → ℕ → List ℕ → List ℕ
written bytes offset [] = bytes
written bytes offset (first ∷ more) = laid_over (padded bytes offset) offset (first ∷ more)

-- the bytes after a write at an offset: as many of the others were written as there is room for below
-- the largest size (XSH write, pwrite)
abbrev pub after_write : List ℕ → ℕ → List ℕ → List ℕ
after_write bytes offset others = written bytes offset (fitting LARGEST_SIZE others offset)

-- a change of a body: its bytes before and after
pub record BodyChange : Type 0 where
  pub before : List ℕ
  pub after : List ℕ
