-- The contents of a buffer into which bytes were copied.
use Rattle.std.specs.Prelude.{ℕ, List, ◌++◌, length, take, drop, Option, Some, None}

-- as many of the bytes as have room, and the rest of the buffer as it was
abbrev pub filled : List ℕ → List ℕ → List ℕ
filled bytes buffer = take (length buffer) bytes ++ drop (length bytes) buffer

-- the same of bytes, if there are some
abbrev pub filled_by : Option (List ℕ) → List ℕ → List ℕ
filled_by None buffer = buffer
filled_by (Some bytes) buffer = filled bytes buffer
