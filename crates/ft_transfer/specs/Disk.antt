-- The reports of the disk on its files.
use Rattle.std.specs.Prelude.{ℕ, List}

-- A report: a file of this name had these bytes when it was read; it was given these bytes; or it
-- could not be read or written.
pub data FileTold : Type 0 where
  Reads : (name : List ℕ) → (bytes : List ℕ) → FileTold
  Writes : (name : List ℕ) → (bytes : List ℕ) → FileTold
  Fails : (name : List ℕ) → FileTold

-- no file is read or written
abbrev pub OnlyFails : FileTold → Type 0
OnlyFails (Reads name bytes) = ⊥
OnlyFails (Writes name bytes) = ⊥
OnlyFails (Fails name) = Unit {0}
