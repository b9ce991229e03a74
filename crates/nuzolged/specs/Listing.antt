-- The names of a directory, as C has them in a buffer.
use Rattle.std.specs.Prelude.{◌≡◌, ℕ, min, List, [], ◌∷◌, ◌++◌, length}
use Rattle.std.specs.List.{flat_map}
use Rattle.ft_cells.specs.declared.node.Kind.{Kind}
use Rattle.ft_cells.specs.declared.node.Kind.TheVariants as kind
use Rattle.ft_session.specs.Buffers.{filled}

-- 1 for a directory, 2 for a file, 3 for a symbolic link
abbrev pub kind_number : Kind → ℕ
kind_number kind.Dir = 1
kind_number kind.File = 2
kind_number kind.Link = 3

-- the kind of what it is a name of, its bytes, and a null byte
abbrev pub entry_of : (List ℕ × Kind) → List ℕ
entry_of name = kind_number name.1 ∷ (name.0 ++ 0 ∷ [])

-- all names, one after the other
abbrev pub listing : List (List ℕ × Kind) → List ℕ
listing names = flat_map entry_of names

-- how many bytes there are, as far as 64 bits tell
abbrev pub size_of : List ℕ → ℕ
size_of bytes = min 18446744073709551615 (length bytes)

-- If a buffer has what was copied so far, and it is told how much that is, these bytes are
-- copied after it, and it is told how much it is then.
abbrev pub GoesOn : List ℕ → ℕ → List ℕ → ℕ → List ℕ → Type 0
GoesOn bytes at old at' new =
    (done buffer : List ℕ) → at ≡ size_of done → old ≡ filled done buffer → (at' ≡ size_of (done ++ bytes)) × (new ≡ filled (done ++ bytes) buffer)
