-- The rest of a path after a front of it, which is a text that ends in a slash.
use Rattle.std.specs.Prelude.{◌≡◌, ◌≢◌, ℕ, List, [], ◌∷◌, ◌++◌}
use Rattle.ft_path.specs.declared.path.Parts.{Parts}
use Rattle.ft_path.specs.Name.{slash}
use Rattle.ft_path.specs.FilePath.{components}

-- the last byte is a slash
abbrev pub EndsInSlash : List ℕ → Type 0
EndsInSlash text = (before : List ℕ) × (text ≡ before ++ slash ∷ [])

-- the components of a path are those of the front and then those of the rest, which has some;
-- either both the rest and the path have a trailing slash, or neither
pub record IsBehind (front : List ℕ) (rest whole : Parts) : Type 0 where
  pub names : whole.names ≡ components front ++ rest.names
  pub some : rest.names ≢ []
  pub trailing : rest.trailing ≡ whole.trailing
