-- The state of a comparison as its definitions see it.
use Rattle.std.specs.Prelude.{ℕ, map, List, Option}
use Rattle.std.specs.Option.{option_map}
use Rattle.std.specs.Map.{lookup}
use Rattle.ft_copy.specs.Told.{same_file}
use Rattle.ft_copy.specs.Walks.{FirstPaths}
use Rattle.ft_into.specs.declared.comparison.Comparing.{Comparing}
use Rattle.ft_into.specs.declared.comparison.OpenFile.{OpenFile}
use Rattle.ft_into.specs.declared.comparison.SameFile.{SameFile}
use Rattle.ft_into.specs.declared.kept.Kept.{Kept}
use Rattle.ft_into.specs.declared.names.Names.{Names}
use Rattle.ft_into.specs.Knows as knows

-- the paths and numbers of names
abbrev pub names_of : Names → knows.Names
names_of names = map (λ entry. (entry.0.items, entry.1)) names.nodes.entries

-- the paths of files that stay
abbrev pub kept_of : Kept → FirstPaths
kept_of kept id = lookup (same_file id) kept.paths.entries

module _ {F : Type 0} (remaining : F → Option (List ℕ)) where
  -- a file that may stay, by what its reader has left
  abbrev pub same_of : Option (SameFile F) → Option knows.SameFile
  same_of same = option_map (λ file. record { found = file.found; left = remaining file.file }) same

  -- the file that is open
  abbrev pub opening_of : Option (OpenFile F) → Option knows.Opening
  opening_of file = option_map (λ it. record { step = it.step; same = same_of it.same }) file

  -- all that a comparison knows
  abbrev pub seen : {S : Type 0} → Comparing S F → knows.Comparison
  seen comparing = record {
    names = names_of comparing.names;
    kept = kept_of comparing.kept;
    steps = comparing.steps.items.items;
    top = comparing.top;
    opening = opening_of comparing.file;
    is_linking = comparing.is_linking;
  }
