-- The knowledge of a comparison about a directory.
use Rattle.std.specs.Prelude.{ℕ, Bool, false, nat_lt, List, [], ◌∷◌, ◌++◌, Option, None, if◌then◌else◌}
use Rattle.std.specs.BTreeMap.{insert_entry}
use Rattle.std.specs.Cmp.Lexicographic.{slice_cmp}
use Rattle.std.specs.Ordering.{is_eq, nat_cmp}
use Rattle.std.specs.declared.cmp.Ordering.{Ordering}
use Rattle.ft_copy.specs.declared.found.FileFacts.{FileFacts}
use Rattle.ft_copy.specs.declared.found.FolderEntry.{FolderEntry}
use Rattle.ft_copy.specs.declared.found.FoundFile.{FoundFile}
use Rattle.ft_copy.specs.declared.found.FoundFolder.{FoundFolder}
use Rattle.ft_copy.specs.Walks.{FirstPaths, with_first}
use Rattle.ft_into.specs.declared.step.Step.{Step}

-- The paths that were listed and not requested yet, in their order. Each has the number by which
-- the source knows what is there.
abbrev pub Names : Type 0
Names = List (List ℕ × ℕ)

-- the order of paths, by their bytes
abbrev pub path_order : List ℕ → List ℕ → Ordering
path_order = slice_cmp nat_cmp

-- both are one path
abbrev pub is_path : List ℕ → List ℕ → Bool
is_path path other = is_eq (path_order path other)

-- the names with those of a directory
abbrev pub with_names : List ℕ → List FolderEntry → Names → Names
with_names path [] names = names
with_names path (entry ∷ more) names = insert_entry path_order (with_names path more names) (path ++ 47 ∷ entry.name) entry.node

-- the files that stay, with one more, if it has more names than one
abbrev pub with_kept : FileFacts → List ℕ → FirstPaths → FirstPaths
with_kept facts path kept = if nat_lt 1 facts.links then with_first facts.id path kept else kept

-- A file of the directory that may stay as it is: what was found, and which of its bytes were not
-- compared yet, if that is known.
pub record SameFile : Type 0 where
  pub found : FoundFile
  pub left : Option (List ℕ)

-- The file that is requested: the step that it takes unless it stays, and the file that may stay.
pub record Opening : Type 0 where
  pub step : Step
  pub same : Option SameFile

-- What a comparison knows: the names that were not requested yet; the path of each file or symbolic
-- link that stays and has several names; the steps so far; the root; the file that is open; and
-- whether symbolic links are requested now.
pub record Comparison : Type 0 where
  pub names : Names
  pub kept : FirstPaths
  pub steps : List Step
  pub top : Option FoundFolder
  pub opening : Option Opening
  pub is_linking : Bool

-- nothing was requested yet
abbrev pub fresh : Comparison
fresh = record { names = []; kept = λ _. None; steps = []; top = None; opening = None; is_linking = false }
