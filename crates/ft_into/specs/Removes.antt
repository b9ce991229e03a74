-- The steps that remove something with its contents.
use Rattle.std.specs.Prelude.{◌≡◌, List, [], ◌∷◌, ◌++◌, map, reverse}
use Rattle.std.specs.List.Sorted.{IsPermutation, IsSorted}
use Rattle.ft_copy.specs.declared.found.CopyPath.{CopyPath}
use Rattle.ft_copy.specs.declared.found.FolderEntry.{FolderEntry}
use Rattle.ft_copy.specs.declared.found.Found.{Found}
use Rattle.ft_copy.specs.declared.found.Found.TheVariants as found
use Rattle.ft_copy.specs.Told.{Told, Finds, Lists}
use Rattle.ft_copy.specs.Walks.{child, name_order}
use Rattle.ft_into.specs.declared.step.Act.TheVariants.{Remove}
use Rattle.ft_into.specs.declared.step.Step.{Step}
use Rattle.ft_into.specs.Knows.{Names}
use Rattle.ft_into.specs.Steps.{thing_of}

-- the step that removes what was found at a place
abbrev pub removal : CopyPath → Found → Step
removal place found = record { act = Remove; thing = thing_of found; path = place.path }

module _ (tells : Told → Type 0) where
  -- the contents of what was found at a place, in the order of their names, as the source lists them
  abbrev pub AreInside : CopyPath → Found → List CopyPath → Type 0
  AreInside place (found.Folder folder) inside =
      (told : List FolderEntry) × (names : List FolderEntry) × tells (Lists place.path place.node folder.id told) × IsPermutation told names × IsSorted name_order names
      × (inside ≡ map (child place.path) names)
  AreInside place (found.File file) inside = inside ≡ []
  AreInside place (found.Symlink facts) inside = inside ≡ []
  AreInside place found.Special inside = inside ≡ []

  -- The last place is to be removed, and its contents are to be removed before it.
  abbrev pub TakesNext : List CopyPath → Step → List CopyPath → Type 0
  TakesNext left step new =
      (rest : List CopyPath) × (place : CopyPath) × (found : Found) × (inside : List CopyPath) × (left ≡ rest ++ place ∷ []) × tells (Finds place.path place.node found)
      × AreInside place found inside × (step ≡ removal place found) × (new ≡ rest ++ inside)

  -- one place after another
  abbrev pub TakesAll : List CopyPath → List Step → List CopyPath → Type 0
  TakesAll left [] new = new ≡ left
  TakesAll left (step ∷ more) new = (middle : List CopyPath) × TakesNext left step middle × TakesAll middle more new

  -- These steps remove what is at a place with all its contents, as the source reports them. The
  -- contents of a directory are removed before it.
  abbrev pub Removes : CopyPath → List Step → Type 0
  Removes place steps = (turned : List Step) × TakesAll (place ∷ []) turned [] × (steps ≡ reverse turned)

  -- what is at each of these names is removed, the last name first
  abbrev pub RemovesNames : Names → List Step → Type 0
  RemovesNames [] removals = removals ≡ []
  RemovesNames (name ∷ more) removals =
      (later : List Step) × (own : List Step) × RemovesNames more later × Removes (record { path = name.0; node = name.1 }) own × (removals ≡ later ++ own)
