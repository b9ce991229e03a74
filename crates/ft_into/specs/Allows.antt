-- The steps that a comparison may find.
use Rattle.std.specs.Prelude.{◌≡◌, ◌⊎◌, ℕ, true, List}
use Rattle.std.specs.List.{All}
use Rattle.ft_copy.specs.declared.found.Found.{Found}
use Rattle.ft_copy.specs.Told.{Told, Finds}
use Rattle.ft_into.specs.declared.step.Act.{Act}
use Rattle.ft_into.specs.declared.step.Act.TheVariants.{Add, Change, Remove}
use Rattle.ft_into.specs.declared.step.Step.{Step}
use Rattle.ft_into.specs.declared.step.Thing.{Thing}
use Rattle.ft_into.specs.declared.step.Thing.TheVariants as things
use Rattle.ft_into.specs.declared.wishes.Wishes.{Wishes}
use Rattle.ft_into.specs.Steps.{thing_of}

-- What was found is changed as this: a directory, a file or a symbolic link as what it is, and a
-- file or a symbolic link as a further name of one.
abbrev pub IsChangedAs : Thing → Found → Type 0
IsChangedAs things.Folder found = thing_of found ≡ things.Folder
IsChangedAs things.File found = thing_of found ≡ things.File
IsChangedAs things.Link found = (thing_of found ≡ things.File) ⊎ (thing_of found ≡ things.Symlink)
IsChangedAs things.Symlink found = thing_of found ≡ things.Symlink
IsChangedAs things.Special found = ⊥

module _ (tells : Told → Type 0) where
  -- the source told of something at the path, of which this holds
  abbrev pub FindsAt : List ℕ → (Found → Type 0) → Type 0
  FindsAt path holds = (node : ℕ) × (found : Found) × tells (Finds path node found) × holds found

  -- a step removes what the source told of
  abbrev pub IsRemoval : Step → Type 0
  IsRemoval step = (step.act ≡ Remove) × FindsAt step.path (λ found. step.thing ≡ thing_of found)

  -- What a step may do: it may always add something; it may change what the source told of, to
  -- something of the same kind; and remove what the source told of, where that is wished.
  abbrev pub IsAllowedAs : Wishes → Act → Step → Type 0
  IsAllowedAs wishes Add step = Unit {0}
  IsAllowedAs wishes Change step = FindsAt step.path (IsChangedAs step.thing)
  IsAllowedAs wishes Remove step = (wishes.removes ≡ true) × IsRemoval step

  abbrev pub IsAllowed : Wishes → Step → Type 0
  IsAllowed wishes step = IsAllowedAs wishes step.act step

  abbrev pub AreAllowed : Wishes → List Step → Type 0
  AreAllowed wishes steps = All (IsAllowed wishes) steps
