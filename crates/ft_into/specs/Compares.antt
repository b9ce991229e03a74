-- The steps from what a source reports of a directory to a tree: exactly what differs.
use Rattle.std.specs.Prelude.{◌≡◌, ◌≢◌, ◌⊎◌, ℕ, Bool, true, false, List, [], ◌∷◌, ◌++◌, Option, None, Some, IsSome, IfSome, IsFalse, IsTrue, if◌then◌else◌}
use Rattle.std.specs.Io.KnownBytes.{Consumes, IsAtEnd}
use Rattle.std.specs.Map.{lookup, remove_entry}
use Rattle.std.specs.Option.{option_map}
use Rattle.ft_cells.specs.declared.attributes.Attributes.{Attributes}
use Rattle.ft_cells.specs.declared.attributes.Timestamp.{Timestamp}
use Rattle.ft_copy.specs.declared.found.TheConstants.{ROOT}
use Rattle.ft_copy.specs.declared.found.FileFacts.{FileFacts}
use Rattle.ft_copy.specs.declared.found.FileId.{FileId}
use Rattle.ft_copy.specs.declared.found.FolderEntry.{FolderEntry}
use Rattle.ft_copy.specs.declared.found.FoundFile.{FoundFile}
use Rattle.ft_copy.specs.declared.found.FoundFolder.{FoundFolder}
use Rattle.ft_copy.specs.declared.found.Found.{Found}
use Rattle.ft_copy.specs.declared.found.Found.TheVariants as found
use Rattle.ft_copy.specs.declared.limits.CopyLimits.{CopyLimits}
use Rattle.ft_copy.specs.Asked.{Asked, Start, Folder, Open, Piece, Close, Link, Symlink, Finish, GiveUp}
use Rattle.ft_copy.specs.Runs.{Copies}
use Rattle.ft_copy.specs.Told.{Told, Finds, Holds, Leads, Lists}
use Rattle.ft_copy.specs.Walks.{FirstPaths}
use Rattle.ft_into.specs.declared.step.Act.{Act}
use Rattle.ft_into.specs.declared.step.Act.TheVariants.{Add, Change}
use Rattle.ft_into.specs.declared.step.Step.{Step}
use Rattle.ft_into.specs.declared.step.Thing.{Thing}
use Rattle.ft_into.specs.declared.step.Thing.TheVariants as things
use Rattle.ft_into.specs.declared.wishes.Wishes.{Wishes}
use Rattle.ft_into.specs.Knows.{Comparison, Names, Opening, SameFile, fresh, is_path, with_kept, with_names}
use Rattle.ft_into.specs.Removes.{Removes, RemovesNames}
use Rattle.ft_into.specs.Wishes.{are_given, is_timed}

-- one step
abbrev pub one_step : Act → Thing → List ℕ → List Step
one_step act thing path = record { act = act; thing = thing; path = path } ∷ []

-- a change, unless this holds
abbrev pub change_unless : Bool → Thing → List ℕ → List Step
change_unless same thing path = if same then [] else one_step Change thing path

-- these bytes are not next in a file whose bytes are known
abbrev pub AreOthers : Option (List ℕ) → List ℕ → Type 0
AreOthers left bytes = IfSome left (λ all. (rest : List ℕ) → all ≢ bytes ++ rest)

-- bytes are left in a file whose bytes are known
abbrev pub HasMore : Option (List ℕ) → Type 0
HasMore left = IfSome left (λ all. all ≢ [])

-- what is there may be another name of what is requested: a symbolic link if one is requested, and
-- else a file
abbrev pub linked : Found → Bool → Option FileFacts
linked (found.Folder folder) is_linking = None
linked (found.File file) is_linking = if is_linking then None else Some file.facts
linked (found.Symlink facts) is_linking = if is_linking then Some facts else None
linked found.Special is_linking = None

-- what is there is no directory, no file, and no symbolic link
abbrev pub IsNoFolder : Found → Type 0
IsNoFolder here = (folder : FoundFolder) → here ≢ found.Folder folder

abbrev pub IsNoFile : Found → Type 0
IsNoFile here = (file : FoundFile) → here ≢ found.File file

abbrev pub IsNoSymlink : Found → Type 0
IsNoSymlink here = (facts : FileFacts) → here ≢ found.Symlink facts

module _ (tells : Told → Type 0) where
  -- What the source has at a path, and the number by which it knows it. If no directory listed the
  -- path, or it was requested before, there is nothing.
  abbrev pub IsThere : List ℕ → Names → Option (ℕ × Found) → Names → Type 0
  IsThere path old there new =
      (lookup (is_path path) old ≡ option_map (λ it. it.0) there) × IfSome there (λ it. tells (Finds path it.0 it.1)) × (new ≡ remove_entry (is_path path) old)

  -- a directory that stays is listed
  abbrev pub IsEntered : List ℕ → ℕ → FileId → Names → Names → Type 0
  IsEntered path node id old new = (entries : List FolderEntry) × tells (Lists path node id entries) × (new ≡ with_names path entries old)

  -- A file of the directory may stay if it has the attributes and is not yet a file of the tree. Then
  -- its bytes are compared.
  abbrev pub MayStay : Bool → List ℕ → ℕ → FoundFile → FirstPaths → Option SameFile → Type 0
  MayStay given path node file kept same =
      ((same ≡ None) × ((given ≡ false) ⊎ IsSome (kept file.facts.id)))
      ⊎ ((left : Option (List ℕ)) × (same ≡ Some (record { found = file; left = left })) × (given ≡ true) × (kept file.facts.id ≡ None) × tells (Holds path node file.facts.id left))

-- the next bytes of the file that is requested: the one that is there stays only if it has them too
abbrev pub GoesOn : List ℕ → Option SameFile → Option SameFile → Type 0
GoesOn bytes None new = new ≡ None
GoesOn bytes (Some file) new =
    ((left : Option (List ℕ)) × Consumes file.left left bytes × (new ≡ Some (record { found = file.found; left = left }))) ⊎ (AreOthers file.left bytes × (new ≡ None))

abbrev pub OpenGoesOn : List ℕ → Option Opening → Option Opening → Type 0
OpenGoesOn bytes None new = new ≡ None
OpenGoesOn bytes (Some opening) new = (same : Option SameFile) × GoesOn bytes opening.same same × (new ≡ Some (record { step = opening.step; same = same }))

-- the file that is there does not stay: it has another time or more bytes, or was found to be another
abbrev pub IsAnother : Option Timestamp → Option SameFile → Type 0
IsAnother time None = Unit {0}
IsAnother time (Some file) = (is_timed time file.found.given.time ≡ false) ⊎ HasMore file.left

module _ (tells : Told → Type 0) (wishes : Wishes) where
  -- Nothing is there, or something of another kind, which is removed with its contents. That has to
  -- be wished.
  abbrev pub IsCleared : (Found → Type 0) → List ℕ → Option (ℕ × Found) → List Step → Type 0
  IsCleared IsOther path there removals =
      ((there ≡ None) × (removals ≡ []))
      ⊎ ((node : ℕ) × (found : Found) × (there ≡ Some (node, found)) × IsOther found × (wishes.removes ≡ true) × Removes tells (record { path = path; node = node }) removals)

  -- It is added when what is there is cleared.
  abbrev pub IsAdded : (Found → Type 0) → Thing → List ℕ → Option (ℕ × Found) → List Step → Type 0
  IsAdded IsOther thing path there more = (removals : List Step) × IsCleared IsOther path there removals × (more ≡ removals ++ one_step Add thing path)

  -- A directory that is there is listed. It is changed if its attributes are to be others.
  abbrev pub FolderStays : List ℕ → Attributes → Option (ℕ × Found) → Names → List Step → Names → Type 0
  FolderStays path wanted there names more after =
      (node : ℕ) × (folder : FoundFolder) × (there ≡ Some (node, found.Folder folder)) × (more ≡ change_unless (are_given wishes wanted folder.attributes) things.Folder path)
      × IsEntered tells path node folder.id names after

  -- a directory is requested
  abbrev pub ComparesFolder : List ℕ → Attributes → Comparison → Comparison → Type 0
  ComparesFolder path wanted old new =
      (there : Option (ℕ × Found)) × (names : Names) × (more : List Step) × (after : Names) × IsThere tells path old.names there names
      × (FolderStays path wanted there names more after ⊎ (IsAdded IsNoFolder things.Folder path there more × (after ≡ names)))
      × (new ≡ record old { names = after; steps = old.steps ++ more })

  -- a file that is there may stay, and is changed if it does not
  abbrev pub FileMayStay : List ℕ → Attributes → Option (ℕ × Found) → FirstPaths → List Step → Opening → Type 0
  FileMayStay path wanted there kept more opening =
      (node : ℕ) × (file : FoundFile) × (there ≡ Some (node, found.File file)) × (more ≡ []) × (opening.step ≡ record { act = Change; thing = things.File; path = path })
      × MayStay tells (are_given wishes wanted file.given.attributes) path node file kept opening.same

  -- a file is requested
  abbrev pub ComparesOpen : List ℕ → Attributes → Comparison → Comparison → Type 0
  ComparesOpen path wanted old new =
      (there : Option (ℕ × Found)) × (names : Names) × (more : List Step) × (opening : Opening) × IsThere tells path old.names there names
      × (FileMayStay path wanted there old.kept more opening
      ⊎ (IsCleared IsNoFile path there more × (opening ≡ record { step = record { act = Add; thing = things.File; path = path }; same = None })))
      × (new ≡ record old { names = names; steps = old.steps ++ more; opening = Some opening })

  -- the file that is there stays: all of it is the same
  abbrev pub CloseStays : Option Timestamp → Opening → Comparison → Comparison → Type 0
  CloseStays time opening old new =
      (file : SameFile) × (opening.same ≡ Some file) × (is_timed time file.found.given.time ≡ true) × IsAtEnd file.left
      × (new ≡ record old { opening = None; kept = with_kept file.found.facts opening.step.path old.kept })

  -- the file that is requested takes its step
  abbrev pub CloseChanges : Option Timestamp → Opening → Comparison → Comparison → Type 0
  CloseChanges time opening old new = IsAnother time opening.same × (new ≡ record old { opening = None; steps = old.steps ++ opening.step ∷ [] })

  -- the file that is requested is complete
  abbrev pub ComparesClose : Option Timestamp → Comparison → Comparison → Type 0
  ComparesClose time old new = (opening : Opening) × (old.opening ≡ Some opening) × (CloseStays time opening old new ⊎ CloseChanges time opening old new)

  -- A further name of what has its first name stays, and that of something else is changed.
  abbrev pub LinkStays : List ℕ → List ℕ → Option (ℕ × Found) → Bool → FirstPaths → List Step → Type 0
  LinkStays first path there is_linking kept more =
      (node : ℕ) × (here : Found) × (facts : FileFacts) × (same : Bool) × (there ≡ Some (node, here)) × (linked here is_linking ≡ Some facts)
      × (IsTrue same → kept facts.id ≡ Some first) × (IsFalse same → kept facts.id ≢ Some first) × (more ≡ change_unless same things.Link path)

  -- a further name is requested
  abbrev pub ComparesLink : List ℕ → List ℕ → Comparison → Comparison → Type 0
  ComparesLink first path old new =
      (there : Option (ℕ × Found)) × (names : Names) × (more : List Step) × IsThere tells path old.names there names
      × (LinkStays first path there old.is_linking old.kept more ⊎ IsAdded (λ here. linked here old.is_linking ≡ None) things.Link path there more)
      × (new ≡ record old { names = names; steps = old.steps ++ more })

  -- A symbolic link stays if it leads to the same and is not yet one of the tree, and else is changed.
  abbrev pub SymlinkStays : List ℕ → List ℕ → Option (ℕ × Found) → FirstPaths → List Step → FirstPaths → Type 0
  SymlinkStays to path there kept more after =
      (node : ℕ) × (facts : FileFacts) × (held : List ℕ) × (there ≡ Some (node, found.Symlink facts)) × tells (Leads path node facts.id held)
      × (((held ≡ to) × (kept facts.id ≡ None) × (more ≡ []) × (after ≡ with_kept facts path kept))
      ⊎ (((held ≢ to) ⊎ IsSome (kept facts.id)) × (more ≡ one_step Change things.Symlink path) × (after ≡ kept)))

  -- a symbolic link is requested
  abbrev pub ComparesSymlink : List ℕ → List ℕ → Comparison → Comparison → Type 0
  ComparesSymlink to path old new =
      (there : Option (ℕ × Found)) × (names : Names) × (more : List Step) × (after : FirstPaths) × IsThere tells path old.names there names
      × (SymlinkStays to path there old.kept more after ⊎ (IsAdded IsNoSymlink things.Symlink path there more × (after ≡ old.kept)))
      × (new ≡ record old { names = names; steps = old.steps ++ more; kept = after; is_linking = true })

  -- what was not requested is removed, if that is wished
  abbrev pub RemovesRest : Names → List Step → Names → Type 0
  RemovesRest old removals new =
      ((wishes.removes ≡ true) × RemovesNames tells old removals × (new ≡ [])) ⊎ ((wishes.removes ≡ false) × (removals ≡ []) × (new ≡ old))

  -- the tree is complete, and its root has these attributes
  abbrev pub ComparesFinish : Attributes → Comparison → Comparison → Type 0
  ComparesFinish wanted old new =
      (top : FoundFolder) × (names : Names) × (removals : List Step) × (old.top ≡ Some top) × RemovesRest old.names removals names
      × (new ≡ record old { names = names; steps = old.steps ++ (removals ++ change_unless (are_given wishes wanted top.attributes) things.Folder []) })

  -- the root of the directory is listed
  abbrev pub ComparesStart : Comparison → Comparison → Type 0
  ComparesStart old new =
      (top : FoundFolder) × (names : Names) × tells (Finds [] ROOT (found.Folder top)) × IsEntered tells [] ROOT top.id old.names names
      × (new ≡ record old { names = names; top = Some top })

  -- one request for something that the tree has
  abbrev pub Compares : Comparison → Asked → Comparison → Type 0
  Compares old Start new = ComparesStart old new
  Compares old (Folder path wanted) new = ComparesFolder path wanted old new
  Compares old (Open path wanted) new = ComparesOpen path wanted old new
  Compares old (Piece bytes) new = (opening : Option Opening) × OpenGoesOn bytes old.opening opening × (new ≡ record old { opening = opening })
  Compares old (Close time) new = ComparesClose time old new
  Compares old (Link first path) new = ComparesLink first path old new
  Compares old (Symlink to path) new = ComparesSymlink to path old new
  Compares old (Finish wanted) new = ComparesFinish wanted old new
  Compares old GiveUp new = new ≡ old

  -- These are the steps to a tree that a source describes: those of a comparison with each thing that
  -- the tree has, in the order of a copy. At its begin nothing is known.
  abbrev pub ComparesTree : CopyLimits → (Told → Type 0) → List Step → Type 0
  ComparesTree limits tree steps =
      (last : Comparison) × (last.steps ≡ steps)
      × Copies limits tree Compares fresh last
