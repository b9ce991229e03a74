-- The result of a copy: the places that were visited, and the requests to the target at each.
use Rattle.std.specs.Prelude.{◌≡◌, ◌⊎◌, ◌<◌, ◌≤◌, ℕ, false, List, [], ◌∷◌, ◌++◌, map, length, Option, None, Some}
use Rattle.std.specs.List.{concat, flat_map}
use Rattle.ft_cells.specs.declared.attributes.Attributes.{Attributes}
use Rattle.ft_path.specs.declared.TheConstants.{LONGEST_PATH}
use Rattle.ft_copy.specs.declared.found.TheConstants.{ROOT}
use Rattle.ft_copy.specs.declared.found.FileFacts.{FileFacts}
use Rattle.ft_copy.specs.declared.found.FileId.{FileId}
use Rattle.ft_copy.specs.declared.found.FoundFile.{FoundFile}
use Rattle.ft_copy.specs.declared.found.FoundFolder.{FoundFolder}
use Rattle.ft_copy.specs.declared.found.Given.{Given}
use Rattle.ft_copy.specs.declared.found.Found.{Found}
use Rattle.ft_copy.specs.declared.found.Found.TheVariants as found
use Rattle.ft_copy.specs.declared.found.MetLink.{MetLink}
use Rattle.ft_copy.specs.declared.found.CopyPath.{CopyPath}
use Rattle.ft_copy.specs.declared.limits.CopyLimits.{CopyLimits}
use Rattle.ft_copy.specs.declared.copy_fault.CopyFault.{CopyFault}
use Rattle.ft_copy.specs.Kept.{kept_attributes, kept_given}
use Rattle.ft_copy.specs.Told.{Told, Finds, Leads, Omits}
use Rattle.ft_copy.specs.Asked.{Asked, Start, Folder, Open, Piece, Close, Link, Symlink, Finish, GiveUp, DoesAll, IsUnfinished}
use Rattle.ft_copy.specs.Walks.{Enters, IsRead, ArePieces, PutsOff, Standing, is_dotted, nothing, with_first}

-- ---- visits

-- What was done at a place.
pub data Visit : Type 0 where
  OfFolder : (path : List ℕ) → (attributes : Attributes) → Visit
  OfFile : (path : List ℕ) → (given : Given) → (pieces : List (List ℕ)) → Visit
  OfFurther : (first : List ℕ) → (path : List ℕ) → Visit
  OfSymlink : (to : List ℕ) → (path : List ℕ) → Visit
  OfNothing : Visit

-- the requests that make a file of these pieces, and give it this
abbrev pub made : List ℕ → Given → List (List ℕ) → List Asked
made path given pieces = Open path given.attributes ∷ map Piece pieces ++ Close given.time ∷ []

-- the requests to the target at a visit
abbrev pub asked_of : Visit → List Asked
asked_of (OfFolder path attributes) = Folder path attributes ∷ []
asked_of (OfFile path given pieces) = made path given pieces
asked_of (OfFurther first path) = Link first path ∷ []
asked_of (OfSymlink to path) = Symlink to path ∷ []
asked_of OfNothing = []

-- a file or a symbolic link is noted if it may be met again, and was not met yet
abbrev pub IsNoted : FileFacts → List ℕ → Standing → Standing → Type 0
IsNoted facts path old new =
    ((facts.links ≤ 1) × (new ≡ old))
    ⊎ ((1 < facts.links) × (old.firsts facts.id ≡ None) × (new ≡ record { left = old.left; links = old.links; firsts = with_first facts.id path old.firsts }))

-- a file or a symbolic link gets a further name if it is met again
abbrev pub IsFurtherName : CopyPath → FileFacts → Standing → Visit → Standing → Type 0
IsFurtherName place facts old visit new =
    (first : List ℕ) × (visit ≡ OfFurther first place.path) × (1 < facts.links) × (old.firsts facts.id ≡ Some first) × (new ≡ old)

module _ (limits : CopyLimits) (tells : Told → Type 0) where
  -- A file is made when it is met first. It is given what it has, as far as that may be copied.
  abbrev pub IsFirstName : CopyPath → FoundFile → Standing → Visit → Standing → Type 0
  IsFirstName place file old visit new =
      (pieces : List (List ℕ)) × (visit ≡ OfFile place.path (kept_given limits file.given) pieces) × IsRead tells place.path place.node file.facts.id pieces
      × (length (concat pieces) ≤ limits.file_size) × IsNoted file.facts place.path old new

  -- A visit of a file, which is within the limits.
  abbrev pub IsFileVisit : CopyPath → FoundFile → Standing → Visit → Standing → Type 0
  IsFileVisit place file old visit new =
      (file.facts.links ≤ limits.links) × (file.facts.size ≤ limits.file_size)
      × (IsFirstName place file old visit new ⊎ IsFurtherName place file.facts old visit new)

  -- A visit of what was found: exactly that was listed or read. A directory gets its own
  -- attributes, as far as they may be copied. A symbolic link is put off.
  abbrev pub IsVisitOf : CopyPath → Found → Standing → Visit → Standing → Type 0
  IsVisitOf place (found.Folder folder) old visit new =
      (visit ≡ OfFolder place.path (kept_attributes limits folder.attributes)) × Enters tells place.path place.node folder.id old new
  IsVisitOf place (found.File file) old visit new = IsFileVisit place file old visit new
  IsVisitOf place (found.Symlink facts) old visit new = (visit ≡ OfNothing) × PutsOff place facts old new
  IsVisitOf place found.Special old visit new = (visit ≡ OfNothing) × tells (Omits place.path) × (new ≡ old)

  -- A visit of a place. Its path does not lead elsewhere, and is not too long.
  abbrev pub IsVisit : CopyPath → Standing → Visit → Standing → Type 0
  IsVisit place old visit new =
      (is_dotted place.path ≡ false) × (length place.path ≤ LONGEST_PATH)
      × ((found : Found) × tells (Finds place.path place.node found) × IsVisitOf place found old visit new)

  -- One visit after another, each of the place that is next.
  abbrev pub WalksTo : Standing → List Visit → Standing → Type 0
  WalksTo old [] new = new ≡ old
  WalksTo old (visit ∷ visits) new =
      (rest : List CopyPath) × (place : CopyPath) × (next : Standing) × (old.left ≡ rest ++ place ∷ [])
      × IsVisit place (record { left = rest; links = old.links; firsts = old.firsts }) visit next × WalksTo next visits new

  -- A symbolic link is made when it is met first, with the target that the source reports.
  abbrev pub IsFirstLink : MetLink → Standing → Visit → Standing → Type 0
  IsFirstLink link old visit new =
      (to : List ℕ) × (visit ≡ OfSymlink to link.place.path) × tells (Leads link.place.path link.place.node link.facts.id to) × IsNoted link.facts link.place.path old new

  -- A symbolic link that was met is made, or gets a further name. It has no more names than
  -- allowed.
  abbrev pub IsLinkVisit : MetLink → Standing → Visit → Standing → Type 0
  IsLinkVisit link old visit new =
      (link.facts.links ≤ limits.links) × (IsFirstLink link old visit new ⊎ IsFurtherName link.place link.facts old visit new)

  -- The symbolic links that were met are made one after another, each time the first that is left.
  abbrev pub LinksTo : Standing → List Visit → Standing → Type 0
  LinksTo old [] new = new ≡ old
  LinksTo old (visit ∷ visits) new =
      (link : MetLink) × (more : List MetLink) × (next : Standing) × (old.links ≡ link ∷ more)
      × IsLinkVisit link (record { left = old.left; links = more; firsts = old.firsts }) visit next × LinksTo next visits new

module _ {T : Type 0} (does : T → Asked → T → Type 0) where
  -- the target appended all that a reader had left to the open file, at most this many bytes
  abbrev pub Pours : ℕ → Option (List ℕ) → T → T → Type 0
  Pours most left old new = (pieces : List (List ℕ)) × ArePieces left pieces × (length (concat pieces) ≤ most) × DoesAll does old (map Piece pieces) new

module _ {T : Type 0} (tells : Told → Type 0) (does : T → Asked → T → Type 0) where
  -- the root is this directory, the target has started, and the root is entered
  abbrev pub Begins : FoundFolder → Standing → Standing → T → T → Type 0
  Begins top walk next old new = tells (Finds [] ROOT (found.Folder top)) × does old Start new × Enters tells [] ROOT top.id walk next

module _ {T : Type 0} (tells : Told → Type 0) (does : T → Asked → T → Type 0) where
  -- the target made a symbolic link with the target that the source reports
  abbrev pub CopiesLink : List ℕ → ℕ → FileId → T → T → Type 0
  CopiesLink path node id old new = (to : List ℕ) × tells (Leads path node id to) × does old (Symlink to path) new

  -- so it did of a link that was met
  abbrev pub CopiesMet : MetLink → T → T → Type 0
  CopiesMet link old new = CopiesLink link.place.path link.place.node link.facts.id old new

module _ {T : Type 0} (limits : CopyLimits) (tells : Told → Type 0) (does : T → Asked → T → Type 0) where
  -- the target made a file of what can be read from the source's file, and gave it this
  abbrev pub CopiesFile : CopyPath → FileId → Given → T → T → Type 0
  CopiesFile place id given old new =
      (pieces : List (List ℕ)) × IsRead tells place.path place.node id pieces × (length (concat pieces) ≤ limits.file_size)
      × DoesAll does old (made place.path given pieces) new

  -- so it did of this file, and gave it what may be copied of what was found
  abbrev pub CopiesFound : CopyPath → FoundFile → T → T → Type 0
  CopiesFound place file old new = CopiesFile place file.facts.id (kept_given limits file.given) old new

  -- a file was visited, and the target did what was requested
  abbrev pub VisitsFile : CopyPath → FoundFile → Standing → Standing → T → T → Type 0
  VisitsFile place file walk next old new = (visit : Visit) × IsFileVisit limits tells place file walk visit next × DoesAll does old (asked_of visit) new

  -- a place was visited, whatever is there, and the target did what was requested
  abbrev pub Visits : CopyPath → Standing → Standing → T → T → Type 0
  Visits place walk next old new = (visit : Visit) × IsVisit limits tells place walk visit next × DoesAll does old (asked_of visit) new

  -- all places that were left were visited
  abbrev pub VisitsAll : Standing → Standing → T → T → Type 0
  VisitsAll walk walked old new =
      (visits : List Visit) × WalksTo limits tells walk visits walked × (walked.left ≡ []) × DoesAll does old (flat_map asked_of visits) new

  -- a symbolic link was made, or got a further name
  abbrev pub MakesLink : MetLink → Standing → Standing → T → T → Type 0
  MakesLink link walk next old new = (visit : Visit) × IsLinkVisit limits tells link walk visit next × DoesAll does old (asked_of visit) new

  -- all symbolic links that were met were made
  abbrev pub MakesLinks : Standing → T → T → Type 0
  MakesLinks walk old new =
      (links : List Visit) × (done : Standing) × LinksTo limits tells walk links done × (done.links ≡ []) × DoesAll does old (flat_map asked_of links) new

  -- A whole tree was copied. The visits agree with the reports of the source. They began at the
  -- root, and each place was visited in its turn until none was left. Then the symbolic links that
  -- were met were visited, until none was left. Between its start and its finish the target got
  -- exactly the requests of these visits. At the finish it got the root's attributes, as far as
  -- they may be copied.
  pub record Copies (old new : T) : Type 0 where
    pub top : FoundFolder
    pub begun : Standing
    pub visits : List Visit
    pub walked : Standing
    pub links : List Visit
    pub done : Standing
    pub folder : tells (Finds [] ROOT (found.Folder top))
    pub root : Enters tells [] ROOT top.id nothing begun
    pub walk : WalksTo limits tells begun visits walked
    pub all : walked.left ≡ []
    pub last : LinksTo limits tells walked links done
    pub all_links : done.links ≡ []
    pub did : DoesAll does old (Start ∷ flat_map asked_of visits ++ flat_map asked_of links ++ Finish (kept_attributes limits top.attributes) ∷ []) new

module _ {T : Type 0} (does : T → Asked → T → Type 0) (fails : T → Asked → CopyFault → T → Type 0) where
  -- A target did some things, and then nothing more, or failed at one. It was not asked to finish
  -- before that.
  abbrev pub Reaches : T → T → Type 0
  Reaches old new =
      (front : List Asked) × (middle : T) × IsUnfinished front × DoesAll does old front middle
      × ((new ≡ middle) ⊎ ((asked : Asked) × (trouble : CopyFault) × fails middle asked trouble new))

  -- A target did some things, and then nothing more, or failed at one, and then it gave up.
  abbrev pub GivesUp : T → T → Type 0
  GivesUp old new = (middle : T) × Reaches old middle × does middle GiveUp new
